-- What a sheet's table holds, and why it is not written. Assumes nothing.
use Rattle.std.specs.Prelude.{ℕ, cond, List, Some, Option, Result, nat_lt}
use Rattle.symbols.specs.declared.fault.TextFault.{TextFault}
use Rattle.sheets.specs.declared.fault.Cause.{Cause}
use Rattle.sheets.specs.declared.fault.Refusal.{Refusal}
use Rattle.sheets.specs.declared.part.Part.{Part}
use Rattle.sheets.specs.Labels.{nowhere, brought, text_refusal}
use Rattle.sheets.specs.Sheets.{lines_of}
use Rattle.sheets.specs.Tallies.{counts}
use Rattle.tables.specs.declared.row.RowOf.{RowOf}
use Rattle.rows.specs.Labels.{part_label}
use Rattle.rows.specs.Rows.{rows_from}

module _ (reads : List ℕ → Result ℕ TextFault) where
  -- an area of under 128 rows, then what is wrong with the text
  abbrev pub table_refusal : ℕ → List ℕ → Option Refusal
  table_refusal room text = cond (nat_lt room 128) (Some (nowhere Cause.ShortArea)) (text_refusal reads text)

module _ {X : Type 0} (meant : List ℕ → Option X) (wide : ℕ) where
  -- a row for each statement, with the numbers that its names and labels have in the whole sheet, and the place of its label
  abbrev pub table_rows : List ℕ → List (RowOf Part)
  table_rows text =
      rows_from part_label meant wide (brought (counts meant wide) text).names (brought (counts meant wide) text).labels 0 0 (lines_of text)
