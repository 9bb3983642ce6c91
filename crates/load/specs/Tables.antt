-- What the tables of a sheet hold, and why they are not written. Assumes nothing.
use Rattle.std.specs.Prelude.{ℕ, cond, ◌||◌, List, length, Some, Option, nat_lt}
use Rattle.constants.specs.Constants.{sheet_symbols}
use Rattle.sheets.specs.declared.fault.Cause.{Cause}
use Rattle.sheets.specs.declared.fault.Refusal.{Refusal}
use Rattle.sheets.specs.Labels.{nowhere, brought, text_refusal}
use Rattle.sheets.specs.LineFaults.{Brought}
use Rattle.sheets.specs.Sheets.{lines_of}
use Rattle.sheets.specs.Tallies.{counts}
use Rattle.tables.specs.Rows.{Row}
use Rattle.tables.specs.declared.sheet.Sheet.{Sheet}
use Rattle.rows.specs.Labels.{name_label}
use Rattle.rows.specs.Rows.{rows_from}
use Rattle.load.specs.Names.{name_table}
use Rattle.load.specs.Starts.{text_start}

module _ {X : Type 0} (meant : List ℕ → Option X) (wide : ℕ) where
  -- what the lines of a text bring, its literals read as symbols
  abbrev pub sheet_brought : List ℕ → Brought
  sheet_brought text = brought (counts meant wide) text

  -- areas of under 128 rows or under 4,096 symbols, then what is wrong with the text
  abbrev pub load_refusal : ℕ → ℕ → List ℕ → Option Refusal
  load_refusal rows constants text =
      cond (nat_lt rows 128 || nat_lt constants 4096) (Some (nowhere Cause.ShortArea)) (text_refusal (counts meant wide) text)

  -- a row for each statement, with the numbers that its names and labels have in the whole sheet
  abbrev pub sheet_rows : List ℕ → List Row
  sheet_rows text = rows_from name_label meant wide (sheet_brought text).names (sheet_brought text).labels 0 0 (lines_of text)

  -- how many statements and constant symbols a sheet has, its names, and where it starts
  abbrev pub sheet_of : List ℕ → Sheet
  sheet_of text =
      record {
        statements = (sheet_brought text).statements;
        constants = length (sheet_symbols meant wide text);
        names = name_table (sheet_brought text).names;
        start = text_start (sheet_brought text).labels text;
      }
