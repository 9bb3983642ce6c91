-- What an accepted text gives: constants few enough for their area, and its sheet. Assumes nothing.
use Rattle.std.proofs.Common.{◌≡◌, ℕ, ◌≤◌, Bool, true, false, cond, ◌||◌, List, length, Some, None, Option, sym, ap, ◌∙◌, arith}
use Rattle.std.proofs.lemmas.Bool.{false≢true}
use Rattle.constants.specs.Constants.{sheet_symbols}
use Rattle.constants.proofs.Accepted.{accepted_symbols}
use Rattle.sheets.specs.declared.fault.Cause.{Cause}
use Rattle.sheets.specs.declared.fault.Refusal.{Refusal}
use Rattle.sheets.specs.declared.outline.Outline.{Outline}
use Rattle.sheets.specs.Labels.{nowhere, brought, text_refusal}
use Rattle.sheets.specs.LineFaults.{Brought, carried, Limited}
use Rattle.sheets.specs.Tallies.{counts}
use Rattle.tables.specs.declared.row.Next.{Next}
use Rattle.tables.specs.declared.sheet.NameTable.{NameTable}
use Rattle.tables.specs.declared.sheet.Sheet.{Sheet}
use Rattle.rows.specs.declared.naming.Naming.{Naming}
use Rattle.rows.specs.Namings.{names_of, labels_of}
use Rattle.load.specs.Names.{name_table}
use Rattle.load.specs.Starts.{text_start}
use Rattle.load.specs.Tables.{sheet_of}

pub few_symbols : {X : Type 0} (meant : List ℕ → Option X) (wide : ℕ) (text : List ℕ) (o : Outline) → text_refusal (counts meant wide) text ≡ None
    → carried text o.names o.labels o.carried ≡ brought (counts meant wide) text → Limited o.carried → length (sheet_symbols meant wide text) ≤ 4096
few_symbols meant wide text o accepted same limited =
    let r = accepted_symbols meant wide text accepted in
    let s : o.carried.symbols ≡ (brought (counts meant wide) text).symbols = ap (λ (b : Brought). b.symbols) same in
    let l = limited.symbols in
    omega (arith, r, s, l)

-- both areas are large enough, and nothing is wrong with the text
pub accepted_load : (a b : Bool) (o : Option Refusal) → a ≡ false → b ≡ false → o ≡ None → cond (a || b) (Some (nowhere Cause.ShortArea)) o ≡ None
accepted_load true b o p q e = absurd (false≢true (sym p))
accepted_load false true o p q e = absurd (false≢true (sym q))
accepted_load false false o p q e = e

module _ {X : Type 0} (meant : List ℕ → Option X) (wide : ℕ) (text : List ℕ) (o : Outline)
    (same : carried text o.names o.labels o.carried ≡ brought (counts meant wide) text) (n : Naming)
    (texts : n.text.now ≡ text) (names : names_of n ≡ (carried text o.names o.labels o.carried).names) (labels : labels_of n ≡ (carried text o.names o.labels o.carried).labels) where
  pub sheet_is : (constants : ℕ) (ns : NameTable) (start : Next) → constants ≡ length (sheet_symbols meant wide text) → ns ≡ name_table (names_of n)
      → start ≡ text_start (labels_of n) n.text.now
      → ◌≡◌ {A = Sheet} (record { statements = o.carried.statements; constants = constants; names = ns; start = start }) (sheet_of meant wide text)
  sheet_is constants ns start c e s =
      let a : o.carried.statements ≡ (brought (counts meant wide) text).statements = ap (λ (b : Brought). b.statements) same in
      let d : ns ≡ name_table (brought (counts meant wide) text).names = e ∙ ap name_table (names ∙ ap (λ (b : Brought). b.names) same) in
      let f : start ≡ text_start (brought (counts meant wide) text).labels text =
      s ∙ ap (text_start (labels_of n)) texts ∙ ap (λ (ws : List (List ℕ)). text_start ws text) (labels ∙ ap (λ (b : Brought). b.labels) same) in
      cc
