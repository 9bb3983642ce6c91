-- What an accepted text gives the writer of rows: few enough for their area. Assumes nothing.
use Rattle.std.proofs.Common.{◌≡◌, ℕ, ◌^◌, ◌<◌, ◌≤◌, List, length, None, Option, ap, ◌∙◌, arith}
use Rattle.lines.specs.declared.token.Token.{Token}
use Rattle.sheets.specs.declared.outline.Outline.{Outline}
use Rattle.sheets.specs.Labels.{brought, text_refusal}
use Rattle.sheets.specs.LineFaults.{Brought, carried, Limited}
use Rattle.sheets.specs.Sheets.{lines_of}
use Rattle.sheets.specs.Tallies.{counts}
use Rattle.sheets.proofs.Accepted.{accepted_short}
use Rattle.rows.specs.declared.naming.Naming.{Naming}
use Rattle.rows.specs.Namings.{names_of, labels_of}
use Rattle.rows.specs.Rows.{rows_from}
use Rattle.rows.proofs.RowCounts.{accepted_rows}

module _ {X : Type 0} (meant : List ℕ → Option X) (wide : ℕ) (text : List ℕ) (o : Outline) (accepted : text_refusal (counts meant wide) text ≡ None)
    (same : carried text o.names o.labels o.carried ≡ brought (counts meant wide) text) (limited : Limited o.carried) (n : Naming)
    (texts : n.text.now ≡ text) (names : names_of n ≡ (carried text o.names o.labels o.carried).names) (labels : labels_of n ≡ (carried text o.names o.labels o.carried).labels) where
  abbrev all : Brought
  all = brought (counts meant wide) text

  pub short_text : length n.text.now < 2 ^ 31
  short_text = let s = accepted_short (counts meant wide) text accepted in let e = ap length texts in omega (arith, s, e)

  module _ {L : Type 0} (labelled : ℕ → List ℕ → Token → L) where
    -- the rows as the names and labels of the whole sheet tell them
    pub rows_are : rows_from labelled meant wide (names_of n) (labels_of n) 0 0 (lines_of n.text.now) ≡ rows_from labelled meant wide all.names all.labels 0 0 (lines_of text)
    rows_are =
        ap (λ (t : List ℕ). rows_from labelled meant wide (names_of n) (labels_of n) 0 0 (lines_of t)) texts
        ∙ ap (λ (ws : List (List ℕ)). rows_from labelled meant wide ws (labels_of n) 0 0 (lines_of text)) (names ∙ ap (λ (b : Brought). b.names) same)
        ∙ ap (λ (ws : List (List ℕ)). rows_from labelled meant wide all.names ws 0 0 (lines_of text)) (labels ∙ ap (λ (b : Brought). b.labels) same)

    pub few_rows : length (rows_from labelled meant wide (names_of n) (labels_of n) 0 0 (lines_of n.text.now)) ≤ 128
    few_rows =
        let r = accepted_rows labelled meant wide text accepted all.names all.labels in
        let e = ap length rows_are in
        let s : o.carried.statements ≡ all.statements = ap (λ (b : Brought). b.statements) same in
        let l = limited.statements in
        omega (arith, r, e, s, l)
