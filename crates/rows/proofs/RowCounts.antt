-- An accepted text has a row for each statement. Assumes nothing.
use Rattle.std.proofs.Common.{◌≡◌, ℕ, ◌+◌, Bool, true, false, cond, not, ◌&&◌, ◌||◌, List, [], ◌∷◌, ◌++◌, length, None, Option, Result, refl, ap, ◌∙◌, arith}
use Rattle.lines.specs.declared.token.Token.{Token}
use Rattle.lines.specs.Lines.{idle}
use Rattle.symbols.specs.declared.fault.TextFault.{TextFault}
use Rattle.constants.specs.Constants.{line_symbols}
use Rattle.sheets.specs.declared.fault.Cause.{Cause}
use Rattle.sheets.specs.declared.fault.Fault.{Fault}
use Rattle.sheets.specs.Faults.{fault, first}
use Rattle.sheets.specs.Labels.{brought, text_refusal}
use Rattle.sheets.specs.LineFaults.{Brought, no_statement, extra_statement, second_label, labelled_end, line_faults, with_statement, with_line}
use Rattle.rows.specs.Rows.{has_row, line_row, rows_from}
use Rattle.sheets.specs.Sheets.{lines_of}
use Rattle.sheets.specs.Sheets.{nothing, lines_refusal, brought_by}
use Rattle.sheets.specs.Tallies.{counts}
use Rattle.sheets.proofs.Accepted.{refused_none, form_none, accepted_lines}
use Rattle.rows.proofs.RowPuts.{one_or_none, length_front}

module _ (reads : List ℕ → Result ℕ TextFault) (n : Brought) (l : List ℕ) (faultless : first (line_faults reads n l) ≡ None) where
  abbrev form : List Fault
  form = (no_statement l ++ extra_statement n.statements l) ++ second_label n.labels l

  one_statement : (b : Bool) → n.statements + one_or_none (not b) ≡ cond b n.statements (n.statements + 1)
  one_statement true = omega arith
  one_statement false = refl

  -- a line without fault adds a statement just if it has a row
  step : n.statements + one_or_none (has_row l) ≡ (with_line reads n l).statements
  unfolding with_line
  step = go (idle l) n.ended (form_none reads n l faultless)
    where
      go : (i d : Bool) → first (cond i [] (cond d (fault 1 Cause.End ∷ []) form)) ≡ None
          → n.statements + one_or_none (not i && not (labelled_end l)) ≡ (cond (i || d) n (with_statement reads n l)).statements
      go true d f = omega arith
      go false true f = absurd (let z : ◌≡◌ {A = ℕ} 0 1 = cc in omega arith)
      go false false f = one_statement (labelled_end l)

module _ {L X : Type 0} (labelled : ℕ → List ℕ → Token → L) (meant : List ℕ → Option X) (wide : ℕ) (names labels : List (List ℕ)) where
  abbrev reads : List ℕ → Result ℕ TextFault
  reads = counts meant wide

  rows_count : (k from at : ℕ) (n : Brought) (ls : List (List ℕ))
      → lines_refusal reads k n ls ≡ None → n.statements + length (rows_from labelled meant wide names labels from at ls) ≡ (brought_by reads n ls).statements
  unfolding lines_refusal rows_from brought_by
  rows_count k from at n [] e = omega arith
  rows_count k from at n (l ∷ ls) e =
      let p = refused_none (first (line_faults reads n l)) k (lines_refusal reads (k + 1) (with_line reads n l) ls) e in
      let at₁ : ℕ = at + length (line_symbols meant wide l) in
      let f = length_front (has_row l) (line_row labelled meant wide names labels from at l) (rows_from labelled meant wide names labels ((from + length l) + 1) at₁ ls) in
      let s = step reads n l p.0 in
      let r = rows_count (k + 1) ((from + length l) + 1) at₁ (with_line reads n l) ls p.1 in
      ap (λ (x : ℕ). n.statements + x) f ∙ omega (arith, s, r)

pub accepted_rows : {L X : Type 0} (labelled : ℕ → List ℕ → Token → L) (meant : List ℕ → Option X) (wide : ℕ) (text : List ℕ) → text_refusal (counts meant wide) text ≡ None
    → (names labels : List (List ℕ)) → length (rows_from labelled meant wide names labels 0 0 (lines_of text)) ≡ (brought (counts meant wide) text).statements
accepted_rows labelled meant wide text ok names labels =
    let r = rows_count labelled meant wide names labels 1 0 0 nothing (lines_of text) (accepted_lines (counts meant wide) text ok) in omega (arith, r)
