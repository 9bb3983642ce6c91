-- How many constants an accepted text has. Assumes nothing.
use Rattle.std.proofs.Common.{◌≡◌, ℕ, ◌+◌, Bool, true, false, cond, ◌||◌, List, [], ◌∷◌, ◌++◌, length, None, Option, Result, refl, ap, ◌∙◌, arith}
use Rattle.std.specs.List.{flat_map as joined}
use Rattle.std.proofs.lemmas.List.{length-append}
use Rattle.lines.specs.Lines.{idle}
use Rattle.lines.specs.Tokens.{tokens}
use Rattle.symbols.specs.declared.fault.TextFault.{TextFault}
use Rattle.sheets.specs.declared.fault.Cause.{Cause}
use Rattle.sheets.specs.declared.fault.Fault.{Fault}
use Rattle.sheets.specs.Faults.{fault, first}
use Rattle.sheets.specs.Labels.{brought, text_refusal}
use Rattle.sheets.specs.LineFaults.{Brought, no_statement, extra_statement, second_label, none_yet, line_faults, with_statement, with_line}
use Rattle.sheets.specs.Sheets.{lines_of}
use Rattle.sheets.specs.Sheets.{nothing, lines_refusal, brought_by}
use Rattle.sheets.specs.Tallies.{counts}
use Rattle.sheets.proofs.Accepted.{refused_none, form_none, accepted_lines}
use Rattle.constants.specs.Constants.{line_symbols, sheet_symbols}
use Rattle.constants.proofs.Counts.{tokens_count}
use Rattle.constants.proofs.Idles.{idle_none}

module _ {X : Type 0} (meant : List ℕ → Option X) (wide : ℕ) where
  abbrev reads : List ℕ → Result ℕ TextFault
  reads = counts meant wide

  -- a line without fault adds the symbols of its literals
  line_count : (n : Brought) (l : List ℕ) → first (line_faults reads n l) ≡ None
      → n.symbols + length (line_symbols meant wide l) ≡ (with_line reads n l).symbols
  unfolding with_line
  line_count n l p = go (idle l) n.ended (idle_none meant wide l) (form_none reads n l p)
    where
      form : List Fault
      form = (no_statement l ++ extra_statement n.statements l) ++ second_label n.labels l

      go : (i d : Bool) → (i ≡ true → line_symbols meant wide l ≡ []) → first (cond i [] (cond d (fault 1 Cause.End ∷ []) form)) ≡ None
          → n.symbols + length (line_symbols meant wide l) ≡ (cond (i || d) n (with_statement reads n l)).symbols
      go true d none f = let z = ap length (none refl) in omega (arith, z)
      go false true none f = absurd (let z : ◌≡◌ {A = ℕ} 0 1 = cc in omega arith)
      go false false none f = tokens_count meant wide l (none_yet n) (tokens l)

  lines_count : (k : ℕ) (n : Brought) (ls : List (List ℕ)) → lines_refusal reads k n ls ≡ None
      → n.symbols + length (joined (line_symbols meant wide) ls) ≡ (brought_by reads n ls).symbols
  unfolding lines_refusal brought_by
  lines_count k n [] e = omega arith
  lines_count k n (l ∷ ls) e =
      let p = refused_none (first (line_faults reads n l)) k (lines_refusal reads (k + 1) (with_line reads n l) ls) e in
      let f = length-append (line_symbols meant wide l) (joined (line_symbols meant wide) ls) in
      let s = line_count n l p.0 in
      let r = lines_count (k + 1) (with_line reads n l) ls p.1 in
      let z : n.symbols + length (line_symbols meant wide l ++ joined (line_symbols meant wide) ls)
      ≡ (with_line reads n l).symbols + length (joined (line_symbols meant wide) ls) = omega (arith, f, s) in
      z ∙ r

  -- an accepted text has as many constants as its lines are said to bring
  pub accepted_symbols : (text : List ℕ) → text_refusal (counts meant wide) text ≡ None
      → length (sheet_symbols meant wide text) ≡ (brought (counts meant wide) text).symbols
  accepted_symbols text p =
      let r = lines_count 1 nothing (lines_of text) (accepted_lines reads text p) in
      let z : length (sheet_symbols meant wide text) ≡ 0 + length (sheet_symbols meant wide text) = omega arith in
      z ∙ r
