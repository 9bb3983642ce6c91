-- What an accepted text is: not too long, and without a line that has a fault. Assumes nothing.
use Rattle.std.proofs.Common.{◌≡◌, ℕ, ◌≤◌, Bool, true, false, cond, ltb, List, [], length, Some, None, Option, Result, sym, refl, ◌∙◌, arith}
use Rattle.std.proofs.lemmas.Bool.Decides.{nat_tests}
use Rattle.sheets.specs.Sheets.{lines_of}
use Rattle.lines.specs.Tokens.{tokens}
use Rattle.symbols.specs.declared.fault.TextFault.{TextFault}
use Rattle.sheets.specs.declared.fault.Cause.{Cause}
use Rattle.sheets.specs.declared.fault.Fault.{Fault}
use Rattle.sheets.specs.declared.fault.Refusal.{Refusal}
use Rattle.sheets.specs.Faults.{first}
use Rattle.sheets.specs.Labels.{nowhere, or_refused, no_end, brought, lines_unknown, text_refusal}
use Rattle.sheets.specs.LineFaults.{Brought, code_faults, form_faults, own_faults, none_yet, passed, line_faults}
use Rattle.sheets.specs.Sheets.{refused_first, nothing, lines_refusal}
use Rattle.sheets.specs.Tallies.{faults_from}
use Rattle.sheets.proofs.Firsts.{first_append}
use Rattle.sheets.proofs.TokenLaws.{least_none_left, least_none_right}

-- no line is refused, neither the first nor a later one
pub refused_none : (o : Option Fault) (k : ℕ) (r : Option Refusal) → refused_first o k r ≡ None → (o ≡ None) × (r ≡ None)
refused_none None k r e = (refl, e)
refused_none (Some f) k r e = absurd (let z : ◌≡◌ {A = ℕ} 0 1 = cc in omega arith)

-- a line without fault has no fault of its form
pub form_none : (reads : List ℕ → Result ℕ TextFault) (n : Brought) (l : List ℕ) → first (line_faults reads n l) ≡ None
    → first (form_faults n.statements n.labels n.ended l) ≡ None
unfolding line_faults
form_none reads n l p =
    let later : List Fault = cond (passed n l) [] (faults_from reads l (none_yet n) (tokens l)) in
    let own = least_none_left (first (own_faults n l)) (first later) (sym (first_append (own_faults n l) later) ∙ p) in
    least_none_right (first (code_faults l)) (first (form_faults n.statements n.labels n.ended l))
    (sym (first_append (code_faults l) (form_faults n.statements n.labels n.ended l)) ∙ own)

module _ (reads : List ℕ → Result ℕ TextFault) (text : List ℕ) (p : text_refusal reads text ≡ None) where
  later : Option Refusal
  later = or_refused (no_end (brought reads text)) (lines_unknown (brought reads text).labels 1 (lines_of text))

  accepted : (length text ≤ 16384) × (lines_refusal reads 1 nothing (lines_of text) ≡ None)
  unfolding text_refusal later
  accepted = go (ltb 16384 (length text)) refl (lines_refusal reads 1 nothing (lines_of text)) p
    where
      go : (b : Bool) → ltb 16384 (length text) ≡ b → (o : Option Refusal) → cond b (Some (nowhere Cause.TextLong)) (or_refused o later) ≡ None
          → (length text ≤ 16384) × (o ≡ None)
      go true b o e = absurd (let z : ◌≡◌ {A = ℕ} 0 1 = cc in omega arith)
      go false b None e = (grind (arith, nat_tests), refl)
      go false b (Some f) e = (grind (arith, nat_tests), e)

  pub accepted_short : length text ≤ 16384
  accepted_short = accepted.0

  pub accepted_lines : lines_refusal reads 1 nothing (lines_of text) ≡ None
  accepted_lines = accepted.1
