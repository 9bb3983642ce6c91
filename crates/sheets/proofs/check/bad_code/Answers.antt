use Rattle.std.proofs.Common.{◌≡◌, ℕ, ◌<◌, true, false, get_or, length, sym, ◌∙◌, ap, rules, arith, Some}
use Rattle.sheets.specs.declared.fault.Cause.{Cause}
use Rattle.sheets.specs.Faults.{fault}
use Rattle.sheets.proofs.Codes.{outside, codes_first, codes_none}
use Rattle.sheets.proofs.check.bad_code.Goals as goal

pub returns-in_err-at : goal.returns-in_err-at
returns-in_err-at c =
    let good : (j : ℕ) → j < length c.args.line.now → outside (get_or c.args.line.now j 0) ≡ false = search rules in
    rw c.from_residual.ensures (sym (codes_none 1 c.args.line.now good))

pub returns : goal.returns
returns c =
    let lt : c.in_ok-at.at < length c.args.line.now = search rules in
    let good : (j : ℕ) → j < c.in_ok-at.at → outside (get_or c.args.line.now j 0) ≡ false = search rules in
    let bad : outside (get_or c.args.line.now c.in_ok-at.at 0) ≡ true = search rules in
    ap (λ (m : ℕ). Some (fault m Cause.BadCode)) (omega arith) ∙ sym (codes_first 1 c.args.line.now c.in_ok-at.at lt good bad)
