use Rattle.std.proofs.Common.{◌≡◌, ℕ, ◌-◌, take, ap, arith}
use Rattle.lines.specs.Tokens.{tokens}
use Rattle.sheets.specs.LineFaults.{label, label_size}
use Rattle.sheets.proofs.check.label.Goals as goal

pub returns : goal.returns
unfolding label
returns c =
    let v = c.label_size-size.ensures.value in
    let e : c.label_size-size.result - 0 ≡ label_size (tokens c.args.line.now) = omega (arith, v) in
    ap (λ (n : ℕ). take n c.args.line.now) e
