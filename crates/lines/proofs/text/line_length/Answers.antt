use Rattle.std.proofs.Common.{◌≡◌, ℕ, ◌<◌, ◌≢◌, get_or, length, rules}
use Rattle.lines.proofs.Cuts.{length_first}
use Rattle.lines.proofs.text.line_length.Goals as goal

pub returns-clause-value : goal.returns-clause-value
returns-clause-value c =
    let none : (k : ℕ) → k < c.unwrap_or.result → get_or c.args.text.now k 0 ≢ 10 = search rules in
    let found : c.unwrap_or.result < length c.args.text.now → get_or c.args.text.now c.unwrap_or.result 0 ≡ 10 = search rules in
    length_first c.args.text.now c.unwrap_or.result (search rules) none found
