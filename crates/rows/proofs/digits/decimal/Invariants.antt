use Rattle.std.proofs.Common.{◌≡◌, ◌+◌, ◌-◌, ◌≤◌}
use Rattle.rows.specs.Entries.{decimal}
use Rattle.rows.proofs.Decimals.{read_on, most}
use Rattle.rows.proofs.digits.decimal.Given as goal

abbrev pub invariant-loop-place : goal.invariant-loop-place
invariant-loop-place l =
    (decimal l.line l.at ≡ read_on l.line ((l.at + 4) - l.place) l.number l.place) × (l.number ≤ most (l.place - l.at))
