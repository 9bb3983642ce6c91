use Rattle.std.proofs.Common.{◌≡◌, ◌+◌, min, length}
use Rattle.lines.specs.Walks.{lines_left}
use Rattle.bench_session.specs.Input.{sheet_length, sheet_end}
use Rattle.bench_session.proofs.input.sheet_end.Given as goal

abbrev pub invariant-loop-line : goal.invariant-loop-line
invariant-loop-line l =
    (l.line-iterator.text.now ≡ l.text)
    × (sheet_end l.text ≡ min (l.line-iterator.from + sheet_length (lines_left l.line-iterator)) (length l.text))
