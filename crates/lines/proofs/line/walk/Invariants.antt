use Rattle.std.proofs.Common.{◌≡◌, ◌+◌, drop}
use Rattle.lines.specs.Next.{beginning}
use Rattle.lines.proofs.Walk.{walk, lands}
use Rattle.lines.proofs.line.walk.Given as goal

abbrev pub invariant-loop-i : goal.invariant-loop-i
invariant-loop-i l =
    (walk beginning l.line ≡ l.i + walk l.reading (drop l.i l.line))
    × (lands beginning l.line ≡ lands l.reading (drop l.i l.line))
