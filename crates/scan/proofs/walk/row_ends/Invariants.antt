use Rattle.std.proofs.Common.{◌≡◌, take}
use Rattle.scan.specs.Answers.{eight}
use Rattle.scan.specs.Left.{ends}
use Rattle.scan.proofs.walk.row_ends.Given as goal

abbrev pub invariant-loop-i : goal.invariant-loop-i
invariant-loop-i l = l.all ≡ eight (take l.i (ends l.rows))
