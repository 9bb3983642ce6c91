use Rattle.std.proofs.Common.{◌≡◌, drop}
use Rattle.placings.specs.Enumeration.{same_parts}
use Rattle.scan.proofs.part.equal.Given as goal

abbrev pub invariant-loop-i : goal.invariant-loop-i
invariant-loop-i g l = same_parts g.K.Kind.equal l.a l.b ≡ same_parts g.K.Kind.equal (drop l.i l.a) (drop l.i l.b)
