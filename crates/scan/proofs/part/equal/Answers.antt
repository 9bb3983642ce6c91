use Rattle.std.proofs.Common.{sym, ◌∙◌}
use Rattle.scan.proofs.Parts.{same_all}
use Rattle.scan.proofs.part.equal.Goals as goal

pub returns : goal.returns
returns g c = sym (c.loop-i.invariant ∙ same_all g.K.Kind.equal _ _ _ c.loop-i-test.false c.if-a-b.false)
