use Rattle.scan.proofs.Resuming.{Returning}
use Rattle.scan.proofs.search.Search.retreat.Given as goal

abbrev pub invariant-loop-i : goal.invariant-loop-i
invariant-loop-i g l = Returning g.K.Kind.equal (g.K.Kind.acts l.self.kind.now) l.self.subject.now l.self.elements.now l.initial.rows l.from l.rows l.i

abbrev pub decreases-loop-i : goal.decreases-loop-i
decreases-loop-i g l = l.i
