use Rattle.scan.proofs.Walking.{Walking}
use Rattle.scan.proofs.search.Search.from_start.Given as goal

abbrev pub invariant-loop-end : goal.invariant-loop-end
invariant-loop-end g l = Walking g.K.Kind.equal (g.K.Kind.acts l.self.kind.now) l.self.subject.now l.self.constants.now l.self.elements.now l.start l.trials l.rows l.i l.begin l.left

abbrev pub decreases-loop-end : goal.decreases-loop-end
decreases-loop-end g l = l.left
