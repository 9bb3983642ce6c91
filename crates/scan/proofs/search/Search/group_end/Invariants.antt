use Rattle.std.proofs.Common.{◌-◌}
use Rattle.scan.proofs.Walks.{Walk}
use Rattle.scan.proofs.search.Search.group_end.Given as goal

abbrev pub invariant-loop-e : goal.invariant-loop-e
invariant-loop-e g l = Walk (g.K.Kind.acts l.self.kind.now) l.self.subject.now l.from l.e l.open

abbrev pub decreases-loop-e : goal.decreases-loop-e
decreases-loop-e g l = l.n - l.e
