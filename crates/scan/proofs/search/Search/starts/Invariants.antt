use Rattle.std.proofs.Common.{◌-◌}
use Rattle.scan.proofs.Searching.{Searching}
use Rattle.scan.proofs.search.Search.starts.Given as goal

abbrev pub invariant-loop-left : goal.invariant-loop-left
invariant-loop-left g l = Searching g.K.Kind.equal (g.K.Kind.acts l.self.kind.now) l.self.subject.now l.self.constants.now l.self.elements.now l.last l.head l.allowance l.start l.left

abbrev pub decreases-loop-left : goal.decreases-loop-left
decreases-loop-left g l = l.last - l.start
