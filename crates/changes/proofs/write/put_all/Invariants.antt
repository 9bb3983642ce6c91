use Rattle.changes.specs.Told.{told}
use Rattle.changes.proofs.Passes.{Passed}
use Rattle.changes.proofs.write.put_all.Given as goal

abbrev pub invariant-loop-i : goal.invariant-loop-i
invariant-loop-i g l = Passed (goal.F-post g l.change) (λ s. s.now) (told l.success) (g.S.Store.held l.initial.store) l.i (g.S.Store.held l.store)
