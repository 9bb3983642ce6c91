use Rattle.std.proofs.Common.{◌≡◌, ◌+◌, ◌≤◌, drop}
use Rattle.stores.specs.Names.{size}
use Rattle.changes.specs.Told.{told}
use Rattle.changes.specs.Limits.{over_longest}
use Rattle.changes.specs.Written.{written}
use Rattle.changes.proofs.after.After.is_over.Given as goal

-- the strings so far are within the limits, and those still to come decide
abbrev pub invariant-loop-i : goal.invariant-loop-i
invariant-loop-i g l =
    let names = written (told l.self.success) (g.S.Store.held l.self.store.now) in
    (l.sum ≤ names.most)
    × (l.sum + size (drop l.i names.strings) ≡ size names.strings)
    × (over_longest names.longest (drop l.i names.strings) ≡ over_longest names.longest names.strings)
