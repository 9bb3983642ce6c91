use Rattle.std.proofs.Common.{◌≡◌, ◌*◌, ◌≤◌, min, sum_by, take}
use Rattle.packed.proofs.total.Given as goal

abbrev pub invariant-loop-length : goal.invariant-loop-length
invariant-loop-length l = (l.sum ≤ l.length-index * 65536) × (l.sum ≡ sum_by (λ x. min x l.longest) (take l.length-index l.table))
