use Rattle.std.proofs.Common.{◌≡◌, ◌+◌, ◌≤◌, length, drop}
use Rattle.stores.specs.Puts.{after_puts, accepted}
use Rattle.stores.proofs.put.put_all.Given as goal

-- the puts still to come leave and accept what all of them do
abbrev pub invariant-loop-put : goal.invariant-loop-put
invariant-loop-put g l =
    (l.count ≤ l.put-index)
    × (after_puts (g.S.Store.held l.store) (drop l.put-index l.puts) ≡ after_puts (g.S.Store.held l.initial.store) l.puts)
    × (l.count + length (accepted (g.S.Store.held l.store) (drop l.put-index l.puts)) ≡ length (accepted (g.S.Store.held l.initial.store) l.puts))
