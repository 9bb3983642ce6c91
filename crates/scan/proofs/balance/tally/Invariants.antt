use Rattle.std.proofs.Common.{◌≡◌, take}
use Rattle.placings.specs.Pattern.{openings, closings}
use Rattle.scan.proofs.balance.tally.Given as goal

abbrev pub invariant-loop-symbol : goal.invariant-loop-symbol
invariant-loop-symbol g l = (l.opened ≡ openings (g.K.Kind.acts l.kind) (take l.symbol-index l.block)) × (l.closed ≡ closings (g.K.Kind.acts l.kind) (take l.symbol-index l.block))
