use Rattle.std.proofs.Common.{◌≡◌, ◌≤◌, take}
use Rattle.placings.specs.Pattern.{openings, closings}
use Rattle.bench.proofs.roles.count_roles.Given as goal

abbrev pub invariant-loop-symbol : goal.invariant-loop-symbol
invariant-loop-symbol g l =
    (l.opening ≡ openings (g.K.Kind.acts l.kind) (take l.symbol-index l.symbols))
    × (l.closing ≡ closings (g.K.Kind.acts l.kind) (take l.symbol-index l.symbols))
    × (l.opening ≤ l.symbol-index) × (l.closing ≤ l.symbol-index)
