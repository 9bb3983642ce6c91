use Rattle.std.proofs.Common.{◌≡◌, ◌*◌, ◌≤◌, true, length, take}
use Rattle.std.specs.Option.{option_map}
use Rattle.scan.specs.Elements.{pattern, all_fit}
use Rattle.patterns.specs.Fitted.{fitted}
use Rattle.patterns.specs.Resolved.{resolved}
use Rattle.patterns.proofs.Gathers.{prepended, to_come}
use Rattle.patterns.proofs.gather.gather_items.Given as goal

abbrev pub invariant-loop-i : goal.invariant-loop-i
invariant-loop-i g l =
    (l.used ≤ l.i * (g.S.Store.held l.store).longest)
    × (length l.elements ≡ 8)
    × (all_fit l.used 0 (take l.i l.elements) ≡ true)
    × (option_map (fitted (g.S.Store.held l.store).longest) (resolved g.K.Kind.chars l.listing.names.now l.listing.constants.now (g.S.Store.held l.store) l.items)
    ≡ prepended (pattern l.area (take l.i l.elements)) (to_come g.K.Kind.chars l.listing.names.now l.listing.constants.now (g.S.Store.held l.store) (g.S.Store.held l.store).longest l.items l.i))
