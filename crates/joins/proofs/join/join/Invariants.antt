use Rattle.std.proofs.Common.{◌≡◌, length, take, Ok}
use Rattle.joins.specs.Joined.{operands_joined}
use Rattle.joins.specs.Pieces.{filled, joined_to}
use Rattle.joins.proofs.join.join.Given as goal

-- the string so far is what the operands before this one stand for, behind the string that was there
abbrev pub invariant-loop-operand : goal.invariant-loop-operand
invariant-loop-operand g l =
    (Ok (filled l.joined.at l.joined.area.now) ≡ joined_to (length l.initial.joined.area.now) (filled l.initial.joined.at l.initial.joined.area.now) (operands_joined g.K.Kind.chars l.listing.names.now l.listing.constants.now (g.R.Strings.names l.strings) (take l.operand-index l.operands)))
    × (length l.joined.area.now ≡ length l.initial.joined.area.now)
    × (l.joined.area.ghost_name ≡ l.initial.joined.area.ghost_name)
