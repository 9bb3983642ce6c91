-- A row that is being filled, token by token: what the reader of a row does. What a row is stands in Rows. Assumes nothing.
use Rattle.std.specs.Prelude.{◌+◌, cond, [], Some, None, Option, nat_lt, slice_set}
use Rattle.std.specs.Option.{option_map}
use Rattle.tables.specs.declared.row.Item.{Item}
use Rattle.tables.specs.declared.row.Operand.{Operand}
use Rattle.tables.specs.declared.row.Pattern.{Pattern}
use Rattle.tables.specs.declared.row.Reference.{Reference}
use Rattle.tables.specs.declared.row.RightSide.{RightSide}
use Rattle.tables.specs.declared.row.RowOf.{RowOf}
use Rattle.tables.specs.declared.row.Target.{Target}
use Rattle.rows.specs.declared.entry.Entry.{Entry}
use Rattle.rows.specs.Givens.{else}
use Rattle.rows.specs.Rows.{right_side_of}

-- a pattern with one more element, while there is room
abbrev pub with_item : Pattern → Item → Pattern
with_item p x = cond (nat_lt p.count 8) (record { items = slice_set p.items p.count x; count = p.count + 1 }) p

-- a right side with one more operand, while there is room
abbrev pub with_operand : Operand → RightSide → RightSide
with_operand x p = cond (nat_lt p.count 8) (record { operands = slice_set p.operands p.count x; count = p.count + 1 }) p

module _ {L : Type 0} where
  abbrev filled_in : Option L → Reference → Pattern → Option RightSide → Option Target → Option Target → RowOf L
  filled_in label reference pattern right s f =
      record { label = label; reference = reference; pattern = pattern; right_side = right; on_success = s; on_failure = f }

  -- a row once a token's entry is in it: `=` begins its right side, and an operand goes there
  abbrev pub entered : RowOf L → Entry L → RowOf L
  entered r (Entry.Label x) = filled_in (Some x) r.reference r.pattern r.right_side r.on_success r.on_failure
  entered r (Entry.Reference x) = filled_in r.label x r.pattern r.right_side r.on_success r.on_failure
  entered r (Entry.Element x) = filled_in r.label r.reference (with_item r.pattern x) r.right_side r.on_success r.on_failure
  entered r Entry.Equal = filled_in r.label r.reference r.pattern (Some (else (right_side_of []) r.right_side)) r.on_success r.on_failure
  entered r (Entry.Operand x) = filled_in r.label r.reference r.pattern (option_map (with_operand x) r.right_side) r.on_success r.on_failure
  entered r (Entry.Both g) = filled_in r.label r.reference r.pattern r.right_side (Some g) (Some g)
  entered r (Entry.OnS g) = filled_in r.label r.reference r.pattern r.right_side (Some g) r.on_failure
  entered r (Entry.OnF g) = filled_in r.label r.reference r.pattern r.right_side r.on_success (Some g)

  -- a row once what a token gives, if anything, is in it
  abbrev pub with_given : RowOf L → Option (Entry L) → RowOf L
  with_given r None = r
  with_given r (Some e) = entered r e
