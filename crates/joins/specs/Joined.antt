-- What the operands of a right side stand for, joined. Assumes nothing.
use Rattle.std.specs.Prelude.{ℕ, List, [], ◌∷◌, ◌++◌, Some, None, Option}
use Rattle.std.specs.Option.{option_map}
use Rattle.placings.specs.Pattern.{part}
use Rattle.stores.specs.Names.{Names, under}
use Rattle.tables.specs.declared.row.Operand.{Operand}
use Rattle.tables.specs.declared.row.Operand.TheVariants.{Literal, Contents}
use Rattle.tables.specs.declared.sheet.NameTable.{NameTable}
use Rattle.patterns.specs.Meant.{meant}

-- a string with another behind it, where both are there
abbrev pub both : {X : Type 0} → Option (List X) → Option (List X) → Option (List X)
both None t = None
both (Some s) None = None
both (Some s) (Some t) = Some (s ++ t)

module _ {X : Type 0} (chars : X → List ℕ) (table : NameTable) (constants : List X) (names : Names X) where
  -- what an operand stands for: a literal for its part of the constants, a reference for the contents of the name that it means; none where `$` yields no name
  abbrev pub operand_contents : Operand → Option (List X)
  operand_contents (Literal from to) = Some (part constants from to)
  operand_contents (Contents reference) = option_map (under names) (meant chars table names reference)

  -- the operands joined, left to right; none where one of them stands for nothing
  unfoldable pub operands_joined : List Operand → Option (List X)
  operands_joined [] = Some []
  operands_joined (operand ∷ operands) = both (operand_contents operand) (operands_joined operands)
