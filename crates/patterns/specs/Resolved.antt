-- The pattern of a statement: what each of its items asks of a part, under the contents before the statement. Assumes nothing.
use Rattle.std.specs.Prelude.{ℕ, List, [], ◌∷◌, ◌++◌, Some, None, Option}
use Rattle.placings.specs.Pattern.{Element, constant, arbitrary, balanced, fixed, again, part}
use Rattle.stores.specs.Names.{Names, under}
use Rattle.tables.specs.declared.row.Form.{Form}
use Rattle.tables.specs.declared.row.Form.TheVariants.{Arbitrary, Balanced, Fixed}
use Rattle.tables.specs.declared.row.Item.{Item}
use Rattle.tables.specs.declared.row.Item.TheVariants.{Operand, Variable}
use Rattle.tables.specs.declared.row.Operand as row
use Rattle.tables.specs.declared.row.Operand.TheVariants.{Literal, Contents}
use Rattle.tables.specs.declared.sheet.NameTable.{NameTable}
use Rattle.patterns.specs.Meant.{meant}
use Rattle.patterns.specs.Nearest.{nearest}

-- the element that a variable is
abbrev pub formed : {X : Type 0} → Form → Element X
formed Arbitrary = arbitrary
formed Balanced = balanced
formed (Fixed size) = fixed size

-- a back reference to the variable at a place, or a constant where there is none
abbrev pub back_or : {X : Type 0} → Option ℕ → List X → Element X
back_or (Some j) contents = again j
back_or None contents = constant contents

-- a first element before the others, where all are there
abbrev pub before_all : {A : Type 0} → Option A → Option (List A) → Option (List A)
before_all None rest = None
before_all (Some x) None = None
before_all (Some x) (Some xs) = Some (x ∷ xs)

-- the element of a name behind some items: a back reference to the nearest variable of the name, or its contents; none where there is no name
abbrev pub name_element : {X : Type 0} → Names X → List Item → Option ℕ → Option (Element X)
name_element names left None = None
name_element names left (Some k) = Some (back_or (nearest k left) (under names k))

module _ {X : Type 0} (chars : X → List ℕ) (table : NameTable) (constants : List X) (names : Names X) where
  -- the element of an operand behind some items: a literal is a constant
  abbrev pub operand_element : List Item → row.Operand → Option (Element X)
  operand_element left (Literal from to) = Some (constant (part constants from to))
  operand_element left (Contents reference) = name_element names left (meant chars table names reference)

  -- the element of an item behind some items
  abbrev pub item_element : List Item → Item → Option (Element X)
  item_element left (Operand operand) = operand_element left operand
  item_element left (Variable variable) = Some (formed variable.form)

  -- the elements of items behind some others
  unfoldable pub resolved_behind : List Item → List Item → Option (List (Element X))
  resolved_behind left [] = Some []
  resolved_behind left (item ∷ items) = before_all (item_element left item) (resolved_behind (left ++ item ∷ []) items)

  -- the pattern of the items; none where a `$` yields no name of the sheet
  abbrev pub resolved : List Item → Option (List (Element X))
  resolved items = resolved_behind [] items
