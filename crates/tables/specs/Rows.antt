-- What a row is, and what its parts tell. Assumes nothing.
use Rattle.std.specs.Prelude.{ℕ, Bool, false, List, take, ◌==◌}
use Rattle.tables.specs.declared.name.Name.{Name}
use Rattle.tables.specs.declared.row.Item.{Item}
use Rattle.tables.specs.declared.row.Item.TheVariants.{Operand as operand, Variable}
use Rattle.tables.specs.declared.row.Next.{Next}
use Rattle.tables.specs.declared.row.Next.TheVariants.{Statement, End}
use Rattle.tables.specs.declared.row.Operand.{Operand}
use Rattle.tables.specs.declared.row.Pattern.{Pattern}
use Rattle.tables.specs.declared.row.Reference.{Reference}
use Rattle.tables.specs.declared.row.Reference.TheVariants.{Named, Through}
use Rattle.tables.specs.declared.row.RightSide.{RightSide}
use Rattle.tables.specs.declared.row.RowOf.{RowOf}

-- a statement that keeps the characters of its label
abbrev pub Row : Type 0
Row = RowOf Name

-- the elements of a pattern
abbrev pub items_in : Pattern → List Item
items_in pattern = take pattern.count pattern.items

-- the operands of a right side
abbrev pub operands_in : RightSide → List Operand
operands_in side = take side.count side.operands

-- the number of the name that a reference has
abbrev pub number_in : Reference → ℕ
number_in (Named k) = k
number_in (Through k) = k

-- the number of the statement that is next; END has 0
abbrev pub number_of : Next → ℕ
number_of End = 0
number_of (Statement k) = k

-- whether an element is a variable with the name of number k
abbrev pub is_variable : ℕ → Item → Bool
is_variable k (operand o) = false
is_variable k (Variable v) = v.name == k
