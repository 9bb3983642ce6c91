-- Whether tables fit the counts of their sheet and the limits of a sheet. Assumes nothing.
use Rattle.std.specs.Prelude.{ℕ, Bool, true, ◌&&◌, List, length, take, Some, None, Option, ◌==◌, nat_le}
use Rattle.tables.specs.Lookups.{names_in}
use Rattle.tables.specs.Rows.{items_in, operands_in}
pub use Rattle.tables.specs.Rows.{number_in}
use Rattle.tables.specs.Tables.{counts}
pub use Rattle.tables.specs.Tables.{numbered}
use Rattle.tables.specs.declared.name.Name.{Name}
use Rattle.tables.specs.declared.row.Form.{Form}
use Rattle.tables.specs.declared.row.Form.TheVariants.{Arbitrary, Balanced, Fixed}
use Rattle.tables.specs.declared.row.Item.{Item}
use Rattle.tables.specs.declared.row.Item.TheVariants.{Operand as operand, Variable as variable}
use Rattle.tables.specs.declared.row.Next.{Next}
use Rattle.tables.specs.declared.row.Next.TheVariants.{Statement, End}
use Rattle.tables.specs.declared.row.Operand.{Operand}
use Rattle.tables.specs.declared.row.Operand.TheVariants.{Literal, Contents}
use Rattle.tables.specs.declared.row.Pattern.{Pattern}
use Rattle.tables.specs.declared.row.Reference.{Reference}
use Rattle.tables.specs.declared.row.RightSide.{RightSide}
use Rattle.tables.specs.Rows.{Row}
use Rattle.tables.specs.declared.row.Target.{Target}
use Rattle.tables.specs.declared.row.Target.TheVariants.{To, Through as through}
use Rattle.tables.specs.declared.sheet.Counts.{Counts}
use Rattle.tables.specs.declared.sheet.Sheet.{Sheet}
use Rattle.std.specs.List.{list_all}
use Rattle.tables.specs.Limits.{most_statements, most_names, most_constants, most_elements, most_operands, longest_part, longest_name}

-- what may be absent passes the test where it is given
abbrev pub if_given : {A : Type 0} → (A → Bool) → Option A → Bool
if_given test None = true
if_given test (Some x) = test x

-- a reference has a name of the sheet
abbrev pub reference_fits : Counts → Reference → Bool
reference_fits c r = numbered c.names (number_in r)

-- a literal is a part of the constants, and a reference fits
abbrev pub operand_fits : Counts → Operand → Bool
operand_fits c (Literal from to) = nat_le from to && nat_le to c.constants
operand_fits c (Contents r) = reference_fits c r

-- a fixed length is within its limit
abbrev pub form_fits : Form → Bool
form_fits Arbitrary = true
form_fits Balanced = true
form_fits (Fixed size) = nat_le size longest_part

-- an operand fits, and a variable has a name of the sheet and a form that fits
abbrev pub item_fits : Counts → Item → Bool
item_fits c (operand o) = operand_fits c o
item_fits c (variable v) = numbered c.names v.name && form_fits v.form

-- the next statement is one of the sheet, or END
abbrev pub next_fits : Counts → Next → Bool
next_fits c (Statement k) = numbered c.statements k
next_fits c End = true

-- a go-to leads to a statement that fits, or through a name of the sheet
abbrev pub target_fits : Counts → Target → Bool
target_fits c (To next) = next_fits c next
target_fits c (through k) = numbered c.names k

-- a pattern has at most eight elements, and all fit
abbrev pub pattern_fits : Counts → Pattern → Bool
pattern_fits c p = nat_le p.count most_elements && list_all (item_fits c) (items_in p)

-- a right side has at most eight operands, and all fit
abbrev pub side_fits : Counts → RightSide → Bool
side_fits c s = nat_le s.count most_operands && list_all (operand_fits c) (operands_in s)

-- a name or a label is not too long
abbrev pub name_fits : Name → Bool
name_fits name = nat_le name.length longest_name

-- every part of a statement fits
abbrev pub row_fits : Counts → Row → Bool
row_fits c row = if_given name_fits row.label && (reference_fits c row.reference && (pattern_fits c row.pattern && (if_given (side_fits c) row.right_side && (if_given (target_fits c) row.on_success && if_given (target_fits c) row.on_failure))))

-- no count is over its limit, and the rows and the symbols that were lent are at least as many as are counted
abbrev pub within_limits : Counts → ℕ → ℕ → Bool
within_limits c rows room = nat_le c.statements most_statements && (nat_le c.names most_names && (nat_le c.constants most_constants && (nat_le c.statements rows && nat_le c.constants room)))

-- a sheet fits its rows and so many symbols of constants: its counts, its names, its start and every statement
abbrev pub sheet_fits : Sheet → List Row → ℕ → Bool
sheet_fits sheet rows room = within_limits (counts sheet) (length rows) room && (list_all name_fits (names_in sheet.names) && (next_fits (counts sheet) sheet.start && list_all (row_fits (counts sheet)) (take sheet.statements rows)))

-- two sheets have the same counts
abbrev pub same_counts : Counts → Counts → Bool
same_counts c d = c.statements == d.statements && (c.constants == d.constants && c.names == d.names)

-- tables may be worked with: the store has a name for each of the sheet's, the counts are those at the opening, and the sheet fits
unfoldable pub admits : ℕ → Counts → Sheet → List Row → ℕ → Bool
admits names opened sheet rows room = nat_le sheet.names.count names && (same_counts opened (counts sheet) && sheet_fits sheet rows room)
