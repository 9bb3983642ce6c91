-- What holds of tables that may be worked with. Assumes nothing.
use Rattle.std.specs.Prelude.{◌≡◌, ℕ, ◌<◌, ◌≤◌, List, length, take, Some, None, Option, slice_index_or}
use Rattle.std.specs.List.{AllByRecursion}
use Rattle.tables.specs.Lookups.{names_in}
use Rattle.tables.specs.Rows.{items_in, operands_in, number_in}
use Rattle.tables.specs.Tables.{counts}
use Rattle.tables.specs.declared.name.Name.{Name}
use Rattle.tables.specs.declared.row.Form.{Form}
use Rattle.tables.specs.declared.row.Form.TheVariants.{Arbitrary, Balanced, Fixed}
use Rattle.tables.specs.declared.row.Item.{Item}
use Rattle.tables.specs.declared.row.Item.TheVariants.{Operand as operand, Variable as variable}
use Rattle.tables.specs.declared.row.Next.{Next}
use Rattle.tables.specs.declared.row.Next.TheVariants.{Statement, End}
use Rattle.tables.specs.declared.row.Operand.{Operand}
use Rattle.tables.specs.declared.row.Operand.TheVariants.{Literal, Contents}
use Rattle.tables.specs.declared.row.RightSide.{RightSide}
use Rattle.tables.specs.Rows.{Row}
use Rattle.tables.specs.declared.row.Target.{Target}
use Rattle.tables.specs.declared.row.Target.TheVariants.{To, Through}
use Rattle.tables.specs.declared.sheet.Counts.{Counts}
use Rattle.tables.specs.declared.sheet.Sheet.{Sheet}
use Rattle.changes.specs.Success.{In, Numbered}
use Rattle.tables.specs.Limits.{most_statements, most_names, most_constants, most_elements, most_operands, longest_part, longest_name}

-- what may be absent is so where it is given
abbrev pub Given : {A : Type 0} → (A → Type 0) → Option A → Type 0
Given P None = Unit {0}
Given P (Some x) = P x

-- a literal is a part of c symbols, and a reference has one of n names
abbrev pub Sound-operand : ℕ → ℕ → Operand → Type 0
Sound-operand n c (Literal from to) = (from ≤ to) × (to ≤ c)
Sound-operand n c (Contents r) = In n (number_in r)

-- a fixed length is within its limit
abbrev pub Sound-form : Form → Type 0
Sound-form Arbitrary = Unit {0}
Sound-form Balanced = Unit {0}
Sound-form (Fixed size) = size ≤ longest_part

-- an operand is sound, and a variable has one of n names and a sound form
abbrev pub Sound-item : ℕ → ℕ → Item → Type 0
Sound-item n c (operand o) = Sound-operand n c o
Sound-item n c (variable v) = In n v.name × Sound-form v.form

-- at most eight operands, all sound
abbrev pub Sound-side : ℕ → ℕ → RightSide → Type 0
Sound-side n c side = (side.count ≤ most_operands) × AllByRecursion (Sound-operand n c) (operands_in side)

-- one of s statements comes next, or END
abbrev pub Sound-next : ℕ → Next → Type 0
Sound-next s (Statement k) = In s k
Sound-next s End = Unit {0}

-- a go-to leads to one of s statements or END, or through one of n names
abbrev pub Sound-target : ℕ → ℕ → Target → Type 0
Sound-target n s (To next) = Sound-next s next
Sound-target n s (Through k) = In n k

-- a name or a label is not too long
abbrev pub Short : Name → Type 0
Short name = name.length ≤ longest_name

-- a statement of a sheet with n names, s statements and c symbols of constants
pub record Sound-row (n s c : ℕ) (row : Row) : Type 0 where
  pub label : Given Short row.label
  pub reference : In n (number_in row.reference)
  pub elements : row.pattern.count ≤ most_elements
  pub items : AllByRecursion (Sound-item n c) (items_in row.pattern)
  pub variables : AllByRecursion (Numbered n) (items_in row.pattern)
  pub operands : Given (Sound-side n c) row.right_side
  pub success : Given (Sound-target n s) row.on_success
  pub failure : Given (Sound-target n s) row.on_failure

-- tables that may be worked with, over a store of so many names, by a session that was opened with these counts; room is how many symbols of constants were lent
pub record Admitted (names : ℕ) (opened : Counts) (sheet : Sheet) (rows : List Row) (room : ℕ) : Type 0 where
  pub same : counts sheet ≡ opened
  pub few_statements : sheet.statements ≤ most_statements
  pub few_names : sheet.names.count ≤ most_names
  pub few_constants : sheet.constants ≤ most_constants
  pub stored : sheet.names.count ≤ names
  pub lent_rows : sheet.statements ≤ length rows
  pub lent_constants : sheet.constants ≤ room
  pub short : AllByRecursion Short (names_in sheet.names)
  pub start : Sound-next sheet.statements sheet.start
  -- every statement is sound for the names of the sheet
  pub all_rows : AllByRecursion (Sound-row sheet.names.count sheet.statements sheet.constants) (take sheet.statements rows)
  -- and for those of the store
  pub row : (k : ℕ) (d : Row) → k < sheet.statements → Sound-row names sheet.statements sheet.constants (slice_index_or rows k d)
