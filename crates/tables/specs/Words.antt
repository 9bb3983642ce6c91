-- In what words the parts of a row are printed: names, statements and constants by their numbers, as in the tables. Assumes nothing.
use Rattle.std.specs.Prelude.{ℕ, List, ◌++◌, codes, decimal}
use Rattle.tables.specs.declared.row.Form.{Form}
use Rattle.tables.specs.declared.row.Form.TheVariants.{Arbitrary, Balanced, Fixed}
use Rattle.tables.specs.declared.row.Item.{Item}
use Rattle.tables.specs.declared.row.Item.TheVariants.{Operand as operand, Variable as variable}
use Rattle.tables.specs.declared.row.Next.{Next}
use Rattle.tables.specs.declared.row.Next.TheVariants.{Statement, End}
use Rattle.tables.specs.declared.row.Operand.{Operand}
use Rattle.tables.specs.declared.row.Operand.TheVariants.{Literal, Contents}
use Rattle.tables.specs.declared.row.Reference.{Reference}
use Rattle.tables.specs.declared.row.Reference.TheVariants.{Named, Through}
use Rattle.tables.specs.declared.row.Target.{Target}
use Rattle.tables.specs.declared.row.Target.TheVariants.{To, Through as through}
use Rattle.tables.specs.declared.row.Variable.{Variable}

-- the number of a name, behind `$` where its contents spell the name
abbrev pub reference_words : Reference → List ℕ
reference_words (Named k) = decimal k
reference_words (Through k) = codes "$" ++ decimal k

-- a literal by the places of the constants from and up to which it stands, or a reference
abbrev pub operand_words : Operand → List ℕ
operand_words (Literal from to) = codes "literal " ++ (decimal from ++ (codes " " ++ decimal to))
operand_words (Contents reference) = reference_words reference

-- a form with the number of a name, and of a fixed one its length
abbrev pub form_words : ℕ → Form → List ℕ
form_words k Arbitrary = codes "arbitrary " ++ decimal k
form_words k Balanced = codes "balanced " ++ decimal k
form_words k (Fixed size) = codes "fixed " ++ (decimal k ++ (codes " " ++ decimal size))

-- a variable, by its form and the number of its name
abbrev pub variable_words : Variable → List ℕ
variable_words v = form_words v.name v.form

-- an element of a pattern: an operand or a variable
abbrev pub item_words : Item → List ℕ
item_words (operand o) = operand_words o
item_words (variable v) = variable_words v

-- the number of a statement, or END
abbrev pub next_words : Next → List ℕ
next_words (Statement k) = decimal k
next_words End = codes "END"

-- where a go-to leads: a statement or END, or behind `$` the number of a name
abbrev pub target_words : Target → List ℕ
target_words (To next) = next_words next
target_words (through k) = codes "$" ++ decimal k
