-- How much a sheet may hold. Assumes nothing.
use Rattle.std.specs.Prelude.{ℕ}

-- the characters of a name or a label
abbrev pub longest_name : ℕ
longest_name = 16

-- the statements, END not counted
abbrev pub most_statements : ℕ
most_statements = 128

-- the names
abbrev pub most_names : ℕ
most_names = 64

-- the symbols of all constants together
abbrev pub most_constants : ℕ
most_constants = 4096

-- the elements of a pattern
abbrev pub most_elements : ℕ
most_elements = 8

-- the operands of a right side
abbrev pub most_operands : ℕ
most_operands = 8

-- the symbols that a variable of fixed length takes
abbrev pub longest_part : ℕ
longest_part = 4096
