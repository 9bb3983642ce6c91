-- Names as the tables of a sheet keep them. Assumes nothing.
use Rattle.std.specs.Prelude.{ℕ, min, List, length}
use Rattle.tables.specs.declared.name.Name.{Name}
use Rattle.rows.specs.Fills.{filled}

-- a name of the first 16 characters; the letters past its length are 0
abbrev pub name_of : List ℕ → Name
name_of w = record { letters = filled 16 0 w; length = min (length w) 16 }
