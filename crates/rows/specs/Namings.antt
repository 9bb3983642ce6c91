-- The names and labels of a sheet, as its text spells them. Assumes nothing.
use Rattle.std.specs.Prelude.{ℕ, List, map}
use Rattle.sheets.specs.Parts.{part_of}
use Rattle.rows.specs.declared.naming.Naming.{Naming}

abbrev pub names_of : Naming → List (List ℕ)
names_of n = map (part_of n.text.now) n.names.now

abbrev pub labels_of : Naming → List (List ℕ)
labels_of n = map (part_of n.text.now) n.labels.now
