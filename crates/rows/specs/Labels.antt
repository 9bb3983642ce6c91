-- What rows keep of the labels that tokens spell. Assumes nothing.
use Rattle.std.specs.Prelude.{ℕ, ◌+◌, List}
use Rattle.lines.specs.declared.token.Token.{Token}
use Rattle.sheets.specs.declared.part.Part.{Part}
use Rattle.sheets.specs.Labels.{token_text}
use Rattle.tables.specs.declared.name.Name.{Name}
use Rattle.rows.specs.Names.{name_of}

-- the place of a label in the text, where its line begins at `from`
abbrev pub part_label : ℕ → List ℕ → Token → Part
part_label from s t = record { start = from + t.start; size = t.size }

-- the characters of a label
abbrev pub name_label : ℕ → List ℕ → Token → Name
name_label from s t = name_of (token_text s t)
