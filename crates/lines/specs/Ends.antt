-- How END's line begins, which no other statement line does. Assumes nothing.
use Rattle.std.specs.Prelude.{Bool, true, false, ◌&&◌, List, [], ◌∷◌}
use Rattle.lines.specs.declared.mark.Mark.{Mark}
use Rattle.lines.specs.declared.mark.Mark.TheVariants.{Blank, LetterE, LetterN, LetterD}
use Rattle.lines.specs.Marks.{same}

-- the marks ks come first
abbrev pub begins : List Mark → List Mark → Bool
begins [] ms = true
begins (k ∷ ks) [] = false
begins (k ∷ ks) (m ∷ ms) = same m k && begins ks ms

-- `END` and a blank
abbrev pub begins_end : List Mark → Bool
begins_end ms = begins (LetterE ∷ LetterN ∷ LetterD ∷ Blank ∷ []) ms
