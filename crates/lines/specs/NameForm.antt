-- A name in plain words. Assumes nothing.
use Rattle.std.specs.Prelude.{◌≡◌, Bool, true, false, ◌&&◌, ◌||◌, ◌↔◌, List, [], ◌∷◌}
use Rattle.lines.specs.declared.mark.Mark.{Mark}
use Rattle.lines.specs.declared.role.Role.{Role}
use Rattle.lines.specs.declared.mark.Mark.TheVariants.{Period}
use Rattle.lines.specs.Marks.{same, solid}
use Rattle.lines.specs.Languages.{In}
use Rattle.lines.specs.Grammar.{name, plain}

-- capitals, digits and periods
abbrev pub name_marks : List Mark → Bool
name_marks [] = true
name_marks (m ∷ s) = (solid m || same m Period) && name_marks s

abbrev pub first_solid : List Mark → Bool
first_solid [] = false
first_solid (m ∷ s) = solid m

-- the last, or b if there is none
abbrev pub last_solid : Bool → List Mark → Bool
last_solid b [] = b
last_solid b (m ∷ s) = last_solid (solid m) s

-- at least one, no period first or last
abbrev pub is_name : List Mark → Bool
is_name s = name_marks s && first_solid s && last_solid false s

abbrev pub NameForm : Type 0
NameForm = (r : Role) (s : List Mark) → In (name plain r) s ↔ (is_name s ≡ true)
