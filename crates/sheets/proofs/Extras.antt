-- A name too many. Assumes nothing.
use Rattle.std.proofs.Common.{◌≡◌, ℕ, ◌≤◌, Bool, true, false, List, map, length, take, refl, ◌∙◌, length-take-le}
use Rattle.std.proofs.lemmas.List.{length-map}
use Rattle.std.specs.Bool.{then_some}
use Rattle.sheets.specs.declared.fault.Fault.{Fault}
use Rattle.sheets.specs.declared.part.Part.{Part}
use Rattle.sheets.specs.Faults.{first}
use Rattle.sheets.specs.Parts.{part_of}
use Rattle.sheets.specs.Tallies.{when}

pub length_named : (text : List ℕ) (names : List Part) (n : ℕ) → n ≤ length names → length (map (part_of text) (take n names)) ≡ n
length_named text names n h = length-map (take n names) (part_of text) ∙ length-take-le n names h

-- a fault where a test holds
pub answer_when : (b : Bool) (f : Fault) → then_some b f ≡ first (when b f)
answer_when true f = refl
answer_when false f = refl
