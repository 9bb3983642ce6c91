-- What a slot store means. Assumes nothing.
use Rattle.std.specs.Prelude.{◌≡◌, ℕ, ◌+◌, ◌-◌, ◌*◌, ◌≤◌, cond, List, length, Some, Ok, Err, Result}
use Rattle.stores.specs.declared.part.Part.{Part}
use Rattle.stores.specs.declared.refusal.StoreRefusal.{StoreRefusal}
use Rattle.stores.specs.Names.{Names, nothing}
use Rattle.stores.specs.Ranges.{in_range}
use Rattle.stores.specs.Calls.{number_refusal}
use Rattle.stores.specs.Parts.{laid, Lies}
use Rattle.slots.specs.declared.SlotStore.{SlotStore}

-- n slots of l symbols side by side: n names of at most l symbols, n * l in all; nothing where they do not fit the area
unfoldable pub in_slots : {X : Type 0} → List X → List ℕ → ℕ → ℕ → Names X
in_slots area table n l = cond (in_range n l (n * l) (length area)) (laid (λ _. l) area table n l (n * l)) nothing

-- what a slot store means, whatever its fields hold
abbrev pub slot_names : {X : Type 0} → SlotStore X → Names X
slot_names s = in_slots s.area.now s.lengths s.names s.longest

-- the part is the string of number k, at the front of a slot of l symbols
pub record Slot {X : Type 0} (names : Names X) (area : List X) (l k : ℕ) (part : Part) : Type 0 where
  pub lies : Lies names area k part
  pub starts : part.start ≡ (k - 1) * l
  pub fits : part.start + l ≤ length area
  pub some : 1 ≤ k
  pub few : k ≤ 64
  pub short : l ≤ 4096

-- where the string of number k lies, or why it has none
abbrev pub Found : {X : Type 0} → Names X → List X → ℕ → ℕ → Result Part StoreRefusal → Type 0
Found names area l k (Ok part) = Slot names area l k part
Found names area l k (Err e) = number_refusal names k ≡ Some e
