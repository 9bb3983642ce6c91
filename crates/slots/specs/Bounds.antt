-- Every slot store is within its limits. Assumes nothing.
use Rattle.std.specs.Prelude.{ℕ, ◌*◌, ◌≤◌, List, length}
use Rattle.stores.specs.Names.{Bounded, size}
use Rattle.stores.specs.Ranges.{in_range}
use Rattle.stores.specs.Parts.{lengths, parts, laid}
use Rattle.stores.proofs.Bounds.{range_parts, size_le, laid_bounded, shown_bounded}
use Rattle.stores.proofs.Parts.{lengths_le, parts_short}
use Rattle.stores.proofs.Shown.{laid_many}
use Rattle.slots.specs.declared.SlotStore.{SlotStore}
use Rattle.slots.specs.Slots.{in_slots, slot_names}

slots_bounded : {X : Type 0} (area : List X) (table : List ℕ) (n l : ℕ) → Bounded (in_slots area table n l)
unfolding in_slots
slots_bounded {X} area table n l = shown_bounded (in_range n l (n * l) (length area)) (laid (λ _. l) area table n l (n * l)) (λ e.
    let strings = parts {X = X} (λ _. l) (lengths n l table) area in
    let total : size strings ≤ n * l = rw (laid_many (λ _. l) area table n l (n * l)) at (size_le l strings (parts_short (λ _. l) l (lengths n l table) area (lengths_le n l table))) in
    laid_bounded (λ _. l) area table n l (n * l) (length area) (range_parts n l (n * l) (length area) e) total)

pub slot_bounds : {X : Type 0} (s : SlotStore X) → Bounded (slot_names s)
slot_bounds s = slots_bounded s.area.now s.lengths s.names s.longest
