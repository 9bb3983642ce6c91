-- Where the string that a name gets comes from. Assumes nothing.
use Rattle.std.proofs.Common.{◌≡◌, ℕ, suc, ◌<◌, ◌≤◌, Bool, true, false, cond, List, [], ◌∷◌, length, get_or, Some, refl, ap, ◌∙◌, arith}
use Rattle.std.specs.Bool.{then_some}
use Rattle.std.specs.Option.{option_or}
use Rattle.placings.specs.Pattern.{part}
use Rattle.tables.specs.declared.row.Item.{Item}
use Rattle.tables.specs.Rows.{is_variable}
use Rattle.changes.specs.Success.{Success, Placed}
use Rattle.changes.specs.Sources.{Source, Kept, Part, Contents, later, last_part, last_places, is_reference, new_string, source, value, Cuts}

module _ {X : Type 0} (success : Success X) where
  value_later : (s : Source) (b : Bool) (from to : ℕ) → option_or (value success s) (then_some b (part success.subject from to)) ≡ value success (later s (cond b (Part from to) Kept))
  value_later Kept true from to = refl
  value_later Kept false from to = refl
  value_later (Part x y) b from to = refl
  value_later Contents b from to = refl

  places_part : (k start : ℕ) (is : List Item) (es : List ℕ) → last_part success.subject k start is es ≡ value success (last_places k start is es)
  unfolding last_part last_places
  places_part k start [] es = refl
  places_part k start (i ∷ is) [] = refl
  places_part k start (i ∷ is) (e ∷ es) =
      ap (λ o. option_or o (then_some (is_variable k i) (part success.subject start e))) (places_part k e is es) ∙ value_later (last_places k e is es) (is_variable k i) start e

  -- the string that a name gets is the one that its source gives
  pub new_value : (k : ℕ) → new_string success k ≡ value success (source success k)
  unfolding new_string source
  new_value k = chosen (is_reference success.reference k)
    where
      chosen : (b : Bool) → cond b (Some success.contents) (last_part success.subject k success.start success.items success.ends) ≡ value success (cond b Contents (last_places k success.start success.items success.ends))
      chosen true = refl
      chosen false = places_part k success.start success.items success.ends

cuts_later : (n : ℕ) (s : Source) (b : Bool) (from to : ℕ) → Cuts n s → from ≤ to → to ≤ n → Cuts n (later s (cond b (Part from to) Kept))
cuts_later n Kept true from to cuts h k = (h, k)
cuts_later n Kept false from to cuts h k = tt
cuts_later n (Part x y) b from to cuts h k = cuts
cuts_later n Contents b from to cuts h k = tt

places_cut : (n k start : ℕ) (is : List Item) (es : List ℕ)
    → ((i : ℕ) → i < length (start ∷ es) → get_or (start ∷ es) i 0 ≤ n)
    → ((i : ℕ) → suc i < length (start ∷ es) → get_or (start ∷ es) i 0 ≤ get_or (start ∷ es) (suc i) 0)
    → Cuts n (last_places k start is es)
unfolding last_places
places_cut n k start [] es within rising = tt
places_cut n k start (i ∷ is) [] within rising = tt
places_cut n k start (i ∷ is) (e ∷ es) within rising =
    cuts_later n (last_places k e is es) (is_variable k i) start e
    (places_cut n k e is es (λ j h. within (suc j) (omega arith)) (λ j h. rising (suc j) (omega arith)))
    (rising 0 (omega arith))
    (within 1 (omega arith))

-- a part that a name gets lies within the scanned string
pub source_cut : {X : Type 0} (success : Success X) (k : ℕ) → Placed success → Cuts (length success.subject) (source success k)
unfolding source
source_cut success k placed = chosen (is_reference success.reference k)
  where
    chosen : (b : Bool) → Cuts (length success.subject) (cond b Contents (last_places k success.start success.items success.ends))
    chosen true = tt
    chosen false = places_cut (length success.subject) k success.start success.items success.ends placed.within placed.rising
