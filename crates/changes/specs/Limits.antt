-- Whether names go over their limits. Assumes nothing.
use Rattle.std.specs.Prelude.{ℕ, Bool, false, cond, ◌||◌, List, [], ◌∷◌, length, Some, None, Option, nat_lt}
use Rattle.stores.specs.declared.refusal.StoreRefusal.{StoreRefusal}
use Rattle.stores.specs.declared.refusal.StoreRefusal.TheVariants.{ShortArea}
use Rattle.stores.specs.Names.{Names, size}

-- whether some string has more than l symbols
unfoldable pub over_longest : {X : Type 0} → ℕ → List (List X) → Bool
over_longest l [] = false
over_longest l (s ∷ ss) = nat_lt l (length s) || over_longest l ss

-- whether a string is longer than one may be, or all together have more symbols than they may
unfoldable pub over_limits : {X : Type 0} → Names X → Bool
over_limits names = over_longest names.longest names.strings || nat_lt names.most (size names.strings)

-- why a string is not copied to an area of `room` symbols
unfoldable pub room_refusal : {X : Type 0} → ℕ → List X → Option StoreRefusal
room_refusal room s = cond (nat_lt room (length s)) (Some ShortArea) None
