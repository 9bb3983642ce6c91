-- What the calls of a store answer, and what they leave. Assumes nothing.
use Rattle.std.specs.Prelude.{ℕ, ◌-◌, Bool, cond, ◌||◌, List, length, Some, None, Option, Result, ◌==◌, nat_lt, slice_set}
use Rattle.symbols.specs.Answers.{answered, unless, over}
use Rattle.stores.specs.declared.refusal.StoreRefusal.{StoreRefusal}
use Rattle.stores.specs.declared.refusal.StoreRefusal.TheVariants.{ShortArea, TooLong, OutOfRange}
use Rattle.stores.specs.Names.{Names, size, under, with_string}

-- the numbers by which the outside knows the refusals
abbrev pub store_number : StoreRefusal → ℕ
store_number ShortArea = 23
store_number TooLong = 26
store_number OutOfRange = 27

-- no string has the number k
unfoldable pub outside : {X : Type 0} → Names X → ℕ → Bool
outside names k = k == 0 || nat_lt (length names.strings) k

-- the string s is too long for number k, by itself or with all the others
unfoldable pub too_long : {X : Type 0} → Names X → ℕ → List X → Bool
too_long names k s = nat_lt names.longest (length s) || nat_lt names.most (size (slice_set names.strings (k - 1) s))

-- why the length of number k is not told
unfoldable pub number_refusal : {X : Type 0} → Names X → ℕ → Option StoreRefusal
number_refusal names k = cond (outside names k) (Some OutOfRange) None

-- why number k does not take the string s
unfoldable pub put_refusal : {X : Type 0} → Names X → ℕ → List X → Option StoreRefusal
put_refusal names k s = cond (outside names k) (Some OutOfRange) (cond (too_long names k s) (Some TooLong) None)

-- why the string s is not copied to an area of `room` symbols
abbrev pub room_refusal : {X : Type 0} → ℕ → List X → Option StoreRefusal
room_refusal room s = cond (nat_lt room (length s)) (Some ShortArea) None

-- why the string of number k is not copied to an area of `room` symbols
unfoldable pub fetch_refusal : {X : Type 0} → Names X → ℕ → ℕ → Option StoreRefusal
fetch_refusal names k room = cond (outside names k) (Some OutOfRange) (room_refusal room (under names k))

-- what a put answers, and the names after it
abbrev pub put_answer : {X : Type 0} → Names X → ℕ → List X → Result (Unit {0}) StoreRefusal
put_answer names k s = answered (put_refusal names k s) tt

-- the names after a put
abbrev pub after_put : {X : Type 0} → Names X → ℕ → List X → Names X
after_put names k s = unless (put_refusal names k s) names (with_string names k s)

-- what a fetch answers, and the area after it: the string over its front
abbrev pub fetch_answer : {X : Type 0} → Names X → ℕ → List X → Result ℕ StoreRefusal
fetch_answer names k area = answered (fetch_refusal names k (length area)) (length (under names k))

-- the area after a fetch: the string over its front
abbrev pub after_fetch : {X : Type 0} → Names X → ℕ → List X → List X
after_fetch names k area = unless (fetch_refusal names k (length area)) area (over (under names k) area)

-- what is answered to the question for the length of number k
abbrev pub length_answer : {X : Type 0} → Names X → ℕ → Result ℕ StoreRefusal
length_answer names k = answered (number_refusal names k) (length (under names k))
