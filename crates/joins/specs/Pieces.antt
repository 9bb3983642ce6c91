-- New contents piece by piece at the front of an area; that they do not fit is remembered. Assumes nothing.
use Rattle.std.specs.Prelude.{ℕ, ◌≤◌, List, [], ◌∷◌, ◌++◌, length, take, Some, None, Ok, Err, Option, Result}
use Rattle.std.specs.Option.{option_map}
use Rattle.std.specs.Coded.{le_prop, Unit-prop}
use Rattle.tables.specs.declared.row.Item.{Item}
use Rattle.joins.specs.declared.refusal.JoinRefusal.{JoinRefusal}
use Rattle.joins.specs.declared.refusal.JoinRefusal.TheVariants.{NoName}
use Rattle.joins.specs.Renewed.{last_end, clipped}

-- how many symbols of the scanned string stay before the new ones; none without pattern
abbrev pub kept_front : List Item → ℕ → ℕ
kept_front [] start = 0
kept_front (i ∷ is) start = start

-- from where on they stay behind the new ones; none without pattern
abbrev pub kept_back : {X : Type 0} → List X → List Item → ℕ → List ℕ → ℕ
kept_back subject [] start ends = length subject
kept_back subject (i ∷ is) start ends = last_end start ends

-- the string at the front of an area, by its length; none once it did not fit
abbrev pub filled : {X : Type 0} → Option ℕ → List X → Option (List X)
filled length area = option_map (λ n. take n area) length

-- the length is one of the area
abbrev pub Filled : {X : Type 0} → Option ℕ → List X → Type 0
Filled None area = Unit {0}
Filled (Some n) area = n ≤ length area

pub Filled-prop : {X : Type 0} (length : Option ℕ) (area : List X) → IsProp (Filled length area)
Filled-prop None area = Unit-prop
Filled-prop (Some n) area = le_prop

-- the string with another behind it, while it fits an area of `room` symbols
abbrev pub appended : {X : Type 0} → ℕ → Option (List X) → List X → Option (List X)
appended room None s = None
appended room (Some t) s = clipped room (t ++ s)

-- the string with operands behind it; refused where they stand for nothing
abbrev pub joined_to : {X : Type 0} → ℕ → Option (List X) → Option (List X) → Result (Option (List X)) JoinRefusal
joined_to room t None = Err NoName
joined_to room t (Some s) = Ok (appended room t s)

-- the string that an accepted call leaves, or the refusal
abbrev pub filled_in : {X : Type 0} → Result (Unit {0}) JoinRefusal → Option (List X) → Result (Option (List X)) JoinRefusal
filled_in (Ok u) s = Ok s
filled_in (Err e) s = Err e
