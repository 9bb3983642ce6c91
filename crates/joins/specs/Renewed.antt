-- The new contents of a string reference. Assumes nothing.
use Rattle.std.specs.Prelude.{ℕ, ◌≤◌, cond, List, [], ◌∷◌, ◌++◌, length, take, drop, Some, None, Ok, Err, Option, Result, nat_lt}
use Rattle.std.specs.Option.{option_map}
use Rattle.stores.specs.Names.{Names}
use Rattle.tables.specs.declared.row.Item.{Item}
use Rattle.tables.specs.declared.row.RightSide.{RightSide}
use Rattle.tables.specs.Rows.{operands_in}
use Rattle.tables.specs.declared.sheet.NameTable.{NameTable}
use Rattle.changes.specs.Written.{named}
use Rattle.joins.specs.declared.refusal.JoinRefusal.{JoinRefusal}
use Rattle.joins.specs.declared.refusal.JoinRefusal.TheVariants.{NoName, TooLong}
use Rattle.joins.specs.Joined.{operands_joined}

-- where the last element ends; the start where there is no element
unfoldable pub last_end : ℕ → List ℕ → ℕ
last_end start [] = start
last_end start (e ∷ es) = last_end e es

-- a string between what a placing leaves of the scanned string; alone without pattern
abbrev pub around : {X : Type 0} → List X → List Item → ℕ → List ℕ → List X → List X
around subject [] start ends s = s
around subject (i ∷ is) start ends s = take start subject ++ (s ++ drop (last_end start ends) subject)

module _ {X : Type 0} (chars : X → List ℕ) (table : NameTable) (constants : List X) (names : Names X) (subject : List X) (items : List Item) (start : ℕ) (ends : List ℕ) (side : RightSide) where
  -- the operands joined under these names, between what a placing leaves of the scanned string; none where a `$` yields no name
  abbrev pub contents_around : Option (List X)
  contents_around = option_map (around subject items start ends) (operands_joined chars table constants names (operands_in side))

-- the new contents of the string reference: the operands are joined under the names once the variables took their parts
abbrev pub new_contents : {X : Type 0} → (X → List ℕ) → NameTable → List X → Names X → List X → List Item → ℕ → List ℕ → RightSide → Option (List X)
new_contents chars table constants names subject items start ends side =
    contents_around chars table constants (named subject start items ends names) subject items start ends side

-- a string that fits an area of `room` symbols
abbrev pub clipped : {X : Type 0} → ℕ → List X → Option (List X)
clipped room s = cond (nat_lt room (length s)) None (Some s)

-- what is answered for an area of `room` symbols: the contents, or that there are none, as there is no name, or none that fit
abbrev pub renew_answer : {X : Type 0} → ℕ → Option (List X) → Result (List X) JoinRefusal
renew_answer room None = Err NoName
renew_answer room (Some s) = cond (nat_lt room (length s)) (Err TooLong) (Ok s)

-- the contents at the front of an area, by their length, or the refusal
abbrev pub renewed_in : {X : Type 0} → Result ℕ JoinRefusal → List X → Result (List X) JoinRefusal
renewed_in (Ok n) area = Ok (take n area)
renewed_in (Err e) area = Err e

-- the length that is told is one of the area
abbrev pub Within : {X : Type 0} → Result ℕ JoinRefusal → List X → Type 0
Within (Ok n) area = n ≤ length area
Within (Err e) area = Unit {0}
