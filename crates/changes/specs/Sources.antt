-- The one source of a name's string after a success. Assumes nothing.
use Rattle.std.specs.Prelude.{◌≡◌, ℕ, ◌≤◌, Bool, false, cond, List, [], ◌∷◌, Some, None, Option, ◌==◌}
use Rattle.std.specs.Bool.{then_some}
use Rattle.std.specs.Option.{option_or}
use Rattle.placings.specs.Pattern.{part}
use Rattle.stores.specs.Names.{Names, under}
use Rattle.stores.specs.Puts.{put_or}
use Rattle.tables.specs.declared.row.Item.{Item}
use Rattle.tables.specs.Rows.{is_variable}
use Rattle.changes.specs.Success.{Success}

-- the part of the last variable of the name k, if there is one
unfoldable pub last_part : {X : Type 0} → List X → ℕ → ℕ → List Item → List ℕ → Option (List X)
last_part subject k start [] ends = None
last_part subject k start (i ∷ is) [] = None
last_part subject k start (i ∷ is) (e ∷ es) = option_or (last_part subject k e is es) (then_some (is_variable k i) (part subject start e))

-- whether the name k is the string reference and gets new contents
abbrev pub is_reference : Option ℕ → ℕ → Bool
is_reference None k = false
is_reference (Some t) k = t == k

-- the string that the name k gets, if it is written at all: the new contents, else the last part that it takes
unfoldable pub new_string : {X : Type 0} → Success X → ℕ → Option (List X)
new_string success k = cond (is_reference success.reference k) (Some success.contents) (last_part success.subject k success.start success.items success.ends)

-- where the string of a name comes from: it is kept, or the part of the scanned string from one place up to another, or the new contents of the string reference
pub data Source : Type 0 where
  Kept : Source
  Part : ℕ → ℕ → Source
  Contents : Source

-- a source, or another where it is kept
abbrev pub later : Source → Source → Source
later Kept s = s
later (Part a b) s = Part a b
later Contents s = Contents

-- where the part of the last variable of the name k lies
unfoldable pub last_places : ℕ → ℕ → List Item → List ℕ → Source
last_places k start [] ends = Kept
last_places k start (i ∷ is) [] = Kept
last_places k start (i ∷ is) (e ∷ es) = later (last_places k e is es) (cond (is_variable k i) (Part start e) Kept)

-- the source of the name k: the new contents, else the last part that it takes, else what it had
unfoldable pub source : {X : Type 0} → Success X → ℕ → Source
source success k = cond (is_reference success.reference k) Contents (last_places k success.start success.items success.ends)

-- the string that a source gives, if the name is written at all
abbrev pub value : {X : Type 0} → Success X → Source → Option (List X)
value success Kept = None
value success (Part a b) = Some (part success.subject a b)
value success Contents = Some success.contents

-- a part lies within n symbols
abbrev pub Cuts : ℕ → Source → Type 0
Cuts n Kept = Unit {0}
Cuts n (Part a b) = (a ≤ b) × (b ≤ n)
Cuts n Contents = Unit {0}

-- each name has the string that it gets, or what it had before
abbrev pub OneSource : {X : Type 0} → Success X → Names X → Names X → Type 0
OneSource success before after = (k : ℕ) → under after k ≡ put_or (new_string success k) (under before k)
