-- What a successful statement has to tell for its writes. Assumes nothing.
use Rattle.std.specs.Prelude.{◌≡◌, ℕ, suc, ◌<◌, ◌≤◌, List, ◌∷◌, length, Some, None, Option, slice_index}
use Rattle.std.specs.Coded.{Coded-set, coded_ℕ, le_prop, Unit-prop}
use Rattle.std.specs.List.{AllByRecursion, AllByRecursion-prop}
use Rattle.stores.specs.Names.{Names}
use Rattle.tables.specs.declared.row.Item.{Item}
use Rattle.tables.specs.declared.row.Item.TheVariants.{Operand, Variable}

-- the scanned string, the pattern's elements with a start and their ends, and the name that gets new contents, if there are any
pub record Success (X : Type 0) : Type 0 where
  pub subject : List X
  pub items : List Item
  pub start : ℕ
  pub ends : List ℕ
  pub reference : Option ℕ
  pub contents : List X

-- what a success tells, from its parts
abbrev pub telling : {X : Type 0} → List X → List Item → ℕ → List ℕ → Option ℕ → List X → Success X
telling subject items start ends reference contents =
    record { subject = subject; items = items; start = start; ends = ends; reference = reference; contents = contents }

-- the places as a placing has them: the start and then the ends
abbrev pub places : {X : Type 0} → Success X → List ℕ
places success = success.start ∷ success.ends

-- the places are those of a placing: one end for each element, all within the scanned string, never falling
pub record Placed {X : Type 0} (success : Success X) : Type 0 where
  pub whole : length (places success) ≡ suc (length success.items)
  pub within : (i : ℕ) → i < length (places success) → slice_index (places success) i ≤ length success.subject
  pub rising : (i : ℕ) → suc i < length (places success) → slice_index (places success) i ≤ slice_index (places success) (suc i)

-- k is the number of one of n names
pub record In (n k : ℕ) : Type 0 where
  pub low : 1 ≤ k
  pub high : k ≤ n

-- a variable has one of n names
abbrev pub Numbered : ℕ → Item → Type 0
Numbered n (Operand o) = Unit {0}
Numbered n (Variable v) = In n v.name

-- the string reference is one of n names, where it gets new contents
abbrev pub Referred : ℕ → Option ℕ → Type 0
Referred n None = Unit {0}
Referred n (Some k) = In n k

-- a success of a checked statement over these names
pub record Sound {X : Type 0} (names : Names X) (success : Success X) : Type 0 where
  pub placed : Placed success
  pub variables : AllByRecursion (Numbered (length names.strings)) success.items
  pub referred : Referred (length names.strings) success.reference

-- each of these facts has one proof at most
pub Placed-prop : {X : Type 0} (success : Success X) → IsProp (Placed success)
Placed-prop success p q = λ i.
    record {
      whole = Coded-set coded_ℕ _ _ p.whole q.whole i;
      within = λ k h. le_prop (p.within k h) (q.within k h) i;
      rising = λ k h. le_prop (p.rising k h) (q.rising k h) i;
    }

In-prop : (n k : ℕ) → IsProp (In n k)
In-prop n k p q = λ i. record { low = le_prop p.low q.low i; high = le_prop p.high q.high i }

Numbered-prop : (n : ℕ) (item : Item) → IsProp (Numbered n item)
Numbered-prop n (Operand o) = Unit-prop
Numbered-prop n (Variable v) = In-prop n v.name

Referred-prop : (n : ℕ) (reference : Option ℕ) → IsProp (Referred n reference)
Referred-prop n None = Unit-prop
Referred-prop n (Some k) = In-prop n k

pub Sound-prop : {X : Type 0} (names : Names X) (success : Success X) → IsProp (Sound names success)
Sound-prop names success p q = λ i.
    record {
      placed = Placed-prop success p.placed q.placed i;
      variables = AllByRecursion-prop (Numbered (length names.strings)) (Numbered-prop (length names.strings)) success.items p.variables q.variables i;
      referred = Referred-prop (length names.strings) success.reference p.referred q.referred i;
    }
