-- The theorems: what the enumeration, its first placing, its count and its answer are in terms of placings. Assumes nothing.
use Rattle.std.specs.Prelude.{◌≡◌, ℕ, Bool, List, Some, None, Decides}
use Rattle.std.specs.List.{ContainsAt, AllByRecursion}
use Rattle.symbols.specs.declared.role.Role.{Role}
use Rattle.placings.specs.declared.mode.Mode.{Mode}
use Rattle.placings.specs.Pattern.{Element}
use Rattle.placings.specs.Order.{Ascending, Number}
use Rattle.placings.specs.Placing.{Partial, Placing, Unplaced, Earliest, UpTo, Trial}
use Rattle.placings.specs.Enumeration.{Told, partials, verdict, tried, scanned}
use Rattle.placings.specs.Says.{Says}

-- a test of symbols that answers whether they are equal
abbrev pub Equality : (A : Type 0) → (A → A → Bool) → Type 0
Equality A eq = (x y : A) → Decides (eq x y) (x ≡ y)

-- a statement for every test of equality, every assignment of roles, every mode, subject and pattern
abbrev pub ForAll : (A : Type 0) → ((A → A → Bool) → (A → Role) → Mode → List A → List (Element A) → Type 0) → Type 0
ForAll A P = (eq : A → A → Bool) → Equality A eq → (role : A → Role) (mode : Mode) (s : List A) (pattern : List (Element A)) → P eq role mode s pattern

-- the enumeration: the partial placings, all of them and nothing else, in scan order
pub record Enumerates {A : Type 0} (eq : A → A → Bool) (role : A → Role) (mode : Mode) (s : List A) (pattern : List (Element A)) : Type 0 where
  pub sound : AllByRecursion (Partial role mode s pattern) (partials eq role mode s pattern)
  pub complete : (p : List ℕ) → Partial role mode s pattern p → ContainsAt (partials eq role mode s pattern) p
  pub ascending : Ascending (partials eq role mode s pattern)

-- the verdict: there is one exactly where there is a placing, and it is the first placing
pub record Decided {A : Type 0} (eq : A → A → Bool) (role : A → Role) (mode : Mode) (s : List A) (pattern : List (Element A)) : Type 0 where
  pub none : verdict eq role mode s pattern ≡ None → Unplaced role mode s pattern
  pub only : Unplaced role mode s pattern → verdict eq role mode s pattern ≡ None
  pub some : (q : List ℕ) → Placing role mode s pattern q → (p : List ℕ) × (verdict eq role mode s pattern ≡ Some p)
  pub earliest : (p : List ℕ) → verdict eq role mode s pattern ≡ Some p → Earliest role mode s pattern p
  pub reached : (p : List ℕ) → Earliest role mode s pattern p → verdict eq role mode s pattern ≡ Some p

-- the trials: the number of partial placings up to and with the first placing, or of all if there is none; either way of those that come after no placing
pub record Counted {A : Type 0} (eq : A → A → Bool) (role : A → Role) (mode : Mode) (s : List A) (pattern : List (Element A)) : Type 0 where
  pub up_to : (p : List ℕ) → Earliest role mode s pattern p → Number (UpTo role mode s pattern p) (tried eq role mode s pattern)
  pub all : Unplaced role mode s pattern → Number (Partial role mode s pattern) (tried eq role mode s pattern)
  pub trials : Number (Trial role mode s pattern) (tried eq role mode s pattern)

-- the answer: at every allowance what it says holds of the placings
abbrev pub Answered : {A : Type 0} → (A → A → Bool) → (A → Role) → Mode → List A → List (Element A) → Type 0
Answered eq role mode s pattern = (allowance : ℕ) → Says role mode s pattern allowance (scanned eq role mode s pattern allowance)

-- the only answer: what any other says does not hold
abbrev pub Determined : {A : Type 0} → (A → A → Bool) → (A → Role) → Mode → List A → List (Element A) → Type 0
Determined eq role mode s pattern = (allowance : ℕ) (told : Told) → Says role mode s pattern allowance told → told ≡ scanned eq role mode s pattern allowance
