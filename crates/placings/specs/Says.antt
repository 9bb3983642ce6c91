-- What an answer says of the placings. Assumes nothing.
use Rattle.std.specs.Prelude.{ℕ, ◌<◌, ◌≤◌, List}
use Rattle.symbols.specs.declared.role.Role.{Role}
use Rattle.placings.specs.declared.mode.Mode.{Mode}
use Rattle.placings.specs.Pattern.{Element}
use Rattle.placings.specs.Order.{Number}
use Rattle.placings.specs.Placing.{Partial, Unplaced, Earliest, UpTo, Trial}
use Rattle.placings.specs.Enumeration.{Told, success, failure, spent}

-- S: p is the first placing, and t the number of partial placings up to and with it
pub record Succeeds {A : Type 0} (role : A → Role) (mode : Mode) (s : List A) (pattern : List (Element A)) (allowance : ℕ) (p : List ℕ) (t : ℕ) : Type 0 where
  pub earliest : Earliest role mode s pattern p
  pub trials : Number (UpTo role mode s pattern p) t
  pub allowed : t ≤ allowance

-- F: there is no placing, and t is the number of all partial placings
pub record Fails {A : Type 0} (role : A → Role) (mode : Mode) (s : List A) (pattern : List (Element A)) (allowance t : ℕ) : Type 0 where
  pub unplaced : Unplaced role mode s pattern
  pub trials : Number (Partial role mode s pattern) t
  pub allowed : t ≤ allowance

-- spent: the trials of the scan are more than the allowance
pub record Exceeds {A : Type 0} (role : A → Role) (mode : Mode) (s : List A) (pattern : List (Element A)) (allowance : ℕ) : Type 0 where
  pub wanted : ℕ
  pub trials : Number (Trial role mode s pattern) wanted
  pub over : allowance < wanted

-- what an answer at an allowance of trials says
abbrev pub Says : {A : Type 0} → (A → Role) → Mode → List A → List (Element A) → ℕ → Told → Type 0
Says role mode s pattern allowance (success p t) = Succeeds role mode s pattern allowance p t
Says role mode s pattern allowance (failure t) = Fails role mode s pattern allowance t
Says role mode s pattern allowance spent = Exceeds role mode s pattern allowance
