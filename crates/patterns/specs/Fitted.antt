-- A constant that is longer than every subject can be handed on as a length. Assumes nothing.
use Rattle.std.specs.Prelude.{◌≡◌, ℕ, ◌+◌, ◌≤◌, Bool, cond, List, map, length, nat_lt}
use Rattle.symbols.specs.declared.role.Role.{Role}
use Rattle.placings.specs.declared.mode.Mode.{Mode}
use Rattle.placings.specs.Pattern.{Element, constant, arbitrary, balanced, fixed, again}
use Rattle.placings.specs.Enumeration.{partials, scanned}

-- an element for subjects of at most l symbols: a constant over l suits none of their parts, as no part has l + 1
abbrev pub fit : {X : Type 0} → ℕ → Element X → Element X
fit l (constant w) = cond (nat_lt l (length w)) (fixed (l + 1)) (constant w)
fit l arbitrary = arbitrary
fit l balanced = balanced
fit l (fixed size) = fixed size
fit l (again j) = again j

-- a pattern for subjects of at most l symbols
abbrev pub fitted : {X : Type 0} → ℕ → List (Element X) → List (Element X)
fitted l pattern = map (fit l) pattern

-- two patterns have the same partial placings in every subject of at most l symbols, and a scan answers the same of both
pub record Alike {X : Type 0} (l : ℕ) (p q : List (Element X)) : Type 0 where
  pub count : length p ≡ length q
  pub tries : (eq : X → X → Bool) (role : X → Role) (mode : Mode) (s : List X) → length s ≤ l → partials eq role mode s p ≡ partials eq role mode s q
  pub answers : (eq : X → X → Bool) (role : X → Role) (mode : Mode) (s : List X) (allowance : ℕ) → length s ≤ l → scanned eq role mode s p allowance ≡ scanned eq role mode s q allowance
