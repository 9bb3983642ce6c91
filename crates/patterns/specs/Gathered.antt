-- What is gathered of a statement's pattern for a scan. Assumes nothing.
use Rattle.std.specs.Prelude.{◌≡◌, ℕ, ◌*◌, ◌≤◌, Bool, cond, List, length, take, Some, None, Ok, Err, Option, Result, nat_lt}
use Rattle.symbols.specs.declared.role.Role.{Role}
use Rattle.placings.specs.declared.mode.Mode.{Mode}
use Rattle.placings.specs.Enumeration.{scanned}
use Rattle.placings.specs.Pattern as placings
use Rattle.scan.specs.declared.element.Element.{Element}
use Rattle.scan.specs.Answers.{returned, scan_answer}
use Rattle.scan.specs.Elements.{pattern}
use Rattle.patterns.specs.declared.gathered.Gathered.{Gathered}
use Rattle.patterns.specs.declared.gathered.PatternRefusal.{PatternRefusal}
use Rattle.patterns.specs.declared.gathered.PatternRefusal.TheVariants.{ShortArea, NoName}
use Rattle.patterns.specs.Fitted.{fitted, Alike}

-- the numbers by which the outside knows the refusals
abbrev pub pattern_number : PatternRefusal → ℕ
pattern_number ShortArea = 23
pattern_number NoName = 24

-- the elements that were gathered
abbrev pub elements_in : Gathered → List Element
elements_in g = take g.count g.elements

-- the pattern that they stand for over an area, or the refusal
abbrev pub gathered : {X : Type 0} → List X → Result Gathered PatternRefusal → Result (List (placings.Element X)) PatternRefusal
gathered area (Ok g) = Ok (pattern area (elements_in g))
gathered area (Err e) = Err e

-- a pattern fitted for subjects of at most l symbols; refused where there is none
abbrev pub fitted_or : {X : Type 0} → ℕ → Option (List (placings.Element X)) → Result (List (placings.Element X)) PatternRefusal
fitted_or l None = Err NoName
fitted_or l (Some p) = Ok (fitted l p)

-- what is to be gathered in an area of `room` symbols: eight constants of l symbols must find room
abbrev pub gather_answer : {X : Type 0} → ℕ → ℕ → Option (List (placings.Element X)) → Result (List (placings.Element X)) PatternRefusal
gather_answer room l p = cond (nat_lt room (8 * l)) (Err ShortArea) (fitted_or l p)

-- the gathered elements serve for the pattern p: in every subject of at most l symbols a scan of them answers what p's placings tell
pub record Serves {X : Type 0} (l : ℕ) (area : List X) (elements : List Element) (p : List (placings.Element X)) : Type 0 where
  pub alike : Alike l (pattern area elements) p
  pub scans : (eq : X → X → Bool) (role : X → Role) (mode : Mode) (s : List X) (allowance : ℕ) → length s ≤ l → 1 ≤ length p → 1 ≤ allowance → allowance ≤ 1000000
      → scan_answer eq role mode s area elements allowance ≡ returned (scanned eq role mode s p allowance)

-- what was gathered serves for the pattern, if there is one
abbrev pub Served : {X : Type 0} → ℕ → List X → Option (List (placings.Element X)) → Result Gathered PatternRefusal → Type 0
Served {X} l area o (Ok g) = (p : List (placings.Element X)) → o ≡ Some p → Serves l area (elements_in g) p
Served {X} l area o (Err e) = Unit {0}
