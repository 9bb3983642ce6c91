-- What a scan answers. Assumes nothing.
use Rattle.std.specs.Prelude.{ℕ, ◌-◌, Bool, cond, ◌&&◌, List, [], ◌∷◌, ◌++◌, length, take, replicate, Ok, Err, Result, nat_le}
use Rattle.symbols.specs.declared.role.Role.{Role}
use Rattle.placings.specs.declared.mode.Mode.{Mode}
use Rattle.placings.specs.Enumeration.{Told, success, failure, spent, scanned}
use Rattle.placings.specs.Says.{Says}
use Rattle.placings.specs.Pattern as placings
use Rattle.scan.specs.declared.answer.Placed.{Placed}
use Rattle.scan.specs.declared.answer.Scanned.{Scanned}
use Rattle.scan.specs.declared.answer.Verdict.{Verdict}
use Rattle.scan.specs.declared.answer.Verdict.TheVariants.{Success, Failure}
use Rattle.scan.specs.declared.answer.ScanRefusal.{ScanRefusal}
use Rattle.scan.specs.declared.answer.ScanRefusal.TheVariants.{Spent, OutOfRange}
use Rattle.scan.specs.declared.element.Element.{Element}
use Rattle.scan.specs.Elements.{pattern, all_fit}

-- the numbers by which the outside knows the refusals
abbrev pub refusal_number : ScanRefusal → ℕ
refusal_number Spent = 25
refusal_number OutOfRange = 27

-- eight ends: those of the elements, and 0 beyond
abbrev pub eight : List ℕ → List ℕ
eight ends = ends ++ replicate (8 - length ends) 0

-- a placing by its places, the start and then the ends
abbrev pub placed : List ℕ → Placed
placed [] = record { start = 0; count = 0; ends = eight [] }
placed (start ∷ ends) = record { start = start; count = length ends; ends = eight ends }

-- what a scan returns of what it has to tell
abbrev pub returned : Told → Result Scanned ScanRefusal
returned (success places trials) = Ok (record { verdict = Success (placed places); trials = trials })
returned (failure trials) = Ok (record { verdict = Failure; trials = trials })
returned spent = Err Spent

-- whether a scan may be made: 1 to 8 elements that fit c constants, and 1 to 1,000,000 trials
abbrev pub in_range : ℕ → List Element → ℕ → Bool
in_range c elements allowance = nat_le 1 (length elements) && (nat_le (length elements) 8 && (nat_le 1 allowance && (nat_le allowance 1000000 && all_fit c 0 elements)))

-- the answer of a scan: out of range, or what the enumeration of the partial placings tells
abbrev pub scan_answer : {A : Type 0} → (A → A → Bool) → (A → Role) → Mode → List A → List A → List Element → ℕ → Result Scanned ScanRefusal
scan_answer eq role mode s constants elements allowance = cond (in_range (length constants) elements allowance) (returned (scanned eq role mode s (pattern constants elements) allowance)) (Err OutOfRange)

-- the places of a placing
abbrev pub places_of : Placed → List ℕ
places_of p = p.start ∷ take p.count p.ends

-- what a verdict and its trials tell
abbrev pub heard : Verdict → ℕ → Told
heard (Success p) trials = success (places_of p) trials
heard Failure trials = failure trials

-- what an answer says of the placings; out of range it says nothing
abbrev pub AnswerSays : {A : Type 0} → (A → Role) → Mode → List A → List (placings.Element A) → ℕ → Result Scanned ScanRefusal → Type 0
AnswerSays role mode s pattern allowance (Ok r) = Says role mode s pattern allowance (heard r.verdict r.trials)
AnswerSays role mode s pattern allowance (Err Spent) = Says role mode s pattern allowance spent
AnswerSays role mode s pattern allowance (Err OutOfRange) = Unit {0}
