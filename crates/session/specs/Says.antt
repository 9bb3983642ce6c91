-- What the answer of a step says of the placings. Assumes nothing.
use Rattle.std.specs.Prelude.{◌≡◌, ℕ, List, [], ◌∷◌, Some, Ok, Err, Result}
use Rattle.symbols.specs.declared.role.Role.{Role}
use Rattle.placings.specs.declared.mode.Mode.{Mode}
use Rattle.placings.specs.Enumeration.{spent}
use Rattle.placings.specs.Pattern.{Element}
use Rattle.placings.specs.Says.{Says}
use Rattle.scan.specs.declared.answer.Scanned.{Scanned}
use Rattle.scan.specs.Answers.{heard}
use Rattle.stores.specs.Names.{under}
use Rattle.tables.specs.Rows.{Row}
use Rattle.tables.specs.declared.sheet.Tables.{Tables}
use Rattle.tables.specs.Tables.{tabled}
use Rattle.tables.specs.Rows.{items_in}
use Rattle.patterns.specs.Meant.{meant}
use Rattle.patterns.specs.Resolved.{resolved}
use Rattle.statements.specs.Sought.{unscanned_success}
use Rattle.session.specs.declared.refusal.Refusal.{Refusal}
use Rattle.session.specs.declared.refusal.Refusal.TheVariants.{AtEnd, RecordFull, ShortArea, NoName, Spent, TooLong, OutOfRange, NoWord, Unfit}
use Rattle.session.specs.State.{State}
use Rattle.session.specs.Steps.{number_of, row_of}

-- what S or F says of a subject: without pattern it is S, and nothing was looked for; otherwise S gives the first placing, F says that there is none, and the trials are the partial placings up to there, or all
abbrev pub Judges : {X : Type 0} → (X → Role) → Mode → List X → List (Element X) → ℕ → Scanned → Type 0
Judges role mode subject [] allowance s = s ≡ unscanned_success
Judges role mode subject (p ∷ ps) allowance s = Says role mode subject (p ∷ ps) allowance (heard s.verdict s.trials)

-- P holds of what a step scans: the contents of the string reference of the statement that is next, and the pattern of that statement, both under the names before the step
pub record OfNext {X : Type 0} (chars : X → List ℕ) (s : State X) (lent : Tables X) (P : List X → List (Element X) → Type 0) : Type 0 where
  pub row : Row
  pub next : row_of (tabled lent).rows (number_of s.next) ≡ Some row
  pub reference : ℕ
  pub means : meant chars (tabled lent).names s.names row.reference ≡ Some reference
  pub pattern : List (Element X)
  pub resolves : resolved chars (tabled lent).names (tabled lent).constants s.names (items_in row.pattern) ≡ Some pattern
  pub holds : P (under s.names reference) pattern

-- what a step's answer says, in the mode that the state has: S and F as above; spent, that the trials of the scan are more than the allowance; any other refusal says nothing of placings
abbrev pub StepSays : {X : Type 0} → (X → Role) → (X → List ℕ) → State X → ℕ → Tables X → Result Scanned Refusal → Type 0
StepSays role chars s allowance lent (Ok scanned) = OfNext chars s lent (λ subject pattern. Judges role s.mode subject pattern allowance scanned)
StepSays role chars s allowance lent (Err Spent) = OfNext chars s lent (λ subject pattern. Says role s.mode subject pattern allowance spent)
StepSays role chars s allowance lent (Err AtEnd) = Unit {0}
StepSays role chars s allowance lent (Err RecordFull) = Unit {0}
StepSays role chars s allowance lent (Err ShortArea) = Unit {0}
StepSays role chars s allowance lent (Err NoName) = Unit {0}
StepSays role chars s allowance lent (Err TooLong) = Unit {0}
StepSays role chars s allowance lent (Err OutOfRange) = Unit {0}
StepSays role chars s allowance lent (Err NoWord) = Unit {0}
StepSays role chars s allowance lent (Err Unfit) = Unit {0}
