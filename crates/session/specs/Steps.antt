-- The step of a session: the statement that is next, carried out. Assumes nothing.
use Rattle.std.specs.Prelude.{ℕ, zero, suc, ◌*◌, Bool, cond, ◌&&◌, ◌||◌, List, Some, None, Ok, Err, Option, Result, nat_le, nat_lt, slice_get}
use Rattle.symbols.specs.declared.role.Role.{Role}
use Rattle.scan.specs.declared.answer.Scanned.{Scanned}
use Rattle.scan.specs.declared.answer.Verdict.{Verdict}
use Rattle.scan.specs.declared.answer.Verdict.TheVariants as verdict
pub use Rattle.tables.specs.Rows.{number_of}
use Rattle.tables.specs.Rows.{Row}
use Rattle.tables.specs.declared.sheet.Tables.{Tables}
use Rattle.tables.specs.Tables.{Tabled, tabled}
use Rattle.statements.specs.declared.refusal.StatementRefusal.{StatementRefusal}
use Rattle.statements.specs.declared.seek.Sought.{Sought}
use Rattle.statements.specs.Carried.{left_by}
use Rattle.statements.specs.Settled.{Left}
use Rattle.statements.specs.Sought.{sought}
use Rattle.session.specs.declared.entry.Entry.{Entry}
use Rattle.session.specs.declared.entry.EntryKind.TheVariants.{Success, Failure}
use Rattle.session.specs.declared.refusal.Refusal.{Refusal}
use Rattle.session.specs.declared.refusal.Refusal.TheVariants.{AtEnd, ShortArea, OutOfRange}
use Rattle.session.specs.declared.step.Work.{Work}
use Rattle.session.specs.Calls.{fits, unfit, full}
use Rattle.session.specs.Effects.{Effect}
use Rattle.session.specs.Entries.{plain}
use Rattle.session.specs.Refusals.{first_of, stated}
use Rattle.session.specs.State.{State}

-- the row of statement k, counted from 1
abbrev pub row_of : List Row → ℕ → Option Row
row_of rows zero = None
row_of rows (suc k) = slice_get rows k

-- an allowance of trials that is not 1 to 1,000,000
abbrev pub not_allowed : ℕ → Option Refusal
not_allowed allowance = cond (nat_le 1 allowance && nat_le allowance 1000000) None (Some OutOfRange)

-- work areas by their lengths
abbrev pub work : ℕ → ℕ → ℕ → Work
work a b c = record { string = a; constants = b; contents = c }

-- work areas that do not serve strings of at most l symbols: the scanned string, the constants of eight elements, the new contents
abbrev pub too_short : ℕ → Work → Option Refusal
too_short l work = cond (nat_lt work.string l || (nat_lt work.constants (8 * l) || nat_lt work.contents l)) (Some ShortArea) None

-- what comes after a check
abbrev pub checked : {A : Type 0} → Option Refusal → Result A Refusal → Result A Refusal
checked (Some e) r = Err e
checked None r = r

-- what a step makes: the verdict, the names and the next statement
pub record Stepped (X : Type 0) : Type 0 where
  pub scanned : Scanned
  pub left : Left X

-- a verdict with what is left
abbrev pub stepped : {X : Type 0} → Result Sought StatementRefusal → Result (Left X) StatementRefusal → Result (Stepped X) Refusal
stepped (Ok s) (Ok l) = Ok (record { scanned = s.scanned; left = l })
stepped (Ok s) (Err e) = Err (stated e)
stepped (Err e) l = Err (stated e)

module _ {X : Type 0} (eq : X → X → Bool) (role : X → Role) (chars : X → List ℕ) (s : State X) (allowance : ℕ) where
  -- statement k carried out under the state's names and mode
  abbrev pub carried : Tabled X → ℕ → Row → Result (Stepped X) Refusal
  carried tables k row =
      stepped (sought eq role s.mode allowance chars tables.names tables.constants s.names row)
      (left_by chars tables k row s.names (sought eq role s.mode allowance chars tables.names tables.constants s.names row))

  -- what comes of the row that is ready
  abbrev pub carried_from : Tabled X → Result Row Refusal → Result (Stepped X) Refusal
  carried_from tables (Ok row) = carried tables (number_of s.next) row
  carried_from tables (Err e) = Err e

module _ {X : Type 0} (s : State X) (allowance : ℕ) (work : Work) where
  -- the next statement, if there is one: then the record's room, and the work areas
  abbrev pub row_ready : Option Row → Result Row Refusal
  row_ready None = Err AtEnd
  row_ready (Some row) = checked (first_of (full s) (too_short s.names.longest work)) (Ok row)

  -- the row of the statement that is next, once all checks before it are passed: first the tables and the allowance
  abbrev pub ready : Tables X → Result Row Refusal
  ready lent = checked (first_of (unfit (fits s lent)) (not_allowed allowance)) (row_ready (row_of (tabled lent).rows (number_of s.next)))

-- a step: the next statement is carried out under the names and the mode of the state
abbrev pub step : {X : Type 0} → (X → X → Bool) → (X → Role) → (X → List ℕ) → State X → ℕ → Work → Tables X → Result (Stepped X) Refusal
step eq role chars s allowance work lent = carried_from eq role chars s allowance (tabled lent) (ready s allowance work lent)

-- what a step answers
abbrev pub step_answer : {X : Type 0} → Result (Stepped X) Refusal → Result Scanned Refusal
step_answer (Ok d) = Ok d.scanned
step_answer (Err e) = Err e

-- the entry of statement k: S with its placing, or F
abbrev pub verdict_entry : ℕ → Verdict → Entry
verdict_entry k (verdict.Success p) = record { kind = Success; number = k; start = p.start; count = p.count; ends = p.ends }
verdict_entry k verdict.Failure = plain Failure k

-- what a step leaves, and its entry
abbrev pub step_effect : {X : Type 0} → State X → Result (Stepped X) Refusal → Result (Effect X) Refusal
step_effect s (Ok d) =
    Ok (record { names = d.left.names; mode = s.mode; next = d.left.next; entry = verdict_entry (number_of s.next) d.scanned.verdict })
step_effect s (Err e) = Err e
