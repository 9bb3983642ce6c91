-- Why each call of a session is refused, and what the calls that change nothing answer. Assumes nothing.
use Rattle.std.specs.Prelude.{ℕ, Bool, cond, ◌&&◌, List, length, Some, None, Option, Result, nat_le}
use Rattle.std.specs.Option.{option_map}
use Rattle.symbols.specs.Answers.{answered, unless, over}
use Rattle.placings.specs.declared.mode.Mode.{Mode}
use Rattle.placings.specs.Modes.{mode_word}
use Rattle.stores.specs.Names.{Names, under}
use Rattle.stores.specs.Calls.{put_refusal, fetch_refusal}
use Rattle.tables.specs.Lookups.{name_number}
use Rattle.tables.specs.Tables.{counts}
use Rattle.tables.specs.Rows.{Row}
use Rattle.tables.specs.declared.sheet.Sheet.{Sheet}
use Rattle.tables.specs.declared.sheet.Tables.{Tables}
use Rattle.checks.specs.Fits.{numbered, admits}
use Rattle.session.specs.declared.refusal.Refusal.{Refusal}
use Rattle.session.specs.declared.refusal.Refusal.TheVariants.{RecordFull, OutOfRange, NoWord, Unfit}
use Rattle.session.specs.Refusals.{stored, first_of}
use Rattle.session.specs.State.{State}

-- a sheet and its tables may be opened over names: room is how many symbols of constants were lent
abbrev pub opens : {X : Type 0} → Names X → Sheet → List Row → ℕ → Bool
opens names sheet rows room = admits (length names.strings) (counts sheet) sheet rows room

-- lent tables are fit to work with in a session
abbrev pub fits : {X : Type 0} → State X → Tables X → Bool
fits s lent = s.admitted && admits (length s.names.strings) s.counts lent.sheet.now lent.rows.now (length lent.constants.now)

-- the refusal of a session that was opened against the check
abbrev pub unfit : Bool → Option Refusal
unfit fitted = cond fitted None (Some Unfit)

-- the refusal of a number that no name of the sheet has
abbrev pub unknown : {X : Type 0} → State X → ℕ → Option Refusal
unknown s k = cond (numbered s.counts.names k) None (Some OutOfRange)

-- the refusal of a record area that takes no more
unfoldable pub full : {X : Type 0} → State X → Option Refusal
full s = cond (nat_le s.room s.recorded) (Some RecordFull) None

-- the refusal of a word that chooses no mode
abbrev pub no_mode : Option Mode → Option Refusal
no_mode None = Some NoWord
no_mode (Some mode) = None

-- why a sheet is not opened
abbrev pub open_refusal : {X : Type 0} → Names X → Sheet → List Row → ℕ → Option Refusal
open_refusal names sheet rows room = unfit (opens names sheet rows room)

-- why name k is not given the string xs
abbrev pub give_refusal : {X : Type 0} → State X → ℕ → List X → Option Refusal
give_refusal s k xs = first_of (unfit s.admitted) (first_of (unknown s k) (first_of (full s) (option_map stored (put_refusal s.names k xs))))

-- why a word does not set the mode
abbrev pub word_refusal : {X : Type 0} → State X → List ℕ → Option Refusal
word_refusal s word = first_of (unfit s.admitted) (first_of (no_mode (mode_word word)) (full s))

-- why the sheet is not started again
abbrev pub restart_refusal : {X : Type 0} → State X → Option Refusal
restart_refusal s = first_of (unfit s.admitted) (full s)

-- why name k's contents are not copied to an area of so many symbols
abbrev pub look_refusal : {X : Type 0} → State X → ℕ → ℕ → Option Refusal
look_refusal s k room = first_of (unfit s.admitted) (first_of (unknown s k) (option_map stored (fetch_refusal s.names k room)))

-- what a look answers, and the area after it: the contents over its front
abbrev pub look_answer : {X : Type 0} → State X → ℕ → List X → Result ℕ Refusal
look_answer s k area = answered (look_refusal s k (length area)) (length (under s.names k))

-- the area after a look: the contents over its front
abbrev pub after_look : {X : Type 0} → State X → ℕ → List X → List X
after_look s k area = unless (look_refusal s k (length area)) area (over (under s.names k) area)

-- the number of a name in tables that fit, by its characters
abbrev pub found : {X : Type 0} → State X → Tables X → List ℕ → Option ℕ
found s lent chars = cond (fits s lent) (name_number lent.sheet.now.names chars) None
