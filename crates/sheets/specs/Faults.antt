-- Which of a line's faults counts: the one of the smallest column, then of the smallest number. Assumes nothing.
use Rattle.std.specs.Prelude.{◌≡◌, ℕ, Bool, true, cond, ◌&&◌, ◌||◌, List, [], ◌∷◌, Some, None, Option, ◌==◌, ◌≢◌, nat_lt}
use mathlib.Core.List.{Memᴰ}
use Rattle.sheets.specs.declared.fault.Cause.{Cause}
use Rattle.sheets.specs.declared.fault.Fault.{Fault}
use Rattle.sheets.specs.declared.fault.LineFault.{LineFault}
use Rattle.sheets.specs.declared.fault.Refusal.{Refusal}
use Rattle.sheets.specs.declared.fault.SymbolAt.{SymbolAt}
use Rattle.sheets.specs.Causes.{number}

-- a fault at a column
abbrev pub fault : ℕ → Cause → Fault
fault c w = record { column = c; cause = w }

-- a symbol fault as a fault of its line
abbrev pub symbol_fault : SymbolAt → Fault
symbol_fault e = fault e.column (Cause.Symbol e.fault)

-- a line's fault as the refusal of the sheet
abbrev pub refused_at : LineFault → Refusal
refused_at e = record { line = e.line; column = e.fault.column; cause = e.fault.cause }

-- a refusal that has no place
abbrev pub nowhere : Cause → Refusal
nowhere w = record { line = 0; column = 0; cause = w }

-- the smaller column, then the smaller number
abbrev pub before : Fault → Fault → Bool
before f g = nat_lt f.column g.column || (f.column == g.column && nat_lt (number f.cause) (number g.cause))

-- the fault of two that counts
abbrev pub least : Option Fault → Option Fault → Option Fault
least None b = b
least (Some f) None = Some f
least (Some f) (Some g) = cond (before g f) (Some g) (Some f)

-- the fault that counts among all
abbrev pub first : List Fault → Option Fault
first [] = None
first (f ∷ fs) = least (Some f) (first fs)

-- what that says: it is one of them, and none is before it
abbrev pub Counts : List Fault → Option Fault → Type 0
Counts fs None = fs ≡ []
Counts fs (Some f) = Memᴰ f fs × ((g : Fault) → Memᴰ g fs → before g f ≢ true)
