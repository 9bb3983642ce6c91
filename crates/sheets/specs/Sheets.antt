-- A sheet's text as its lines, and what it is refused for. Assumes nothing.
pub use Rattle.lines.specs.Texts.{lines_of, line_length, on_first}
use Rattle.std.specs.Prelude.{◌≡◌, ℕ, ◌+◌, false, List, [], ◌∷◌, Some, None, Ok, Err, Option, Result}
use Rattle.symbols.specs.declared.fault.TextFault.{TextFault}
use Rattle.sheets.specs.declared.check.Carried.{Carried}
use Rattle.sheets.specs.declared.fault.Fault.{Fault}
use Rattle.sheets.specs.declared.fault.LineFault.{LineFault}
use Rattle.sheets.specs.declared.fault.Refusal.{Refusal}
use Rattle.sheets.specs.declared.part.Part.{Part}
use Rattle.sheets.specs.Faults.{first, refused_at}
use Rattle.sheets.specs.LineFaults.{Brought, line_faults, with_line, carried, Limited}

-- a line's fault as the refusal of the sheet, or else what comes after the line
abbrev pub refused_first : Option Fault → ℕ → Option Refusal → Option Refusal
refused_first None k r = r
refused_first (Some f) k r = Some (refused_at (record { line = k; fault = f }))

-- before the first line nothing is brought
abbrev pub nothing : Brought
nothing = record { statements = 0; labels = []; symbols = 0; names = []; ended = false }

module _ (reads : List ℕ → Result ℕ TextFault) where
  -- the earliest line with a fault counts; the first line is k, and n was brought before it
  unfoldable pub lines_refusal : ℕ → Brought → List (List ℕ) → Option Refusal
  lines_refusal k n [] = None
  lines_refusal k n (l ∷ ls) = refused_first (first (line_faults reads n l)) k (lines_refusal (k + 1) (with_line reads n l) ls)

  -- what lines bring, after n
  unfoldable pub brought_by : Brought → List (List ℕ) → Brought
  brought_by n [] = n
  brought_by n (l ∷ ls) = brought_by (with_line reads n l) ls

-- what checking one line with a number answers
abbrev pub Numbered : Option Fault → ℕ → Brought → List ℕ → List Part → List Part → Result Carried LineFault → Type 0
Numbered fault k n text names labels (Ok c) = (fault ≡ None) × (carried text names labels c ≡ n) × Limited c
Numbered fault k n text names labels (Err e) = (fault ≡ Some e.fault) × (e.line ≡ k)

-- what checking all lines answers: the refusal that counts; or what they brought, within all limits
abbrev pub Read : Option Refusal → Brought → List ℕ → List Part → List Part → Result Carried Refusal → Type 0
Read refusal n text names labels (Ok c) = (refusal ≡ None) × (carried text names labels c ≡ n) × Limited c
Read refusal n text names labels (Err f) = refusal ≡ Some f
