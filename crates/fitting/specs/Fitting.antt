-- That what a load wrote may be worked with. Assumes nothing.
use Rattle.std.specs.Prelude.{◌≡◌, ℕ, ◌≤◌, true, List, length, None, Option}
use Rattle.symbols.specs.Answers.{over}
use Rattle.tables.specs.Tables.{counts}
use Rattle.tables.specs.Rows.{Row}
use Rattle.load.specs.Tables.{load_refusal, sheet_rows, sheet_of}
use Rattle.checks.specs.Fits.{sheet_fits, admits}

-- every sheet that a load accepts fits the rows that it wrote and the area of its constants
abbrev pub Loaded-fits : {X : Type 0} → (List ℕ → Option X) → ℕ → Type 0
Loaded-fits {X} meant wide =
    (text : List ℕ) (rows : List Row) (constants : List X) → load_refusal meant wide (length rows) (length constants) text ≡ None
    → sheet_fits (sheet_of meant wide text) (over (sheet_rows meant wide text) rows) (length constants) ≡ true

-- so a session that was opened with it may work with it, over every store that has a name for each of the sheet's
abbrev pub Loaded-admitted : {X : Type 0} → (List ℕ → Option X) → ℕ → Type 0
Loaded-admitted {X} meant wide =
    (text : List ℕ) (rows : List Row) (constants : List X) → load_refusal meant wide (length rows) (length constants) text ≡ None
    → (names : ℕ) → (sheet_of meant wide text).names.count ≤ names
    → admits names (counts (sheet_of meant wide text)) (sheet_of meant wide text) (over (sheet_rows meant wide text) rows) (length constants) ≡ true
