-- How far the sheet reaches in the input of the bench. Assumes nothing.
use Rattle.std.specs.Prelude.{ℕ, ◌+◌, min, cond, List, [], ◌∷◌, length}
use Rattle.sheets.specs.Sheets.{lines_of}
use Rattle.sheets.specs.LineFaults.{labelled_end}

-- the length of the lines up to and with the first that is labelled END, each with its code 10; of all lines where none is
unfoldable pub sheet_length : List (List ℕ) → ℕ
sheet_length [] = 0
sheet_length (l ∷ ls) = cond (labelled_end l) (length l + 1) ((length l + 1) + sheet_length ls)

-- where the sheet ends; the last line of a text may lack its code 10
abbrev pub sheet_end : List ℕ → ℕ
sheet_end text = min (sheet_length (lines_of text)) (length text)
