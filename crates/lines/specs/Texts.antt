-- A text as its lines. Assumes nothing.
use Rattle.std.specs.Prelude.{◌≡◌, ℕ, suc, cond, List, [], ◌∷◌, length, take, drop, ◌==◌}

-- one more character in front of the first line
abbrev pub on_first : ℕ → List (List ℕ) → List (List ℕ)
on_first c [] = (c ∷ []) ∷ []
on_first c (l ∷ ls) = (c ∷ l) ∷ ls

-- each line ends with code 10; the last may lack it
unfoldable pub lines_of : List ℕ → List (List ℕ)
lines_of [] = []
lines_of (c ∷ s) = cond (c == 10) ([] ∷ lines_of s) (on_first c (lines_of s))

-- how long the first line is
unfoldable pub line_length : List ℕ → ℕ
line_length [] = 0
line_length (c ∷ s) = cond (c == 10) 0 (suc (line_length s))

-- the line stands in the text from a place on
abbrev pub Lies : List ℕ → ℕ → List ℕ → Type 0
Lies text k s = s ≡ take (length s) (drop k text)
