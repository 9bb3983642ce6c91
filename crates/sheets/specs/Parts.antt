-- Words of a text by their places, and where a word first stands. Assumes nothing.
use Rattle.std.specs.Prelude.{◌≡◌, ℕ, ◌+◌, ◌<◌, cond, List, [], ◌∷◌, ◌++◌, map, length, take, drop, Some, None, Option, ◌≢◌, slice_index_or}
use Rattle.std.specs.Str.{bytes_eq}
use Rattle.sheets.specs.declared.part.Part.{Part}
use Rattle.sheets.specs.declared.part.Words.{Words}

-- the characters of a part
unfoldable pub part_of : List ℕ → Part → List ℕ
part_of text p = take p.size (drop p.start text)

-- what words spell
abbrev pub words : Words → List (List ℕ)
words w = map (part_of w.text.now) w.parts.now

-- the first place of a word, counted from i
unfoldable pub position_from : ℕ → List ℕ → List (List ℕ) → Option ℕ
position_from i x [] = None
position_from i x (y ∷ ys) = cond (bytes_eq y x) (Some i) (position_from (i + 1) x ys)

-- the first place of a word among words, if it is one of them
abbrev pub position : List ℕ → List (List ℕ) → Option ℕ
position x ys = position_from 0 x ys

-- what that says: the word stands there and at no place before; absent, it stands nowhere
abbrev pub First : List ℕ → List (List ℕ) → Option ℕ → Type 0
First x ys None = (k : ℕ) → k < length ys → slice_index_or ys k [] ≢ x
First x ys (Some n) = (n < length ys) × (slice_index_or ys n [] ≡ x) × ((k : ℕ) → k < n → slice_index_or ys k [] ≢ x)

-- words, with one more where it was not found
abbrev pub or_added : Option ℕ → List ℕ → List (List ℕ) → List (List ℕ)
or_added None x ys = ys ++ (x ∷ [])
or_added (Some n) x ys = ys

-- a word that is new comes last
abbrev pub with_word : List ℕ → List (List ℕ) → List (List ℕ)
with_word x ys = or_added (position x ys) x ys
