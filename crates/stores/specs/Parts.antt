-- Strings that lie in one area, by a table of their lengths. Assumes nothing.
use Rattle.std.specs.Prelude.{◌≡◌, ℕ, zero, suc, ◌+◌, ◌≤◌, min, List, [], ◌∷◌, ◌++◌, length, take, drop, None}
use Rattle.stores.specs.declared.part.Part.{Part}
use Rattle.stores.specs.Names.{Names, under}
use Rattle.stores.specs.Calls.{number_refusal}

-- the first n lengths of a table, each read as at most l, and as 0 where the table has none
abbrev pub lengths : ℕ → ℕ → List ℕ → List ℕ
lengths zero l table = []
lengths (suc n) l [] = 0 ∷ lengths n l []
lengths (suc n) l (x ∷ table) = min x l ∷ lengths n l table

-- the strings of these lengths, one behind the other, where one of n symbols takes up `width n` of the area
abbrev pub parts : {X : Type 0} → (ℕ → ℕ) → List ℕ → List X → List (List X)
parts width [] area = []
parts width (n ∷ ns) area = take n area ∷ parts width ns (drop (width n) area)

-- n names under the limits l and t whose strings lie so
abbrev pub laid : {X : Type 0} → (ℕ → ℕ) → List X → List ℕ → ℕ → ℕ → ℕ → Names X
laid width area table n l t = record { strings = parts width (lengths n l table) area; longest = l; most = t }

-- the part of the area is the string of number k
pub record Lies {X : Type 0} (names : Names X) (area : List X) (k : ℕ) (part : Part) : Type 0 where
  pub accepts : number_refusal names k ≡ None
  pub within : part.start + part.length ≤ length area
  pub string : under names k ≡ take part.length (drop part.start area)

-- the string s written into an area from `start` on: all before and behind it is as it was
abbrev pub written : {X : Type 0} → ℕ → List X → List X → List X
written start s area = take start area ++ (s ++ drop (length s) (drop start area))
