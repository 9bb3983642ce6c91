-- What a store means: numbered strings under two limits. Assumes nothing.
use Rattle.std.specs.Prelude.{◌≡◌, ℕ, zero, suc, ◌+◌, ◌-◌, ◌≤◌, List, [], ◌∷◌, length, slice_index_or, slice_set}
use Rattle.stores.specs.declared.limits.Limits.{Limits}

-- the strings by number, from 1; the longest that one may be; the most symbols of all together
pub record Names (X : Type 0) : Type 0 where
  pub strings : List (List X)
  pub longest : ℕ
  pub most : ℕ

-- how many symbols some strings have together
abbrev pub size : {X : Type 0} → List (List X) → ℕ
size [] = 0
size (x ∷ xs) = length x + size xs

-- what a store means that was made against the check: no string, and both limits 0
abbrev pub nothing : {X : Type 0} → Names X
nothing = record { strings = []; longest = 0; most = 0 }

-- what a store tells of itself
abbrev pub limits : {X : Type 0} → Names X → Limits
limits names = record { names = length names.strings; longest = names.longest; most = names.most }

-- the string of number k, null where no string has the number
unfoldable pub under : {X : Type 0} → Names X → ℕ → List X
under names zero = []
under names (suc k) = slice_index_or names.strings k []

-- the names once number k has the string s
unfoldable pub with_string : {X : Type 0} → Names X → ℕ → List X → Names X
with_string names k s = record { strings = slice_set names.strings (k - 1) s; longest = names.longest; most = names.most }

-- what holds of every store: no limit above its range, each string and all together within the limits,
-- and only a store without strings has a limit of 0
pub record Bounded {X : Type 0} (names : Names X) : Type 0 where
  pub few : length names.strings ≤ 64
  pub short : names.longest ≤ 4096
  pub small : names.most ≤ 65536
  pub each : (k : ℕ) → length (under names k) ≤ names.longest
  pub total : size names.strings ≤ names.most
  pub made : 1 ≤ length names.strings → (1 ≤ names.longest) × (1 ≤ names.most)
  pub unmade : length names.strings ≡ 0 → (names.longest ≡ 0) × (names.most ≡ 0)
