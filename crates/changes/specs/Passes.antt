-- The two passes in which names are written, so that no put is refused on the way: first the null string is put for each, then its new one. Assumes nothing.
use Rattle.std.specs.Prelude.{◌≡◌, ℕ, zero, suc, ◌<◌, ◌≤◌, List, [], ◌∷◌, length, take, Some, None, Option, slice_index_or}
use Rattle.std.specs.Option.{option_map}
use Rattle.stores.specs.Names.{Names, size, with_string}
use Rattle.stores.specs.Calls.{put_refusal}
use Rattle.stores.specs.Puts.{put_or}
use Rattle.changes.specs.Success.{Success}
use Rattle.changes.specs.Sources.{new_string}

-- f at each of n numbers from k on
unfoldable pub listed : {A : Type 0} → (ℕ → A) → ℕ → ℕ → List A
listed f k zero = []
listed f k (suc n) = f k ∷ listed f (suc k) n

-- what a pass that puts `change s` for a new string s puts for each of n names, if anything
abbrev pub new_strings : {X : Type 0} → (List X → List X) → Success X → ℕ → List (Option (List X))
new_strings change success n = listed (λ k. option_map change (new_string success k)) 1 n

-- the strings, each replaced where there is a new one for it
abbrev pub replaced : {X : Type 0} → List (Option (List X)) → List (List X) → List (List X)
replaced [] ss = ss
replaced (o ∷ os) [] = []
replaced (o ∷ os) (s ∷ ss) = put_or o s ∷ replaced os ss

-- the names with other strings
abbrev pub with_strings : {X : Type 0} → Names X → List (List X) → Names X
with_strings names ss = record { strings = ss; longest = names.longest; most = names.most }

-- the names after a pass
abbrev pub after_pass : {X : Type 0} → (List X → List X) → Success X → Names X → Names X
after_pass change success names = with_strings names (replaced (new_strings change success (length names.strings)) names.strings)

-- the names once one of them has a new string, if there is one
abbrev pub changed : {X : Type 0} → Names X → ℕ → Option (List X) → Names X
changed names k None = names
changed names k (Some s) = with_string names k s

-- a new string, if there is one, can be put
abbrev pub Puts : {X : Type 0} → Names X → ℕ → Option (List X) → Type 0
Puts names k None = Unit {0}
Puts names k (Some s) = put_refusal names k s ≡ None

-- a new string, if there is one, has at most l symbols
unfoldable pub Short : {X : Type 0} → ℕ → Option (List X) → Type 0
Short l None = Unit {0}
Short l (Some s) = length s ≤ l

-- new strings that can be put one after the other
pub record Passable {X : Type 0} (names : Names X) (news : List (Option (List X))) : Type 0 where
  pub short : (i : ℕ) → i < length names.strings → Short names.longest (slice_index_or news i None)
  pub fits : (i : ℕ) → size (replaced (take i news) names.strings) ≤ names.most

-- what a pass leaves: where the calls of a closure compute a change, and all that it puts can be put, the names after that pass
abbrev pub IsPass : {R X : Type 0} → (R → R → Type 0) → (R → List X) → Success X → Names X → Names X → Type 0
IsPass {R} {X} Gives now success before after = (change : List X → List X) → ((s r : R) → Gives s r → now r ≡ change (now s))
    → Passable before (new_strings change success (length before.strings)) → after ≡ after_pass change success before
