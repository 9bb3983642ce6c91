-- The tree of all paths: a path is a list of numbers, each at most n, and `ok p c` says whether the path p may go on with c. Assumes nothing.
use Rattle.std.specs.Prelude.{ℕ, zero, suc, Bool, cond, List, [], ◌∷◌, ◌++◌}

-- one more at the end
abbrev pub push : List ℕ → ℕ → List ℕ
push p c = p ++ c ∷ []

-- f lo, f (lo + 1), .. one after another, k of them
unfoldable pub run : {X : Type 0} → (ℕ → List X) → ℕ → ℕ → List X
run f zero lo = []
run f (suc k) lo = f lo ++ run f k (suc lo)

-- the paths that extend p by at most d numbers, each ahead of those that extend it, and otherwise the smaller number first
unfoldable pub below : (List ℕ → ℕ → Bool) → ℕ → ℕ → List ℕ → List (List ℕ)
below ok n zero p = []
below ok n (suc d) p = run (λ c. cond (ok p c) (push p c ∷ below ok n d (push p c)) []) (suc n) 0

-- the paths of at least one and at most m + 1 numbers
unfoldable pub paths : (List ℕ → ℕ → Bool) → ℕ → ℕ → List (List ℕ)
paths ok n m = below ok n (suc m) []
