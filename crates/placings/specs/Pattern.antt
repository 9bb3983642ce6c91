-- What a pattern is made of, and when a part of the subject suits an element. Assumes nothing.
use Rattle.std.specs.Prelude.{◌≡◌, ℕ, suc, ◌+◌, ◌<◌, ◌≤◌, List, [], ◌∷◌, length, take, slice_index, slice_range}
pub use Rattle.symbols.specs.Roles.{opens, closes}
use Rattle.symbols.specs.declared.role.Role.{Role}

-- an element: a constant, an arbitrary, balanced or fixed-length variable, or a back reference to element i, counted from 0
pub data Element (A : Type 0) : Type 0 where
  constant : List A → Element A
  arbitrary : Element A
  balanced : Element A
  fixed : ℕ → Element A
  again : ℕ → Element A

-- the part of s from place a to place b
abbrev pub part : {A : Type 0} → List A → ℕ → ℕ → List A
part s a b = slice_range s a b

-- how many opening symbols there are
abbrev pub openings : {A : Type 0} → (A → Role) → List A → ℕ
openings role [] = 0
openings role (x ∷ xs) = opens (role x) + openings role xs

-- how many closing symbols there are
abbrev pub closings : {A : Type 0} → (A → Role) → List A → ℕ
closings role [] = 0
closings role (x ∷ xs) = closes (role x) + closings role xs

-- not null, as many opening as closing symbols, and no beginning with more closing than opening ones
abbrev pub Balanced : {A : Type 0} → (A → Role) → List A → Type 0
Balanced role xs = (0 < length xs) × (openings role xs ≡ closings role xs) × ((k : ℕ) → closings role (take k xs) ≤ openings role (take k xs))

-- the part of element i, of m, that ends at e suits the element; the places so far are a start and then ends, so it begins at place i of them
abbrev pub Suits : {A : Type 0} → (A → Role) → List A → ℕ → List ℕ → ℕ → ℕ → Element A → Type 0
-- a constant suits a part equal to it
Suits role s m places i e (constant w) = part s (slice_index places i) e ≡ w
-- an arbitrary variable suits every part, but as the last element it ends where the subject does
Suits role s m places i e arbitrary = suc i ≡ m → e ≡ length s
-- a balanced variable suits a balanced part
Suits role s m places i e balanced = Balanced role (part s (slice_index places i) e)
-- a fixed-length variable suits a part of its length
Suits role s m places i e (fixed k) = length (part s (slice_index places i) e) ≡ k
-- a back reference to an element further left suits a part equal to that element's part
Suits role s m places i e (again j) = (j < i) × (part s (slice_index places i) e ≡ part s (slice_index places j) (slice_index places (suc j)))
