-- Scan order: the order in which a scan comes to partial placings, over lists of places. Assumes nothing.
use Rattle.std.specs.Prelude.{◌≡◌, ℕ, ◌<◌, ◌⊎◌, List, [], ◌∷◌, length}
use Rattle.std.specs.List.{ContainsAt, AllByRecursion}

-- the smaller place comes first where places first differ; a list comes before those that extend it
abbrev pub Before : List ℕ → List ℕ → Type 0
Before [] [] = ⊥
Before [] (y ∷ q) = Unit {0}
Before (x ∷ p) [] = ⊥
Before (x ∷ p) (y ∷ q) = (x < y) ⊎ ((x ≡ y) × Before p q)

-- each comes before all that follow it
abbrev pub Ascending : List (List ℕ) → Type 0
Ascending [] = Unit {0}
Ascending (x ∷ xs) = AllByRecursion (Before x) xs × Ascending xs

-- n is how many lists of places have a property: n of them, in scan order and so each once, are all that have it
pub record Number (P : List ℕ → Type 0) (n : ℕ) : Type 0 where
  pub listed : List (List ℕ)
  pub counted : length listed ≡ n
  pub ascending : Ascending listed
  pub sound : AllByRecursion P listed
  pub complete : (p : List ℕ) → P p → ContainsAt listed p

-- scan order is a strict total order
pub record StrictTotal : Type 0 where
  pub irreflexive : (p : List ℕ) → Before p p → ⊥
  pub transitive : (p q r : List ℕ) → Before p q → Before q r → Before p r
  pub total : (p q : List ℕ) → (p ≡ q) ⊎ (Before p q ⊎ Before q p)
