-- The first that passes a test, one row after the other.
use Rattle.std.proofs.Common.{◌≡◌, ℕ, zero, suc, ◌+◌, ◌-◌, ◌<◌, ◌≤◌, min, Bool, true, false, cond, ltb, ◌⊎◌, List, [], ◌∷◌, length, get_or, take, Some, None, Option, sym, refl, ap, ◌∙◌, inl, inr, arith}
use Rattle.std.proofs.lemmas.Iterator.Adapters.{position_from-zero}
use Rattle.std.proofs.lemmas.List.{take_all}
use Rattle.std.proofs.lemmas.Bool.{cases_lt}
use Rattle.std.specs.List.{position_from, position_or_len}
use Rattle.std.specs.Option.{option_map}
use Rattle.tables.specs.Lookups.{First}

-- what a cut at the table's end leaves is what a cut at any later place leaves
pub take_min : {A : Type 0} (n m : ℕ) (xs : List A) → length xs ≡ m → take (min n m) xs ≡ take n xs
take_min n m xs e = go (cases_lt n m)
  where
    go : (n < m) ⊎ (m ≤ n) → take (min n m) xs ≡ take n xs
    go (inl l) = let z : min n m ≡ n = omega arith in ap (λ k. take k xs) z
    go (inr l) = let z : min n m ≡ m = omega arith in ap (λ k. take k xs) z ∙ take_all m xs (omega arith) ∙ sym (take_all n xs (omega arith))

-- counted from one more, the first that passes has one more
position_more : {A : Type 0} (test : A → Bool) (k : ℕ) (xs : List A) → position_from test (k + 1) xs ≡ option_map (λ n. n + 1) (position_from test k xs)
position_more test k [] = refl
position_more test k (x ∷ xs) = go (test x) (position_more test (k + 1) xs)
  where
    go : (b : Bool) → position_from test (k + 1 + 1) xs ≡ option_map (λ n. n + 1) (position_from test (k + 1) xs) → cond b (Some (k + 1)) (position_from test (k + 1 + 1) xs) ≡ option_map (λ n. n + 1) (cond b (Some k) (position_from test (k + 1) xs))
    go true e = refl
    go false e = e

-- the number of the first that passes, where `position` tells its place
pub numbered : {A : Type 0} (test : A → Bool) (xs : List A) (r : Option ℕ) → r ≡ cond (ltb (position_or_len test xs) (length xs)) (Some (position_or_len test xs)) None → position_from test 1 xs ≡ option_map (λ n. n + 1) r
numbered test xs r e = position_more test 0 xs ∙ ap (option_map (λ n. n + 1)) (sym (e ∙ position_from-zero test xs))

-- the first that passes, where the first of all has number k
abbrev FirstFrom : {A : Type 0} → (A → Bool) → ℕ → List A → Option ℕ → Type 0
FirstFrom {A} test k xs None = (i : ℕ) (d : A) → i < length xs → test (get_or xs i d) ≡ false
FirstFrom {A} test k xs (Some n) = (k ≤ n) × (n < k + length xs) × ((d : A) → test (get_or xs (n - k) d) ≡ true) × ((i : ℕ) (d : A) → i < n - k → test (get_or xs i d) ≡ false)

module _ {A : Type 0} (test : A → Bool) where
  found_here : (k : ℕ) (x : A) (xs : List A) → test x ≡ true → FirstFrom test k (x ∷ xs) (Some k)
  found_here k x xs e = (omega arith, omega arith, (λ d. let z : k - k ≡ 0 = omega arith in rw z e), (λ i d l. absurd (omega arith)))

  found_later : (k : ℕ) (x : A) (xs : List A) (o : Option ℕ) → test x ≡ false → FirstFrom test (k + 1) xs o → FirstFrom test k (x ∷ xs) o
  found_later k x xs None e h = go
    where
      go : (i : ℕ) (d : A) → i < length (x ∷ xs) → test (get_or (x ∷ xs) i d) ≡ false
      go zero d l = e
      go (suc i) d l = h i d (omega arith)
  found_later k x xs (Some n) e h = (omega (arith, h.0), omega (arith, h.1), passes, before)
    where
      passes : (d : A) → test (get_or (x ∷ xs) (n - k) d) ≡ true
      passes d = let g = h.0 in let z : n - k ≡ suc (n - (k + 1)) = omega arith in rw z (h.2 d)

      before : (i : ℕ) (d : A) → i < n - k → test (get_or (x ∷ xs) i d) ≡ false
      before zero d l = e
      before (suc i) d l = h.3 i d (omega arith)

  -- by cases on the test of the first
  found_more : (b : Bool) (k : ℕ) (x : A) (xs : List A) (o : Option ℕ) → test x ≡ b → FirstFrom test (k + 1) xs o → FirstFrom test k (x ∷ xs) (cond b (Some k) o)
  found_more true k x xs o e h = found_here k x xs e
  found_more false k x xs o e h = found_later k x xs o e h

  found_from : (k : ℕ) (xs : List A) → FirstFrom test k xs (position_from test k xs)
  found_from k [] = λ i d l. absurd (omega arith)
  found_from k (x ∷ xs) = found_more (test x) k x xs (position_from test (k + 1) xs) refl (found_from (k + 1) xs)

  from_one : (xs : List A) (o : Option ℕ) → FirstFrom test 1 xs o → First test xs o
  from_one xs None h = h
  from_one xs (Some n) h = (h.0, omega (arith, h.1), h.2, h.3)

  pub found : (xs : List A) → First test xs (position_from test 1 xs)
  found xs = from_one xs (position_from test 1 xs) (found_from 1 xs)
