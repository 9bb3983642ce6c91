-- Parts of a subject, symbol by symbol. Assumes nothing.
use Rattle.std.proofs.Common.{◌≡◌, ℕ, suc, ◌+◌, ◌-◌, ◌<◌, ◌≤◌, Bool, true, false, ◌&&◌, ◌⊎◌, List, [], ◌∷◌, length, get_or, drop, Some, None, Option, refl, ap, ◌∙◌, inl, inr, arith}
use Rattle.std.proofs.lemmas.List.{length-take, length-drop, drop_more, drop_all}
use Rattle.std.proofs.lemmas.Bool.{and_right, cases_lt}
use Rattle.placings.specs.Pattern.{part}
use Rattle.placings.specs.Enumeration.{same_parts}
use Rattle.scan.specs.Ends.{Next}

pub length_part : {A : Type 0} (s : List A) (a e : ℕ) → a ≤ e → e ≤ length s → length (part s a e) ≡ e - a
length_part s a e l m = simp (length-take, length-drop) (omega arith)

pub part_none : {A : Type 0} (s : List A) (a : ℕ) → part s a a ≡ []
part_none s a = let z : a - a ≡ 0 = omega arith in rw z

pub part_more : {A : Type 0} (s : List A) (e k : ℕ) (x : A) → e < k → e < length s → x ≡ get_or s e x → part s e k ≡ x ∷ part s (e + 1) k
part_more s e k x l h is =
    let z : k - e ≡ suc (k - (e + 1)) = omega arith in
    rw (z, drop_more s e x h, ← is)

module _ {A : Type 0} (eq : A → A → Bool) where
  pub same_lengths : (xs ys : List A) → (length xs ≡ length ys → ⊥) → same_parts eq xs ys ≡ false
  same_lengths [] [] n = absurd (n refl)
  same_lengths [] (y ∷ ys) n = refl
  same_lengths (x ∷ xs) [] n = refl
  same_lengths (x ∷ xs) (y ∷ ys) n = and_right (eq x y) (same_parts eq xs ys) (same_lengths xs ys (λ e. n (ap suc e)))

  pub same_more : (xs ys : List A) (i : ℕ) (x y : A) → i < length xs → i < length ys → x ≡ get_or xs i x → y ≡ get_or ys i y → same_parts eq (drop i xs) (drop i ys) ≡ (eq x y && same_parts eq (drop (i + 1) xs) (drop (i + 1) ys))
  same_more xs ys i x y a b p q = rw (drop_more xs i x a, drop_more ys i y b, ← p, ← q)

  pub same_all : (xs ys : List A) (i : ℕ) → length xs ≤ i → length xs ≡ length ys → same_parts eq (drop i xs) (drop i ys) ≡ true
  same_all xs ys i l e = let m : length ys ≤ i = omega arith in rw (drop_all i xs l, drop_all i ys m)

-- the same of a test that answers the same from c to n
pub next_like : (t u : ℕ → Bool) (n c : ℕ) (r : Option ℕ) → ((k : ℕ) → c ≤ k → k ≤ n → u k ≡ t k) → Next t n c r → Next u n c r
next_like t u n c None q h = λ k a b. q k a b ∙ h k a b
next_like t u n c (Some e) q h =
    let x = h.0 in
    let y = h.1 in
    (x, y, q e x y ∙ h.2, λ k a b. q k a (omega arith) ∙ h.3 k a b)

-- from further left, where nothing passes
pub next_from : (t : ℕ → Bool) (n b c : ℕ) (r : Option ℕ) → b ≤ c → ((k : ℕ) → b ≤ k → k < c → t k ≡ false) → Next t n c r → Next t n b r
next_from t n b c None l q h = λ k x y. go k x y (cases_lt k c)
  where
    go : (k : ℕ) → b ≤ k → k ≤ n → (k < c) ⊎ (c ≤ k) → t k ≡ false
    go k x y (inl z) = q k x z
    go k x y (inr z) = h k z y
next_from t n b c (Some e) l q h =
    let x = h.0 in
    (omega arith, h.1, h.2, λ k u v. go k u v (cases_lt k c))
  where
    go : (k : ℕ) → b ≤ k → k < e → (k < c) ⊎ (c ≤ k) → t k ≡ false
    go k u v (inl z) = q k u z
    go k u v (inr z) = h.3 k z v
