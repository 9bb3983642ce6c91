-- The tests of the enumeration decide the relations of patterns and placings. Assumes nothing.
use Rattle.std.proofs.Common.{◌≡◌, ℕ, zero, suc, ◌+◌, ◌<◌, ◌≤◌, Bool, not, ◌&&◌, ◌||◌, eqb, ltb, List, [], ◌∷◌, length, get_or, take, Decides, refl, inl, inr, arith}
use Rattle.std.proofs.lemmas.List.{get_or-take}
use Rattle.std.proofs.lemmas.Bool.{false≢true, cases_eq}
use Rattle.std.proofs.lemmas.Bool.Decides.{Decides-like, Decides-and, Decides-or, Decides-not, Decides-eqb, Decides-ltb}
use Rattle.symbols.specs.declared.role.Role.{Role}
use Rattle.symbols.specs.declared.role.Role.TheVariants.{Opening, Closing, Plain}
use Rattle.placings.specs.declared.mode.Mode.{Mode}
use Rattle.placings.specs.declared.mode.Mode.TheVariants.{Unanchored, Anchored}
use Rattle.placings.specs.Pattern.{Element, constant, arbitrary, balanced, fixed, again, part, opens, closes, openings, closings, Balanced, Suits}
use Rattle.placings.specs.Enumeration.{same_parts, after, closes_from, balanced_test, suits_test, starts_test}
use Rattle.placings.specs.Theorems.{Equality}

module _ {A : Type 0} (eq : A → A → Bool) (dec : Equality A eq) where
  pub decides_same : (xs ys : List A) → Decides (same_parts eq xs ys) (xs ≡ ys)
  decides_same [] [] = (λ _. refl, λ _. refl)
  decides_same [] (y ∷ ys) = (λ e. absurd (false≢true e), λ e. cc)
  decides_same (x ∷ xs) [] = (λ e. absurd (false≢true e), λ e. cc)
  decides_same (x ∷ xs) (y ∷ ys) =
      Decides-like (eq x y && same_parts eq xs ys) (λ h. cc) (λ h. (cc, cc)) (Decides-and (eq x y) (same_parts eq xs ys) (dec x y) (decides_same xs ys))

module _ {A : Type 0} (role : A → Role) where
  -- xs closes the d that are open before it, and no beginning closes more than are open
  abbrev Closes : List A → ℕ → Type 0
  Closes xs d = (openings role xs + d ≡ closings role xs) × ((k : ℕ) → closings role (take k xs) ≤ openings role (take k xs) + d)

  -- the same of a symbol of role r and then xs
  abbrev Follows : Role → List A → ℕ → Type 0
  Follows r xs d = (opens r + openings role xs + d ≡ closes r + closings role xs) × ((k : ℕ) → closes r + closings role (take k xs) ≤ opens r + openings role (take k xs) + d)

  decides_after : (r : Role) (xs : List A) (d : ℕ) → ((e : ℕ) → Decides (closes_from role xs e) (Closes xs e)) → Decides (after r d (closes_from role xs)) (Follows r xs d)
  decides_after Opening xs d ih = Decides-like (closes_from role xs (suc d)) (λ h. (omega arith, λ k. omega (arith, h.1 k))) (λ h. (omega arith, λ k. omega (arith, h.1 k))) (ih (suc d))
  decides_after Closing xs zero ih = (λ e. absurd (false≢true e), λ h. absurd (omega (arith, h.1 0)))
  decides_after Closing xs (suc d) ih = Decides-like (closes_from role xs d) (λ h. (omega arith, λ k. omega (arith, h.1 k))) (λ h. (omega arith, λ k. omega (arith, h.1 k))) (ih d)
  decides_after Plain xs d ih = Decides-like (closes_from role xs d) (λ h. (omega arith, λ k. omega (arith, h.1 k))) (λ h. (omega arith, λ k. omega (arith, h.1 k))) (ih d)

  closes_more : (x : A) (xs : List A) (d : ℕ) → Follows (role x) xs d → Closes (x ∷ xs) d
  closes_more x xs d h = (omega arith, elim [ zero ↦ omega arith | suc k ↦ omega (arith, h.1 k) ])

  decides_closes : (xs : List A) (d : ℕ) → Decides (closes_from role xs d) (Closes xs d)
  decides_closes [] d = Decides-like (eqb d 0) (λ h. (omega arith, elim [ zero ↦ omega arith | suc k ↦ omega arith ])) (λ h. omega arith) (Decides-eqb d 0)
  decides_closes (x ∷ xs) d =
      Decides-like (after (role x) d (closes_from role xs)) (closes_more x xs d) (λ h. (omega arith, λ k. omega (arith, h.1 (suc k)))) (decides_after (role x) xs d (decides_closes xs))

  pub decides_balanced : (xs : List A) → Decides (balanced_test role xs) (Balanced role xs)
  decides_balanced xs =
      Decides-like (ltb 0 (length xs) && closes_from role xs 0)
      (λ h. (h.0, omega (arith, h.1.0), λ k. omega (arith, h.1.1 k)))
      (λ h. (h.0, (omega arith, λ k. omega (arith, h.2 k))))
      (Decides-and (ltb 0 (length xs)) (closes_from role xs 0) (Decides-ltb 0 (length xs)) (decides_closes xs 0))

module _ {A : Type 0} (eq : A → A → Bool) (dec : Equality A eq) (role : A → Role) where
  pub decides_suits : (s : List A) (m : ℕ) (p : List ℕ) (i e : ℕ) (x : Element A) → Decides (suits_test eq role s m p i e x) (Suits role s m p i e x)
  decides_suits s m p i e (constant w) = decides_same eq dec (part s (get_or p i 0) e) w
  decides_suits s m p i e arbitrary =
      Decides-like (not (eqb (suc i) m) || eqb e (length s))
      (elim [ inl n ↦ λ q. absurd (n q) | inr q ↦ λ _. q ])
      (λ h. elim (cases_eq (suc i) m) [ inl q ↦ inr (h q) | inr n ↦ inl n ])
      (Decides-or (not (eqb (suc i) m)) (eqb e (length s)) (Decides-not (eqb (suc i) m) (Decides-eqb (suc i) m)) (Decides-eqb e (length s)))
  decides_suits s m p i e balanced = decides_balanced role (part s (get_or p i 0) e)
  decides_suits s m p i e (fixed k) = Decides-eqb (length (part s (get_or p i 0) e)) k
  decides_suits s m p i e (again j) =
      Decides-and (ltb j i) (same_parts eq (part s (get_or p i 0) e) (part s (get_or p j 0) (get_or p (suc j) 0))) (Decides-ltb j i) (decides_same eq dec (part s (get_or p i 0) e) (part s (get_or p j 0) (get_or p (suc j) 0)))

  -- the places so far, i + 1 of them, decide as all places do
  pub decides_so_far : (s : List A) (m : ℕ) (p : List ℕ) (i e : ℕ) (x : Element A) → Decides (suits_test eq role s m (take (suc i) p) i e x) (Suits role s m p i e x)
  decides_so_far s m p i e (constant w) = let l : i < suc i = omega arith in rw (get_or-take (suc i) p i 0 l) (decides_suits s m p i e (constant w))
  decides_so_far s m p i e arbitrary = decides_suits s m p i e arbitrary
  decides_so_far s m p i e balanced = let l : i < suc i = omega arith in rw (get_or-take (suc i) p i 0 l) (decides_suits s m p i e balanced)
  decides_so_far s m p i e (fixed k) = let l : i < suc i = omega arith in rw (get_or-take (suc i) p i 0 l) (decides_suits s m p i e (fixed k))
  decides_so_far s m p i e (again j) =
      Decides-like (suits_test eq role s m (take (suc i) p) i e (again j)) (λ h. (h.0, rw (back h.0) at h.1)) (λ h. (h.0, rw (back h.0) h.1))
      (decides_suits s m (take (suc i) p) i e (again j))
    where
      back : j < i → (part s (get_or (take (suc i) p) i 0) e ≡ part s (get_or (take (suc i) p) j 0) (get_or (take (suc i) p) (suc j) 0)) ≡ (part s (get_or p i 0) e ≡ part s (get_or p j 0) (get_or p (suc j) 0))
      back l =
          let a : i < suc i = omega arith in
          let b : j < suc i = omega arith in
          let c : suc j < suc i = omega arith in
          rw (get_or-take (suc i) p i 0 a, get_or-take (suc i) p j 0 b, get_or-take (suc i) p (suc j) 0 c)

-- the test of a start decides whether the mode lets a placing start there
pub decides_starts : (mode : Mode) (e : ℕ) → Decides (starts_test mode e) (mode ≡ Anchored → e ≡ 0)
decides_starts Unanchored e = (λ _ q. let z : ◌≡◌ {A = ℕ} 0 1 = cc in absurd (omega arith), λ _. refl)
decides_starts Anchored e = ((λ h _. (Decides-eqb e 0).0 h), λ h. (Decides-eqb e 0).1 (h refl))
