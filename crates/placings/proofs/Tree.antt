-- What `below` lists is what there is below a path, in scan order. Assumes nothing.
use Rattle.std.proofs.Common.{◌≡◌, ℕ, zero, suc, ◌+◌, ◌<◌, ◌≤◌, Bool, true, cond, ◌⊎◌, List, [], ◌∷◌, ◌++◌, length, get_or, take, sym, refl, ◌∙◌, subst, inl, inr, append_assoc, append-nil, arith}
use Rattle.std.specs.List.{ContainsAt, AllByRecursion}
use Rattle.std.proofs.ByRecursion.{All-append, All-weaker, has_append_left, has_append_right}
use Rattle.std.proofs.lemmas.Bool.{cond_both, cond-true, cases_order}
use Rattle.placings.specs.Order.{Before, Ascending}
use Rattle.placings.specs.Tree.{push, run, below}
use Rattle.placings.proofs.Order.{ascending_append}

all_run : {X : Type 0} (P : X → Type 0) (f : ℕ → List X) (k lo : ℕ) → ((c : ℕ) → lo ≤ c → c < lo + k → AllByRecursion P (f c)) → AllByRecursion P (run f k lo)
unfolding run
all_run P f zero lo h = tt
all_run P f (suc k) lo h =
    All-append P (f lo) (run f k (suc lo)) (h lo (omega arith) (omega arith)) (all_run P f k (suc lo) (λ c a b. h c (omega arith) (omega arith)))

has_run : {X : Type 0} (f : ℕ → List X) (k lo c : ℕ) (x : X) → lo ≤ c → c < lo + k → ContainsAt (f c) x → ContainsAt (run f k lo) x
unfolding run
has_run f zero lo c x a b h = absurd (omega arith)
has_run f (suc k) lo c x a b h = go (cases_order lo c) (λ l. has_run f k (suc lo) c x l (omega arith) h)
  where
    go : (lo ≡ c) ⊎ ((lo < c) ⊎ (c < lo)) → (lo < c → ContainsAt (run f k (suc lo)) x) → ContainsAt (f lo ++ run f k (suc lo)) x
    go (inl e) ih = has_append_left (f lo) (run f k (suc lo)) x (rw e h)
    go (inr (inl l)) ih = has_append_right (f lo) (run f k (suc lo)) x (ih l)
    go (inr (inr l)) ih = absurd (omega arith)

ascending_run : (f : ℕ → List (List ℕ)) (k lo : ℕ) → ((c : ℕ) → Ascending (f c)) → ((c e : ℕ) → c < e → AllByRecursion (λ x. AllByRecursion (Before x) (f e)) (f c)) → Ascending (run f k lo)
unfolding run
ascending_run f zero lo a b = tt
ascending_run f (suc k) lo a b =
    ascending_append (f lo) (run f k (suc lo)) (a lo) (ascending_run f k (suc lo) a b) (go (f lo) (λ e l. b lo e l))
  where
    go : (xs : List (List ℕ)) → ((e : ℕ) → lo < e → AllByRecursion (λ x. AllByRecursion (Before x) (f e)) xs) → AllByRecursion (λ x. AllByRecursion (Before x) (run f k (suc lo))) xs
    go [] h = tt
    go (x ∷ xs) h = (all_run (Before x) f k (suc lo) (λ e l m. (h e l).0), go xs (λ e l. (h e l).1))

-- paths that part after p: the one with the smaller number comes first
before_beside : (p : List ℕ) (c e : ℕ) (r s : List ℕ) → c < e → Before (p ++ c ∷ r) (p ++ e ∷ s)
before_beside [] c e r s l = inl l
before_beside (x ∷ p) c e r s l = inr (refl, before_beside p c e r s l)

-- a path comes before those that extend it
before_below : (p : List ℕ) (c : ℕ) (r : List ℕ) → Before p (p ++ c ∷ r)
before_below [] c r = tt
before_below (x ∷ p) c r = inr (refl, before_below p c r)

module _ (ok : List ℕ → ℕ → Bool) (n : ℕ) where
  -- the path p goes on by r
  abbrev pub Goes : List ℕ → List ℕ → Type 0
  Goes p [] = Unit {0}
  Goes p (c ∷ r) = (c ≤ n) × (ok p c ≡ true) × Goes (push p c) r

  -- the same, number by number
  abbrev pub Each : List ℕ → List ℕ → Type 0
  Each p r = (i : ℕ) → i < length r → (get_or r i 0 ≤ n) × (ok (p ++ take i r) (get_or r i 0) ≡ true)

  pub each_from_goes : (p r : List ℕ) → Goes p r → Each p r
  each_from_goes p [] g = λ i l. absurd (omega arith)
  each_from_goes p (c ∷ r) g = elim [ zero ↦ λ l. (g.0, rw (append-nil p) g.1) | suc i ↦ λ l. rw (append_assoc p (c ∷ []) (take i r)) at (each_from_goes (push p c) r g.2 i (omega arith)) ]

  pub goes_from_each : (p r : List ℕ) → Each p r → Goes p r
  goes_from_each p [] h = tt
  goes_from_each p (c ∷ r) h =
      ((h 0 (omega arith)).0, (rw (append-nil p) at (h 0 (omega arith)).1), goes_from_each (push p c) r (λ i l. rw (append_assoc p (c ∷ []) (take i r)) (h (suc i) (omega arith))))

  -- q is p, then c, then fewer than d more
  abbrev pub Below : ℕ → List ℕ → List ℕ → Type 0
  Below d p q = (c : ℕ) × (r : List ℕ) × (q ≡ p ++ c ∷ r) × (length r < d) × Goes p (c ∷ r)

  -- the same for one c, with at most d more
  abbrev Kid : ℕ → List ℕ → ℕ → List ℕ → Type 0
  Kid d p c q = (r : List ℕ) × (q ≡ p ++ c ∷ r) × (ok p c ≡ true) × (length r ≤ d) × Goes (push p c) r

  abbrev kids : ℕ → List ℕ → ℕ → List (List ℕ)
  kids d p c = cond (ok p c) (push p c ∷ below ok n d (push p c)) []

  kids_sound : (d : ℕ) (p : List ℕ) (c : ℕ) → AllByRecursion (Below d (push p c)) (below ok n d (push p c)) → AllByRecursion (Kid d p c) (kids d p c)
  kids_sound d p c h =
      cond_both (ok p c) (push p c ∷ below ok n d (push p c)) [] (AllByRecursion (Kid d p c))
      (λ e. (([], refl, e, omega arith, tt), All-weaker (Below d (push p c)) (Kid d p c) (λ q u. (u.0 ∷ u.1, u.2 ∙ append_assoc p (c ∷ []) (u.0 ∷ u.1), e, u.3, u.4)) (below ok n d (push p c)) h))
      (λ e. tt)

  pub below_sound : (d : ℕ) (p : List ℕ) → AllByRecursion (Below d p) (below ok n d p)
  unfolding below
  below_sound zero p = tt
  below_sound (suc d) p =
      all_run (Below (suc d) p) (kids d p) (suc n) 0 (λ c a b. All-weaker (Kid d p c) (Below (suc d) p) (λ q k. (c, k.0, k.1, omega arith, (omega arith, k.2, k.4))) (kids d p c) (kids_sound d p c (below_sound d (push p c))))

  pub below_complete : (d : ℕ) (p : List ℕ) (c : ℕ) (r : List ℕ) → length r < d → Goes p (c ∷ r) → ContainsAt (below ok n d p) (p ++ c ∷ r)
  unfolding below
  below_complete zero p c r l g = absurd (omega arith)
  below_complete (suc d) p c r l g =
      has_run (kids d p) (suc n) 0 c (p ++ c ∷ r) (omega arith) (omega (arith, g.0))
      (subst (λ l. ContainsAt l (p ++ c ∷ r)) (sym (cond-true (ok p c) (push p c ∷ below ok n d (push p c)) [] g.1)) (go r l g.2 (λ e s. below_complete d (push p c) e s)))
    where
      go : (r : List ℕ) → length r < suc d → Goes (push p c) r → ((e : ℕ) (s : List ℕ) → length s < d → Goes (push p c) (e ∷ s) → ContainsAt (below ok n d (push p c)) (push p c ++ e ∷ s)) → ContainsAt (push p c ∷ below ok n d (push p c)) (p ++ c ∷ r)
      go [] l g ih = (0, omega arith, λ _. refl)
      go (e ∷ s) l g ih =
          has_append_right (push p c ∷ []) (below ok n d (push p c)) (p ++ c ∷ e ∷ s)
          (subst (ContainsAt (below ok n d (push p c))) (append_assoc p (c ∷ []) (e ∷ s)) (ih e s (omega arith) g))

  pub below_ascending : (d : ℕ) (p : List ℕ) → Ascending (below ok n d p)
  unfolding below
  below_ascending zero p = tt
  below_ascending (suc d) p = ascending_run (kids d p) (suc n) 0 (one (λ q. below_ascending d q)) two
    where
      one : ((q : List ℕ) → Ascending (below ok n d q)) → (c : ℕ) → Ascending (kids d p c)
      one ih c =
          cond_both (ok p c) (push p c ∷ below ok n d (push p c)) [] Ascending
          (λ e. (All-weaker (Below d (push p c)) (Before (push p c)) (λ q u. subst (Before (push p c)) (sym u.2) (before_below (push p c) u.0 u.1)) (below ok n d (push p c)) (below_sound d (push p c)), ih (push p c)))
          (λ e. tt)

      two : (c e : ℕ) → c < e → AllByRecursion (λ x. AllByRecursion (Before x) (kids d p e)) (kids d p c)
      two c e l =
          All-weaker (Kid d p c) (λ x. AllByRecursion (Before x) (kids d p e))
          (λ x k. All-weaker (Kid d p e) (Before x) (λ y m. rw (k.1, m.1) (before_beside p c e k.0 m.0 l)) (kids d p e) (kids_sound d p e (below_sound d (push p e))))
          (kids d p c) (kids_sound d p c (below_sound d (push p c)))
