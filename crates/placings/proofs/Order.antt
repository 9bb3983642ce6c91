-- Scan order is a strict total order; ascending lists, and how many stand in them up to one of theirs. Assumes nothing.
use Rattle.std.proofs.Common.{◌≡◌, ℕ, zero, suc, ◌+◌, ◌<◌, ◌≤◌, ◌⊎◌, List, [], ◌∷◌, ◌++◌, length, sym, refl, ◌∙◌, subst, inl, inr, arith, length-append}
use Rattle.std.specs.List.{ContainsAt, AllByRecursion}
use Rattle.std.proofs.ByRecursion.{All-append, All-push, All-weaker, all-has, all_has_itself, has_append_left, has_push}
use Rattle.std.proofs.lemmas.Bool.{cases_order}
use Rattle.placings.specs.Order.{Before, Ascending, Number, StrictTotal}

irreflexive : (p : List ℕ) → Before p p → ⊥
irreflexive [] h = h
irreflexive (x ∷ p) (inl l) = omega arith
irreflexive (x ∷ p) (inr h) = irreflexive p h.1

transitive : (p q r : List ℕ) → Before p q → Before q r → Before p r
transitive [] [] r h k = absurd h
transitive [] (y ∷ q) [] h k = absurd k
transitive [] (y ∷ q) (z ∷ r) h k = tt
transitive (x ∷ p) [] r h k = absurd h
transitive (x ∷ p) (y ∷ q) [] h k = absurd k
transitive (x ∷ p) (y ∷ q) (z ∷ r) (inl l) (inl m) = inl (omega arith)
transitive (x ∷ p) (y ∷ q) (z ∷ r) (inl l) (inr m) = inl (omega (arith, m.0))
transitive (x ∷ p) (y ∷ q) (z ∷ r) (inr l) (inl m) = inl (omega (arith, l.0))
transitive (x ∷ p) (y ∷ q) (z ∷ r) (inr l) (inr m) = inr (l.0 ∙ m.0, transitive p q r l.1 m.1)

total : (p q : List ℕ) → (p ≡ q) ⊎ (Before p q ⊎ Before q p)
total [] [] = inl refl
total [] (y ∷ q) = inr (inl tt)
total (x ∷ p) [] = inr (inr tt)
total (x ∷ p) (y ∷ q) = go (cases_order x y) (total p q)
  where
    go : (x ≡ y) ⊎ ((x < y) ⊎ (y < x)) → (p ≡ q) ⊎ (Before p q ⊎ Before q p) → (x ∷ p ≡ y ∷ q) ⊎ (Before (x ∷ p) (y ∷ q) ⊎ Before (y ∷ q) (x ∷ p))
    go (inr (inl l)) t = inr (inl (inl l))
    go (inr (inr l)) t = inr (inr (inl l))
    go (inl e) (inl f) = inl (cc)
    go (inl e) (inr (inl f)) = inr (inl (inr (e, f)))
    go (inl e) (inr (inr f)) = inr (inr (inr (sym e, f)))

pub strict_total : StrictTotal
strict_total = record { irreflexive = irreflexive; transitive = transitive; total = total }

-- nothing comes both before p and after it
pub apart : (p q : List ℕ) → Before p q → Before q p → ⊥
apart p q h k = irreflexive p (transitive p q p h k)

-- what is p or comes before it does not come after it
pub not_after : (p q : List ℕ) → (q ≡ p) ⊎ Before q p → Before p q → ⊥
not_after p q (inl e) k = irreflexive p (subst (Before p) e k)
not_after p q (inr h) k = apart p q k h

pub ascending_append : (xs ys : List (List ℕ)) → Ascending xs → Ascending ys → AllByRecursion (λ x. AllByRecursion (Before x) ys) xs → Ascending (xs ++ ys)
ascending_append [] ys a b h = b
ascending_append (x ∷ xs) ys a b h = (All-append (Before x) xs ys a.0 h.0, ascending_append xs ys a.1 b h.1)

all_front : {X : Type 0} (P : X → Type 0) (xs ys : List X) → AllByRecursion P (xs ++ ys) → AllByRecursion P xs
all_front P [] ys h = tt
all_front P (x ∷ xs) ys h = (h.0, all_front P xs ys h.1)

pub all_back : {X : Type 0} (P : X → Type 0) (xs ys : List X) → AllByRecursion P (xs ++ ys) → AllByRecursion P ys
all_back P [] ys h = h
all_back P (x ∷ xs) ys h = all_back P xs ys h.1

all_both : {X : Type 0} (P Q : X → Type 0) (xs : List X) → AllByRecursion P xs → AllByRecursion Q xs → AllByRecursion (λ x. P x × Q x) xs
all_both P Q [] h k = tt
all_both P Q (x ∷ xs) h k = ((h.0, k.0), all_both P Q xs h.1 k.1)

-- a list that ascends, where p stands in it: up to p it ascends, what is ahead of p comes before it, and what follows comes after
module _ (p : List ℕ) (ys : List (List ℕ)) where
  ascends_to : (xs : List (List ℕ)) → Ascending (xs ++ p ∷ ys) → Ascending (xs ++ p ∷ [])
  ascends_to [] a = (tt, tt)
  ascends_to (x ∷ xs) a = (All-push (Before x) xs p (all_front (Before x) xs (p ∷ ys) a.0) (all_back (Before x) xs (p ∷ ys) a.0).0, ascends_to xs a.1)

  ahead_before : (xs : List (List ℕ)) → Ascending (xs ++ p ∷ ys) → AllByRecursion (λ x. Before x p) xs
  ahead_before [] a = tt
  ahead_before (x ∷ xs) a = ((all_back (Before x) xs (p ∷ ys) a.0).0, ahead_before xs a.1)

  pub behind_after : (xs : List (List ℕ)) → Ascending (xs ++ p ∷ ys) → AllByRecursion (Before p) ys
  behind_after [] a = a.0
  behind_after (x ∷ xs) a = behind_after xs a.1

  -- what is p or comes before it stands in the list up to p
  abbrev Reached : List (List ℕ) → List ℕ → Type 0
  Reached xs q = (q ≡ p) ⊎ Before q p → ContainsAt (xs ++ p ∷ []) q

  all_reached : (xs : List (List ℕ)) → Ascending (xs ++ p ∷ ys) → AllByRecursion (Reached xs) (xs ++ p ∷ ys)
  all_reached xs a =
      All-append (Reached xs) xs (p ∷ ys)
      (All-weaker (ContainsAt xs) (Reached xs) (λ q k _. has_append_left xs (p ∷ []) q k) xs (all_has_itself xs))
      ((λ _. has_push xs p), All-weaker (Before p) (Reached xs) (λ q b r. absurd (not_after p q r b)) ys (behind_after xs a))

  -- where such a list holds exactly what has a property, one more than stands ahead of p have it up to and with p
  pub number_to : (P : List ℕ → Type 0) (xs : List (List ℕ)) → Ascending (xs ++ p ∷ ys) → AllByRecursion P (xs ++ p ∷ ys) → ((q : List ℕ) → P q → ContainsAt (xs ++ p ∷ ys) q) → Number (λ q. P q × ((q ≡ p) ⊎ Before q p)) (length xs + 1)
  number_to P xs a h c =
      record {
        listed = xs ++ p ∷ [];
        counted = length-append xs (p ∷ []);
        ascending = ascends_to xs a;
        sound =
            All-push (λ q. P q × ((q ≡ p) ⊎ Before q p)) xs p
            (All-weaker (λ q. P q × Before q p) _ (λ q k. (k.0, inr k.1)) xs (all_both P (λ q. Before q p) xs (all_front P xs (p ∷ ys) h) (ahead_before xs a)))
            ((all_back P xs (p ∷ ys) h).0, inl refl);
        complete = λ q k. all-has (Reached xs) (xs ++ p ∷ ys) q (all_reached xs a) (c q k.0) k.1;
      }

-- as many have one property as have another that holds of the same
pub number_like : (P Q : List ℕ → Type 0) (n : ℕ) → ((q : List ℕ) → P q → Q q) → ((q : List ℕ) → Q q → P q) → Number P n → Number Q n
number_like P Q n to from h =
    record { listed = h.listed; counted = h.counted; ascending = h.ascending; sound = All-weaker P Q to h.listed h.sound; complete = λ q k. h.complete q (from q k) }

has_cases : {X : Type 0} (y x : X) (ys : List X) → ContainsAt (y ∷ ys) x → (y ≡ x) ⊎ ContainsAt ys x
has_cases y x ys (zero, l, at) = inl (at y)
has_cases y x ys (suc k, l, at) = inr (k, omega arith, at)

-- an ascending list is no longer than one that holds all of it
no_longer : (xs ys : List (List ℕ)) → Ascending xs → Ascending ys → AllByRecursion (ContainsAt ys) xs → length xs ≤ length ys
no_longer [] ys a b h = omega arith
no_longer (x ∷ xs) [] a b h = absurd (omega (arith, h.0.1))
no_longer (x ∷ xs) (y ∷ ys) a b h =
    let k = no_longer xs ys a.1 b.1 (All-weaker (λ z. Before x z × ContainsAt (y ∷ ys) z) (ContainsAt ys) later xs (all_both (Before x) (ContainsAt (y ∷ ys)) xs a.0 h.1)) in
    omega arith
  where
    not_ahead : (y ≡ x) ⊎ ContainsAt ys x → (y ≡ x) ⊎ Before y x
    not_ahead (inl e) = inl e
    not_ahead (inr k) = inr (all-has (Before y) ys x b.0 k)

    later : (z : List ℕ) → Before x z × ContainsAt (y ∷ ys) z → ContainsAt ys z
    later z r = elim (has_cases y z ys r.1) [ inl e ↦ absurd (not_after x y (not_ahead (has_cases y x ys h.0)) (rw e r.0)) | inr k ↦ k ]

at_most : (P : List ℕ → Type 0) (n k : ℕ) → Number P n → Number P k → n ≤ k
at_most P n k g h =
    let l = no_longer g.listed h.listed g.ascending h.ascending (All-weaker P (ContainsAt h.listed) h.complete g.listed g.sound) in
    omega (arith, g.counted, h.counted)

-- there is one number at most
pub one_number : (P : List ℕ → Type 0) (n k : ℕ) → Number P n → Number P k → n ≡ k
one_number P n k g h = omega (arith, at_most P n k g h, at_most P k n h g)
