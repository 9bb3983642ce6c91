-- The first placing of the enumeration is the first in scan order, and there is one exactly where there is a placing. Assumes nothing.
use Rattle.std.proofs.Common.{◌≡◌, ℕ, suc, ◌+◌, Bool, true, false, cond, eqb, ◌⊎◌, List, [], ◌∷◌, ◌++◌, length, Some, None, Decides, Option, sym, refl, ap, ◌∙◌, subst, inl, inr, arith}
use Rattle.std.specs.List.{AllByRecursion}
use Rattle.std.proofs.ByRecursion.{All-append, All-weaker, all-has}
use Rattle.std.proofs.lemmas.Bool.{false≢true}
use Rattle.std.proofs.lemmas.Bool.Decides.{Decides-eqb}
use Rattle.symbols.specs.declared.role.Role.{Role}
use Rattle.placings.specs.declared.mode.Mode.{Mode}
use Rattle.placings.specs.Pattern.{Element}
use Rattle.placings.specs.Order.{Before, Ascending}
use Rattle.placings.specs.Placing.{Partial, Unplaced, Earliest}
use Rattle.placings.specs.Enumeration.{partials, first, count, verdict}
use Rattle.placings.specs.Theorems.{Enumerates, Decided}
use Rattle.placings.proofs.Order.{apart, all_back, behind_after}

module _ (m : ℕ) where
  -- p is not of m elements
  abbrev pub Short : List ℕ → Type 0
  Short p = length p ≡ suc m → ⊥

  -- p, of m elements, stands in xs behind short ones, and t count them and p
  pub record Found (xs : List (List ℕ)) (p : List ℕ) (t : ℕ) : Type 0 where
    pub ahead : List (List ℕ)
    pub behind : List (List ℕ)
    pub is : xs ≡ ahead ++ p ∷ behind
    pub whole : length p ≡ suc m
    pub short : AllByRecursion Short ahead
    pub counted : t ≡ length ahead + 1

  -- the first of m elements in xs and the trials, or none and all of xs
  abbrev pub Cut : List (List ℕ) → Option (List ℕ) → ℕ → Type 0
  Cut xs None t = AllByRecursion Short xs × (t ≡ length xs)
  Cut xs (Some p) t = Found xs p t

  cut_more : (x : List ℕ) (xs : List (List ℕ)) (b : Bool) → Decides b (length x ≡ suc m) → (o : Option (List ℕ)) (t : ℕ) → Cut xs o t → Cut (x ∷ xs) (cond b (Some x) o) (cond b 1 (suc t))
  cut_more x xs true d o t h = record { ahead = []; behind = xs; is = refl; whole = d.0 refl; short = tt; counted = refl }
  cut_more x xs false d None t h = (((λ e. false≢true (d.1 e)), h.0), ap suc h.1)
  cut_more x xs false d (Some p) t h =
      record { ahead = x ∷ h.ahead; behind = h.behind; is = ap (λ l. x ∷ l) h.is; whole = h.whole; short = ((λ e. false≢true (d.1 e)), h.short); counted = omega (arith, h.counted) }

  cut : (xs : List (List ℕ)) → Cut xs (first m xs) (count m xs)
  unfolding first count
  cut [] = (tt, refl)
  cut (x ∷ xs) = cut_more x xs (eqb (length x) (suc m)) (Decides-eqb (length x) (suc m)) (first m xs) (count m xs) (cut xs)

  pub cut_at : (xs : List (List ℕ)) (o : Option (List ℕ)) → first m xs ≡ o → Cut xs o (count m xs)
  cut_at xs o e = subst (λ o. Cut xs o (count m xs)) e (cut xs)

module _ {A : Type 0} {role : A → Role} {mode : Mode} {s : List A} {pattern : List (Element A)} where
  -- there is one first placing at most
  one_earliest : (p q : List ℕ) → Earliest role mode s pattern p → Earliest role mode s pattern q → p ≡ q
  one_earliest p q h k = go (h.others q k.placed) (k.others p h.placed)
    where
      go : (q ≡ p) ⊎ Before p q → (p ≡ q) ⊎ Before q p → p ≡ q
      go (inl e) b = sym e
      go (inr a) (inl e) = e
      go (inr a) (inr b) = absurd (apart p q a b)

module _ {A : Type 0} (eq : A → A → Bool) (role : A → Role) (mode : Mode) (s : List A) (pattern : List (Element A)) (en : Enumerates eq role mode s pattern) where
  -- what is p, or comes after it, unless it is short
  abbrev Later : List ℕ → List ℕ → Type 0
  Later p q = length q ≡ suc (length pattern) → (q ≡ p) ⊎ Before p q

  all_later : (xs ys : List (List ℕ)) (p : List ℕ) → Ascending (xs ++ p ∷ ys) → AllByRecursion (Short (length pattern)) xs → AllByRecursion (Later p) (xs ++ p ∷ ys)
  all_later xs ys p a h =
      All-append (Later p) xs (p ∷ ys)
      (All-weaker (Short (length pattern)) (Later p) (λ q n l. absurd (n l)) xs h)
      ((λ _. inl refl), All-weaker (Before p) (Later p) (λ q b _. inr b) ys (behind_after p ys xs a))

  unplaced : verdict eq role mode s pattern ≡ None → Unplaced role mode s pattern
  unplaced e q h = all-has (Short (length pattern)) (partials eq role mode s pattern) q (cut_at (length pattern) (partials eq role mode s pattern) None e).0 (en.complete q h.partially) h.whole

  earliest : (p : List ℕ) → verdict eq role mode s pattern ≡ Some p → Earliest role mode s pattern p
  earliest p e =
      let f = cut_at (length pattern) (partials eq role mode s pattern) (Some p) e in
      record {
        placed = record { partially = (all_back (Partial role mode s pattern) f.ahead (p ∷ f.behind) (rw f.is at en.sound)).0; whole = f.whole };
        others = λ q h. all-has (Later p) (partials eq role mode s pattern) q (rw f.is (all_later f.ahead f.behind p (rw f.is at en.ascending) f.short)) (en.complete q h.partially) h.whole;
      }

  pub decided : Decided eq role mode s pattern
  decided = go (verdict eq role mode s pattern) refl
    where
      go : (o : Option (List ℕ)) → verdict eq role mode s pattern ≡ o → Decided eq role mode s pattern
      go None e =
          record { none = unplaced; only = λ _. e; some = λ q h. absurd (unplaced e q h); earliest = earliest; reached = λ p h. absurd (unplaced e p h.placed) }
      go (Some r) e =
          record { none = unplaced; only = λ h. absurd (h r (earliest r e).placed); some = λ _ _. (r, e); earliest = earliest; reached = λ p h. e ∙ ap Some (one_earliest r p (earliest r e) h) }
