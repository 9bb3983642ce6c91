-- The count of the enumeration is the number of trials. Assumes nothing.
use Rattle.std.proofs.Common.{◌≡◌, ℕ, ◌+◌, Bool, ◌⊎◌, List, length, Some, None, Option, sym, refl, subst, inl, inr}
use Rattle.symbols.specs.declared.role.Role.{Role}
use Rattle.placings.specs.declared.mode.Mode.{Mode}
use Rattle.placings.specs.Pattern.{Element}
use Rattle.placings.specs.Order.{Before, Number}
use Rattle.placings.specs.Placing.{Partial, Earliest, UpTo, Trial}
use Rattle.placings.specs.Enumeration.{partials, verdict, tried}
use Rattle.placings.specs.Theorems.{Enumerates, Decided, Counted}
use Rattle.placings.proofs.Order.{strict_total, not_after, number_to, number_like}
use Rattle.placings.proofs.Verdict.{cut_at, decided}

module _ {A : Type 0} {role : A → Role} {mode : Mode} {s : List A} {pattern : List (Element A)} where
  -- the trials are what stands up to and with the first placing
  trial_from : (p : List ℕ) → Earliest role mode s pattern p → (q : List ℕ) → UpTo role mode s pattern p q → Trial role mode s pattern q
  trial_from p h q u = record { partially = u.partially; ahead = λ r k b. not_after p q u.reached (earlier r b (h.others r k)) }
    where
      earlier : (r : List ℕ) → Before r q → (r ≡ p) ⊎ Before p r → Before p q
      earlier r b (inl e) = subst (λ x. Before x q) e b
      earlier r b (inr c) = strict_total.transitive p r q c b

  trial_up_to : (p : List ℕ) → Earliest role mode s pattern p → (q : List ℕ) → Trial role mode s pattern q → UpTo role mode s pattern p q
  trial_up_to p h q t = record { partially = t.partially; reached = reach (strict_total.total q p) }
    where
      reach : (q ≡ p) ⊎ (Before q p ⊎ Before p q) → (q ≡ p) ⊎ Before q p
      reach (inl e) = inl e
      reach (inr (inl b)) = inr b
      reach (inr (inr b)) = absurd (t.ahead p h.placed b)

module _ {A : Type 0} (eq : A → A → Bool) (role : A → Role) (mode : Mode) (s : List A) (pattern : List (Element A)) (en : Enumerates eq role mode s pattern) where
  number_all : verdict eq role mode s pattern ≡ None → Number (Partial role mode s pattern) (tried eq role mode s pattern)
  number_all e =
      record { listed = partials eq role mode s pattern; counted = sym (cut_at (length pattern) (partials eq role mode s pattern) None e).1; ascending = en.ascending; sound = en.sound; complete = en.complete }

  number_up_to : (p : List ℕ) → verdict eq role mode s pattern ≡ Some p → Number (UpTo role mode s pattern p) (tried eq role mode s pattern)
  number_up_to p e =
      let f = cut_at (length pattern) (partials eq role mode s pattern) (Some p) e in
      rw f.counted
      (number_like _ (UpTo role mode s pattern p) (length f.ahead + 1) (λ q k. record { partially = k.0; reached = k.1 }) (λ q k. (k.partially, k.reached))
      (number_to p f.behind (Partial role mode s pattern) f.ahead (rw f.is at en.ascending) (rw f.is at en.sound) (λ q k. rw f.is at (en.complete q k))))

  pub trials_counted : Counted eq role mode s pattern
  trials_counted =
      record {
        up_to = λ p h. number_up_to p (d.reached p h);
        all = λ h. number_all (d.only h);
        trials = go (verdict eq role mode s pattern) refl;
      }
    where
      d : Decided eq role mode s pattern
      d = decided eq role mode s pattern en

      go : (o : Option (List ℕ)) → verdict eq role mode s pattern ≡ o → Number (Trial role mode s pattern) (tried eq role mode s pattern)
      go None e = number_like (Partial role mode s pattern) (Trial role mode s pattern) _ (λ q h. record { partially = h; ahead = λ p k b. d.none e p k }) (λ q h. h.partially) (number_all e)
      go (Some p) e = number_like (UpTo role mode s pattern p) (Trial role mode s pattern) _ (trial_from p (d.earliest p e)) (trial_up_to p (d.earliest p e)) (number_up_to p e)
