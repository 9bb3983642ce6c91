-- What the scan's answer says holds of the placings. Assumes nothing.
use Rattle.std.proofs.Common.{◌≡◌, ℕ, ◌≤◌, Bool, true, leb, List, Some, None, Option, sym, refl, arith}
use Rattle.std.proofs.lemmas.Bool.{cond_both, cond-true, cond-false, leb-true, leb-false, le-leb, lt-leb}
use Rattle.symbols.specs.declared.role.Role.{Role}
use Rattle.placings.specs.declared.mode.Mode.{Mode}
use Rattle.placings.specs.Pattern.{Element}
use Rattle.placings.specs.Enumeration.{success, failure, spent, tells, verdict, tried, scanned}
use Rattle.placings.specs.Placing.{Partial, UpTo, Trial}
use Rattle.placings.specs.Says.{Says}
use Rattle.placings.specs.Theorems.{Equality, Decided, Counted, Answered, Determined}
use Rattle.placings.proofs.Order.{one_number}
use Rattle.placings.proofs.Enumeration.{enumerates}
use Rattle.placings.proofs.Verdict.{decided}
use Rattle.placings.proofs.Trials.{trials_counted}

module _ {A : Type 0} (eq : A → A → Bool) (dec : Equality A eq) (role : A → Role) (mode : Mode) (s : List A) (pattern : List (Element A)) where
  d : Decided eq role mode s pattern
  d = decided eq role mode s pattern (enumerates eq dec role mode s pattern)

  c : Counted eq role mode s pattern
  c = trials_counted eq role mode s pattern (enumerates eq dec role mode s pattern)

  tells_so : (allowance : ℕ) (o : Option (List ℕ)) → verdict eq role mode s pattern ≡ o → tried eq role mode s pattern ≤ allowance → Says role mode s pattern allowance (tells o (tried eq role mode s pattern))
  tells_so allowance None e l = record { unplaced = d.none e; trials = c.all (d.none e); allowed = l }
  tells_so allowance (Some p) e l = record { earliest = d.earliest p e; trials = c.up_to p (d.earliest p e); allowed = l }

  pub says : Answered eq role mode s pattern
  says allowance =
      cond_both (leb (tried eq role mode s pattern) allowance) (tells (verdict eq role mode s pattern) (tried eq role mode s pattern)) spent (Says role mode s pattern allowance)
      (λ t. tells_so allowance (verdict eq role mode s pattern) refl (leb-true _ _ t))
      (λ f. record { wanted = tried eq role mode s pattern; trials = c.trials; over = leb-false _ _ f })

  -- what is told of the verdict within the allowance is the answer
  told_is : (allowance t : ℕ) (o : Option (List ℕ)) → verdict eq role mode s pattern ≡ o → t ≡ tried eq role mode s pattern → t ≤ allowance → tells o t ≡ scanned eq role mode s pattern allowance
  told_is allowance t o e is l =
      let b : leb (tried eq role mode s pattern) allowance ≡ true = le-leb _ _ (omega arith) in
      cc (cond-true (leb (tried eq role mode s pattern) allowance) (tells (verdict eq role mode s pattern) (tried eq role mode s pattern)) spent b)

  pub determined : Determined eq role mode s pattern
  determined allowance (success p t) h = told_is allowance t (Some p) (d.reached p h.earliest) (one_number (UpTo role mode s pattern p) t (tried eq role mode s pattern) h.trials (c.up_to p h.earliest)) h.allowed
  determined allowance (failure t) h = told_is allowance t None (d.only h.unplaced) (one_number (Partial role mode s pattern) t (tried eq role mode s pattern) h.trials (c.all h.unplaced)) h.allowed
  determined allowance spent h =
      let is = one_number (Trial role mode s pattern) h.wanted (tried eq role mode s pattern) h.trials c.trials in
      sym (cond-false (leb (tried eq role mode s pattern) allowance) (tells (verdict eq role mode s pattern) (tried eq role mode s pattern)) spent (lt-leb _ _ (omega (arith, h.over))))
