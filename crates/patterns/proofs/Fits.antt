-- A fitted pattern has the partial placings of the pattern. Assumes nothing.
use Rattle.std.proofs.Common.{◌≡◌, ℕ, zero, suc, ◌+◌, ◌-◌, ◌<◌, ◌≤◌, Bool, ◌&&◌, ltb, leb, List, [], ◌∷◌, length, get_or, drop, sym, refl, ap, ◌∙◌, ⊎_elim, arith}
use Rattle.std.proofs.lemmas.List.{length-take, length-drop}
use Rattle.std.proofs.lemmas.Bool.{cond-true, cond-false, lt-ltb, le-ltb, ne_eqb, cases_lt}
use Rattle.symbols.specs.declared.role.Role.{Role}
use Rattle.placings.specs.declared.mode.Mode.{Mode}
use Rattle.placings.specs.Pattern.{Element, constant, arbitrary, balanced, fixed, again, part}
use Rattle.placings.specs.Tree.{paths}
use Rattle.placings.specs.Enumeration.{suits_test, may_at, may, partials, answer}
use Rattle.scan.proofs.Parts.{same_lengths}
use Rattle.patterns.specs.Fitted.{fit, fitted, Alike}

pub fit_short : {X : Type 0} (l : ℕ) (w : List X) → length w ≤ l → fit l (constant w) ≡ constant w
fit_short l w h = cond-false (ltb l (length w)) (fixed (l + 1)) (constant w) (le-ltb l (length w) h)

pub fit_long : {X : Type 0} (l : ℕ) (w : List X) → l < length w → fit l (constant w) ≡ fixed (l + 1)
fit_long l w h = cond-true (ltb l (length w)) (fixed (l + 1)) (constant w) (lt-ltb l (length w) h)

-- a part is no longer than the subject
part_short : {X : Type 0} (s : List X) (a e : ℕ) → length (part s a e) ≤ length s
part_short s a e = omega (arith, length-take (e - a) (drop a s), length-drop a s)

length_fitted : {X : Type 0} (l : ℕ) (pattern : List (Element X)) → length (fitted l pattern) ≡ length pattern
length_fitted l [] = refl
length_fitted l (x ∷ xs) = ap suc (length_fitted l xs)

fitted_at : {X : Type 0} (l : ℕ) (pattern : List (Element X)) (i : ℕ) → get_or (fitted l pattern) i arbitrary ≡ fit l (get_or pattern i arbitrary)
fitted_at l [] i = refl
fitted_at l (x ∷ xs) zero = refl
fitted_at l (x ∷ xs) (suc i) = fitted_at l xs i

module _ {X : Type 0} (eq : X → X → Bool) (role : X → Role) (s : List X) (l : ℕ) (short : length s ≤ l) where
  -- a part suits a fitted element exactly where it suits the element
  fit_suits : (m : ℕ) (places : List ℕ) (i e : ℕ) (x : Element X) → suits_test eq role s m places i e (fit l x) ≡ suits_test eq role s m places i e x
  fit_suits m places i e (constant w) = ⊎_elim long fits (cases_lt l (length w))
    where
      long : l < length w → suits_test eq role s m places i e (fit l (constant w)) ≡ suits_test eq role s m places i e (constant w)
      long h =
          let n = part_short s (get_or places i 0) e in
          ap (suits_test eq role s m places i e) (fit_long l w h)
          ∙ ne_eqb (length (part s (get_or places i 0) e)) (l + 1) (λ q. omega arith)
          ∙ sym (same_lengths eq (part s (get_or places i 0) e) w (λ q. omega arith))

      fits : length w ≤ l → suits_test eq role s m places i e (fit l (constant w)) ≡ suits_test eq role s m places i e (constant w)
      fits h = ap (suits_test eq role s m places i e) (fit_short l w h)
  fit_suits m places i e arbitrary = refl
  fit_suits m places i e balanced = refl
  fit_suits m places i e (fixed size) = refl
  fit_suits m places i e (again j) = refl

  module _ (mode : Mode) (pattern : List (Element X)) where
    fit_may : (places : List ℕ) (n e : ℕ) → may_at eq role mode s (fitted l pattern) places n e ≡ may_at eq role mode s pattern places n e
    unfolding may_at
    fit_may places zero e = refl
    fit_may places (suc i) e =
        ap (λ b. leb (get_or places i 0) e && b)
        (ap (λ m. suits_test eq role s m places i e (get_or (fitted l pattern) i arbitrary)) (length_fitted l pattern)
        ∙ ap (suits_test eq role s (length pattern) places i e) (fitted_at l pattern i)
        ∙ fit_suits (length pattern) places i e (get_or pattern i arbitrary))

    fit_partials : partials eq role mode s (fitted l pattern) ≡ partials eq role mode s pattern
    fit_partials =
        ap (λ m. paths (may eq role mode s (fitted l pattern)) (length s) m) (length_fitted l pattern)
        ∙ ap (λ t. paths t (length s) (length pattern)) (λ i places e. fit_may places (length places) e i)

pub fitted_alike : {X : Type 0} (l : ℕ) (pattern : List (Element X)) → Alike l (fitted l pattern) pattern
fitted_alike l pattern =
    record {
      count = length_fitted l pattern;
      tries = λ eq role mode s h. fit_partials eq role s l h mode pattern;
      answers = λ eq role mode s allowance h. ap (λ m. answer m allowance (partials eq role mode s (fitted l pattern))) (length_fitted l pattern) ∙ ap (answer (length pattern) allowance) (fit_partials eq role s l h mode pattern);
    }
