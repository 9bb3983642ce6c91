-- What an answer says of the refusal behind it. Assumes nothing.
use Rattle.std.proofs.Common.{◌≡◌, ℕ, Some, None, Ok, Err, Option, Result, refl, ap, arith}
use Rattle.symbols.specs.Answers.{answered}
use Rattle.session.specs.declared.refusal.Refusal.{Refusal}
use Rattle.session.specs.Refusals.{first_of}

pub answered_err : {E A : Type 0} (o : Option E) (a : A) (e : E) (r : Result A E) → r ≡ Err e → r ≡ answered o a → o ≡ Some e
answered_err (Some d) a e r p q = cc
answered_err None a e r p q = let z : ◌≡◌ {A = ℕ} 0 1 = cc in absurd (omega arith)

pub answered_ok : {E A : Type 0} (o : Option E) (a x : A) (r : Result A E) → r ≡ Ok x → r ≡ answered o a → o ≡ None
answered_ok (Some d) a x r p q = let z : ◌≡◌ {A = ℕ} 0 1 = cc in absurd (omega arith)
answered_ok None a x r p q = refl

pub answered_value : {E A : Type 0} (o : Option E) (a x : A) (r : Result A E) → r ≡ Ok x → r ≡ answered o a → x ≡ a
answered_value (Some d) a x r p q = let z : ◌≡◌ {A = ℕ} 0 1 = cc in absurd (omega arith)
answered_value None a x r p q = cc

-- the first of two refusals, where the first is one or is none
pub stops : (o p : Option Refusal) (e : Refusal) → o ≡ Some e → first_of o p ≡ Some e
stops o p e is = ap (λ q. first_of q p) is

pub goes_on : (o p : Option Refusal) → o ≡ None → first_of o p ≡ p
goes_on o p is = ap (λ q. first_of q p) is
