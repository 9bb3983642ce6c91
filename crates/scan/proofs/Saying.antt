-- What a scan returns says of the placings what the enumeration's answer says. Assumes nothing.
use Rattle.std.proofs.Common.{ℕ, Bool, List, sym, subst}
use Rattle.symbols.specs.declared.role.Role.{Role}
use Rattle.placings.specs.declared.mode.Mode.{Mode}
use Rattle.placings.specs.Pattern.{Element}
use Rattle.placings.specs.Enumeration.{Told, success, failure, spent, scanned}
use Rattle.placings.specs.Says.{Says, Succeeds}
use Rattle.placings.specs.Theorems.{Equality}
use Rattle.placings.proofs.Says.{says}
use Rattle.scan.specs.Answers.{returned, AnswerSays}
use Rattle.scan.proofs.Eights.{placed_back}

module _ {A : Type 0} (role : A → Role) (mode : Mode) (s : List A) (pattern : List (Element A)) (allowance : ℕ) where
  returned_says : (told : Told) → Says role mode s pattern allowance told → AnswerSays role mode s pattern allowance (returned told)
  returned_says (success places trials) h =
      subst (λ p. Succeeds role mode s pattern allowance p trials) (sym (placed_back places h.earliest.placed.partially.some)) h
  returned_says (failure trials) h = h
  returned_says spent h = h

pub answer_says : {A : Type 0} (eq : A → A → Bool) (dec : Equality A eq) (role : A → Role) (mode : Mode) (s : List A) (pattern : List (Element A)) (allowance : ℕ) → AnswerSays role mode s pattern allowance (returned (scanned eq role mode s pattern allowance))
answer_says eq dec role mode s pattern allowance = returned_says role mode s pattern allowance (scanned eq role mode s pattern allowance) (says eq dec role mode s pattern allowance)
