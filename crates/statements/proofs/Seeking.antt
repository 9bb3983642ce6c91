-- The verdict on gathered elements is the one on the pattern that they serve for. Assumes nothing.
use Rattle.std.proofs.Common.{◌≡◌, ℕ, ◌*◌, ◌<◌, ◌≤◌, Bool, ltb, List, [], ◌∷◌, length, take, Some, None, Ok, Err, Option, Result, refl, ap, ◌∙◌, arith}
use Rattle.std.proofs.lemmas.Bool.{cond-false, le-ltb}
use Rattle.symbols.specs.declared.role.Role.{Role}
use Rattle.placings.specs.declared.mode.Mode.{Mode}
use Rattle.placings.specs.Pattern as placings
use Rattle.scan.specs.declared.answer.Scanned.{Scanned}
use Rattle.scan.specs.declared.element.Element.{Element}
use Rattle.scan.specs.Answers.{scan_answer}
use Rattle.stores.specs.Names.{Names, under}
use Rattle.patterns.specs.declared.gathered.Gathered.{Gathered}
use Rattle.patterns.specs.declared.gathered.PatternRefusal.TheVariants.{ShortArea, NoName}
use Rattle.patterns.specs.Gathered.{elements_in, gathered, gather_answer, Serves, Served}
use Rattle.statements.specs.declared.refusal.StatementRefusal.{StatementRefusal}
use Rattle.statements.specs.Sought.{judged, element_verdict, verdict_on, found, referred, Fetched}

pub fetched_found : {X : Type 0} (names : Names X) (area : List X) (t n : ℕ) (r : Result Scanned StatementRefusal) → n ≤ length area → take n area ≡ under names t → Fetched names area (found t n r)
fetched_found names area t n (Ok s) h e = (h, e)
fetched_found names area t n (Err x) h e = tt

module _ {X : Type 0} (eq : X → X → Bool) (role : X → Role) (mode : Mode) (allowance : ℕ) where
  -- with elements the verdict is the scan's
  pub verdict_some : (subject constants : List X) (es : List Element) → 0 < length es → judged (scan_answer eq role mode subject constants es allowance) ≡ element_verdict eq role mode allowance subject constants es
  verdict_some subject constants [] h = absurd (omega arith)
  verdict_some subject constants (e ∷ es) h = refl

  module _ (low : 1 ≤ allowance) (high : allowance ≤ 1000000) where
    pub serves_verdict : (l : ℕ) (subject area : List X) (es : List Element) (p : List (placings.Element X)) → Serves l area es p → length subject ≤ l
        → element_verdict eq role mode allowance subject area es ≡ verdict_on eq role mode allowance subject p
    serves_verdict l subject area [] [] h short = refl
    serves_verdict l subject area [] (p ∷ ps) h short = absurd (omega (arith, h.alike.count))
    serves_verdict l subject area (e ∷ es) [] h short = absurd (omega (arith, h.alike.count))
    serves_verdict l subject area (e ∷ es) (p ∷ ps) h short = ap judged (h.scans eq role mode subject allowance short (omega arith) low high)

    -- the string reference t was found, and what was gathered serves for the pattern
    pub sought_is : (l : ℕ) (names : Names X) (t : ℕ) (m : Option ℕ) (o : Option (List (placings.Element X))) (area : List X) (room : ℕ) (g : Gathered) (subject : List X) (n : ℕ)
        → 8 * l ≤ room → Some t ≡ m → gathered area (Ok g) ≡ gather_answer room l o → Served l area o (Ok g)
        → subject ≡ under names t → length subject ≤ l → n ≡ length (under names t)
        → found t n (element_verdict eq role mode allowance subject area (elements_in g)) ≡ referred eq role mode allowance names m o
    sought_is l names t m None area room g subject n fits e q served s short many =
        let refuses : gather_answer {X = X} room l None ≡ Err NoName = cond-false (ltb room (8 * l)) (Err ShortArea) (Err NoName) (le-ltb room (8 * l) fits) in
        let z : ◌≡◌ {A = ℕ} 0 1 = cc in
        absurd (omega arith)
    sought_is l names t m (Some p) area room g subject n fits e q served s short many =
        ap (found t n) (serves_verdict l subject area (elements_in g) p (served p refl) short ∙ ap (λ x. verdict_on eq role mode allowance x p) s)
        ∙ ap (λ k. found t k (verdict_on eq role mode allowance (under names t) p)) many
        ∙ ap (λ x. referred eq role mode allowance names x (Some p)) e
