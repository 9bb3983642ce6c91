-- What was gathered serves for the pattern. Assumes nothing.
use Rattle.std.proofs.Common.{◌≡◌, ℕ, suc, ◌≤◌, true, leb, List, [], ◌∷◌, length, Some, None, Ok, Err, Option, sym, refl, ap, ◌∙◌, subst, arith}
use Rattle.std.proofs.lemmas.Bool.{cond-true, and_from, le-leb}
use Rattle.std.specs.Option.{option_map, ok_or}
use Rattle.placings.specs.Pattern as placings
use Rattle.placings.specs.Enumeration.{scanned}
use Rattle.scan.specs.declared.element.Element.{Element}
use Rattle.scan.specs.declared.answer.ScanRefusal.TheVariants.{OutOfRange}
use Rattle.scan.specs.Answers.{in_range, returned}
use Rattle.scan.specs.Elements.{pattern, all_fit}
use Rattle.patterns.specs.declared.gathered.Gathered.{Gathered}
use Rattle.patterns.specs.declared.gathered.PatternRefusal.TheVariants.{NoName}
use Rattle.patterns.specs.Fitted.{fitted, Alike}
use Rattle.patterns.specs.Gathered.{gathered, elements_in, fitted_or, Serves, Served}
use Rattle.patterns.specs.Gathering.{GathersAll}
use Rattle.patterns.proofs.Fits.{fitted_alike}

length_pattern : {X : Type 0} (area : List X) (es : List Element) → length (pattern area es) ≡ length es
length_pattern area [] = refl
length_pattern area (e ∷ es) = ap suc (length_pattern area es)

ranges : (c : ℕ) (es : List Element) (allowance : ℕ) → 1 ≤ length es → length es ≤ 8 → 1 ≤ allowance → allowance ≤ 1000000 → all_fit c 0 es ≡ true → in_range c es allowance ≡ true
ranges c es allowance some few low high fit =
    and_from (leb 1 (length es)) _ (le-leb 1 (length es) some)
    (and_from (leb (length es) 8) _ (le-leb (length es) 8 few)
    (and_from (leb 1 allowance) _ (le-leb 1 allowance low)
    (and_from (leb allowance 1000000) (all_fit c 0 es) (le-leb allowance 1000000 high) fit)))

serves : {X : Type 0} (l : ℕ) (area : List X) (es : List Element) (p : List (placings.Element X)) → pattern area es ≡ fitted l p → length es ≤ 8 → all_fit (length area) 0 es ≡ true → Serves l area es p
serves {X} l area es p e few fit =
    let Fitting : List (placings.Element X) → Type 0 = λ q. Alike l q p in
    let alike : Alike l (pattern area es) p = subst Fitting (sym e) (fitted_alike l p) in
    let many : length es ≡ length p = sym (length_pattern area es) ∙ alike.count in
    record {
      alike = alike;
      scans = λ eq role mode s allowance h some low high. cond-true (in_range (length area) es allowance) (returned (scanned eq role mode s (pattern area es) allowance)) (Err OutOfRange) (ranges (length area) es allowance (omega arith) few low high fit) ∙ ap returned (alike.answers eq role mode s allowance h);
    }

module _ {X : Type 0} (l : ℕ) (area : List X) where
  pub gathers_answer : (o : Option (List (placings.Element X))) (r : Option Gathered) → GathersAll l area o r → gathered area (ok_or r NoName) ≡ fitted_or l o
  gathers_answer None None h = refl
  gathers_answer (Some p) None h = let v = h.value in let z : ◌≡◌ {A = ℕ} 0 1 = cc in absurd (omega arith)
  gathers_answer None (Some g) h = let v = h.value in let z : ◌≡◌ {A = ℕ} 0 1 = cc in absurd (omega arith)
  gathers_answer (Some p) (Some g) h = let v = h.value in let q : pattern area (elements_in g) ≡ fitted l p = cc in ap Ok q

  pub gathers_serve : (o : Option (List (placings.Element X))) (r : Option Gathered) → GathersAll l area o r → Served l area o (ok_or r NoName)
  gathers_serve o None h = tt
  gathers_serve o (Some g) h = λ p is.
      let v = h.value ∙ ap (option_map (fitted l)) is in
      let q : pattern area (elements_in g) ≡ fitted l p = cc in
      serves l area (elements_in g) p q h.fitting.0 h.fitting.1
