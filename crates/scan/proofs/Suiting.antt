-- The test of an end by the places so far is the test of the element that stands there. Assumes nothing.
use Rattle.std.proofs.Common.{◌≡◌, ℕ, zero, suc, ◌+◌, ◌<◌, ◌≤◌, Bool, true, not, ◌&&◌, ◌||◌, eqb, leb, List, length, get_or, sym, refl, ap, ◌∙◌, arith}
use Rattle.std.proofs.lemmas.List.{get_or-map, length-map, length-take-le, get_or-take}
use Rattle.std.proofs.lemmas.Bool.{and_parts, leb-true, ltb-true, lt-ltb}
use Rattle.symbols.specs.declared.role.Role.{Role}
use Rattle.placings.specs.declared.mode.Mode.{Mode}
use Rattle.placings.specs.Pattern.{arbitrary, part}
use Rattle.placings.specs.Enumeration.{same_parts, suits_test, may_at, may}
use Rattle.scan.specs.declared.element.Element.{Element}
use Rattle.scan.specs.declared.element.Element.TheVariants.{Compared, Fixed, Free}
use Rattle.scan.specs.declared.element.Source.{Source}
use Rattle.scan.specs.declared.element.Source.TheVariants.{Constant, Back}
use Rattle.scan.specs.declared.element.Variable.TheVariants.{Arbitrary, Balanced}
use Rattle.scan.specs.declared.row.Row.{Row}
use Rattle.scan.specs.Elements.{stands, pattern}
use Rattle.scan.specs.Ends.{element_end}
use Rattle.scan.specs.Rows.{unused, compared_with}
use Rattle.scan.specs.Left.{ends, beginning, places}

-- the element that stands at i, as the code reads it
abbrev pub element_at : List Element → ℕ → Element
element_at es i = get_or es i (Compared (Constant 0 0))

-- a back reference of element i is to one further left
abbrev pub SourceRefers : ℕ → Source → Type 0
SourceRefers i (Constant from to) = Unit {0}
SourceRefers i (Back j) = j < i

abbrev pub Refers : ℕ → Element → Type 0
Refers i (Compared source) = SourceRefers i source
Refers i (Fixed size) = Unit {0}
Refers i (Free variable) = Unit {0}

pub place_at : (start : ℕ) (rows : List Row) (i k : ℕ) → k ≤ i → get_or (places start rows i) k 0 ≡ beginning start rows k
place_at start rows i zero l = refl
place_at start rows i (suc k) l = get_or-take i (ends rows) k 0 (omega arith)

pub length_places : (start : ℕ) (rows : List Row) (i : ℕ) → i ≤ length rows → length (places start rows i) ≡ suc i
length_places start rows i l = ap suc (length-take-le i (ends rows) (omega (arith, length-map rows (λ (row : Row). row.end))))

pub end_at : (rows : List Row) (k : ℕ) → k < length rows → get_or (ends rows) k 0 ≡ (get_or rows k unused).end
end_at rows k l = get_or-map (λ (row : Row). row.end) rows k unused 0 l

module _ {A : Type 0} (eq : A → A → Bool) (role : A → Role) (mode : Mode) (s constants : List A) (es : List Element) (start : ℕ) (rows : List Row) (i : ℕ) (d : Element) (l : i < length es) (few : i ≤ length rows) where
  may_next : (k : ℕ) → may eq role mode s (pattern constants es) (places start rows i) k ≡ (leb (beginning start rows i) k && suits_test eq role s (length es) (places start rows i) i k (stands constants (get_or es i d)))
  unfolding may_at
  may_next k =
      ap (λ j. may_at eq role mode s (pattern constants es) (places start rows i) j k) (length_places start rows i few)
      ∙ ap (λ x. leb (get_or (places start rows i) i 0) k && suits_test eq role s (length (pattern constants es)) (places start rows i) i k x) (get_or-map (stands constants) es i d arbitrary l)
      ∙ ap (λ m. leb (get_or (places start rows i) i 0) k && suits_test eq role s m (places start rows i) i k (stands constants (get_or es i d))) (length-map es (stands constants))
      ∙ ap (λ a. leb a k && suits_test eq role s (length es) (places start rows i) i k (stands constants (get_or es i d))) (place_at start rows i i (omega arith))

  -- the places rise
  pub may_rises : (k : ℕ) → may eq role mode s (pattern constants es) (places start rows i) k ≡ true → beginning start rows i ≤ k
  may_rises k t = leb-true (beginning start rows i) k (and_parts _ _ (sym (may_next k) ∙ t)).0

  refers_by : (k : ℕ) (x : Element) → suits_test eq role s (length es) (places start rows i) i k (stands constants x) ≡ true → Refers i x
  refers_by k (Compared (Constant from to)) t = tt
  refers_by k (Compared (Back j)) t = ltb-true j i (and_parts _ _ t).0
  refers_by k (Fixed size) t = tt
  refers_by k (Free variable) t = tt

  pub may_refers : (k : ℕ) → may eq role mode s (pattern constants es) (places start rows i) k ≡ true → Refers i (get_or es i d)
  may_refers k t = refers_by k (get_or es i d) (and_parts _ _ (sym (may_next k) ∙ t)).1

  suits_is : (last : Bool) → last ≡ eqb (i + 1) (length es) → ((j : ℕ) → j < i → (get_or rows j unused).begin ≡ beginning start rows j) → (k : ℕ) (x : Element) → Refers i x → (leb (beginning start rows i) k && suits_test eq role s (length es) (places start rows i) i k (stands constants x)) ≡ element_end eq role s (compared_with s constants rows x) last x (beginning start rows i) k
  suits_is last q begins k (Compared (Constant from to)) h = ap (λ a. leb (beginning start rows i) k && same_parts eq (part s a k) (part constants from to)) (place_at start rows i i (omega arith))
  suits_is last q begins k (Compared (Back j)) h =
      ap (λ b. leb (beginning start rows i) k && (b && same_parts eq (part s (get_or (places start rows i) i 0) k) (part s (get_or (places start rows i) j 0) (get_or (places start rows i) (suc j) 0)))) (lt-ltb j i h)
      ∙ ap (λ a. leb (beginning start rows i) k && same_parts eq (part s a k) (part s (get_or (places start rows i) j 0) (get_or (places start rows i) (suc j) 0))) (place_at start rows i i (omega arith))
      ∙ ap (λ a. leb (beginning start rows i) k && same_parts eq (part s (beginning start rows i) k) (part s a (get_or (places start rows i) (suc j) 0))) (place_at start rows i j (omega arith) ∙ sym (begins j h))
      ∙ ap (λ a. leb (beginning start rows i) k && same_parts eq (part s (beginning start rows i) k) (part s (get_or rows j unused).begin a)) (place_at start rows i (suc j) h ∙ end_at rows j (omega arith))
  suits_is last q begins k (Fixed size) h = ap (λ a. leb (beginning start rows i) k && eqb (length (part s a k)) size) (place_at start rows i i (omega arith))
  suits_is last q begins k (Free Arbitrary) h =
      let z : suc i ≡ i + 1 = omega arith in
      ap (λ b. leb (beginning start rows i) k && (not b || eqb k (length s))) (ap (λ j. eqb j (length es)) z ∙ sym q)
  suits_is last q begins k (Free Balanced) h = ap (λ a. leb (beginning start rows i) k && Rattle.placings.specs.Enumeration.balanced_test role (part s a k)) (place_at start rows i i (omega arith))

  pub may_is : (last : Bool) → last ≡ eqb (i + 1) (length es) → ((j : ℕ) → j < i → (get_or rows j unused).begin ≡ beginning start rows j) → Refers i (get_or es i d) → (k : ℕ) → may eq role mode s (pattern constants es) (places start rows i) k ≡ element_end eq role s (compared_with s constants rows (get_or es i d)) last (get_or es i d) (beginning start rows i) k
  may_is last q begins h k = may_next k ∙ suits_is last q begins k (get_or es i d) h
