-- Where a scan starts: the symbol that it looks for, and what it passes over. Assumes nothing.
use Rattle.std.proofs.Common.{◌≡◌, ℕ, zero, suc, ◌+◌, ◌-◌, ◌<◌, ◌≤◌, Bool, true, false, cond, ⊎_elim, leb, List, [], ◌∷◌, ◌++◌, length, get_or, take, drop, Some, None, Option, sym, refl, ap, ◌∙◌, arith}
use Rattle.std.proofs.lemmas.List.{drop_more, drop_all, length-drop, get_or-drop}
use Rattle.std.specs.List.{AllWithin, HoldsAt}
use Rattle.std.specs.Option.{MatchOption}
use Rattle.std.proofs.lemmas.Bool.{and_right, and_left, true≢false, le-leb, ne_eqb, lt-leb, cases_lt}
use Rattle.symbols.specs.declared.role.Role.{Role}
use Rattle.placings.specs.declared.mode.Mode.{Mode}
use Rattle.placings.specs.declared.mode.Mode.TheVariants.{Unanchored, Anchored}
use Rattle.placings.specs.Pattern.{part}
use Rattle.placings.specs.Tree.{push, run, below}
use Rattle.placings.specs.Enumeration.{same_parts, may_at, may}
use Rattle.scan.specs.declared.element.Element.{Element}
use Rattle.scan.specs.declared.element.Element.TheVariants.{Compared, Fixed, Free}
use Rattle.scan.specs.declared.element.Source.TheVariants.{Constant, Back}
use Rattle.scan.specs.Elements.{pattern}
use Rattle.scan.specs.Ends.{Next}
use Rattle.scan.specs.Starts.{last_start, front, head_of, begins_with, stops_at}
use Rattle.scan.proofs.Stack.{across_none, below_across}

-- the first place from a place on where a symbol stands
module _ {A : Type 0} (eq : A → A → Bool) (x : A) (s : List A) (from : ℕ) where
  -- what a search of the rest says of its places
  abbrev pub Found : Option ℕ → Type 0
  Found r = MatchOption r (AllWithin (λ y. eq y x ≡ false) (drop from s) 0 (length (drop from s))) (λ i. (i < length (drop from s)) × HoldsAt (λ y. eq y x ≡ true) (drop from s) i × AllWithin (λ y. eq y x ≡ false) (drop from s) 0 i)

  begins_at : (k : ℕ) → from ≤ k → k < length s → begins_with eq x (drop k s) ≡ eq (get_or (drop from s) (k - from) x) x
  begins_at k l h =
      let z : from + (k - from) ≡ k = omega arith in
      ap (begins_with eq x) (drop_more s k x h) ∙ ap (λ y. eq y x) (sym (get_or-drop from s (k - from) x ∙ ap (λ j. get_or s j x) z))

  begins_past : (k : ℕ) → length s ≤ k → begins_with eq x (drop k s) ≡ false
  begins_past k l = ap (begins_with eq x) (drop_all k s l)

  pub found_none : Found None → Next (stops_at eq s (Some x)) (length s) from None
  found_none h k a b =
      ⊎_elim
      (λ (l : k < length s). begins_at k a l ∙ h (k - from) x (omega arith) (omega (arith, length-drop from s)))
      (λ (l : length s ≤ k). begins_past k l)
      (cases_lt k (length s))

  pub found_some : (i : ℕ) → Found (Some i) → Next (stops_at eq s (Some x)) (length s) from (Some (from + i))
  found_some i h =
      let l = h.0 in
      let m : from + i < length s = omega (arith, length-drop from s) in
      let z : from + i - from ≡ i = omega arith in (
        omega arith,
        omega arith,
        begins_at (from + i) (omega arith) m ∙ ap (λ j. eq (get_or (drop from s) j x) x) z ∙ h.1 x,
        λ k a b. begins_at k a (omega arith) ∙ h.2 (k - from) x (omega arith) (omega arith),
      )

module _ {A : Type 0} (eq : A → A → Bool) where
  -- a part that begins with another symbol is not equal
  unlike : (x : A) (w ys : List A) (j : ℕ) → begins_with eq x ys ≡ false → same_parts eq (take j ys) (x ∷ w) ≡ false
  unlike x w [] zero f = refl
  unlike x w [] (suc j) f = refl
  unlike x w (y ∷ ys) zero f = refl
  unlike x w (y ∷ ys) (suc j) f = and_left (eq y x) (same_parts eq (take j ys) w) f

  unlike_front : (s w : List A) (k e : ℕ) → stops_at eq s (front w) k ≡ false → same_parts eq (part s k e) w ≡ false
  unlike_front s [] k e f = absurd (true≢false f)
  unlike_front s (x ∷ w) k e f = unlike x w (drop k s) (e - k) f

  module _ (role : A → Role) (s constants : List A) where
    barren_at : (es : List Element) (mode : Mode) (k e : ℕ) → 0 < length es → stops_at eq s (head_of mode constants es) k ≡ false → may eq role mode s (pattern constants es) (k ∷ []) e ≡ false
    unfolding may_at
    barren_at es Anchored k e l f = absurd (true≢false f)
    barren_at [] Unanchored k e l f = absurd (omega arith)
    barren_at (Compared (Constant from to) ∷ es) Unanchored k e l f = and_right (leb k e) _ (unlike_front s (part constants from to) k e f)
    barren_at (Compared (Back j) ∷ es) Unanchored k e l f = absurd (true≢false f)
    barren_at (Fixed size ∷ es) Unanchored k e l f = absurd (true≢false f)
    barren_at (Free variable ∷ es) Unanchored k e l f = absurd (true≢false f)

    -- from a start that is passed over nothing goes on
    pub barren : (es : List Element) (mode : Mode) (n k : ℕ) → 0 < length es → stops_at eq s (head_of mode constants es) k ≡ false → below (may eq role mode s (pattern constants es)) n (length es) (k ∷ []) ≡ []
    barren es mode n k l f =
        let z : length es ≡ suc (length es - 1) = omega arith in
        let ok = may eq role mode s (pattern constants es) in
        ap (λ d. below ok n d (k ∷ [])) z ∙ below_across ok n (length es - 1) (k ∷ []) ∙ across_none ok n (length es - 1) (k ∷ []) 0 (λ e x y. barren_at es mode k e l f)

    -- the places that may be a start are those up to the last
    pub starts_to : (es : List Element) (mode : Mode) (n k : ℕ) → k ≤ n → may eq role mode s (pattern constants es) [] k ≡ leb k (last_start mode n)
    unfolding may_at
    starts_to es Unanchored n k l = sym (le-leb k n l)
    starts_to es Anchored n zero l = refl
    starts_to es Anchored n (suc k) l = ne_eqb (suc k) 0 (λ q. omega arith) ∙ sym (lt-leb (suc k) 0 (omega arith))

pub last_within : (mode : Mode) (n : ℕ) → last_start mode n ≤ n
last_within Unanchored n = omega arith
last_within Anchored n = omega arith

-- two tests that agree on the paths from a path on list the same below it
run_like : {X : Type 0} (f g : ℕ → List X) (k lo : ℕ) → ((c : ℕ) → f c ≡ g c) → run f k lo ≡ run g k lo
unfolding run
run_like f g zero lo h = refl
run_like f g (suc k) lo h = ap (λ xs. xs ++ run f k (suc lo)) (h lo) ∙ ap (λ ys. g lo ++ ys) (run_like f g k (suc lo) h)

below_like : (ok ko : List ℕ → ℕ → Bool) (n d : ℕ) (a : ℕ) (p : List ℕ) → ((q : List ℕ) (c : ℕ) → ok (a ∷ q) c ≡ ko (a ∷ q) c) → below ok n d (a ∷ p) ≡ below ko n d (a ∷ p)
unfolding below
below_like ok ko n zero a p h = refl
below_like ok ko n (suc d) a p h =
    run_like _ _ (suc n) 0
    (λ c. ap (λ b. cond b (push (a ∷ p) c ∷ below ok n d (push (a ∷ p) c)) []) (h p c) ∙ ap (λ xs. cond (ko (a ∷ p) c) (push (a ∷ p) c ∷ xs) []) (below_like ok ko n d a (push p c) h))

-- the mode says where a placing starts, and nothing else
pub below_mode : {A : Type 0} (eq : A → A → Bool) (role : A → Role) (mode : Mode) (s constants : List A) (es : List Element) (n d k : ℕ) → below (may eq role Unanchored s (pattern constants es)) n d (k ∷ []) ≡ below (may eq role mode s (pattern constants es)) n d (k ∷ [])
unfolding may_at
below_mode eq role mode s constants es n d k = below_like (may eq role Unanchored s (pattern constants es)) (may eq role mode s (pattern constants es)) n d k [] (λ q c. refl)
