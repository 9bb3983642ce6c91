-- A pattern gathered element by element. Assumes nothing.
use Rattle.std.proofs.Common.{◌≡◌, ℕ, suc, ◌+◌, ◌*◌, ◌<◌, ◌≤◌, true, leb, List, [], ◌∷◌, ◌++◌, length, get_or, take, drop, Some, None, Option, sym, refl, ap, ◌∙◌, mul-le-mul_right, suc-mul, arith}
use Rattle.std.proofs.lemmas.List.{append-nil, append_assoc, take_more, at_drop_more, drop_all}
use Rattle.std.proofs.lemmas.Bool.{and_parts, and_from, leb-true, le-leb}
use Rattle.std.specs.Option.{option_map}
use Rattle.placings.specs.Pattern.{constant}
use Rattle.placings.specs.Pattern as placings
use Rattle.scan.specs.declared.element.Element.{Element}
use Rattle.scan.specs.declared.element.Element.TheVariants.{Compared, Fixed, Free}
use Rattle.scan.specs.declared.element.Source.{Source}
use Rattle.scan.specs.declared.element.Source.TheVariants.{Constant, Back}
use Rattle.scan.specs.Elements.{source_stands, stands, pattern, source_fits, fits, all_fit}
use Rattle.stores.specs.Names.{Names}
use Rattle.tables.specs.declared.row.Item.{Item}
use Rattle.tables.specs.declared.sheet.NameTable.{NameTable}
use Rattle.patterns.specs.Resolved.{before_all, item_element, resolved_behind}
use Rattle.patterns.specs.Fitted.{fit, fitted}
use Rattle.patterns.specs.Gathering.{Gathers}
use Rattle.patterns.proofs.Areas.{part_before}
use Rattle.patterns.proofs.Fits.{fit_short}

-- a constant that is within a limit is within a larger one
pub gathers_within : {X : Type 0} (l used i : ℕ) (before after s w : List X) (e : Element) → length s ≤ l → s ≡ w → Gathers (length s) used i before after (Some (constant s)) (Some e) → Gathers l used i before after (Some (constant w)) (Some e)
gathers_within l used i before after s w e h q r =
    let few = r.adds.few in
    record {
      value = r.value ∙ ap Some (fit_short (length s) s (omega arith) ∙ sym (fit_short l s h)) ∙ ap (λ t. Some (fit l (constant t))) q;
      kept = r.kept;
      adds = record { fitting = r.adds.fitting; more = r.adds.more; few = omega arith };
    }

-- what fits some constants fits more
source_fits_more : (c d i : ℕ) → c ≤ d → (s : Source) → source_fits c i s ≡ true → source_fits d i s ≡ true
source_fits_more c d i h (Constant from to) t =
    let p = and_parts (leb from to) (leb to c) t in
    let q = leb-true to c p.1 in
    and_from (leb from to) (leb to d) p.0 (le-leb to d (omega arith))
source_fits_more c d i h (Back j) t = t

fits_more : (c d i : ℕ) → c ≤ d → (e : Element) → fits c i e ≡ true → fits d i e ≡ true
fits_more c d i h (Compared source) t = source_fits_more c d i h source t
fits_more c d i h (Fixed size) t = refl
fits_more c d i h (Free variable) t = refl

pub all_fit_more : (c d i : ℕ) → c ≤ d → (es : List Element) → all_fit c i es ≡ true → all_fit d i es ≡ true
unfolding all_fit
all_fit_more c d i h [] t = refl
all_fit_more c d i h (e ∷ es) t =
    let p = and_parts (fits c i e) (all_fit c (suc i) es) t in
    and_from (fits d i e) (all_fit d (suc i) es) (fits_more c d i h e p.0) (all_fit_more c d (suc i) h es p.1)

-- one element more at the end
pub all_fit_push : (c i : ℕ) (es : List Element) (e : Element) → all_fit c i es ≡ true → fits c (i + length es) e ≡ true → all_fit c i (es ++ e ∷ []) ≡ true
unfolding all_fit
all_fit_push c i [] e t f = let z : i + 0 ≡ i = omega arith in and_from (fits c i e) true (rw z at f) refl
all_fit_push c i (x ∷ xs) e t f =
    let p = and_parts (fits c i x) (all_fit c (suc i) xs) t in
    let z : i + suc (length xs) ≡ suc i + length xs = omega arith in
    and_from (fits c i x) (all_fit c (suc i) (xs ++ e ∷ [])) p.0 (all_fit_push c (suc i) xs e p.1 (rw z at f))

-- elements that fit the constants used stand for the same, whatever lies behind these
source_before : {X : Type 0} (xs ys : List X) (used i : ℕ) → take used xs ≡ take used ys → (s : Source) → source_fits used i s ≡ true → source_stands xs s ≡ source_stands ys s
source_before xs ys used i q (Constant from to) t =
    let p = and_parts (leb from to) (leb to used) t in
    ap constant (part_before xs ys from to used (leb-true to used p.1) q)
source_before xs ys used i q (Back j) t = refl

stands_before : {X : Type 0} (xs ys : List X) (used i : ℕ) → take used xs ≡ take used ys → (e : Element) → fits used i e ≡ true → stands xs e ≡ stands ys e
stands_before xs ys used i q (Compared source) t = source_before xs ys used i q source t
stands_before xs ys used i q (Fixed size) t = refl
stands_before xs ys used i q (Free variable) t = refl

pub pattern_before : {X : Type 0} (xs ys : List X) (used i : ℕ) → take used xs ≡ take used ys → (es : List Element) → all_fit used i es ≡ true → pattern xs es ≡ pattern ys es
unfolding all_fit
pattern_before xs ys used i q [] t = refl
pattern_before xs ys used i q (e ∷ es) t =
    let p = and_parts (fits used i e) (all_fit used (suc i) es) t in
    λ k. stands_before xs ys used i q e p.0 k ∷ pattern_before xs ys used (suc i) q es p.1 k

-- what was gathered, before what is still to come
pub prepended : {A : Type 0} → List A → Option (List A) → Option (List A)
prepended xs None = None
prepended xs (Some ys) = Some (xs ++ ys)

prepended_first : {A : Type 0} (xs : List A) (x : A) (o : Option (List A)) → prepended xs (before_all (Some x) o) ≡ prepended (xs ++ x ∷ []) o
unfolding prepended
prepended_first xs x None = refl
prepended_first xs x (Some ys) = ap Some (sym (append_assoc xs (x ∷ []) ys))

prepended_none : {A : Type 0} (xs : List A) (o : Option (List A)) → prepended xs (before_all None o) ≡ None
unfolding prepended
prepended_none xs o = refl

pub prepended_nil : {A : Type 0} (o : Option (List A)) → o ≡ prepended [] o
unfolding prepended
prepended_nil None = refl
prepended_nil (Some ys) = refl

prepended_done : {A : Type 0} (xs : List A) → prepended xs (Some []) ≡ Some xs
unfolding prepended
prepended_done xs = ap Some (append-nil xs)

fitted_first : {X : Type 0} (l : ℕ) (o : Option (placings.Element X)) (r : Option (List (placings.Element X))) → option_map (fitted l) (before_all o r) ≡ before_all (option_map (fit l) o) (option_map (fitted l) r)
fitted_first l None r = refl
fitted_first l (Some x) None = refl
fitted_first l (Some x) (Some xs) = refl

module _ {X : Type 0} (chars : X → List ℕ) (table : NameTable) (constants : List X) (names : Names X) (l : ℕ) (items : List Item) where
  -- what is still to come after the first i items
  pub to_come : ℕ → Option (List (placings.Element X))
  to_come i = option_map (fitted l) (resolved_behind chars table constants names (take i items) (drop i items))

  pub comes_first : option_map (fitted l) (resolved_behind chars table constants names [] items) ≡ to_come 0
  unfolding to_come
  comes_first = refl

  comes_next : (i : ℕ) (d : Item) → i < length items → to_come i ≡ before_all (option_map (fit l) (item_element chars table constants names (take i items) (get_or items i d))) (to_come (i + 1))
  unfolding to_come resolved_behind
  comes_next i d h =
      ap (option_map (fitted l)) (at_drop_more (resolved_behind chars table constants names (take i items)) items i d h)
      ∙ fitted_first l (item_element chars table constants names (take i items) (get_or items i d)) (resolved_behind chars table constants names (take i items ++ get_or items i d ∷ []) (drop (i + 1) items))
      ∙ ap (λ t. before_all (option_map (fit l) (item_element chars table constants names (take i items) (get_or items i d))) (option_map (fitted l) (resolved_behind chars table constants names t (drop (i + 1) items)))) (sym (take_more items i d h))

  -- an item whose element is there
  pub comes_some : (i : ℕ) (d : Item) (xs : List (placings.Element X)) (x : placings.Element X) → i < length items → Some x ≡ option_map (fit l) (item_element chars table constants names (take i items) (get_or items i d)) → prepended xs (to_come i) ≡ prepended (xs ++ x ∷ []) (to_come (i + 1))
  comes_some i d xs x h e =
      ap (prepended xs) (comes_next i d h ∙ ap (λ o. before_all o (to_come (i + 1))) (sym e)) ∙ prepended_first xs x (to_come (i + 1))

  -- an item that has none
  pub comes_none : (i : ℕ) (d : Item) (xs : List (placings.Element X)) → i < length items → None ≡ option_map (fit l) (item_element chars table constants names (take i items) (get_or items i d)) → prepended xs (to_come i) ≡ None
  comes_none i d xs h e =
      ap (prepended xs) (comes_next i d h ∙ ap (λ o. before_all o (to_come (i + 1))) (sym e)) ∙ prepended_none xs (to_come (i + 1))

  pub comes_last : (i : ℕ) (xs : List (placings.Element X)) → length items ≤ i → prepended xs (to_come i) ≡ Some xs
  unfolding to_come resolved_behind
  comes_last i xs h = ap (λ t. prepended xs (option_map (fitted l) (resolved_behind chars table constants names (take i items) t))) (drop_all i items h) ∙ prepended_done xs

-- eight constants of l symbols find room
pub room_for_one : (l i used n : ℕ) → i < 8 → used ≤ i * l → 8 * l ≤ n → used + l ≤ n
room_for_one l i used n h p q = omega (arith, suc-mul i l, mul-le-mul_right {m = suc i} {n = 8} l h)
