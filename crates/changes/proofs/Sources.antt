-- The last part that a name takes, one element more. Assumes nothing.
use Rattle.std.proofs.Common.{◌≡◌, ℕ, ◌+◌, ◌<◌, ◌≤◌, Bool, true, false, eqb, List, ◌∷◌, length, get_or, drop, Some, None, Option, refl, ap, ◌∙◌}
use Rattle.std.specs.Bool.{then_some}
use Rattle.std.specs.Option.{option_or, option_map, option_eq}
use Rattle.std.proofs.lemmas.List.{drop_more, drop_all}
use Rattle.placings.specs.Pattern.{part}
use Rattle.tables.specs.declared.row.Item.{Item}
use Rattle.tables.specs.Rows.{is_variable}
use Rattle.changes.specs.Sources.{last_part, is_reference}

pub reference_is : (o : Option ℕ) (k : ℕ) → option_eq eqb o (Some k) ≡ is_reference o k
reference_is None k = refl
reference_is (Some t) k = refl

or_or : {A : Type 0} (o p q : Option A) → option_or (option_or o p) q ≡ option_or o (option_or p q)
or_or None p q = refl
or_or (Some x) p q = refl

map_or : {A B : Type 0} (f : A → B) (o p : Option A) → option_map f (option_or o p) ≡ option_or (option_map f o) (option_map f p)
map_or f None p = refl
map_or f (Some x) p = refl

pub or_none : {A : Type 0} (o : Option A) → option_or o None ≡ o
or_none None = refl
or_none (Some x) = refl

map_then : {A B : Type 0} (f : A → B) (b : Bool) (x : A) → option_map f (then_some b x) ≡ then_some b (f x)
map_then f true x = refl
map_then f false x = refl

-- what was found once one more was tested
pub found_more : {R A : Type 0} (now : R → A) (b test : Bool) (x : R) (here found last : Option R) → last ≡ option_or here found → here ≡ then_some b x → b ≡ test → option_map now last ≡ option_or (then_some test (now x)) (option_map now found)
found_more now b test x here found last p q e =
    ap (option_map now) (p ∙ ap (λ o. option_or o found) (q ∙ ap (λ z. then_some z x) e))
    ∙ map_or now (then_some test x) found ∙ ap (λ o. option_or o (option_map now found)) (map_then now test x)

-- the first of the elements still to come
pub last_more : {X : Type 0} (s : List X) (k from i : ℕ) (is : List Item) (es : List ℕ) (d : Item) (found : Option (List X)) → i < length is → i < length es
    → option_or (last_part s k from (drop i is) (drop i es)) found ≡ option_or (last_part s k (get_or es i 0) (drop (i + 1) is) (drop (i + 1) es)) (option_or (then_some (is_variable k (get_or is i d)) (part s from (get_or es i 0))) found)
unfolding last_part
last_more s k from i is es d found lt lt' =
    ap (λ xs. option_or (last_part s k from xs (drop i es)) found) (drop_more is i d lt)
    ∙ ap (λ ys. option_or (last_part s k from (get_or is i d ∷ drop (i + 1) is) ys) found) (drop_more es i 0 lt')
    ∙ or_or (last_part s k (get_or es i 0) (drop (i + 1) is) (drop (i + 1) es)) (then_some (is_variable k (get_or is i d)) (part s from (get_or es i 0))) found

-- no element is left
pub last_all : {X : Type 0} (s : List X) (k from i : ℕ) (is : List Item) (es : List ℕ) (found : Option (List X)) → length is ≤ i → option_or (last_part s k from (drop i is) (drop i es)) found ≡ found
unfolding last_part
last_all s k from i is es found h = ap (λ xs. option_or (last_part s k from xs (drop i es)) found) (drop_all i is h)
