-- Strings replaced one after the other, and a pass over the names. Assumes nothing.
use Rattle.std.proofs.Common.{◌≡◌, ℕ, zero, suc, ◌+◌, ◌-◌, ◌<◌, ◌≤◌, eqb, ltb, List, [], ◌∷◌, map, length, get_or, take, set, Some, None, Option, sym, refl, ap, ◌∙◌, subst, add-zero, add-one, arith}
use Rattle.std.proofs.lemmas.Bool.{or_from, ne_eqb, le-ltb}
use Rattle.std.proofs.lemmas.List.{take_all}
use Rattle.stores.specs.Names.{Names, size, with_string}
use Rattle.stores.specs.Calls.{number_refusal}
use Rattle.stores.specs.Puts.{put_or}
use Rattle.stores.proofs.Calls.{number_inside, put_fits}
use Rattle.std.specs.Option.{option_map, MatchOption, IsSomeAnd}
use Rattle.changes.specs.Success.{Success}
use Rattle.changes.specs.Sources.{new_string}
use Rattle.changes.specs.Passes.{listed, new_strings, replaced, with_strings, changed, Puts, Short, Passable, IsPass}

listed_at : {A : Type 0} (f : ℕ → A) (k n i : ℕ) (d : A) → i < n → get_or (listed f k n) i d ≡ f (k + i)
unfolding listed
listed_at f k zero i d h = absurd (omega arith)
listed_at f k (suc n) zero d h = ap f (sym (add-zero k))
listed_at f k (suc n) (suc i) d h = listed_at f (suc k) n i d (omega arith) ∙ ap f (let e : suc k + i ≡ k + suc i = omega arith in e)

-- what is listed from 1 on
pub listed_one : {A : Type 0} (f : ℕ → A) (n i : ℕ) (d : A) → i < n → get_or (listed f 1 n) i d ≡ f (suc i)
listed_one f n i d lt = listed_at f 1 n i d lt ∙ ap f (let e : 1 + i ≡ suc i = omega arith in e)

pub length_listed : {A : Type 0} (f : ℕ → A) (k n : ℕ) → length (listed f k n) ≡ n
unfolding listed
length_listed f k zero = refl
length_listed f k (suc n) = ap suc (length_listed f (suc k) n)

pub listed_map : {A B : Type 0} (h : A → B) (f : ℕ → A) (k n : ℕ) → listed (λ j. h (f j)) k n ≡ map h (listed f k n)
unfolding listed
listed_map h f k zero = refl
listed_map h f k (suc n) = ap (λ t. h (f k) ∷ t) (listed_map h f (suc k) n)

-- the null string in place of a new one
unfoldable pub null : {X : Type 0} → Option (List X) → Option (List X)
null None = None
null (Some s) = Some []

-- one string replaced, where there is a new one
unfoldable pub set_at : {X : Type 0} → Option (List X) → ℕ → List (List X) → List (List X)
set_at None i ss = ss
set_at (Some s) i ss = set ss i s

module _ {X : Type 0} where
  pub length_replaced : (os : List (Option (List X))) (ss : List (List X)) → length (replaced os ss) ≡ length ss
  length_replaced [] ss = refl
  length_replaced (o ∷ os) [] = refl
  length_replaced (o ∷ os) (s ∷ ss) = ap suc (length_replaced os ss)

  pub replaced_at : (os : List (Option (List X))) (ss : List (List X)) (i : ℕ) → i < length ss → i < length os → get_or (replaced os ss) i [] ≡ put_or (get_or os i None) (get_or ss i [])
  replaced_at [] ss i h k = absurd (omega arith)
  replaced_at (o ∷ os) [] i h k = absurd (omega arith)
  replaced_at (o ∷ os) (s ∷ ss) zero h k = refl
  replaced_at (o ∷ os) (s ∷ ss) (suc i) h k = replaced_at os ss i (omega arith) (omega arith)

  set_none : (o : Option (List X)) (i : ℕ) → [] ≡ set_at o i []
  unfolding set_at
  set_none None i = refl
  set_none (Some s) i = refl

  set_first : (o : Option (List X)) (s : List X) (ss : List (List X)) → put_or o s ∷ ss ≡ set_at o 0 (s ∷ ss)
  unfolding set_at
  set_first None s ss = refl
  set_first (Some t) s ss = refl

  set_next : (o : Option (List X)) (i : ℕ) (s : List X) (ss : List (List X)) → s ∷ set_at o i ss ≡ set_at o (suc i) (s ∷ ss)
  unfolding set_at
  set_next None i s ss = refl
  set_next (Some t) i s ss = refl

  replaced_next : (os : List (Option (List X))) (ss : List (List X)) (i : ℕ) → i < length os → replaced (take (suc i) os) ss ≡ set_at (get_or os i None) i (replaced (take i os) ss)
  replaced_next [] ss i h = absurd (omega arith)
  replaced_next (o ∷ os) [] zero h = set_none o 0
  replaced_next (o ∷ os) [] (suc i) h = set_none (get_or os i None) (suc i)
  replaced_next (o ∷ os) (s ∷ ss) zero h = set_first o s ss
  replaced_next (o ∷ os) (s ∷ ss) (suc i) h = ap (λ t. put_or o s ∷ t) (replaced_next os ss i (omega arith)) ∙ set_next (get_or os i None) i (put_or o s) (replaced (take i os) ss)

  replaced_more : (os : List (Option (List X))) (ss : List (List X)) (i : ℕ) → i < length os → replaced (take (i + 1) os) ss ≡ set_at (get_or os i None) i (replaced (take i os) ss)
  replaced_more os ss i h = ap (λ n. replaced (take n os) ss) (add-one i) ∙ replaced_next os ss i h

  -- null strings in place of old ones make no string longer
  pub size_cleared : (os : List (Option (List X))) (ss : List (List X)) (i : ℕ) → size (replaced (take i (map null os)) ss) ≤ size ss
  unfolding null
  size_cleared os ss zero = omega arith
  size_cleared [] ss (suc i) = omega arith
  size_cleared (o ∷ os) [] (suc i) = omega arith
  size_cleared (None ∷ os) (s ∷ ss) (suc i) = omega (arith, size_cleared os ss i)
  size_cleared (Some t ∷ os) (s ∷ ss) (suc i) = omega (arith, size_cleared os ss i)

  size_null : (os : List (Option (List X))) (ss : List (List X)) → size (replaced (map null os) ss) ≤ size (replaced os ss)
  unfolding null
  size_null [] ss = omega arith
  size_null (o ∷ os) [] = omega arith
  size_null (None ∷ os) (s ∷ ss) = omega (arith, size_null os ss)
  size_null (Some t ∷ os) (s ∷ ss) = omega (arith, size_null os ss)

  -- on the way from there to the new strings all together are never more than at the end
  pub size_filled : (os : List (Option (List X))) (ss : List (List X)) (i : ℕ) → size (replaced (take i os) (replaced (map null os) ss)) ≤ size (replaced os ss)
  unfolding null
  size_filled os ss zero = size_null os ss
  size_filled [] ss (suc i) = omega arith
  size_filled (o ∷ os) [] (suc i) = omega arith
  size_filled (None ∷ os) (s ∷ ss) (suc i) = omega (arith, size_filled os ss i)
  size_filled (Some t ∷ os) (s ∷ ss) (suc i) = omega (arith, size_filled os ss i)

  pub replaced_twice : (os : List (Option (List X))) (ss : List (List X)) → replaced os (replaced (map null os) ss) ≡ replaced os ss
  unfolding null
  replaced_twice [] ss = refl
  replaced_twice (o ∷ os) [] = refl
  replaced_twice (None ∷ os) (s ∷ ss) = ap (λ t. s ∷ t) (replaced_twice os ss)
  replaced_twice (Some u ∷ os) (s ∷ ss) = ap (λ t. u ∷ t) (replaced_twice os ss)

  changed_at : (names : Names X) (ss : List (List X)) (i : ℕ) (o : Option (List X)) → changed (with_strings names ss) (i + 1) o ≡ with_strings names (set_at o i ss)
  unfolding set_at with_string
  changed_at names ss i None = refl
  changed_at names ss i (Some s) = ap (λ n. with_strings names (set ss n s)) (let e : (i + 1) - 1 ≡ i = omega arith in e)

  -- the next new string can be put
  puts_one : (names : Names X) (os : List (Option (List X))) (ss : List (List X)) (i : ℕ) (o : Option (List X)) → o ≡ get_or os i None → i < length os → length ss ≡ length os → Short names.longest o → size (replaced (take (i + 1) os) ss) ≤ names.most → Puts (with_strings names (replaced (take i os) ss)) (i + 1) o
  unfolding Short set_at
  puts_one names os ss i None e lt len short fits = tt
  puts_one names os ss i (Some s) e lt len short fits =
      let now' = with_strings names (replaced (take i os) ss) in
      let many = length_replaced (take i os) ss in
      let at : (i + 1) - 1 ≡ i = omega arith in
      let new : set (replaced (take i os) ss) ((i + 1) - 1) s ≡ replaced (take (i + 1) os) ss = ap (λ n. set (replaced (take i os) ss) n s) at ∙ ap (λ o'. set_at o' i (replaced (take i os) ss)) e ∙ sym (replaced_more os ss i lt) in
      let ok : number_refusal now' (i + 1) ≡ None = number_inside now' (i + 1) (length (replaced (take i os) ss)) refl (sym (or_from (eqb (i + 1) 0) (ltb (length (replaced (take i os) ss)) (i + 1)) (ne_eqb (i + 1) 0 (λ q. omega arith)) (le-ltb _ _ (omega arith)))) in
      put_fits now' (i + 1) ok s short (rw new fits)

-- what a closure makes of a new string, where its calls compute a change
pub mapped : {R X : Type 0} (Gives : R → R → Type 0) (now : R → List X) (change : List X → List X) → ((s r : R) → Gives s r → now r ≡ change (now s)) → (o r : Option R) → MatchOption o (r ≡ None) (λ s. IsSomeAnd r (Gives s)) → option_map now r ≡ option_map change (option_map now o)
mapped Gives now change law None r h = ap (option_map now) h
mapped Gives now change law (Some s) None h = absurd h
mapped Gives now change law (Some s) (Some r) h = ap Some (law s r h)

-- a pass over the names, one name more
module _ {X : Type 0} (change : List X → List X) (success : Success X) (names : Names X) (i : ℕ) (lt : i < length names.strings) (o : Option (List X)) (is : o ≡ option_map change (new_string success (i + 1))) where
  news : List (Option (List X))
  news = new_strings change success (length names.strings)

  many : length news ≡ length names.strings
  unfolding news
  many = length_listed (λ k. option_map change (new_string success k)) 1 (length names.strings)

  next_is : o ≡ get_or news i None
  unfolding news
  next_is =
      let f = λ (k : ℕ). option_map change (new_string success k) in
      is ∙ ap f (add-one i) ∙ sym (listed_one f (length names.strings) i None lt)

  pub puts_next : Passable names (new_strings change success (length names.strings)) → Puts (with_strings names (replaced (take i (new_strings change success (length names.strings))) names.strings)) (i + 1) o
  unfolding news
  puts_next ok = puts_one names news names.strings i o next_is (omega (arith, many)) (sym many) (rw next_is (ok.short i lt)) (ok.fits (i + 1))

  pub pass_more : changed (with_strings names (replaced (take i (new_strings change success (length names.strings))) names.strings)) (i + 1) o ≡ with_strings names (replaced (take (i + 1) (new_strings change success (length names.strings))) names.strings)
  unfolding news
  pass_more =
      changed_at names (replaced (take i news) names.strings) i o
      ∙ ap (λ p. with_strings names (set_at p i (replaced (take i news) names.strings))) next_is
      ∙ ap (with_strings names) (sym (replaced_more news names.strings i (omega (arith, many))))

-- the first i names have what the pass puts, the others what they had
abbrev pub Passed : {R X : Type 0} → (R → R → Type 0) → (R → List X) → Success X → Names X → ℕ → Names X → Type 0
Passed {R} {X} Gives now success before i after = (change : List X → List X) → ((s r : R) → Gives s r → now r ≡ change (now s))
    → Passable before (new_strings change success (length before.strings)) → after ≡ with_strings before (replaced (take i (new_strings change success (length before.strings))) before.strings)

module _ {R X : Type 0} (Gives : R → R → Type 0) (now : R → List X) (success : Success X) (before : Names X) where
  pub passed_more : (i : ℕ) (middle after : Names X) → i < length before.strings → Passed Gives now success before i middle
      → (o r : Option R) → MatchOption o (r ≡ None) (λ s. IsSomeAnd r (Gives s)) → option_map now o ≡ new_string success (i + 1)
      → (Puts middle (i + 1) (option_map now r) → after ≡ changed middle (i + 1) (option_map now r)) → Passed Gives now success before (i + 1) after
  passed_more i middle after lt passed o r made new put change law ok =
      let is = mapped Gives now change law o r made ∙ ap (option_map change) new in
      let so_far = passed change law ok in
      let can = puts_next change success before i lt (option_map now r) is ok in
      put (subst (λ (n : Names X). Puts n (i + 1) (option_map now r)) (sym so_far) can)
      ∙ ap (λ n. changed n (i + 1) (option_map now r)) so_far
      ∙ pass_more change success before i lt (option_map now r) is

  pub passed_all : (i : ℕ) (after : Names X) → length before.strings ≤ i → Passed Gives now success before i after → IsPass Gives now success before after
  passed_all i after h passed change law ok =
      let news = new_strings change success (length before.strings) in
      let all : length news ≤ i = omega (arith, length_listed (λ k. option_map change (new_string success k)) 1 (length before.strings)) in
      passed change law ok ∙ ap (λ os. with_strings before (replaced os before.strings)) (take_all i news all)
