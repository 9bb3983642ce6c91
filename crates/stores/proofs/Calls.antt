-- When a call is refused, by what is known of its number and its lengths. Assumes nothing.
use Rattle.std.proofs.Common.{◌≡◌, ℕ, zero, suc, ◌+◌, ◌-◌, ◌<◌, ◌≤◌, Bool, true, false, cond, ◌||◌, eqb, ltb, List, [], ◌∷◌, length, get_or, set, Some, None, Option, sym, refl, ap, ◌∙◌, arith}
use Rattle.std.proofs.lemmas.Bool.{or_parts, eqb-false, ltb-false, lt-ltb, le-ltb, cond-true, cond-false, or_left, or_right, or_from}
use Rattle.stores.specs.declared.refusal.StoreRefusal.{StoreRefusal}
use Rattle.stores.specs.declared.refusal.StoreRefusal.TheVariants.{TooLong, OutOfRange}
use Rattle.stores.specs.Names.{Names, size, under}
use Rattle.symbols.specs.Answers.{answered, unless, over}
use Rattle.stores.specs.Calls.{outside, too_long, number_refusal, put_refusal, room_refusal, fetch_refusal, fetch_answer, after_fetch}

-- what a refusal of the number says of the test behind it, and of every call that makes the test first
first_none : (b : Bool) (o : Option StoreRefusal) → cond b (Some OutOfRange) o ≡ None → b ≡ false
first_none true o e = let z : ◌≡◌ {A = ℕ} 0 1 = cc in absurd (omega arith)
first_none false o e = refl

first_some : (b : Bool) (o : Option StoreRefusal) (e : StoreRefusal) → cond b (Some OutOfRange) None ≡ Some e → cond b (Some OutOfRange) o ≡ Some e
first_some true o e p = p
first_some false o e p = let z : ◌≡◌ {A = ℕ} 0 1 = cc in absurd (omega arith)

-- a number that is not outside is one of the strings'
pub inside : (k m : ℕ) → (eqb k 0 || ltb m k) ≡ false → (1 ≤ k) × (k ≤ m)
inside k m e =
    let p = or_parts (eqb k 0) (ltb m k) e in
    (positive k (eqb-false k 0 p.0), ltb-false m k p.1)
  where
    positive : (j : ℕ) → (j ≡ 0 → ⊥) → 1 ≤ j
    positive zero no' = absurd (no' refl)
    positive (suc j) no' = omega arith

module _ {X : Type 0} (names : Names X) (k : ℕ) where
  -- the test of the number, as the code makes it
  pub number_outside : (m : ℕ) → m ≡ length names.strings → true ≡ (eqb k 0 || ltb m k) → number_refusal names k ≡ Some OutOfRange
  unfolding number_refusal outside
  number_outside m many e = cond-true _ _ _ (ap (λ j. eqb k 0 || ltb j k) (sym many) ∙ sym e)

  pub number_inside : (m : ℕ) → m ≡ length names.strings → false ≡ (eqb k 0 || ltb m k) → number_refusal names k ≡ None
  unfolding number_refusal outside
  number_inside m many e = cond-false _ _ _ (ap (λ j. eqb k 0 || ltb j k) (sym many) ∙ sym e)

  pub fetch_refused : (room : ℕ) (e : StoreRefusal) → number_refusal names k ≡ Some e → fetch_refusal names k room ≡ Some e
  unfolding number_refusal fetch_refusal
  fetch_refused room e h = first_some (outside names k) _ e h

  pub put_refused : (s : List X) (e : StoreRefusal) → number_refusal names k ≡ Some e → put_refusal names k s ≡ Some e
  unfolding number_refusal put_refusal
  put_refused s e h = first_some (outside names k) _ e h

  -- a put that is accepted has the number of a string
  pub put_inside : (s : List X) → put_refusal names k s ≡ None → (1 ≤ k) × (k ≤ length names.strings)
  unfolding put_refusal outside
  put_inside s e = inside k (length names.strings) (first_none (outside names k) _ e)

-- a number that is accepted
module _ {X : Type 0} (names : Names X) (k : ℕ) (ok : number_refusal names k ≡ None) where
  not_outside : outside names k ≡ false
  unfolding number_refusal
  not_outside = first_none (outside names k) None ok

  pub number_is : (1 ≤ k) × (k ≤ length names.strings)
  unfolding outside
  number_is = inside k (length names.strings) not_outside

  -- a fetch copies the string
  pub fetch_copies : (s area : List X) → under names k ≡ s → (answered (room_refusal (length area) s) (length s) ≡ fetch_answer names k area) × (unless (room_refusal (length area) s) area (over s area) ≡ after_fetch names k area)
  unfolding fetch_refusal
  fetch_copies s area is =
      let same : room_refusal (length area) s ≡ fetch_refusal names k (length area) = ap (room_refusal (length area)) (sym is) ∙ sym by_room in (
        ap (λ o. answered o (length s)) same ∙ ap (λ t. answered (fetch_refusal names k (length area)) (length t)) (sym is),
        ap (λ o. unless o area (over s area)) same ∙ ap (λ t. unless (fetch_refusal names k (length area)) area (over t area)) (sym is),
      )
    where
      by_room : fetch_refusal names k (length area) ≡ room_refusal (length area) (under names k)
      by_room = cond-false _ _ _ not_outside

  pub put_long : (s : List X) → names.longest < length s → put_refusal names k s ≡ Some TooLong
  unfolding put_refusal too_long
  put_long s h = cond-false _ _ _ not_outside ∙ cond-true _ _ _ (or_left _ _ (lt-ltb names.longest (length s) h))

  pub put_over : (s : List X) → names.most < size (set names.strings (k - 1) s) → put_refusal names k s ≡ Some TooLong
  unfolding put_refusal too_long
  put_over s h = cond-false _ _ _ not_outside ∙ cond-true _ _ _ (or_right _ _ (lt-ltb names.most _ h))

  pub put_fits : (s : List X) → length s ≤ names.longest → size (set names.strings (k - 1) s) ≤ names.most → put_refusal names k s ≡ None
  unfolding put_refusal too_long
  put_fits s le h = cond-false _ _ _ not_outside ∙ cond-false _ _ _ (or_from _ _ (le-ltb names.longest (length s) le) (le-ltb names.most _ h))

-- the string of a number, in the list
pub under_is : {X : Type 0} (names : Names X) (k : ℕ) → 1 ≤ k → under names k ≡ get_or names.strings (k - 1) []
unfolding under
under_is names zero h = absurd (omega arith)
under_is names (suc k) h = ap (λ j. get_or names.strings j []) (let e : k ≡ suc k - 1 = omega arith in e)

-- all strings together, once one is replaced
pub size_set : {X : Type 0} (xs : List (List X)) (k : ℕ) (s : List X) → k < length xs → size (set xs k s) + length (get_or xs k []) ≡ size xs + length s
size_set [] k s h = absurd (omega arith)
size_set (x ∷ xs) zero s h = omega arith
size_set (x ∷ xs) (suc k) s h = omega (arith, size_set xs k s (omega arith))
