-- What is known of symbols that were written or fetched to the front of an area. Assumes nothing.
use Rattle.std.proofs.Common.{◌≡◌, ℕ, zero, suc, ◌-◌, ◌≤◌, Bool, true, false, cond, ◌||◌, ltb, List, [], length, take, drop, Some, None, Ok, Err, Option, sym, refl, ap, subst, ◌∙◌, arith}
use Rattle.std.specs.Result.{result_ok, result_unwrap_or}
use Rattle.std.proofs.lemmas.List.{take_at, get_or_past}
use Rattle.std.proofs.lemmas.Bool.{cond-false, le-ltb, ltb-true, ne_eqb}
use Rattle.symbols.specs.Answers.{answered, unless, over}
use Rattle.stores.specs.declared.refusal.StoreRefusal.{StoreRefusal}
use Rattle.stores.specs.declared.refusal.StoreRefusal.TheVariants.{OutOfRange, ShortArea}
use Rattle.stores.specs.Names.{Names, under}
use Rattle.stores.specs.Calls.{outside, fetch_refusal, fetch_answer, after_fetch}

-- an answer that accepts or refuses says how its test came out
pub accepted : {E A : Type 0} (b : Bool) (e : E) (a x : A) → Ok x ≡ answered (cond b (Some e) None) a → (b ≡ false) × (x ≡ a)
accepted true e a x h = let z : ◌≡◌ {A = ℕ} 0 1 = cc in absurd (omega arith)
accepted false e a x h = (refl, cc)

pub refused : {E A : Type 0} (b : Bool) (e e' : E) (a : A) → Err e' ≡ answered (cond b (Some e) None) a → b ≡ true
refused true e e' a h = refl
refused false e e' a h = let z : ◌≡◌ {A = ℕ} 0 1 = cc in absurd (omega arith)

-- what a call leaves, by how its test came out
pub left_new : {E A : Type 0} (b : Bool) (e : E) (old new last : A) → last ≡ unless (cond b (Some e) None) old new → b ≡ false → last ≡ new
left_new b e old new last h q = h ∙ ap (λ x. unless (cond x (Some e) None) old new) q

pub left_old : {E A : Type 0} (b : Bool) (e : E) (old new last : A) → last ≡ unless (cond b (Some e) None) old new → b ≡ true → last ≡ old
left_old b e old new last h q = h ∙ ap (λ x. unless (cond x (Some e) None) old new) q

-- the front of an area, in the code's own form
pub front : {X : Type 0} (s area : List X) (n : ℕ) → n ≡ length s → take (n - 0) (over s area) ≡ s
front s area n e = take_at s (drop (length s) area) (n - 0) (omega arith)

-- a number that no string has is that of a null string
pub outside_null : {X : Type 0} (names : Names X) (k : ℕ) → outside names k ≡ true → under names k ≡ []
unfolding under outside
outside_null names zero e = refl
outside_null names (suc k) e = get_or_past names.strings k [] (omega (arith, ltb-true (length names.strings) (suc k) (sym (ap (λ b. b || ltb (length names.strings) (suc k)) (ne_eqb (suc k) 0 (λ q. omega arith))) ∙ e)))

-- where there is room, a string is refused only for its number
pub fetch_roomy : {X : Type 0} (names : Names X) (k room : ℕ) → length (under names k) ≤ room → fetch_refusal names k room ≡ cond (outside names k) (Some OutOfRange) None
unfolding fetch_refusal
fetch_roomy names k room h = ap (λ o. cond (outside names k) (Some OutOfRange) o) (cond-false (ltb room (length (under names k))) (Some ShortArea) None (le-ltb _ _ h))

-- a string that is fetched where there is room: it is over the front of the area; a number that no string has leaves the area as it was
pub fetched : {X : Type 0} (names : Names X) (k : ℕ) (area : List X) → length (under names k) ≤ length area → (result_unwrap_or (fetch_answer names k area) 0 ≡ length (under names k)) × (after_fetch names k area ≡ over (under names k) area)
fetched {X} names k area h = subst Says (sym (fetch_roomy names k (length area) h)) (by_number (outside names k) refl)
  where
    Says : Option StoreRefusal → Type 0
    Says o = (result_unwrap_or (answered o (length (under names k))) 0 ≡ length (under names k)) × (unless o area (over (under names k) area) ≡ over (under names k) area)

    by_number : (b : Bool) → outside names k ≡ b → Says (cond b (Some OutOfRange) None)
    by_number true e = let null = outside_null names k e in (sym (ap length null), sym (ap (λ s. over s area) null))
    by_number false e = (refl, refl)

-- an accepted or refused answer as an option
pub ok_some : {E A : Type 0} (b : Bool) (e : E) (a x : A) → Some x ≡ result_ok (answered (cond b (Some e) None) a) → (b ≡ false) × (x ≡ a)
ok_some true e a x h = let z : ◌≡◌ {A = ℕ} 0 1 = cc in absurd (omega arith)
ok_some false e a x h = (refl, cc)

pub ok_none : {E A : Type 0} (b : Bool) (e : E) (a : A) → None ≡ result_ok (answered (cond b (Some e) None) a) → b ≡ true
ok_none true e a h = refl
ok_none false e a h = let z : ◌≡◌ {A = ℕ} 0 1 = cc in absurd (omega arith)
