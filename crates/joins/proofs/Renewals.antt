-- The new contents of a string reference, piece by piece. Assumes nothing.
use Rattle.std.proofs.Common.{◌≡◌, ℕ, zero, suc, ◌-◌, Bool, true, false, cond, eqb, ltb, List, [], ◌∷◌, ◌++◌, length, get_or, take, drop, Some, None, Ok, Err, Option, sym, refl, ap, ◌∙◌, arith}
use Rattle.std.proofs.lemmas.List.{append-nil, append_assoc, drop_all}
use Rattle.std.specs.Option.{option_map, ok_or}
use Rattle.tables.specs.declared.row.Item.{Item}
use Rattle.joins.specs.declared.refusal.JoinRefusal.{JoinRefusal}
use Rattle.joins.specs.declared.refusal.JoinRefusal.TheVariants.{NoName, TooLong}
use Rattle.joins.specs.Renewed.{last_end, around, clipped, renew_answer, renewed_in, Within}
use Rattle.joins.specs.Pieces.{kept_front, kept_back, filled, Filled, appended, joined_to}
use Rattle.joins.proofs.Joinings.{appended_twice}

-- the last end is the last of the places
pub last_place : (start : ℕ) (es : List ℕ) → get_or (start ∷ es) (length es) 0 ≡ last_end start es
unfolding last_end
last_place start [] = refl
last_place start (e ∷ es) = last_place e es

-- a count that the test tells from 0
pub not_empty : (n : ℕ) → eqb n 0 ≡ false → n ≡ 0 → ⊥
not_empty zero e q = let z : ◌≡◌ {A = ℕ} 0 1 = cc in absurd (omega arith)
not_empty (suc n) e q = omega arith

-- what stays before and behind, where there is an element
pub front_some : (is : List Item) (start : ℕ) → (length is ≡ 0 → ⊥) → start ≡ kept_front is start
front_some [] start h = absurd (h refl)
front_some (i ∷ is) start h = refl

pub back_some : {X : Type 0} (subject : List X) (is : List Item) (start : ℕ) (es : List ℕ) → (length is ≡ 0 → ⊥) → suc (length es) ≡ suc (length is) → get_or es (length is - 1) 0 ≡ kept_back subject is start es
back_some subject [] start es h e = absurd (h refl)
back_some subject (i ∷ is) start [] h e = absurd (omega arith)
back_some subject (i ∷ is) start (x ∷ es) h e =
    let n : (suc (length is) - 1) ≡ length es = omega arith in
    ap (λ k. get_or (x ∷ es) k 0) n ∙ last_place start (x ∷ es)

clipped_or : {X : Type 0} (l : ℕ) (s : List X) → ok_or (clipped l s) TooLong ≡ renew_answer l (Some s)
clipped_or l s = go (ltb l (length s))
  where
    go : (b : Bool) → ok_or (cond b None (Some s)) TooLong ≡ cond b (Err TooLong) (Ok s)
    go true = refl
    go false = refl

module _ {X : Type 0} (subject : List X) (is : List Item) (start : ℕ) (es : List ℕ) where
  around_is : (s : List X) → around subject is start es s ≡ take (kept_front is start) subject ++ (s ++ drop (kept_back subject is start es) subject)
  around_is s = go is
    where
      go : (is : List Item) → around subject is start es s ≡ take (kept_front is start) subject ++ (s ++ drop (kept_back subject is start es) subject)
      go [] = sym (ap (λ t. s ++ t) (drop_all (length subject) subject (omega arith)) ∙ append-nil s)
      go (i ∷ is) = refl

  -- the front, the operands and the back, one behind the other
  renewed_all : (l : ℕ) (j f₁ f₂ f₃ : Option (List X)) → f₁ ≡ appended l (Some []) (take (kept_front is start) subject) → Ok f₂ ≡ joined_to l f₁ j → f₃ ≡ appended l f₂ (drop (kept_back subject is start es) subject) → ok_or f₃ TooLong ≡ renew_answer l (option_map (around subject is start es) j)
  renewed_all l None f₁ f₂ f₃ p q r = let z : ◌≡◌ {A = ℕ} 0 1 = cc in absurd (omega arith)
  renewed_all l (Some s) f₁ f₂ f₃ p q r =
      let F : List X = take (kept_front is start) subject in
      let B : List X = drop (kept_back subject is start es) subject in
      let two : f₂ ≡ appended l f₁ s = cc in
      ap (λ o. ok_or o TooLong)
      (r ∙ ap (λ t. appended l t B) (two ∙ ap (λ t. appended l t s) p ∙ appended_twice l (Some []) F s)
      ∙ appended_twice l (Some []) (F ++ s) B
      ∙ ap (clipped l) (append_assoc F s B ∙ sym (around_is s)))
      ∙ clipped_or l (around subject is start es s)

  -- the same of the pieces as they are copied, to an area that keeps its length
  pub renewed_so : (l l₁ l₂ front back : ℕ) (j f₁ f₂ f₃ : Option (List X)) → l₁ ≡ l → l₂ ≡ l₁ → front ≡ kept_front is start → back ≡ kept_back subject is start es
      → f₁ ≡ appended l (Some []) (take front subject) → Ok f₂ ≡ joined_to l₁ f₁ j → f₃ ≡ appended l₂ f₂ (drop back subject) → ok_or f₃ TooLong ≡ renew_answer l (option_map (around subject is start es) j)
  renewed_so l l₁ l₂ front back j f₁ f₂ f₃ e₁ e₂ a b p q r =
      renewed_all l j f₁ f₂ f₃
      (p ∙ ap (λ k. appended l (Some []) (take k subject)) a)
      (q ∙ ap (λ k. joined_to k f₁ j) e₁)
      (r ∙ ap (λ k. appended k f₂ (drop back subject)) (e₂ ∙ e₁) ∙ ap (λ k. appended l f₂ (drop k subject)) b)

  -- where the operands stand for nothing
  pub renewed_none : (l l₁ : ℕ) (j f₁ : Option (List X)) (e : JoinRefusal) → Err e ≡ joined_to l₁ f₁ j → Err e ≡ renew_answer l (option_map (around subject is start es) j)
  renewed_none l l₁ None f₁ e is = let q : e ≡ NoName = cc in ap Err q
  renewed_none l l₁ (Some s) f₁ e is = let z : ◌≡◌ {A = ℕ} 0 1 = cc in absurd (omega arith)

-- what is told of an area is the string at its front
pub told_length : {X : Type 0} (o : Option ℕ) (area : List X) → renewed_in (ok_or o TooLong) area ≡ ok_or (filled o area) TooLong
told_length None area = refl
told_length (Some n) area = refl

pub told_within : {X : Type 0} (o : Option ℕ) (area : List X) → Filled o area → Within (ok_or o TooLong) area
told_within None area h = tt
told_within (Some n) area h = h
