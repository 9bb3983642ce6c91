-- `after` is what may follow. Assumes nothing.
use Rattle.std.proofs.Common.{◌≡◌, ℕ, Bool, true, false, cond, not, ◌&&◌, ◌||◌, ◌⊎◌, ◌↔◌, List, [], ◌∷◌, ◌++◌, sym, refl, ap, ◌∙◌, subst, inl, inr, append_assoc, arith}
use Rattle.lines.specs.Languages.{Lang, none, null, one, ◌then◌, ◌or◌, ◌but◌, many, In, Many, stop, more}
use Rattle.lines.specs.After.{holds_null, is_none, seq, alt, less, after, after_all}

pub no_cons : {A : Type 0} (k : A) (s : List A) → [] ≡ k ∷ s → ⊥
no_cons k s e = let z : ◌≡◌ {A = ℕ} 0 1 = cc in omega arith

pub true_false : (b : Bool) → b ≡ true → b ≡ false → ⊥
true_false b e f = let z : ◌≡◌ {A = ℕ} 0 1 = cc in omega arith

pub and_left : (a b : Bool) → (a && b) ≡ true → a ≡ true
and_left true b e = refl
and_left false b e = e

pub and_right : (a b : Bool) → (a && b) ≡ true → b ≡ true
and_right true b e = e
and_right false true e = refl
and_right false false e = e

and_both : (a b : Bool) → a ≡ true → b ≡ true → (a && b) ≡ true
and_both true b e f = f
and_both false b e f = e

or_cases : (a b : Bool) → (a || b) ≡ true → (a ≡ true) ⊎ (b ≡ true)
or_cases true b e = inl refl
or_cases false b e = inr e

or_left : (a b : Bool) → a ≡ true → (a || b) ≡ true
or_left true b e = refl
or_left false true e = refl
or_left false false e = e

or_right : (a b : Bool) → b ≡ true → (a || b) ≡ true
or_right true b e = refl
or_right false b e = e

not_true : (a : Bool) → not a ≡ true → a ≡ true → ⊥
not_true true e f = true_false false e refl
not_true false e f = true_false false f refl

to_not : (a : Bool) → (a ≡ true → ⊥) → not a ≡ true
to_not true h = absurd (h refl)
to_not false h = refl

is_none_empty : {A : Type 0} (a : Lang A) (s : List A) → is_none a ≡ true → In a s → ⊥
unfolding is_none
is_none_empty none s e h = h
is_none_empty null s e h = true_false false e refl
is_none_empty (one p) s e h = true_false false e refl
is_none_empty (a then b) s e h = true_false false e refl
is_none_empty (a or b) s e h = true_false false e refl
is_none_empty (a but b) s e h = true_false false e refl
is_none_empty (many a) s e h = true_false false e refl

append_nil : {A : Type 0} (u v : List A) → [] ≡ u ++ v → (u ≡ []) × (v ≡ [])
append_nil [] v e = (refl, sym e)
append_nil (x ∷ u) v e = absurd (no_cons x (u ++ v) e)

pub null_in : {A : Type 0} (a : Lang A) → (holds_null a ≡ true) ↔ In a []
unfolding holds_null
null_in none = (λ e. true_false false e refl, λ h. absurd h)
null_in null = (λ e. refl, λ h. refl)
null_in (one p) = (λ e. absurd (true_false false e refl), λ h. absurd (no_cons h.0 [] h.1))
null_in (a then b) = (
  λ e. ([], [], refl, (null_in a).0 (and_left (holds_null a) (holds_null b) e), (null_in b).0 (and_right (holds_null a) (holds_null b) e)),
  λ h. let e = append_nil h.0 h.1 h.2 in
      and_both (holds_null a) (holds_null b) ((null_in a).1 (subst (In a) e.0 h.3)) ((null_in b).1 (subst (In b) e.1 h.4)),
)
null_in (a or b) = (
  λ e. elim (or_cases (holds_null a) (holds_null b) e) [ inl f ↦ inl ((null_in a).0 f) | inr f ↦ inr ((null_in b).0 f) ],
  λ h. elim h [ inl x ↦ or_left (holds_null a) (holds_null b) ((null_in a).1 x) | inr x ↦ or_right (holds_null a) (holds_null b) ((null_in b).1 x) ],
)
null_in (a but b) = (
  λ e. (
    (null_in a).0 (and_left (holds_null a) (not (holds_null b)) e),
    λ h. not_true (holds_null b) (and_right (holds_null a) (not (holds_null b)) e) ((null_in b).1 h),
  ),
  λ h. and_both (holds_null a) (not (holds_null b)) ((null_in a).1 h.0) (to_not (holds_null b) (λ e. h.1 ((null_in b).0 e))),
)
null_in (many a) = (λ e. stop, λ h. refl)

pub seq_in : {A : Type 0} (a c : Lang A) (s : List A) → In (seq a c) s ↔ In (a then c) s
unfolding seq
seq_in none c s = (λ h. absurd h, λ h. h.3)
seq_in null c s = (
  λ h. ([], s, refl, refl, h),
  λ h. subst (In c) (sym (h.2 ∙ ap (λ (u : List _). u ++ h.1) h.3)) h.4,
)
seq_in (one p) c s = (λ h. h, λ h. h)
seq_in (a then b) c s = (
  λ h. let g = (seq_in a (seq b c) s).0 h in
      let f = (seq_in b c g.1).0 g.4 in (
        g.0 ++ f.0,
        f.1,
        g.2 ∙ ap (λ (u : List _). g.0 ++ u) f.2 ∙ sym (append_assoc g.0 f.0 f.1),
        (g.0, f.0, refl, g.3, f.3),
        f.4,
      ),
  λ h. (seq_in a (seq b c) s).1 (
    h.3.0,
    h.3.1 ++ h.1,
    h.2 ∙ ap (λ (u : List _). u ++ h.1) h.3.2 ∙ append_assoc h.3.0 h.3.1 h.1,
    h.3.3,
    (seq_in b c (h.3.1 ++ h.1)).1 (h.3.1, h.1, refl, h.3.4, h.4),
  ),
)
seq_in (a or b) c s = (λ h. h, λ h. h)
seq_in (a but b) c s = (λ h. h, λ h. h)
seq_in (many a) c s = (λ h. h, λ h. h)

module _ {A : Type 0} (a b : Lang A) (s : List A) where
  alt_to : (x y : Bool) → is_none a ≡ x → is_none b ≡ y → In a s ⊎ In b s → In (cond x b (cond y a (a or b))) s
  alt_to true y e f (inl h) = absurd (is_none_empty a s e h)
  alt_to true y e f (inr h) = h
  alt_to false true e f (inl h) = h
  alt_to false true e f (inr h) = absurd (is_none_empty b s f h)
  alt_to false false e f h = h

  alt_from : (x y : Bool) → In (cond x b (cond y a (a or b))) s → In a s ⊎ In b s
  alt_from true y h = inr h
  alt_from false true h = inl h
  alt_from false false h = h

  pub alt_in : In (alt a b) s ↔ (In a s ⊎ In b s)
  unfolding alt
  alt_in = (λ h. alt_from (is_none a) (is_none b) h, λ h. alt_to (is_none a) (is_none b) refl refl h)

  less_to : (x y : Bool) → is_none a ≡ x → In a s × (In b s → ⊥) → In (cond x none (cond y a (a but b))) s
  less_to true y e h = is_none_empty a s e h.0
  less_to false true e h = h.0
  less_to false false e h = h

  less_from : (x y : Bool) → is_none b ≡ y → In (cond x none (cond y a (a but b))) s → In a s × (In b s → ⊥)
  less_from true y e h = absurd h
  less_from false true e h = (h, λ g. is_none_empty b s e g)
  less_from false false e h = h

  pub less_in : In (less a b) s ↔ (In a s × (In b s → ⊥))
  unfolding less
  less_in = (λ h. less_from (is_none a) (is_none b) refl h, λ h. less_to (is_none a) (is_none b) refl h)

when_in : {A : Type 0} (x : Bool) (b : Lang A) (s : List A) → In (cond x b none) s ↔ ((x ≡ true) × In b s)
when_in true b s = (λ h. (refl, h), λ h. h.1)
when_in false b s = (λ h. absurd h, λ h. absurd (true_false false h.0 refl))

-- a text that begins with k, cut in two
module _ {A : Type 0} (k : A) (s : List A) where
  cut_first : (u v : List A) → k ∷ s ≡ u ++ v → ((u ≡ []) × (v ≡ k ∷ s)) ⊎ ((w : List A) × (u ≡ k ∷ w) × (s ≡ w ++ v))
  cut_first [] v e = inl (refl, sym e)
  cut_first (x ∷ w) v e =
      let e₁ : k ≡ x = cc in
      let e₂ : s ≡ w ++ v = cc in
      inr (w, ap (λ (y : A). y ∷ w) (sym e₁), e₂)

module _ {A : Type 0} (k : A) (a : Lang A) (ih : (s : List A) → In (after k a) s ↔ In a (k ∷ s)) where
  many_from : (s t : List A) → Many (In a) t → t ≡ k ∷ s → In (after k a then many a) s
  many_from s t stop f = absurd (no_cons k s f)
  many_from s t (more u v e hu hv) f =
      elim (cut_first k s u v (sym f ∙ e)) [
        | inl x ↦ many_from s v hv x.1
        | inr x ↦ (x.0, v, x.2, (ih x.0).1 (subst (In a) x.1 hu), hv)
      ]

  many_to : (s : List A) → In (after k a then many a) s → Many (In a) (k ∷ s)
  many_to s h = more (k ∷ h.0) h.1 (ap (λ (y : List A). k ∷ y) h.2) ((ih h.0).0 h.3) h.4

pub after_in : {A : Type 0} (k : A) (a : Lang A) (s : List A) → In (after k a) s ↔ In a (k ∷ s)
unfolding after
after_in k none s = (λ h. h, λ h. h)
after_in k null s = (λ h. absurd h, λ h. no_cons k s (sym h))
after_in {A} k (one p) s = (
  λ h. let g = (when_in (p k) null s).0 h in (k, ap (λ (y : List A). k ∷ y) g.1, g.0),
  λ h. let h₁ : k ∷ s ≡ h.0 ∷ [] = h.1 in
      let e₁ : k ≡ h.0 = cc in
      let e₂ : s ≡ [] = cc in
      (when_in (p k) null s).1 (ap p e₁ ∙ h.2, e₂),
)
after_in {A} k (a then b) s = (
  λ h. elim ((alt_in (seq (after k a) b) (cond (holds_null a) (after k b) none) s).0 h) [
    | inl x ↦ (let g = (seq_in (after k a) b s).0 x in
        (k ∷ g.0, g.1, ap (λ (y : List A). k ∷ y) g.2, (after_in k a g.0).0 g.3, g.4))
    | inr x ↦ (let g = (when_in (holds_null a) (after k b) s).0 x in
        ([], k ∷ s, refl, (null_in a).0 g.0, (after_in k b s).0 g.1))
  ],
  λ h. (alt_in (seq (after k a) b) (cond (holds_null a) (after k b) none) s).1
      (elim (cut_first k s h.0 h.1 h.2) [
        | inl x ↦ inr ((when_in (holds_null a) (after k b) s).1
            ((null_in a).1 (subst (In a) x.0 h.3), (after_in k b s).1 (subst (In b) x.1 h.4)))
        | inr x ↦ inl ((seq_in (after k a) b s).1
            (x.0, h.1, x.2, (after_in k a x.0).1 (subst (In a) x.1 h.3), h.4))
      ]),
)
after_in k (a or b) s = (
  λ h. elim ((alt_in (after k a) (after k b) s).0 h) [ inl x ↦ inl ((after_in k a s).0 x) | inr x ↦ inr ((after_in k b s).0 x) ],
  λ h. (alt_in (after k a) (after k b) s).1 (elim h [ inl x ↦ inl ((after_in k a s).1 x) | inr x ↦ inr ((after_in k b s).1 x) ]),
)
after_in k (a but b) s = (
  λ h. let g = (less_in (after k a) (after k b) s).0 h in
      ((after_in k a s).0 g.0, λ x. g.1 ((after_in k b s).1 x)),
  λ h. (less_in (after k a) (after k b) s).1 ((after_in k a s).1 h.0, λ x. h.1 ((after_in k b s).0 x)),
)
after_in k (many a) s = (
  λ h. many_to k a (after_in k a) s ((seq_in (after k a) (many a) s).0 h),
  λ h. (seq_in (after k a) (many a) s).1 (many_from k a (after_in k a) s (k ∷ s) h refl),
)

pub after_all_in : {A : Type 0} (u : List A) (a : Lang A) (s : List A) → In (after_all u a) s ↔ In a (u ++ s)
unfolding after_all
after_all_in [] a s = (λ h. h, λ h. h)
after_all_in (k ∷ u) a s = (
  λ h. (after_in k a (u ++ s)).0 ((after_all_in u (after k a) s).0 h),
  λ h. (after_all_in u (after k a) s).1 ((after_in k a (u ++ s)).1 h),
)
