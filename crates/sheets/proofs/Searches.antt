-- A search among the words of a table. Assumes nothing.
use Rattle.std.proofs.Common.{◌≡◌, ℕ, zero, suc, ◌+◌, ◌-◌, ◌<◌, ◌≤◌, Bool, true, false, cond, ltb, List, [], ◌∷◌, ◌++◌, map, length, get_or, take, drop, set, Some, None, Option, sym, refl, ap, ◌∙◌, subst, true≢false, suc-le-suc, le_of_suc-le-suc, not-suc-le-zero, add-one, arith, length-drop, take_all, drop-cons, take-suc-set, ltb-false}
use lib.Seq.{drop-length, take-length}
use Rattle.std.specs.Prelude.{min, is_some}
use Rattle.std.proofs.lemmas.Bool.Decides.{nat_tests}
use Rattle.std.specs.Str.{bytes_eq}
use Rattle.sheets.specs.declared.part.Part.{Part}
use Rattle.std.proofs.lemmas.Slice.Eq.{bytes_eq-Decides}
use Rattle.sheets.specs.Parts.{part_of, position_from, position, First, or_added, with_word}

no_false : (b : Bool) → b ≡ true → b ≡ false → ⊥
no_false b e f = let z : ◌≡◌ {A = ℕ} 0 1 = cc in omega arith

module _ (text x : List ℕ) (ps : List Part) (i : ℕ) (d : Part) (h : i < length ps) where
  place_at : position_from i x (map (part_of text) (drop i ps))
      ≡ cond (bytes_eq (part_of text (get_or ps i d)) x) (Some i) (position_from (i + 1) x (map (part_of text) (drop (i + 1) ps)))
  unfolding position_from
  place_at =
      ap (λ (qs : List Part). position_from i x (map (part_of text) qs)) (drop-cons ps i d h)
      ∙ ap (λ (j : ℕ). cond (bytes_eq (part_of text (get_or ps i d)) x) (Some i) (position_from (i + 1) x (map (part_of text) (drop j ps)))) (sym (add-one i))

  pub place_is : (b : Bool) → b ≡ bytes_eq (part_of text (get_or ps i d)) x
      → position_from i x (map (part_of text) (drop i ps)) ≡ cond b (Some i) (position_from (i + 1) x (map (part_of text) (drop (i + 1) ps)))
  place_is b e = place_at ∙ ap (λ (y : Bool). cond y (Some i) (position_from (i + 1) x (map (part_of text) (drop (i + 1) ps)))) (sym e)

pub place_end : (text x : List ℕ) (ps : List Part) (i : ℕ) → i ≡ length ps → position_from i x (map (part_of text) (drop i ps)) ≡ None
unfolding position_from
place_end text x ps i e =
    ap (λ (j : ℕ). position_from i x (map (part_of text) (drop j ps))) e ∙ ap (λ (qs : List Part). position_from i x (map (part_of text) qs)) (drop-length ps)

map_push : (f : Part → List ℕ) (ps : List Part) (p : Part) → map f (ps ++ (p ∷ [])) ≡ map f ps ++ (f p ∷ [])
map_push f [] p = refl
map_push f (q ∷ ps) p = ap (λ (r : List (List ℕ)). f q ∷ r) (map_push f ps p)

module _ (text : List ℕ) (ps : List Part) (n : ℕ) (p : Part) (h : n < length ps) where
  one_more : take (n + 1) (set ps n p) ≡ take n ps ++ (p ∷ [])
  one_more = ap (λ (k : ℕ). take k (set ps n p)) (add-one n) ∙ take-suc-set ps n p h

  pub pushed : map (part_of text) (take (n + 1) (set ps n p)) ≡ map (part_of text) (take n ps) ++ (part_of text p ∷ [])
  pushed = ap (map (part_of text)) one_more ∙ map_push (part_of text) (take n ps) p

  -- a search for what the part spells, among the first n
  module _ (x : List ℕ) (ws : List (List ℕ)) (e : x ≡ part_of text p) (w : ws ≡ map (part_of text) (take n ps)) where
    sought : (o : Option ℕ) → o ≡ position x ws → o ≡ position (part_of text p) (map (part_of text) (take n ps))
    sought o v = v ∙ ap (λ (y : List ℕ). position y ws) e ∙ ap (position (part_of text p)) w

    pub noted : (o : Option ℕ) → o ≡ position x ws → is_some o ≡ false
        → map (part_of text) (take (n + 1) (set ps n p)) ≡ with_word (part_of text p) (map (part_of text) (take n ps))
    noted None v none = pushed ∙ ap (λ (o : Option ℕ). or_added o (part_of text p) (map (part_of text) (take n ps))) (sought None v)
    noted (Some k) v none = absurd (true≢false none)

    pub kept : (o : Option ℕ) → o ≡ position x ws → is_some o ≡ true
        → map (part_of text) (take n ps) ≡ with_word (part_of text p) (map (part_of text) (take n ps))
    kept None v some = absurd (true≢false (sym some))
    kept (Some k) v some = ap (λ (o : Option ℕ). or_added o (part_of text p) (map (part_of text) (take n ps))) (sought (Some k) v)

clip : (m n : ℕ) → min m n ≡ cond (ltb m n) m n
clip m n = grind (arith, nat_tests)

-- the characters of a part, as far as the text has them
take_clipped : (s : List ℕ) (m : ℕ) → take (cond (ltb m (length s)) m (length s)) s ≡ take m s
take_clipped s m = go (ltb m (length s)) refl
  where
    go : (x : Bool) → ltb m (length s) ≡ x → take (cond x m (length s)) s ≡ take m s
    go true e = refl
    go false e = take-length s ∙ sym (take_all m s (ltb-false m (length s) e))

drop_past : (s : List ℕ) (n : ℕ) → length s ≤ n → drop n s ≡ []
drop_past [] zero h = refl
drop_past [] (suc n) h = refl
drop_past (c ∷ s) zero h = absurd (not-suc-le-zero h)
drop_past (c ∷ s) (suc n) h = drop_past s n (le_of_suc-le-suc h)

drop_clipped : (s : List ℕ) (m : ℕ) → drop (cond (ltb m (length s)) m (length s)) s ≡ drop m s
drop_clipped s m = go (ltb m (length s)) refl
  where
    go : (x : Bool) → ltb m (length s) ≡ x → drop (cond x m (length s)) s ≡ drop m s
    go true e = refl
    go false e = drop-length s ∙ sym (drop_past s m (ltb-false m (length s) e))

pub part_clipped : (text : List ℕ) (p : Part) (a b : ℕ) → a ≡ min p.start (length text) → b ≡ min p.size (length text - a) → take ((a + b) - a) (drop a text) ≡ part_of text p
unfolding part_of
part_clipped text p a b ea eb =
    ap (λ (n : ℕ). take n (drop a text)) (omega arith)
    ∙ ap (λ (n : ℕ). take n (drop a text)) (eb ∙ clip p.size (length text - a) ∙ ap (λ (n : ℕ). cond (ltb p.size n) p.size n) (sym (length-drop a text)))
    ∙ take_clipped (drop a text) p.size
    ∙ ap (take p.size) (ap (λ (n : ℕ). drop n text) (ea ∙ clip p.start (length text)) ∙ drop_clipped text p.start)

-- where a word stands first, counted from i
abbrev Stands : ℕ → List ℕ → List (List ℕ) → Option ℕ → Type 0
Stands i x ys None = (k : ℕ) → k < length ys → get_or ys k [] ≡ x → ⊥
Stands i x ys (Some n) = (m : ℕ) × (n ≡ i + m) × (m < length ys) × (get_or ys m [] ≡ x) × ((k : ℕ) → k < m → get_or ys k [] ≡ x → ⊥)

module _ (i : ℕ) (x y : List ℕ) (ys : List (List ℕ)) where
  stands_on : (o : Option ℕ) → bytes_eq y x ≡ false → Stands (i + 1) x ys o → Stands i x (y ∷ ys) o
  stands_on None f h = absent
    where
      absent : (k : ℕ) → k < length (y ∷ ys) → get_or (y ∷ ys) k [] ≡ x → ⊥
      absent zero l e = no_false (bytes_eq y x) ((bytes_eq-Decides y x).1 e) f
      absent (suc k) l e = h k (le_of_suc-le-suc l) e
  stands_on (Some n) f h =
      (suc h.0, (let g = h.1 in omega (arith, add-one h.0)), suc-le-suc h.2, h.3, back)
    where
      back : (k : ℕ) → k < suc h.0 → get_or (y ∷ ys) k [] ≡ x → ⊥
      back zero l e = no_false (bytes_eq y x) ((bytes_eq-Decides y x).1 e) f
      back (suc k) l e = h.4 k (le_of_suc-le-suc l) e

stands : (i : ℕ) (x : List ℕ) (ys : List (List ℕ)) → Stands i x ys (position_from i x ys)
unfolding position_from
stands i x [] = λ k l e. not-suc-le-zero l
stands i x (y ∷ ys) = go (bytes_eq y x) refl (stands (i + 1) x ys)
  where
    go : (b : Bool) → bytes_eq y x ≡ b → Stands (i + 1) x ys (position_from (i + 1) x ys)
        → Stands i x (y ∷ ys) (cond b (Some i) (position_from (i + 1) x ys))
    go true e h = (0, omega arith, omega arith, (bytes_eq-Decides y x).0 e, λ k l f. not-suc-le-zero l)
    go false e h = stands_on i x y ys (position_from (i + 1) x ys) e h

pub first_place : (x : List ℕ) (ys : List (List ℕ)) → First x ys (position x ys)
first_place x ys = go (position x ys) (stands 0 x ys)
  where
    go : (o : Option ℕ) → Stands 0 x ys o → First x ys o
    go None h = h
    go (Some n) h =
        let e : n ≡ h.0 = omega (arith, h.1) in (
          subst (λ (k : ℕ). k < length ys) (sym e) h.2,
          ap (λ (k : ℕ). get_or ys k []) e ∙ h.3,
          λ k l f. h.4 k (subst (λ (m : ℕ). k < m) e l) f,
        )
