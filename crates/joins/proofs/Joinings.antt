-- A string joined piece by piece. Assumes nothing.
use Rattle.std.proofs.Common.{◌≡◌, ℕ, ◌+◌, ◌-◌, ◌<◌, ◌≤◌, Bool, true, false, cond, ltb, List, [], ◌∷◌, ◌++◌, length, get_or, take, drop, Some, None, Ok, Err, Option, sym, refl, ap, ◌∙◌, arith}
use borrow.Rule.Slice.PartMut.{put_mid, post_of}
use Rattle.std.proofs.lemmas.List.{append-nil, append_assoc, length-append, length-take-le, take_more, take-append-drop}
use Rattle.std.proofs.lemmas.Bool.{cond-true, cond-false, lt-ltb, le-ltb, ltb-true}
use Rattle.stores.specs.Names.{Names}
use Rattle.tables.specs.declared.row.Operand.{Operand}
use Rattle.tables.specs.declared.sheet.NameTable.{NameTable}
use Rattle.joins.specs.declared.refusal.JoinRefusal.{JoinRefusal}
use Rattle.joins.specs.Joined.{both, operand_contents, operands_joined}
use Rattle.joins.specs.Renewed.{clipped}
use Rattle.joins.specs.Pieces.{filled, Filled, appended, joined_to}

module _ {X : Type 0} where
  -- nothing behind a string, and one string behind another
  pub appended_nil : (o : Option ℕ) (area : List X) → Filled o area → appended (length area) (filled o area) [] ≡ filled o area
  appended_nil None area h = refl
  appended_nil (Some n) area h =
      ap (clipped (length area)) (append-nil (take n area))
      ∙ cond-false _ _ _ (le-ltb (length area) (length (take n area)) (omega (arith, length-take-le n area h)))

  pub appended_twice : (l : ℕ) (t : Option (List X)) (s w : List X) → appended l (appended l t s) w ≡ appended l t (s ++ w)
  appended_twice l None s w = refl
  appended_twice l (Some u) s w = go (ltb l (length (u ++ s))) refl
    where
      go : (b : Bool) → ltb l (length (u ++ s)) ≡ b → appended l (cond b None (Some (u ++ s))) w ≡ clipped l (u ++ (s ++ w))
      go true e =
          let lt = ltb-true l (length (u ++ s)) e in
          sym (cond-true _ _ _ (lt-ltb l (length (u ++ (s ++ w))) (omega (arith, length-append u (s ++ w), length-append s w, length-append u s))))
      go false e = ap (clipped l) (append_assoc u s w)

  -- a string that is copied behind another, or finds no room there
  pub append_long : (area s : List X) (n : ℕ) → n ≤ length area → length area - n < length s → None ≡ clipped (length area) (take n area ++ s)
  append_long area s n h lt = sym (cond-true _ _ _ (lt-ltb (length area) (length (take n area ++ s)) (omega (arith, length-append (take n area) s, length-take-le n area h))))

  pub append_fits : (area s : List X) (n : ℕ) → n ≤ length area → length s ≤ length area - n → Some (take n area ++ s) ≡ clipped (length area) (take n area ++ s)
  append_fits area s n h le = sym (cond-false _ _ _ (le-ltb (length area) (length (take n area ++ s)) (omega (arith, length-append (take n area) s, length-take-le n area h))))

  pub length_mid : (a k : ℕ) (xs ys : List X) → a ≤ length xs → a + length ys ≤ length (put_mid a k xs ys)
  length_mid a k xs ys h = omega (arith, length-append (take a xs) (ys ++ post_of a k xs), length-append ys (post_of a k xs), length-take-le a xs h)

  -- an operand behind those before it
  pub joined_more : (l : ℕ) (t f j w : Option (List X)) → Ok f ≡ joined_to l t j → joined_to l f w ≡ joined_to l t (both j w)
  joined_more l t f None w e = let z : ◌≡◌ {A = ℕ} 0 1 = cc in absurd (omega arith)
  joined_more l t f (Some s) None e = refl
  joined_more l t f (Some s) (Some w) e =
      let q : f ≡ appended l t s = cc in
      ap (λ x. Ok (appended l x w)) q ∙ ap Ok (appended_twice l t s w)

  none_from : (l : ℕ) (t j w : Option (List X)) (e : JoinRefusal) → Err e ≡ joined_to l t j → Err e ≡ joined_to l t (both j w)
  none_from l t None w e is = is
  none_from l t (Some s) w e is = let z : ◌≡◌ {A = ℕ} 0 1 = cc in absurd (omega arith)

  both_assoc : (a b c : Option (List X)) → both (both a b) c ≡ both a (both b c)
  both_assoc None b c = refl
  both_assoc (Some x) None c = refl
  both_assoc (Some x) (Some y) None = refl
  both_assoc (Some x) (Some y) (Some z) = ap Some (append_assoc x y z)

  both_null : (a : Option (List X)) → a ≡ both (Some []) a
  both_null None = refl
  both_null (Some x) = refl

  both_end : (a : Option (List X)) → both a (Some []) ≡ a
  both_end None = refl
  both_end (Some x) = ap Some (append-nil x)

module _ {X : Type 0} (chars : X → List ℕ) (table : NameTable) (constants : List X) (names : Names X) where
  joined_append : (xs ys : List Operand) → operands_joined chars table constants names (xs ++ ys) ≡ both (operands_joined chars table constants names xs) (operands_joined chars table constants names ys)
  unfolding operands_joined
  joined_append [] ys = both_null (operands_joined chars table constants names ys)
  joined_append (x ∷ xs) ys =
      ap (both (operand_contents chars table constants names x)) (joined_append xs ys)
      ∙ sym (both_assoc (operand_contents chars table constants names x) (operands_joined chars table constants names xs) (operands_joined chars table constants names ys))

  one_more : (os : List Operand) (i : ℕ) (d : Operand) → i < length os → operands_joined chars table constants names (take (i + 1) os) ≡ both (operands_joined chars table constants names (take i os)) (operand_contents chars table constants names (get_or os i d))
  unfolding operands_joined
  one_more os i d h =
      ap (operands_joined chars table constants names) (take_more os i d h)
      ∙ joined_append (take i os) (get_or os i d ∷ [])
      ∙ ap (both (operands_joined chars table constants names (take i os))) (both_end (operand_contents chars table constants names (get_or os i d)))

  -- the string so far, f, with operand i behind it is the front with one operand more
  pub joins_more : (l m : ℕ) (t f : Option (List X)) (os : List Operand) (i : ℕ) (d : Operand) → m ≡ l → i < length os → Ok f ≡ joined_to l t (operands_joined chars table constants names (take i os))
      → joined_to m f (operand_contents chars table constants names (get_or os i d)) ≡ joined_to l t (operands_joined chars table constants names (take (i + 1) os))
  joins_more l m t f os i d same h e =
      ap (λ n. joined_to n f (operand_contents chars table constants names (get_or os i d))) same
      ∙ joined_more l t f (operands_joined chars table constants names (take i os)) (operand_contents chars table constants names (get_or os i d)) e
      ∙ ap (joined_to l t) (sym (one_more os i d h))

  -- where a front stands for nothing, the whole does
  pub joins_none : (l : ℕ) (t : Option (List X)) (os : List Operand) (i : ℕ) (e : JoinRefusal) → Err e ≡ joined_to l t (operands_joined chars table constants names (take i os)) → Err e ≡ joined_to l t (operands_joined chars table constants names os)
  joins_none l t os i e is =
      none_from l t _ (operands_joined chars table constants names (drop i os)) e is
      ∙ ap (joined_to l t) (sym (joined_append (take i os) (drop i os)) ∙ ap (operands_joined chars table constants names) (take-append-drop i os))
