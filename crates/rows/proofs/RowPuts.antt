-- Rows written line by line. Assumes nothing.
use Rattle.std.proofs.Common.{◌≡◌, ℕ, zero, suc, ◌+◌, ◌<◌, ◌≤◌, Bool, true, false, cond, List, [], ◌∷◌, length, set, Option, sym, refl, ap, ◌∙◌, le_of_suc-le-suc, not-suc-le-zero, add-one, arith}
use Rattle.lines.specs.declared.placed.Line.{Line}
use Rattle.lines.specs.declared.text.Lines.{Lines}
use Rattle.lines.specs.declared.token.Token.{Token}
use Rattle.lines.specs.Walks.{lines_left, Cut}
use Rattle.symbols.specs.Answers.{over}
use Rattle.constants.specs.Constants.{line_symbols}
use Rattle.tables.specs.declared.row.RowOf.{RowOf}
use Rattle.rows.specs.Rows.{has_row, led, line_row, rows_from}

-- an area once xs stand in it from place n on: all before and after is as it was
unfoldable pub put : {A : Type 0} → ℕ → List A → List A → List A
put zero ys a = over ys a
put (suc n) ys [] = ys
put (suc n) ys (x ∷ a) = x ∷ put n ys a

pub put_front_over : {A : Type 0} (ys a : List A) → put 0 ys a ≡ over ys a
unfolding put
put_front_over ys a = refl

pub put_more : {A : Type 0} (n : ℕ) (y : A) (ys a : List A) → n < length a → put n (y ∷ ys) a ≡ put (suc n) ys (set a n y)
unfolding put
put_more n y ys [] h = absurd (not-suc-le-zero h)
put_more zero y ys (x ∷ a) h = refl
put_more (suc n) y ys (x ∷ a) h = ap (λ (r : List _). x ∷ r) (put_more n y ys a (le_of_suc-le-suc h))

pub put_none : {A : Type 0} (n : ℕ) (a : List A) → put n [] a ≡ a
unfolding put
put_none zero a = refl
put_none (suc n) [] = refl
put_none (suc n) (x ∷ a) = ap (λ (r : List _). x ∷ r) (put_none n a)

-- one row, or none
abbrev pub one_or_none : Bool → ℕ
one_or_none b = cond b 1 0

pub at_most_one : (b : Bool) (n : ℕ) → cond b (n + 1) n ≤ n + 1
at_most_one true n = omega arith
at_most_one false n = omega arith

pub length_front : {L : Type 0} (b : Bool) (r : RowOf L) (rs : List (RowOf L)) → length (led b r rs) ≡ one_or_none b + length rs
length_front true r rs = omega arith
length_front false r rs = omega arith

put_front : {L : Type 0} (b : Bool) (n : ℕ) (r : RowOf L) (rs a : List (RowOf L)) → (b ≡ true → n < length a)
    → put n (led b r rs) a ≡ put (cond b (n + 1) n) rs (cond b (set a n r) a)
put_front true n r rs a h = put_more n r rs a (h refl) ∙ ap (λ (k : ℕ). put k rs (set a n r)) (sym (add-one n))
put_front false n r rs a h = refl

-- one line of those that are left
module _ {L X : Type 0} (labelled : ℕ → List ℕ → Token → L) (meant : List ℕ → Option X) (wide : ℕ) (names labels : List (List ℕ))
    (q : Lines) (at : ℕ) (x : Line) (t : Lines) (cut : Cut q x t) where
  abbrev rest : List (RowOf L)
  rest = rows_from labelled meant wide names labels q.from at (lines_left q)

  abbrev beyond : ℕ → List (RowOf L)
  beyond k = rows_from labelled meant wide names labels t.from k (lines_left t)

  module _ (row : RowOf L) (k : ℕ) (re : row ≡ line_row labelled meant wide names labels x.from at x.characters.now)
      (ke : k ≡ at + length (line_symbols meant wide x.characters.now)) where
    abbrev has : Bool
    has = has_row x.characters.now

    pub rows_at : rest ≡ led has row (beyond k)
    unfolding rows_from
    rows_at =
        let m : ℕ = at + length (line_symbols meant wide x.characters.now) in
        ap (rows_from labelled meant wide names labels q.from at) cut.line
        ∙ ap (λ (j : ℕ). led has (line_row labelled meant wide names labels j at x.characters.now) (rows_from labelled meant wide names labels ((j + length x.characters.now) + 1) m (lines_left t))) (sym cut.from)
        ∙ ap (λ (j : ℕ). led has (line_row labelled meant wide names labels x.from at x.characters.now) (rows_from labelled meant wide names labels j m (lines_left t))) (sym cut.on)
        ∙ ap (λ (j : ℕ). led has (line_row labelled meant wide names labels x.from at x.characters.now) (beyond j)) (sym ke)
        ∙ ap (λ (y : RowOf L). led has y (beyond k)) (sym re)

    -- there is room for the row
    pub row_room : (n all : ℕ) (a : List (RowOf L)) → all ≡ n + length rest → all ≤ length a → has ≡ true → n < length a
    row_room n all a e r b =
        let z : length rest ≡ one_or_none has + length (beyond k) = ap length rows_at ∙ length_front has row (beyond k) in
        let y : one_or_none has ≡ 1 = ap one_or_none b in
        omega (arith, z, y)

    module _ (n m : ℕ) (a a' : List (RowOf L)) (me : m ≡ cond has (n + 1) n) (ae : a' ≡ cond has (set a n row) a) where
      pub count_on : (all : ℕ) → all ≡ n + length rest → all ≡ m + length (beyond k)
      count_on all e = e ∙ ap (λ (z : ℕ). n + z) (ap length rows_at ∙ length_front has row (beyond k)) ∙ go has ∙ ap (λ (z : ℕ). z + length (beyond k)) (sym me)
        where
          go : (b : Bool) → n + (one_or_none b + length (beyond k)) ≡ cond b (n + 1) n + length (beyond k)
          go true = omega arith
          go false = omega arith

      pub put_on : (all : List (RowOf L)) → all ≡ put n rest a → (has ≡ true → n < length a) → all ≡ put m (beyond k) a'
      put_on all e r =
          e ∙ ap (λ (z : List (RowOf L)). put n z a) rows_at ∙ put_front has n row (beyond k) a r
          ∙ ap (λ (z : ℕ). put z (beyond k) (cond has (set a n row) a)) (sym me) ∙ ap (put m (beyond k)) (sym ae)

pub rows_end : {L X : Type 0} (labelled : ℕ → List ℕ → Token → L) (meant : List ℕ → Option X) (wide : ℕ) (names labels : List (List ℕ)) (q : Lines) (at : ℕ) → lines_left q ≡ []
    → rows_from labelled meant wide names labels q.from at (lines_left q) ≡ []
unfolding rows_from
rows_end labelled meant wide names labels q at e = ap (rows_from labelled meant wide names labels q.from at) e
