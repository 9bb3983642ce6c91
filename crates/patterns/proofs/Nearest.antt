-- The nearest variable of a name, one item after the other. Assumes nothing.
use Rattle.std.proofs.Common.{◌≡◌, ℕ, zero, suc, ◌<◌, Bool, true, false, List, [], ◌∷◌, length, get_or, Some, None, Option, sym, refl, ap, arith}
use Rattle.tables.specs.declared.row.Item.{Item}
use Rattle.tables.specs.Rows.{is_variable}
use Rattle.patterns.specs.Nearest.{further, nearest}

-- none of the items is a variable of the name
pub nearest_none : (k : ℕ) (items : List Item) → ((j : ℕ) (d : Item) → j < length items → is_variable k (get_or items j d) ≡ false) → None ≡ nearest k items
unfolding nearest
nearest_none k [] none = refl
nearest_none k (x ∷ xs) none =
    let rest : None ≡ nearest k xs = nearest_none k xs (λ j d h. none (suc j) d (omega arith)) in
    let here : is_variable k x ≡ false = none 0 x (omega arith) in
    rw (sym rest, here) refl

-- the item at place i is one, and none behind it is
pub nearest_at : (k i : ℕ) (items : List Item) → i < length items → ((d : Item) → is_variable k (get_or items i d) ≡ true) → ((j : ℕ) (d : Item) → i < j → j < length items → is_variable k (get_or items j d) ≡ false) → Some i ≡ nearest k items
unfolding nearest
nearest_at k i [] h is none = absurd (omega arith)
nearest_at k zero (x ∷ xs) h is none =
    let rest : None ≡ nearest k xs = nearest_none k xs (λ j d q. none (suc j) d (omega arith) (omega arith)) in
    rw (sym rest, is x) refl
nearest_at k (suc i) (x ∷ xs) h is none =
    ap (further (is_variable k x)) (nearest_at k i xs (omega arith) is (λ j d p q. none (suc j) d (omega arith) (omega arith)))

-- a variable that was found stands among the items
pub nearest_lies : (k j : ℕ) (items : List Item) → nearest k items ≡ Some j → j < length items
unfolding nearest
nearest_lies k j [] e = let z : ◌≡◌ {A = ℕ} 0 1 = cc in absurd (omega arith)
nearest_lies k j (x ∷ xs) e = go (nearest k xs) (is_variable k x) (λ i q. nearest_lies k i xs q) e
  where
    go : (o : Option ℕ) (b : Bool) → ((i : ℕ) → o ≡ Some i → i < length xs) → further b o ≡ Some j → j < suc (length xs)
    go (Some i) b ih f = let r : suc i ≡ j = cc in let h = ih i refl in omega arith
    go None true ih f = let r : 0 ≡ j = cc in omega arith
    go None false ih f = let z : ◌≡◌ {A = ℕ} 0 1 = cc in absurd (omega arith)
