-- An area that is written behind the constants in it. Assumes nothing.
use Rattle.std.proofs.Common.{◌≡◌, ℕ, ◌+◌, ◌-◌, ◌≤◌, min, List, [], ◌++◌, length, take, drop, sym, ap, ◌∙◌, ⊎_elim, arith}
use borrow.Rule.Slice.PartMut.{put_mid, post_of}
use Rattle.std.proofs.lemmas.List.{append_assoc, take_at, drop_at, take_all, drop_all, take-take, length-take, length-append, length-take-le, length-drop}
use Rattle.std.proofs.lemmas.Slice.{between_is}
use Rattle.std.proofs.lemmas.Bool.{cases_lt}
use Rattle.placings.specs.Pattern.{part}

-- what lies before the place from which an area was written
pub kept_before : {X : Type 0} (a k : ℕ) (xs ys : List X) → a ≤ length xs → take a (put_mid a k xs ys) ≡ take a xs
kept_before a k xs ys h = take_at (take a xs) _ a (length-take-le a xs h)

-- what was written there
pub part_after : {X : Type 0} (a k : ℕ) (xs ys zs rest : List X) (e : ℕ) → a ≤ length xs → ys ≡ zs ++ rest → e ≡ a + length zs → part (put_mid a k xs ys) a e ≡ zs
part_after a k xs ys zs rest e h q r =
    let n : length zs ≡ e - a = omega arith in
    ap (take (e - a)) (drop_at (take a xs) _ a (length-take-le a xs h))
    ∙ ap (λ t. take (e - a) (t ++ post_of a k xs)) q
    ∙ ap (take (e - a)) (append_assoc zs rest (post_of a k xs))
    ∙ take_at zs _ (e - a) n

-- a part that ends before the place from which an area is written
pub part_before : {X : Type 0} (xs ys : List X) (from to used : ℕ) → to ≤ used → take used xs ≡ take used ys → part xs from to ≡ part ys from to
part_before xs ys from to used h e =
    between_is xs from to ∙ ap (drop from) (sym (take-take to used xs h) ∙ ap (take to) e ∙ take-take to used ys h) ∙ sym (between_is ys from to)

-- the rest of an area has room, and still has once it was written
pub rest_room : {X : Type 0} (l a n : ℕ) (xs : List X) → n ≡ length xs → a + l ≤ length xs → l ≤ length (take (n - a) (drop a xs))
rest_room l a n xs p h = omega (arith, length-take (n - a) (drop a xs), length-drop a xs)

pub rest_room_again : {X : Type 0} (l a n k : ℕ) (xs ys : List X) → a ≤ length xs → l ≤ n → l ≤ length ys → l ≤ length (take n (drop a (put_mid a k xs ys)))
rest_room_again l a n k xs ys h p q =
    let e : drop a (put_mid a k xs ys) ≡ ys ++ post_of a k xs = drop_at (take a xs) _ a (length-take-le a xs h) in
    rw e (omega (arith, length-take n (ys ++ post_of a k xs), length-append ys (post_of a k xs)))

pub front_room : {X : Type 0} (a k : ℕ) (xs ys : List X) → a ≤ length xs → a ≤ length (put_mid a k xs ys)
front_room a k xs ys h = omega (arith, length-append (take a xs) (ys ++ post_of a k xs), length-take a xs)

-- a part by places that are cut at the end of the list
pub part_cut : {X : Type 0} (xs : List X) (from to start end : ℕ) → end ≡ min to (length xs) → start ≡ min from end → take (end - start) (drop start xs) ≡ part xs from to
part_cut xs from to start end e s =
    ⊎_elim
    (λ h. let z : start ≡ from = omega arith in ap (λ k. take (end - k) (drop k xs)) z ∙ ⊎_elim
    (λ l. let y : end ≡ to = omega arith in ap (λ k. take (k - from) (drop from xs)) y)
    (λ l. take_all (end - from) (drop from xs) (omega (arith, length-drop from xs)) ∙ sym (take_all (to - from) (drop from xs) (omega (arith, length-drop from xs))))
    (cases_lt to (length xs)))
    (λ h. let z : end - start ≡ 0 = omega arith in ap (λ k. take k (drop start xs)) z ∙ ⊎_elim
    (λ l. let y : to - from ≡ 0 = omega arith in sym (ap (λ k. take k (drop from xs)) y))
    (λ l. sym (ap (take (to - from)) (drop_all from xs (omega arith)) ∙ take_all (to - from) [] (omega arith)))
    (cases_lt to (length xs)))
    (cases_lt from end)
