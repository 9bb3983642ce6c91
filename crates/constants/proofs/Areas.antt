-- An area that is written part by part, each behind the one before. Assumes nothing.
use Rattle.std.proofs.Common.{◌≡◌, ℕ, ◌+◌, ◌-◌, ◌≤◌, List, [], ◌++◌, length, take, drop, sym, ap, ◌∙◌, arith}
use borrow.Rule.Slice.PartMut.{put_mid, post_of}
use Rattle.std.proofs.lemmas.List.{append-nil, append_assoc, length-append, length-take-le, length-drop, take-append-drop, take_at, drop_at, drop-drop, drop_all, take_rest}
use Rattle.symbols.specs.Answers.{over}

-- an area once xs is written from a place on
abbrev pub written : {X : Type 0} → ℕ → List X → List X → List X
written at xs area = take at area ++ over xs (drop at area)

-- nothing is left to write
pub written_none : {X : Type 0} (at : ℕ) (xs area : List X) → xs ≡ [] → written at xs area ≡ area
written_none at xs area e = ap (λ (z : List _). written at z area) e ∙ take-append-drop at area

-- what it takes to write xs from a place on, where `beyond` is then left to write and there are `all` symbols in the end
pub record Step {X : Type 0} (all at : ℕ) (xs rest beyond area : List X) : Type 0 where
  pub fits : at + length xs ≤ length area
  pub room : length xs ≤ length (take (length area - at) (drop at area))
  pub count : (m : ℕ) → m ≡ length xs → all ≡ (at + m) + length beyond
  pub left : (m : ℕ) (ys : List X) → m ≡ length xs → ys ≡ over xs (take (length area - at) (drop at area))
      → written at rest area ≡ written (at + m) beyond (put_mid at (length area - at) area ys)

module _ {X : Type 0} (all at : ℕ) (xs rest beyond area : List X) (e : rest ≡ xs ++ beyond) (sum : all ≡ at + length rest) (room : all ≤ length area) where
  split : length rest ≡ length xs + length beyond
  split = ap length e ∙ length-append xs beyond

  abbrev tail : List X
  tail = drop (length xs) (drop at area)

  -- the area once the front of its part behind the place is written
  part_written : (ys : List X) → ys ≡ over xs (take (length area - at) (drop at area))
      → put_mid at (length area - at) area ys ≡ (take at area ++ xs) ++ tail
  part_written ys front =
      let none : post_of at (length area - at) area ≡ [] = drop_all (length area - at) (drop at area) (omega (arith, length-drop at area)) in
      ap (λ (z : List X). take at area ++ (ys ++ z)) none
      ∙ ap (λ (z : List X). take at area ++ z) (append-nil ys ∙ front ∙ ap (over xs) (take_rest area at))
      ∙ sym (append_assoc (take at area) xs tail)

  parted : (m : ℕ) → m ≡ length xs → length (take at area ++ xs) ≡ at + m
  parted m me =
      length-append (take at area) xs ∙ ap (λ (k : ℕ). k + length xs) (length-take-le at area (omega arith)) ∙ ap (λ (k : ℕ). at + k) (sym me)

  -- xs first, then the rest
  apart : written at rest area ≡ (take at area ++ xs) ++ over beyond tail
  apart =
      ap (λ (z : List X). written at z area) e
      ∙ ap (λ (z : List X). take at area ++ ((xs ++ beyond) ++ z)) (ap (λ (k : ℕ). drop k (drop at area)) (length-append xs beyond) ∙ sym (drop-drop (length beyond) (length xs) (drop at area)))
      ∙ ap (λ (z : List X). take at area ++ z) (append_assoc xs beyond (drop (length beyond) tail))
      ∙ sym (append_assoc (take at area) xs (over beyond tail))

  again : (m : ℕ) (ys : List X) → m ≡ length xs → ys ≡ over xs (take (length area - at) (drop at area))
      → written (at + m) beyond (put_mid at (length area - at) area ys) ≡ (take at area ++ xs) ++ over beyond tail
  again m ys me front =
      ap (written (at + m) beyond) (part_written ys front)
      ∙ ap (λ (z : List X). z ++ over beyond (drop (at + m) ((take at area ++ xs) ++ tail))) (take_at (take at area ++ xs) tail (at + m) (parted m me))
      ∙ ap (λ (z : List X). (take at area ++ xs) ++ over beyond z) (drop_at (take at area ++ xs) tail (at + m) (parted m me))

  pub step : Step all at xs rest beyond area
  step =
      let l = ap length (take_rest area at) ∙ length-drop at area in
      record {
        fits = omega (arith, split);
        room = omega (arith, split, l);
        count = λ m me. omega (arith, split);
        left = λ m ys me front. apart ∙ sym (again m ys me front);
      }
