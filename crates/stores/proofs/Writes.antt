-- A string written into an area, and the strings that lie there afterwards. Assumes nothing.
use Rattle.std.proofs.Common.{◌≡◌, ℕ, zero, suc, ◌+◌, ◌-◌, ◌<◌, ◌≤◌, List, [], ◌∷◌, ◌++◌, length, get_or, take, drop, set, sum_by, sym, refl, ap, ◌∙◌, arith}
use Rattle.std.proofs.lemmas.List.{length-append, length-take-le, length-drop, take-take, take-append-le, take_at, drop_at, drop-take, drop-drop}
use Rattle.std.proofs.lemmas.List.Sums.{sum_by-cons}
use Rattle.stores.specs.Parts.{parts, written}

module _ {X : Type 0} (start : ℕ) (s area : List X) where
  pub written_take : (n : ℕ) → n ≤ start → start ≤ length area → take n (written start s area) ≡ take n area
  written_take n le within =
      let long = length-take-le start area within in
      take-append-le n (take start area) (s ++ drop (length s) (drop start area)) (omega arith) ∙ take-take n start area le

  from_start : start ≤ length area → drop start (written start s area) ≡ s ++ drop (length s) (drop start area)
  from_start within = drop_at (take start area) _ start (length-take-le start area within)

  pub written_there : start ≤ length area → take (length s) (drop start (written start s area)) ≡ s
  written_there within = ap (take (length s)) (from_start within) ∙ take_at s _ (length s) refl

  pub written_drop : (n : ℕ) → start + length s ≤ n → start ≤ length area → drop n (written start s area) ≡ drop n area
  written_drop n le within =
      let all : start + (length s + (n - (start + length s))) ≡ n = omega arith in
      let there : drop (length s) (drop start (written start s area)) ≡ drop (length s) (drop start area) = ap (drop (length s)) (from_start within) ∙ drop_at s _ (length s) refl in
      let m = n - (start + length s) in
      sym (behind m n (written start s area) all) ∙ ap (drop m) there ∙ behind m n area all
    where
      behind : (m n : ℕ) (xs : List X) → start + (length s + m) ≡ n → drop m (drop (length s) (drop start xs)) ≡ drop n xs
      behind m n xs e = drop-drop m (length s) (drop start xs) ∙ drop-drop (length s + m) start xs ∙ ap (λ j. drop j xs) e

  pub length_written : start + length s ≤ length area → length (written start s area) ≡ length area
  length_written h =
      length-append (take start area) (s ++ drop (length s) (drop start area))
      ∙ ap (λ n. length (take start area) + n) (length-append s (drop (length s) (drop start area)))
      ∙ omega (arith, length-take-le start area (omega arith), length-drop (length s) (drop start area), length-drop start area)

-- one string is replaced where it lies: those before it are untouched, those behind it lie as they did
pub parts_put : {X : Type 0} (width : ℕ → ℕ) (ns : List ℕ) (i start : ℕ) (s area after : List X) → i < length ns → start ≡ sum_by width (take i ns)
    → ((j : ℕ) → get_or ns j 0 ≤ width (get_or ns j 0))
    → take start after ≡ take start area
    → take (length s) (drop start after) ≡ s
    → parts width (drop (suc i) ns) (drop (start + width (length s)) after) ≡ parts width (drop (suc i) ns) (drop (start + width (get_or ns i 0)) area)
    → parts width (set ns i (length s)) after ≡ set (parts width ns area) i s
parts_put width [] i start s area after h at fits before there behind = absurd (omega arith)
parts_put width (n ∷ ns) zero start s area after h at fits before there behind =
    let none : start ≡ 0 = at in
    let whole : drop start after ≡ after = ap (λ k. drop k after) none in
    let string : take (length s) after ≡ s = cc in
    let new : start + width (length s) ≡ width (length s) = omega arith in
    let old : start + width n ≡ width n = omega arith in
    cc
parts_put width (n ∷ ns) (suc i) start s area after h at fits before there behind =
    let e : start ≡ width n + sum_by width (take i ns) = at ∙ sum_by-cons width n (take i ns) in
    let fit = fits 0 in
    let le : n ≤ start = omega arith in
    let first : take n after ≡ take n area = sym (take-take n start after le) ∙ ap (take n) before ∙ take-take n start area le in
    let front : take (width n + sum_by width (take i ns)) after ≡ take (width n + sum_by width (take i ns)) area = cc in
    let before' : take (sum_by width (take i ns)) (drop (width n) after) ≡ take (sum_by width (take i ns)) (drop (width n) area) = sym (drop-take (width n) (sum_by width (take i ns)) after) ∙ ap (drop (width n)) front ∙ drop-take (width n) (sum_by width (take i ns)) area in
    let d1 = drop-drop (sum_by width (take i ns)) (width n) after in
    let there' : take (length s) (drop (sum_by width (take i ns)) (drop (width n) after)) ≡ s = cc in
    let d2 = drop-drop (sum_by width (take i ns) + width (length s)) (width n) after in
    let d3 = drop-drop (sum_by width (take i ns) + width (get_or ns i 0)) (width n) area in
    let n2 : width n + (sum_by width (take i ns) + width (length s)) ≡ start + width (length s) = omega arith in
    let n3 : width n + (sum_by width (take i ns) + width (get_or ns i 0)) ≡ start + width (get_or ns i 0) = omega arith in
    let behind' : parts width (drop (suc i) ns) (drop (sum_by width (take i ns) + width (length s)) (drop (width n) after)) ≡ parts width (drop (suc i) ns) (drop (sum_by width (take i ns) + width (get_or ns i 0)) (drop (width n) area)) = cc in
    let rest = parts_put width ns i (sum_by width (take i ns)) s (drop (width n) area) (drop (width n) after) (omega arith) refl (λ j. fits (suc j)) before' there' behind' in
    cc
