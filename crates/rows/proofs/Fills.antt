-- Tables of a fixed size, filled one by one. Assumes nothing.
use Rattle.std.proofs.Common.{◌≡◌, ℕ, ◌+◌, ◌<◌, ◌≤◌, min, true, false, cond, ltb, List, [], ◌∷◌, ◌++◌, length, drop, set, replicate, sym, refl, ap, ◌∙◌, ⊎_elim, arith}
use Rattle.std.proofs.lemmas.List.{append_assoc, drop_more, length_push, length-replicate, set_at, take_all, take-append-le}
use Rattle.std.proofs.lemmas.Bool.{cases_lt, cond-true, cond-false}
use Rattle.std.proofs.lemmas.Bool.Decides.{nat_tests}
use Rattle.symbols.specs.Answers.{over}
use Rattle.rows.specs.Fills.{filled}

module _ {A : Type 0} (n : ℕ) (blank : A) (xs : List A) where
  short : length xs ≤ n → filled n blank xs ≡ over xs (replicate n blank)
  short h = ap (λ (ys : List A). over ys (replicate n blank)) (take_all n xs h)

  -- one more, where there is room
  pub fill_more : (y : A) → length xs < n → set (filled n blank xs) (length xs) y ≡ filled n blank (xs ++ (y ∷ []))
  fill_more y h =
      let l : length xs < length (replicate n blank) = omega (arith, length-replicate n blank) in
      let h₁ : length (xs ++ (y ∷ [])) ≤ n = omega (arith, length_push xs y) in
      ap (λ (zs : List A). set zs (length xs) y) (short (omega arith) ∙ ap (λ (zs : List A). xs ++ zs) (drop_more (replicate n blank) (length xs) blank l))
      ∙ set_at xs _ _ y (length xs) refl
      ∙ sym (append_assoc xs (y ∷ []) (drop (length xs + 1) (replicate n blank)))
      ∙ ap (λ (k : ℕ). (xs ++ (y ∷ [])) ++ drop k (replicate n blank)) (sym (length_push xs y))
      ∙ sym (ap (λ (ys : List A). over ys (replicate n blank)) (take_all n (xs ++ (y ∷ [])) h₁))

  -- a full table takes no more
  pub fill_past : (ys : List A) → n ≤ length xs → filled n blank (xs ++ ys) ≡ filled n blank xs
  fill_past ys h = ap (λ (zs : List A). over zs (replicate n blank)) (take-append-le n xs ys h)

-- a table with its count, by what makes one of the two
module _ {A R : Type 0} (n : ℕ) (blank : A) (table : List A → ℕ → R) (xs : List A) (y : A) where
  abbrev pub pushed : R
  pushed =
      cond (ltb (min (length xs) n) n) (table (set (filled n blank xs) (min (length xs) n) y) (min (length xs) n + 1))
      (table (filled n blank xs) (min (length xs) n))

  abbrev pub longer : R
  longer = table (filled n blank (xs ++ (y ∷ []))) (min (length (xs ++ (y ∷ []))) n)

  room : length xs < n → pushed ≡ longer
  room h =
      let b : ltb (min (length xs) n) n ≡ true = grind (arith, nat_tests) in
      let m : min (length xs) n ≡ length xs = omega arith in
      let k : min (length xs) n + 1 ≡ min (length (xs ++ (y ∷ []))) n = omega (arith, length_push xs y) in
      cond-true (ltb (min (length xs) n) n) _ _ b
      ∙ ap (λ (i : ℕ). table (set (filled n blank xs) i y) (min (length xs) n + 1)) m
      ∙ ap (λ (zs : List A). table zs (min (length xs) n + 1)) (fill_more n blank xs y h)
      ∙ ap (table (filled n blank (xs ++ (y ∷ [])))) k

  full : n ≤ length xs → pushed ≡ longer
  full h =
      let b : ltb (min (length xs) n) n ≡ false = grind (arith, nat_tests) in
      let k : min (length xs) n ≡ min (length (xs ++ (y ∷ []))) n = omega (arith, length_push xs y) in
      cond-false (ltb (min (length xs) n) n) _ _ b
      ∙ ap (λ (zs : List A). table zs (min (length xs) n)) (sym (fill_past n blank xs (y ∷ []) h))
      ∙ ap (table (filled n blank (xs ++ (y ∷ [])))) k

  pub push_more : pushed ≡ longer
  push_more = ⊎_elim room full (cases_lt (length xs) n)
