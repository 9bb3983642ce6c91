-- A text cut at the end of its first line. Assumes nothing.
use Rattle.std.proofs.Common.{◌≡◌, ℕ, zero, suc, ◌+◌, ◌-◌, ◌<◌, ◌≤◌, Bool, true, false, cond, eqb, List, [], ◌∷◌, length, get_or, take, drop, subst, true≢false, sym, refl, ap, ◌∙◌, not-suc-le-zero, add-one, arith, length-drop, drop-cons, drop-drop}
use lib.Seq.{drop-length}
use Rattle.std.proofs.lemmas.Bool.{ne_eqb, eq-eqb}
use Rattle.lines.specs.Texts.{lines_of, on_first, line_length}

-- the first line and the lines after it
cut_at : (c : ℕ) (s : List ℕ) (b : Bool)
    → ((0 < length s) → lines_of s ≡ take (line_length s) s ∷ lines_of (drop (suc (line_length s)) s))
    → cond b ([] ∷ lines_of s) (on_first c (lines_of s))
    ≡ take (cond b 0 (suc (line_length s))) (c ∷ s) ∷ lines_of (drop (suc (cond b 0 (suc (line_length s)))) (c ∷ s))
unfolding lines_of line_length
cut_at c s true ih = refl
cut_at c [] false ih = refl
cut_at c (d ∷ s) false ih = ap (on_first c) (ih (omega arith))

pub cut : (s : List ℕ) → 0 < length s → lines_of s ≡ take (line_length s) s ∷ lines_of (drop (suc (line_length s)) s)
unfolding lines_of line_length
cut [] h = absurd (not-suc-le-zero h)
cut (c ∷ s) h = cut_at c s (eqb c 10) (cut s)

module _ (s : List ℕ) (i : ℕ) (h : i < length s) where
  length_at : line_length (drop i s) ≡ cond (eqb (get_or s i 0) 10) 0 (suc (line_length (drop (suc i) s)))
  unfolding line_length
  length_at = ap line_length (drop-cons s i 0 h)

  pub length_on : eqb (get_or s i 0) 10 ≡ false → line_length (drop i s) ≡ suc (line_length (drop (i + 1) s))
  length_on e = rw add-one (length_at ∙ ap (λ (b : Bool). cond b 0 (suc (line_length (drop (suc i) s)))) e)

  pub length_stop : eqb (get_or s i 0) 10 ≡ true → line_length (drop i s) ≡ 0
  length_stop e = length_at ∙ ap (λ (b : Bool). cond b 0 (suc (line_length (drop (suc i) s)))) e

pub length_end : (s : List ℕ) (i : ℕ) → i ≡ length s → line_length (drop i s) ≡ 0
unfolding line_length
length_end s i e = ap (λ (k : ℕ). line_length (drop k s)) e ∙ ap line_length (drop-length s)

pub drop_beyond : (s : List ℕ) (i : ℕ) → length s ≤ i → drop i s ≡ []
drop_beyond [] zero h = refl
drop_beyond [] (suc i) h = refl
drop_beyond (c ∷ s) zero h = absurd (not-suc-le-zero h)
drop_beyond (c ∷ s) (suc i) h = drop_beyond s i (omega arith)

pub lines_end : (s : List ℕ) (i : ℕ) → length s ≤ i → lines_of (drop i s) ≡ []
unfolding lines_of
lines_end s i h = ap lines_of (drop_beyond s i h)

-- one line of a text that goes on at i, and ends at e
module _ (s : List ℕ) (i e : ℕ) (h : i < length s) (up : i ≤ e) (l : e - i ≡ line_length (drop i s)) where
  pub lines_at : lines_of (drop i s) ≡ take (e - i) (drop i s) ∷ lines_of (drop (e + 1) s)
  lines_at =
      let h₀ : 0 < length (drop i s) = rw length-drop (omega arith) in
      let d : drop (suc (e - i)) (drop i s) ≡ drop (e + 1) s = drop-drop (suc (e - i)) i s ∙ ap (λ (k : ℕ). drop k s) (omega arith) in
      cut (drop i s) h₀ ∙ ap (λ (k : ℕ). take k (drop i s) ∷ lines_of (drop (suc k) (drop i s))) (sym l)
      ∙ ap (λ (r : List ℕ). take (e - i) (drop i s) ∷ lines_of r) d

length_by : (c : ℕ) (s : List ℕ) (n : ℕ) (b : Bool) → n ≤ suc (length s) → (0 < n → b ≡ false) → (n ≡ 0 → b ≡ true)
    → ((m : ℕ) → n ≡ suc m → m ≡ line_length s) → n ≡ cond b 0 (suc (line_length s))
length_by c s zero true h a f ih = refl
length_by c s zero false h a f ih = absurd (true≢false (sym (f refl)))
length_by c s (suc n) true h a f ih = absurd (true≢false (a (omega arith)))
length_by c s (suc n) false h a f ih = ap suc (ih n refl)

-- the first line ends at the first code 10, or with the text
pub length_first : (s : List ℕ) (n : ℕ) → n ≤ length s → ((k : ℕ) → k < n → get_or s k 0 ≡ 10 → ⊥) → (n < length s → get_or s n 0 ≡ 10) → n ≡ line_length s
unfolding line_length
length_first [] n h none found = omega arith
length_first (c ∷ s) n h none found =
    length_by c s n (eqb c 10) h (λ l. ne_eqb c 10 (none 0 l)) (λ e. eq-eqb c 10 (subst (λ k. get_or (c ∷ s) k 0 ≡ 10) e (found (rw e (omega arith)))))
    (λ m e. length_first s m (let h₁ = subst (λ k. k ≤ suc (length s)) e h in omega arith)
    (λ k l. none (suc k) (rw e (omega arith))) (λ l. subst (λ k. get_or (c ∷ s) k 0 ≡ 10) e (found (rw e (omega arith)))))
