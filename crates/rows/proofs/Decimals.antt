-- A number read digit by digit. Assumes nothing.
use Rattle.std.proofs.Common.{◌≡◌, ℕ, zero, suc, ◌+◌, ◌*◌, ◌^◌, ◌<◌, ◌≤◌, List, Some, None, Option, refl, sym, ap, ◌∙◌, not-suc-le-zero, arith}
use Rattle.rows.specs.Entries.{digit_of, decimal}

abbrev then : Option ℕ → ℕ → (ℕ → ℕ) → ℕ
then None n f = n
then (Some d) n f = f d

-- the number of which n is read, with up to j more digits from place k on
unfoldable pub read_on : List ℕ → ℕ → ℕ → ℕ → ℕ
read_on s zero n k = n
read_on s (suc j) n k = then (digit_of s k) n (λ d. read_on s j (n * 10 + d) (k + 1))

-- the most that k digits write
unfoldable pub most : ℕ → ℕ
most zero = 0
most (suc k) = most k * 10 + 9

pub most_small : (k n d : ℕ) → k < 4 → n ≤ most k → d < 10 → n * 10 + d < 2 ^ 64
unfolding most
most_small zero n d h l e = omega arith
most_small (suc zero) n d h l e = omega arith
most_small (suc (suc zero)) n d h l e = omega arith
most_small (suc (suc (suc zero))) n d h l e = omega arith
most_small (suc (suc (suc (suc k)))) n d h l e = absurd (let z : k < 0 = omega arith in not-suc-le-zero z)

pub most_more : (k m n d : ℕ) → m ≡ suc k → n ≤ most k → d < 10 → n * 10 + d ≤ most m
unfolding most
most_more k m n d e l h = let z : n * 10 + d ≤ most k * 10 + 9 = omega arith in rw e z

module _ (s : List ℕ) where
  pub read_digit : (i j n k d : ℕ) → i ≡ suc j → digit_of s k ≡ Some d → read_on s i n k ≡ read_on s j (n * 10 + d) (k + 1)
  unfolding read_on
  read_digit i j n k d e f = ap (λ (m : ℕ). read_on s m n k) e ∙ ap (λ (o : Option ℕ). then o n (λ x. read_on s j (n * 10 + x) (k + 1))) f

  pub read_stop : (i n k : ℕ) → digit_of s k ≡ None → read_on s i n k ≡ n
  unfolding read_on
  read_stop zero n k e = refl
  read_stop (suc i) n k e = ap (λ (o : Option ℕ). then o n (λ x. read_on s i (n * 10 + x) (k + 1))) e

  pub read_all : (i n k : ℕ) → i ≡ 0 → read_on s i n k ≡ n
  unfolding read_on
  read_all i n k e = ap (λ (m : ℕ). read_on s m n k) e

  -- the number of at most four digits, told by the digits
  told : (k : ℕ) (a b c d : Option ℕ) → digit_of s k ≡ a → digit_of s (k + 1) ≡ b → digit_of s (k + 2) ≡ c → digit_of s (k + 3) ≡ d → decimal s k ≡ read_on s 4 0 k
  told k None b c d p q r t = rw p (sym (read_stop 4 0 k p))
  told k (Some a) None c d p q r t =
      rw (p, q) (sym (read_digit 4 3 0 k a refl p ∙ read_stop 3 (0 * 10 + a) (k + 1) q ∙ omega arith))
  told k (Some a) (Some b) None d p q r t =
      let r₁ : digit_of s ((k + 1) + 1) ≡ None = ap (digit_of s) (omega arith) ∙ r in
      rw (p, q, r) (sym (read_digit 4 3 0 k a refl p ∙ read_digit 3 2 (0 * 10 + a) (k + 1) b refl q ∙ read_stop 2 ((0 * 10 + a) * 10 + b) ((k + 1) + 1) r₁ ∙ omega arith))
  told k (Some a) (Some b) (Some c) d p q r t = go d t
    where
      r₁ : digit_of s ((k + 1) + 1) ≡ Some c
      r₁ = ap (digit_of s) (omega arith) ∙ r

      three : read_on s 4 0 k ≡ read_on s 1 (((0 * 10 + a) * 10 + b) * 10 + c) (((k + 1) + 1) + 1)
      three = read_digit 4 3 0 k a refl p ∙ read_digit 3 2 (0 * 10 + a) (k + 1) b refl q ∙ read_digit 2 1 ((0 * 10 + a) * 10 + b) ((k + 1) + 1) c refl r₁

      go : (o : Option ℕ) → digit_of s (k + 3) ≡ o → decimal s k ≡ read_on s 4 0 k
      go None e =
          let f : digit_of s (((k + 1) + 1) + 1) ≡ None = ap (digit_of s) (omega arith) ∙ e in
          rw (p, q, r, e) (sym (three ∙ read_stop 1 (((0 * 10 + a) * 10 + b) * 10 + c) (((k + 1) + 1) + 1) f ∙ omega arith))
      go (Some x) e =
          let f : digit_of s (((k + 1) + 1) + 1) ≡ Some x = ap (digit_of s) (omega arith) ∙ e in
          rw (p, q, r, e) (sym (three ∙ read_digit 1 0 (((0 * 10 + a) * 10 + b) * 10 + c) (((k + 1) + 1) + 1) x refl f ∙ read_all 0 ((((0 * 10 + a) * 10 + b) * 10 + c) * 10 + x) ((((k + 1) + 1) + 1) + 1) refl ∙ omega arith))

  pub decimal_read : (k : ℕ) → decimal s k ≡ read_on s 4 0 k
  decimal_read k = told k (digit_of s k) (digit_of s (k + 1)) (digit_of s (k + 2)) (digit_of s (k + 3)) refl refl refl refl
