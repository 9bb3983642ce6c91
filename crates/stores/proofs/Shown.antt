-- Names that a store shows only where its fields pass a test. Assumes nothing.
use Rattle.std.proofs.Common.{◌≡◌, ℕ, ◌-◌, ◌<◌, ◌≤◌, min, Bool, true, false, cond, List, length, get_or, take, drop, None, sum_by, refl, ap, ◌∙◌, arith}
use Rattle.stores.specs.Names.{nothing, limits, under}
use Rattle.stores.specs.Calls.{number_refusal}
use Rattle.stores.specs.Parts.{lengths, laid}
use Rattle.stores.proofs.Calls.{under_is, number_is}
use Rattle.stores.proofs.Parts.{length_lengths, lengths_at, length_parts, parts_at}

module _ {X : Type 0} (width : ℕ → ℕ) (area : List X) (table : List ℕ) (n l t : ℕ) where
  pub laid_many : length (laid width area table n l t).strings ≡ n
  laid_many = length_parts width (lengths n l table) area ∙ length_lengths n l table

  -- as many strings as the test shows
  pub shown_many : (b : Bool) → length (cond b (laid width area table n l t) nothing).strings ≡ cond b n 0
  shown_many true = laid_many
  shown_many false = refl

  -- the limits that the test shows
  pub shown_limits : (b : Bool) → limits (cond b (laid width area table n l t) nothing) ≡ cond b (record { names = n; longest = l; most = t }) (limits {X = X} nothing)
  shown_limits true = (λ j. record { names = laid_many j; longest = l; most = t })
  shown_limits false = refl

  -- where a number is accepted, the test has passed
  pub shown_is : (b : Bool) (k : ℕ) → number_refusal (cond b (laid width area table n l t) nothing) k ≡ None → (b ≡ true) × (1 ≤ k) × (k ≤ n)
  shown_is true k ok = let i = number_is _ k ok in let low = i.0 in let high = i.1 in (refl, low, omega (arith, laid_many))
  shown_is false k ok = let i = number_is _ k ok in let low = i.0 in let high = i.1 in absurd (omega arith)

  -- the string of a number, where the test has passed
  pub laid_under : (k : ℕ) → 1 ≤ k → k ≤ n → under (laid width area table n l t) k ≡ take (min (get_or table (k - 1) 0) l) (drop (sum_by width (take (k - 1) (lengths n l table))) area)
  laid_under k low high =
      let lt : k - 1 < n = omega arith in
      let lt' : k - 1 < length (lengths n l table) = omega (arith, length_lengths n l table) in
      under_is (laid width area table n l t) k low ∙ parts_at width (lengths n l table) area (k - 1) lt'
      ∙ ap (λ z. take z (drop (sum_by width (take (k - 1) (lengths n l table))) area)) (lengths_at n l table (k - 1) lt)
