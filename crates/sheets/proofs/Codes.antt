-- Codes outside 32 to 126, left to right. Assumes nothing.
use Rattle.std.proofs.Common.{◌≡◌, ℕ, zero, suc, ◌+◌, ◌<◌, Bool, true, false, cond, ◌&&◌, ◌||◌, leb, ltb, List, [], ◌∷◌, length, get_or, Some, None, refl, ap, ◌∙◌, arith}
use Rattle.std.proofs.lemmas.Bool.Decides.{nat_tests}
use Rattle.sheets.specs.declared.fault.Fault.{Fault}
use Rattle.sheets.specs.declared.fault.Cause.{Cause}
use Rattle.sheets.specs.Faults.{fault, first}
use Rattle.sheets.specs.LineFaults.{bad_codes}
use Rattle.sheets.proofs.Firsts.{first_ahead, Ahead}

bad_ahead_at : (k j : ℕ) (b : Bool) (fs : List Fault) → k < j → Ahead (fault k Cause.BadCode) fs → Ahead (fault k Cause.BadCode) (cond b fs (fault j Cause.BadCode ∷ fs))
bad_ahead_at k j true fs h a = a
bad_ahead_at k j false fs h a = (grind (arith, nat_tests), a)

bad_ahead : (k j : ℕ) (s : List ℕ) → k < j → Ahead (fault k Cause.BadCode) (bad_codes j s)
unfolding bad_codes
bad_ahead k j [] h = tt
bad_ahead k j (c ∷ s) h = bad_ahead_at k j (leb 32 c && leb c 126) (bad_codes (j + 1) s) h (bad_ahead k (j + 1) s (omega arith))

-- a code that no line may have
abbrev pub outside : ℕ → Bool
outside c = ltb c 32 || ltb 126 c

within_is : (c : ℕ) → outside c ≡ false → (leb 32 c && leb c 126) ≡ true
within_is c e = grind (arith, nat_tests)

outside_is : (c : ℕ) → outside c ≡ true → (leb 32 c && leb c 126) ≡ false
outside_is c e = grind (arith, nat_tests)

-- the first code outside tells the fault
pub codes_first : (k : ℕ) (s : List ℕ) (n : ℕ) → n < length s → ((j : ℕ) → j < n → outside (get_or s j 0) ≡ false)
    → outside (get_or s n 0) ≡ true → first (bad_codes k s) ≡ Some (fault (k + n) Cause.BadCode)
unfolding bad_codes
codes_first k [] n h good bad = absurd (omega arith)
codes_first k (c ∷ s) zero h good bad =
    ap (λ (b : Bool). first (cond b (bad_codes (k + 1) s) (fault k Cause.BadCode ∷ bad_codes (k + 1) s))) (outside_is c bad)
    ∙ first_ahead (fault k Cause.BadCode) (bad_codes (k + 1) s) (bad_ahead k (k + 1) s (omega arith))
    ∙ ap (λ (m : ℕ). Some (fault m Cause.BadCode)) (omega arith)
codes_first k (c ∷ s) (suc n) h good bad =
    ap (λ (b : Bool). first (cond b (bad_codes (k + 1) s) (fault k Cause.BadCode ∷ bad_codes (k + 1) s))) (within_is c (good 0 (omega arith)))
    ∙ codes_first (k + 1) s n (omega arith) (λ j l. good (suc j) (omega arith)) bad
    ∙ ap (λ (m : ℕ). Some (fault m Cause.BadCode)) (omega arith)

-- without one there is no fault
pub codes_none : (k : ℕ) (s : List ℕ) → ((j : ℕ) → j < length s → outside (get_or s j 0) ≡ false) → first (bad_codes k s) ≡ None
unfolding bad_codes
codes_none k [] good = refl
codes_none k (c ∷ s) good =
    ap (λ (b : Bool). first (cond b (bad_codes (k + 1) s) (fault k Cause.BadCode ∷ bad_codes (k + 1) s))) (within_is c (good 0 (omega arith)))
    ∙ codes_none (k + 1) s (λ j l. good (suc j) (omega arith))
