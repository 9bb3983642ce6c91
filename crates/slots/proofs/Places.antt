-- Where the slots of one width lie. Assumes nothing.
use Rattle.std.proofs.Common.{◌≡◌, ℕ, zero, suc, ◌+◌, ◌*◌, ◌<◌, ◌≤◌, List, [], ◌∷◌, length, take, sum_by, sym, ◌∙◌, mul-le-mul_right, suc-mul, zero-mul, arith}
use Rattle.std.proofs.lemmas.List.Sums.{sum_by-cons}

-- k slots take up k times their width
pub slots_wide : (w : ℕ) (ns : List ℕ) (k : ℕ) → k ≤ length ns → sum_by (λ _. w) (take k ns) ≡ k * w
slots_wide w ns zero h = sym (zero-mul w)
slots_wide w [] (suc k) h = absurd (omega arith)
slots_wide w (n ∷ ns) (suc k) h = sum_by-cons (λ _. w) n (take k ns) ∙ omega (arith, slots_wide w ns k (omega arith), suc-mul k w)

-- a part of slot k lies within the area
pub slot_fits : (w k n m room : ℕ) → k < m → n ≤ w → m * w ≤ room → k * w + n ≤ room
slot_fits w k n m room lt le all = omega (arith, suc-mul k w, mul-le-mul_right {m = suc k} {n = m} w lt)
