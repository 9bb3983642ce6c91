-- Eight ends, and what is read back from them. Assumes nothing.
use Rattle.std.proofs.Common.{◌≡◌, ℕ, ◌-◌, ◌<◌, List, [], ◌∷◌, length, replicate, refl, ap, arith}
use Rattle.std.proofs.lemmas.List.{take_at}
use Rattle.scan.specs.Answers.{placed, places_of}

-- the places of a placing are those that it was made of
pub placed_back : (places : List ℕ) → 0 < length places → places_of (placed places) ≡ places
placed_back [] l = absurd (omega arith)
placed_back (start ∷ es) l = ap (λ xs. start ∷ xs) (take_at es (replicate (8 - length es) 0) (length es) refl)
