-- The front of an area to which symbols were written. Assumes nothing.
use Rattle.std.specs.Prelude.{◌≡◌, ℕ, List, length, Some, None, Option, Ok}
use Rattle.std.proofs.Common.{take, drop, ap, ◌∙◌, arith}
use Rattle.std.proofs.Math.Seq.{take-append_seam}
use Rattle.symbols.specs.Answers.{answered, unless, over}
use Rattle.symbols.specs.declared.fault.AreaRefusal.{AreaRefusal}

-- where they went in, it holds their characters
pub front_is : (o : Option AreaRefusal) (xs area after : List ℕ) (n : ℕ) → Ok n ≡ answered o (length xs) → after ≡ unless o area (over xs area) → take n after ≡ xs
front_is None xs area after n a b = let e : n ≡ length xs = cc in ap (λ m. take m after) e ∙ ap (take (length xs)) b ∙ take-append_seam xs (drop (length xs) area)
front_is (Some e) xs area after n a b = let z : ◌≡◌ {A = ℕ} 0 1 = cc in absurd (omega arith)
