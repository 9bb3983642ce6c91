-- Tables of a fixed size. Assumes nothing.
use Rattle.std.specs.Prelude.{ℕ, List, take, replicate}
use Rattle.symbols.specs.Answers.{over}

-- a table of n places: things in the first ones, blanks in the others
abbrev pub filled : {A : Type 0} → ℕ → A → List A → List A
filled n blank xs = over (take n xs) (replicate n blank)
