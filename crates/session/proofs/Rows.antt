-- The row of a statement by its number. Assumes nothing.
use Rattle.std.proofs.Common.{◌≡◌, ℕ, zero, suc, List, [], ◌∷◌, Some, subst, arith}
use Rattle.std.specs.List.{AllByRecursion, slice_get}
use Rattle.tables.specs.Rows.{Row}
use Rattle.session.specs.Steps.{row_of}

-- what holds of all elements holds of the one at a place
at_all : {A : Type 0} (P : A → Type 0) (xs : List A) → AllByRecursion P xs → (k : ℕ) (x : A) → slice_get xs k ≡ Some x → P x
at_all P [] h k x e = let z : ◌≡◌ {A = ℕ} 0 1 = cc in absurd (omega arith)
at_all P (y ∷ ys) h zero x e = let z : y ≡ x = cc in subst P z h.0
at_all P (y ∷ ys) h (suc k) x e = at_all P ys h.1 k x e

-- a row that is there is one of all
pub row_all : (P : Row → Type 0) (rows : List Row) → AllByRecursion P rows → (k : ℕ) (row : Row) → row_of rows k ≡ Some row → P row
row_all P rows h zero row e = let z : ◌≡◌ {A = ℕ} 0 1 = cc in absurd (omega arith)
row_all P rows h (suc k) row e = at_all P rows h k row e
