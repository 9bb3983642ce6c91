-- The variable that a back reference means: the nearest of its name. Assumes nothing.
use Rattle.std.specs.Prelude.{ℕ, suc, Bool, cond, List, [], ◌∷◌, Some, None, Option}
use Rattle.tables.specs.declared.row.Item.{Item}
use Rattle.tables.specs.Rows.{is_variable}

-- one place further on, or the first place where the test holds of the first
abbrev pub further : Bool → Option ℕ → Option ℕ
further here (Some j) = Some (suc j)
further here None = cond here (Some 0) None

-- the place, from 0, of the last variable of the name k
unfoldable pub nearest : ℕ → List Item → Option ℕ
nearest k [] = None
nearest k (item ∷ items) = further (is_variable k item) (nearest k items)
