-- What things give, each one thing or none. Assumes nothing.
use Rattle.std.specs.Prelude.{List, [], ◌∷◌, Some, None, Option}

-- one thing, if there is one, in front of others
abbrev pub in_front : {B : Type 0} → Option B → List B → List B
in_front None ys = ys
in_front (Some y) ys = y ∷ ys

-- the first of two, or else the second
abbrev pub or : {B : Type 0} → Option B → Option B → Option B
or None b = b
or (Some y) b = Some y

-- a thing, or what stands for it where there is none
abbrev pub else : {B : Type 0} → B → Option B → B
else d None = d
else d (Some y) = y

module _ {A B : Type 0} (f : A → Option B) where
  -- all that the things of a list give, in their order
  unfoldable pub given : List A → List B
  given [] = []
  given (x ∷ xs) = in_front (f x) (given xs)

  -- the last that they give
  unfoldable pub last_given : List A → Option B
  last_given [] = None
  last_given (x ∷ xs) = or (last_given xs) (f x)
