-- What a list of puts leaves, each accepted or refused. Assumes nothing.
use Rattle.std.specs.Prelude.{◌≡◌, ℕ, cond, List, [], ◌∷◌, ◌++◌, Some, None, Option, ◌==◌}
use Rattle.symbols.specs.Answers.{unless}
use Rattle.stores.specs.declared.put.Put.{Put}
use Rattle.stores.specs.Names.{Names, under}
use Rattle.stores.specs.Calls.{put_refusal, after_put}

-- the names after the puts, in their order
unfoldable pub after_puts : {X : Type 0} → Names X → List (Put X) → Names X
after_puts names [] = names
after_puts names (p ∷ ps) = after_puts (after_put names p.number p.string.now) ps

-- the puts that are accepted, in their order
unfoldable pub accepted : {X : Type 0} → Names X → List (Put X) → List (Put X)
accepted names [] = []
accepted names (p ∷ ps) = unless (put_refusal names p.number p.string.now) [] (p ∷ []) ++ accepted (after_put names p.number p.string.now) ps

-- the first of two, or the second where there is none
abbrev pub or_else : {A : Type 0} → Option A → Option A → Option A
or_else (Some x) o = Some x
or_else None o = o

-- the string of the last put to number k, if there is one
unfoldable pub last_put : {X : Type 0} → List (Put X) → ℕ → Option (List X)
last_put [] k = None
last_put (p ∷ ps) k = or_else (last_put ps k) (cond (p.number == k) (Some p.string.now) None)

-- the string that was put, or the one that was held before
abbrev pub put_or : {X : Type 0} → Option (List X) → List X → List X
put_or (Some s) old = s
put_or None old = old

-- after the puts each number has the string of the last accepted put to it, or what it had before
abbrev pub LastStands : {X : Type 0} → Names X → List (Put X) → Names X → Type 0
LastStands before puts after = (k : ℕ) → under after k ≡ put_or (last_put (accepted before puts) k) (under before k)
