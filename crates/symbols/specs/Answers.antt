-- How a call answers: a refusal or none decides what it returns and what each area then holds. Assumes nothing.
use Rattle.std.specs.Prelude.{List, ◌++◌, length, drop, Some, None, Ok, Err, Option, Result}

-- what a call returns: the refusal, or the value where there is none
abbrev pub answered : {E A : Type 0} → Option E → A → Result A E
answered (Some e) a = Err e
answered None a = Ok a

-- what a thing is afterwards: as it was under a refusal, new otherwise
abbrev pub unless : {E A : Type 0} → Option E → A → A → A
unless (Some e) old new = old
unless None old new = new

-- an area once xs is written over its front: all past xs is as it was
abbrev pub over : {X : Type 0} → List X → List X → List X
over xs area = xs ++ drop (length xs) area
