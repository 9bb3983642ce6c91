-- How a scan goes on. Assumes nothing.
use Rattle.std.specs.Prelude.{ℕ, Bool, cond, Some, None, Option, ◌==◌}
use Rattle.scan.specs.declared.step.Move.{Move}
use Rattle.scan.specs.declared.step.Move.TheVariants.{Forward, Back, Done, Spent}

-- back where there is no end; else spent where no trial is left, done at the last element, forward at another
abbrev pub course : Bool → ℕ → Option ℕ → Move
course last left None = Back
course last left (Some e) = cond (left == 0) Spent (cond last Done (Forward e))
