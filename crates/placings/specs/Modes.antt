-- The words that choose a mode. Assumes nothing.
use Rattle.std.specs.Prelude.{ℕ, cond, List, Some, None, codes, Option}
use Rattle.std.specs.Str.{bytes_eq}
use Rattle.placings.specs.declared.mode.Mode.{Mode}
use Rattle.placings.specs.declared.mode.Mode.TheVariants.{Anchored, Unanchored}

-- the mode that a word chooses
abbrev pub mode_word : List ℕ → Option Mode
mode_word word = cond (bytes_eq word (codes "ANCHOR")) (Some Anchored) (cond (bytes_eq word (codes "UNANCHOR")) (Some Unanchored) None)
