-- When an area is too short for the characters of symbols.
use Rattle.std.proofs.Common.{◌≡◌, ℕ, ◌*◌, ◌/◌, ◌<◌, ◌≤◌, ltb, Some, None, div-lt_iff_lt-mul}
use Rattle.std.proofs.lemmas.Bool.{cond-true, lt-ltb}
use Rattle.symbols.specs.Kinds.{short_of}
use Rattle.symbols.specs.declared.fault.AreaRefusal.TheVariants.{ShortArea}

pub too_short : (room wanted : ℕ) → room < wanted → short_of room wanted ≡ Some ShortArea
too_short room wanted h = cond-true (ltb room wanted) (Some ShortArea) None (lt-ltb _ _ h)

-- k symbols of w characters go into an area exactly where k is at most room / w
pub do_not_go_in : (k w room : ℕ) → 1 ≤ w → room / w < k → room < k * w
do_not_go_in k w room l h = (div-lt_iff_lt-mul l).0 h
