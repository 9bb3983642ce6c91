-- The numbers of a bus event. Assumes nothing.
use Rattle.std.specs.Prelude.{ℕ, Bool, ◌&&◌, nat_lt}

-- an identifier from 000 to 7FF and a value of four hexadecimal digits
abbrev pub in_range : ℕ → ℕ → Bool
in_range identifier value = nat_lt identifier 2048 && nat_lt value 65536
