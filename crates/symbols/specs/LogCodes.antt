-- Which characters are log characters. Assumes nothing.
use Rattle.std.specs.Prelude.{ℕ, Bool, not, ◌&&◌, ◌==◌, nat_le}

-- codes 32 to 126, without the quote
abbrev pub log_code : ℕ → Bool
log_code c = (nat_le 32 c && nat_le c 126) && not (c == 34)
