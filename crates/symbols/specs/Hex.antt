-- Hexadecimal digits with capital letters, and the numbers that they write. Assumes nothing.
use Rattle.std.specs.Prelude.{ℕ, zero, suc, ◌+◌, ◌-◌, ◌*◌, ◌/◌, ◌%◌, cond, ◌&&◌, List, [], ◌∷◌, ◌++◌, Some, None, Option, nat_le, nat_lt}
use Rattle.std.specs.Option.{option_and_then}

-- the value of a digit: 0 to 9, A to F
abbrev pub hex_value : ℕ → Option ℕ
hex_value c = cond (nat_le 48 c && nat_le c 57) (Some (c - 48)) (cond (nat_le 65 c && nat_le c 70) (Some (c - 55)) None)

-- the digit of a value below 16
abbrev pub hex_digit : ℕ → ℕ
hex_digit v = cond (nat_lt v 10) (v + 48) (v + 55)

-- the number that digits write behind those that wrote n
unfoldable pub hex_more : ℕ → List ℕ → Option ℕ
hex_more n [] = Some n
hex_more n (c ∷ cs) = option_and_then (λ v. hex_more (n * 16 + v) cs) (hex_value c)

-- the number that digits write
abbrev pub hex_number : List ℕ → Option ℕ
hex_number cs = hex_more 0 cs

-- the k digits of a number
unfoldable pub hex_digits : ℕ → ℕ → List ℕ
hex_digits zero n = []
hex_digits (suc k) n = hex_digits k (n / 16) ++ hex_digit (n % 16) ∷ []
