-- The characters of an event are printed as they are.
use Rattle.std.proofs.Common.{◌≡◌, ℕ, zero, suc, ◌/◌, ◌%◌, ◌<◌, [], ◌∷◌, get_or, arith}
use Rattle.std.specs.Prelude.{encode_utf8}
use lib.Utf8.{encode}
use Rattle.std.proofs.lemmas.Bool.{cond-true, lt-ltb}
use Rattle.std.proofs.lemmas.Bool.Decides.{nat_tests}
use Rattle.symbols.specs.Bus.{phase_char, bus_chars}
use Rattle.symbols.specs.Hex.{hex_digit, hex_digits}
use Rattle.symbols.specs.declared.bus_event.BusEvent.{BusEvent}
use Rattle.symbols.specs.declared.bus_event.Phase.{Phase}
use Rattle.symbols.specs.declared.bus_event.Phase.TheVariants.{Begin, End, Point}

digit_small : (n : ℕ) → hex_digit (n % 16) < 128
digit_small n = let h : n % 16 < 16 = omega arith in grind (arith, nat_tests)

phase_small : (p : Phase) → phase_char p < 128
phase_small Begin = omega arith
phase_small End = omega arith
phase_small Point = omega arith

chars_small : (x : BusEvent) (i : ℕ) → get_or (bus_chars x) i 0 < 128
unfolding hex_digits
chars_small x zero = digit_small (x.identifier / 16 / 16)
chars_small x (suc zero) = digit_small (x.identifier / 16)
chars_small x (suc (suc zero)) = digit_small x.identifier
chars_small x (suc (suc (suc zero))) = phase_small x.phase
chars_small x (suc (suc (suc (suc zero)))) = digit_small (x.value / 16 / 16 / 16)
chars_small x (suc (suc (suc (suc (suc zero))))) = digit_small (x.value / 16 / 16)
chars_small x (suc (suc (suc (suc (suc (suc zero)))))) = digit_small (x.value / 16)
chars_small x (suc (suc (suc (suc (suc (suc (suc zero))))))) = digit_small x.value
chars_small x (suc (suc (suc (suc (suc (suc (suc (suc i)))))))) = omega arith

one_byte : (c : ℕ) → c < 128 → encode_utf8 c ≡ c ∷ []
unfolding encode
one_byte c h = cond-true _ _ _ (lt-ltb c 128 h)

pub written_alone : (x : BusEvent) (i : ℕ) → encode_utf8 (get_or (bus_chars x) i 0) ≡ get_or (bus_chars x) i 0 ∷ []
written_alone x i = one_byte _ (chars_small x i)
