-- Hexadecimal digits: the digits of a number write it, and digits are those of the number that they write.
use Rattle.std.specs.Prelude.{◌≡◌, ℕ, zero, suc, ◌+◌, ◌*◌, ◌/◌, ◌%◌, ◌^◌, ◌<◌, ◌≤◌, List, [], ◌∷◌, ◌++◌, length, drop, Some, None, Option, slice_index, refl}
use Rattle.std.proofs.Common.{append_assoc, append-nil, sym, ap, ◌∙◌, pow-suc, mul_assoc, add-one, arith, drop-cons}
use Rattle.std.proofs.lemmas.List.{length_push, drop_all}
use Rattle.std.proofs.lemmas.Bool.Decides.{nat_tests}
use Rattle.std.specs.Option.{option_and_then}
use Rattle.symbols.specs.Hex.{hex_value, hex_digit, hex_more, hex_number, hex_digits}

pub given_some : {A B : Type 0} (o : Option A) (f : A → Option B) (b : B) → option_and_then f o ≡ Some b → (a : A) × (o ≡ Some a) × (f a ≡ Some b)
given_some None f b h = let z : ◌≡◌ {A = ℕ} 0 1 = cc in absurd (omega arith)
given_some (Some a) f b h = (a, refl, h)

pub value_of_digit : (v : ℕ) → v < 16 → hex_value (hex_digit v) ≡ Some v
value_of_digit v h = grind (arith, nat_tests)

pub digit_of_value : (c v : ℕ) → hex_value c ≡ Some v → hex_digit v ≡ c
digit_of_value c v h = grind (arith, nat_tests)

pub value_small : (c v : ℕ) → hex_value c ≡ Some v → v < 16
value_small c v h = grind (arith, nat_tests)

pub digits_length : (k n : ℕ) → length (hex_digits k n) ≡ k
unfolding hex_digits
digits_length zero n = refl
digits_length (suc k) n = omega (arith, length_push (hex_digits k (n / 16)) (hex_digit (n % 16)), digits_length k (n / 16))

-- behind what wrote a, the k digits of n write a number of k digits more
pub digits_write : (k a n : ℕ) (cs : List ℕ) → n < 16 ^ k → hex_more a (hex_digits k n ++ cs) ≡ hex_more (a * 16 ^ k + n) cs
unfolding hex_digits hex_more
digits_write zero a n cs h = let z : a ≡ a * 16 ^ 0 + n = omega arith in ap (λ m. hex_more m cs) z
digits_write (suc k) a n cs h =
    let p = pow-suc 16 k in
    let small : n / 16 < 16 ^ k = omega arith in
    let digit : n % 16 < 16 = omega arith in
    let m = mul_assoc a (16 ^ k) 16 in
    let whole : (a * 16 ^ k + n / 16) * 16 + n % 16 ≡ a * 16 ^ suc k + n = rw p (omega arith) in
    ap (hex_more a) (append_assoc (hex_digits k (n / 16)) (hex_digit (n % 16) ∷ []) cs)
    ∙ digits_write k a (n / 16) (hex_digit (n % 16) ∷ cs) small
    ∙ ap (option_and_then (λ v. hex_more ((a * 16 ^ k + n / 16) * 16 + v) cs)) (value_of_digit (n % 16) digit)
    ∙ ap (λ m. hex_more m cs) whole

pub number_of_digits : (k n : ℕ) → n < 16 ^ k → hex_number (hex_digits k n) ≡ Some n
unfolding hex_more
number_of_digits k n h =
    let z : 0 * 16 ^ k + n ≡ n = omega arith in
    ap hex_number (sym (append-nil (hex_digits k n))) ∙ digits_write k 0 n [] h ∙ ap Some z

-- digits that write m behind the k digits of n are the last digits of m
pub digits_of_more : (k n m : ℕ) (cs : List ℕ) → hex_more n cs ≡ Some m → hex_digits (k + length cs) m ≡ hex_digits k n ++ cs
unfolding hex_digits hex_more
digits_of_more k n m [] h =
    let e : n ≡ m = cc in
    let z : k + 0 ≡ k = omega arith in
    rw (z, ← e) (sym (append-nil (hex_digits k n)))
digits_of_more k n m (c ∷ cs) h =
    let g = given_some (hex_value c) (λ v. hex_more (n * 16 + v) cs) m h in
    let v = g.0 in
    let small = value_small c v g.1 in
    let q : (n * 16 + v) / 16 ≡ n = omega arith in
    let r : (n * 16 + v) % 16 ≡ v = omega arith in
    let z : k + suc (length cs) ≡ suc k + length cs = omega arith in
    rw z (digits_of_more (suc k) (n * 16 + v) m cs g.2 ∙ rw (q, r, digit_of_value c v g.1, append_assoc))

pub digits_of_number : (cs : List ℕ) (m : ℕ) → hex_number cs ≡ Some m → hex_digits (length cs) m ≡ cs
unfolding hex_digits
digits_of_number cs m h = let z : 0 + length cs ≡ length cs = omega arith in rw z at (digits_of_more 0 0 m cs h)

-- the reading of digits from place i on, where n was written before
pub more_stops : (s : List ℕ) (n i : ℕ) → i < length s → hex_value (slice_index s i) ≡ None → hex_more n (drop i s) ≡ None
unfolding hex_more
more_stops s n i l h = rw (drop-cons s i 0, h)

pub more_goes : (s : List ℕ) (n i v : ℕ) → i < length s → hex_value (slice_index s i) ≡ Some v → hex_more n (drop i s) ≡ hex_more (n * 16 + v) (drop (i + 1) s)
unfolding hex_more
more_goes s n i v l h = rw (drop-cons s i 0, h, add-one)

pub more_ends : (s : List ℕ) (n i : ℕ) → length s ≤ i → hex_more n (drop i s) ≡ Some n
unfolding hex_more
more_ends s n i l = rw (drop_all i s l)

pub grows : (n v i : ℕ) → n < 16 ^ i → v < 16 → n * 16 + v < 16 ^ (i + 1)
grows n v i h l = rw (add-one i, pow-suc 16 i) (omega arith)

pub fits_four : (n i : ℕ) → i < 4 → n < 16 ^ i → n < 4096
fits_four n zero l h = omega arith
fits_four n (suc zero) l h = omega arith
fits_four n (suc (suc zero)) l h = omega arith
fits_four n (suc (suc (suc zero))) l h = omega arith
fits_four n (suc (suc (suc (suc i)))) l h = absurd (omega arith)
