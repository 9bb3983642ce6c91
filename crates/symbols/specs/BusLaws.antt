-- Bus events: equal parts make equal events, and reading gives back what was written.
use Rattle.std.specs.Prelude.{◌≡◌, ℕ, suc, ◌/◌, ◌%◌, ◌<◌, Bool, true, false, cond, List, [], ◌∷◌, ◌++◌, length, take, drop, Some, None, Decides, Option, ◌==◌, nat_lt, slice_index, refl}
use Rattle.std.proofs.Math.Bool.{Bool-set}
use mathlib.Core.HLevel.{is_prop→PathP}
use Rattle.std.proofs.Common.{sym, ap, ◌∙◌, arith, length-drop, drop-cons}
use Rattle.std.proofs.lemmas.List.{length-take-le, take-append-drop, take_all}
use Rattle.std.proofs.lemmas.Bool.{eqb-true, eq-eqb, ltb-true, both_ways, and_parts, and_from, cond-true}
use Rattle.std.proofs.lemmas.Bool.Decides.{nat_tests}
use Rattle.symbols.specs.Bus.{phase_char, phase_meant, event, event_of, bus_meant, bus_chars, same_phase, bus_equal}
use Rattle.symbols.specs.EventRange.{in_range}
use Rattle.symbols.specs.Hex.{hex_digit, hex_number, hex_digits}
use Rattle.symbols.specs.declared.bus_event.BusEvent.{BusEvent}
use Rattle.symbols.specs.declared.bus_event.Phase.{Phase}
use Rattle.symbols.specs.declared.bus_event.Phase.TheVariants.{Begin, End, Point}
use Rattle.symbols.specs.HexLaws.{given_some, number_of_digits, digits_of_number}

pub same_parts : (x y : BusEvent) → x.identifier ≡ y.identifier → x.phase ≡ y.phase → x.value ≡ y.value → x ≡ y
same_parts x y p q r = λ i. record { identifier = p i; phase = q i; value = r i; ranged = is_prop→PathP (λ j. in_range (p j) (r j) ≡ true) (λ j. Bool-set (in_range (p j) (r j)) true) x.ranged y.ranged i }

pub phase_back : (p : Phase) → phase_meant (phase_char p) ≡ Some p
phase_back Begin = refl
phase_back End = refl
phase_back Point = refl

pub phase_means : (c : ℕ) (p : Phase) → phase_meant c ≡ Some p → phase_char p ≡ c
phase_means c p h = grind (arith, nat_tests)

pub phases_same : (p q : Phase) → same_phase p q ≡ true → p ≡ q
phases_same p q h = let e = ap phase_meant (eqb-true _ _ h) in let a = phase_back p in let b = phase_back q in cc

pub bus_decides : (x y : BusEvent) → Decides (bus_equal x y) (x ≡ y)
bus_decides x y = (
  λ e. let a = and_parts _ _ e in let b = and_parts _ _ a.1 in same_parts x y (eqb-true _ _ a.0) (phases_same _ _ b.0) (eqb-true _ _ b.1),
  λ e. and_from _ _ (eq-eqb _ _ (ap (λ (z : BusEvent). z.identifier) e)) (and_from _ _ (eq-eqb _ _ (ap (λ (z : BusEvent). phase_char z.phase) e)) (eq-eqb _ _ (ap (λ (z : BusEvent). z.value) e))),
)

-- parts that some event has make that event
pub event_is : (i : ℕ) (p : Phase) (v : ℕ) (b : Bool) (e : in_range i v ≡ b) (x : BusEvent) → i ≡ x.identifier → p ≡ x.phase → v ≡ x.value → event i p v b e ≡ Some x
event_is i p v true e x f g h = ap Some (same_parts (record { identifier = i; phase = p; value = v; ranged = e }) x f g h)
event_is i p v false e x f g h = absurd (both_ways _ e (ap (λ n. in_range n v) f ∙ ap (in_range x.identifier) h ∙ x.ranged))

pub event_made : (o : Option ℕ) (q : Option Phase) (r : Option ℕ) (x : BusEvent) → o ≡ Some x.identifier → q ≡ Some x.phase → r ≡ Some x.value → event_of o q r ≡ Some x
event_made o q r x f g h = rw (f, g, h) (event_is x.identifier x.phase x.value (in_range x.identifier x.value) refl x refl refl refl)

-- the numbers of an event are small enough for their digits
pub small_numbers : (x : BusEvent) → (x.identifier < 2048) × (x.value < 65536)
small_numbers x = let a = and_parts (nat_lt x.identifier 2048) (nat_lt x.value 65536) x.ranged in (ltb-true _ _ a.0, ltb-true _ _ a.1)

pub bus_wide : (x : BusEvent) → length (bus_chars x) ≡ 8
unfolding hex_digits
bus_wide x = refl

pub bus_back : (x : BusEvent) → bus_meant (bus_chars x) ≡ Some x
unfolding hex_digits
bus_back x =
    let small = small_numbers x in
    event_made (hex_number (hex_digits 3 x.identifier)) (phase_meant (phase_char x.phase)) (hex_number (hex_digits 4 x.value)) x
    (number_of_digits 3 x.identifier (omega arith)) (phase_back x.phase) (number_of_digits 4 x.value (omega arith))

-- an event has the parts that it was made of
event_parts : (i : ℕ) (p : Phase) (v : ℕ) (b : Bool) (e : in_range i v ≡ b) (x : BusEvent) → event i p v b e ≡ Some x → (i ≡ x.identifier) × (p ≡ x.phase) × (v ≡ x.value)
event_parts i p v true e x h =
    let q : ◌≡◌ {A = BusEvent} (record { identifier = i; phase = p; value = v; ranged = e }) x = cc in
    (ap (λ (z : BusEvent). z.identifier) q, ap (λ (z : BusEvent). z.phase) q, ap (λ (z : BusEvent). z.value) q)
event_parts i p v false e x h = let z : ◌≡◌ {A = ℕ} 0 1 = cc in absurd (omega arith)

pub made_parts : (o : Option ℕ) (q : Option Phase) (r : Option ℕ) (x : BusEvent) → event_of o q r ≡ Some x → (o ≡ Some x.identifier) × (q ≡ Some x.phase) × (r ≡ Some x.value)
made_parts o q r x h =
    let a = given_some o _ x h in
    let b = given_some q _ x a.2 in
    let c = given_some r _ x b.2 in
    let e = event_parts a.0 b.0 c.0 _ refl x c.2 in
    (a.1 ∙ ap Some e.0, b.1 ∙ ap Some e.1, c.1 ∙ ap Some e.2)

when_some : {A : Type 0} (b : Bool) (o : Option A) (x : A) → cond b o None ≡ Some x → (b ≡ true) × (o ≡ Some x)
when_some true o x h = (refl, h)
when_some false o x h = let z : ◌≡◌ {A = ℕ} 0 1 = cc in absurd (omega arith)

around : (s : List ℕ) (i : ℕ) → i < length s → take i s ++ slice_index s i ∷ drop (suc i) s ≡ s
around s i l = ap (λ t. take i s ++ t) (sym (drop-cons s i 0 l)) ∙ take-append-drop i s

pub bus_means : (s : List ℕ) (x : BusEvent) → bus_meant s ≡ Some x → bus_chars x ≡ s
bus_means s x h =
    let a = when_some (length s == 8) _ x h in
    let n = eqb-true (length s) 8 a.0 in
    let b = made_parts (hex_number (take 3 s)) (phase_meant (slice_index s 3)) (hex_number (drop 4 s)) x a.1 in
    let p : length (take 3 s) ≡ 3 = length-take-le 3 s (omega arith) in
    let q : length (drop 4 s) ≡ 4 = simp length-drop (omega arith) in
    let i = digits_of_number (take 3 s) x.identifier b.0 in
    let v = digits_of_number (drop 4 s) x.value b.2 in
    let c = phase_means (slice_index s 3) x.phase b.1 in
    let i' : hex_digits 3 x.identifier ≡ take 3 s = rw p at i in
    let v' : hex_digits 4 x.value ≡ drop 4 s = rw q at v in
    rw (i', v', c) (around s 3 (omega arith))

-- the characters of an event, one by one
pub spelled : (x : BusEvent) → bus_chars x ≡
    hex_digit (x.identifier / 256) ∷ hex_digit (x.identifier / 16 % 16) ∷ hex_digit (x.identifier % 16) ∷ phase_char x.phase
    ∷ hex_digit (x.value / 4096) ∷ hex_digit (x.value / 256 % 16) ∷ hex_digit (x.value / 16 % 16) ∷ hex_digit (x.value % 16) ∷ []
unfolding hex_digits
spelled x =
    let small = small_numbers x in
    let a : x.identifier / 16 / 16 % 16 ≡ x.identifier / 256 = omega arith in
    let w : x.value / 16 / 16 / 16 % 16 ≡ x.value / 4096 = omega arith in
    let y : x.value / 16 / 16 % 16 ≡ x.value / 256 % 16 = omega arith in
    rw (a, w, y)

-- eight characters, read part by part
module _ (s : List ℕ) (n : length s ≡ 8) where
  last_four : take 4 (drop 4 s) ≡ drop 4 s
  last_four = take_all 4 (drop 4 s) (simp length-drop (omega arith))

  eight : (o : Option BusEvent) → event_of (hex_number (take 3 s)) (phase_meant (slice_index s 3)) (hex_number (drop 4 s)) ≡ o → bus_meant s ≡ o
  eight o e = cond-true (length s == 8) (event_of (hex_number (take 3 s)) (phase_meant (slice_index s 3)) (hex_number (drop 4 s))) None (eq-eqb (length s) 8 n) ∙ e

  pub read_parts : (x : BusEvent) → hex_number (take 3 s) ≡ Some x.identifier → phase_meant (slice_index s 3) ≡ Some x.phase → hex_number (take 4 (drop 4 s)) ≡ Some x.value → bus_meant s ≡ Some x
  read_parts x i p v = eight (Some x) (event_made (hex_number (take 3 s)) (phase_meant (slice_index s 3)) (hex_number (drop 4 s)) x i p (rw last_four at v))

  pub no_value : (i : ℕ) (p : Phase) → hex_number (take 3 s) ≡ Some i → phase_meant (slice_index s 3) ≡ Some p → hex_number (take 4 (drop 4 s)) ≡ None → bus_meant s ≡ None
  no_value i p e f g = let v : hex_number (drop 4 s) ≡ None = rw last_four at g in eight None (rw (e, f, v))
