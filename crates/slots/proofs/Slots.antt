-- What the calls of a slot store answer and leave, over the values of its fields. Assumes nothing.
use Rattle.std.proofs.Common.{◌≡◌, ℕ, zero, suc, ◌+◌, ◌-◌, ◌*◌, ◌^◌, ◌<◌, ◌≤◌, min, true, cond, List, [], ◌∷◌, length, get_or, take, drop, set, replicate, None, sym, ap, ◌∙◌, ⊎_elim, false, arith}
use Rattle.std.proofs.lemmas.Bool.{cond-true, cond-false, cases_lt}
use Rattle.std.proofs.lemmas.Bool.Decides.{nat_tests}
use Rattle.std.proofs.lemmas.List.{length-set}
use Rattle.stores.specs.declared.limits.Limits.{Limits}
use Rattle.stores.specs.declared.part.Part.{Part}
use Rattle.stores.specs.Names.{Names, nothing, size, limits, under, with_string}
use Rattle.stores.specs.Ranges.{in_range, new_names}
use Rattle.stores.specs.Calls.{number_refusal, put_refusal}
use Rattle.stores.specs.Parts.{lengths, parts, laid, written}
use Rattle.stores.proofs.Bounds.{InRange, range_parts, size_le}
use Rattle.stores.proofs.Calls.{put_fits}
use Rattle.stores.proofs.Parts.{length_lengths, lengths_le, lengths_set, lengths_zeros, parts_short, parts_zeros}
use Rattle.stores.proofs.Shown.{laid_many, shown_many, shown_limits, shown_is, laid_under}
use Rattle.stores.proofs.Writes.{written_take, written_there, written_drop, length_written, parts_put}
use Rattle.slots.specs.Slots.{in_slots, Slot}
use Rattle.slots.proofs.Places.{slots_wide, slot_fits}

-- one string replaced by another that is short enough
set_short : {X : Type 0} (w : ℕ) (xs : List (List X)) (k : ℕ) (s : List X) → length s ≤ w → ((j : ℕ) → length (get_or xs j []) ≤ w) → (j : ℕ) → length (get_or (set xs k s) j []) ≤ w
set_short w [] k s le h j = h j
set_short w (x ∷ xs) zero s le h zero = le
set_short w (x ∷ xs) zero s le h (suc j) = h (suc j)
set_short w (x ∷ xs) (suc k) s le h zero = h 0
set_short w (x ∷ xs) (suc k) s le h (suc j) = set_short w xs k s le (λ i. h (suc i)) j

-- a most that is cut off where no usize holds it is out of range, as the whole product is
pub cut_off : (n l most room : ℕ) → most ≡ min (n * l) (2 ^ 64 - 1) → in_range n l most room ≡ in_range n l (n * l) room
unfolding in_range
cut_off n l most room e = ⊎_elim small large (cases_lt (n * l) (2 ^ 64))
  where
    small : n * l < 2 ^ 64 → in_range n l most room ≡ in_range n l (n * l) room
    small h = let same : most ≡ n * l = omega arith in ap (λ t. in_range n l t room) same

    large : 2 ^ 64 ≤ n * l → in_range n l most room ≡ in_range n l (n * l) room
    large h = grind (arith, nat_tests)

-- what is known where a number is accepted
pub record Inside {X : Type 0} (area : List X) (table : List ℕ) (n l k : ℕ) : Type 0 where
  pub test : in_range n l (n * l) (length area) ≡ true
  pub ranges : InRange n l (n * l) (length area)
  pub low : 1 ≤ k
  pub high : k ≤ n
  pub starts : (k - 1) * l + l ≤ 65536
  pub fits : (k - 1) * l + l ≤ length area
  pub is : in_slots area table n l ≡ laid (λ _. l) area table n l (n * l)

module _ {X : Type 0} (area : List X) (table : List ℕ) (n l : ℕ) where
  pub slots_many : length (in_slots area table n l).strings ≡ cond (in_range n l (n * l) (length area)) n 0
  unfolding in_slots
  slots_many = shown_many (λ _. l) area table n l (n * l) (in_range n l (n * l) (length area))

  pub slots_limits : limits (in_slots area table n l) ≡ cond (in_range n l (n * l) (length area)) (record { names = n; longest = l; most = n * l }) (limits {X = X} nothing)
  unfolding in_slots
  slots_limits = shown_limits (λ _. l) area table n l (n * l) (in_range n l (n * l) (length area))

  -- what a store tells, by the most that is cut off
  pub told_fit : (m : Limits) → m.names ≡ n → m.longest ≡ l → m.most ≡ min (n * l) (2 ^ 64 - 1) → in_range m.names m.longest m.most (length area) ≡ true → m ≡ limits (in_slots area table n l)
  told_fit m en el em fits =
      let small = (range_parts m.names m.longest m.most (length area) fits).small in
      let all : m.most ≡ n * l = omega arith in
      let test : in_range n l (n * l) (length area) ≡ true = (λ j. in_range (sym en j) (sym el j) (sym all j) (length area)) ∙ fits in
      (λ j. record { names = en j; longest = el j; most = all j }) ∙ sym (slots_limits ∙ cond-true _ _ _ test)

  pub told_unfit : (m : Limits) → m.names ≡ n → m.longest ≡ l → m.most ≡ min (n * l) (2 ^ 64 - 1) → in_range m.names m.longest m.most (length area) ≡ false → limits {X = X} nothing ≡ limits (in_slots area table n l)
  told_unfit m en el em unfit =
      let test : in_range n l (n * l) (length area) ≡ false = sym (cut_off n l m.most (length area) em) ∙ (λ j. in_range (sym en j) (sym el j) m.most (length area)) ∙ unfit in
      sym (slots_limits ∙ cond-false _ _ _ test)

  pub slot_inside : (k : ℕ) → number_refusal (in_slots area table n l) k ≡ None → Inside area table n l k
  unfolding in_slots
  slot_inside k ok =
      let b = in_range n l (n * l) (length area) in
      let i = shown_is (λ _. l) area table n l (n * l) b k ok in
      let low = i.1 in let high = i.2 in
      let r = range_parts n l (n * l) (length area) i.0 in
      let lt : k - 1 < n = omega arith in
      let le : l ≤ l = omega arith in
      record {
        test = i.0;
        ranges = r;
        low = low;
        high = high;
        starts = slot_fits l (k - 1) l n 65536 lt le r.small;
        fits = slot_fits l (k - 1) l n (length area) lt le r.lies;
        is = cond-true b (laid (λ _. l) area table n l (n * l)) nothing i.0;
      }

  -- the slot of number k, and its string
  pub slot_found : (k : ℕ) (part : Part) → number_refusal (in_slots area table n l) k ≡ None → part.start ≡ (k - 1) * l → part.length ≡ min (get_or table (k - 1) 0) l → Slot (in_slots area table n l) area l k part
  slot_found k part ok es el =
      let i = slot_inside k ok in
      let low = i.low in let high = i.high in let few = i.ranges.few in let fits = i.fits in
      let wide = slots_wide l (lengths n l table) (k - 1) (omega (arith, length_lengths n l table)) ∙ sym es in
      let string = ap (λ z. under z k) i.is ∙ laid_under (λ _. l) area table n l (n * l) k low high ∙ (λ j. take (sym el j) (drop (wide j) area)) in
      record {
        lies = record { accepts = ok; within = omega arith; string = string };
        starts = es;
        fits = omega arith;
        some = low;
        few = omega arith;
        short = i.ranges.short;
      }

  -- all strings together never pass n * l
  pub slot_takes : (k : ℕ) (s : List X) → number_refusal (in_slots area table n l) k ≡ None → length s ≤ l → put_refusal (in_slots area table n l) k s ≡ None
  slot_takes k s ok le =
      let i = slot_inside k ok in
      let xs : List (List X) = parts (λ _. l) (lengths n l table) area in
      let each = set_short l xs (k - 1) s le (parts_short (λ _. l) l (lengths n l table) area (lengths_le n l table)) in
      let all : size (set xs (k - 1) s) ≤ n * l = rw (length-set xs (k - 1) s ∙ laid_many (λ _. l) area table n l (n * l)) at (size_le l (set xs (k - 1) s) each) in
      put_fits (in_slots area table n l) k ok s (rw i.is le) (rw i.is all)

  -- what is left by a string written into its slot and its length into the table
  pub slot_leaves : (area' : List X) (table' : List ℕ) (k : ℕ) (s : List X) → number_refusal (in_slots area table n l) k ≡ None → length s ≤ l → 64 ≤ length table → area' ≡ written ((k - 1) * l) s area → table' ≡ set table (k - 1) (length s) → in_slots area' table' n l ≡ with_string (in_slots area table n l) k s
  unfolding in_slots with_string
  slot_leaves area' table' k s ok le long ea et =
      let i = slot_inside k ok in
      let low = i.low in let high = i.high in let few = i.ranges.few in let fits = i.fits in let lies = i.ranges.lies in
      let lt : k - 1 < n = omega arith in
      let many = length_lengths n l table in
      let keeps : length area' ≡ length area = ap length ea ∙ length_written ((k - 1) * l) s area (omega arith) in
      let test : in_range n l (n * l) (length area') ≡ true = ap (in_range n l (n * l)) keeps ∙ i.test in
      let start = (k - 1) * l in
      let wide = slots_wide l (lengths n l table) (k - 1) (omega arith) in
      let set_is : lengths n l table' ≡ set (lengths n l table) (k - 1) (length s) = ap (lengths n l) et ∙ lengths_set n l table (k - 1) (length s) lt (omega arith) le in
      let put = parts_put (λ _. l) (lengths n l table) (k - 1) start s area (written start s area) (omega arith) (sym wide) (lengths_le n l table) (written_take start s area start (omega arith) (omega arith)) (written_there start s area (omega arith)) (ap (parts (λ _. l) (drop (suc (k - 1)) (lengths n l table))) (written_drop start s area (start + l) (omega arith) (omega arith))) in
      let strings : parts (λ _. l) (lengths n l table') area' ≡ set (parts (λ _. l) (lengths n l table) area) (k - 1) s = (λ j. parts (λ _. l) (set_is j) (ea j)) ∙ put in
      let again : Names X → Names X = λ z. record { strings = set z.strings (k - 1) s; longest = z.longest; most = z.most } in
      cond-true _ _ _ test
      ∙ (λ j. record { strings = strings j; longest = l; most = n * l })
      ∙ ap again (sym i.is)

  -- a store whose table is all zeros is new
  pub slots_new : table ≡ replicate 64 0 → in_slots area table n l ≡ new_names n l (n * l) (length area)
  unfolding in_slots new_names
  slots_new e =
      let strings = ap (λ z. parts (λ _. l) z area) (ap (lengths n l) e ∙ lengths_zeros n l 64) ∙ parts_zeros (λ _. l) n area in
      (λ j. cond (in_range n l (n * l) (length area)) (record { strings = strings j; longest = l; most = n * l }) nothing)
