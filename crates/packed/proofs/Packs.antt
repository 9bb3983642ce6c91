-- What the calls of a packed store answer and leave, over the values of its fields. Assumes nothing.
use Rattle.std.proofs.Common.{◌≡◌, ℕ, zero, suc, ◌+◌, ◌-◌, ◌<◌, ◌≤◌, min, true, false, cond, ◌&&◌, leb, List, [], ◌∷◌, length, map, get_or, take, drop, set, replicate, Some, None, sum, sym, refl, ap, ◌∙◌, ⊎_elim, arith}
use Rattle.std.proofs.lemmas.List.{length-take-le, length-drop}
use Rattle.std.proofs.lemmas.List.Sums.{sum_by-cons, sum_by-set}
use Rattle.std.proofs.lemmas.Bool.{cases_Bool, cond-true, and_parts, and_left, le-leb}
use Rattle.stores.specs.declared.part.Part.{Part}
use Rattle.stores.specs.declared.refusal.StoreRefusal.TheVariants.{TooLong}
use Rattle.stores.specs.Names.{Names, nothing, size, limits, under, with_string}
use Rattle.stores.specs.Ranges.{in_range, new_names}
use Rattle.stores.specs.Calls.{number_refusal, put_refusal}
use Rattle.stores.specs.Parts.{lengths, parts, laid, written}
use Rattle.stores.proofs.Bounds.{InRange}
use Rattle.stores.proofs.Calls.{under_is, put_over, put_fits, size_set}
use Rattle.stores.proofs.Parts.{length_lengths, lengths_at, lengths_set, lengths_zeros, parts_zeros, lies_length}
use Rattle.stores.proofs.Shown.{laid_many, shown_many, shown_limits, shown_is, laid_under}
use Rattle.stores.proofs.Writes.{length_written}
use Rattle.packed.specs.declared.PackedStore.{PackedStore}
use Rattle.packed.specs.Packs.{packs, in_pack, packed_names, Packed}
use Rattle.packed.specs.Bounds.{packs_parts}
use Rattle.packed.proofs.Shifts.{string_within, parts_shifted}

-- the front of the lengths
lengths_take : (n k l : ℕ) (table : List ℕ) → k ≤ n → take k (lengths n l table) ≡ lengths k l table
lengths_take n zero l table h = refl
lengths_take zero (suc k) l table h = absurd (omega arith)
lengths_take (suc n) (suc k) l [] h = ap (λ z. 0 ∷ z) (lengths_take n k l [] (omega arith))
lengths_take (suc n) (suc k) l (x ∷ table) h = ap (λ z. min x l ∷ z) (lengths_take n k l table (omega arith))

-- where the table has them all
pub lengths_map : (n l : ℕ) (table : List ℕ) → n ≤ length table → map (λ x. min x l) (take n table) ≡ lengths n l table
lengths_map zero l table h = refl
lengths_map (suc n) l [] h = absurd (omega arith)
lengths_map (suc n) l (x ∷ table) h = ap (λ z. min x l ∷ z) (lengths_map n l table (omega arith))

parts_size : {X : Type 0} (ns : List ℕ) (area : List X) → sum ns ≤ length area → size (parts (λ m. m) ns area) ≡ sum ns
parts_size [] area h = refl
parts_size (n ∷ ns) area h =
    let all : sum (n ∷ ns) ≡ n + sum ns = sum_by-cons (λ m. m) n ns in
    omega (arith, length-take-le n area (omega arith), parts_size ns (drop n area) (simp length-drop (omega arith)))

zeros_sum : (n : ℕ) → sum (replicate n 0) ≡ 0
zeros_sum zero = refl
zeros_sum (suc n) = zeros_sum n

-- the test, part by part
module _ (table : List ℕ) (n l t room : ℕ) where
  pub packs_unfit : in_range n l t room ≡ false → packs table n l t room ≡ false
  unfolding packs
  packs_unfit e = and_left _ _ e

  pub packs_fit : in_range n l t room ≡ true → packs table n l t room ≡ leb (sum (lengths n l table)) t
  unfolding packs
  packs_fit e = ap (λ b. b && leb (sum (lengths n l table)) t) e

  packs_all : in_range n l t room ≡ true → sum (lengths n l table) ≤ t → packs table n l t room ≡ true
  packs_all e h = packs_fit e ∙ le-leb (sum (lengths n l table)) t h

  packs_range : packs table n l t room ≡ true → in_range n l t room ≡ true
  unfolding packs
  packs_range e = (and_parts (in_range n l t room) (leb (sum (lengths n l table)) t) e).0

module _ {X : Type 0} (area : List X) (table : List ℕ) (n l t : ℕ) where
  pub pack_many : length (in_pack area table n l t).strings ≡ cond (packs table n l t (length area)) n 0
  unfolding in_pack
  pack_many = shown_many (λ m. m) area table n l t (packs table n l t (length area))

  pub pack_limits : limits (in_pack area table n l t) ≡ cond (packs table n l t (length area)) (record { names = n; longest = l; most = t }) (limits {X = X} nothing)
  unfolding in_pack
  pack_limits = shown_limits (λ m. m) area table n l t (packs table n l t (length area))

  -- a store whose table is all zeros is new
  pub pack_new : table ≡ replicate 64 0 → in_pack area table n l t ≡ new_names n l t (length area)
  unfolding in_pack new_names
  pack_new e =
      let zeros = ap (lengths n l) e ∙ lengths_zeros n l 64 in
      let strings = ap (λ z. parts (λ m. m) z area) zeros ∙ parts_zeros (λ m. m) n area in
      let none = ap sum zeros ∙ zeros_sum n in
      let test : packs table n l t (length area) ≡ in_range n l t (length area) =
      ⊎_elim (λ y. packs_all table n l t (length area) y (omega arith) ∙ sym y) (λ y. packs_unfit table n l t (length area) y ∙ sym y) (cases_Bool (in_range n l t (length area))) in
      (λ j. cond (test j) (record { strings = strings j; longest = l; most = t }) nothing)

-- what is known where a number is accepted
pub record Inside {X : Type 0} (s : PackedStore X) (k : ℕ) : Type 0 where
  pub test : in_range s.limits.names s.limits.longest s.limits.most (length s.area.now) ≡ true
  pub ranges : InRange s.limits.names s.limits.longest s.limits.most (length s.area.now)
  pub full : sum (lengths s.limits.names s.limits.longest s.lengths) ≤ s.limits.most
  pub low : 1 ≤ k
  pub high : k ≤ s.limits.names
  pub is : packed_names s ≡ laid (λ m. m) s.area.now s.lengths s.limits.names s.limits.longest s.limits.most

module _ {X : Type 0} (s : PackedStore X) (k : ℕ) (ok : number_refusal (packed_names s) k ≡ None) where
  pub pack_inside : Inside s k
  unfolding in_pack
  pack_inside =
      let b = packs s.lengths s.limits.names s.limits.longest s.limits.most (length s.area.now) in
      let i = shown_is (λ m. m) s.area.now s.lengths s.limits.names s.limits.longest s.limits.most b k ok in
      let p = packs_parts s.lengths s.limits.names s.limits.longest s.limits.most (length s.area.now) i.0 in
      record {
        test = packs_range s.lengths s.limits.names s.limits.longest s.limits.most (length s.area.now) i.0;
        ranges = p.0;
        full = p.1;
        low = i.1;
        high = i.2;
        is = cond-true b _ nothing i.0;
      }

  -- the string of number k, behind those before it
  pub pack_found : (part : Part) → part.start ≡ sum (lengths (k - 1) s.limits.longest s.lengths) → part.length ≡ min (get_or s.lengths (k - 1) 0) s.limits.longest → Packed s k part
  pack_found part es el =
      let i = pack_inside in
      let low = i.low in let high = i.high in let full = i.full in let fits = i.ranges.lies in
      let ns = lengths s.limits.names s.limits.longest s.lengths in
      let lt : k - 1 < s.limits.names = omega arith in
      let front : sum (take (k - 1) ns) ≡ part.start = ap sum (lengths_take s.limits.names (k - 1) s.limits.longest s.lengths (omega arith)) ∙ sym es in
      let here = lengths_at s.limits.names s.limits.longest s.lengths (k - 1) lt in
      let many = length_lengths s.limits.names s.limits.longest s.lengths in
      let within : part.start + part.length ≤ sum ns = omega (arith, string_within ns (k - 1) (omega arith)) in
      let string = ap (λ z. under z k) i.is ∙ laid_under (λ m. m) s.area.now s.lengths s.limits.names s.limits.longest s.limits.most k low high ∙ (λ j. take (sym el j) (drop (front j) s.area.now)) in
      record {
        lies = record { accepts = ok; within = omega arith; string = string };
        starts = es;
        lasts = el;
        within = within;
        full = full;
        fits = fits;
        some = low;
        high = high;
        few = i.ranges.few;
        short = i.ranges.short;
      }

  module _ (part : Part) (found : Packed s k part) (string : List X) where
    -- all strings together, once this one is replaced
    put_size : size (set (packed_names s).strings (k - 1) string) + part.length ≡ sum (lengths s.limits.names s.limits.longest s.lengths) + length string
    put_size =
        let i = pack_inside in
        let low = i.low in let high = i.high in let full = i.full in let fits = i.ranges.lies in
        let is = i.is in
        let many : length (packed_names s).strings ≡ s.limits.names = ap (λ z. length z.strings) is ∙ laid_many (λ m. m) s.area.now s.lengths s.limits.names s.limits.longest s.limits.most in
        let e = size_set (packed_names s).strings (k - 1) string (omega arith) in
        let len = lies_length (packed_names s) s.area.now k part found.lies in
        let here = ap length (under_is (packed_names s) k low) in
        let all : size (packed_names s).strings ≡ sum (lengths s.limits.names s.limits.longest s.lengths) = ap (λ z. size z.strings) is ∙ parts_size (lengths s.limits.names s.limits.longest s.lengths) s.area.now (omega arith) in
        omega arith

    pub pack_over : (end : ℕ) → end ≡ sum (lengths s.limits.names s.limits.longest s.lengths) → s.limits.most - (end - part.length) < length string → put_refusal (packed_names s) k string ≡ Some TooLong
    pack_over end ee h =
        let z = put_size in
        let within = found.within in let full = found.full in
        let most : (packed_names s).most ≡ s.limits.most = ap (λ z. z.most) pack_inside.is in
        put_over (packed_names s) k ok string (omega arith)

    pub pack_takes : (end : ℕ) → end ≡ sum (lengths s.limits.names s.limits.longest s.lengths) → length string ≤ s.limits.longest → length string ≤ s.limits.most - (end - part.length) → put_refusal (packed_names s) k string ≡ None
    pack_takes end ee le h =
        let z = put_size in
        let within = found.within in let full = found.full in
        let most : (packed_names s).most ≡ s.limits.most = ap (λ z. z.most) pack_inside.is in
        let longest : (packed_names s).longest ≡ s.limits.longest = ap (λ z. z.longest) pack_inside.is in
        put_fits (packed_names s) k ok string (omega arith) (omega arith)

    -- what is left by the shift, the string written into its place and its length into the table
    pub pack_leaves : (shifted area' : List X) (table' : List ℕ) (end : ℕ) → end ≡ sum (lengths s.limits.names s.limits.longest s.lengths) → length string ≤ s.limits.longest → length string ≤ s.limits.most - (end - part.length) → 64 ≤ length s.lengths
        → length shifted ≡ length s.area.now
        → ((j : ℕ) (d : X) → j < part.start → get_or shifted j d ≡ get_or s.area.now j d)
        → ((j : ℕ) (d : X) → j < end - part.start - part.length → get_or shifted (part.start + length string + j) d ≡ get_or s.area.now (part.start + part.length + j) d)
        → area' ≡ written part.start string shifted → table' ≡ set s.lengths (k - 1) (length string)
        → in_pack area' table' s.limits.names s.limits.longest s.limits.most ≡ with_string (packed_names s) k string
    unfolding in_pack with_string
    pack_leaves shifted area' table' end ee le room long same before behind ea et =
        let i = pack_inside in
        let low = i.low in let high = i.high in let few = i.ranges.few in let fits = i.ranges.lies in
        let within = found.within in let full = found.full in let es = found.starts in let el = found.lasts in
        let ns = lengths s.limits.names s.limits.longest s.lengths in
        let lt : k - 1 < s.limits.names = omega arith in
        let lt' : k - 1 < length ns = omega (arith, length_lengths s.limits.names s.limits.longest s.lengths) in
        let set_is : lengths s.limits.names s.limits.longest table' ≡ set ns (k - 1) (length string) = ap (lengths s.limits.names s.limits.longest) et ∙ lengths_set s.limits.names s.limits.longest s.lengths (k - 1) (length string) lt (omega arith) le in
        let front = ap sum (lengths_take s.limits.names (k - 1) s.limits.longest s.lengths (omega arith)) in
        let here = lengths_at s.limits.names s.limits.longest s.lengths (k - 1) lt in
        let put = parts_shifted s.area.now shifted ns (k - 1) part.start part.length end string lt' (omega arith) (omega arith) (es ∙ sym front) (el ∙ sym here) ee same before behind in
        let strings : parts (λ m. m) (lengths s.limits.names s.limits.longest table') area' ≡ set (parts (λ m. m) ns s.area.now) (k - 1) string = (λ j. parts (λ m. m) (set_is j) (ea j)) ∙ put in
        let keeps : length area' ≡ length s.area.now = ap length ea ∙ length_written part.start string shifted (omega arith) ∙ same in
        let total = sum_by-set (λ m. m) ns (k - 1) (length string) 0 lt' in
        let total' : sum (lengths s.limits.names s.limits.longest table') ≡ sum (set ns (k - 1) (length string)) = ap sum set_is in
        let test : packs table' s.limits.names s.limits.longest s.limits.most (length area') ≡ true = packs_all table' s.limits.names s.limits.longest s.limits.most (length area') (ap (in_range s.limits.names s.limits.longest s.limits.most) keeps ∙ i.test) (omega arith) in
        let again : Names X → Names X = λ z. record { strings = set z.strings (k - 1) string; longest = z.longest; most = z.most } in
        cond-true _ _ _ test
        ∙ (λ j. record { strings = strings j; longest = s.limits.longest; most = s.limits.most })
        ∙ ap again (sym i.is)
