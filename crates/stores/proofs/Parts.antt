-- The lengths of a table and the strings that lie by them. Assumes nothing.
use Rattle.std.proofs.Common.{◌≡◌, ℕ, zero, suc, ◌<◌, ◌≤◌, min, List, [], ◌∷◌, length, get_or, take, drop, set, replicate, sum_by, sym, refl, ap, ◌∙◌, arith}
use Rattle.std.proofs.lemmas.List.{length-take, length-take-le, length-drop, drop-drop}
use Rattle.std.proofs.lemmas.List.Sums.{sum_by-cons}
use Rattle.stores.specs.declared.part.Part.{Part}
use Rattle.stores.specs.Names.{Names, under}
use Rattle.stores.specs.Parts.{lengths, parts, Lies}

pub length_lengths : (n l : ℕ) (table : List ℕ) → length (lengths n l table) ≡ n
length_lengths zero l table = refl
length_lengths (suc n) l [] = ap suc (length_lengths n l [])
length_lengths (suc n) l (x ∷ table) = ap suc (length_lengths n l table)

pub lengths_le : (n l : ℕ) (table : List ℕ) (k : ℕ) → get_or (lengths n l table) k 0 ≤ l
lengths_le zero l table k = omega arith
lengths_le (suc n) l [] zero = omega arith
lengths_le (suc n) l [] (suc k) = lengths_le n l [] k
lengths_le (suc n) l (x ∷ table) zero = omega arith
lengths_le (suc n) l (x ∷ table) (suc k) = lengths_le n l table k

pub lengths_at : (n l : ℕ) (table : List ℕ) (k : ℕ) → k < n → get_or (lengths n l table) k 0 ≡ min (get_or table k 0) l
lengths_at zero l table k h = absurd (omega arith)
lengths_at (suc n) l [] zero h = omega arith
lengths_at (suc n) l [] (suc k) h = lengths_at n l [] k (omega arith)
lengths_at (suc n) l (x ∷ table) zero h = refl
lengths_at (suc n) l (x ∷ table) (suc k) h = lengths_at n l table k (omega arith)

pub lengths_set : (n l : ℕ) (table : List ℕ) (k m : ℕ) → k < n → k < length table → m ≤ l → lengths n l (set table k m) ≡ set (lengths n l table) k m
lengths_set zero l table k m h h' le = absurd (omega arith)
lengths_set (suc n) l [] k m h h' le = absurd (omega arith)
lengths_set (suc n) l (x ∷ table) zero m h h' le = let e : min m l ≡ m = omega arith in ap (λ z. z ∷ lengths n l table) e
lengths_set (suc n) l (x ∷ table) (suc k) m h h' le = ap (λ z. min x l ∷ z) (lengths_set n l table k m (omega arith) (omega arith) le)

pub lengths_zeros : (n l m : ℕ) → lengths n l (replicate m 0) ≡ replicate n 0
lengths_zeros zero l m = refl
lengths_zeros (suc n) l zero = ap (λ z. 0 ∷ z) (lengths_zeros n l zero)
lengths_zeros (suc n) l (suc m) = let e : min 0 l ≡ 0 = omega arith in ap (λ z. z ∷ lengths n l (replicate m 0)) e ∙ ap (λ z. 0 ∷ z) (lengths_zeros n l m)

module _ {X : Type 0} (width : ℕ → ℕ) where
  pub length_parts : (ns : List ℕ) (area : List X) → length (parts width ns area) ≡ length ns
  length_parts [] area = refl
  length_parts (n ∷ ns) area = ap suc (length_parts ns (drop (width n) area))

  pub parts_short : (l : ℕ) (ns : List ℕ) (area : List X) → ((k : ℕ) → get_or ns k 0 ≤ l) → (k : ℕ) → length (get_or (parts width ns area) k []) ≤ l
  parts_short l [] area h k = omega arith
  parts_short l (n ∷ ns) area h zero = let a = h 0 in omega (arith, length-take n area)
  parts_short l (n ∷ ns) area h (suc k) = parts_short l ns (drop (width n) area) (λ j. h (suc j)) k

  -- a string begins behind what the strings before it take up
  pub parts_at : (ns : List ℕ) (area : List X) (k : ℕ) → k < length ns → get_or (parts width ns area) k [] ≡ take (get_or ns k 0) (drop (sum_by width (take k ns)) area)
  parts_at [] area k h = absurd (omega arith)
  parts_at (n ∷ ns) area zero h = refl
  parts_at (n ∷ ns) area (suc k) h =
      parts_at ns (drop (width n) area) k (omega arith)
      ∙ ap (take (get_or ns k 0)) (drop-drop (sum_by width (take k ns)) (width n) area ∙ ap (λ j. drop j area) (sym (sum_by-cons width n (take k ns))))

  pub parts_zeros : (n : ℕ) (area : List X) → parts width (replicate n 0) area ≡ replicate n []
  parts_zeros zero area = refl
  parts_zeros (suc n) area = ap (λ z. [] ∷ z) (parts_zeros n (drop (width 0) area))

-- a part that is a string has its length
pub lies_length : {X : Type 0} (names : Names X) (area : List X) (k : ℕ) (part : Part) → Lies names area k part → length (under names k) ≡ part.length
lies_length names area k part lies =
    let within = lies.within in
    ap length lies.string ∙ length-take-le part.length (drop part.start area) (simp length-drop (omega arith))
