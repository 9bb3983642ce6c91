-- What lies behind a string is shifted, and the string takes its place. Assumes nothing.
use Rattle.std.proofs.Common.{◌≡◌, ℕ, suc, ◌+◌, ◌-◌, ◌<◌, ◌≤◌, List, [], ◌∷◌, ◌++◌, length, get_or, take, drop, set, sum, sym, refl, ap, ◌∙◌, zero-add, add-one, arith}
use Rattle.std.proofs.lemmas.List.Sums.{sum_by-cons, sum_by-take-drop, sum_by-drop_more}
use Rattle.std.proofs.lemmas.List.{drop-take, take-take, length-take-le, length-take, length-drop, same_lists, get_or-take, get_or-drop, get_or_append_left, get_or-append_right}
use Rattle.stores.specs.Parts.{parts, written}
use Rattle.stores.proofs.Writes.{written_take, written_there, written_drop, parts_put}

-- packed strings hang on what they fill alone
parts_front : {X : Type 0} (ns : List ℕ) (a b : List X) → take (sum ns) a ≡ take (sum ns) b → parts (λ m. m) ns a ≡ parts (λ m. m) ns b
parts_front [] a b h = refl
parts_front (n ∷ ns) a b h =
    let all : sum (n ∷ ns) ≡ n + sum ns = sum_by-cons (λ m. m) n ns in
    let le : n ≤ sum (n ∷ ns) = omega arith in
    let first : take n a ≡ take n b = sym (take-take n (sum (n ∷ ns)) a le) ∙ ap (take n) h ∙ take-take n (sum (n ∷ ns)) b le in
    let front : take (n + sum ns) a ≡ take (n + sum ns) b = cc in
    let rest : take (sum ns) (drop n a) ≡ take (sum ns) (drop n b) = sym (drop-take n (sum ns) a) ∙ ap (drop n) front ∙ drop-take n (sum ns) b in
    let others = parts_front ns (drop n a) (drop n b) rest in
    cc

-- two areas with the same symbols from p and from q on
parts_same : {X : Type 0} (xs ys : List X) (p q m : ℕ) → p + m ≤ length xs → q + m ≤ length ys
    → ((j : ℕ) (d : X) → j < m → get_or xs (p + j) d ≡ get_or ys (q + j) d) → take m (drop p xs) ≡ take m (drop q ys)
parts_same xs ys p q m hp hq h =
    let lx : length (take m (drop p xs)) ≡ m = simp (length-take, length-drop) (omega arith) in
    let ly : length (take m (drop q ys)) ≡ m = simp (length-take, length-drop) (omega arith) in
    same_lists (take m (drop p xs)) (take m (drop q ys)) (lx ∙ sym ly) (λ j d l.
    let jm : j < m = omega arith in
    get_or-take m (drop p xs) j d jm ∙ get_or-drop p xs j d ∙ h j d jm ∙ sym (get_or-drop q ys j d) ∙ sym (get_or-take m (drop q ys) j d jm))

-- a string ends where all strings do, or before
pub string_within : (ns : List ℕ) (i : ℕ) → i < length ns → sum (take i ns) + get_or ns i 0 ≤ sum ns
string_within ns i h =
    let split : sum (take i ns) + sum (drop i ns) ≡ sum ns = sum_by-take-drop (λ m. m) ns i in
    let more : sum (drop i ns) ≡ get_or ns i 0 + sum (drop (i + 1) ns) = sum_by-drop_more (λ m. m) ns i 0 h in
    omega arith

-- the strings once one is replaced: `shifted` is the area after the shift, before the string is written
pub parts_shifted : {X : Type 0} (area shifted : List X) (ns : List ℕ) (i start old end : ℕ) (s : List X)
    → i < length ns → sum ns ≤ length area → sum ns + length s ≤ length area + old
    → start ≡ sum (take i ns) → old ≡ get_or ns i 0 → end ≡ sum ns → length shifted ≡ length area
    → ((j : ℕ) (d : X) → j < start → get_or shifted j d ≡ get_or area j d)
    → ((j : ℕ) (d : X) → j < end - start - old → get_or shifted (start + length s + j) d ≡ get_or area (start + old + j) d)
    → parts (λ m. m) (set ns i (length s)) (written start s shifted) ≡ set (parts (λ m. m) ns area) i s
parts_shifted area shifted ns i start old end s hi ha hr ea eo ee same before behind =
    let split : sum (take i ns) + sum (drop i ns) ≡ sum ns = sum_by-take-drop (λ m. m) ns i in
    let more : sum (drop i ns) ≡ get_or ns i 0 + sum (drop (i + 1) ns) = sum_by-drop_more (λ m. m) ns i 0 hi in
    let one : sum (drop (i + 1) ns) ≡ sum (drop (suc i) ns) = ap (λ n. sum (drop n ns)) (add-one i) in
    let total : start + old + sum (drop (suc i) ns) ≡ sum ns = omega arith in
    let room : start + length s ≤ length shifted = omega arith in
    let front : take start (written start s shifted) ≡ take start area =
    written_take start s shifted start (omega arith) (omega arith) ∙ parts_same shifted area 0 0 start (omega arith) (omega arith) (λ j d l. simp zero-add (before j d l)) in
    let tail : take (sum (drop (suc i) ns)) (drop (start + length s) (written start s shifted)) ≡ take (sum (drop (suc i) ns)) (drop (start + old) area) =
    ap (take (sum (drop (suc i) ns))) (written_drop start s shifted (start + length s) (omega arith) (omega arith))
    ∙ parts_same shifted area (start + length s) (start + old) (sum (drop (suc i) ns)) (omega arith) (omega arith) (λ j d l. behind j d (omega arith)) in
    let rest = parts_front (drop (suc i) ns) (drop (start + length s) (written start s shifted)) (drop (start + old) area) tail in
    let rest' : parts (λ m. m) (drop (suc i) ns) (drop (start + length s) (written start s shifted)) ≡ parts (λ m. m) (drop (suc i) ns) (drop (start + get_or ns i 0) area) = cc in
    parts_put (λ m. m) ns i start s area (written start s shifted) hi ea (λ j. let le : get_or ns j 0 ≤ get_or ns j 0 = omega arith in le) front (written_there start s shifted (omega arith)) rest'

-- an area whose part from a on was turned
pub before_part : {X : Type 0} (a : ℕ) (xs rest : List X) (j : ℕ) (d : X) → a ≤ length xs → j < a → get_or (take a xs ++ rest) j d ≡ get_or xs j d
before_part a xs rest j d h l =
    let long = length-take-le a xs h in
    get_or_append_left (take a xs) rest d j (omega arith) ∙ get_or-take a xs j d l

in_part : {X : Type 0} (a : ℕ) (xs ys post : List X) (i j : ℕ) (d : X) → a ≤ length xs → i ≡ a + j → j < length ys → get_or (take a xs ++ (ys ++ post)) i d ≡ get_or ys j d
in_part a xs ys post i j d h e l =
    let long = length-take-le a xs h in
    let ij : i - a ≡ j = omega arith in
    get_or-append_right (take a xs) (ys ++ post) a i d long (omega arith) ∙ ap (λ n. get_or (ys ++ post) n d) ij ∙ get_or_append_left ys post d j l

part_at : {X : Type 0} (xs : List X) (a n i j : ℕ) (d : X) → j < n → i ≡ a + j → get_or (take n (drop a xs)) j d ≡ get_or xs i d
part_at xs a n i j d h e = get_or-take n (drop a xs) j d h ∙ get_or-drop a xs j d ∙ ap (λ k. get_or xs k d) (sym e)

-- what lay behind the old part lies `g` symbols to the right, and to the left
pub turned_right : {X : Type 0} (xs ys post : List X) (at old end new j n g : ℕ) (d : X) → at + old ≤ end → end ≤ length xs → end + new ≤ length xs + old → old ≤ new → j < end - at - old
    → g ≡ new - old → n ≡ end + g - at → length ys ≡ n
    → ((i : ℕ) (d : X) → g ≤ i → i < length (take n (drop at xs)) → get_or ys i d ≡ get_or (take n (drop at xs)) (i - g) d)
    → get_or (take at xs ++ (ys ++ post)) (at + new + j) d ≡ get_or xs (at + old + j) d
turned_right xs ys post at old end new j n g d h1 h2 h3 h4 h5 eg en ly p =
    let lp : length (take n (drop at xs)) ≡ n = simp (length-take, length-drop) (omega arith) in
    let e : new + j - g ≡ old + j = omega arith in
    in_part at xs ys post (at + new + j) (new + j) d (omega arith) (omega arith) (omega arith)
    ∙ p (new + j) d (omega arith) (omega arith) ∙ ap (λ i. get_or (take n (drop at xs)) i d) e
    ∙ part_at xs at n (at + old + j) (old + j) d (omega arith) (omega arith)

pub turned_left : {X : Type 0} (xs ys post : List X) (at old end new j n g : ℕ) (d : X) → at + old ≤ end → end ≤ length xs → new ≤ old → j < end - at - old
    → g ≡ old - new → n ≡ end - at → length ys ≡ n
    → ((i : ℕ) (d : X) → i + g < length (take n (drop at xs)) → get_or ys i d ≡ get_or (take n (drop at xs)) (i + g) d)
    → get_or (take at xs ++ (ys ++ post)) (at + new + j) d ≡ get_or xs (at + old + j) d
turned_left xs ys post at old end new j n g d h1 h2 h4 h5 eg en ly p =
    let lp : length (take n (drop at xs)) ≡ n = simp (length-take, length-drop) (omega arith) in
    let e : new + j + g ≡ old + j = omega arith in
    in_part at xs ys post (at + new + j) (new + j) d (omega arith) (omega arith) (omega arith)
    ∙ p (new + j) d (omega arith) ∙ ap (λ i. get_or (take n (drop at xs)) i d) e
    ∙ part_at xs at n (at + old + j) (old + j) d (omega arith) (omega arith)
