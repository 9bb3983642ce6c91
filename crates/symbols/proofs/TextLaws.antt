-- Reading and writing whole texts: one symbol more, and what comes of all of them.
use Rattle.std.proofs.Common.{◌≡◌, ℕ, zero, suc, ◌+◌, ◌*◌, ◌/◌, ◌%◌, ◌<◌, ◌≤◌, Bool, true, false, cond, eqb, ltb, List, [], ◌∷◌, ◌++◌, length, get_or, take, drop, set, Some, None, Ok, Err, Option, Result, sym, refl, ap, ◌∙◌, append_assoc, suc-mul, le-div_iff_mul-le, IsOk, is_ok, div-add-mod', arith, drop-drop, take-add}
use Rattle.std.proofs.lemmas.List.{length-append, length-drop, length-take-le, take_all, take_at, drop_at, drop_more, set_at}
use Rattle.std.proofs.lemmas.Nat.{div-mul-add}
use Rattle.std.proofs.lemmas.Bool.{cond-true, cond-false, eq-eqb, ne_eqb, eqb-true, lt-ltb, le-ltb}
use Rattle.std.specs.Option.{option_map}
use Rattle.symbols.specs.Answers.{over}
use Rattle.symbols.specs.Kinds.{read_as}
use Rattle.symbols.specs.Texts.{before, symbols_from, text_read, counted, symbols_in, text_refusal}
use Rattle.symbols.specs.declared.fault.SymbolFault.{SymbolFault}
use Rattle.symbols.specs.declared.fault.SymbolFault.TheVariants.{NotWhole, NoMeaning}
use Rattle.symbols.specs.declared.fault.AreaRefusal.TheVariants.{ShortArea}
use Rattle.symbols.specs.declared.fault.TextFault.{TextFault}
use Rattle.symbols.specs.declared.fault.TextRefusal.TheVariants.{Fault, Area}

-- what reading one symbol says of its characters
pub read_none : {X : Type 0} (o : Option X) (f : SymbolFault) → Err f ≡ read_as o → (o ≡ None) × (f ≡ NoMeaning)
read_none None f h = (refl, cc)
read_none (Some x) f h = let z : ◌≡◌ {A = ℕ} 0 1 = cc in absurd (omega arith)

pub read_some : {X : Type 0} (o : Option X) (x : X) → Ok x ≡ read_as o → o ≡ Some x
read_some None x h = let z : ◌≡◌ {A = ℕ} 0 1 = cc in absurd (omega arith)
read_some (Some y) x h = cc

-- i symbols before those that were counted
abbrev pub ahead : ℕ → Result ℕ TextFault → Result ℕ TextFault
ahead i (Ok n) = Ok (i + n)
ahead i (Err f) = Err f

ahead_none : (r : Result ℕ TextFault) → ahead 0 r ≡ r
ahead_none (Ok n) = let z : 0 + n ≡ n = omega arith in ap Ok z
ahead_none (Err f) = refl

counted_more : {X : Type 0} (i at : ℕ) (x : X) (r : Result (List X) TextFault) → ahead i (counted (before at (Some x) r)) ≡ ahead (i + 1) (counted r)
counted_more i at x (Ok xs) = let z : i + suc (length xs) ≡ i + 1 + length xs = omega arith in ap Ok z
counted_more i at x (Err f) = refl

module _ {X : Type 0} (meant : List ℕ → Option X) (w : ℕ) (s : List ℕ) where
  pub read_whole : length s % w ≡ 0 → text_read meant w s ≡ symbols_from meant w (length s / w) 0 s
  unfolding text_read
  read_whole h = cond-true (eqb (length s % w) 0) (symbols_from meant w (length s / w) 0 s) _ (eq-eqb _ _ h)

  pub read_not_whole : (length s % w ≡ 0 → ⊥) → text_read meant w s ≡ Err (record { fault = NotWhole; at = 0 })
  unfolding text_read
  read_not_whole h = cond-false (eqb (length s % w) 0) (symbols_from meant w (length s / w) 0 s) _ (ne_eqb _ _ h)

  pub count_starts : length s % w ≡ 0 → counted (text_read meant w s) ≡ ahead 0 (counted (symbols_from meant w (length s / w) (0 * w) s))
  count_starts h = let z : 0 * w ≡ 0 = omega arith in rw z (ap counted (read_whole h) ∙ sym (ahead_none _))

-- a part of w characters in front of others
module _ {X : Type 0} (meant : List ℕ → Option X) (w : ℕ) (some : 1 ≤ w) where
  pub one_part : (r : ℕ) → (w + r) / w ≡ suc (r / w)
  one_part r =
      let e : w + r ≡ suc (r / w) * w + r % w = omega (arith, div-add-mod' r w, suc-mul (r / w) w) in
      rw e (div-mul-add (suc (r / w)) w (r % w) (omega arith))

  pub one_more : (at : ℕ) (s x t : List ℕ) → s ≡ x ++ t → length x ≡ w → symbols_from meant w (length s / w) at s ≡ before at (meant x) (symbols_from meant w (length t / w) (at + w) t)
  unfolding symbols_from
  one_more at s x t e l =
      let k : length s / w ≡ suc (length t / w) = ap (λ n. n / w) (ap length e ∙ length-append x t ∙ ap (λ n. n + length t) l) ∙ one_part (length t) in
      ap (λ n. symbols_from meant w n at s) k ∙ ap (symbols_from meant w (suc (length t / w)) at) e ∙ rw (take_at x t w l, drop_at x t w l)

  -- i symbols before the part at i
  module _ (i : ℕ) (s x t : List ℕ) (e : s ≡ x ++ t) (l : length x ≡ w) where
    pub count_stops : (f : SymbolFault) → Err f ≡ read_as (meant x) → ahead i (counted (symbols_from meant w (length s / w) (i * w) s)) ≡ Err (record { fault = f; at = i * w })
    count_stops f h =
        let r = read_none _ f h in
        rw (one_more (i * w) s x t e l, r.0, r.1)

    pub count_goes : (y : X) → Ok y ≡ read_as (meant x) → ahead i (counted (symbols_from meant w (length s / w) (i * w) s)) ≡ ahead (i + 1) (counted (symbols_from meant w (length t / w) ((i + 1) * w) t))
    count_goes y h =
        let n : (i + 1) * w ≡ i * w + w = omega (arith, suc-mul i w) in
        rw (one_more (i * w) s x t e l, read_some _ y h, n) (counted_more i (i * w) y _)

  pub count_ends : (i at : ℕ) (s : List ℕ) → length s < w → ahead i (counted (symbols_from meant w (length s / w) at s)) ≡ Ok i
  unfolding symbols_from
  count_ends i at s h =
      let n : 0 * w + length s ≡ length s = omega arith in
      let z : length s / w ≡ 0 = ap (λ k. k / w) (sym n) ∙ div-mul-add 0 w (length s) h in
      let y : i + 0 ≡ i = omega arith in
      rw z (ap Ok y)

-- a first symbol and the others, where all are read
pub before_ok : {X : Type 0} (at : ℕ) (o : Option X) (r : Result (List X) TextFault) (xs : List X) → before at o r ≡ Ok xs → (x : X) × (ys : List X) × (o ≡ Some x) × (r ≡ Ok ys) × (xs ≡ x ∷ ys)
before_ok at None r xs h = let z : ◌≡◌ {A = ℕ} 0 1 = cc in absurd (omega arith)
before_ok at (Some x) (Ok ys) xs h = (x, ys, refl, refl, cc)
before_ok at (Some x) (Err f) xs h = let z : ◌≡◌ {A = ℕ} 0 1 = cc in absurd (omega arith)

-- what was counted was read
pub counted_ok : {X : Type 0} (r : Result (List X) TextFault) (n : ℕ) → counted r ≡ Ok n → (r ≡ Ok (symbols_in r)) × (length (symbols_in r) ≡ n)
counted_ok (Ok xs) n h = (refl, cc)
counted_ok (Err f) n h = let z : ◌≡◌ {A = ℕ} 0 1 = cc in absurd (omega arith)

cut_ok : {X : Type 0} (b : Bool) (r : Result (List X) TextFault) (f : TextFault) (xs : List X) → cond b r (Err f) ≡ Ok xs → (b ≡ true) × (r ≡ Ok xs)
cut_ok true r f xs h = (refl, h)
cut_ok false r f xs h = let z : ◌≡◌ {A = ℕ} 0 1 = cc in absurd (omega arith)

module _ {X : Type 0} (meant : List ℕ → Option X) (w : ℕ) where
  pub many_read : (k at : ℕ) (s : List ℕ) (xs : List X) → symbols_from meant w k at s ≡ Ok xs → length xs ≡ k
  unfolding symbols_from
  many_read zero at s xs h = let e : [] ≡ xs = cc in ap length (sym e)
  many_read (suc k) at s xs h =
      let b = before_ok at (meant (take w s)) (symbols_from meant w k (at + w) (drop w s)) xs h in
      ap length b.4 ∙ ap suc (many_read k (at + w) (drop w s) b.1 b.3)

  pub whole_read : (s : List ℕ) (xs : List X) → text_read meant w s ≡ Ok xs → (length s % w ≡ 0) × (symbols_from meant w (length s / w) 0 s ≡ Ok xs)
  unfolding text_read
  whole_read s xs h = let c = cut_ok (eqb (length s % w) 0) (symbols_from meant w (length s / w) 0 s) _ xs h in (eqb-true _ _ c.0, c.1)

-- a text that is read has its symbols
pub read_ok : {X : Type 0} (r : Result (List X) TextFault) → IsOk r → r ≡ Ok (symbols_in r)
read_ok (Ok xs) h = refl
read_ok (Err f) h = let z : ◌≡◌ {A = ℕ} 0 1 = cc in absurd (omega arith)

-- a text of n characters has a part at i
pub one_inside : (i n w : ℕ) (s x t : List ℕ) → 1 ≤ w → i * w + length s ≡ n → s ≡ x ++ t → length x ≡ w → i < n / w
one_inside i n w s x t some place e l =
    let q : (i + 1) * w ≤ n = omega (arith, suc-mul i w, ap length e, length-append x t) in
    let m : i + 1 ≤ n / w = (le-div_iff_mul-le some).1 q in
    omega arith

-- filling an area with the symbols of a text
module _ {X : Type 0} (meant : List ℕ → Option X) (w : ℕ) (s : List ℕ) (read : IsOk (text_read meant w s)) where
  all_read : symbols_from meant w (length s / w) 0 s ≡ Ok (symbols_in (text_read meant w s))
  all_read = (whole_read meant w s _ (read_ok _ read)).1

  pub fill_starts : symbols_from meant w (length s / w) (0 * w) s ≡ Ok (symbols_in (text_read meant w s))
  fill_starts = let z : 0 * w ≡ 0 = omega arith in rw z all_read

  pub fill_count : length (symbols_in (text_read meant w s)) ≡ length s / w
  fill_count = many_read meant w (length s / w) 0 s _ all_read

-- i of the symbols xs are written, and the part at i is x
module _ {X : Type 0} (meant : List ℕ → Option X) (w : ℕ) (some : 1 ≤ w) (i : ℕ) (s x t : List ℕ) (xs : List X) (e : s ≡ x ++ t) (l : length x ≡ w) (h : symbols_from meant w (length s / w) (i * w) s ≡ Ok (drop i xs)) where
  next_one : (y : X) × (ys : List X) × (meant x ≡ Some y) × (symbols_from meant w (length t / w) (i * w + w) t ≡ Ok ys) × (drop i xs ≡ y ∷ ys)
  next_one = before_ok (i * w) (meant x) (symbols_from meant w (length t / w) (i * w + w) t) (drop i xs) (sym (one_more meant w some (i * w) s x t e l) ∙ h)

  pub fill_reads : IsOk (read_as (meant x))
  fill_reads = ap (λ o. is_ok (read_as o)) next_one.2

  pub fill_goes : (y : X) → Ok y ≡ read_as (meant x) → (symbols_from meant w (length t / w) ((i + 1) * w) t ≡ Ok (drop (i + 1) xs)) × (drop i xs ≡ y ∷ drop (i + 1) xs)
  fill_goes y r =
      let o = read_some _ y r in
      let same : next_one.0 ≡ y = let m = next_one.2 in cc in
      let d : next_one.1 ≡ drop (i + 1) xs = ap (drop 1) (sym next_one.4) ∙ drop-drop 1 i xs in
      let n : (i + 1) * w ≡ i * w + w = omega (arith, suc-mul i w) in
      (rw n (next_one.3 ∙ ap Ok d), next_one.4 ∙ rw (same, d))

-- one symbol more over the front of an area
pub put_next : {X : Type 0} (xs area : List X) (i : ℕ) (x : X) → drop i xs ≡ x ∷ drop (i + 1) xs → i < length area → set (take i xs ++ drop i area) i x ≡ take (i + 1) xs ++ drop (i + 1) area
put_next xs area i x d l =
    let n = ap length d in
    let m = length-drop i xs in
    let f : length (take i xs) ≡ i = length-take-le i xs (omega arith) in
    let t : take (i + 1) xs ≡ take i xs ++ x ∷ [] = take-add i 1 xs ∙ ap (λ u. take i xs ++ take 1 u) d in
    rw (drop_more area i x l, set_at (take i xs) (get_or area i x) (drop (i + 1) area) x i f, t, append_assoc)

pub all_filled : {X : Type 0} (xs area : List X) (i : ℕ) → length xs ≡ i → take i xs ++ drop i area ≡ over xs area
all_filled xs area i e = rw (take_all i xs (omega arith), e)

-- why a text is refused, from what was counted in it
pub refused_fault : {X : Type 0} (r : Result (List X) TextFault) (f : TextFault) (room : ℕ) → counted r ≡ Err f → text_refusal r room ≡ Some (Fault f)
refused_fault (Ok xs) f room h = let z : ◌≡◌ {A = ℕ} 0 1 = cc in absurd (omega arith)
refused_fault (Err e) f room h = let q : e ≡ f = cc in ap (λ t. Some (Fault t)) q

pub refused_area : {X : Type 0} (r : Result (List X) TextFault) (n room : ℕ) → counted r ≡ Ok n → room < n → text_refusal r room ≡ Some (Area ShortArea)
refused_area (Ok xs) n room h l = let q : length xs ≡ n = cc in ap (option_map Area) (cond-true (ltb room (length xs)) (Some ShortArea) None (lt-ltb _ _ (omega arith)))
refused_area (Err e) n room h l = let z : ◌≡◌ {A = ℕ} 0 1 = cc in absurd (omega arith)

pub not_refused : {X : Type 0} (r : Result (List X) TextFault) (n room : ℕ) → counted r ≡ Ok n → n ≤ room → text_refusal r room ≡ None
not_refused (Ok xs) n room h l = let q : length xs ≡ n = cc in ap (option_map Area) (cond-false (ltb room (length xs)) (Some ShortArea) None (le-ltb _ _ (omega arith)))
not_refused (Err e) n room h l = let z : ◌≡◌ {A = ℕ} 0 1 = cc in absurd (omega arith)
