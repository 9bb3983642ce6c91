-- Where the symbol fault of a literal can be. Assumes nothing.
use Rattle.std.proofs.Common.{◌≡◌, ℕ, zero, suc, ◌+◌, ◌*◌, ◌/◌, ◌%◌, ◌≤◌, Bool, true, false, cond, eqb, List, [], ◌∷◌, length, take, drop, Some, None, Ok, Err, Option, Result, sym, refl, ap, ◌∙◌, subst, zero-le, le_trans, add-mul, one-mul, div-le_self, div-mul-le_self, add-one, arith, length-take}
use native.Mathlib.Nat.{min-le_left}
use Rattle.symbols.specs.declared.fault.TextFault.{TextFault}
use Rattle.symbols.specs.declared.fault.SymbolFault.TheVariants.{NotWhole}
use Rattle.symbols.specs.Texts.{before, symbols_from, text_read, counted}
use Rattle.sheets.specs.declared.part.Part.{Part}
use Rattle.sheets.specs.Parts.{part_of}
use Rattle.sheets.specs.Tallies.{counts}

no_ok : {X : Type 0} (x : X) (f : TextFault) → ◌≡◌ {A = Result X TextFault} (Ok x) (Err f) → ⊥
no_ok x f e = let z : ◌≡◌ {A = ℕ} 0 1 = cc in omega arith

same_err : {X : Type 0} (f g : TextFault) → ◌≡◌ {A = Result X TextFault} (Err f) (Err g) → f ≡ g
same_err f g e = cc

same_ok : {X : Type 0} (x y : X) → ◌≡◌ {A = Result X TextFault} (Ok x) (Ok y) → x ≡ y
same_ok x y e = cc

module _ {X : Type 0} (meant : List ℕ → Option X) (wide : ℕ) where
  before_at : (at bound : ℕ) (o : Option X) (r : Result (List X) TextFault) (f : TextFault)
      → ((g : TextFault) → r ≡ Err g → g.at ≤ bound) → at ≤ bound → before at o r ≡ Err f → f.at ≤ bound
  before_at at bound None r f h l e =
      subst (λ (g : TextFault). g.at ≤ bound) (same_err {X = List X} (record { fault = _; at = at }) f e) l
  before_at at bound (Some x) (Ok xs) f h l e = absurd (no_ok (x ∷ xs) f e)
  before_at at bound (Some x) (Err g) f h l e = h f e

  from_at : (k at : ℕ) (s : List ℕ) (f : TextFault) → symbols_from meant wide k at s ≡ Err f → f.at ≤ at + k * wide
  unfolding symbols_from
  from_at zero at s f e = absurd (no_ok [] f e)
  from_at (suc k) at s f e =
      let m : suc k * wide ≡ k * wide + wide = ap (λ (n : ℕ). n * wide) (sym (add-one k)) ∙ add-mul k 1 wide ∙ ap (λ (n : ℕ). k * wide + n) (one-mul wide) in
      before_at at (at + suc k * wide) (meant (take wide s)) (symbols_from meant wide k (at + wide) (drop wide s)) f
      (λ g p. let q = from_at k (at + wide) (drop wide s) g p in omega arith) (omega arith) e

  abbrev not_whole : TextFault
  not_whole = record { fault = NotWhole; at = 0 }

  read_at : (s : List ℕ) (f : TextFault) → text_read meant wide s ≡ Err f → f.at ≤ length s
  unfolding text_read
  read_at s f e = go (eqb (length s % wide) 0) e
    where
      go : (b : Bool) → cond b (symbols_from meant wide (length s / wide) 0 s) (Err not_whole) ≡ Err f → f.at ≤ length s
      go true p = let q = from_at (length s / wide) 0 s f p in let d = div-mul-le_self (length s) wide in omega arith
      go false p = subst (λ (g : TextFault). g.at ≤ length s) (same_err {X = List X} not_whole f p) zero-le

  counted_at : (s : List ℕ) (r : Result (List X) TextFault) (f : TextFault) → ((g : TextFault) → r ≡ Err g → g.at ≤ length s)
      → counted r ≡ Err f → f.at ≤ length s
  counted_at s (Ok xs) f h e = absurd (no_ok (length xs) f e)
  counted_at s (Err g) f h e = h f (ap Err (same_err {X = ℕ} g f e))

  -- a symbol fault lies in its part
  pub fault_within : (s : List ℕ) (p : Part) (f : TextFault) → Err f ≡ counted (text_read meant wide (part_of s p)) → f.at ≤ p.size
  unfolding part_of
  fault_within s p f e =
      let c = part_of s p in
      let l : f.at ≤ length c = counted_at c (text_read meant wide c) f (read_at c) (sym e) in
      le_trans l (subst (λ (n : ℕ). n ≤ p.size) (sym (length-take p.size (drop p.start s))) (min-le_left p.size (length (drop p.start s))))

  pub counts_bounded : (c : List ℕ) (f : TextFault) → counts meant wide c ≡ Err f → f.at ≤ length c
  counts_bounded c f e = counted_at c (text_read meant wide c) f (read_at c) e

  -- a text has no more symbols than characters
  from_length : (k at : ℕ) (s : List ℕ) (xs : List X) → symbols_from meant wide k at s ≡ Ok xs → length xs ≡ k
  unfolding symbols_from
  from_length zero at s xs e = ap length (sym (same_ok [] xs e))
  from_length (suc k) at s xs e = go (meant (take wide s)) (symbols_from meant wide k (at + wide) (drop wide s)) (from_length k (at + wide) (drop wide s)) e
    where
      go : (o : Option X) (r : Result (List X) TextFault) → ((ys : List X) → r ≡ Ok ys → length ys ≡ k) → before at o r ≡ Ok xs → length xs ≡ suc k
      go None r h p = absurd (let z : ◌≡◌ {A = ℕ} 0 1 = cc in omega arith)
      go (Some x) (Ok ys) h p = ap length (sym (same_ok (x ∷ ys) xs p)) ∙ ap suc (h ys refl)
      go (Some x) (Err f) h p = absurd (let z : ◌≡◌ {A = ℕ} 0 1 = cc in omega arith)

  counted_short : (c : List ℕ) (r : Result (List X) TextFault) (n : ℕ) → text_read meant wide c ≡ r → counted r ≡ Ok n → n ≤ length c
  unfolding text_read
  counted_short c (Err f) n p e = absurd (let z : ◌≡◌ {A = ℕ} 0 1 = cc in omega arith)
  counted_short c (Ok xs) n p e = go (eqb (length c % wide) 0) p
    where
      m : length xs ≡ n
      m = let z : length xs ≡ n = cc in z

      go : (b : Bool) → cond b (symbols_from meant wide (length c / wide) 0 c) (Err not_whole) ≡ Ok xs → n ≤ length c
      go true q = subst (λ (k : ℕ). k ≤ length c) (sym (from_length (length c / wide) 0 c xs q) ∙ m) (div-le_self (length c) wide)
      go false q = absurd (let z : ◌≡◌ {A = ℕ} 0 1 = cc in omega arith)

  pub counts_short : (s : List ℕ) (p : Part) (n : ℕ) → Ok n ≡ counts meant wide (part_of s p) → n ≤ p.size
  unfolding part_of
  counts_short s p n e =
      le_trans (counted_short (part_of s p) (text_read meant wide (part_of s p)) n refl (sym e))
      (subst (λ (k : ℕ). k ≤ p.size) (sym (length-take p.size (drop p.start s))) (min-le_left p.size (length (drop p.start s))))
