-- Reading a text and writing its symbols are inverse to each other, and a fault is where it is said to be.
use Rattle.std.proofs.Common.{◌≡◌, ℕ, zero, suc, ◌+◌, ◌*◌, ◌/◌, ◌%◌, ◌≤◌, Bool, true, false, cond, eqb, List, [], ◌∷◌, ◌++◌, length, take, drop, Some, None, Ok, Err, Option, Result, sym, refl, ap, ◌∙◌, subst, suc-mul, div-add-mod', mul-div_cancel, arith, drop-drop, take-add}
use native.Mathlib.Nat.{mul-mod_left}
use Rattle.std.proofs.lemmas.List.{length-append, length-drop, take-append-drop, take_at, drop_at, nil_from_length, flat_map_more}
use Rattle.std.proofs.lemmas.Bool.{eqb-false}
use Rattle.std.specs.List.{flat_map}
use Rattle.symbols.specs.Texts.{before, symbols_from, text_read, Faulty, Tells}
use Rattle.symbols.specs.declared.fault.SymbolFault.TheVariants.{NotWhole, NoMeaning}
use Rattle.symbols.specs.declared.fault.TextFault.{TextFault}
use Rattle.symbols.proofs.TextLaws.{before_ok, read_whole, whole_read}

-- the first fault stands at the first symbol or behind it
before_err : {X : Type 0} (at : ℕ) (o : Option X) (r : Result (List X) TextFault) (f : TextFault) (P : Type 0) → before at o r ≡ Err f → (o ≡ None → f ≡ record { fault = NoMeaning; at = at } → P) → ((x : X) → o ≡ Some x → r ≡ Err f → P) → P
before_err at None r f P h here there = here refl (let q : ◌≡◌ {A = TextFault} (record { fault = NoMeaning; at = at }) f = cc in sym q)
before_err at (Some x) (Ok ys) f P h here there = let z : ◌≡◌ {A = ℕ} 0 1 = cc in absurd (omega arith)
before_err at (Some x) (Err e) f P h here there = there x refl (let q : e ≡ f = cc in ap Err q)

cut_err : {X : Type 0} (b : Bool) (r : Result (List X) TextFault) (e f : TextFault) (P : Type 0) → cond b r (Err e) ≡ Err f → (b ≡ true → r ≡ Err f → P) → (b ≡ false → f ≡ e → P) → P
cut_err true r e f P h whole odd = whole refl h
cut_err false r e f P h whole odd = odd refl (let q : e ≡ f = cc in sym q)

module _ {X : Type 0} (chars : X → List ℕ) (meant : List ℕ → Option X) (w : ℕ) (some : 1 ≤ w) (wide : (x : X) → length (chars x) ≡ w) (back : (x : X) → meant (chars x) ≡ Some x) (means : (s : List ℕ) (x : X) → meant s ≡ Some x → chars x ≡ s) where
  -- symbols that were read write the text
  writes : (k at : ℕ) (s : List ℕ) (xs : List X) → length s ≡ k * w → symbols_from meant w k at s ≡ Ok xs → flat_map chars xs ≡ s
  unfolding symbols_from
  writes zero at s xs n h = let e : [] ≡ xs = cc in ap (flat_map chars) (sym e) ∙ sym (nil_from_length s (omega arith))
  writes (suc k) at s xs n h =
      let b = before_ok at (meant (take w s)) (symbols_from meant w k (at + w) (drop w s)) xs h in
      let m : length (drop w s) ≡ k * w = simp length-drop (omega (arith, suc-mul k w)) in
      ap (flat_map chars) b.4 ∙ ap (λ t. t ++ flat_map chars b.1) (means (take w s) b.0 b.2) ∙ ap (λ t. take w s ++ t) (writes k (at + w) (drop w s) b.1 m b.3) ∙ take-append-drop w s

  pub many : (xs : List X) → length (flat_map chars xs) ≡ length xs * w
  many [] = omega arith
  many (x ∷ xs) = omega (arith, length-append (chars x) (flat_map chars xs), wide x, many xs, suc-mul (length xs) w)

  -- the characters that symbols write are read as them
  reads : (at : ℕ) (xs : List X) → symbols_from meant w (length xs) at (flat_map chars xs) ≡ Ok xs
  unfolding symbols_from
  reads at [] = refl
  reads at (x ∷ xs) = rw (take_at (chars x) (flat_map chars xs) w (wide x), drop_at (chars x) (flat_map chars xs) w (wide x), back x, reads (at + w) xs)

  -- what stands before the first fault is written by symbols, and no symbol is written there
  faults : (k at : ℕ) (s : List ℕ) (xs : List X) (f : TextFault) → flat_map chars xs ≡ take at s → symbols_from meant w k at (drop at s) ≡ Err f → Faulty chars w s f.fault f.at
  unfolding symbols_from
  faults zero at s xs f j h = let z : ◌≡◌ {A = ℕ} 0 1 = cc in absurd (omega arith)
  faults (suc k) at s xs f j h =
      before_err at (meant (take w (drop at s))) (symbols_from meant w k (at + w) (drop w (drop at s))) f (Faulty chars w s f.fault f.at) h
      (λ none e. subst (λ (t : TextFault). Faulty chars w s t.fault t.at) (sym e) (xs, j, λ x q. let r = back x in let m = ap meant q in let z : ◌≡◌ {A = ℕ} 0 1 = cc in omega arith))
      (λ x here r. faults k (at + w) s (xs ++ x ∷ []) f
      (sym (flat_map_more chars [] xs x) ∙ ap (λ t. t ++ chars x) j ∙ ap (λ t. take at s ++ t) (means (take w (drop at s)) x here) ∙ sym (take-add at w s))
      (ap (symbols_from meant w k (at + w)) (sym (drop-drop w at s)) ∙ r))

  pub tells_all : (s : List ℕ) → Tells chars w s (text_read meant w s)
  unfolding text_read
  tells_all s = record {
    written = λ xs h.
        let r = whole_read meant w s xs h in
        writes (length s / w) 0 s xs (omega (arith, div-add-mod' (length s) w, r.0)) r.1;
    read = λ xs e.
        let n = many xs in
        let l : length s ≡ length xs * w = ap length (sym e) ∙ n in
        let p = div_mul xs s l in
        read_whole meant w s p.0 ∙ ap (λ k. symbols_from meant w k 0 s) p.1 ∙ ap (symbols_from meant w (length xs) 0) (sym e) ∙ reads 0 xs;
    faulty = λ f h.
        cut_err (eqb (length s % w) 0) (symbols_from meant w (length s / w) 0 s) (record { fault = NotWhole; at = 0 }) f (Faulty chars w s f.fault f.at) h
        (λ _ r. faults (length s / w) 0 s [] f refl r)
        (λ odd e. subst (λ (t : TextFault). Faulty chars w s t.fault t.at) (sym e) (refl, eqb-false _ _ odd));
  }
    where
      div_mul : (xs : List X) (s : List ℕ) → length s ≡ length xs * w → (length s % w ≡ 0) × (length s / w ≡ length xs)
      div_mul xs s l = rw l (mul-mod_left (length xs) w, mul-div_cancel (length xs) some)
