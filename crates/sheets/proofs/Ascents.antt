-- Tokens further right have faults further right, so the first token with a fault has the one that counts. Assumes nothing.
use Rattle.std.proofs.Common.{◌≡◌, ℕ, ◌+◌, ◌-◌, ◌<◌, ◌≤◌, Bool, true, false, cond, ◌&&◌, eqb, ltb, leb, List, [], ◌∷◌, ◌++◌, length, get_or, drop, Some, None, Ok, Err, Option, Result, sym, refl, ap, ◌∙◌, subst, arith, length-take, ltb-true}
use native.Mathlib.Nat.{min-le_left}
use Rattle.std.specs.List.{AllByRecursion}
use Rattle.std.proofs.ByRecursion.{All-append, All-weaker}
use Rattle.std.proofs.lemmas.Bool.Decides.{nat_tests}
use Rattle.lines.specs.declared.token.Token.{Token}
use Rattle.lines.specs.Tokens.{Abut}
use Rattle.symbols.specs.declared.fault.TextFault.{TextFault}
use Rattle.sheets.specs.declared.fault.Cause.{Cause}
use Rattle.sheets.specs.declared.fault.Fault.{Fault}
use Rattle.sheets.specs.declared.part.Part.{Part}
use Rattle.sheets.specs.Faults.{fault, before, least, first}
use Rattle.sheets.specs.Items.{sort_of, opened_by, indirect, word, spelling, brings_name, sort_brings, closed, contents}
use Rattle.sheets.specs.Parts.{part_of, position}
use Rattle.sheets.specs.Tallies.{Count, when, sort_limited, long_name, opened_before, ninth, absent, extra_name, is_literal, sort_literal, literal, literal_faults, token_faults, with_token, faults_from, first_from, or_else}
use Rattle.sheets.proofs.Firsts.{first_append}

-- columns after k, up to e
abbrev Between : ℕ → ℕ → Fault → Type 0
Between k e f = (k < f.column) × (f.column ≤ e)

abbrev After : ℕ → Fault → Type 0
After k f = k < f.column

when_all : (P : Fault → Type 0) (b : Bool) (f : Fault) → (b ≡ true → P f) → AllByRecursion P (when b f)
when_all P true f h = (h refl, tt)
when_all P false f h = tt

and_first : (a b : Bool) → (a && b) ≡ true → a ≡ true
and_first true b e = refl
and_first false b e = e

and_second : (a b : Bool) → (a && b) ≡ true → b ≡ true
and_second true b e = e
and_second false true e = refl
and_second false false e = e

-- a name with at least a character lies in its token
word_start : (s : List ℕ) (t : Token) → 0 < t.size → (t.start ≤ (word s t).start) × ((word s t).start + (word s t).size ≤ t.start + t.size)
word_start s t h = go (indirect s t)
  where
    chosen : Bool → Part
    chosen b = cond b (record { start = t.start + 1; size = t.size - 1 }) (record { start = t.start; size = t.size })

    go : (b : Bool) → (t.start ≤ (chosen b).start) × ((chosen b).start + (chosen b).size ≤ t.start + t.size)
    go true = (omega arith, omega arith)
    go false = (omega arith, omega arith)

part_short : (s : List ℕ) (p : Part) → length (part_of s p) ≤ p.size
unfolding part_of
part_short s p = subst (λ (n : ℕ). n ≤ p.size) (sym (length-take p.size (drop p.start s))) (min-le_left p.size (length (drop p.start s)))

-- the fault that counts of a list has what all have
first_has : (P : Fault → Type 0) (fs : List Fault) → AllByRecursion P fs → (g : Fault) → first fs ≡ Some g → P g
first_has P [] a g e = absurd (let z : ◌≡◌ {A = ℕ} 0 1 = cc in omega arith)
first_has P (f ∷ fs) a g e = go (first_has P fs a.1) (first fs) refl e
  where
    go : ((h : Fault) → first fs ≡ Some h → P h) → (o : Option Fault) → first fs ≡ o → least (Some f) o ≡ Some g → P g
    go kept None p q = subst P (let z : f ≡ g = cc in z) a.0
    go kept (Some h) p q = pick (before h f) q (kept h p)
      where
        pick : (b : Bool) → cond b (Some h) (Some f) ≡ Some g → P h → P g
        pick true r k = subst P (let z : h ≡ g = cc in z) k
        pick false r k = subst P (let z : f ≡ g = cc in z) a.0

-- faults up to e come before faults behind e
nearer : (fs gs : List Fault) (e : ℕ) → AllByRecursion (λ f. f.column ≤ e) fs → AllByRecursion (After e) gs → least (first fs) (first gs) ≡ or_else (first fs) (first gs)
nearer fs gs e a b = go (first fs) (first gs) refl refl
  where
    go : (o p : Option Fault) → first fs ≡ o → first gs ≡ p → least o p ≡ or_else o p
    go None p q r = refl
    go (Some f) None q r = refl
    go (Some f) (Some g) q r =
        let l = first_has (λ f. f.column ≤ e) fs a f q in
        let m = first_has (After e) gs b g r in
        let n : before g f ≡ false = grind (arith, nat_tests) in
        ap (λ (x : Bool). cond x (Some g) (Some f)) n

module _ (reads : List ℕ → Result ℕ TextFault) (bounded : (c : List ℕ) (f : TextFault) → reads c ≡ Err f → f.at ≤ length c) (s : List ℕ) where
  -- a token's faults lie in the token
  module _ (n : Count) (t : Token) (some : 0 < t.size) where
    abbrev Here : Fault → Type 0
    Here = Between t.start (t.start + t.size)

    long_here : AllByRecursion Here (long_name s t)
    long_here =
        when_all Here (sort_limited (sort_of t.role) && ltb 16 (word s t).size) (fault ((word s t).start + 1) Cause.LongName)
        (λ e. let l = ltb-true 16 (word s t).size (and_second (sort_limited (sort_of t.role)) (ltb 16 (word s t).size) e) in
        let w = word_start s t some in (omega (arith, w.0, w.1), omega (arith, w.0, w.1)))

    ninth_here : AllByRecursion Here (ninth n.elements n.operands t)
    ninth_here =
        when_all Here (leb 8 (opened_before (opened_by t.role) n.elements n.operands)) (fault (t.start + 1) Cause.TooMany)
        (λ e. (omega arith, omega arith))

    extra_here : AllByRecursion Here (extra_name s n.names t)
    extra_here =
        when_all Here (brings_name s t && (leb 64 (length n.names) && absent (position (spelling s t) n.names))) (fault ((word s t).start + 1) Cause.TooMany)
        (λ e. let l = ltb-true 0 (word s t).size
        (and_second (sort_brings (sort_of t.role) (indirect s t)) (ltb 0 (word s t).size)
        (and_first (brings_name s t) (leb 64 (length n.names) && absent (position (spelling s t) n.names)) e)) in
        let w = word_start s t some in (omega (arith, w.0, w.1), omega (arith, w.0, w.1)))

    literal_here : AllByRecursion Here (literal_faults (literal reads s t) n.symbols t)
    literal_here = go (is_literal s t) refl
      where
        inner : (r : Result ℕ TextFault) → ((f : TextFault) → r ≡ Err f → f.at + 2 ≤ t.size) → AllByRecursion Here (literal_faults r n.symbols t)
        inner (Ok k) h = when_all Here (ltb 4096 (n.symbols + k)) (fault (t.start + 1) Cause.TooMany) (λ e. (omega arith, omega arith))
        inner (Err f) h = let l = h f refl in ((omega arith, omega arith), tt)

        go : (b : Bool) → is_literal s t ≡ b → AllByRecursion Here (literal_faults (cond b (reads (part_of s (contents t))) (Ok 0)) n.symbols t)
        go true e =
            inner (reads (part_of s (contents t)))
            (λ f p. let l = bounded (part_of s (contents t)) f p in
            let m = part_short s (contents t) in
            let c = ltb-true 1 t.size (and_first (ltb 1 t.size) (eqb (get_or s ((t.start + t.size) - 1) 0) 34)
            (and_second (sort_literal (sort_of t.role)) (closed s t) e)) in
            omega (arith, l, m, c))
        go false e = when_all Here (ltb 4096 (n.symbols + 0)) (fault (t.start + 1) Cause.TooMany) (λ e. (omega arith, omega arith))

    token_here : AllByRecursion Here (token_faults reads s n t)
    unfolding token_faults
    token_here =
        All-append Here ((long_name s t ++ ninth n.elements n.operands t) ++ extra_name s n.names t) (literal_faults (literal reads s t) n.symbols t)
        (All-append Here (long_name s t ++ ninth n.elements n.operands t) (extra_name s n.names t)
        (All-append Here (long_name s t) (ninth n.elements n.operands t) long_here ninth_here) extra_here)
        literal_here

  -- the faults of tokens from k on lie behind k
  later : (n : Count) (k e : ℕ) (ts : List Token) → Abut k ts e → AllByRecursion (After k) (faults_from reads s n ts)
  unfolding faults_from
  later n k e [] h = tt
  later n k e (t ∷ ts) h =
      let a = h.0 in
      All-append (After k) (token_faults reads s n t) (faults_from reads s (with_token reads s n t) ts)
      (All-weaker (Between t.start (t.start + t.size)) (After k) (λ f b. omega (arith, a, b.0)) (token_faults reads s n t) (token_here n t h.1))
      (All-weaker (After (k + t.size)) (After k) (λ f b. omega (arith, b)) (faults_from reads s (with_token reads s n t) ts)
      (later (with_token reads s n t) (k + t.size) e ts h.2))

  -- the first token with a fault has the one that counts
  pub first_ascends : (n : Count) (k e : ℕ) (ts : List Token) → Abut k ts e → first (faults_from reads s n ts) ≡ first_from reads s n ts
  unfolding faults_from first_from
  first_ascends n k e [] h = refl
  first_ascends n k e (t ∷ ts) h =
      first_append (token_faults reads s n t) (faults_from reads s (with_token reads s n t) ts)
      ∙ nearer (token_faults reads s n t) (faults_from reads s (with_token reads s n t) ts) (t.start + t.size)
      (All-weaker (Between t.start (t.start + t.size)) (λ f. f.column ≤ t.start + t.size) (λ f b. b.1) (token_faults reads s n t) (token_here n t h.1))
      (subst (λ (j : ℕ). AllByRecursion (After j) (faults_from reads s (with_token reads s n t) ts)) (let a = h.0 in omega (arith, a))
      (later (with_token reads s n t) (k + t.size) e ts h.2))
      ∙ ap (or_else (first (token_faults reads s n t))) (first_ascends (with_token reads s n t) (k + t.size) e ts h.2)
