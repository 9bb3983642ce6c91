-- The digits that a reader lets stand as a length write a number of at most 4,096. Assumes nothing.
use Rattle.std.proofs.Common.{◌≡◌, ℕ, ◌+◌, ◌-◌, ◌*◌, ◌<◌, ◌≤◌, Bool, true, false, cond, ◌&&◌, leb, ◌⊎◌, List, [], ◌∷◌, Some, None, Option, sym, refl, subst, inl, inr, ⊎_elim, arith}
use Rattle.std.proofs.lemmas.Bool.{false≢true, and_parts, leb-true, cases_eq}
use Rattle.lines.specs.declared.reading.Room.{Room}
use Rattle.lines.specs.declared.reading.VariableReading.{VariableReading}
use Rattle.lines.specs.declared.reading.Reading.{Reading}
use Rattle.lines.proofs.Walk.{lands}

-- the digit that a text begins with
abbrev pub head : List ℕ → Option ℕ
head [] = None
head (c ∷ s) = cond (leb 48 c && leb c 57) (Some (c - 48)) None

abbrev pub tail : List ℕ → List ℕ
tail [] = []
tail (c ∷ s) = s

-- what holds of each digit
ten : (P : ℕ → Type 0) → P 48 → P 49 → P 50 → P 51 → P 52 → P 53 → P 54 → P 55 → P 56 → P 57 → (c : ℕ) → 48 ≤ c → c ≤ 57 → P c
ten P a b d e f g h i j k c low high =
    ⊎_elim (λ x. subst P (sym x) a)
    (λ n0. ⊎_elim (λ x. subst P (sym x) b)
    (λ n1. ⊎_elim (λ x. subst P (sym x) d)
    (λ n2. ⊎_elim (λ x. subst P (sym x) e)
    (λ n3. ⊎_elim (λ x. subst P (sym x) f)
    (λ n4. ⊎_elim (λ x. subst P (sym x) g)
    (λ n5. ⊎_elim (λ x. subst P (sym x) h)
    (λ n6. ⊎_elim (λ x. subst P (sym x) i)
    (λ n7. ⊎_elim (λ x. subst P (sym x) j)
    (λ n8. ⊎_elim (λ x. subst P (sym x) k)
    (λ n9. absurd (omega arith)) (cases_eq c 57)) (cases_eq c 56)) (cases_eq c 55)) (cases_eq c 54)) (cases_eq c 53)) (cases_eq c 52)) (cases_eq c 51)) (cases_eq c 50)) (cases_eq c 49)) (cases_eq c 48)

abbrev span : Room → Reading
span r = Reading.Variable (VariableReading.Length r)

module _ (s : List ℕ) where
  abbrev Leads : Reading → Type 0 → ℕ → Type 0
  Leads q P c = lands q (c ∷ s) ≡ true → P

  full : (c : ℕ) → 48 ≤ c → c ≤ 57 → lands (span Room.Full) (c ∷ s) ≡ true → ⊥
  unfolding lands
  full = ten (Leads (span Room.Full) ⊥) false≢true false≢true false≢true false≢true false≢true false≢true false≢true false≢true false≢true false≢true

  one : (c : ℕ) → 48 ≤ c → c ≤ 57 → lands (span Room.One) (c ∷ s) ≡ true → lands (span Room.Full) s ≡ true
  unfolding lands
  one = ten (Leads (span Room.One) (lands (span Room.Full) s ≡ true)) (λ e. e) (λ e. e) (λ e. e) (λ e. e) (λ e. e) (λ e. e) (λ e. e) (λ e. e) (λ e. e) (λ e. e)

  two : (c : ℕ) → 48 ≤ c → c ≤ 57 → lands (span Room.Two) (c ∷ s) ≡ true → lands (span Room.One) s ≡ true
  unfolding lands
  two = ten (Leads (span Room.Two) (lands (span Room.One) s ≡ true)) (λ e. e) (λ e. e) (λ e. e) (λ e. e) (λ e. e) (λ e. e) (λ e. e) (λ e. e) (λ e. e) (λ e. e)

  abbrev After-quote : ℕ → Type 0
  After-quote c = (c ≤ 51) ⊎ ((c ≡ 52) × (lands (span Room.Four) s ≡ true)) ⊎ (lands (span Room.Two) s ≡ true)

  quote : (c : ℕ) → 48 ≤ c → c ≤ 57 → lands (Reading.Variable VariableReading.Quote) (c ∷ s) ≡ true → After-quote c
  unfolding lands
  quote =
      ten (λ c. lands (Reading.Variable VariableReading.Quote) (c ∷ s) ≡ true → After-quote c)
      (λ e. inl (omega arith)) (λ e. inl (omega arith)) (λ e. inl (omega arith)) (λ e. inl (omega arith)) (λ e. inr (inl (refl, e)))
      (λ e. inr (inr e)) (λ e. inr (inr e)) (λ e. inr (inr e)) (λ e. inr (inr e)) (λ e. inr (inr e))

  abbrev After-four : ℕ → Type 0
  After-four c = ((c ≡ 48) × (lands (span Room.FourZero) s ≡ true)) ⊎ (lands (span Room.One) s ≡ true)

  four : (c : ℕ) → 48 ≤ c → c ≤ 57 → lands (span Room.Four) (c ∷ s) ≡ true → After-four c
  unfolding lands
  four =
      ten (λ c. lands (span Room.Four) (c ∷ s) ≡ true → After-four c)
      (λ e. inl (refl, e)) (λ e. inr e) (λ e. inr e) (λ e. inr e) (λ e. inr e) (λ e. inr e) (λ e. inr e) (λ e. inr e) (λ e. inr e) (λ e. inr e)

  abbrev After-zero : ℕ → Type 0
  After-zero c = ((c ≡ 57) × (lands (span Room.FourZeroNine) s ≡ true)) ⊎ (c ≤ 56)

  four_zero : (c : ℕ) → 48 ≤ c → c ≤ 57 → lands (span Room.FourZero) (c ∷ s) ≡ true → After-zero c
  unfolding lands
  four_zero =
      ten (λ c. lands (span Room.FourZero) (c ∷ s) ≡ true → After-zero c)
      (λ e. inr (omega arith)) (λ e. inr (omega arith)) (λ e. inr (omega arith)) (λ e. inr (omega arith)) (λ e. inr (omega arith))
      (λ e. inr (omega arith)) (λ e. inr (omega arith)) (λ e. inr (omega arith)) (λ e. inr (omega arith)) (λ e. inl (refl, e))

  four_zero_nine : (c : ℕ) → 48 ≤ c → c ≤ 57 → lands (span Room.FourZeroNine) (c ∷ s) ≡ true → c ≤ 54
  unfolding lands
  four_zero_nine =
      ten (λ c. lands (span Room.FourZeroNine) (c ∷ s) ≡ true → c ≤ 54)
      (λ e. omega arith) (λ e. omega arith) (λ e. omega arith) (λ e. omega arith) (λ e. omega arith) (λ e. omega arith) (λ e. omega arith)
      (λ e. absurd (false≢true e)) (λ e. absurd (false≢true e)) (λ e. absurd (false≢true e))

-- the number of one to four digits
abbrev pub number : Option ℕ → Option ℕ → Option ℕ → Option ℕ → ℕ
number None b c d = 0
number (Some a) None c d = a
number (Some a) (Some b) None d = a * 10 + b
number (Some a) (Some b) (Some c) None = (a * 100 + b * 10) + c
number (Some a) (Some b) (Some c) (Some d) = ((a * 1000 + b * 100) + c * 10) + d

abbrev Digit : Option ℕ → Type 0
Digit None = Unit {0}
Digit (Some d) = d < 10

-- a digit by its code, or none
abbrev Headed : List ℕ → Option ℕ → Type 0
Headed s None = Unit {0}
Headed s (Some d) = (c : ℕ) × (s ≡ c ∷ tail s) × (48 ≤ c) × (c ≤ 57) × (d ≡ c - 48)

headed : (s : List ℕ) → Headed s (head s)
headed [] = tt
headed (c ∷ s) = go (leb 48 c && leb c 57) refl
  where
    go : (b : Bool) → (leb 48 c && leb c 57) ≡ b → Headed (c ∷ s) (cond b (Some (c - 48)) None)
    go false e = tt
    go true e = let p = and_parts (leb 48 c) (leb c 57) e in (c, refl, leb-true 48 c p.0, leb-true c 57 p.1, refl)

-- a text stands behind digits that leave this room
abbrev Lands : Room → List ℕ → Type 0
Lands r s = lands (span r) s ≡ true

by_full : (s : List ℕ) (d : Option ℕ) → Headed s d → Lands Room.Full s → d ≡ None
by_full s None h l = refl
by_full s (Some d) h l = absurd (full (tail s) h.0 h.2 h.3 (subst (Lands Room.Full) h.1 l))

-- a digit is the last, or another may come
by_one : (s : List ℕ) (c : Option ℕ) → Headed s c → Lands Room.One s → (c ≡ None) ⊎ Lands Room.Full (tail s)
by_one s None h l = inl refl
by_one s (Some d) h l = inr (one (tail s) h.0 h.2 h.3 (subst (Lands Room.One) h.1 l))

by_two : (s : List ℕ) (c : Option ℕ) → Headed s c → Lands Room.Two s → (c ≡ None) ⊎ Lands Room.One (tail s)
by_two s None h l = inl refl
by_two s (Some d) h l = inr (two (tail s) h.0 h.2 h.3 (subst (Lands Room.Two) h.1 l))

module _ (a : ℕ) (al : a < 10) where
  few : (b c d : Option ℕ) → Digit b → Digit c → Digit d → (b ≡ None) ⊎ (c ≡ None) ⊎ (d ≡ None) → number (Some a) b c d ≤ 4096
  few None c d bl cl dl h = omega arith
  few (Some b) None d bl cl dl h = omega arith
  few (Some b) (Some c) None bl cl dl h = omega arith
  few (Some b) (Some c) (Some d) bl cl dl (inl e) = absurd (let z : ◌≡◌ {A = ℕ} 0 1 = cc in omega arith)
  few (Some b) (Some c) (Some d) bl cl dl (inr (inl e)) = absurd (let z : ◌≡◌ {A = ℕ} 0 1 = cc in omega arith)
  few (Some b) (Some c) (Some d) bl cl dl (inr (inr e)) = absurd (let z : ◌≡◌ {A = ℕ} 0 1 = cc in omega arith)

  under_four : a ≤ 3 → (b c d : Option ℕ) → Digit b → Digit c → Digit d → number (Some a) b c d ≤ 4096
  under_four h None c d bl cl dl = omega arith
  under_four h (Some b) None d bl cl dl = omega arith
  under_four h (Some b) (Some c) None bl cl dl = omega arith
  under_four h (Some b) (Some c) (Some d) bl cl dl = omega arith

digit : (s : List ℕ) (d : Option ℕ) → Headed s d → Digit d
digit s None h = tt
digit s (Some d) h = let p = h.2 in let q = h.3 in let r = h.4 in omega arith

module _ (s : List ℕ) where
  abbrev s₁ : List ℕ
  s₁ = tail s

  abbrev s₂ : List ℕ
  s₂ = tail s₁

  -- two digits more
  short_two : Lands Room.Two s → (head s ≡ None) ⊎ (head s₁ ≡ None) ⊎ (head s₂ ≡ None)
  short_two l =
      ⊎_elim inl
      (λ l₁. ⊎_elim (λ e. inr (inl e)) (λ l₂. inr (inr (by_full s₂ (head s₂) (headed s₂) l₂))) (by_one s₁ (head s₁) (headed s₁) l₁))
      (by_two s (head s) (headed s) l)

  -- one digit more
  short_one : Lands Room.One s → (head s ≡ None) ⊎ (head s₁ ≡ None)
  short_one l = ⊎_elim inl (λ l₁. inr (by_full s₁ (head s₁) (headed s₁) l₁)) (by_one s (head s) (headed s) l)

-- behind 409 at most a six
by_nine : (s : List ℕ) (d : Option ℕ) → Headed s d → Lands Room.FourZeroNine s → number (Some 4) (Some 0) (Some 9) d ≤ 4096
by_nine s None h l = omega arith
by_nine s (Some d) h l =
    let n = four_zero_nine (tail s) h.0 h.2 h.3 (subst (Lands Room.FourZeroNine) h.1 l) in
    let p = h.4 in omega arith

-- behind 40
by_zero : (s : List ℕ) (c d : Option ℕ) → Headed s c → Headed (tail s) d → Lands Room.FourZero s → number (Some 4) (Some 0) c d ≤ 4096
by_zero s None d h k l = omega arith
by_zero s (Some c) d h k l = go (four_zero (tail s) h.0 h.2 h.3 (subst (Lands Room.FourZero) h.1 l))
  where
    small : (d : Option ℕ) → Digit d → c ≤ 8 → number (Some 4) (Some 0) (Some c) d ≤ 4096
    small None dl cl = omega arith
    small (Some d) dl cl = omega arith

    go : After-zero (tail s) h.0 → number (Some 4) (Some 0) (Some c) d ≤ 4096
    go (inl p) =
        let e : 9 ≡ c = (let x = p.0 in let y = h.4 in omega arith) in
        subst (λ (x : ℕ). number (Some 4) (Some 0) (Some x) d ≤ 4096) e (by_nine (tail s) d k p.1)
    go (inr p) = small d (digit (tail s) d k) (let y = h.4 in let z = h.2 in omega arith)

-- behind 4
by_four : (s : List ℕ) (b : Option ℕ) → Headed s b → Lands Room.Four s → number (Some 4) b (head (tail s)) (head (tail (tail s))) ≤ 4096
by_four s None h l = omega arith
by_four s (Some b) h l = go (four (tail s) h.0 h.2 h.3 (subst (Lands Room.Four) h.1 l))
  where
    go : After-four (tail s) h.0 → number (Some 4) (Some b) (head (tail s)) (head (tail (tail s))) ≤ 4096
    go (inl p) =
        let e : 0 ≡ b = (let x = p.0 in let y = h.4 in omega arith) in
        subst (λ (x : ℕ). number (Some 4) (Some x) (head (tail s)) (head (tail (tail s))) ≤ 4096) e
        (by_zero (tail s) (head (tail s)) (head (tail (tail s))) (headed (tail s)) (headed (tail (tail s))) p.1)
    go (inr p) =
        few 4 (omega arith) (Some b) (head (tail s)) (head (tail (tail s))) (digit s (Some b) h) (digit (tail s) (head (tail s)) (headed (tail s)))
        (digit (tail (tail s)) (head (tail (tail s))) (headed (tail (tail s)))) (inr (short_one (tail s) p))

by_quote : (s : List ℕ) (a : Option ℕ) → Headed s a → lands (Reading.Variable VariableReading.Quote) s ≡ true
    → number a (head (tail s)) (head (tail (tail s))) (head (tail (tail (tail s)))) ≤ 4096
by_quote s None h l = omega arith
by_quote s (Some a) h l = go (quote (tail s) h.0 h.2 h.3 (subst (λ x. lands (Reading.Variable VariableReading.Quote) x ≡ true) h.1 l))
  where
    is : (x : List ℕ) → Digit (head x)
    is x = digit x (head x) (headed x)

    go : After-quote (tail s) h.0 → number (Some a) (head (tail s)) (head (tail (tail s))) (head (tail (tail (tail s)))) ≤ 4096
    go (inl p) =
        under_four a (digit s (Some a) h) (let y = h.4 in omega arith) (head (tail s)) (head (tail (tail s))) (head (tail (tail (tail s))))
        (is (tail s)) (is (tail (tail s))) (is (tail (tail (tail s))))
    go (inr (inl p)) =
        let e : 4 ≡ a = (let x = p.0 in let y = h.4 in omega arith) in
        subst (λ (x : ℕ). number (Some x) (head (tail s)) (head (tail (tail s))) (head (tail (tail (tail s)))) ≤ 4096) e
        (by_four (tail s) (head (tail s)) (headed (tail s)) p.1)
    go (inr (inr p)) =
        few a (digit s (Some a) h) (head (tail s)) (head (tail (tail s))) (head (tail (tail (tail s))))
        (is (tail s)) (is (tail (tail s))) (is (tail (tail (tail s)))) (short_two (tail s) p)

-- the digits behind the quote of a length
pub span_limited : (s : List ℕ) → lands (Reading.Variable VariableReading.Quote) s ≡ true
    → number (head s) (head (tail s)) (head (tail (tail s))) (head (tail (tail (tail s)))) ≤ 4096
span_limited s l = by_quote s (head s) (headed s) l
