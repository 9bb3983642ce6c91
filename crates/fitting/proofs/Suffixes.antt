-- What stands in a line from a place on, and the fixed length that is written there. Assumes nothing.
use Rattle.std.proofs.Common.{◌≡◌, ℕ, zero, suc, ◌+◌, ◌<◌, ◌≤◌, true, List, [], ◌∷◌, length, get_or, drop, Some, None, Option, sym, ap, ◌∙◌, subst, add-one, arith}
use Rattle.std.proofs.lemmas.Bool.{lt-ltb, le-ltb}
use Rattle.lines.specs.declared.reading.VariableReading.{VariableReading}
use Rattle.lines.specs.declared.reading.Reading.{Reading}
use Rattle.lines.proofs.Walk.{lands}
use Rattle.rows.specs.Entries.{digit_of, decimal}
use Rattle.fitting.proofs.Spans.{head, tail, number, span_limited}

-- from place k on a line has the character c and then s
pub record Here (line : List ℕ) (k c : ℕ) (s : List ℕ) : Type 0 where
  pub inside : k < length line
  pub is : get_or line k 0 ≡ c
  pub behind : drop (k + 1) line ≡ s

pub here : (line : List ℕ) (k c : ℕ) (s : List ℕ) → drop k line ≡ c ∷ s → Here line k c s
here [] zero c s e = absurd (let z : ◌≡◌ {A = ℕ} 0 1 = cc in omega arith)
here [] (suc k) c s e = absurd (let z : ◌≡◌ {A = ℕ} 0 1 = cc in omega arith)
here (x ∷ line) zero c s e = record { inside = omega arith; is = cc; behind = cc }
here (x ∷ line) (suc k) c s e =
    let h = here line k c s e in
    record { inside = (let i = h.inside in omega arith); is = h.is; behind = rw add-one (rw add-one at h.behind) }

pub past : (line : List ℕ) (k : ℕ) → drop k line ≡ [] → length line ≤ k
past [] k e = omega arith
past (x ∷ line) zero e = absurd (let z : ◌≡◌ {A = ℕ} 0 1 = cc in omega arith)
past (x ∷ line) (suc k) e = let h = past line k e in omega arith

pub beyond : (line : List ℕ) (k : ℕ) (s : List ℕ) → drop k line ≡ s → drop (k + 1) line ≡ tail s
beyond [] zero s e = rw (sym e)
beyond [] (suc k) s e = rw add-one (ap tail e)
beyond (x ∷ line) zero s e = rw (sym e)
beyond (x ∷ line) (suc k) s e = rw add-one (rw add-one at (beyond line k s e))

pub digit_at : (line : List ℕ) (k : ℕ) (s : List ℕ) → drop k line ≡ s → digit_of line k ≡ head s
digit_at line k [] e = let b = le-ltb k (length line) (past line k e) in rw b
digit_at line k (c ∷ s) e = let h = here line k c s e in let b = lt-ltb k (length line) h.inside in rw (b, h.is)

-- the number is told by its digits
decimal_at : (line : List ℕ) (k : ℕ) (a b c d : Option ℕ) → digit_of line k ≡ a → digit_of line (k + 1) ≡ b → digit_of line (k + 2) ≡ c → digit_of line (k + 3) ≡ d
    → decimal line k ≡ number a b c d
decimal_at line k None b c d p q r t = rw p
decimal_at line k (Some a) None c d p q r t = rw (p, q)
decimal_at line k (Some a) (Some b) None d p q r t = rw (p, q, r)
decimal_at line k (Some a) (Some b) (Some c) None p q r t = rw (p, q, r, t)
decimal_at line k (Some a) (Some b) (Some c) (Some d) p q r t = rw (p, q, r, t)

pub decimal_limited : (line : List ℕ) (k : ℕ) (s : List ℕ) → drop k line ≡ s → lands (Reading.Variable VariableReading.Quote) s ≡ true
    → decimal line k ≤ 4096
decimal_limited line k s e l =
    let e₁ = beyond line k s e in
    let e₂ : drop (k + 2) line ≡ tail (tail s) = ap (λ (j : ℕ). drop j line) (omega arith) ∙ beyond line (k + 1) (tail s) e₁ in
    let e₃ : drop (k + 3) line ≡ tail (tail (tail s)) = ap (λ (j : ℕ). drop j line) (omega arith) ∙ beyond line (k + 2) (tail (tail s)) e₂ in
    subst (λ (n : ℕ). n ≤ 4096)
    (sym (decimal_at line k (head s) (head (tail s)) (head (tail (tail s))) (head (tail (tail (tail s))))
    (digit_at line k s e) (digit_at line (k + 1) (tail s) e₁) (digit_at line (k + 2) (tail (tail s)) e₂) (digit_at line (k + 3) (tail (tail (tail s))) e₃)))
    (span_limited s l)
