-- What a scan tells of the partial placings that it tries, and what an answer then says of them. Assumes nothing.
use Rattle.std.proofs.Common.{◌≡◌, ℕ, ◌+◌, ◌-◌, ◌<◌, ◌≤◌, Bool, true, false, cond, leb, List, Some, None, Ok, Err, Option, refl, ap, ◌∙◌, arith}
use Rattle.std.proofs.lemmas.Bool.{cond-true, cond-false, le-leb, lt-leb, leb-true, leb-false}
use Rattle.placings.specs.Enumeration.{first, count, answer, tells, spent}
use Rattle.scan.specs.declared.answer.Scanned.{Scanned}
use Rattle.scan.specs.declared.answer.Verdict.{Verdict}
use Rattle.scan.specs.declared.answer.Verdict.TheVariants.{Success, Failure}
use Rattle.scan.specs.declared.answer.ScanRefusal.{ScanRefusal}
use Rattle.scan.specs.declared.answer.ScanRefusal.TheVariants.{Spent}
use Rattle.scan.specs.Answers.{placed, returned}

-- the verdict by the first placing, if there is one
abbrev pub verdict_by : Option (List ℕ) → Verdict
verdict_by None = Failure
verdict_by (Some places) = Success (placed places)

module _ (m allowance : ℕ) (xs : List (List ℕ)) where
  pub told_spent : allowance < count m xs → answer m allowance xs ≡ spent
  told_spent l = cond-false (leb (count m xs) allowance) (tells (first m xs) (count m xs)) spent (lt-leb _ _ l)

  pub told_within : (rest : ℕ) (v : Option (List ℕ)) → first m xs ≡ v → count m xs + rest ≡ allowance → answer m allowance xs ≡ tells v (allowance - rest)
  told_within rest v e q =
      let z : count m xs ≡ allowance - rest = omega arith in
      cond-true (leb (count m xs) allowance) (tells (first m xs) (count m xs)) spent (le-leb _ _ (omega arith)) ∙ rw (e, z)

  pub told_ok : (r : Scanned) → Ok r ≡ returned (answer m allowance xs) → (r.verdict ≡ verdict_by (first m xs)) × (r.trials ≡ count m xs) × (count m xs ≤ allowance)
  told_ok r e = go (leb (count m xs) allowance) (first m xs) refl e
    where
      go : (b : Bool) (v : Option (List ℕ)) → leb (count m xs) allowance ≡ b → Ok r ≡ returned (cond b (tells v (count m xs)) spent) → (r.verdict ≡ verdict_by v) × (r.trials ≡ count m xs) × (count m xs ≤ allowance)
      go true None d q = let z : r ≡ record { verdict = Failure; trials = count m xs } = cc in (ap (λ (x : Scanned). x.verdict) z, ap (λ (x : Scanned). x.trials) z, leb-true _ _ d)
      go true (Some p) d q = let z : r ≡ record { verdict = Success (placed p); trials = count m xs } = cc in (ap (λ (x : Scanned). x.verdict) z, ap (λ (x : Scanned). x.trials) z, leb-true _ _ d)
      go false v d q = let x : ◌≡◌ {A = ℕ} 0 1 = cc in absurd (omega arith)

  pub told_err : (e : ScanRefusal) → Err e ≡ returned (answer m allowance xs) → (e ≡ Spent) × (allowance < count m xs)
  told_err r e = go (leb (count m xs) allowance) (first m xs) refl e
    where
      go : (b : Bool) (v : Option (List ℕ)) → leb (count m xs) allowance ≡ b → Err r ≡ returned (cond b (tells v (count m xs)) spent) → (r ≡ Spent) × (allowance < count m xs)
      go true None d q = let x : ◌≡◌ {A = ℕ} 0 1 = cc in absurd (omega arith)
      go true (Some p) d q = let x : ◌≡◌ {A = ℕ} 0 1 = cc in absurd (omega arith)
      go false v d q = (cc, leb-false _ _ d)
