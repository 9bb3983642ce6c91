-- The search over all starts, in terms of what the scan returns. Assumes nothing.
use Rattle.std.proofs.Common.{◌≡◌, ℕ, ◌+◌, ◌-◌, ◌<◌, ◌≤◌, Bool, false, leb, List, [], ◌∷◌, length, Some, None, Ok, Err, Option, Result, unwrap_or, refl, sym, ap, ◌∙◌, subst, arith}
use Rattle.std.proofs.lemmas.List.{length-map}
use Rattle.symbols.specs.declared.role.Role.{Role}
use Rattle.placings.specs.declared.mode.Mode.{Mode}
use Rattle.placings.specs.Tree.{below, paths}
use Rattle.placings.specs.Enumeration.{may, first, count, answer, scanned}
use Rattle.scan.specs.declared.answer.Scanned.{Scanned}
use Rattle.scan.specs.declared.answer.ScanRefusal.{ScanRefusal}
use Rattle.scan.specs.declared.answer.Verdict.TheVariants.{Success, Failure}
use Rattle.scan.specs.declared.answer.ScanRefusal.TheVariants.{Spent}
use Rattle.scan.specs.declared.element.Element.{Element}
use Rattle.scan.specs.Answers.{placed, returned}
use Rattle.scan.specs.Elements.{pattern, stands}
use Rattle.scan.specs.Ends.{Next}
use Rattle.scan.specs.Left.{scan_from}
use Rattle.scan.specs.Starts.{last_start, head_of, stops_at}
use Rattle.scan.proofs.Starting.{barren, starts_to, last_within, below_mode}
use Rattle.scan.proofs.Telling.{verdict_by, told_ok, told_err}
use Rattle.scan.proofs.Trying.{Tried, tried_none, passed_spent, passed_failed, stopped_spent, stopped_exceeded, stopped_placed, missed_failed, missed_more}

-- a search stands before a start. The mode is not kept: what is known of it is the last start, and the symbol that is looked for
pub record Searching {A : Type 0} (eq : A → A → Bool) (role : A → Role) (s constants : List A) (es : List Element) (last : ℕ) (head : Option A) (allowance start left : ℕ) : Type 0 where
  pub some : 0 < length es
  pub tried : (mode : Mode) → last ≡ last_start mode (length s) → head ≡ head_of mode constants es → Tried (may eq role mode s (pattern constants es)) (length s) (length es) last allowance start left

module _ {A : Type 0} (eq : A → A → Bool) (role : A → Role) (mode : Mode) (s constants : List A) (es : List Element) (last : ℕ) (head : Option A) (some : 0 < length es) (reach : last ≡ last_start mode (length s)) (heads : head ≡ head_of mode constants es) where
  within : last ≤ length s
  within = omega (arith, last_within mode (length s))

  starts : (k : ℕ) → k ≤ length s → may eq role mode s (pattern constants es) [] k ≡ leb k last
  starts k l = starts_to eq role s constants es mode (length s) k l ∙ ap (leb k) (sym reach)

  fruitless : (k : ℕ) → stops_at eq s head k ≡ false → below (may eq role mode s (pattern constants es)) (length s) (length es) (k ∷ []) ≡ []
  fruitless k f = barren eq role s constants es mode (length s) k some (ap (λ h. stops_at eq s h k) (sym heads) ∙ f)

pub searching_none : {A : Type 0} (eq : A → A → Bool) (role : A → Role) (s constants : List A) (es : List Element) (last : ℕ) (head : Option A) (allowance : ℕ) → 0 < length es → Searching eq role s constants es last head allowance 0 allowance
searching_none eq role s constants es last head allowance some =
    record {
      some = some;
      tried = λ mode reach heads. tried_none (may eq role mode s (pattern constants es)) (length s) (length es) last allowance some (within eq role mode s constants es last head some reach heads) (starts eq role mode s constants es last head some reach heads);
    }

module _ {A : Type 0} {eq : A → A → Bool} {role : A → Role} {s constants : List A} {es : List Element} {last : ℕ} {head : Option A} {allowance start left : ℕ} (o : Searching eq role s constants es last head allowance start left) (mode : Mode) (reach : last ≡ last_start mode (length s)) (heads : head ≡ head_of mode constants es) where
  abbrev ok : List ℕ → ℕ → Bool
  ok = may eq role mode s (pattern constants es)

  abbrev answers : Result Scanned ScanRefusal
  answers = returned (scanned eq role mode s (pattern constants es) allowance)

  scanned_is : answer (length es) allowance (paths ok (length s) (length es)) ≡ scanned eq role mode s (pattern constants es) allowance
  scanned_is = ap (λ m. answer m allowance (paths ok (length s) m)) (sym (length-map es (stands constants)))

  tried_so : Tried ok (length s) (length es) last allowance start left
  tried_so = o.tried mode reach heads

  -- what the code counts on
  pub searching_reach : start ≤ last
  searching_reach = tried_so.reach

  searching_within : last ≤ length s
  searching_within = within eq role mode s constants es last head o.some reach heads

  starts_so : (k : ℕ) → k ≤ length s → ok [] k ≡ leb k last
  starts_so = starts eq role mode s constants es last head o.some reach heads

  fruitless_so : (k : ℕ) → stops_at eq s head k ≡ false → below ok (length s) (length es) (k ∷ []) ≡ []
  fruitless_so = fruitless eq role mode s constants es last head o.some reach heads

  pub searching_spent : (stop : Option ℕ) → Next (stops_at eq s head) last start stop → left ≤ unwrap_or stop last - start → Err Spent ≡ answers
  searching_spent None h l = ap returned (sym (passed_spent ok (length s) (length es) last allowance o.some searching_within starts_so (stops_at eq s head) fruitless_so start left tried_so h l) ∙ scanned_is)
  searching_spent (Some at) h l = ap returned (sym (stopped_spent ok (length s) (length es) last allowance o.some searching_within starts_so (stops_at eq s head) fruitless_so start left tried_so at h l) ∙ scanned_is)

  pub searching_passed : Next (stops_at eq s head) last start None → (more : ℕ) → more + (last - start + 1) ≡ left → Ok (record { verdict = Failure; trials = allowance - more }) ≡ answers
  searching_passed h more l = ap returned (sym (passed_failed ok (length s) (length es) last allowance o.some searching_within starts_so (stops_at eq s head) fruitless_so start left tried_so h more l) ∙ scanned_is)

  module _ (at : ℕ) (h : Next (stops_at eq s head) last start (Some at)) (more : ℕ) (l : more + (at - start + 1) ≡ left) where
    abbrev walk : List (List ℕ)
    walk = below ok (length s) (length es) (at ∷ [])

    -- the walk from one start, whatever the mode
    walked : scan_from eq role s constants es at more ≡ returned (answer (length es) more walk)
    walked = ap (λ xs. returned (answer (length es) more xs)) (below_mode eq role mode s constants es (length s) (length es) at)

    pub searching_refused : (e : ScanRefusal) → Err e ≡ scan_from eq role s constants es at more → Err e ≡ answers
    searching_refused e q =
        let x = told_err (length es) more walk e (q ∙ walked) in
        ap Err x.0 ∙ ap returned (sym (stopped_exceeded ok (length s) (length es) last allowance o.some searching_within starts_so (stops_at eq s head) fruitless_so start left tried_so at h more l x.1) ∙ scanned_is)

    module _ (r : Scanned) (q : Ok r ≡ scan_from eq role s constants es at more) where
      told : (r.verdict ≡ verdict_by (first (length es) walk)) × (r.trials ≡ count (length es) walk) × (count (length es) walk ≤ more)
      told = told_ok (length es) more walk r (q ∙ walked)

      -- a placing ends the search, and so does the last start
      pub searching_done : (r.verdict ≡ Failure → at ≡ last) → Ok (record { verdict = r.verdict; trials = allowance - (more - r.trials) }) ≡ answers
      searching_done done = go (first (length es) walk) refl
        where
          x : (r.verdict ≡ verdict_by (first (length es) walk)) × (r.trials ≡ count (length es) walk) × (count (length es) walk ≤ more)
          x = told

          same : (v : Option (List ℕ)) → first (length es) walk ≡ v → ◌≡◌ {A = Result Scanned ScanRefusal} (Ok (record { verdict = r.verdict; trials = allowance - (more - r.trials) })) (Ok (record { verdict = verdict_by v; trials = allowance - (more - count (length es) walk) }))
          same v e = let a = x.0 ∙ ap verdict_by e in let b = x.1 in cc

          go : (v : Option (List ℕ)) → first (length es) walk ≡ v → Ok (record { verdict = r.verdict; trials = allowance - (more - r.trials) }) ≡ answers
          go None e = same None e ∙ ap returned (sym (missed_failed ok (length s) (length es) last allowance o.some searching_within starts_so (stops_at eq s head) fruitless_so start left tried_so at h more l (done (x.0 ∙ ap verdict_by e)) e x.2) ∙ scanned_is)
          go (Some p) e = same (Some p) e ∙ ap returned (sym (stopped_placed ok (length s) (length es) last allowance o.some searching_within starts_so (stops_at eq s head) fruitless_so start left tried_so at h more l p e x.2) ∙ scanned_is)

      more_tried : r.verdict ≡ Failure → at < last → Tried ok (length s) (length es) last allowance (at + 1) (more - r.trials)
      more_tried f ne = go (first (length es) walk) refl
        where
          x : (r.verdict ≡ verdict_by (first (length es) walk)) × (r.trials ≡ count (length es) walk) × (count (length es) walk ≤ more)
          x = told

          go : (v : Option (List ℕ)) → first (length es) walk ≡ v → Tried ok (length s) (length es) last allowance (at + 1) (more - r.trials)
          go None e = subst (λ k. Tried ok (length s) (length es) last allowance (at + 1) (more - k)) (sym x.1) (missed_more ok (length s) (length es) last allowance o.some searching_within starts_so (stops_at eq s head) fruitless_so start left tried_so at h more l ne e x.2)
          go (Some p) e = let a : Failure ≡ Success (placed p) = sym f ∙ x.0 ∙ ap verdict_by e in let z : ◌≡◌ {A = ℕ} 0 1 = cc in absurd (omega arith)

-- one start more
pub searching_more : {A : Type 0} {eq : A → A → Bool} {role : A → Role} {s constants : List A} {es : List Element} {last : ℕ} {head : Option A} {allowance start left : ℕ} (o : Searching eq role s constants es last head allowance start left) (at : ℕ) → Next (stops_at eq s head) last start (Some at) → (more : ℕ) → more + (at - start + 1) ≡ left → (r : Scanned) → Ok r ≡ scan_from eq role s constants es at more → r.verdict ≡ Failure → at < last → Searching eq role s constants es last head allowance (at + 1) (more - r.trials)
searching_more o at h more l r q f ne = record { some = o.some; tried = λ mode reach heads. more_tried o mode reach heads at h more l r q f ne }
