-- A walk back, row by row. Assumes nothing.
use Rattle.std.proofs.Common.{◌≡◌, ℕ, suc, ◌+◌, ◌-◌, ◌<◌, ◌≤◌, Bool, false, List, length, get_or, set, Some, None, Ok, Err, Option, sym, refl, ap, ◌∙◌, subst, arith}
use Rattle.std.proofs.lemmas.List.{set-get_or}
use Rattle.std.proofs.lemmas.Bool.{ne_eqb}
use Rattle.symbols.specs.declared.role.Role.{Role}
use Rattle.placings.specs.declared.mode.Mode.TheVariants.{Unanchored}
use Rattle.placings.specs.Enumeration.{count}
use Rattle.scan.specs.declared.element.Element.{Element}
use Rattle.scan.specs.declared.element.Element.TheVariants.{Compared}
use Rattle.scan.specs.declared.element.Source.TheVariants.{Constant}
use Rattle.scan.specs.declared.row.Row.{Row}
use Rattle.scan.specs.declared.step.Move.TheVariants.{Forward, Back, Spent}
use Rattle.scan.specs.declared.answer.ScanRefusal.TheVariants as refusal
use Rattle.scan.specs.Ends.{Next, NextEnd, element_end}
use Rattle.scan.specs.Rows.{unused, advanced, compared_with, Parted}
use Rattle.scan.specs.Steps.{course}
use Rattle.scan.specs.Left.{follows, places, behind, left, Standing, Retreats, WalksBack}
use Rattle.scan.proofs.Parts.{next_like}
use Rattle.scan.proofs.Courses.{forward_is, back_is, spent_is}
use Rattle.scan.proofs.Suiting.{element_at, may_is, may_refers}
use Rattle.scan.proofs.Stack.{left_forward, left_back, left_some, behind_left, standing_less, standing_more, count_some}

-- a row that did not move leaves the rows as they were
stays : (rows : List Row) (i left : ℕ) (row : Row) (r : Option ℕ) → Back ≡ course false left r → row ≡ advanced (get_or rows i unused) r → set rows i row ≡ rows
stays rows i left row r q a = ap (set rows i) (a ∙ ap (advanced (get_or rows i unused)) (back_is false left r q)) ∙ set-get_or rows i unused

-- what an element promises of the next end of row i
abbrev RowNext : {A : Type 0} → (A → A → Bool) → (A → Role) → List A → List Element → List Row → ℕ → Element → Option ℕ → Type 0
RowNext eq role s es rows i d r = NextEnd eq role s (get_or es i d) (get_or rows i unused).begin (get_or rows i unused).end r

module _ {A : Type 0} (eq : A → A → Bool) (role : A → Role) (s constants : List A) (es : List Element) (start : ℕ) (rows : List Row) (from i : ℕ) (d : Element) where
  abbrev ok : List ℕ → ℕ → Bool
  ok = follows eq role s constants es

  module _ (l : i < from) (short : from < length es) (few : length es ≤ 8) (st : Standing ok (length s) (length es) start rows from) where
    resumes : (r : Option ℕ) → RowNext eq role s es rows i d r → Next (ok (places start rows i)) (length s) ((get_or rows i unused).end + 1) r
    resumes r h =
        let eight = st.eight in
        let a : i < length es = omega arith in
        let b : i ≤ length rows = omega arith in
        let w = compared_with s constants rows (get_or es i d) in
        let t = st.suits i l in
        let same = may_is eq role Unanchored s constants es start rows i d a b false (sym (ne_eqb (i + 1) (length es) (λ q. omega arith))) (λ j x. st.begins j (omega arith)) (may_refers eq role Unanchored s constants es start rows i d a b (get_or rows i unused).end t) in
        let begin = sym (st.begins i l) in
        next_like (element_end eq role s w false (get_or es i d) (get_or rows i unused).begin) (ok (places start rows i)) (length s) ((get_or rows i unused).end + 1) r
        (λ k x y. same k ∙ ap (λ p. element_end eq role s w false (get_or es i d) p k) begin)
        (h w (sym (same (get_or rows i unused).end ∙ ap (λ p. element_end eq role s w false (get_or es i d) p (get_or rows i unused).end) begin) ∙ t))

    behind_here : behind ok (length s) (length es) start rows (suc i) ≡ left ok (length s) (length es) start rows i ((get_or rows i unused).end + 1)
    behind_here = let eight = st.eight in behind_left ok (length s) (length es) start rows i (omega arith)

    -- the row before finds no end
    resume_back : (trials : ℕ) (r : Option ℕ) → RowNext eq role s es rows i d r → Back ≡ course false trials r → behind ok (length s) (length es) start rows (suc i) ≡ behind ok (length s) (length es) start rows i
    resume_back trials r h q =
        behind_here ∙ left_back ok (length s) (length es) start rows i ((get_or rows i unused).end + 1) (subst (Next (ok (places start rows i)) (length s) ((get_or rows i unused).end + 1)) (back_is false trials r q) (resumes r h))

    resume_spent : (trials : ℕ) (r : Option ℕ) → RowNext eq role s es rows i d r → Spent ≡ course false trials r → (trials ≡ 0) × (0 < count (length es) (behind ok (length s) (length es) start rows (suc i)))
    resume_spent trials r h q =
        let x = spent_is false trials r q in
        let xs = left_some ok (length s) (length es) start rows i ((get_or rows i unused).end + 1) x.0 (subst (Next (ok (places start rows i)) (length s) ((get_or rows i unused).end + 1)) x.1 (resumes r h)) in
        (x.2, subst (λ ys. 0 < count (length es) ys) (sym (behind_here ∙ xs.1)) (count_some (length es) _ _))

    resume_forward : (trials e : ℕ) (r : Option ℕ) (row : Row) → RowNext eq role s es rows i d r → Forward e ≡ course false trials r → row ≡ advanced (get_or rows i unused) r → behind ok (length s) (length es) start rows from ≡ behind ok (length s) (length es) start rows (suc i) → Retreats ok (length s) (length es) start rows from trials (set rows i row) (Ok (Some (i, e)))
    resume_forward trials e r row h q a b =
        let x = forward_is false trials r e q in
        let eight = st.eight in
        let k : i < length rows = omega arith in
        let is : row ≡ advanced (get_or rows i unused) (Some e) = a ∙ ap (advanced (get_or rows i unused)) x.0 in
        let end : row.end ≡ e = ap (λ (y : Row). y.end) is in
        let nxt : Next (ok (places start rows i)) (length s) ((get_or rows i unused).end + 1) (Some row.end) = subst (Next (ok (places start rows i)) (length s) ((get_or rows i unused).end + 1)) (x.0 ∙ ap Some (sym end)) (resumes r h) in (
          l,
          x.1,
          ap (set rows i) is,
          standing_more ok (length s) (length es) start rows i row k (standing_less ok (length s) (length es) start rows from i (omega arith) st) (ap (λ (y : Row). y.begin) is ∙ st.begins i l) nxt.1 nxt.2,
          b ∙ behind_here ∙ left_forward ok (length s) (length es) start rows i ((get_or rows i unused).end + 1) row (omega arith) k nxt,
        )

-- a walk back from the row `from` stands behind row i: no row has moved, and what was left behind the first is left behind this one
pub record Returning {A : Type 0} (eq : A → A → Bool) (role : A → Role) (s : List A) (es : List Element) (rows : List Row) (from : ℕ) (now : List Row) (i : ℕ) : Type 0 where
  pub short : from < length es
  pub few : length es ≤ 8
  pub parted : Parted (length s) rows from
  pub same : now ≡ rows
  pub before : i ≤ from
  pub passed : (constants : List A) (start : ℕ) → Standing (follows eq role s constants es) (length s) (length es) start rows from → behind (follows eq role s constants es) (length s) (length es) start rows from ≡ behind (follows eq role s constants es) (length s) (length es) start rows i

pub returning_none : {A : Type 0} (eq : A → A → Bool) (role : A → Role) (s : List A) (es : List Element) (rows : List Row) (from : ℕ) → (from < length es) × Parted (length s) rows from → length es ≤ 8 → Returning eq role s es rows from rows from
returning_none eq role s es rows from p few = record { short = p.0; few = few; parted = p.1; same = refl; before = omega arith; passed = λ constants start st. refl }

module _ {A : Type 0} {eq : A → A → Bool} {role : A → Role} {s : List A} {es : List Element} {rows : List Row} {from : ℕ} {now : List Row} {i : ℕ} (o : Returning eq role s es rows from now i) where
  -- nothing is left before the first row
  pub returning_all : (trials : ℕ) (after : List Row) → i ≤ 0 → WalksBack eq role s es rows from trials after (Ok None)
  unfolding behind
  returning_all trials after l constants start st =
      let z : i ≡ 0 = omega arith in
      o.passed constants start st ∙ ap (behind (follows eq role s constants es) (length s) (length es) start rows) z

  module _ (some : 0 < i) where
    here : i - 1 < from
    here = let l = o.before in omega arith

    -- the row before holds a part
    pub returning_parted : ((get_or now (i - 1) unused).begin ≤ (get_or now (i - 1) unused).end) × ((get_or now (i - 1) unused).end ≤ length s)
    returning_parted = subst (λ (x : List Row). ((get_or x (i - 1) unused).begin ≤ (get_or x (i - 1) unused).end) × ((get_or x (i - 1) unused).end ≤ length s)) (sym o.same) (o.parted (i - 1) here)

    module _ (trials : ℕ) (r : Option ℕ) (row : Row) (h : NextEnd eq role s (element_at es (i - 1)) (get_or now (i - 1) unused).begin (get_or now (i - 1) unused).end r) (moved : row ≡ advanced (get_or now (i - 1) unused) r) where
      h' : RowNext eq role s es rows (i - 1) (Compared (Constant 0 0)) r
      h' = subst (λ (x : List Row). RowNext eq role s es x (i - 1) (Compared (Constant 0 0)) r) o.same h

      left_here : (constants : List A) (start : ℕ) → Standing (follows eq role s constants es) (length s) (length es) start rows from → behind (follows eq role s constants es) (length s) (length es) start rows from ≡ behind (follows eq role s constants es) (length s) (length es) start rows (suc (i - 1))
      left_here constants start st = let z : i ≡ suc (i - 1) = omega arith in o.passed constants start st ∙ ap (behind (follows eq role s constants es) (length s) (length es) start rows) z

      pub returning_forward : (e : ℕ) → Forward e ≡ course false trials r → WalksBack eq role s es rows from trials (set now (i - 1) row) (Ok (Some (i - 1, e)))
      returning_forward e q constants start st =
          subst (λ (x : List Row). Retreats (follows eq role s constants es) (length s) (length es) start rows from trials (set x (i - 1) row) (Ok (Some (i - 1, e)))) (sym o.same)
          (resume_forward eq role s constants es start rows from (i - 1) (Compared (Constant 0 0)) here o.short o.few st trials e r row h' q (subst (λ (x : List Row). row ≡ advanced (get_or x (i - 1) unused) r) o.same moved) (left_here constants start st))

      pub returning_spent : (after : List Row) → Spent ≡ course false trials r → WalksBack eq role s es rows from trials after (Err refusal.Spent)
      returning_spent after q constants start st =
          let x = resume_spent eq role s constants es start rows from (i - 1) (Compared (Constant 0 0)) here o.short o.few st trials r h' q in
          (x.0, subst (λ xs. 0 < count (length es) xs) (sym (left_here constants start st)) x.1)

      pub returning_more : Back ≡ course false trials r → Returning eq role s es rows from (set now (i - 1) row) (i - 1)
      returning_more q =
          record {
            short = o.short;
            few = o.few;
            parted = o.parted;
            same = stays now (i - 1) trials row r q moved ∙ o.same;
            before = let l = o.before in omega arith;
            passed = λ constants start st. left_here constants start st ∙ resume_back eq role s constants es start rows from (i - 1) (Compared (Constant 0 0)) here o.short o.few st trials r h' q;
          }
