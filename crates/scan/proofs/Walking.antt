-- A walk from one start over the rows of a scan: what its moves need, and where each leads. Assumes nothing.
use Rattle.std.proofs.Common.{◌≡◌, ℕ, ◌+◌, ◌-◌, ◌<◌, ◌≤◌, Bool, true, eqb, List, [], ◌∷◌, length, get_or, set, Some, None, Ok, Err, Option, sym, refl, ap, ◌∙◌, subst, arith}
use Rattle.symbols.specs.declared.role.Role.{Role}
use Rattle.placings.specs.declared.mode.Mode.TheVariants.{Unanchored}
use Rattle.scan.specs.declared.element.Element.{Element}
use Rattle.scan.specs.declared.element.Element.TheVariants.{Compared}
use Rattle.scan.specs.declared.element.Source.TheVariants.{Constant}
use Rattle.scan.specs.declared.row.Row.{Row}
use Rattle.scan.specs.declared.step.Move.TheVariants.{Forward, Back, Done, Spent}
use Rattle.scan.specs.declared.answer.Placed.{Placed}
use Rattle.scan.specs.declared.answer.ScanRefusal.{ScanRefusal}
use Rattle.scan.specs.declared.answer.ScanRefusal.TheVariants as refusal
use Rattle.scan.specs.declared.answer.Verdict.TheVariants.{Success, Failure}
use Rattle.placings.specs.Tree.{below}
use Rattle.placings.specs.Enumeration.{count}
use Rattle.scan.specs.Answers.{placed, returned}
use Rattle.scan.proofs.Telling.{told_spent, told_within}
use Rattle.scan.specs.Elements.{fits, all_fit}
use Rattle.scan.specs.Ends.{Next, FirstEnd, element_end}
use Rattle.scan.specs.Rows.{unused, entered, compared_with, Readable, Parted}
use Rattle.scan.specs.Steps.{course}
use Rattle.scan.specs.Left.{beginning, places, follows, Standing, WalksBack, scan_from}
use Rattle.scan.proofs.Parts.{next_like}
use Rattle.scan.proofs.Suiting.{element_at, may_is, may_rises}
use Rattle.scan.proofs.Fitting.{fit_at, fit_refers, fit_reads}
use Rattle.scan.proofs.Onward.{Onward, onward_none, onward_forward, onward_placed, onward_spent, onward_resumed, onward_missed, onward_exceeded, standing_set}

-- the walk from a start stands before row i
pub record Walking {A : Type 0} (eq : A → A → Bool) (role : A → Role) (s constants : List A) (es : List Element) (start trials : ℕ) (rows : List Row) (i begin now : ℕ) : Type 0 where
  pub few : length es ≤ 8
  pub fit : all_fit (length constants) 0 es ≡ true
  pub onward : Onward (follows eq role s constants es) (length s) (length es) start trials rows i begin now

pub walking_none : {A : Type 0} (eq : A → A → Bool) (role : A → Role) (s constants : List A) (es : List Element) (start trials : ℕ) (rows : List Row) → length rows ≡ 8 → start ≤ length s → 0 < length es → length es ≤ 8 → all_fit (length constants) 0 es ≡ true → Walking eq role s constants es start trials rows 0 start trials
walking_none eq role s constants es start trials rows l w some few fit = record { few = few; fit = fit; onward = onward_none (follows eq role s constants es) (length s) (length es) start trials rows l some w }

standing_parted : {A : Type 0} (eq : A → A → Bool) (role : A → Role) (s constants : List A) (es : List Element) (start : ℕ) (rows : List Row) (i : ℕ) → i ≤ length es → length es ≤ 8 → Standing (follows eq role s constants es) (length s) (length es) start rows i → Parted (length s) rows i
standing_parted eq role s constants es start rows i l few st k x =
    let eight = st.eight in
    let up = may_rises eq role Unanchored s constants es start rows k (Compared (Constant 0 0)) (omega arith) (omega arith) (get_or rows k unused).end (st.suits k x) in
    (omega (arith, st.begins k x), st.within k x)

module _ {A : Type 0} {eq : A → A → Bool} {role : A → Role} {s constants : List A} {es : List Element} {start trials : ℕ} {rows : List Row} {i begin now : ℕ} (o : Walking eq role s constants es start trials rows i begin now) where
  fits_here : fits (length constants) i (element_at es i) ≡ true
  fits_here = let z : 0 + i ≡ i = omega arith in subst (λ j. fits (length constants) j (element_at es i) ≡ true) z (fit_at (length constants) 0 i es (Compared (Constant 0 0)) o.fit o.onward.short)

  -- what the element is compared with can be read
  pub walking_reads : Readable (length s) (length constants) rows (element_at es i)
  walking_reads =
      let l = o.onward.short in
      let few = o.few in
      fit_reads (length s) (length constants) i rows (element_at es i) (omega arith) (standing_parted eq role s constants es start rows i (omega arith) few o.onward.stands) fits_here

  -- what the element finds is what may follow
  module _ {w : List A} (r : Option ℕ) (row : Row) (other : w ≡ compared_with s constants rows (element_at es i)) (h : FirstEnd eq role s w (eqb (i + 1) (length es)) (element_at es i) begin r) (entry : row ≡ entered (get_or rows i unused) begin r) where
    found : Next (follows eq role s constants es (places start rows i)) (length s) 0 r
    found =
        let eight = o.onward.stands.eight in
        let l = o.onward.short in
        let few = o.few in
        let last = eqb (i + 1) (length es) in
        let x = element_at es i in
        next_like (element_end eq role s w last x begin) (follows eq role s constants es (places start rows i)) (length s) 0 r
        (λ k _ _. may_is eq role Unanchored s constants es start rows i (Compared (Constant 0 0)) l (omega arith) last refl o.onward.stands.begins (fit_refers (length constants) i x fits_here) k
        ∙ ap (λ v. element_end eq role s v last x (beginning start rows i) k) (sym other)
        ∙ ap (λ a. element_end eq role s w last x a k) (sym o.onward.begins))
        h

    pub walking_forward : (e : ℕ) → Forward e ≡ course (eqb (i + 1) (length es)) now r → Walking eq role s constants es start trials (set rows i row) (i + 1) e (now - 1)
    walking_forward e q = record { few = o.few; fit = o.fit; onward = onward_forward (follows eq role s constants es) (length s) (length es) start trials o.few rows i begin now o.onward (eqb (i + 1) (length es)) refl r found row entry e q }

    abbrev tried : List (List ℕ)
    tried = below (follows eq role s constants es) (length s) (length es) (start ∷ [])

    pub walking_placed : Done ≡ course (eqb (i + 1) (length es)) now r → (p : Placed) → p ≡ placed (places start (set rows i row) (length es)) → Ok (record { verdict = Success p; trials = trials - (now - 1) }) ≡ scan_from eq role s constants es start trials
    walking_placed q p is =
        let x = onward_placed (follows eq role s constants es) (length s) (length es) start trials o.few rows i begin now o.onward (eqb (i + 1) (length es)) refl r found row entry q in
        ap (λ (y : Placed). Ok (record { verdict = Success y; trials = trials - (now - 1) })) is ∙ ap returned (sym (told_within (length es) trials tried (now - 1) (Some (places start (set rows i row) (length es))) x.0 x.1))

    spends : trials < count (length es) tried → Err refusal.Spent ≡ scan_from eq role s constants es start trials
    spends l = ap returned (sym (told_spent (length es) trials tried l))

    pub walking_spent : Spent ≡ course (eqb (i + 1) (length es)) now r → Err refusal.Spent ≡ scan_from eq role s constants es start trials
    walking_spent q = spends (onward_spent (follows eq role s constants es) (length s) (length es) start trials o.few rows i begin now o.onward (eqb (i + 1) (length es)) refl r found row entry q)

    stands : Standing (follows eq role s constants es) (length s) (length es) start (set rows i row) i
    stands = standing_set (follows eq role s constants es) (length s) (length es) start trials rows i row o.onward.stands

    -- what a walk back needs
    pub walking_back : (i < length es) × Parted (length s) (set rows i row) i
    walking_back = let l = o.onward.short in (l, standing_parted eq role s constants es start (set rows i row) i (omega arith) o.few stands)

    module _ (after : List Row) where
      -- what a walk back finds, by what its answer is found to be
      pub walking_found : (found at : Option (ℕ × ℕ)) → found ≡ at → WalksBack eq role s es (set rows i row) i now after (Ok found) → WalksBack eq role s es (set rows i row) i now after (Ok at)
      walking_found y at is h = subst (λ x. WalksBack eq role s es (set rows i row) i now after (Ok x)) is h

      -- where a walk back finds an end, it is at a row before, and a trial is left
      pub walking_before : (j e : ℕ) → WalksBack eq role s es (set rows i row) i now after (Ok (Some (j, e))) → (j < i) × (0 < now)
      walking_before j e h = let x = h constants start stands in (x.0, x.1)

      module _ (q : Back ≡ course (eqb (i + 1) (length es)) now r) where
        pub walking_resumed : (j e : ℕ) → WalksBack eq role s es (set rows i row) i now after (Ok (Some (j, e))) → Walking eq role s constants es start trials after (j + 1) e (now - 1)
        walking_resumed j e h = record { few = o.few; fit = o.fit; onward = onward_resumed (follows eq role s constants es) (length s) (length es) start trials o.few rows i begin now o.onward (eqb (i + 1) (length es)) refl r found row entry q after j e (h constants start stands) }

        pub walking_missed : WalksBack eq role s es (set rows i row) i now after (Ok None) → Ok (record { verdict = Failure; trials = trials - now }) ≡ scan_from eq role s constants es start trials
        walking_missed h =
            let x = onward_missed (follows eq role s constants es) (length s) (length es) start trials o.few rows i begin now o.onward (eqb (i + 1) (length es)) refl r found row entry q after (h constants start stands) in
            ap returned (sym (told_within (length es) trials tried now None x.0 x.1))

        pub walking_refused : (e : ScanRefusal) → WalksBack eq role s es (set rows i row) i now after (Err e) → Err e ≡ scan_from eq role s constants es start trials
        walking_refused refusal.Spent h = spends (onward_exceeded (follows eq role s constants es) (length s) (length es) start trials o.few rows i begin now o.onward (eqb (i + 1) (length es)) refl r found row entry q after (h constants start stands))
        walking_refused refusal.OutOfRange h = absurd (h constants start stands)
