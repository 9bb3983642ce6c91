-- What a step answers says of the placings what the scan of its statement says. Assumes nothing.
use Rattle.std.proofs.Common.{◌≡◌, ℕ, ◌*◌, Bool, true, false, cond, ◌&&◌, ◌||◌, ltb, leb, List, [], ◌∷◌, length, take, Some, None, Ok, Err, Option, Result, sym, refl, subst, arith}
use Rattle.symbols.specs.declared.role.Role.{Role}
use Rattle.placings.specs.declared.mode.Mode.{Mode}
use Rattle.placings.specs.Enumeration.{spent, scanned}
use Rattle.placings.specs.Pattern.{Element}
use Rattle.placings.specs.Says.{Says}
use Rattle.placings.specs.Theorems.{Equality}
use Rattle.scan.specs.declared.answer.Scanned.{Scanned}
use Rattle.scan.specs.declared.answer.ScanRefusal as scan
use Rattle.scan.specs.declared.answer.Verdict.{Verdict}
use Rattle.scan.specs.declared.answer.Verdict.TheVariants.{Success, Failure}
use Rattle.scan.specs.Answers.{heard, returned, AnswerSays}
use Rattle.scan.proofs.Saying.{answer_says}
use Rattle.stores.specs.Names.{Names, under}
use Rattle.tables.specs.declared.row.Next.{Next}
use Rattle.tables.specs.declared.row.RightSide.{RightSide}
use Rattle.tables.specs.Rows.{Row}
use Rattle.tables.specs.declared.row.Target.{Target}
use Rattle.tables.specs.declared.sheet.Tables.{Tables}
use Rattle.tables.specs.Tables.{Tabled, tabled}
use Rattle.tables.specs.Rows.{items_in}
use Rattle.patterns.specs.Meant.{meant}
use Rattle.patterns.specs.Resolved.{resolved}
use Rattle.changes.specs.Limits.{over_limits}
use Rattle.changes.specs.Success as changes
use Rattle.changes.specs.Written.{written}
use Rattle.joins.specs.Renewed.{new_contents}
use Rattle.statements.specs.declared.refusal.StatementRefusal.{StatementRefusal}
use Rattle.statements.specs.declared.refusal.StatementRefusal.TheVariants.{ShortArea, NoName, Spent, TooLong, OutOfRange}
use Rattle.statements.specs.declared.seek.Sought.{Sought}
use Rattle.statements.specs.Carried.{cut, with_contents, replaces, leaves, follows, left_by}
use Rattle.statements.specs.GoTos.{leads}
use Rattle.statements.specs.Settled.{Left, left, settled}
use Rattle.statements.specs.Sought.{unscanned_success, judged, found, verdict_on, referred, sought}
use Rattle.session.specs.declared.refusal.Refusal as session
use Rattle.session.specs.declared.step.Work.{Work}
use Rattle.session.specs.Calls.{fits, unfit, full}
use Rattle.session.specs.Refusals.{first_of, stated}
use Rattle.session.specs.Says.{Judges, StepSays}
use Rattle.session.specs.State.{State}
use Rattle.session.specs.Steps.{number_of, row_of, checked, stepped, carried_from, step, step_answer}

module _ {X : Type 0} (eq : X → X → Bool) (dec : Equality X eq) (role : X → Role) (mode : Mode) (subject : List X) (allowance : ℕ) where
  says_ok : (p : List (Element X)) (r : Result Scanned scan.ScanRefusal) → AnswerSays role mode subject p allowance r → (s : Scanned) → judged r ≡ Ok s → Says role mode subject p allowance (heard s.verdict s.trials)
  says_ok p (Ok s') h s e =
      let same : s' ≡ s = cc in
      subst (λ (x : Scanned). Says role mode subject p allowance (heard x.verdict x.trials)) same h
  says_ok p (Err x) h s e = let z : ◌≡◌ {A = ℕ} 0 1 = cc in absurd (omega arith)

  says_spent : (p : List (Element X)) (r : Result Scanned scan.ScanRefusal) → AnswerSays role mode subject p allowance r → judged r ≡ Err Spent → Says role mode subject p allowance spent
  says_spent p (Ok s) h e = let z : ◌≡◌ {A = ℕ} 0 1 = cc in absurd (omega arith)
  says_spent p (Err scan.ScanRefusal.Spent) h e = h
  says_spent p (Err scan.ScanRefusal.OutOfRange) h e = let z : ◌≡◌ {A = ℕ} 0 1 = cc in absurd (omega arith)

  judges : (p : List (Element X)) (s : Scanned) → verdict_on eq role mode allowance subject p ≡ Ok s → Judges role mode subject p allowance s
  judges [] s e = let same : unscanned_success ≡ s = cc in sym same
  judges (q ∷ qs) s e = says_ok (q ∷ qs) (returned (scanned eq role mode subject (q ∷ qs) allowance)) (answer_says eq dec role mode subject (q ∷ qs) allowance) s e

  exceeds : (p : List (Element X)) → verdict_on eq role mode allowance subject p ≡ Err Spent → Says role mode subject p allowance spent
  exceeds [] e = let z : ◌≡◌ {A = ℕ} 0 1 = cc in absurd (omega arith)
  exceeds (q ∷ qs) e = says_spent (q ∷ qs) (returned (scanned eq role mode subject (q ∷ qs) allowance)) (answer_says eq dec role mode subject (q ∷ qs) allowance) e

-- only a scan is spent: what comes after it is refused for other reasons
abbrev Unspent : {X : Type 0} → Result (Left X) StatementRefusal → Type 0
Unspent (Ok l) = Unit {0}
Unspent (Err ShortArea) = Unit {0}
Unspent (Err NoName) = Unit {0}
Unspent (Err Spent) = ◌≡◌ {A = ℕ} 0 1
Unspent (Err TooLong) = Unit {0}
Unspent (Err OutOfRange) = Unit {0}

left_unspent : {X : Type 0} (names : Names X) (o : Option Next) → Unspent (left names o)
left_unspent names None = tt
left_unspent names (Some next) = tt

module _ {X : Type 0} (chars : X → List ℕ) (tables : Tabled X) (k : ℕ) (row : Row) (names : Names X) where
  settled_unspent : (target : Option Target) (after : Names X) → Unspent (settled chars tables.rows k target after)
  settled_unspent target after = go (over_limits after)
    where
      go : (b : Bool) → Unspent (cond b (Err TooLong) (left after (leads chars tables.rows k after target)))
      go true = tt
      go false = left_unspent after (leads chars tables.rows k after target)

  replaces_unspent : (success : changes.Success X) (t : ℕ) (o : Option (List X)) → Unspent (replaces chars tables k row names success t o)
  replaces_unspent success t None = tt
  replaces_unspent success t (Some s) = settled_unspent row.on_success (written (with_contents success t s) names)

  leaves_unspent : (success : changes.Success X) (t : ℕ) (o : Option RightSide) → Unspent (leaves chars tables k row names success t o)
  leaves_unspent success t None = settled_unspent row.on_success (written success names)
  leaves_unspent success t (Some side) =
      replaces_unspent success t (new_contents chars tables.names tables.constants names success.subject success.items success.start success.ends side)

  follows_unspent : (t : ℕ) (v : Verdict) → Unspent (follows chars tables k row names t v)
  follows_unspent t (Success p) = leaves_unspent (cut names row t p.start (take p.count p.ends)) t row.right_side
  follows_unspent t Failure = left_unspent names (leads chars tables.rows k names row.on_failure)

-- the row of a step, by whether the record is full and the work areas are short
abbrev room_then : Bool → Bool → Option Row → Result Row session.Refusal
room_then over short None = Err session.Refusal.AtEnd
room_then over short (Some row) = checked (first_of (cond over (Some session.Refusal.RecordFull) None) (cond short (Some session.Refusal.ShortArea) None)) (Ok row)

module _ {X : Type 0} (eq : X → X → Bool) (dec : Equality X eq) (role : X → Role) (chars : X → List ℕ) (s : State X) (allowance : ℕ) (lent : Tables X) where
  abbrev Saying : Result Scanned session.Refusal → Type 0
  Saying r = StepSays role chars s allowance lent r

  -- what was sought says, as the answer of a step
  abbrev answer_of : Result Sought StatementRefusal → Result Scanned session.Refusal
  answer_of (Ok s) = Ok s.scanned
  answer_of (Err e) = Err (stated e)

  after_ok : (f : Sought) (l : Result (Left X) StatementRefusal) → Unspent l → Saying (Ok f.scanned) → Saying (step_answer (stepped (Ok f) l))
  after_ok f (Ok l) u h = h
  after_ok f (Err ShortArea) u h = tt
  after_ok f (Err NoName) u h = tt
  after_ok f (Err Spent) u h = absurd (omega (arith, u))
  after_ok f (Err TooLong) u h = tt
  after_ok f (Err OutOfRange) u h = tt

  stepped_says : (row : Row) (k : ℕ) (r : Result Sought StatementRefusal) → Saying (answer_of r) → Saying (step_answer (stepped r (left_by chars (tabled lent) k row s.names r)))
  stepped_says row k (Ok f) h = after_ok f (follows chars (tabled lent) k row s.names f.reference f.scanned.verdict) (follows_unspent chars (tabled lent) k row s.names f.reference f.scanned.verdict) h
  stepped_says row k (Err e) h = h

  module _ (row : Row) (here : row_of (tabled lent).rows (number_of s.next) ≡ Some row) where
    abbrev sought_of : Result Sought StatementRefusal
    sought_of = sought eq role s.mode allowance chars (tabled lent).names (tabled lent).constants s.names row

    sought_says : Saying (answer_of sought_of)
    sought_says = go (meant chars (tabled lent).names s.names row.reference) (resolved chars (tabled lent).names (tabled lent).constants s.names (items_in row.pattern)) refl refl
      where
        end : (t : ℕ) (p : List (Element X)) → meant chars (tabled lent).names s.names row.reference ≡ Some t → resolved chars (tabled lent).names (tabled lent).constants s.names (items_in row.pattern) ≡ Some p
            → (r : Result Scanned StatementRefusal) → verdict_on eq role s.mode allowance (under s.names t) p ≡ r → Saying (answer_of (found t (length (under s.names t)) r))
        end t p m o (Ok sc) v =
            record { row = row; next = here; reference = t; means = m; pattern = p; resolves = o; holds = judges eq dec role s.mode (under s.names t) allowance p sc v }
        end t p m o (Err Spent) v =
            record { row = row; next = here; reference = t; means = m; pattern = p; resolves = o; holds = exceeds eq dec role s.mode (under s.names t) allowance p v }
        end t p m o (Err ShortArea) v = tt
        end t p m o (Err NoName) v = tt
        end t p m o (Err TooLong) v = tt
        end t p m o (Err OutOfRange) v = tt

        go : (m : Option ℕ) (o : Option (List (Element X))) → meant chars (tabled lent).names s.names row.reference ≡ m
            → resolved chars (tabled lent).names (tabled lent).constants s.names (items_in row.pattern) ≡ o → Saying (answer_of (referred eq role s.mode allowance s.names m o))
        go None o is has = tt
        go (Some t) None is has = tt
        go (Some t) (Some p) is has = end t p is has (verdict_on eq role s.mode allowance (under s.names t) p) refl

  module _ (work : Work) where
    abbrev short : Bool
    short = ltb work.string s.names.longest || (ltb work.constants (8 * s.names.longest) || ltb work.contents s.names.longest)

    -- by the checks before the statement, then by what it comes to
    ready_says : Saying (step_answer (step eq role chars s allowance work lent))
    unfolding full
    ready_says = go (fits s lent) (leb 1 allowance && leb allowance 1000000) (row_of (tabled lent).rows (number_of s.next)) refl (leb s.room s.recorded) short
      where
        go : (fit allowed : Bool) (o : Option Row) → row_of (tabled lent).rows (number_of s.next) ≡ o → (over short : Bool)
            → Saying (step_answer (carried_from eq role chars s allowance (tabled lent) (checked (first_of (unfit fit) (cond allowed None (Some session.Refusal.OutOfRange))) (room_then over short o))))
        go false allowed o is over short = tt
        go true false o is over short = tt
        go true true None is over short = tt
        go true true (Some row) is true short = tt
        go true true (Some row) is false true = tt
        go true true (Some row) is false false = stepped_says row (number_of s.next) (sought_of row is) (sought_says row is)

    pub step_says : (r : Result Scanned session.Refusal) → r ≡ step_answer (step eq role chars s allowance work lent) → Saying r
    step_says r e = subst Saying (sym e) ready_says
