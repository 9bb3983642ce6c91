-- What the checks before a statement clear, and what carrying it out leaves of a step. Assumes nothing.
use Rattle.std.proofs.Common.{◌≡◌, ℕ, ◌*◌, ◌≤◌, Bool, true, false, cond, ◌||◌, ltb, leb, List, length, take, Some, None, Ok, Err, Option, Result, sym, refl, ap, ◌∙◌, subst, arith}
use Rattle.std.proofs.lemmas.Bool.{and_parts, or_parts, leb-true, ltb-false}
use Rattle.symbols.specs.declared.role.Role.{Role}
use Rattle.placings.specs.declared.mode.Mode.{Mode}
use Rattle.stores.specs.Names.{Names}
use Rattle.tables.specs.Rows.{Row}
use Rattle.tables.specs.declared.sheet.NameTable.{NameTable}
use Rattle.tables.specs.declared.sheet.Tables.{Tables}
use Rattle.tables.specs.Tables.{Tabled, tabled}
use Rattle.checks.specs.Sound.{Sound-row}
use Rattle.checks.proofs.Admitted.{admitted}
use Rattle.checks.proofs.Sound.{sound_row_more}
use Rattle.statements.specs.declared.carry.Done.{Done}
use Rattle.statements.specs.declared.refusal.StatementRefusal.{StatementRefusal}
use Rattle.statements.specs.declared.seek.Sought.{Sought}
use Rattle.statements.specs.Carried.{done_with, follows, left_by, done_by}
use Rattle.statements.specs.Listed.{Carriable}
use Rattle.statements.specs.Settled.{Left, next_of, names_of}
use Rattle.statements.specs.Sought.{sought}
use Rattle.session.specs.declared.refusal.Refusal.{Refusal}
use Rattle.session.specs.declared.refusal.Refusal.TheVariants.{OutOfRange, ShortArea, Unfit}
use Rattle.session.specs.declared.step.Work.{Work}
use Rattle.session.specs.Calls.{fits, unfit, full}
use Rattle.session.specs.Refusals.{first_of, stated}
use Rattle.session.specs.State.{State}
use Rattle.session.specs.Steps.{number_of, row_of, not_allowed, too_short, checked, Stepped, stepped, row_ready, ready}
use Rattle.session.proofs.Rows.{row_all}

checked_ok : {A : Type 0} (o : Option Refusal) (r : Result A Refusal) (x : A) → checked o r ≡ Ok x → (o ≡ None) × (r ≡ Ok x)
checked_ok (Some e) r x q = let z : ◌≡◌ {A = ℕ} 0 1 = cc in absurd (omega arith)
checked_ok None r x q = (refl, q)

first_none : (a b : Option Refusal) → first_of a b ≡ None → (a ≡ None) × (b ≡ None)
first_none (Some e) b q = let z : ◌≡◌ {A = ℕ} 0 1 = cc in absurd (omega arith)
first_none None b q = (refl, q)

holds : (b : Bool) (e : Refusal) → cond b None (Some e) ≡ None → b ≡ true
holds true e q = refl
holds false e q = let z : ◌≡◌ {A = ℕ} 0 1 = cc in absurd (omega arith)

fails_not : (b : Bool) (e : Refusal) → cond b (Some e) None ≡ None → b ≡ false
fails_not true e q = let z : ◌≡◌ {A = ℕ} 0 1 = cc in absurd (omega arith)
fails_not false e q = refl

-- a step whose statement is ready
pub record Cleared {X : Type 0} (s : State X) (allowance : ℕ) (work : Work) (lent : Tables X) (row : Row) : Type 0 where
  pub fit : fits s lent ≡ true
  pub low : 1 ≤ allowance
  pub high : allowance ≤ 1000000
  pub here : row_of (tabled lent).rows (number_of s.next) ≡ Some row
  pub room : full s ≡ None
  pub string : s.names.longest ≤ work.string
  pub constants : 8 * s.names.longest ≤ work.constants
  pub contents : s.names.longest ≤ work.contents

module _ {X : Type 0} (s : State X) (allowance : ℕ) (work : Work) (lent : Tables X) (row : Row) where
  abbrev short : Bool
  short = ltb work.string s.names.longest || (ltb work.constants (8 * s.names.longest) || ltb work.contents s.names.longest)

  pub ready_clears : ready s allowance work lent ≡ Ok row → Cleared s allowance work lent row
  ready_clears e =
      let outer = checked_ok (first_of (unfit (fits s lent)) (not_allowed allowance)) _ row e in
      let before = first_none (unfit (fits s lent)) (not_allowed allowance) outer.0 in
      let allowed = and_parts (leb 1 allowance) (leb allowance 1000000) (holds _ OutOfRange before.1) in
      at_row (row_of (tabled lent).rows (number_of s.next)) refl outer.1 (holds (fits s lent) Unfit before.0) (leb-true _ _ allowed.0) (leb-true _ _ allowed.1)
    where
      at_row : (o : Option Row) → row_of (tabled lent).rows (number_of s.next) ≡ o → row_ready s allowance work o ≡ Ok row → fits s lent ≡ true → 1 ≤ allowance → allowance ≤ 1000000 → Cleared s allowance work lent row
      at_row None is q fit low high = let z : ◌≡◌ {A = ℕ} 0 1 = cc in absurd (omega arith)
      at_row (Some r) is q fit low high =
          let inner = checked_ok (first_of (full s) (too_short s.names.longest work)) (Ok r) row q in
          let rest = first_none (full s) (too_short s.names.longest work) inner.0 in
          let wide = or_parts (ltb work.string s.names.longest) _ (fails_not short ShortArea rest.1) in
          let wider = or_parts (ltb work.constants (8 * s.names.longest)) (ltb work.contents s.names.longest) wide.1 in
          let same : r ≡ row = let q' = inner.1 in cc in
          record {
            fit = fit;
            low = low;
            high = high;
            here = is ∙ ap (λ (x : Row). Some x) same;
            room = rest.0;
            string = ltb-false _ _ wide.0;
            constants = ltb-false _ _ wider.0;
            contents = ltb-false _ _ wider.1;
          }

  -- a statement that is ready may be carried out
  pub clears_carriable : Cleared s allowance work lent row → (table : NameTable) → table ≡ lent.sheet.now.names → Carriable s.names table row
  clears_carriable h table is =
      let ok = admitted (length s.names.strings) s.counts lent.sheet.now lent.rows.now (length lent.constants.now) (and_parts s.admitted _ h.fit).1 in
      let sheet = lent.sheet.now in
      let sound = sound_row_more sheet.names.count (length s.names.strings) ok.stored sheet.statements sheet.constants row
      (row_all (Sound-row sheet.names.count sheet.statements sheet.constants) (take sheet.statements lent.rows.now) ok.all_rows (number_of s.next) row h.here) in
      let Over : NameTable → Type 0 = λ t. Carriable s.names t row in
      subst Over (sym is) (record { known = ok.stored; reference = sound.reference; variables = sound.variables })

-- what a statement that was carried out makes of a step
module _ {X : Type 0} (chars : X → List ℕ) (tables : Tabled X) (k : ℕ) (row : Row) (names : Names X) where
  abbrev made : Done → Result (Left X) StatementRefusal → Stepped X
  made d l = record { scanned = d.scanned; left = record { names = names_of names l; next = d.next } }

  left_ok : (s : Sought) (l : Result (Left X) StatementRefusal) (d : Done) → Ok d ≡ done_with s.scanned (next_of l) → stepped (Ok s) l ≡ Ok (made d l)
  left_ok s (Ok l) d q =
      let same : record { scanned = s.scanned; next = l.next } ≡ d = cc in
      ap (λ (x : Done). Ok (made x (Ok l))) same
  left_ok s (Err e) d q = let z : ◌≡◌ {A = ℕ} 0 1 = cc in absurd (omega arith)

  left_err : (s : Sought) (l : Result (Left X) StatementRefusal) (e : StatementRefusal) → Err e ≡ done_with s.scanned (next_of l) → (stepped (Ok s) l ≡ Err (stated e)) × (names_of names l ≡ names)
  left_err s (Ok l) e q = let z : ◌≡◌ {A = ℕ} 0 1 = cc in absurd (omega arith)
  left_err s (Err x) e q = let same : x ≡ e = cc in (ap (λ (y : StatementRefusal). Err (stated y)) same, refl)

  done_stepped : (r : Result Sought StatementRefusal) (d : Done) → Ok d ≡ done_by chars tables k row names r
      → stepped r (left_by chars tables k row names r) ≡ Ok (made d (left_by chars tables k row names r))
  done_stepped (Ok s) d q = left_ok s (follows chars tables k row names s.reference s.scanned.verdict) d q
  done_stepped (Err e) d q = let z : ◌≡◌ {A = ℕ} 0 1 = cc in absurd (omega arith)

  refused_stepped : (r : Result Sought StatementRefusal) (e : StatementRefusal) → Err e ≡ done_by chars tables k row names r
      → (stepped r (left_by chars tables k row names r) ≡ Err (stated e)) × (names_of names (left_by chars tables k row names r) ≡ names)
  refused_stepped (Ok s) e q = left_err s (follows chars tables k row names s.reference s.scanned.verdict) e q
  refused_stepped (Err x) e q = let same : x ≡ e = cc in (ap (λ (y : StatementRefusal). Err (stated y)) same, refl)

-- the same, where the statement was carried out over a listing of the tables
module _ {X : Type 0} (eq : X → X → Bool) (role : X → Role) (mode : Mode) (allowance : ℕ) (chars : X → List ℕ) (names : Names X) (row : Row) where
  abbrev sought_in : Tabled X → Result Sought StatementRefusal
  sought_in t = sought eq role mode allowance chars t.names t.constants names row

  abbrev done_in : Tabled X → ℕ → Result Done StatementRefusal
  done_in t k = done_by chars t k row names (sought_in t)

  abbrev left_in : Tabled X → ℕ → Result (Left X) StatementRefusal
  left_in t k = left_by chars t k row names (sought_in t)

  module _ (t u : Tabled X) (same : t ≡ u) (j k : ℕ) (number : j ≡ k) (new : Names X) (after : new ≡ names_of names (left_in t j)) where
    left_names : new ≡ names_of names (left_in u k)
    left_names = after ∙ ap (λ (x : Tabled X). names_of names (left_in x j)) same ∙ ap (λ (x : ℕ). names_of names (left_in u x)) number

    pub done_at : (d : Done) → Ok d ≡ done_in t j → stepped (sought_in u) (left_in u k) ≡ Ok (record { scanned = d.scanned; left = record { names = new; next = d.next } })
    done_at d q =
        done_stepped chars u k row names (sought_in u) d (q ∙ ap (λ (x : Tabled X). done_in x j) same ∙ ap (done_in u) number)
        ∙ ap (λ (x : Names X). Ok (record { scanned = d.scanned; left = record { names = x; next = d.next } })) (sym left_names)

    pub refused_at : (e : StatementRefusal) → Err e ≡ done_in t j → (stepped (sought_in u) (left_in u k) ≡ Err (stated e)) × (new ≡ names)
    refused_at e q =
        let r = refused_stepped chars u k row names (sought_in u) e (q ∙ ap (λ (x : Tabled X). done_in x j) same ∙ ap (done_in u) number) in
        (r.0, left_names ∙ r.1)
