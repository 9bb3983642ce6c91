-- What each token of a line without fault gives fits the sheet. Assumes nothing.
use Rattle.std.proofs.Common.{◌≡◌, ℕ, ◌+◌, ◌≤◌, Bool, true, false, cond, not, ◌&&◌, ltb, List, [], ◌∷◌, length, Some, None, Option, refl, ap, ◌∙◌, arith}
use Rattle.std.specs.List.{flat_map, AllByRecursion}
use Rattle.std.proofs.lemmas.List.{length-append}
use Rattle.std.proofs.lemmas.Bool.{false≢true, lt-ltb}
use Rattle.lines.specs.declared.role.Role.{Role}
use Rattle.lines.specs.declared.token.Token.{Token}
use Rattle.lines.specs.Tokens.{token}
use Rattle.constants.specs.Constants.{token_symbols}
use Rattle.sheets.specs.declared.fault.Cause.{Cause}
use Rattle.sheets.specs.declared.fault.Fault.{Fault}
use Rattle.sheets.specs.Faults.{fault}
use Rattle.sheets.specs.Items.{indirect, word, spelling, sort_of, sort_brings, brings_name}
use Rattle.sheets.specs.Labels.{goes_to, role_goes, known, token_text, token_unknown, unknown_from}
use Rattle.sheets.specs.Tallies.{or_else}
use Rattle.changes.specs.Success.{In}
use Rattle.tables.specs.declared.name.Name.{Name}
use Rattle.tables.specs.declared.row.Operand.{Operand}
use Rattle.tables.specs.declared.row.Reference.{Reference}
use Rattle.tables.specs.declared.row.Target.{Target}
use Rattle.rows.specs.declared.entry.Entry.{Entry}
use Rattle.rows.specs.Entries.{name_number, reference_of, destination, target_of, entry_of, entries_from}
use Rattle.rows.specs.Givens.{in_front}
use Rattle.rows.specs.Labels.{name_label}
use Rattle.checks.specs.Fits.{number_in}
use Rattle.checks.specs.Sound.{Given, Short, Sound-operand, Sound-item, Sound-target}
use Rattle.fitting.proofs.Names.{Among, among_numbered, known_next}
use Rattle.fitting.proofs.Tokens.{Good}

-- what a token gives fits n names, s statements and c constants
abbrev pub Sound-entry : ℕ → ℕ → ℕ → Entry Name → Type 0
Sound-entry n s c (Entry.Label x) = Short x
Sound-entry n s c (Entry.Reference x) = In n (number_in x)
Sound-entry n s c (Entry.Element x) = Sound-item n c x
Sound-entry n s c Entry.Equal = Unit {0}
Sound-entry n s c (Entry.Operand x) = Sound-operand n c x
Sound-entry n s c (Entry.Both g) = Sound-target n s g
Sound-entry n s c (Entry.OnS g) = Sound-target n s g
Sound-entry n s c (Entry.OnF g) = Sound-target n s g

-- one sound thing more, if there is one
pub front_sound : {B : Type 0} (P : B → Type 0) (o : Option B) (ys : List B) → Given P o → AllByRecursion P ys → AllByRecursion P (in_front o ys)
front_sound P None ys p q = q
front_sound P (Some y) ys p q = (p, q)

-- a token whose label is known, where it goes to one
pub told_known : (labels : List (List ℕ)) (line : List ℕ) (t : Token) → token_unknown labels line t ≡ None → goes_to line t ≡ true → known labels (token_text line t) ≡ true
told_known labels line t e g = go (goes_to line t) (known labels (token_text line t)) g e
  where
    go : (a b : Bool) → a ≡ true → cond (a && not b) (Some (fault (t.start + 1) Cause.UnknownLabel)) None ≡ None → b ≡ true
    go true true p q = refl
    go true false p q = absurd (let z : ◌≡◌ {A = ℕ} 0 1 = cc in omega arith)
    go false b p q = absurd (false≢true p)

pub or_else_none : (a b : Option Fault) → or_else a b ≡ None → (a ≡ None) × (b ≡ None)
or_else_none None b e = (refl, e)
or_else_none (Some f) b e = absurd (let z : ◌≡◌ {A = ℕ} 0 1 = cc in omega arith)

module _ (names labels : List (List ℕ)) (line : List ℕ) where
  -- a token of a statement line, its name among the names and its label known
  pub record Settled (t : Token) : Type 0 where
    pub good : Good line t
    pub named : brings_name line t ≡ true → Among (spelling line t) names
    pub told : token_unknown labels line t ≡ None

  module _ (t : Token) (h : Settled t) where
    -- a name has a number
    number_sound : sort_brings (sort_of t.role) (indirect line t) ≡ true → In (length names) (name_number names line t)
    number_sound b = among_numbered (spelling line t) names (h.named (both (sort_brings (sort_of t.role) (indirect line t)) b (lt-ltb 0 (word line t).size (h.good.spelled b))))
      where
        both : (x : Bool) → x ≡ true → ltb 0 (word line t).size ≡ true → (x && ltb 0 (word line t).size) ≡ true
        both true e f = f
        both false e f = absurd (false≢true e)

    reference_sound : sort_brings (sort_of t.role) (indirect line t) ≡ true → In (length names) (number_in (reference_of names line t))
    reference_sound b = go (indirect line t) (number_sound b)
      where
        go : (d : Bool) → In (length names) (name_number names line t)
            → In (length names) (number_in (cond d (Reference.Through (name_number names line t)) (Reference.Named (name_number names line t))))
        go true k = k
        go false k = k

    target_sound : ((d : Bool) → sort_brings (sort_of t.role) d ≡ d) → ((d : Bool) → role_goes t.role d ≡ not d)
        → Sound-target (length names) (length labels) (target_of names labels line t)
    target_sound brings goes = go (indirect line t) refl
      where
        go : (d : Bool) → indirect line t ≡ d
            → Sound-target (length names) (length labels) (cond d (Target.Through (name_number names line t)) (Target.To (destination labels (token_text line t))))
        go true e = number_sound (brings (indirect line t) ∙ e)
        go false e = known_next labels (token_text line t) (told_known labels line t h.told (goes (indirect line t) ∙ ap not e))

  module _ (from constants : ℕ) (o : Operand) (literal : Sound-operand (length names) constants o) where
    entry_sound : (r : Role) (k n : ℕ) → Settled (token r k n) → Given (Sound-entry (length names) (length labels) constants) (entry_of name_label names labels from line (token r k n) o)
    entry_sound Role.Between k n h = tt
    entry_sound Role.Label k n h = omega arith
    entry_sound Role.Start k n h = tt
    entry_sound Role.Reference k n h = reference_sound (token Role.Reference k n) h refl
    entry_sound Role.Element k n h = reference_sound (token Role.Element k n) h refl
    entry_sound Role.LiteralElement k n h = literal
    entry_sound Role.Star k n h = tt
    entry_sound Role.Variable k n h = (number_sound (token Role.Variable k n) h refl, h.good.formed refl)
    entry_sound Role.Group k n h = (number_sound (token Role.Group k n) h refl, tt)
    entry_sound Role.Length k n h = tt
    entry_sound Role.Equal k n h = tt
    entry_sound Role.Operand k n h = reference_sound (token Role.Operand k n) h refl
    entry_sound Role.LiteralOperand k n h = literal
    entry_sound Role.Both k n h = target_sound (token Role.Both k n) h (λ _. refl) (λ _. refl)
    entry_sound Role.OnS k n h = target_sound (token Role.OnS k n) h (λ _. refl) (λ _. refl)
    entry_sound Role.OnF k n h = target_sound (token Role.OnF k n) h (λ _. refl) (λ _. refl)

  pub all_settled : (ts : List Token) → AllByRecursion (Good line) ts → AllByRecursion (λ t. brings_name line t ≡ true → Among (spelling line t) names) ts → unknown_from labels line ts ≡ None → AllByRecursion Settled ts
  unfolding unknown_from
  all_settled [] g n u = tt
  all_settled (t ∷ ts) g n u =
      let p = or_else_none (token_unknown labels line t) (unknown_from labels line ts) u in
      (record { good = g.0; named = n.0; told = p.0 }, all_settled ts g.1 n.1 p.1)

  module _ {X : Type 0} (meant : List ℕ → Option X) (wide from constants : ℕ) where
    pub entries_sound : (at : ℕ) (ts : List Token) → AllByRecursion Settled ts → at + length (flat_map (token_symbols meant wide line) ts) ≤ constants
        → AllByRecursion (Sound-entry (length names) (length labels) constants) (entries_from name_label names labels from line meant wide at ts)
    unfolding entries_from
    entries_sound at [] h l = tt
    entries_sound at (t ∷ ts) h l =
        let a = length-append (token_symbols meant wide line t) (flat_map (token_symbols meant wide line) ts) in
        let o : ℕ = at + length (token_symbols meant wide line t) in
        front_sound (Sound-entry (length names) (length labels) constants) (entry_of name_label names labels from line t (Operand.Literal at o)) _
        (entry_sound from constants (Operand.Literal at o) (omega arith, omega (arith, a)) t.role t.start t.size h.0)
        (entries_sound o ts h.1 (omega (arith, a)))
