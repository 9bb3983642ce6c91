-- A statement line that is not END's has a string reference. Assumes nothing.
use Rattle.std.proofs.Common.{◌≡◌, ℕ, ◌+◌, Bool, true, false, cond, ◌&&◌, ◌||◌, eqb, leb, ◌⊎◌, List, [], ◌∷◌, take, Some, None, codes, Option, sym, refl, ap, ◌∙◌, subst, inl, inr, ⊎_elim}
use Rattle.std.proofs.lemmas.Bool.{false≢true, both_ways, eqb-true, cond_both, or_left, or_right, or_cases}
use Rattle.std.specs.Str.{bytes_eq}
use Rattle.lines.specs.declared.mark.Mark.{Mark}
use Rattle.lines.specs.declared.mark.Mark.TheVariants.{Blank, LetterE, LetterN, LetterD, LetterS, LetterF, Letter, Zero, OneToThree, Four, FiveSix, SevenEight, Nine, Period, Quote, Dollar, Star, Slash, Open, Close, Equal, Other}
use Rattle.lines.specs.declared.reading.Section.{Section}
use Rattle.lines.specs.declared.reading.LabelReading.{LabelReading}
use Rattle.lines.specs.declared.reading.Reading.{Reading}
use Rattle.lines.specs.declared.role.Role.{Role}
use Rattle.lines.specs.declared.token.Token.{Token}
use Rattle.lines.specs.Marks.{mark_of}
use Rattle.lines.specs.Next.{beginning, next}
use Rattle.lines.specs.Roles.{same_role, role_of, roles_from, on_roles}
use Rattle.lines.specs.Tokens.{token, extend, runs, tokens_from, tokens}
use Rattle.lines.proofs.Runs.{same_roles}
use Rattle.lines.proofs.Steps.{AllMarks, at}
use Rattle.lines.proofs.Walk.{lands, onto}
use Rattle.sheets.specs.LineFaults.{label, label_size, labelled_end}
use Rattle.fitting.proofs.Tokens.{Led, led_extend}

-- some token is a string reference
unfoldable pub refers : List Token → Bool
refers [] = false
refers (t ∷ ts) = same_role t.role Role.Reference || refers ts

-- tokens keep theirs, and a character in that role is one
refers_behind : (k : ℕ) (r : Role) (ts : List Token) → refers ts ≡ true → refers (extend k r 1 ts) ≡ true
unfolding refers
refers_behind k r [] h = absurd (false≢true h)
refers_behind k r (t ∷ ts) h = go (same_role r t.role) refl
  where
    go : (b : Bool) → same_role r t.role ≡ b → refers (cond b (token r k (1 + t.size) ∷ ts) (token r k 1 ∷ t ∷ ts)) ≡ true
    go true e = subst (λ (x : Role). (same_role x Role.Reference || refers ts) ≡ true) (sym (same_roles r t.role e)) h
    go false e = or_right (same_role r Role.Reference) (refers (t ∷ ts)) h

refers_here : (k : ℕ) (r : Role) (ts : List Token) → same_role r Role.Reference ≡ true → refers (extend k r 1 ts) ≡ true
unfolding refers
refers_here k r [] h = or_left (same_role r Role.Reference) false h
refers_here k r (t ∷ ts) h = go (same_role r t.role)
  where
    go : (b : Bool) → refers (cond b (token r k (1 + t.size) ∷ ts) (token r k 1 ∷ t ∷ ts)) ≡ true
    go true = or_left (same_role r Role.Reference) (refers ts) h
    go false = or_left (same_role r Role.Reference) (refers (t ∷ ts)) h

-- the string reference is still to come, and the label is not END
abbrev early : Reading → Bool
early (Reading.Label LabelReading.Begin) = false
early (Reading.Label LabelReading.E) = false
early (Reading.Label LabelReading.En) = false
early (Reading.Label LabelReading.End) = false
early (Reading.Label LabelReading.Name) = true
early (Reading.Label LabelReading.Dot) = true
early (Reading.Gap Section.Reference) = true
early (Reading.Gap Section.Start) = false
early (Reading.Gap Section.Pattern) = false
early (Reading.Gap Section.Right) = false
early (Reading.Gap Section.Tail) = false
early Reading.Start = false
early Reading.StartDot = false
early (Reading.Dollar p) = false
early (Reading.Named p) = false
early (Reading.Dotted p) = false
early (Reading.Literal x) = false
early (Reading.Closed x) = false
early Reading.Equal = false
early (Reading.Variable x) = false
early (Reading.Go x) = false

-- a character leads nowhere, to the reference, or not past it
abbrev held : Option Reading → Bool
held None = true
held (Some r) = early r || same_role (role_of r) Role.Reference

in_name : AllMarks (λ m. held (next (Reading.Label LabelReading.Name) m) ≡ true)
in_name = (refl, refl, refl, refl, refl, refl, refl, refl, refl, refl, refl, refl, refl, refl, refl, refl, refl, refl, refl, refl, refl, refl)

in_dot : AllMarks (λ m. held (next (Reading.Label LabelReading.Dot) m) ≡ true)
in_dot = (refl, refl, refl, refl, refl, refl, refl, refl, refl, refl, refl, refl, refl, refl, refl, refl, refl, refl, refl, refl, refl, refl)

in_gap : AllMarks (λ m. held (next (Reading.Gap Section.Reference) m) ≡ true)
in_gap = (refl, refl, refl, refl, refl, refl, refl, refl, refl, refl, refl, refl, refl, refl, refl, refl, refl, refl, refl, refl, refl, refl)

held_on : (q : Reading) → early q ≡ true → (m : Mark) → held (next q m) ≡ true
held_on (Reading.Label LabelReading.Name) e m = at (λ m. held (next (Reading.Label LabelReading.Name) m) ≡ true) in_name m
held_on (Reading.Label LabelReading.Dot) e m = at (λ m. held (next (Reading.Label LabelReading.Dot) m) ≡ true) in_dot m
held_on (Reading.Gap Section.Reference) e m = at (λ m. held (next (Reading.Gap Section.Reference) m) ≡ true) in_gap m
held_on (Reading.Label LabelReading.Begin) e m = absurd (false≢true e)
held_on (Reading.Label LabelReading.E) e m = absurd (false≢true e)
held_on (Reading.Label LabelReading.En) e m = absurd (false≢true e)
held_on (Reading.Label LabelReading.End) e m = absurd (false≢true e)
held_on (Reading.Gap Section.Start) e m = absurd (false≢true e)
held_on (Reading.Gap Section.Pattern) e m = absurd (false≢true e)
held_on (Reading.Gap Section.Right) e m = absurd (false≢true e)
held_on (Reading.Gap Section.Tail) e m = absurd (false≢true e)
held_on Reading.Start e m = absurd (false≢true e)
held_on Reading.StartDot e m = absurd (false≢true e)
held_on (Reading.Dollar p) e m = absurd (false≢true e)
held_on (Reading.Named p) e m = absurd (false≢true e)
held_on (Reading.Dotted p) e m = absurd (false≢true e)
held_on (Reading.Literal x) e m = absurd (false≢true e)
held_on (Reading.Closed x) e m = absurd (false≢true e)
held_on Reading.Equal e m = absurd (false≢true e)
held_on (Reading.Variable x) e m = absurd (false≢true e)
held_on (Reading.Go x) e m = absurd (false≢true e)

not_yet : (q : Reading) → early q ≡ true → lands q [] ≡ true → ⊥
unfolding lands
not_yet (Reading.Label x) e l = false≢true l
not_yet (Reading.Gap Section.Reference) e l = false≢true l
not_yet (Reading.Gap Section.Start) e l = false≢true l
not_yet (Reading.Gap Section.Pattern) e l = false≢true e
not_yet (Reading.Gap Section.Right) e l = false≢true e
not_yet (Reading.Gap Section.Tail) e l = false≢true e
not_yet Reading.Start e l = false≢true e
not_yet Reading.StartDot e l = false≢true e
not_yet (Reading.Dollar p) e l = false≢true e
not_yet (Reading.Named p) e l = false≢true e
not_yet (Reading.Dotted p) e l = false≢true e
not_yet (Reading.Literal x) e l = false≢true e
not_yet (Reading.Closed x) e l = false≢true e
not_yet Reading.Equal e l = false≢true e
not_yet (Reading.Variable x) e l = false≢true e
not_yet (Reading.Go x) e l = false≢true e

-- a line that stands has its reference behind
refers_from : (q : Reading) (k : ℕ) (s : List ℕ) → early q ≡ true → lands q s ≡ true → refers (runs k (roles_from q s)) ≡ true
unfolding lands runs roles_from
refers_from q k [] e l = absurd (not_yet q e l)
refers_from q k (c ∷ s) e l = go (next q (mark_of c)) (held_on q e (mark_of c)) l (λ r f m. refers_from r (k + 1) s f m)
  where
    go : (o : Option Reading) → held o ≡ true → onto o (λ r. lands r s) ≡ true
        → ((r : Reading) → early r ≡ true → lands r s ≡ true → refers (runs (k + 1) (roles_from r s)) ≡ true)
        → refers (runs k (on_roles o (λ r. role_of r ∷ roles_from r s))) ≡ true
    go None h m ih = absurd (false≢true m)
    go (Some r) h m ih = ⊎_elim
        (λ f. refers_behind k (role_of r) (runs (k + 1) (roles_from r s)) (ih r f m))
        (λ f. refers_here k (role_of r) (runs (k + 1) (roles_from r s)) f)
        (or_cases (early r) (same_role (role_of r) Role.Reference) h)

-- the letters of END and the blank by their codes
abbrev Code : ℕ → Mark → Type 0
Code c Blank = c ≡ 32
Code c LetterE = c ≡ 69
Code c LetterN = c ≡ 78
Code c LetterD = c ≡ 68
Code c LetterS = Unit {0}
Code c LetterF = Unit {0}
Code c Letter = Unit {0}
Code c Zero = Unit {0}
Code c OneToThree = Unit {0}
Code c Four = Unit {0}
Code c FiveSix = Unit {0}
Code c SevenEight = Unit {0}
Code c Nine = Unit {0}
Code c Period = Unit {0}
Code c Quote = Unit {0}
Code c Dollar = Unit {0}
Code c Star = Unit {0}
Code c Slash = Unit {0}
Code c Open = Unit {0}
Code c Close = Unit {0}
Code c Equal = Unit {0}
Code c Other = Unit {0}

code : (c : ℕ) → Code c (mark_of c)
code c =
    cond_both (eqb c 32) Blank _ (Code c) (λ e. eqb-true c 32 e)
    (λ _. cond_both (eqb c 69) LetterE _ (Code c) (λ e. eqb-true c 69 e)
    (λ _. cond_both (eqb c 78) LetterN _ (Code c) (λ e. eqb-true c 78 e)
    (λ _. cond_both (eqb c 68) LetterD _ (Code c) (λ e. eqb-true c 68 e)
    (λ _. cond_both (eqb c 83) LetterS _ (Code c) (λ _. tt)
    (λ _. cond_both (eqb c 70) LetterF _ (Code c) (λ _. tt)
    (λ _. cond_both (leb 65 c && leb c 90) Letter _ (Code c) (λ _. tt)
    (λ _. cond_both (eqb c 48) Zero _ (Code c) (λ _. tt)
    (λ _. cond_both (leb 49 c && leb c 51) OneToThree _ (Code c) (λ _. tt)
    (λ _. cond_both (eqb c 52) Four _ (Code c) (λ _. tt)
    (λ _. cond_both (leb 53 c && leb c 54) FiveSix _ (Code c) (λ _. tt)
    (λ _. cond_both (leb 55 c && leb c 56) SevenEight _ (Code c) (λ _. tt)
    (λ _. cond_both (eqb c 57) Nine _ (Code c) (λ _. tt)
    (λ _. cond_both (eqb c 46) Period _ (Code c) (λ _. tt)
    (λ _. cond_both (eqb c 34) Quote _ (Code c) (λ _. tt)
    (λ _. cond_both (eqb c 36) Dollar _ (Code c) (λ _. tt)
    (λ _. cond_both (eqb c 42) Star _ (Code c) (λ _. tt)
    (λ _. cond_both (eqb c 47) Slash _ (Code c) (λ _. tt)
    (λ _. cond_both (eqb c 40) Open _ (Code c) (λ _. tt)
    (λ _. cond_both (eqb c 41) Close _ (Code c) (λ _. tt)
    (λ _. cond_both (eqb c 61) Equal _ (Code c) (λ _. tt) (λ _. tt)))))))))))))))))))))

-- the label of tokens that begin with END's and a blank
end_sized : (ts : List Token) → Led Role.Between ts → label_size (extend 0 Role.Label 1 (extend 1 Role.Label 1 (extend 2 Role.Label 1 ts))) ≡ 3
end_sized [] h = absurd h
end_sized (t ∷ ts) h = rw h

-- after `END` and a blank the label is END
end_labelled : (s : List ℕ) → labelled_end (69 ∷ 78 ∷ 68 ∷ 32 ∷ s) ≡ true
unfolding label tokens_from runs roles_from
end_labelled s =
    ap (λ (n : ℕ). bytes_eq (take n (69 ∷ 78 ∷ 68 ∷ 32 ∷ s)) (codes "END"))
    (end_sized (extend 3 Role.Between 1 (runs 4 (roles_from (Reading.Gap Section.Start) s))) (led_extend 3 1 Role.Between (runs 4 (roles_from (Reading.Gap Section.Start) s))))

refers_held : (q : Reading) (k c : ℕ) (s : List ℕ) → held (next q (mark_of c)) ≡ true → lands q (c ∷ s) ≡ true → refers (runs k (roles_from q (c ∷ s))) ≡ true
unfolding lands runs roles_from
refers_held q k c s h l = go (next q (mark_of c)) h l
  where
    go : (o : Option Reading) → held o ≡ true → onto o (λ r. lands r s) ≡ true → refers (runs k (on_roles o (λ r. role_of r ∷ roles_from r s))) ≡ true
    go None h m = absurd (false≢true m)
    go (Some r) h m = ⊎_elim
        (λ f. refers_behind k (role_of r) (runs (k + 1) (roles_from r s)) (refers_from r (k + 1) s f m))
        (λ f. refers_here k (role_of r) (runs (k + 1) (roles_from r s)) f)
        (or_cases (early r) (same_role (role_of r) Role.Reference) h)

on_end : AllMarks (λ m. (m ≡ Blank) ⊎ (held (next (Reading.Label LabelReading.End) m) ≡ true))
on_end = (inl refl, inr refl, inr refl, inr refl, inr refl, inr refl, inr refl, inr refl, inr refl, inr refl, inr refl, inr refl, inr refl, inr refl, inr refl, inr refl, inr refl, inr refl, inr refl, inr refl, inr refl, inr refl)

from_end : (s : List ℕ) → lands (Reading.Label LabelReading.End) s ≡ true
    → ((x : List ℕ) × (s ≡ 32 ∷ x)) ⊎ (refers (runs 3 (roles_from (Reading.Label LabelReading.End) s)) ≡ true)
unfolding lands runs roles_from
from_end [] l = absurd (false≢true l)
from_end (c ∷ s) l = go (at (λ m. (m ≡ Blank) ⊎ (held (next (Reading.Label LabelReading.End) m) ≡ true)) on_end (mark_of c))
  where
    go : (mark_of c ≡ Blank) ⊎ (held (next (Reading.Label LabelReading.End) (mark_of c)) ≡ true)
        → ((x : List ℕ) × (c ∷ s ≡ 32 ∷ x)) ⊎ (refers (runs 3 (roles_from (Reading.Label LabelReading.End) (c ∷ s))) ≡ true)
    go (inr h) = inr (refers_held (Reading.Label LabelReading.End) 3 c s h l)
    go (inl e) = let f : c ≡ 32 = subst (Code c) e (code c) in inl (s, ap (λ (y : ℕ). y ∷ s) f)

on_en : AllMarks (λ m. (m ≡ LetterD) ⊎ (held (next (Reading.Label LabelReading.En) m) ≡ true))
on_en = (inr refl, inr refl, inr refl, inl refl, inr refl, inr refl, inr refl, inr refl, inr refl, inr refl, inr refl, inr refl, inr refl, inr refl, inr refl, inr refl, inr refl, inr refl, inr refl, inr refl, inr refl, inr refl)

from_en : (s : List ℕ) → lands (Reading.Label LabelReading.En) s ≡ true
    → ((x : List ℕ) × (s ≡ 68 ∷ 32 ∷ x)) ⊎ (refers (runs 2 (roles_from (Reading.Label LabelReading.En) s)) ≡ true)
unfolding lands runs roles_from
from_en [] l = absurd (false≢true l)
from_en (c ∷ s) l = go (at (λ m. (m ≡ LetterD) ⊎ (held (next (Reading.Label LabelReading.En) m) ≡ true)) on_en (mark_of c))
  where
    go : (mark_of c ≡ LetterD) ⊎ (held (next (Reading.Label LabelReading.En) (mark_of c)) ≡ true)
        → ((x : List ℕ) × (c ∷ s ≡ 68 ∷ 32 ∷ x)) ⊎ (refers (runs 2 (roles_from (Reading.Label LabelReading.En) (c ∷ s))) ≡ true)
    go (inr h) = inr (refers_held (Reading.Label LabelReading.En) 2 c s h l)
    go (inl e) = on (subst (Code c) e (code c))
      where
        on : c ≡ 68 → ((x : List ℕ) × (c ∷ s ≡ 68 ∷ 32 ∷ x)) ⊎ (refers (runs 2 (roles_from (Reading.Label LabelReading.En) (c ∷ s))) ≡ true)
        on f =
            ⊎_elim (λ w. inl (w.0, ap (λ (y : ℕ). y ∷ s) f ∙ ap (λ (y : List ℕ). 68 ∷ y) w.1))
            (λ h. inr (subst (λ (y : ℕ). refers (runs 2 (roles_from (Reading.Label LabelReading.En) (y ∷ s))) ≡ true) (sym f)
            (refers_behind 2 Role.Label (runs 3 (roles_from (Reading.Label LabelReading.End) s)) h)))
            (from_end s (subst (λ (y : ℕ). lands (Reading.Label LabelReading.En) (y ∷ s) ≡ true) f l))

on_e : AllMarks (λ m. (m ≡ LetterN) ⊎ (held (next (Reading.Label LabelReading.E) m) ≡ true))
on_e = (inr refl, inr refl, inl refl, inr refl, inr refl, inr refl, inr refl, inr refl, inr refl, inr refl, inr refl, inr refl, inr refl, inr refl, inr refl, inr refl, inr refl, inr refl, inr refl, inr refl, inr refl, inr refl)

from_e : (s : List ℕ) → lands (Reading.Label LabelReading.E) s ≡ true
    → ((x : List ℕ) × (s ≡ 78 ∷ 68 ∷ 32 ∷ x)) ⊎ (refers (runs 1 (roles_from (Reading.Label LabelReading.E) s)) ≡ true)
unfolding lands runs roles_from
from_e [] l = absurd (false≢true l)
from_e (c ∷ s) l = go (at (λ m. (m ≡ LetterN) ⊎ (held (next (Reading.Label LabelReading.E) m) ≡ true)) on_e (mark_of c))
  where
    go : (mark_of c ≡ LetterN) ⊎ (held (next (Reading.Label LabelReading.E) (mark_of c)) ≡ true)
        → ((x : List ℕ) × (c ∷ s ≡ 78 ∷ 68 ∷ 32 ∷ x)) ⊎ (refers (runs 1 (roles_from (Reading.Label LabelReading.E) (c ∷ s))) ≡ true)
    go (inr h) = inr (refers_held (Reading.Label LabelReading.E) 1 c s h l)
    go (inl e) = on (subst (Code c) e (code c))
      where
        on : c ≡ 78 → ((x : List ℕ) × (c ∷ s ≡ 78 ∷ 68 ∷ 32 ∷ x)) ⊎ (refers (runs 1 (roles_from (Reading.Label LabelReading.E) (c ∷ s))) ≡ true)
        on f =
            ⊎_elim (λ w. inl (w.0, ap (λ (y : ℕ). y ∷ s) f ∙ ap (λ (y : List ℕ). 78 ∷ y) w.1))
            (λ h. inr (subst (λ (y : ℕ). refers (runs 1 (roles_from (Reading.Label LabelReading.E) (y ∷ s))) ≡ true) (sym f)
            (refers_behind 1 Role.Label (runs 2 (roles_from (Reading.Label LabelReading.En) s)) h)))
            (from_en s (subst (λ (y : ℕ). lands (Reading.Label LabelReading.E) (y ∷ s) ≡ true) f l))

on_begin : AllMarks (λ m. (m ≡ LetterE) ⊎ (held (next (Reading.Label LabelReading.Begin) m) ≡ true))
on_begin = (inr refl, inl refl, inr refl, inr refl, inr refl, inr refl, inr refl, inr refl, inr refl, inr refl, inr refl, inr refl, inr refl, inr refl, inr refl, inr refl, inr refl, inr refl, inr refl, inr refl, inr refl, inr refl)

from_begin : (s : List ℕ) → lands (Reading.Label LabelReading.Begin) s ≡ true
    → ((x : List ℕ) × (s ≡ 69 ∷ 78 ∷ 68 ∷ 32 ∷ x)) ⊎ (refers (runs 0 (roles_from (Reading.Label LabelReading.Begin) s)) ≡ true)
unfolding lands runs roles_from
from_begin [] l = absurd (false≢true l)
from_begin (c ∷ s) l = go (at (λ m. (m ≡ LetterE) ⊎ (held (next (Reading.Label LabelReading.Begin) m) ≡ true)) on_begin (mark_of c))
  where
    go : (mark_of c ≡ LetterE) ⊎ (held (next (Reading.Label LabelReading.Begin) (mark_of c)) ≡ true)
        → ((x : List ℕ) × (c ∷ s ≡ 69 ∷ 78 ∷ 68 ∷ 32 ∷ x)) ⊎ (refers (runs 0 (roles_from (Reading.Label LabelReading.Begin) (c ∷ s))) ≡ true)
    go (inr h) = inr (refers_held (Reading.Label LabelReading.Begin) 0 c s h l)
    go (inl e) = on (subst (Code c) e (code c))
      where
        on : c ≡ 69 → ((x : List ℕ) × (c ∷ s ≡ 69 ∷ 78 ∷ 68 ∷ 32 ∷ x)) ⊎ (refers (runs 0 (roles_from (Reading.Label LabelReading.Begin) (c ∷ s))) ≡ true)
        on f =
            ⊎_elim (λ w. inl (w.0, ap (λ (y : ℕ). y ∷ s) f ∙ ap (λ (y : List ℕ). 69 ∷ y) w.1))
            (λ h. inr (subst (λ (y : ℕ). refers (runs 0 (roles_from (Reading.Label LabelReading.Begin) (y ∷ s))) ≡ true) (sym f)
            (refers_behind 0 Role.Label (runs 1 (roles_from (Reading.Label LabelReading.E) s)) h)))
            (from_e s (subst (λ (y : ℕ). lands (Reading.Label LabelReading.Begin) (y ∷ s) ≡ true) f l))

-- a statement line has a string reference, unless its label is END
pub referred : (line : List ℕ) → lands beginning line ≡ true → labelled_end line ≡ false → refers (tokens line) ≡ true
unfolding tokens_from
referred line l e =
    ⊎_elim (λ w. absurd (both_ways (labelled_end line) e (ap labelled_end w.1 ∙ end_labelled w.0))) (λ h. h) (from_begin line l)
