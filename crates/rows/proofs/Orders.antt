-- The operands of a right side stand behind the `=` of their line. Assumes nothing.
use Rattle.std.proofs.Common.{◌≡◌, ℕ, ◌+◌, Bool, true, false, cond, not, ◌&&◌, ◌||◌, List, [], ◌∷◌, length, Some, None, Option, refl, sym, subst, ⊎_elim}
use Rattle.std.proofs.lemmas.Bool.{false≢true, and_parts, and_from, or_cases, or_left, or_right}
use Rattle.lines.specs.declared.mark.Mark.{Mark}
use Rattle.lines.specs.declared.reading.Way.{Way}
use Rattle.lines.specs.declared.reading.Place.{Place}
use Rattle.lines.specs.declared.reading.Section.{Section}
use Rattle.lines.specs.declared.reading.Side.{Side}
use Rattle.lines.specs.declared.reading.Room.{Room}
use Rattle.lines.specs.declared.reading.LabelReading.{LabelReading}
use Rattle.lines.specs.declared.reading.VariableReading.{VariableReading}
use Rattle.lines.specs.declared.reading.GoReading.{GoReading}
use Rattle.lines.specs.declared.reading.Reading.{Reading}
use Rattle.lines.specs.declared.role.Role.{Role}
use Rattle.lines.specs.declared.token.Token.{Token}
use Rattle.lines.specs.Marks.{mark_of}
use Rattle.lines.specs.Next.{beginning, next}
use Rattle.lines.specs.Roles.{same_role, role_of, roles_from, on_roles}
use Rattle.lines.specs.Tokens.{token, extend, runs, tokens_from, tokens}
use Rattle.lines.proofs.Runs.{same_roles}
use Rattle.lines.proofs.Steps.{at}
use Rattle.constants.specs.Constants.{token_symbols}
use Rattle.tables.specs.declared.row.Operand.{Operand}
use Rattle.rows.specs.declared.entry.Entry.{Entry}
use Rattle.rows.specs.Entries.{entry_of, entries_from}
use Rattle.rows.specs.Givens.{in_front}
use Rattle.rows.proofs.Filling.{ordered}

-- the role of a right side operand
abbrev operates : Role → Bool
operates r = same_role r Role.Operand || same_role r Role.LiteralOperand

-- a token that may come where all behind it is `rest` in order
abbrev fits : Role → Bool → Bool
fits r rest = same_role r Role.Equal || (not (operates r) && rest)

-- no operand comes before `=`
unfoldable fair : List Token → Bool
fair [] = true
fair (t ∷ ts) = fits t.role (fair ts)

twice : (x y z : Bool) → (x || (y && (x || (y && z)))) ≡ true → (x || (y && z)) ≡ true
twice true y z h = refl
twice false true z h = h
twice false false z h = h

fair_extend : (k n : ℕ) (r : Role) (ts : List Token) → fits r (fair ts) ≡ true → fair (extend k r n ts) ≡ true
unfolding fair
fair_extend k n r [] h = h
fair_extend k n r (t ∷ ts) h = go (same_role r t.role) refl
  where
    go : (b : Bool) → same_role r t.role ≡ b → fair (cond b (token r k (n + t.size) ∷ ts) (token r k n ∷ t ∷ ts)) ≡ true
    go true e =
        twice (same_role r Role.Equal) (not (operates r)) (fair ts)
        (subst (λ (x : Role). fits r (fits x (fair ts)) ≡ true) (sym (same_roles r t.role e)) h)
    go false e = h

abbrev left_place : Place → Bool
left_place Place.Reference = true
left_place Place.Element = true
left_place Place.Operand = false
left_place (Place.Target way) = true

abbrev left_side : Side → Bool
left_side Side.Pattern = true
left_side Side.Right = false

abbrev left_gap : Section → Bool
left_gap Section.Reference = true
left_gap Section.Start = true
left_gap Section.Pattern = true
left_gap Section.Right = false
left_gap Section.Tail = true

-- what was read stands outside a right side
abbrev left : Reading → Bool
left (Reading.Label x) = true
left (Reading.Gap section) = left_gap section
left Reading.Start = true
left Reading.StartDot = true
left (Reading.Dollar place) = left_place place
left (Reading.Named place) = left_place place
left (Reading.Dotted place) = left_place place
left (Reading.Literal side) = left_side side
left (Reading.Closed side) = left_side side
left Reading.Equal = false
left (Reading.Variable x) = true
left (Reading.Go x) = true

-- a character leads nowhere, to `=`, or to what is no operand and outside a right side
abbrev ok : Option Reading → Bool
ok None = true
ok (Some r) = same_role (role_of r) Role.Equal || (not (operates (role_of r)) && left r)

kept : (q : Reading) → left q ≡ true → (m : Mark) → ok (next q m) ≡ true
kept (Reading.Label LabelReading.Begin) l m = at (λ m. ok (next (Reading.Label LabelReading.Begin) m) ≡ true) (refl, refl, refl, refl, refl, refl, refl, refl, refl, refl, refl, refl, refl, refl, refl, refl, refl, refl, refl, refl, refl, refl) m
kept (Reading.Label LabelReading.E) l m = at (λ m. ok (next (Reading.Label LabelReading.E) m) ≡ true) (refl, refl, refl, refl, refl, refl, refl, refl, refl, refl, refl, refl, refl, refl, refl, refl, refl, refl, refl, refl, refl, refl) m
kept (Reading.Label LabelReading.En) l m = at (λ m. ok (next (Reading.Label LabelReading.En) m) ≡ true) (refl, refl, refl, refl, refl, refl, refl, refl, refl, refl, refl, refl, refl, refl, refl, refl, refl, refl, refl, refl, refl, refl) m
kept (Reading.Label LabelReading.End) l m = at (λ m. ok (next (Reading.Label LabelReading.End) m) ≡ true) (refl, refl, refl, refl, refl, refl, refl, refl, refl, refl, refl, refl, refl, refl, refl, refl, refl, refl, refl, refl, refl, refl) m
kept (Reading.Label LabelReading.Name) l m = at (λ m. ok (next (Reading.Label LabelReading.Name) m) ≡ true) (refl, refl, refl, refl, refl, refl, refl, refl, refl, refl, refl, refl, refl, refl, refl, refl, refl, refl, refl, refl, refl, refl) m
kept (Reading.Label LabelReading.Dot) l m = at (λ m. ok (next (Reading.Label LabelReading.Dot) m) ≡ true) (refl, refl, refl, refl, refl, refl, refl, refl, refl, refl, refl, refl, refl, refl, refl, refl, refl, refl, refl, refl, refl, refl) m
kept (Reading.Gap Section.Reference) l m = at (λ m. ok (next (Reading.Gap Section.Reference) m) ≡ true) (refl, refl, refl, refl, refl, refl, refl, refl, refl, refl, refl, refl, refl, refl, refl, refl, refl, refl, refl, refl, refl, refl) m
kept (Reading.Gap Section.Start) l m = at (λ m. ok (next (Reading.Gap Section.Start) m) ≡ true) (refl, refl, refl, refl, refl, refl, refl, refl, refl, refl, refl, refl, refl, refl, refl, refl, refl, refl, refl, refl, refl, refl) m
kept (Reading.Gap Section.Pattern) l m = at (λ m. ok (next (Reading.Gap Section.Pattern) m) ≡ true) (refl, refl, refl, refl, refl, refl, refl, refl, refl, refl, refl, refl, refl, refl, refl, refl, refl, refl, refl, refl, refl, refl) m
kept (Reading.Gap Section.Right) l m = absurd (false≢true l)
kept (Reading.Gap Section.Tail) l m = at (λ m. ok (next (Reading.Gap Section.Tail) m) ≡ true) (refl, refl, refl, refl, refl, refl, refl, refl, refl, refl, refl, refl, refl, refl, refl, refl, refl, refl, refl, refl, refl, refl) m
kept Reading.Start l m = at (λ m. ok (next Reading.Start m) ≡ true) (refl, refl, refl, refl, refl, refl, refl, refl, refl, refl, refl, refl, refl, refl, refl, refl, refl, refl, refl, refl, refl, refl) m
kept Reading.StartDot l m = at (λ m. ok (next Reading.StartDot m) ≡ true) (refl, refl, refl, refl, refl, refl, refl, refl, refl, refl, refl, refl, refl, refl, refl, refl, refl, refl, refl, refl, refl, refl) m
kept (Reading.Dollar Place.Reference) l m = at (λ m. ok (next (Reading.Dollar Place.Reference) m) ≡ true) (refl, refl, refl, refl, refl, refl, refl, refl, refl, refl, refl, refl, refl, refl, refl, refl, refl, refl, refl, refl, refl, refl) m
kept (Reading.Dollar Place.Element) l m = at (λ m. ok (next (Reading.Dollar Place.Element) m) ≡ true) (refl, refl, refl, refl, refl, refl, refl, refl, refl, refl, refl, refl, refl, refl, refl, refl, refl, refl, refl, refl, refl, refl) m
kept (Reading.Dollar Place.Operand) l m = absurd (false≢true l)
kept (Reading.Dollar (Place.Target Way.Both)) l m = at (λ m. ok (next (Reading.Dollar (Place.Target Way.Both)) m) ≡ true) (refl, refl, refl, refl, refl, refl, refl, refl, refl, refl, refl, refl, refl, refl, refl, refl, refl, refl, refl, refl, refl, refl) m
kept (Reading.Dollar (Place.Target Way.FirstS)) l m = at (λ m. ok (next (Reading.Dollar (Place.Target Way.FirstS)) m) ≡ true) (refl, refl, refl, refl, refl, refl, refl, refl, refl, refl, refl, refl, refl, refl, refl, refl, refl, refl, refl, refl, refl, refl) m
kept (Reading.Dollar (Place.Target Way.FirstF)) l m = at (λ m. ok (next (Reading.Dollar (Place.Target Way.FirstF)) m) ≡ true) (refl, refl, refl, refl, refl, refl, refl, refl, refl, refl, refl, refl, refl, refl, refl, refl, refl, refl, refl, refl, refl, refl) m
kept (Reading.Dollar (Place.Target Way.SecondS)) l m = at (λ m. ok (next (Reading.Dollar (Place.Target Way.SecondS)) m) ≡ true) (refl, refl, refl, refl, refl, refl, refl, refl, refl, refl, refl, refl, refl, refl, refl, refl, refl, refl, refl, refl, refl, refl) m
kept (Reading.Dollar (Place.Target Way.SecondF)) l m = at (λ m. ok (next (Reading.Dollar (Place.Target Way.SecondF)) m) ≡ true) (refl, refl, refl, refl, refl, refl, refl, refl, refl, refl, refl, refl, refl, refl, refl, refl, refl, refl, refl, refl, refl, refl) m
kept (Reading.Named Place.Reference) l m = at (λ m. ok (next (Reading.Named Place.Reference) m) ≡ true) (refl, refl, refl, refl, refl, refl, refl, refl, refl, refl, refl, refl, refl, refl, refl, refl, refl, refl, refl, refl, refl, refl) m
kept (Reading.Named Place.Element) l m = at (λ m. ok (next (Reading.Named Place.Element) m) ≡ true) (refl, refl, refl, refl, refl, refl, refl, refl, refl, refl, refl, refl, refl, refl, refl, refl, refl, refl, refl, refl, refl, refl) m
kept (Reading.Named Place.Operand) l m = absurd (false≢true l)
kept (Reading.Named (Place.Target Way.Both)) l m = at (λ m. ok (next (Reading.Named (Place.Target Way.Both)) m) ≡ true) (refl, refl, refl, refl, refl, refl, refl, refl, refl, refl, refl, refl, refl, refl, refl, refl, refl, refl, refl, refl, refl, refl) m
kept (Reading.Named (Place.Target Way.FirstS)) l m = at (λ m. ok (next (Reading.Named (Place.Target Way.FirstS)) m) ≡ true) (refl, refl, refl, refl, refl, refl, refl, refl, refl, refl, refl, refl, refl, refl, refl, refl, refl, refl, refl, refl, refl, refl) m
kept (Reading.Named (Place.Target Way.FirstF)) l m = at (λ m. ok (next (Reading.Named (Place.Target Way.FirstF)) m) ≡ true) (refl, refl, refl, refl, refl, refl, refl, refl, refl, refl, refl, refl, refl, refl, refl, refl, refl, refl, refl, refl, refl, refl) m
kept (Reading.Named (Place.Target Way.SecondS)) l m = at (λ m. ok (next (Reading.Named (Place.Target Way.SecondS)) m) ≡ true) (refl, refl, refl, refl, refl, refl, refl, refl, refl, refl, refl, refl, refl, refl, refl, refl, refl, refl, refl, refl, refl, refl) m
kept (Reading.Named (Place.Target Way.SecondF)) l m = at (λ m. ok (next (Reading.Named (Place.Target Way.SecondF)) m) ≡ true) (refl, refl, refl, refl, refl, refl, refl, refl, refl, refl, refl, refl, refl, refl, refl, refl, refl, refl, refl, refl, refl, refl) m
kept (Reading.Dotted Place.Reference) l m = at (λ m. ok (next (Reading.Dotted Place.Reference) m) ≡ true) (refl, refl, refl, refl, refl, refl, refl, refl, refl, refl, refl, refl, refl, refl, refl, refl, refl, refl, refl, refl, refl, refl) m
kept (Reading.Dotted Place.Element) l m = at (λ m. ok (next (Reading.Dotted Place.Element) m) ≡ true) (refl, refl, refl, refl, refl, refl, refl, refl, refl, refl, refl, refl, refl, refl, refl, refl, refl, refl, refl, refl, refl, refl) m
kept (Reading.Dotted Place.Operand) l m = absurd (false≢true l)
kept (Reading.Dotted (Place.Target Way.Both)) l m = at (λ m. ok (next (Reading.Dotted (Place.Target Way.Both)) m) ≡ true) (refl, refl, refl, refl, refl, refl, refl, refl, refl, refl, refl, refl, refl, refl, refl, refl, refl, refl, refl, refl, refl, refl) m
kept (Reading.Dotted (Place.Target Way.FirstS)) l m = at (λ m. ok (next (Reading.Dotted (Place.Target Way.FirstS)) m) ≡ true) (refl, refl, refl, refl, refl, refl, refl, refl, refl, refl, refl, refl, refl, refl, refl, refl, refl, refl, refl, refl, refl, refl) m
kept (Reading.Dotted (Place.Target Way.FirstF)) l m = at (λ m. ok (next (Reading.Dotted (Place.Target Way.FirstF)) m) ≡ true) (refl, refl, refl, refl, refl, refl, refl, refl, refl, refl, refl, refl, refl, refl, refl, refl, refl, refl, refl, refl, refl, refl) m
kept (Reading.Dotted (Place.Target Way.SecondS)) l m = at (λ m. ok (next (Reading.Dotted (Place.Target Way.SecondS)) m) ≡ true) (refl, refl, refl, refl, refl, refl, refl, refl, refl, refl, refl, refl, refl, refl, refl, refl, refl, refl, refl, refl, refl, refl) m
kept (Reading.Dotted (Place.Target Way.SecondF)) l m = at (λ m. ok (next (Reading.Dotted (Place.Target Way.SecondF)) m) ≡ true) (refl, refl, refl, refl, refl, refl, refl, refl, refl, refl, refl, refl, refl, refl, refl, refl, refl, refl, refl, refl, refl, refl) m
kept (Reading.Literal Side.Pattern) l m = at (λ m. ok (next (Reading.Literal Side.Pattern) m) ≡ true) (refl, refl, refl, refl, refl, refl, refl, refl, refl, refl, refl, refl, refl, refl, refl, refl, refl, refl, refl, refl, refl, refl) m
kept (Reading.Literal Side.Right) l m = absurd (false≢true l)
kept (Reading.Closed Side.Pattern) l m = at (λ m. ok (next (Reading.Closed Side.Pattern) m) ≡ true) (refl, refl, refl, refl, refl, refl, refl, refl, refl, refl, refl, refl, refl, refl, refl, refl, refl, refl, refl, refl, refl, refl) m
kept (Reading.Closed Side.Right) l m = absurd (false≢true l)
kept Reading.Equal l m = absurd (false≢true l)
kept (Reading.Variable VariableReading.Star) l m = at (λ m. ok (next (Reading.Variable VariableReading.Star) m) ≡ true) (refl, refl, refl, refl, refl, refl, refl, refl, refl, refl, refl, refl, refl, refl, refl, refl, refl, refl, refl, refl, refl, refl) m
kept (Reading.Variable VariableReading.Name) l m = at (λ m. ok (next (Reading.Variable VariableReading.Name) m) ≡ true) (refl, refl, refl, refl, refl, refl, refl, refl, refl, refl, refl, refl, refl, refl, refl, refl, refl, refl, refl, refl, refl, refl) m
kept (Reading.Variable VariableReading.Dot) l m = at (λ m. ok (next (Reading.Variable VariableReading.Dot) m) ≡ true) (refl, refl, refl, refl, refl, refl, refl, refl, refl, refl, refl, refl, refl, refl, refl, refl, refl, refl, refl, refl, refl, refl) m
kept (Reading.Variable VariableReading.Open) l m = at (λ m. ok (next (Reading.Variable VariableReading.Open) m) ≡ true) (refl, refl, refl, refl, refl, refl, refl, refl, refl, refl, refl, refl, refl, refl, refl, refl, refl, refl, refl, refl, refl, refl) m
kept (Reading.Variable VariableReading.Group) l m = at (λ m. ok (next (Reading.Variable VariableReading.Group) m) ≡ true) (refl, refl, refl, refl, refl, refl, refl, refl, refl, refl, refl, refl, refl, refl, refl, refl, refl, refl, refl, refl, refl, refl) m
kept (Reading.Variable VariableReading.GroupDot) l m = at (λ m. ok (next (Reading.Variable VariableReading.GroupDot) m) ≡ true) (refl, refl, refl, refl, refl, refl, refl, refl, refl, refl, refl, refl, refl, refl, refl, refl, refl, refl, refl, refl, refl, refl) m
kept (Reading.Variable VariableReading.Slash) l m = at (λ m. ok (next (Reading.Variable VariableReading.Slash) m) ≡ true) (refl, refl, refl, refl, refl, refl, refl, refl, refl, refl, refl, refl, refl, refl, refl, refl, refl, refl, refl, refl, refl, refl) m
kept (Reading.Variable VariableReading.Quote) l m = at (λ m. ok (next (Reading.Variable VariableReading.Quote) m) ≡ true) (refl, refl, refl, refl, refl, refl, refl, refl, refl, refl, refl, refl, refl, refl, refl, refl, refl, refl, refl, refl, refl, refl) m
kept (Reading.Variable (VariableReading.Length Room.Three)) l m = at (λ m. ok (next (Reading.Variable (VariableReading.Length Room.Three)) m) ≡ true) (refl, refl, refl, refl, refl, refl, refl, refl, refl, refl, refl, refl, refl, refl, refl, refl, refl, refl, refl, refl, refl, refl) m
kept (Reading.Variable (VariableReading.Length Room.Four)) l m = at (λ m. ok (next (Reading.Variable (VariableReading.Length Room.Four)) m) ≡ true) (refl, refl, refl, refl, refl, refl, refl, refl, refl, refl, refl, refl, refl, refl, refl, refl, refl, refl, refl, refl, refl, refl) m
kept (Reading.Variable (VariableReading.Length Room.FourZero)) l m = at (λ m. ok (next (Reading.Variable (VariableReading.Length Room.FourZero)) m) ≡ true) (refl, refl, refl, refl, refl, refl, refl, refl, refl, refl, refl, refl, refl, refl, refl, refl, refl, refl, refl, refl, refl, refl) m
kept (Reading.Variable (VariableReading.Length Room.FourZeroNine)) l m = at (λ m. ok (next (Reading.Variable (VariableReading.Length Room.FourZeroNine)) m) ≡ true) (refl, refl, refl, refl, refl, refl, refl, refl, refl, refl, refl, refl, refl, refl, refl, refl, refl, refl, refl, refl, refl, refl) m
kept (Reading.Variable (VariableReading.Length Room.Two)) l m = at (λ m. ok (next (Reading.Variable (VariableReading.Length Room.Two)) m) ≡ true) (refl, refl, refl, refl, refl, refl, refl, refl, refl, refl, refl, refl, refl, refl, refl, refl, refl, refl, refl, refl, refl, refl) m
kept (Reading.Variable (VariableReading.Length Room.One)) l m = at (λ m. ok (next (Reading.Variable (VariableReading.Length Room.One)) m) ≡ true) (refl, refl, refl, refl, refl, refl, refl, refl, refl, refl, refl, refl, refl, refl, refl, refl, refl, refl, refl, refl, refl, refl) m
kept (Reading.Variable (VariableReading.Length Room.Full)) l m = at (λ m. ok (next (Reading.Variable (VariableReading.Length Room.Full)) m) ≡ true) (refl, refl, refl, refl, refl, refl, refl, refl, refl, refl, refl, refl, refl, refl, refl, refl, refl, refl, refl, refl, refl, refl) m
kept (Reading.Variable VariableReading.Closing) l m = at (λ m. ok (next (Reading.Variable VariableReading.Closing) m) ≡ true) (refl, refl, refl, refl, refl, refl, refl, refl, refl, refl, refl, refl, refl, refl, refl, refl, refl, refl, refl, refl, refl, refl) m
kept (Reading.Variable VariableReading.Done) l m = at (λ m. ok (next (Reading.Variable VariableReading.Done) m) ≡ true) (refl, refl, refl, refl, refl, refl, refl, refl, refl, refl, refl, refl, refl, refl, refl, refl, refl, refl, refl, refl, refl, refl) m
kept (Reading.Go GoReading.Slash) l m = at (λ m. ok (next (Reading.Go GoReading.Slash) m) ≡ true) (refl, refl, refl, refl, refl, refl, refl, refl, refl, refl, refl, refl, refl, refl, refl, refl, refl, refl, refl, refl, refl, refl) m
kept (Reading.Go GoReading.S) l m = at (λ m. ok (next (Reading.Go GoReading.S) m) ≡ true) (refl, refl, refl, refl, refl, refl, refl, refl, refl, refl, refl, refl, refl, refl, refl, refl, refl, refl, refl, refl, refl, refl) m
kept (Reading.Go GoReading.F) l m = at (λ m. ok (next (Reading.Go GoReading.F) m) ≡ true) (refl, refl, refl, refl, refl, refl, refl, refl, refl, refl, refl, refl, refl, refl, refl, refl, refl, refl, refl, refl, refl, refl) m
kept (Reading.Go GoReading.AlsoS) l m = at (λ m. ok (next (Reading.Go GoReading.AlsoS) m) ≡ true) (refl, refl, refl, refl, refl, refl, refl, refl, refl, refl, refl, refl, refl, refl, refl, refl, refl, refl, refl, refl, refl, refl) m
kept (Reading.Go GoReading.AlsoF) l m = at (λ m. ok (next (Reading.Go GoReading.AlsoF) m) ≡ true) (refl, refl, refl, refl, refl, refl, refl, refl, refl, refl, refl, refl, refl, refl, refl, refl, refl, refl, refl, refl, refl, refl) m
kept (Reading.Go (GoReading.Into Way.Both)) l m = at (λ m. ok (next (Reading.Go (GoReading.Into Way.Both)) m) ≡ true) (refl, refl, refl, refl, refl, refl, refl, refl, refl, refl, refl, refl, refl, refl, refl, refl, refl, refl, refl, refl, refl, refl) m
kept (Reading.Go (GoReading.Into Way.FirstS)) l m = at (λ m. ok (next (Reading.Go (GoReading.Into Way.FirstS)) m) ≡ true) (refl, refl, refl, refl, refl, refl, refl, refl, refl, refl, refl, refl, refl, refl, refl, refl, refl, refl, refl, refl, refl, refl) m
kept (Reading.Go (GoReading.Into Way.FirstF)) l m = at (λ m. ok (next (Reading.Go (GoReading.Into Way.FirstF)) m) ≡ true) (refl, refl, refl, refl, refl, refl, refl, refl, refl, refl, refl, refl, refl, refl, refl, refl, refl, refl, refl, refl, refl, refl) m
kept (Reading.Go (GoReading.Into Way.SecondS)) l m = at (λ m. ok (next (Reading.Go (GoReading.Into Way.SecondS)) m) ≡ true) (refl, refl, refl, refl, refl, refl, refl, refl, refl, refl, refl, refl, refl, refl, refl, refl, refl, refl, refl, refl, refl, refl) m
kept (Reading.Go (GoReading.Into Way.SecondF)) l m = at (λ m. ok (next (Reading.Go (GoReading.Into Way.SecondF)) m) ≡ true) (refl, refl, refl, refl, refl, refl, refl, refl, refl, refl, refl, refl, refl, refl, refl, refl, refl, refl, refl, refl, refl, refl) m
kept (Reading.Go GoReading.AfterS) l m = at (λ m. ok (next (Reading.Go GoReading.AfterS) m) ≡ true) (refl, refl, refl, refl, refl, refl, refl, refl, refl, refl, refl, refl, refl, refl, refl, refl, refl, refl, refl, refl, refl, refl) m
kept (Reading.Go GoReading.AfterF) l m = at (λ m. ok (next (Reading.Go GoReading.AfterF) m) ≡ true) (refl, refl, refl, refl, refl, refl, refl, refl, refl, refl, refl, refl, refl, refl, refl, refl, refl, refl, refl, refl, refl, refl) m
kept (Reading.Go GoReading.Done) l m = at (λ m. ok (next (Reading.Go GoReading.Done) m) ≡ true) (refl, refl, refl, refl, refl, refl, refl, refl, refl, refl, refl, refl, refl, refl, refl, refl, refl, refl, refl, refl, refl, refl) m

fair_from : (q : Reading) (k : ℕ) (s : List ℕ) → left q ≡ true → fair (runs k (roles_from q s)) ≡ true
unfolding fair runs roles_from
fair_from q k [] l = refl
fair_from q k (c ∷ s) l = go (next q (mark_of c)) (kept q l (mark_of c)) (λ r h. fair_from r (k + 1) s h)
  where
    go : (o : Option Reading) → ok o ≡ true → ((r : Reading) → left r ≡ true → fair (runs (k + 1) (roles_from r s)) ≡ true)
        → fair (runs k (on_roles o (λ r. role_of r ∷ roles_from r s))) ≡ true
    go None h ih = refl
    go (Some r) h ih = fair_extend k 1 (role_of r) (runs (k + 1) (roles_from r s))
        (⊎_elim
        (λ e. or_left (same_role (role_of r) Role.Equal) _ e)
        (λ e. let p = and_parts (not (operates (role_of r))) (left r) e in or_right (same_role (role_of r) Role.Equal) _ (and_from (not (operates (role_of r))) _ p.0 (ih r p.1)))
        (or_cases (same_role (role_of r) Role.Equal) (not (operates (role_of r)) && left r) h))

fair_tokens : (s : List ℕ) → fair (tokens s) ≡ true
unfolding tokens_from
fair_tokens s = fair_from beginning 0 s refl

module _ {L X : Type 0} (labelled : ℕ → List ℕ → Token → L) (meant : List ℕ → Option X) (wide : ℕ) (names labels : List (List ℕ)) (from : ℕ) (s : List ℕ) where
  -- what a token gives, in front of what comes behind it
  one_ordered : (r : Role) (k n : ℕ) (o : Operand) (rest : Bool) (es : List (Entry L)) → fits r rest ≡ true → (rest ≡ true → ordered es ≡ true)
      → ordered (in_front (entry_of labelled names labels from s (token r k n) o) es) ≡ true
  unfolding ordered
  one_ordered Role.Between k n o rest es h ih = ih h
  one_ordered Role.Label k n o rest es h ih = ih h
  one_ordered Role.Start k n o rest es h ih = ih h
  one_ordered Role.Reference k n o rest es h ih = ih h
  one_ordered Role.Element k n o rest es h ih = ih h
  one_ordered Role.LiteralElement k n o rest es h ih = ih h
  one_ordered Role.Star k n o rest es h ih = ih h
  one_ordered Role.Variable k n o rest es h ih = ih h
  one_ordered Role.Group k n o rest es h ih = ih h
  one_ordered Role.Length k n o rest es h ih = ih h
  one_ordered Role.Equal k n o rest es h ih = refl
  one_ordered Role.Operand k n o rest es h ih = absurd (false≢true h)
  one_ordered Role.LiteralOperand k n o rest es h ih = absurd (false≢true h)
  one_ordered Role.Both k n o rest es h ih = ih h
  one_ordered Role.OnS k n o rest es h ih = ih h
  one_ordered Role.OnF k n o rest es h ih = ih h

  all_ordered : (at : ℕ) (ts : List Token) → fair ts ≡ true → ordered (entries_from labelled names labels from s meant wide at ts) ≡ true
  unfolding fair ordered entries_from
  all_ordered at [] h = refl
  all_ordered at (t ∷ ts) h =
      let next : ℕ = at + length (token_symbols meant wide s t) in
      one_ordered t.role t.start t.size (Operand.Literal at next) (fair ts) (entries_from labelled names labels from s meant wide next ts) h (λ k. all_ordered next ts k)

  -- what the tokens of a line give has no operand before `=`
  pub line_ordered : (at : ℕ) → ordered (entries_from labelled names labels from s meant wide at (tokens s)) ≡ true
  line_ordered at = all_ordered at (tokens s) (fair_tokens s)
