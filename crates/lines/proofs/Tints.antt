-- Each reading, at each mark, gives the character the role that the grammar gives it: by computing both. Assumes nothing.
use Rattle.std.proofs.Common.{◌≡◌, Some, None, Option, sym, refl, ap, ◌∙◌}
use Rattle.lines.specs.declared.mark.Mark.{Mark}
use Rattle.lines.specs.declared.reading.Way.{Way}
use Rattle.lines.specs.declared.reading.Place.{Place}
use Rattle.lines.specs.declared.reading.Section.{Section}
use Rattle.lines.specs.declared.reading.Side.{Side}
use Rattle.lines.specs.declared.reading.Room.{Room}
use Rattle.lines.specs.declared.reading.LabelReading.{LabelReading}
use Rattle.lines.specs.declared.reading.VariableReading.{VariableReading}
use Rattle.lines.specs.declared.reading.GoReading.{GoReading}
use Rattle.lines.specs.declared.reading.Reading.{Reading}
use Rattle.lines.specs.Languages.{Lang, none}
use Rattle.lines.specs.Grammar.{Character}
use Rattle.lines.specs.Next.{next, stands}
use Rattle.lines.specs.Roles.{role_of, roles_from}
use Rattle.lines.specs.After.{holds_null, is_none, seq, alt, less, after, after_all}
use Rattle.lines.proofs.Samples.{tinted_follow}
use Rattle.lines.proofs.Steps.{AllMarks, at}

-- what may follow a character in the role that its reading gives it
unfoldable tinted_after : Mark → Option Reading → Lang Character → Lang Character
unfolding after
tinted_after m None a = none
tinted_after m (Some r) a = after (record { mark = m; role = role_of r }) a

unfoldable tinted_follows : Option Reading → Lang Character
unfolding tinted_follow
tinted_follows None = none
tinted_follows (Some q) = tinted_follow q

abbrev Tint : Reading → Type 0
Tint q = AllMarks (λ m. tinted_after m (next q m) (tinted_follow q) ≡ tinted_follows (next q m))

tint_label : (x : LabelReading) → Tint (Reading.Label x)
unfolding tinted_after tinted_follow tinted_follows roles_from after_all after alt seq less holds_null is_none
tint_label LabelReading.Begin = (refl, refl, refl, refl, refl, refl, refl, refl, refl, refl, refl, refl, refl, refl, refl, refl, refl, refl, refl, refl, refl, refl)
tint_label LabelReading.E = (refl, refl, refl, refl, refl, refl, refl, refl, refl, refl, refl, refl, refl, refl, refl, refl, refl, refl, refl, refl, refl, refl)
tint_label LabelReading.En = (refl, refl, refl, refl, refl, refl, refl, refl, refl, refl, refl, refl, refl, refl, refl, refl, refl, refl, refl, refl, refl, refl)
tint_label LabelReading.End = (refl, refl, refl, refl, refl, refl, refl, refl, refl, refl, refl, refl, refl, refl, refl, refl, refl, refl, refl, refl, refl, refl)
tint_label LabelReading.Name = (refl, refl, refl, refl, refl, refl, refl, refl, refl, refl, refl, refl, refl, refl, refl, refl, refl, refl, refl, refl, refl, refl)
tint_label LabelReading.Dot = (refl, refl, refl, refl, refl, refl, refl, refl, refl, refl, refl, refl, refl, refl, refl, refl, refl, refl, refl, refl, refl, refl)

tint_gap : (x : Section) → Tint (Reading.Gap x)
unfolding tinted_after tinted_follow tinted_follows roles_from after_all after alt seq less holds_null is_none
tint_gap Section.Reference = (refl, refl, refl, refl, refl, refl, refl, refl, refl, refl, refl, refl, refl, refl, refl, refl, refl, refl, refl, refl, refl, refl)
tint_gap Section.Start = (refl, refl, refl, refl, refl, refl, refl, refl, refl, refl, refl, refl, refl, refl, refl, refl, refl, refl, refl, refl, refl, refl)
tint_gap Section.Pattern = (refl, refl, refl, refl, refl, refl, refl, refl, refl, refl, refl, refl, refl, refl, refl, refl, refl, refl, refl, refl, refl, refl)
tint_gap Section.Right = (refl, refl, refl, refl, refl, refl, refl, refl, refl, refl, refl, refl, refl, refl, refl, refl, refl, refl, refl, refl, refl, refl)
tint_gap Section.Tail = (refl, refl, refl, refl, refl, refl, refl, refl, refl, refl, refl, refl, refl, refl, refl, refl, refl, refl, refl, refl, refl, refl)

tint_dollar : (x : Place) → Tint (Reading.Dollar x)
unfolding tinted_after tinted_follow tinted_follows roles_from after_all after alt seq less holds_null is_none
tint_dollar Place.Reference = (refl, refl, refl, refl, refl, refl, refl, refl, refl, refl, refl, refl, refl, refl, refl, refl, refl, refl, refl, refl, refl, refl)
tint_dollar Place.Element = (refl, refl, refl, refl, refl, refl, refl, refl, refl, refl, refl, refl, refl, refl, refl, refl, refl, refl, refl, refl, refl, refl)
tint_dollar Place.Operand = (refl, refl, refl, refl, refl, refl, refl, refl, refl, refl, refl, refl, refl, refl, refl, refl, refl, refl, refl, refl, refl, refl)
tint_dollar (Place.Target Way.Both) = (refl, refl, refl, refl, refl, refl, refl, refl, refl, refl, refl, refl, refl, refl, refl, refl, refl, refl, refl, refl, refl, refl)
tint_dollar (Place.Target Way.FirstS) = (refl, refl, refl, refl, refl, refl, refl, refl, refl, refl, refl, refl, refl, refl, refl, refl, refl, refl, refl, refl, refl, refl)
tint_dollar (Place.Target Way.FirstF) = (refl, refl, refl, refl, refl, refl, refl, refl, refl, refl, refl, refl, refl, refl, refl, refl, refl, refl, refl, refl, refl, refl)
tint_dollar (Place.Target Way.SecondS) = (refl, refl, refl, refl, refl, refl, refl, refl, refl, refl, refl, refl, refl, refl, refl, refl, refl, refl, refl, refl, refl, refl)
tint_dollar (Place.Target Way.SecondF) = (refl, refl, refl, refl, refl, refl, refl, refl, refl, refl, refl, refl, refl, refl, refl, refl, refl, refl, refl, refl, refl, refl)

tint_named : (x : Place) → Tint (Reading.Named x)
unfolding tinted_after tinted_follow tinted_follows roles_from after_all after alt seq less holds_null is_none
tint_named Place.Reference = (refl, refl, refl, refl, refl, refl, refl, refl, refl, refl, refl, refl, refl, refl, refl, refl, refl, refl, refl, refl, refl, refl)
tint_named Place.Element = (refl, refl, refl, refl, refl, refl, refl, refl, refl, refl, refl, refl, refl, refl, refl, refl, refl, refl, refl, refl, refl, refl)
tint_named Place.Operand = (refl, refl, refl, refl, refl, refl, refl, refl, refl, refl, refl, refl, refl, refl, refl, refl, refl, refl, refl, refl, refl, refl)
tint_named (Place.Target Way.Both) = (refl, refl, refl, refl, refl, refl, refl, refl, refl, refl, refl, refl, refl, refl, refl, refl, refl, refl, refl, refl, refl, refl)
tint_named (Place.Target Way.FirstS) = (refl, refl, refl, refl, refl, refl, refl, refl, refl, refl, refl, refl, refl, refl, refl, refl, refl, refl, refl, refl, refl, refl)
tint_named (Place.Target Way.FirstF) = (refl, refl, refl, refl, refl, refl, refl, refl, refl, refl, refl, refl, refl, refl, refl, refl, refl, refl, refl, refl, refl, refl)
tint_named (Place.Target Way.SecondS) = (refl, refl, refl, refl, refl, refl, refl, refl, refl, refl, refl, refl, refl, refl, refl, refl, refl, refl, refl, refl, refl, refl)
tint_named (Place.Target Way.SecondF) = (refl, refl, refl, refl, refl, refl, refl, refl, refl, refl, refl, refl, refl, refl, refl, refl, refl, refl, refl, refl, refl, refl)

tint_dotted : (x : Place) → Tint (Reading.Dotted x)
unfolding tinted_after tinted_follow tinted_follows roles_from after_all after alt seq less holds_null is_none
tint_dotted Place.Reference = (refl, refl, refl, refl, refl, refl, refl, refl, refl, refl, refl, refl, refl, refl, refl, refl, refl, refl, refl, refl, refl, refl)
tint_dotted Place.Element = (refl, refl, refl, refl, refl, refl, refl, refl, refl, refl, refl, refl, refl, refl, refl, refl, refl, refl, refl, refl, refl, refl)
tint_dotted Place.Operand = (refl, refl, refl, refl, refl, refl, refl, refl, refl, refl, refl, refl, refl, refl, refl, refl, refl, refl, refl, refl, refl, refl)
tint_dotted (Place.Target Way.Both) = (refl, refl, refl, refl, refl, refl, refl, refl, refl, refl, refl, refl, refl, refl, refl, refl, refl, refl, refl, refl, refl, refl)
tint_dotted (Place.Target Way.FirstS) = (refl, refl, refl, refl, refl, refl, refl, refl, refl, refl, refl, refl, refl, refl, refl, refl, refl, refl, refl, refl, refl, refl)
tint_dotted (Place.Target Way.FirstF) = (refl, refl, refl, refl, refl, refl, refl, refl, refl, refl, refl, refl, refl, refl, refl, refl, refl, refl, refl, refl, refl, refl)
tint_dotted (Place.Target Way.SecondS) = (refl, refl, refl, refl, refl, refl, refl, refl, refl, refl, refl, refl, refl, refl, refl, refl, refl, refl, refl, refl, refl, refl)
tint_dotted (Place.Target Way.SecondF) = (refl, refl, refl, refl, refl, refl, refl, refl, refl, refl, refl, refl, refl, refl, refl, refl, refl, refl, refl, refl, refl, refl)

tint_literal : (x : Side) → Tint (Reading.Literal x)
unfolding tinted_after tinted_follow tinted_follows roles_from after_all after alt seq less holds_null is_none
tint_literal Side.Pattern = (refl, refl, refl, refl, refl, refl, refl, refl, refl, refl, refl, refl, refl, refl, refl, refl, refl, refl, refl, refl, refl, refl)
tint_literal Side.Right = (refl, refl, refl, refl, refl, refl, refl, refl, refl, refl, refl, refl, refl, refl, refl, refl, refl, refl, refl, refl, refl, refl)

tint_closed : (x : Side) → Tint (Reading.Closed x)
unfolding tinted_after tinted_follow tinted_follows roles_from after_all after alt seq less holds_null is_none
tint_closed Side.Pattern = (refl, refl, refl, refl, refl, refl, refl, refl, refl, refl, refl, refl, refl, refl, refl, refl, refl, refl, refl, refl, refl, refl)
tint_closed Side.Right = (refl, refl, refl, refl, refl, refl, refl, refl, refl, refl, refl, refl, refl, refl, refl, refl, refl, refl, refl, refl, refl, refl)

tint_length : (x : Room) → Tint (Reading.Variable (VariableReading.Length x))
unfolding tinted_after tinted_follow tinted_follows roles_from after_all after alt seq less holds_null is_none
tint_length Room.Three = (refl, refl, refl, refl, refl, refl, refl, refl, refl, refl, refl, refl, refl, refl, refl, refl, refl, refl, refl, refl, refl, refl)
tint_length Room.Four = (refl, refl, refl, refl, refl, refl, refl, refl, refl, refl, refl, refl, refl, refl, refl, refl, refl, refl, refl, refl, refl, refl)
tint_length Room.FourZero = (refl, refl, refl, refl, refl, refl, refl, refl, refl, refl, refl, refl, refl, refl, refl, refl, refl, refl, refl, refl, refl, refl)
tint_length Room.FourZeroNine = (refl, refl, refl, refl, refl, refl, refl, refl, refl, refl, refl, refl, refl, refl, refl, refl, refl, refl, refl, refl, refl, refl)
tint_length Room.Two = (refl, refl, refl, refl, refl, refl, refl, refl, refl, refl, refl, refl, refl, refl, refl, refl, refl, refl, refl, refl, refl, refl)
tint_length Room.One = (refl, refl, refl, refl, refl, refl, refl, refl, refl, refl, refl, refl, refl, refl, refl, refl, refl, refl, refl, refl, refl, refl)
tint_length Room.Full = (refl, refl, refl, refl, refl, refl, refl, refl, refl, refl, refl, refl, refl, refl, refl, refl, refl, refl, refl, refl, refl, refl)

tint_variable : (x : VariableReading) → Tint (Reading.Variable x)
unfolding tinted_after tinted_follow tinted_follows roles_from after_all after alt seq less holds_null is_none
tint_variable VariableReading.Star = (refl, refl, refl, refl, refl, refl, refl, refl, refl, refl, refl, refl, refl, refl, refl, refl, refl, refl, refl, refl, refl, refl)
tint_variable VariableReading.Name = (refl, refl, refl, refl, refl, refl, refl, refl, refl, refl, refl, refl, refl, refl, refl, refl, refl, refl, refl, refl, refl, refl)
tint_variable VariableReading.Dot = (refl, refl, refl, refl, refl, refl, refl, refl, refl, refl, refl, refl, refl, refl, refl, refl, refl, refl, refl, refl, refl, refl)
tint_variable VariableReading.Open = (refl, refl, refl, refl, refl, refl, refl, refl, refl, refl, refl, refl, refl, refl, refl, refl, refl, refl, refl, refl, refl, refl)
tint_variable VariableReading.Group = (refl, refl, refl, refl, refl, refl, refl, refl, refl, refl, refl, refl, refl, refl, refl, refl, refl, refl, refl, refl, refl, refl)
tint_variable VariableReading.GroupDot = (refl, refl, refl, refl, refl, refl, refl, refl, refl, refl, refl, refl, refl, refl, refl, refl, refl, refl, refl, refl, refl, refl)
tint_variable VariableReading.Slash = (refl, refl, refl, refl, refl, refl, refl, refl, refl, refl, refl, refl, refl, refl, refl, refl, refl, refl, refl, refl, refl, refl)
tint_variable VariableReading.Quote = (refl, refl, refl, refl, refl, refl, refl, refl, refl, refl, refl, refl, refl, refl, refl, refl, refl, refl, refl, refl, refl, refl)
tint_variable VariableReading.Closing = (refl, refl, refl, refl, refl, refl, refl, refl, refl, refl, refl, refl, refl, refl, refl, refl, refl, refl, refl, refl, refl, refl)
tint_variable VariableReading.Done = (refl, refl, refl, refl, refl, refl, refl, refl, refl, refl, refl, refl, refl, refl, refl, refl, refl, refl, refl, refl, refl, refl)
tint_variable (VariableReading.Length left) = tint_length left

tint_go : (x : GoReading) → Tint (Reading.Go x)
unfolding tinted_after tinted_follow tinted_follows roles_from after_all after alt seq less holds_null is_none
tint_go GoReading.Slash = (refl, refl, refl, refl, refl, refl, refl, refl, refl, refl, refl, refl, refl, refl, refl, refl, refl, refl, refl, refl, refl, refl)
tint_go GoReading.S = (refl, refl, refl, refl, refl, refl, refl, refl, refl, refl, refl, refl, refl, refl, refl, refl, refl, refl, refl, refl, refl, refl)
tint_go GoReading.F = (refl, refl, refl, refl, refl, refl, refl, refl, refl, refl, refl, refl, refl, refl, refl, refl, refl, refl, refl, refl, refl, refl)
tint_go GoReading.AlsoS = (refl, refl, refl, refl, refl, refl, refl, refl, refl, refl, refl, refl, refl, refl, refl, refl, refl, refl, refl, refl, refl, refl)
tint_go GoReading.AlsoF = (refl, refl, refl, refl, refl, refl, refl, refl, refl, refl, refl, refl, refl, refl, refl, refl, refl, refl, refl, refl, refl, refl)
tint_go (GoReading.Into Way.Both) = (refl, refl, refl, refl, refl, refl, refl, refl, refl, refl, refl, refl, refl, refl, refl, refl, refl, refl, refl, refl, refl, refl)
tint_go (GoReading.Into Way.FirstS) = (refl, refl, refl, refl, refl, refl, refl, refl, refl, refl, refl, refl, refl, refl, refl, refl, refl, refl, refl, refl, refl, refl)
tint_go (GoReading.Into Way.FirstF) = (refl, refl, refl, refl, refl, refl, refl, refl, refl, refl, refl, refl, refl, refl, refl, refl, refl, refl, refl, refl, refl, refl)
tint_go (GoReading.Into Way.SecondS) = (refl, refl, refl, refl, refl, refl, refl, refl, refl, refl, refl, refl, refl, refl, refl, refl, refl, refl, refl, refl, refl, refl)
tint_go (GoReading.Into Way.SecondF) = (refl, refl, refl, refl, refl, refl, refl, refl, refl, refl, refl, refl, refl, refl, refl, refl, refl, refl, refl, refl, refl, refl)
tint_go GoReading.AfterS = (refl, refl, refl, refl, refl, refl, refl, refl, refl, refl, refl, refl, refl, refl, refl, refl, refl, refl, refl, refl, refl, refl)
tint_go GoReading.AfterF = (refl, refl, refl, refl, refl, refl, refl, refl, refl, refl, refl, refl, refl, refl, refl, refl, refl, refl, refl, refl, refl, refl)
tint_go GoReading.Done = (refl, refl, refl, refl, refl, refl, refl, refl, refl, refl, refl, refl, refl, refl, refl, refl, refl, refl, refl, refl, refl, refl)

tint_start : Tint Reading.Start
unfolding tinted_after tinted_follow tinted_follows roles_from after_all after alt seq less holds_null is_none
tint_start = (refl, refl, refl, refl, refl, refl, refl, refl, refl, refl, refl, refl, refl, refl, refl, refl, refl, refl, refl, refl, refl, refl)

tint_start_dot : Tint Reading.StartDot
unfolding tinted_after tinted_follow tinted_follows roles_from after_all after alt seq less holds_null is_none
tint_start_dot = (refl, refl, refl, refl, refl, refl, refl, refl, refl, refl, refl, refl, refl, refl, refl, refl, refl, refl, refl, refl, refl, refl)

tint_equal : Tint Reading.Equal
unfolding tinted_after tinted_follow tinted_follows roles_from after_all after alt seq less holds_null is_none
tint_equal = (refl, refl, refl, refl, refl, refl, refl, refl, refl, refl, refl, refl, refl, refl, refl, refl, refl, refl, refl, refl, refl, refl)

all_tints : (q : Reading) → Tint q
all_tints (Reading.Label x) = tint_label x
all_tints (Reading.Gap x) = tint_gap x
all_tints (Reading.Dollar x) = tint_dollar x
all_tints (Reading.Named x) = tint_named x
all_tints (Reading.Dotted x) = tint_dotted x
all_tints (Reading.Literal x) = tint_literal x
all_tints (Reading.Closed x) = tint_closed x
all_tints (Reading.Variable x) = tint_variable x
all_tints (Reading.Go x) = tint_go x
all_tints Reading.Start = tint_start
all_tints Reading.StartDot = tint_start_dot
all_tints Reading.Equal = tint_equal

tints : (q : Reading) (m : Mark) → tinted_after m (next q m) (tinted_follow q) ≡ tinted_follows (next q m)
tints q m = at (λ m. tinted_after m (next q m) (tinted_follow q) ≡ tinted_follows (next q m)) (all_tints q) m

pub tinted_step : (q r : Reading) (m : Mark) → next q m ≡ Some r
    → after (record { mark = m; role = role_of r }) (tinted_follow q) ≡ tinted_follow r
unfolding tinted_after tinted_follows
tinted_step q r m e =
    ap (λ (o : Option Reading). tinted_after m o (tinted_follow q)) (sym e) ∙ tints q m ∙ ap tinted_follows e

pub tinted_stands : (q : Reading) → holds_null (tinted_follow q) ≡ stands q
unfolding tinted_follow roles_from after_all after alt seq less holds_null is_none
tinted_stands (Reading.Label LabelReading.Begin) = refl
tinted_stands (Reading.Label LabelReading.E) = refl
tinted_stands (Reading.Label LabelReading.En) = refl
tinted_stands (Reading.Label LabelReading.End) = refl
tinted_stands (Reading.Label LabelReading.Name) = refl
tinted_stands (Reading.Label LabelReading.Dot) = refl
tinted_stands (Reading.Gap Section.Reference) = refl
tinted_stands (Reading.Gap Section.Start) = refl
tinted_stands (Reading.Gap Section.Pattern) = refl
tinted_stands (Reading.Gap Section.Right) = refl
tinted_stands (Reading.Gap Section.Tail) = refl
tinted_stands Reading.Start = refl
tinted_stands Reading.StartDot = refl
tinted_stands (Reading.Dollar Place.Reference) = refl
tinted_stands (Reading.Dollar Place.Element) = refl
tinted_stands (Reading.Dollar Place.Operand) = refl
tinted_stands (Reading.Dollar (Place.Target Way.Both)) = refl
tinted_stands (Reading.Dollar (Place.Target Way.FirstS)) = refl
tinted_stands (Reading.Dollar (Place.Target Way.FirstF)) = refl
tinted_stands (Reading.Dollar (Place.Target Way.SecondS)) = refl
tinted_stands (Reading.Dollar (Place.Target Way.SecondF)) = refl
tinted_stands (Reading.Named Place.Reference) = refl
tinted_stands (Reading.Named Place.Element) = refl
tinted_stands (Reading.Named Place.Operand) = refl
tinted_stands (Reading.Named (Place.Target Way.Both)) = refl
tinted_stands (Reading.Named (Place.Target Way.FirstS)) = refl
tinted_stands (Reading.Named (Place.Target Way.FirstF)) = refl
tinted_stands (Reading.Named (Place.Target Way.SecondS)) = refl
tinted_stands (Reading.Named (Place.Target Way.SecondF)) = refl
tinted_stands (Reading.Dotted Place.Reference) = refl
tinted_stands (Reading.Dotted Place.Element) = refl
tinted_stands (Reading.Dotted Place.Operand) = refl
tinted_stands (Reading.Dotted (Place.Target Way.Both)) = refl
tinted_stands (Reading.Dotted (Place.Target Way.FirstS)) = refl
tinted_stands (Reading.Dotted (Place.Target Way.FirstF)) = refl
tinted_stands (Reading.Dotted (Place.Target Way.SecondS)) = refl
tinted_stands (Reading.Dotted (Place.Target Way.SecondF)) = refl
tinted_stands (Reading.Literal Side.Pattern) = refl
tinted_stands (Reading.Literal Side.Right) = refl
tinted_stands (Reading.Closed Side.Pattern) = refl
tinted_stands (Reading.Closed Side.Right) = refl
tinted_stands Reading.Equal = refl
tinted_stands (Reading.Variable VariableReading.Star) = refl
tinted_stands (Reading.Variable VariableReading.Name) = refl
tinted_stands (Reading.Variable VariableReading.Dot) = refl
tinted_stands (Reading.Variable VariableReading.Open) = refl
tinted_stands (Reading.Variable VariableReading.Group) = refl
tinted_stands (Reading.Variable VariableReading.GroupDot) = refl
tinted_stands (Reading.Variable VariableReading.Slash) = refl
tinted_stands (Reading.Variable VariableReading.Quote) = refl
tinted_stands (Reading.Variable (VariableReading.Length Room.Three)) = refl
tinted_stands (Reading.Variable (VariableReading.Length Room.Four)) = refl
tinted_stands (Reading.Variable (VariableReading.Length Room.FourZero)) = refl
tinted_stands (Reading.Variable (VariableReading.Length Room.FourZeroNine)) = refl
tinted_stands (Reading.Variable (VariableReading.Length Room.Two)) = refl
tinted_stands (Reading.Variable (VariableReading.Length Room.One)) = refl
tinted_stands (Reading.Variable (VariableReading.Length Room.Full)) = refl
tinted_stands (Reading.Variable VariableReading.Closing) = refl
tinted_stands (Reading.Variable VariableReading.Done) = refl
tinted_stands (Reading.Go GoReading.Slash) = refl
tinted_stands (Reading.Go GoReading.S) = refl
tinted_stands (Reading.Go GoReading.F) = refl
tinted_stands (Reading.Go GoReading.AlsoS) = refl
tinted_stands (Reading.Go GoReading.AlsoF) = refl
tinted_stands (Reading.Go (GoReading.Into Way.Both)) = refl
tinted_stands (Reading.Go (GoReading.Into Way.FirstS)) = refl
tinted_stands (Reading.Go (GoReading.Into Way.FirstF)) = refl
tinted_stands (Reading.Go (GoReading.Into Way.SecondS)) = refl
tinted_stands (Reading.Go (GoReading.Into Way.SecondF)) = refl
tinted_stands (Reading.Go GoReading.AfterS) = refl
tinted_stands (Reading.Go GoReading.AfterF) = refl
tinted_stands (Reading.Go GoReading.Done) = refl
