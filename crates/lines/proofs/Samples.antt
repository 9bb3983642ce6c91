-- What may follow at each way in which a line can be partly read, by a sample of its beginning and one of its end. Assumes nothing.
use Rattle.std.proofs.Common.{ℕ, List, map, Some, None, codes, Option}
use Rattle.lines.specs.declared.mark.Mark.{Mark}
use Rattle.lines.specs.declared.reading.Way.{Way}
use Rattle.lines.specs.declared.reading.Place.{Place}
use Rattle.lines.specs.declared.reading.Section.{Section}
use Rattle.lines.specs.declared.reading.Side.{Side}
use Rattle.lines.specs.declared.reading.Room.{Room}
use Rattle.lines.specs.declared.reading.LabelReading.{LabelReading}
use Rattle.lines.specs.declared.reading.VariableReading.{VariableReading}
use Rattle.lines.specs.declared.reading.GoReading.{GoReading}
use Rattle.lines.specs.declared.reading.Reading.{Reading}
use Rattle.lines.specs.Marks.{mark_of}
use Rattle.lines.specs.Languages.{Lang, none}
use Rattle.lines.specs.After.{after_all}
use Rattle.lines.specs.Grammar.{Character, plain, tinted, line}
use Rattle.lines.specs.Roles.{roles}
use Rattle.lines.specs.Lines.{characters}

abbrev pub sample : Reading → List ℕ
sample (Reading.Label LabelReading.Begin) = codes ""
sample (Reading.Label LabelReading.E) = codes "E"
sample (Reading.Label LabelReading.En) = codes "EN"
sample (Reading.Label LabelReading.End) = codes "END"
sample (Reading.Label LabelReading.Name) = codes "A"
sample (Reading.Label LabelReading.Dot) = codes "A."
sample (Reading.Gap Section.Reference) = codes " "
sample (Reading.Gap Section.Start) = codes "END "
sample (Reading.Gap Section.Pattern) = codes " A "
sample (Reading.Gap Section.Right) = codes " A = "
sample (Reading.Gap Section.Tail) = codes " A /(A) "
sample Reading.Start = codes "END A"
sample Reading.StartDot = codes "END A."
sample (Reading.Dollar Place.Reference) = codes " $"
sample (Reading.Dollar Place.Element) = codes " A $"
sample (Reading.Dollar Place.Operand) = codes " A = $"
sample (Reading.Dollar (Place.Target Way.Both)) = codes " A /($"
sample (Reading.Dollar (Place.Target Way.FirstS)) = codes " A /S($"
sample (Reading.Dollar (Place.Target Way.FirstF)) = codes " A /F($"
sample (Reading.Dollar (Place.Target Way.SecondS)) = codes " A /F(A)S($"
sample (Reading.Dollar (Place.Target Way.SecondF)) = codes " A /S(A)F($"
sample (Reading.Named Place.Reference) = codes " A"
sample (Reading.Named Place.Element) = codes " A A"
sample (Reading.Named Place.Operand) = codes " A = A"
sample (Reading.Named (Place.Target Way.Both)) = codes " A /(A"
sample (Reading.Named (Place.Target Way.FirstS)) = codes " A /S(A"
sample (Reading.Named (Place.Target Way.FirstF)) = codes " A /F(A"
sample (Reading.Named (Place.Target Way.SecondS)) = codes " A /F(A)S(A"
sample (Reading.Named (Place.Target Way.SecondF)) = codes " A /S(A)F(A"
sample (Reading.Dotted Place.Reference) = codes " A."
sample (Reading.Dotted Place.Element) = codes " A A."
sample (Reading.Dotted Place.Operand) = codes " A = A."
sample (Reading.Dotted (Place.Target Way.Both)) = codes " A /(A."
sample (Reading.Dotted (Place.Target Way.FirstS)) = codes " A /S(A."
sample (Reading.Dotted (Place.Target Way.FirstF)) = codes " A /F(A."
sample (Reading.Dotted (Place.Target Way.SecondS)) = codes " A /F(A)S(A."
sample (Reading.Dotted (Place.Target Way.SecondF)) = codes " A /S(A)F(A."
sample (Reading.Literal Side.Pattern) = codes " A \""
sample (Reading.Literal Side.Right) = codes " A = \""
sample (Reading.Closed Side.Pattern) = codes " A \"\""
sample (Reading.Closed Side.Right) = codes " A = \"\""
sample Reading.Equal = codes " A ="
sample (Reading.Variable VariableReading.Star) = codes " A *"
sample (Reading.Variable VariableReading.Name) = codes " A *A"
sample (Reading.Variable VariableReading.Dot) = codes " A *A."
sample (Reading.Variable VariableReading.Open) = codes " A *("
sample (Reading.Variable VariableReading.Group) = codes " A *(A"
sample (Reading.Variable VariableReading.GroupDot) = codes " A *(A."
sample (Reading.Variable VariableReading.Slash) = codes " A *A/"
sample (Reading.Variable VariableReading.Quote) = codes " A *A/\""
sample (Reading.Variable (VariableReading.Length Room.Three)) = codes " A *A/\"1"
sample (Reading.Variable (VariableReading.Length Room.Four)) = codes " A *A/\"4"
sample (Reading.Variable (VariableReading.Length Room.FourZero)) = codes " A *A/\"40"
sample (Reading.Variable (VariableReading.Length Room.FourZeroNine)) = codes " A *A/\"409"
sample (Reading.Variable (VariableReading.Length Room.Two)) = codes " A *A/\"5"
sample (Reading.Variable (VariableReading.Length Room.One)) = codes " A *A/\"41"
sample (Reading.Variable (VariableReading.Length Room.Full)) = codes " A *A/\"4000"
sample (Reading.Variable VariableReading.Closing) = codes " A *(A)"
sample (Reading.Variable VariableReading.Done) = codes " A *A*"
sample (Reading.Go GoReading.Slash) = codes " A /"
sample (Reading.Go GoReading.S) = codes " A /S"
sample (Reading.Go GoReading.F) = codes " A /F"
sample (Reading.Go GoReading.AlsoS) = codes " A /F(A)S"
sample (Reading.Go GoReading.AlsoF) = codes " A /S(A)F"
sample (Reading.Go (GoReading.Into Way.Both)) = codes " A /("
sample (Reading.Go (GoReading.Into Way.FirstS)) = codes " A /S("
sample (Reading.Go (GoReading.Into Way.FirstF)) = codes " A /F("
sample (Reading.Go (GoReading.Into Way.SecondS)) = codes " A /F(A)S("
sample (Reading.Go (GoReading.Into Way.SecondF)) = codes " A /S(A)F("
sample (Reading.Go GoReading.AfterS) = codes " A /S(A)"
sample (Reading.Go GoReading.AfterF) = codes " A /F(A)"
sample (Reading.Go GoReading.Done) = codes " A /(A)"

abbrev pub finish : Reading → List ℕ
finish (Reading.Label LabelReading.Begin) = codes " A"
finish (Reading.Label LabelReading.E) = codes " A"
finish (Reading.Label LabelReading.En) = codes " A"
finish (Reading.Label LabelReading.End) = codes " A"
finish (Reading.Label LabelReading.Name) = codes " A"
finish (Reading.Label LabelReading.Dot) = codes "A A"
finish (Reading.Gap Section.Reference) = codes "A"
finish (Reading.Gap Section.Start) = codes "A"
finish (Reading.Gap Section.Pattern) = codes ""
finish (Reading.Gap Section.Right) = codes ""
finish (Reading.Gap Section.Tail) = codes ""
finish Reading.Start = codes ""
finish Reading.StartDot = codes "A"
finish (Reading.Dollar Place.Reference) = codes "A"
finish (Reading.Dollar Place.Element) = codes "A"
finish (Reading.Dollar Place.Operand) = codes "A"
finish (Reading.Dollar (Place.Target Way.Both)) = codes "A)"
finish (Reading.Dollar (Place.Target Way.FirstS)) = codes "A)"
finish (Reading.Dollar (Place.Target Way.FirstF)) = codes "A)"
finish (Reading.Dollar (Place.Target Way.SecondS)) = codes "A)"
finish (Reading.Dollar (Place.Target Way.SecondF)) = codes "A)"
finish (Reading.Named Place.Reference) = codes ""
finish (Reading.Named Place.Element) = codes ""
finish (Reading.Named Place.Operand) = codes ""
finish (Reading.Named (Place.Target Way.Both)) = codes ")"
finish (Reading.Named (Place.Target Way.FirstS)) = codes ")"
finish (Reading.Named (Place.Target Way.FirstF)) = codes ")"
finish (Reading.Named (Place.Target Way.SecondS)) = codes ")"
finish (Reading.Named (Place.Target Way.SecondF)) = codes ")"
finish (Reading.Dotted Place.Reference) = codes "A"
finish (Reading.Dotted Place.Element) = codes "A"
finish (Reading.Dotted Place.Operand) = codes "A"
finish (Reading.Dotted (Place.Target Way.Both)) = codes "A)"
finish (Reading.Dotted (Place.Target Way.FirstS)) = codes "A)"
finish (Reading.Dotted (Place.Target Way.FirstF)) = codes "A)"
finish (Reading.Dotted (Place.Target Way.SecondS)) = codes "A)"
finish (Reading.Dotted (Place.Target Way.SecondF)) = codes "A)"
finish (Reading.Literal Side.Pattern) = codes "\""
finish (Reading.Literal Side.Right) = codes "\""
finish (Reading.Closed Side.Pattern) = codes ""
finish (Reading.Closed Side.Right) = codes ""
finish Reading.Equal = codes ""
finish (Reading.Variable VariableReading.Star) = codes "A*"
finish (Reading.Variable VariableReading.Name) = codes "*"
finish (Reading.Variable VariableReading.Dot) = codes "A*"
finish (Reading.Variable VariableReading.Open) = codes "A)*"
finish (Reading.Variable VariableReading.Group) = codes ")*"
finish (Reading.Variable VariableReading.GroupDot) = codes "A)*"
finish (Reading.Variable VariableReading.Slash) = codes "\"1\"*"
finish (Reading.Variable VariableReading.Quote) = codes "1\"*"
finish (Reading.Variable (VariableReading.Length Room.Three)) = codes "\"*"
finish (Reading.Variable (VariableReading.Length Room.Four)) = codes "\"*"
finish (Reading.Variable (VariableReading.Length Room.FourZero)) = codes "\"*"
finish (Reading.Variable (VariableReading.Length Room.FourZeroNine)) = codes "\"*"
finish (Reading.Variable (VariableReading.Length Room.Two)) = codes "\"*"
finish (Reading.Variable (VariableReading.Length Room.One)) = codes "\"*"
finish (Reading.Variable (VariableReading.Length Room.Full)) = codes "\"*"
finish (Reading.Variable VariableReading.Closing) = codes "*"
finish (Reading.Variable VariableReading.Done) = codes ""
finish (Reading.Go GoReading.Slash) = codes "(A)"
finish (Reading.Go GoReading.S) = codes "(A)"
finish (Reading.Go GoReading.F) = codes "(A)"
finish (Reading.Go GoReading.AlsoS) = codes "(A)"
finish (Reading.Go GoReading.AlsoF) = codes "(A)"
finish (Reading.Go (GoReading.Into Way.Both)) = codes "A)"
finish (Reading.Go (GoReading.Into Way.FirstS)) = codes "A)"
finish (Reading.Go (GoReading.Into Way.FirstF)) = codes "A)"
finish (Reading.Go (GoReading.Into Way.SecondS)) = codes "A)"
finish (Reading.Go (GoReading.Into Way.SecondF)) = codes "A)"
finish (Reading.Go GoReading.AfterS) = codes ""
finish (Reading.Go GoReading.AfterF) = codes ""
finish (Reading.Go GoReading.Done) = codes ""

-- what may follow, by the marks alone
unfoldable pub follow : Reading → Lang Mark
unfolding line after_all
follow q = after_all (map mark_of (sample q)) (line plain)

-- nothing may follow where there is no reading
unfoldable pub follows : Option Reading → Lang Mark
unfolding follow
follows None = none
follows (Some q) = follow q

-- what may follow, with the roles
unfoldable pub tinted_follow : Reading → Lang Character
unfolding line after_all
tinted_follow q = after_all (characters (sample q) (roles (sample q))) (line tinted)
