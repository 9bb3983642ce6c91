-- The derived equality of roles is that of their numbers, and so is that of marks. Assumes nothing.
use Rattle.std.proofs.Common.{◌≡◌, refl}
use denote.Enum.Bare.{sameb}
use denote.Enum.Declared.{tag_of}
use Rattle.lines.specs.contracts.mark.Mark.{the_type as mark_type}
use Rattle.lines.specs.contracts.role.Role.{the_type}
use Rattle.lines.specs.declared.mark.Mark.{Mark}
use Rattle.lines.specs.declared.role.Role.{Role}
use Rattle.lines.specs.Marks.{num, same}
use Rattle.lines.specs.Roles.{role_number, same_role}

tag_is : (r : Role) → tag_of the_type r ≡ role_number r
tag_is Role.Between = refl
tag_is Role.Label = refl
tag_is Role.Start = refl
tag_is Role.Reference = refl
tag_is Role.Element = refl
tag_is Role.LiteralElement = refl
tag_is Role.Star = refl
tag_is Role.Variable = refl
tag_is Role.Group = refl
tag_is Role.Length = refl
tag_is Role.Equal = refl
tag_is Role.Operand = refl
tag_is Role.LiteralOperand = refl
tag_is Role.Both = refl
tag_is Role.OnS = refl
tag_is Role.OnF = refl

pub roles_same : (a b : Role) → sameb the_type a b ≡ same_role a b
roles_same a b = rw (tag_is a, tag_is b) refl

mark_tag_is : (m : Mark) → tag_of mark_type m ≡ num m
mark_tag_is Mark.Blank = refl
mark_tag_is Mark.LetterE = refl
mark_tag_is Mark.LetterN = refl
mark_tag_is Mark.LetterD = refl
mark_tag_is Mark.LetterS = refl
mark_tag_is Mark.LetterF = refl
mark_tag_is Mark.Letter = refl
mark_tag_is Mark.Zero = refl
mark_tag_is Mark.OneToThree = refl
mark_tag_is Mark.Four = refl
mark_tag_is Mark.FiveSix = refl
mark_tag_is Mark.SevenEight = refl
mark_tag_is Mark.Nine = refl
mark_tag_is Mark.Period = refl
mark_tag_is Mark.Quote = refl
mark_tag_is Mark.Dollar = refl
mark_tag_is Mark.Star = refl
mark_tag_is Mark.Slash = refl
mark_tag_is Mark.Open = refl
mark_tag_is Mark.Close = refl
mark_tag_is Mark.Equal = refl
mark_tag_is Mark.Other = refl

pub marks_same : (a b : Mark) → sameb mark_type a b ≡ same a b
marks_same a b = rw (mark_tag_is a, mark_tag_is b) refl
