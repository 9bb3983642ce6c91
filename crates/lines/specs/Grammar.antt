-- The form of a statement line: its items and the blanks between them, each character with its role. Assumes nothing.
use Rattle.std.specs.Prelude.{Bool, not, ◌&&◌}
use Rattle.lines.specs.declared.mark.Mark.{Mark}
use Rattle.lines.specs.declared.mark.Mark.TheVariants.{Blank, LetterE, LetterN, LetterD, LetterS, LetterF, Zero, OneToThree, Four, SevenEight, Nine, Period, Quote, Dollar, Star, Slash, Open, Close, Equal}
use Rattle.lines.specs.declared.role.Role.{Role}
use Rattle.lines.specs.Marks.{same, solid, digit}
use Rattle.lines.specs.Roles.{same_role}
use Rattle.lines.specs.Languages.{Lang, one, ◌then◌, ◌or◌, ◌but◌, many, optional}

-- a character with the role that it has in its line
pub record Character : Type 0 where
  pub mark : Mark
  pub role : Role

-- a test of a character in a role: by its mark alone, or by its role too
abbrev pub Test : Type 0 → Type 0
Test A = Role → (Mark → Bool) → A → Bool

abbrev pub plain : Test Mark
plain r p m = p m

abbrev pub tinted : Test Character
tinted r p x = p x.mark && same_role x.role r

module _ {A : Type 0} (has : Test A) where
  unfoldable pub is : Role → Mark → Lang A
  is r k = one (has r (λ m. same m k))

  unfoldable pub blanks : Lang A
  unfolding is
  blanks = is Role.Between Blank then many (is Role.Between Blank)

  -- capitals, digits and periods, no period first or last
  unfoldable pub name : Role → Lang A
  unfolding is
  name r = one (has r solid) then many (many (is r Period) then one (has r solid))

  -- a name, or `$` and a name
  unfoldable pub reference : Role → Lang A
  unfolding is name
  reference r = name r or (is r Dollar then name r)

  -- any characters but `"` between two `"`
  unfoldable pub literal : Role → Lang A
  unfolding is
  literal r = is r Quote then many (one (has r (λ m. not (same m Quote)))) then is r Quote

  unfoldable pub digits : (Mark → Bool) → Lang A
  digits p = one (has Role.Length p)

  -- one to four digits, 0 to 4096
  unfoldable pub span : Lang A
  unfolding is digits
  span =
      digits digit
      or (digits digit then digits digit)
      or (digits digit then digits digit then digits digit)
      or ((is Role.Length Zero or is Role.Length OneToThree) then digits digit then digits digit then digits digit)
      or (is Role.Length Four then is Role.Length Zero then digits (λ m. digit m && not (same m Nine)) then digits digit)
      or (is Role.Length Four then is Role.Length Zero then is Role.Length Nine
      then digits (λ m. digit m && not (same m SevenEight) && not (same m Nine)))

  -- `*X*`, `*(X)*` or `*X/"3"*`
  unfoldable pub variable : Lang A
  unfolding is name span optional
  variable =
      is Role.Star Star
      then ((is Role.Star Open then name Role.Group then is Role.Between Close)
      or (name Role.Variable
      then optional (is Role.Between Slash then is Role.Between Quote then span then is Role.Between Quote)))
      then is Role.Between Star

  unfoldable pub element : Lang A
  unfolding literal reference variable
  element = literal Role.LiteralElement or reference Role.Element or variable

  unfoldable pub operand : Lang A
  unfolding literal reference
  operand = literal Role.LiteralOperand or reference Role.Operand

  -- a label of a go-to, or `$` and a name, in parentheses
  unfoldable pub target : Role → Lang A
  unfolding is reference
  target r = is Role.Between Open then reference r then is Role.Between Close

  -- `/(L)`, `/S(L)`, `/F(L)`, `/S(L)F(L)` or `/F(L)S(L)`
  unfoldable pub go_to : Lang A
  unfolding is target optional
  go_to =
      is Role.Between Slash
      then (target Role.Both
      or (is Role.Between LetterS then target Role.OnS then optional (is Role.Between LetterF then target Role.OnF))
      or (is Role.Between LetterF then target Role.OnF then optional (is Role.Between LetterS then target Role.OnS)))

  unfoldable pub end_label : Lang A
  unfolding is
  end_label = is Role.Label LetterE then is Role.Label LetterN then is Role.Label LetterD

  -- an optional label that is not END, a string reference, elements, `=` with operands, a go-to, with blanks between
  unfoldable pub statement : Lang A
  unfolding is optional blanks name end_label reference element operand go_to
  statement =
      optional (name Role.Label but end_label)
      then blanks
      then reference Role.Reference
      then many (blanks then element)
      then optional (blanks then is Role.Equal Equal then many (blanks then operand))
      then optional (blanks then go_to)
      then many (is Role.Between Blank)

  -- END's line: `END`, blanks, the label to start at
  unfoldable pub ending : Lang A
  unfolding is blanks name end_label
  ending = end_label then blanks then name Role.Start then many (is Role.Between Blank)

  -- a line of either form: a label END admits only END's line, and a beginning is one of a line of either form
  unfoldable pub line : Lang A
  unfolding statement ending
  line = statement or ending
