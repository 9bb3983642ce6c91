-- What each character is to the form of a line.
use Rattle.std.specs.Prelude.{ℕ, Bool, cond, ◌&&◌, ◌==◌, nat_le}
use Rattle.lines.specs.declared.mark.Mark.{Mark}
use Rattle.lines.specs.declared.mark.Mark.TheVariants.{Blank, LetterE, LetterN, LetterD, LetterS, LetterF, Letter, Zero, OneToThree, Four, FiveSix, SevenEight, Nine, Period, Quote, Dollar, Star, Slash, Open, Close, Equal, Other}

abbrev between : ℕ → ℕ → ℕ → Bool
between a c b = nat_le a c && nat_le c b

abbrev pub mark_of : ℕ → Mark
mark_of c =
    cond (c == 32) Blank
    (cond (c == 69) LetterE
    (cond (c == 78) LetterN
    (cond (c == 68) LetterD
    (cond (c == 83) LetterS
    (cond (c == 70) LetterF
    (cond (between 65 c 90) Letter
    (cond (c == 48) Zero
    (cond (between 49 c 51) OneToThree
    (cond (c == 52) Four
    (cond (between 53 c 54) FiveSix
    (cond (between 55 c 56) SevenEight
    (cond (c == 57) Nine
    (cond (c == 46) Period
    (cond (c == 34) Quote
    (cond (c == 36) Dollar
    (cond (c == 42) Star
    (cond (c == 47) Slash
    (cond (c == 40) Open
    (cond (c == 41) Close
    (cond (c == 61) Equal
    Other))))))))))))))))))))

-- the marks in a row, to compare them
abbrev pub num : Mark → ℕ
num Blank = 0
num LetterE = 1
num LetterN = 2
num LetterD = 3
num LetterS = 4
num LetterF = 5
num Letter = 6
num Zero = 7
num OneToThree = 8
num Four = 9
num FiveSix = 10
num SevenEight = 11
num Nine = 12
num Period = 13
num Quote = 14
num Dollar = 15
num Star = 16
num Slash = 17
num Open = 18
num Close = 19
num Equal = 20
num Other = 21

abbrev pub same : Mark → Mark → Bool
same a b = num a == num b

-- a capital or a digit
abbrev pub solid : Mark → Bool
solid m = between 1 (num m) 12

abbrev pub digit : Mark → Bool
digit m = between 7 (num m) 12
