-- END's line is the statement line that begins with `END` and a blank. Assumes nothing.
use Rattle.std.proofs.Common.{◌≡◌, ℕ, Bool, true, false, cond, ◌&&◌, eqb, List, [], ◌∷◌, map, get_or, sym, refl, ap, ◌∙◌, arith}
use Rattle.std.proofs.lemmas.Bool.Decides.{nat_tests}
use Rattle.std.specs.List.{starts_with}
use Rattle.lines.specs.declared.mark.Mark.{Mark}
use Rattle.lines.specs.declared.mark.Mark.TheVariants.{Blank, LetterE, LetterN, LetterD, LetterS, LetterF, Letter, Zero, OneToThree, Four, FiveSix, SevenEight, Nine, Period, Quote, Dollar, Star, Slash, Open, Close, Equal, Other}
use Rattle.lines.specs.Marks.{mark_of, same, num}
use Rattle.lines.specs.Languages.{Lang, none}
use Rattle.lines.specs.After.{holds_null, is_none, seq, alt, less, after, after_all}
use Rattle.lines.specs.Grammar.{plain, line, ending}
use Rattle.lines.specs.Ends.{begins_end}
use Rattle.lines.specs.Lines.{is_statement, is_end}
use Rattle.lines.proofs.Follows.{and_left, and_right}
use Rattle.lines.proofs.Steps.{AllMarks, at}
use Rattle.lines.proofs.Walk.{none_stays}

-- the four marks stand for no other characters
mark_e : (c : ℕ) → eqb 69 c ≡ same (mark_of c) LetterE
mark_e c = grind (arith, nat_tests)

mark_n : (c : ℕ) → eqb 78 c ≡ same (mark_of c) LetterN
mark_n c = grind (arith, nat_tests)

mark_d : (c : ℕ) → eqb 68 c ≡ same (mark_of c) LetterD
mark_d c = grind (arith, nat_tests)

mark_blank : (c : ℕ) → eqb 32 c ≡ same (mark_of c) Blank
mark_blank c = grind (arith, nat_tests)

-- the characters `END` and a blank come first, just if their marks do
pub starts_end : (s : List ℕ) → starts_with eqb s (69 ∷ 78 ∷ 68 ∷ 32 ∷ []) ≡ begins_end (map mark_of s)
starts_end [] = refl
starts_end (a ∷ []) = rw (mark_e a) refl
starts_end (a ∷ b ∷ []) = rw (mark_e a, mark_n b) refl
starts_end (a ∷ b ∷ c ∷ []) = rw (mark_e a, mark_n b, mark_d c) refl
starts_end (a ∷ b ∷ c ∷ d ∷ s) = rw (mark_e a, mark_n b, mark_d c, mark_blank d) refl

-- what may follow in a line of either form and in END's line, once some marks are read
abbrev lines : List Mark → Lang Mark
lines ks = after_all ks (line plain)

abbrev ends : List Mark → Lang Mark
ends ks = after_all ks (ending plain)

abbrev Only : List Mark → Mark → List Mark → Type 0
Only ks k js = AllMarks (λ m. after m (ends ks) ≡ cond (same m k) (ends js) none)

only_e : Only [] LetterE (LetterE ∷ [])
unfolding ending after_all after alt seq less holds_null is_none
only_e = (refl, refl, refl, refl, refl, refl, refl, refl, refl, refl, refl, refl, refl, refl, refl, refl, refl, refl, refl, refl, refl, refl)

only_n : Only (LetterE ∷ []) LetterN (LetterE ∷ LetterN ∷ [])
unfolding ending after_all after alt seq less holds_null is_none
only_n = (refl, refl, refl, refl, refl, refl, refl, refl, refl, refl, refl, refl, refl, refl, refl, refl, refl, refl, refl, refl, refl, refl)

only_d : Only (LetterE ∷ LetterN ∷ []) LetterD (LetterE ∷ LetterN ∷ LetterD ∷ [])
unfolding ending after_all after alt seq less holds_null is_none
only_d = (refl, refl, refl, refl, refl, refl, refl, refl, refl, refl, refl, refl, refl, refl, refl, refl, refl, refl, refl, refl, refl, refl)

only_blank : Only (LetterE ∷ LetterN ∷ LetterD ∷ []) Blank (LetterE ∷ LetterN ∷ LetterD ∷ Blank ∷ [])
unfolding ending after_all after alt seq less holds_null is_none
only_blank = (refl, refl, refl, refl, refl, refl, refl, refl, refl, refl, refl, refl, refl, refl, refl, refl, refl, refl, refl, refl, refl, refl)

-- after `END` and a blank only END's line can follow
alike : ends (LetterE ∷ LetterN ∷ LetterD ∷ Blank ∷ []) ≡ lines (LetterE ∷ LetterN ∷ LetterD ∷ Blank ∷ [])
unfolding ending line after_all after alt seq less holds_null is_none
alike = refl

-- one more mark of END's line
only : (ks js : List Mark) (k m : Mark) → Only ks k js → (ms : List Mark)
    → holds_null (after_all ms (after m (ends ks))) ≡ (same m k && holds_null (after_all ms (ends js)))
only ks js k m h ms =
    ap (λ (a : Lang Mark). holds_null (after_all ms a)) (at (λ x. after x (ends ks) ≡ cond (same x k) (ends js) none) h m) ∙ on (same m k)
  where
    on : (b : Bool) → holds_null (after_all ms (cond b (ends js) none)) ≡ (b && holds_null (after_all ms (ends js)))
    on true = refl
    on false = none_stays ms

mark_at : ℕ → Mark
mark_at n = get_or (Blank ∷ LetterE ∷ LetterN ∷ LetterD ∷ LetterS ∷ LetterF ∷ Letter ∷ Zero ∷ OneToThree ∷ Four ∷ FiveSix ∷ SevenEight ∷ Nine ∷ Period ∷ Quote ∷ Dollar ∷ Star ∷ Slash ∷ Open ∷ Close ∷ Equal ∷ Other ∷ []) n Other

mark_back : (m : Mark) → mark_at (num m) ≡ m
unfolding mark_at
mark_back Blank = refl
mark_back LetterE = refl
mark_back LetterN = refl
mark_back LetterD = refl
mark_back LetterS = refl
mark_back LetterF = refl
mark_back Letter = refl
mark_back Zero = refl
mark_back OneToThree = refl
mark_back Four = refl
mark_back FiveSix = refl
mark_back SevenEight = refl
mark_back Nine = refl
mark_back Period = refl
mark_back Quote = refl
mark_back Dollar = refl
mark_back Star = refl
mark_back Slash = refl
mark_back Open = refl
mark_back Close = refl
mark_back Equal = refl
mark_back Other = refl

same_marks : (a b : Mark) → same a b ≡ true → a ≡ b
same_marks a b e = let n : num a ≡ num b = grind (arith, nat_tests) in sym (mark_back a) ∙ ap mark_at n ∙ mark_back b

regroup : (a b c d h : Bool) → (a && (b && (c && (d && h)))) ≡ ((a && (b && (c && (d && true)))) && h)
regroup true true true true h = refl
regroup true true true false h = refl
regroup true true false d h = refl
regroup true false c d h = refl
regroup false b c d h = refl

-- the marks `END` and a blank, then ms
abbrev after_end : List Mark → Lang Mark
after_end ms = after_all ms (ends (LetterE ∷ LetterN ∷ LetterD ∷ Blank ∷ []))

module _ (a b c d : Mark) (ms : List Mark) where
  abbrev all : List Mark
  all = a ∷ b ∷ c ∷ d ∷ ms

  full : holds_null (ends all) ≡ (begins_end all && holds_null (after_end ms))
  unfolding after_all
  full =
      only [] (LetterE ∷ []) LetterE a only_e (b ∷ c ∷ d ∷ ms)
      ∙ ap (λ (x : Bool). same a LetterE && x) (only (LetterE ∷ []) (LetterE ∷ LetterN ∷ []) LetterN b only_n (c ∷ d ∷ ms)
      ∙ ap (λ (x : Bool). same b LetterN && x) (only (LetterE ∷ LetterN ∷ []) (LetterE ∷ LetterN ∷ LetterD ∷ []) LetterD c only_d (d ∷ ms)
      ∙ ap (λ (x : Bool). same c LetterD && x)
      (only (LetterE ∷ LetterN ∷ LetterD ∷ []) (LetterE ∷ LetterN ∷ LetterD ∷ Blank ∷ []) Blank d only_blank ms)))
      ∙ regroup (same a LetterE) (same b LetterN) (same c LetterD) (same d Blank) (holds_null (after_end ms))

  spelled : begins_end all ≡ true → all ≡ LetterE ∷ LetterN ∷ LetterD ∷ Blank ∷ ms
  spelled e =
      let f = and_right (same a LetterE) (same b LetterN && (same c LetterD && (same d Blank && true))) e in
      let g = and_right (same b LetterN) (same c LetterD && (same d Blank && true)) f in
      let h = and_right (same c LetterD) (same d Blank && true) g in
      let ea = same_marks a LetterE (and_left (same a LetterE) (same b LetterN && (same c LetterD && (same d Blank && true))) e) in
      let eb = same_marks b LetterN (and_left (same b LetterN) (same c LetterD && (same d Blank && true)) f) in
      let ec = same_marks c LetterD (and_left (same c LetterD) (same d Blank && true) g) in
      let ed = same_marks d Blank (and_left (same d Blank) true h) in
      cc

  end_full : holds_null (ends all) ≡ (begins_end all && holds_null (lines all))
  unfolding after_all
  end_full = full ∙ go (begins_end all) refl
    where
      go : (x : Bool) → begins_end all ≡ x → (x && holds_null (after_end ms)) ≡ (x && holds_null (lines all))
      go false e = refl
      go true e =
          ap (λ (l : Lang Mark). holds_null (after_all ms l)) alike
          ∙ ap (λ (x : List Mark). holds_null (lines x)) (sym (spelled e))

-- END's line is a statement line that begins so
end_at : (ms : List Mark) → holds_null (ends ms) ≡ (begins_end ms && holds_null (lines ms))
unfolding ending after_all after alt seq less holds_null is_none
end_at [] = refl
end_at (a ∷ []) = only [] (LetterE ∷ []) LetterE a only_e [] ∙ one (same a LetterE) (holds_null (lines (a ∷ [])))
  where
    one : (x y : Bool) → (x && false) ≡ ((x && false) && y)
    one true y = refl
    one false y = refl
end_at (a ∷ b ∷ []) =
    only [] (LetterE ∷ []) LetterE a only_e (b ∷ [])
    ∙ ap (λ (x : Bool). same a LetterE && x) (only (LetterE ∷ []) (LetterE ∷ LetterN ∷ []) LetterN b only_n [])
    ∙ two (same a LetterE) (same b LetterN) (holds_null (lines (a ∷ b ∷ [])))
  where
    two : (x y z : Bool) → (x && (y && false)) ≡ ((x && (y && false)) && z)
    two true true z = refl
    two true false z = refl
    two false y z = refl
end_at (a ∷ b ∷ c ∷ []) =
    only [] (LetterE ∷ []) LetterE a only_e (b ∷ c ∷ [])
    ∙ ap (λ (x : Bool). same a LetterE && x) (only (LetterE ∷ []) (LetterE ∷ LetterN ∷ []) LetterN b only_n (c ∷ [])
    ∙ ap (λ (x : Bool). same b LetterN && x) (only (LetterE ∷ LetterN ∷ []) (LetterE ∷ LetterN ∷ LetterD ∷ []) LetterD c only_d []))
    ∙ three (same a LetterE) (same b LetterN) (same c LetterD) (holds_null (lines (a ∷ b ∷ c ∷ [])))
  where
    three : (x y w z : Bool) → (x && (y && (w && false))) ≡ ((x && (y && (w && false))) && z)
    three true true true z = refl
    three true true false z = refl
    three true false w z = refl
    three false y w z = refl
end_at (a ∷ b ∷ c ∷ d ∷ ms) = end_full a b c d ms

pub is_end_at : (s : List ℕ) → is_end s ≡ (begins_end (map mark_of s) && is_statement s)
unfolding is_end is_statement
is_end_at s = end_at (map mark_of s)
