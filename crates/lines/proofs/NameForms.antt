-- The set `name` is what the plain words say. Assumes nothing.
use Rattle.std.proofs.Common.{◌≡◌, Bool, true, false, cond, ◌&&◌, ◌||◌, List, [], ◌∷◌, sym, refl, ap, ◌∙◌}
use Rattle.lines.specs.declared.mark.Mark.{Mark}
use Rattle.lines.specs.declared.mark.Mark.TheVariants.{Period}
use Rattle.lines.specs.declared.role.Role.{Role}
use Rattle.lines.specs.Marks.{same, solid}
use Rattle.lines.specs.Languages.{Lang, none, one, many, ◌then◌}
use Rattle.lines.specs.After.{holds_null, is_none, seq, alt, less, after, after_all}
use Rattle.lines.specs.Grammar.{plain, is, name}
use Rattle.lines.specs.NameForm.{name_marks, last_solid, is_name, NameForm}
use Rattle.lines.proofs.Walk.{whole_in, none_stays}
use Rattle.lines.proofs.Steps.{AllMarks, at}

-- what may follow within a name: after a capital or a digit (true), after a period (false)
rest : Bool → Lang Mark
unfolding is
rest true = many (many (is plain Role.Between Period) then one solid)
rest false = many (is plain Role.Between Period) then (one solid then many (many (is plain Role.Between Period) then one solid))

begins : (r : Role) → AllMarks (λ m. after m (name plain r) ≡ cond (solid m) (rest true) none)
unfolding name is rest after alt seq less holds_null is_none
begins r = (refl, refl, refl, refl, refl, refl, refl, refl, refl, refl, refl, refl, refl, refl, refl, refl, refl, refl, refl, refl, refl, refl)

goes_true : AllMarks (λ m. after m (rest true) ≡ cond (solid m) (rest true) (cond (same m Period) (rest false) none))
unfolding is rest after alt seq less holds_null is_none
goes_true = (refl, refl, refl, refl, refl, refl, refl, refl, refl, refl, refl, refl, refl, refl, refl, refl, refl, refl, refl, refl, refl, refl)

goes_false : AllMarks (λ m. after m (rest false) ≡ cond (solid m) (rest true) (cond (same m Period) (rest false) none))
unfolding is rest after alt seq less holds_null is_none
goes_false = (refl, refl, refl, refl, refl, refl, refl, refl, refl, refl, refl, refl, refl, refl, refl, refl, refl, refl, refl, refl, refl, refl)

goes : (b : Bool) (m : Mark) → after m (rest b) ≡ cond (solid m) (rest true) (cond (same m Period) (rest false) none)
goes true m = at (λ m. after m (rest true) ≡ cond (solid m) (rest true) (cond (same m Period) (rest false) none)) goes_true m
goes false m = at (λ m. after m (rest false) ≡ cond (solid m) (rest true) (cond (same m Period) (rest false) none)) goes_false m

-- one more mark, by whether it is solid, and else a period
rest_on : (s : List Mark) → ((b : Bool) → holds_null (after_all s (rest b)) ≡ (name_marks s && last_solid b s)) → (x y : Bool)
    → holds_null (after_all s (cond x (rest true) (cond y (rest false) none))) ≡ (((x || y) && name_marks s) && last_solid x s)
rest_on s ih true y = ih true
rest_on s ih false true = ih false
rest_on s ih false false = none_stays s

rest_is : (b : Bool) (s : List Mark) → holds_null (after_all s (rest b)) ≡ (name_marks s && last_solid b s)
unfolding after_all holds_null rest
rest_is true [] = refl
rest_is false [] = refl
rest_is b (m ∷ s) =
    ap (λ (a : Lang Mark). holds_null (after_all s a)) (goes b m) ∙ rest_on s (λ c. rest_is c s) (solid m) (same m Period)

name_on : (s : List Mark) (x y : Bool) → holds_null (after_all s (cond x (rest true) none)) ≡ (((x || y) && name_marks s) && x && last_solid x s)
name_on s true y = rest_is true s ∙ regroup (name_marks s) (last_solid true s)
  where
    regroup : (a c : Bool) → (a && c) ≡ ((a && true) && c)
    regroup true c = refl
    regroup false c = refl
name_on s false y = none_stays s ∙ zero ((false || y) && name_marks s) (last_solid false s)
  where
    zero : (a c : Bool) → false ≡ ((a && false) && c)
    zero true c = refl
    zero false c = refl

name_is : (r : Role) (s : List Mark) → holds_null (after_all s (name plain r)) ≡ is_name s
unfolding after_all name holds_null
name_is r [] = refl
name_is r (m ∷ s) =
    ap (λ (a : Lang Mark). holds_null (after_all s a)) (at (λ m. after m (name plain r) ≡ cond (solid m) (rest true) none) (begins r) m)
    ∙ name_on s (solid m) (same m Period)

pub name_form : NameForm
name_form r s =
    (λ h. sym (name_is r s) ∙ (whole_in s (name plain r)).0 h, λ e. (whole_in s (name plain r)).1 (name_is r s ∙ e))
