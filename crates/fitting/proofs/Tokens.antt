-- The tokens of a statement line: each name has a character, and each fixed length is within its limit. Assumes nothing.
use Rattle.std.proofs.Common.{◌≡◌, ℕ, ◌+◌, ◌-◌, ◌<◌, ◌≤◌, Bool, true, false, cond, not, ◌||◌, eqb, ltb, List, [], ◌∷◌, length, get_or, drop, Some, None, Option, sym, refl, ap, ◌∙◌, subst, arith}
use Rattle.std.specs.List.{AllByRecursion}
use Rattle.std.proofs.lemmas.Bool.{false≢true, both_ways, and_parts, ltb-true, eqb-true}
use Rattle.std.proofs.lemmas.Bool.Decides.{nat_tests}
use Rattle.lines.specs.declared.mark.Mark.TheVariants.{Dollar, Quote}
use Rattle.lines.specs.declared.reading.Way.{Way}
use Rattle.lines.specs.declared.reading.Place.{Place}
use Rattle.lines.specs.declared.reading.Section.{Section}
use Rattle.lines.specs.declared.reading.Side.{Side}
use Rattle.lines.specs.declared.reading.Room.{Room}
use Rattle.lines.specs.declared.reading.LabelReading.{LabelReading}
use Rattle.lines.specs.declared.reading.VariableReading.{VariableReading}
use Rattle.lines.specs.declared.reading.GoReading.{GoReading}
use Rattle.lines.specs.declared.reading.Reading.{Reading}
use Rattle.lines.specs.declared.role.Role.{Role}
use Rattle.lines.specs.declared.token.Token.{Token}
use Rattle.lines.specs.Marks.{mark_of, same, solid}
use Rattle.lines.specs.Next.{beginning, next}
use Rattle.lines.specs.Roles.{same_role, role_of, roles_from, on_roles}
use Rattle.lines.specs.Tokens.{token, extend, runs, tokens_from, tokens}
use Rattle.lines.proofs.Runs.{same_roles}
use Rattle.lines.proofs.Walk.{lands, onto}
use Rattle.sheets.specs.declared.part.Part.{Part}
use Rattle.sheets.specs.Items.{sort_of, indirect, word, sort_brings}
use Rattle.rows.specs.Entries.{slash_at, decimal, form_at}
use Rattle.tables.specs.declared.row.Form.{Form}
use Rattle.checks.specs.Sound.{Sound-form}
use Rattle.fitting.proofs.Suffixes.{Here, here, past, decimal_limited}

-- a token that has a name spells at least a character of it, and the length of a variable is within its limit
pub record Good (line : List ℕ) (t : Token) : Type 0 where
  pub spelled : sort_brings (sort_of t.role) (indirect line t) ≡ true → 0 < (word line t).size
  pub formed : same_role t.role Role.Variable ≡ true → Sound-form (form_at line (t.start + t.size))

same_self : (r : Role) → same_role r r ≡ true
same_self r = grind (arith, nat_tests)

-- only `$` was read of a name
abbrev is_dollar : Reading → Bool
is_dollar (Reading.Label x) = false
is_dollar (Reading.Gap x) = false
is_dollar Reading.Start = false
is_dollar Reading.StartDot = false
is_dollar (Reading.Dollar p) = true
is_dollar (Reading.Named p) = false
is_dollar (Reading.Dotted p) = false
is_dollar (Reading.Literal x) = false
is_dollar (Reading.Closed x) = false
is_dollar Reading.Equal = false
is_dollar (Reading.Variable x) = false
is_dollar (Reading.Go x) = false

-- a `$` begins a name, or stands where no name is
abbrev begins_name : Option Reading → Bool
begins_name None = true
begins_name (Some r) = is_dollar r || not (sort_brings (sort_of (role_of r)) true)

dollar_leads : (q : Reading) → begins_name (next q Dollar) ≡ true
dollar_leads (Reading.Label LabelReading.Begin) = refl
dollar_leads (Reading.Label LabelReading.E) = refl
dollar_leads (Reading.Label LabelReading.En) = refl
dollar_leads (Reading.Label LabelReading.End) = refl
dollar_leads (Reading.Label LabelReading.Name) = refl
dollar_leads (Reading.Label LabelReading.Dot) = refl
dollar_leads (Reading.Gap Section.Reference) = refl
dollar_leads (Reading.Gap Section.Start) = refl
dollar_leads (Reading.Gap Section.Pattern) = refl
dollar_leads (Reading.Gap Section.Right) = refl
dollar_leads (Reading.Gap Section.Tail) = refl
dollar_leads Reading.Start = refl
dollar_leads Reading.StartDot = refl
dollar_leads (Reading.Dollar p) = refl
dollar_leads (Reading.Named Place.Reference) = refl
dollar_leads (Reading.Named Place.Element) = refl
dollar_leads (Reading.Named Place.Operand) = refl
dollar_leads (Reading.Named (Place.Target way)) = refl
dollar_leads (Reading.Dotted p) = refl
dollar_leads (Reading.Literal Side.Pattern) = refl
dollar_leads (Reading.Literal Side.Right) = refl
dollar_leads (Reading.Closed Side.Pattern) = refl
dollar_leads (Reading.Closed Side.Right) = refl
dollar_leads Reading.Equal = refl
dollar_leads (Reading.Variable VariableReading.Star) = refl
dollar_leads (Reading.Variable VariableReading.Name) = refl
dollar_leads (Reading.Variable VariableReading.Dot) = refl
dollar_leads (Reading.Variable VariableReading.Open) = refl
dollar_leads (Reading.Variable VariableReading.Group) = refl
dollar_leads (Reading.Variable VariableReading.GroupDot) = refl
dollar_leads (Reading.Variable VariableReading.Slash) = refl
dollar_leads (Reading.Variable VariableReading.Quote) = refl
dollar_leads (Reading.Variable (VariableReading.Length Room.Three)) = refl
dollar_leads (Reading.Variable (VariableReading.Length Room.Four)) = refl
dollar_leads (Reading.Variable (VariableReading.Length Room.FourZero)) = refl
dollar_leads (Reading.Variable (VariableReading.Length Room.FourZeroNine)) = refl
dollar_leads (Reading.Variable (VariableReading.Length Room.Two)) = refl
dollar_leads (Reading.Variable (VariableReading.Length Room.One)) = refl
dollar_leads (Reading.Variable (VariableReading.Length Room.Full)) = refl
dollar_leads (Reading.Variable VariableReading.Closing) = refl
dollar_leads (Reading.Variable VariableReading.Done) = refl
dollar_leads (Reading.Go GoReading.Slash) = refl
dollar_leads (Reading.Go GoReading.S) = refl
dollar_leads (Reading.Go GoReading.F) = refl
dollar_leads (Reading.Go GoReading.AlsoS) = refl
dollar_leads (Reading.Go GoReading.AlsoF) = refl
dollar_leads (Reading.Go (GoReading.Into way)) = refl
dollar_leads (Reading.Go GoReading.AfterS) = refl
dollar_leads (Reading.Go GoReading.AfterF) = refl
dollar_leads (Reading.Go GoReading.Done) = refl

-- the first token has the role
abbrev pub Led : Role → List Token → Type 0
Led r [] = ⊥
Led r (t ∷ ts) = t.role ≡ r

pub led_extend : (k n : ℕ) (r : Role) (ts : List Token) → Led r (extend k r n ts)
led_extend k n r [] = refl
led_extend k n r (t ∷ ts) = go (same_role r t.role)
  where
    go : (b : Bool) → Led r (cond b (token r k (n + t.size) ∷ ts) (token r k n ∷ t ∷ ts))
    go true = refl
    go false = refl

-- a `$` has its name behind it, in the same token
dollar_on : (p : Place) (s : List ℕ) → lands (Reading.Dollar p) s ≡ true → (k : ℕ) → Led (role_of (Reading.Dollar p)) (runs k (roles_from (Reading.Dollar p) s))
unfolding lands runs roles_from
dollar_on p [] l k = absurd (false≢true l)
dollar_on p (c ∷ s) l k = go (solid (mark_of c)) l
  where
    go : (b : Bool) → onto (cond b (Some (Reading.Named p)) None) (λ r. lands r s) ≡ true
        → Led (role_of (Reading.Dollar p)) (runs k (on_roles (cond b (Some (Reading.Named p)) None) (λ r. role_of r ∷ roles_from r s)))
    go true e = led_extend k 1 (role_of (Reading.Named p)) (runs (k + 1) (roles_from (Reading.Named p) s))
    go false e = absurd (false≢true e)

dollar_behind : (r : Reading) (s : List ℕ) → is_dollar r ≡ true → lands r s ≡ true → (k : ℕ) → Led (role_of r) (runs k (roles_from r s))
dollar_behind (Reading.Label x) s d l k = absurd (false≢true d)
dollar_behind (Reading.Gap x) s d l k = absurd (false≢true d)
dollar_behind Reading.Start s d l k = absurd (false≢true d)
dollar_behind Reading.StartDot s d l k = absurd (false≢true d)
dollar_behind (Reading.Dollar p) s d l k = dollar_on p s l k
dollar_behind (Reading.Named p) s d l k = absurd (false≢true d)
dollar_behind (Reading.Dotted p) s d l k = absurd (false≢true d)
dollar_behind (Reading.Literal x) s d l k = absurd (false≢true d)
dollar_behind (Reading.Closed x) s d l k = absurd (false≢true d)
dollar_behind Reading.Equal s d l k = absurd (false≢true d)
dollar_behind (Reading.Variable x) s d l k = absurd (false≢true d)
dollar_behind (Reading.Go x) s d l k = absurd (false≢true d)

-- no name that may follow `$` is a variable's
no_place : (p : Place) → same_role (role_of (Reading.Dollar p)) Role.Variable ≡ true → ⊥
no_place Place.Reference = false≢true
no_place Place.Element = false≢true
no_place Place.Operand = false≢true
no_place (Place.Target Way.Both) = false≢true
no_place (Place.Target Way.FirstS) = false≢true
no_place (Place.Target Way.FirstF) = false≢true
no_place (Place.Target Way.SecondS) = false≢true
no_place (Place.Target Way.SecondF) = false≢true

module _ (line : List ℕ) where
  -- behind the slash of a variable stand a quote and its length
  slash_on : (k : ℕ) (s : List ℕ) → drop (k + 1) line ≡ s → lands (Reading.Variable VariableReading.Slash) s ≡ true → decimal line (k + 2) ≤ 4096
  unfolding lands
  slash_on k [] e l = absurd (false≢true l)
  slash_on k (c ∷ s) e l = go (same (mark_of c) Quote) l
    where
      at : drop (k + 2) line ≡ s
      at = ap (λ (j : ℕ). drop j line) (omega arith) ∙ (here line (k + 1) c s e).behind

      go : (b : Bool) → onto (cond b (Some (Reading.Variable VariableReading.Quote)) None) (λ r. lands r s) ≡ true → decimal line (k + 2) ≤ 4096
      go true f = decimal_limited line (k + 2) s at f
      go false f = absurd (false≢true f)

  -- a slash stands at the place
  slashed : (k : ℕ) (s : List ℕ) → drop k line ≡ s → slash_at line k ≡ true → Here line k 47 (drop (k + 1) line) × (s ≡ 47 ∷ drop (k + 1) line)
  slashed k [] e t =
      let p = and_parts (ltb k (length line)) (eqb (get_or line k 0) 47) t in
      absurd (let a = past line k e in let b = ltb-true k (length line) p.0 in omega arith)
  slashed k (c ∷ s) e t =
      let p = and_parts (ltb k (length line)) (eqb (get_or line k 0) 47) t in
      let h = here line k c s e in
      let f = eqb-true (get_or line k 0) 47 p.1 in
      let a = h.is in
      let b = h.behind in
      (record { inside = h.inside; is = f; behind = refl }, cc)

  name_formed : (k : ℕ) (s : List ℕ) → drop k line ≡ s → lands (Reading.Variable VariableReading.Name) s ≡ true → Sound-form (form_at line k)
  unfolding lands
  name_formed k s e l = go (slash_at line k) refl
    where
      go : (b : Bool) → slash_at line k ≡ b → Sound-form (cond b (Form.Fixed (decimal line (k + 2))) Form.Arbitrary)
      go false t = tt
      go true t =
          slash_on k (drop (k + 1) line) refl
          (subst (λ (x : List ℕ). lands (Reading.Variable VariableReading.Name) x ≡ true) (slashed k s e t).1 l)

  dot_formed : (k : ℕ) (s : List ℕ) → drop k line ≡ s → lands (Reading.Variable VariableReading.Dot) s ≡ true → Sound-form (form_at line k)
  unfolding lands
  dot_formed k s e l = go (slash_at line k) refl
    where
      go : (b : Bool) → slash_at line k ≡ b → Sound-form (cond b (Form.Fixed (decimal line (k + 2))) Form.Arbitrary)
      go false t = tt
      go true t =
          absurd (false≢true (subst (λ (x : List ℕ). lands (Reading.Variable VariableReading.Dot) x ≡ true) (slashed k s e t).1 l))

  -- behind the last character of a variable's name
  formed_at : (r : Reading) (k : ℕ) (s : List ℕ) → drop k line ≡ s → lands r s ≡ true → same_role (role_of r) Role.Variable ≡ true → Sound-form (form_at line k)
  formed_at (Reading.Variable VariableReading.Name) k s e l v = name_formed k s e l
  formed_at (Reading.Variable VariableReading.Dot) k s e l v = dot_formed k s e l
  formed_at (Reading.Variable VariableReading.Star) k s e l v = absurd (false≢true v)
  formed_at (Reading.Variable VariableReading.Open) k s e l v = absurd (false≢true v)
  formed_at (Reading.Variable VariableReading.Group) k s e l v = absurd (false≢true v)
  formed_at (Reading.Variable VariableReading.GroupDot) k s e l v = absurd (false≢true v)
  formed_at (Reading.Variable VariableReading.Slash) k s e l v = absurd (false≢true v)
  formed_at (Reading.Variable VariableReading.Quote) k s e l v = absurd (false≢true v)
  formed_at (Reading.Variable (VariableReading.Length x)) k s e l v = absurd (false≢true v)
  formed_at (Reading.Variable VariableReading.Closing) k s e l v = absurd (false≢true v)
  formed_at (Reading.Variable VariableReading.Done) k s e l v = absurd (false≢true v)
  formed_at (Reading.Label x) k s e l v = absurd (false≢true v)
  formed_at (Reading.Gap x) k s e l v = absurd (false≢true v)
  formed_at Reading.Start k s e l v = absurd (false≢true v)
  formed_at Reading.StartDot k s e l v = absurd (false≢true v)
  formed_at (Reading.Dollar p) k s e l v = absurd (no_place p v)
  formed_at (Reading.Named p) k s e l v = absurd (no_place p v)
  formed_at (Reading.Dotted p) k s e l v = absurd (no_place p v)
  formed_at (Reading.Literal Side.Pattern) k s e l v = absurd (false≢true v)
  formed_at (Reading.Literal Side.Right) k s e l v = absurd (false≢true v)
  formed_at (Reading.Closed Side.Pattern) k s e l v = absurd (false≢true v)
  formed_at (Reading.Closed Side.Right) k s e l v = absurd (false≢true v)
  formed_at Reading.Equal k s e l v = absurd (false≢true v)
  formed_at (Reading.Go x) k s e l v = absurd (false≢true v)

  -- a token of one character, where what follows is not of its role
  module _ (q r : Reading) (k c : ℕ) (s : List ℕ) (at : Here line k c s) (next_is : next q (mark_of c) ≡ Some r) (l : lands r s ≡ true) where
    abbrev behind : List Token
    behind = runs (k + 1) (roles_from r s)

    alone : (Led (role_of r) behind → ⊥) → Good line (token (role_of r) k 1)
    alone other = record { spelled = spelled_alone (eqb (get_or line k 0) 36) refl; formed = λ v. formed_at r (k + 1) s at.behind l v }
      where
        no_dollar : eqb (get_or line k 0) 36 ≡ true → sort_brings (sort_of (role_of r)) true ≡ true → ⊥
        no_dollar d b =
            let e : c ≡ 36 = sym at.is ∙ eqb-true (get_or line k 0) 36 d in
            let f : next q Dollar ≡ Some r = ap (λ (x : ℕ). next q (mark_of x)) (sym e) ∙ next_is in
            let g : begins_name (Some r) ≡ true = ap begins_name (sym f) ∙ dollar_leads q in
            go (is_dollar r) refl (sort_brings (sort_of (role_of r)) true) b g
          where
            go : (x : Bool) → is_dollar r ≡ x → (y : Bool) → y ≡ true → (x || not y) ≡ true → ⊥
            go true d y b g = other (dollar_behind r s d l (k + 1))
            go false d true b g = false≢true g
            go false d false b g = false≢true b

        spelled_alone : (b : Bool) → eqb (get_or line k 0) 36 ≡ b → sort_brings (sort_of (role_of r)) b ≡ true → 0 < (cond {A = Part} b (record { start = k + 1; size = 1 - 1 }) (record { start = k; size = 1 })).size
        spelled_alone false d h = omega arith
        spelled_alone true d h = absurd (no_dollar d h)

  -- tokens begin at k
  abbrev From : ℕ → List Token → Type 0
  From k [] = Unit {0}
  From k (t ∷ ts) = (t.start ≡ k) × (0 < t.size)

  -- one more character of a token's role in front of it
  longer : (r : Role) (k : ℕ) (t : Token) → r ≡ t.role → t.start ≡ k + 1 → 0 < t.size → Good line t → Good line (token r k (1 + t.size))
  longer r k t e at some good = record { spelled = λ _. sized (eqb (get_or line k 0) 36); formed = λ v. form v }
    where
      sized : (b : Bool) → 0 < (cond {A = Part} b (record { start = k + 1; size = (1 + t.size) - 1 }) (record { start = k; size = 1 + t.size })).size
      sized true = omega arith
      sized false = omega arith

      form : same_role r Role.Variable ≡ true → Sound-form (form_at line (k + (1 + t.size)))
      form v =
          let z : t.start + t.size ≡ k + (1 + t.size) = omega arith in
          subst (λ (j : ℕ). Sound-form (form_at line j)) z (good.formed (subst (λ (x : Role). same_role x Role.Variable ≡ true) e v))

  abbrev Tokens : ℕ → List Token → Type 0
  Tokens k ts = From k ts × AllByRecursion (Good line) ts

  extended : (r : Role) (k : ℕ) (ts : List Token) → Tokens (k + 1) ts → ((Led r ts → ⊥) → Good line (token r k 1)) → Tokens k (extend k r 1 ts)
  extended r k [] h one = ((refl, omega arith), (one (λ x. x), tt))
  extended r k (t ∷ ts) h one = go (same_role r t.role) refl
    where
      go : (b : Bool) → same_role r t.role ≡ b → Tokens k (cond b (token r k (1 + t.size) ∷ ts) (token r k 1 ∷ t ∷ ts))
      go true e = ((refl, omega arith), (longer r k t (same_roles r t.role e) h.0.0 h.0.1 h.1.0, h.1.1))
      go false e =
          ((refl, omega arith), (one (λ x. both_ways (same_role r t.role) e (subst (λ (y : Role). same_role y t.role ≡ true) x (same_self t.role))), h.1))

  good_from : (q : Reading) (k : ℕ) (s : List ℕ) → drop k line ≡ s → lands q s ≡ true → Tokens k (runs k (roles_from q s))
  unfolding lands runs roles_from
  good_from q k [] e l = (tt, tt)
  good_from q k (c ∷ s) e l = go (next q (mark_of c)) refl l (λ r m. good_from r (k + 1) s (here line k c s e).behind m)
    where
      go : (o : Option Reading) → next q (mark_of c) ≡ o → onto o (λ r. lands r s) ≡ true
          → ((r : Reading) → lands r s ≡ true → Tokens (k + 1) (runs (k + 1) (roles_from r s)))
          → Tokens k (runs k (on_roles o (λ r. role_of r ∷ roles_from r s)))
      go None n m ih = absurd (false≢true m)
      go (Some r) n m ih = extended (role_of r) k (runs (k + 1) (roles_from r s)) (ih r m) (alone q r k c s (here line k c s e) n m)

-- every token of a line that stands
pub good_tokens : (line : List ℕ) → lands beginning line ≡ true → AllByRecursion (Good line) (tokens line)
unfolding tokens_from
good_tokens line l = (good_from line beginning 0 line refl l).1
