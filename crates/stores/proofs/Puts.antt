-- What a list of puts leaves under each number. Assumes nothing.
use Rattle.std.proofs.Common.{◌≡◌, ℕ, zero, suc, ◌+◌, ◌-◌, ◌<◌, ◌≤◌, Bool, cond, eqb, ◌≢◌, List, [], ◌∷◌, ◌++◌, length, get_or, drop, set, is_ok, Some, None, Option, Result, sym, refl, ap, ◌∙◌, ⊎_elim, arith}
use Rattle.std.proofs.lemmas.List.{length-set, get_or-set_same, get_or-set_other, drop_more, drop_all}
use Rattle.std.proofs.lemmas.Bool.{cases_eq, eq-eqb, ne_eqb}
use Rattle.symbols.specs.Answers.{answered, unless}
use Rattle.stores.specs.declared.put.Put.{Put}
use Rattle.stores.specs.declared.refusal.StoreRefusal.{StoreRefusal}
use Rattle.stores.specs.Names.{Names, limits, under, with_string}
use Rattle.stores.specs.Calls.{put_refusal, after_put}
use Rattle.stores.specs.Puts.{after_puts, accepted, last_put, or_else, put_or, LastStands}
use Rattle.stores.proofs.Calls.{put_inside}

-- the string of number k once number j has the string s
pub under_with : {X : Type 0} (names : Names X) (j k : ℕ) (s : List X) → 1 ≤ j → j ≤ length names.strings → under (with_string names j s) k ≡ put_or (cond (eqb j k) (Some s) None) (under names k)
unfolding under with_string
under_with {X} names j zero s low high = let no' : j ≡ 0 → ⊥ = omega arith in rw (ne_eqb j 0 no')
under_with {X} names j (suc k) s low high = ⊎_elim same other (cases_eq j (suc k))
  where
    same : j ≡ suc k → get_or (set names.strings (j - 1) s) k [] ≡ put_or (cond (eqb j (suc k)) (Some s) None) (get_or names.strings k [])
    same e =
        let at : k ≡ j - 1 = omega arith in
        let lt : j - 1 < length names.strings = omega arith in
        rw (eq-eqb j (suc k) e, at) (get_or-set_same names.strings (j - 1) s [] lt)

    other : (j ≡ suc k → ⊥) → get_or (set names.strings (j - 1) s) k [] ≡ put_or (cond (eqb j (suc k)) (Some s) None) (get_or names.strings k [])
    other no' =
        let ne : k ≢ j - 1 = omega arith in
        rw (ne_eqb j (suc k) no') (get_or-set_other names.strings (j - 1) k s [] ne)

-- the string of the last put, once one more stands before the others
last_more : {X : Type 0} (o q : Option (List X)) (now' old : List X) → now' ≡ put_or q old → put_or o now' ≡ put_or (or_else o q) old
last_more (Some s) q now' old e = refl
last_more None q now' old e = e

-- one put before the others, whatever refuses it
put_first : {X : Type 0} (names : Names X) (p : Put X) (ps : List (Put X)) (k : ℕ) (o : Option StoreRefusal)
    → (o ≡ None → (1 ≤ p.number) × (p.number ≤ length names.strings))
    → ((ns : Names X) → under (after_puts ns ps) k ≡ put_or (last_put (accepted ns ps) k) (under ns k))
    → under (after_puts (unless o names (with_string names p.number p.string.now)) ps) k ≡ put_or (last_put (unless o [] (p ∷ []) ++ accepted (unless o names (with_string names p.number p.string.now)) ps) k) (under names k)
unfolding last_put
put_first names p ps k (Some e) h rest = rest names
put_first names p ps k None h rest =
    let at = h refl in
    let first = under_with names p.number k p.string.now at.0 at.1 in
    rest _ ∙ last_more (last_put (accepted (with_string names p.number p.string.now) ps) k) _ _ _ first

-- after any puts a number has the string of the last accepted put to it, or what it had before
pub last_stands : {X : Type 0} (names : Names X) (ps : List (Put X)) → LastStands names ps (after_puts names ps)
unfolding after_puts accepted last_put
last_stands names [] k = refl
last_stands names (p ∷ ps) k = put_first names p ps k (put_refusal names p.number p.string.now) (put_inside names p.number p.string.now) (λ ns. last_stands ns ps k)

-- no put changes the limits
put_limits : {X : Type 0} (names : Names X) (k : ℕ) (s : List X) (o : Option StoreRefusal) → limits (unless o names (with_string names k s)) ≡ limits names
unfolding with_string
put_limits names k s (Some e) = refl
put_limits names k s None = (λ j. record { names = length-set names.strings (k - 1) s j; longest = names.longest; most = names.most })

pub puts_limits : {X : Type 0} (names : Names X) (ps : List (Put X)) → limits (after_puts names ps) ≡ limits names
unfolding after_puts
puts_limits names [] = refl
puts_limits names (p ∷ ps) = puts_limits (after_put names p.number p.string.now) ps ∙ put_limits names p.number p.string.now (put_refusal names p.number p.string.now)

-- whether a put is accepted, as a count
taken_one : {X : Type 0} (o : Option StoreRefusal) (p : Put X) (ps : List (Put X)) → length (unless o [] (p ∷ []) ++ ps) ≡ cond (is_ok {T = Unit {0}} {E = StoreRefusal} (answered o tt)) 1 0 + length ps
taken_one (Some e) p ps = omega arith
taken_one None p ps = omega arith

-- one turn: the first of the puts still to come is carried out
pub record Turned {X : Type 0} (names names' : Names X) (ps rest : List (Put X)) (ok : Bool) : Type 0 where
  pub leaves : after_puts names ps ≡ after_puts names' rest
  pub counts : length (accepted names ps) ≡ cond ok 1 0 + length (accepted names' rest)

turned : {X : Type 0} (names : Names X) (p : Put X) (ps : List (Put X)) → Turned names (after_put names p.number p.string.now) (p ∷ ps) ps (is_ok {T = Unit {0}} {E = StoreRefusal} (answered (put_refusal names p.number p.string.now) tt))
unfolding after_puts accepted
turned names p ps = record { leaves = refl; counts = taken_one (put_refusal names p.number p.string.now) p (accepted (after_put names p.number p.string.now) ps) }

pub puts_more : {X : Type 0} (names names' : Names X) (ps : List (Put X)) (i : ℕ) (p : Put X) (r : Result (Unit {0}) StoreRefusal) (ok : Bool) → i < length ps → p ≡ get_or ps i p
    → r ≡ answered (put_refusal names p.number p.string.now) tt → ok ≡ is_ok r → names' ≡ after_put names p.number p.string.now
    → Turned names names' (drop i ps) (drop (i + 1) ps) ok
puts_more names names' ps i p r ok lt at answer test after =
    let first : drop i ps ≡ p ∷ drop (i + 1) ps = drop_more ps i p lt ∙ ap (λ q. q ∷ drop (i + 1) ps) (sym at) in
    rw (first, after, test, answer) (turned names p (drop (i + 1) ps))

pub puts_none : {X : Type 0} (names : Names X) (ps : List (Put X)) (i : ℕ) → length ps ≤ i → (after_puts names (drop i ps) ≡ names) × (length (accepted names (drop i ps)) ≡ 0)
unfolding after_puts accepted
puts_none names ps i h = rw (drop_all i ps h) (refl, refl)
