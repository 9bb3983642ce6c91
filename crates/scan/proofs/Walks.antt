-- A walk from an opening symbol to the one that closes its group, and what a balanced part gains behind an end of it. Assumes nothing.
use Rattle.std.proofs.Common.{◌≡◌, ℕ, zero, suc, ◌+◌, ◌-◌, ◌<◌, ◌≤◌, Bool, true, false, ◌&&◌, eqb, ltb, leb, List, [], ◌∷◌, ◌++◌, length, get_or, take, drop, Some, None, Option, sym, refl, ap, ◌∙◌, subst, ⊎_elim, arith, take-add}
use Rattle.std.proofs.lemmas.List.{drop-drop}
use Rattle.std.proofs.lemmas.Bool.{and_right, and_from, and_parts, false≢true, eqb-true, le-leb, lt-ltb, ne_eqb, eq-eqb, cases_lt}
use Rattle.symbols.specs.declared.role.Role.{Role}
use Rattle.symbols.specs.declared.role.Role.TheVariants.{Opening, Closing, Plain}
use Rattle.placings.specs.Pattern.{part}
use Rattle.placings.specs.Enumeration.{after, closes_from, balanced_test}
use Rattle.scan.specs.Ends.{Next, balanced_end, group_end}
use Rattle.scan.proofs.Parts.{length_part, part_none, part_more, next_like}

-- how many are open after a symbol of a role, where d were
abbrev pub Moves : Role → ℕ → ℕ → Type 0
Moves Opening d o = o ≡ d + 1
Moves Closing d o = (0 < d) × (o ≡ d - 1)
Moves Plain d o = o ≡ d

moved : (r : Role) (d o : ℕ) (rest : ℕ → Bool) → Moves r d o → after r d rest ≡ rest o
moved Opening d o rest m = let z : suc d ≡ o = omega arith in ap rest z
moved Closing zero o rest m = absurd (omega arith)
moved Closing (suc d) o rest m = let z : d ≡ o = omega arith in ap rest z
moved Plain d o rest m = ap rest (sym m)

moves_few : (r : Role) (d o e : ℕ) → d ≤ e → Moves r d o → o ≤ e + 1
moves_few Opening d o e l m = omega arith
moves_few Closing d o e l m = omega arith
moves_few Plain d o e l m = omega arith

pub moves_by : (r q : Role) (d o : ℕ) → q ≡ r → Moves r d o → Moves q d o
moves_by r q d o e m = subst (λ x. Moves x d o) (sym e) m

module _ {A : Type 0} (role : A → Role) (s : List A) (a : ℕ) where
  -- at e, with d open, none of which was the last: no end so far
  pub record Walk (e d : ℕ) : Type 0 where
    pub from : a ≤ e
    pub to : e ≤ length s
    pub some : 0 < d
    pub few : d ≤ e
    pub same : (k : ℕ) → e ≤ k → k ≤ length s → closes_from role (part s a k) 1 ≡ closes_from role (part s e k) d
    pub none : (k : ℕ) → a ≤ k → k ≤ e → group_end role s a k ≡ false

  pub walk_none : 0 < a → a ≤ length s → Walk a 1
  walk_none z l =
      record {
        from = omega arith;
        to = l;
        some = omega arith;
        few = omega arith;
        same = λ k x y. refl;
        none = λ k x y. let z : a ≡ k = omega arith in rw (← z, part_none s a) (and_right (leb a a) false refl);
      }

  same_more : (e d o : ℕ) (x : A) → e < length s → x ≡ get_or s e x → Moves (role x) d o → Walk e d → (k : ℕ) → e + 1 ≤ k → k ≤ length s → closes_from role (part s a k) 1 ≡ closes_from role (part s (e + 1) k) o
  same_more e d o x h is m w k l n =
      w.same k (omega arith) n ∙ ap (λ p. closes_from role p d) (part_more s e k x (omega arith) h is) ∙ moved (role x) d o (closes_from role (part s (e + 1) k)) m

  at_more : (e d o : ℕ) (x : A) → e < length s → x ≡ get_or s e x → Moves (role x) d o → Walk e d → closes_from role (part s a (e + 1)) 1 ≡ eqb o 0
  at_more e d o x h is m w = same_more e d o x h is m w (e + 1) (omega arith) (omega arith) ∙ ap (λ p. closes_from role p o) (part_none s (e + 1))

  pub walk_more : (e d o : ℕ) (x : A) → e < length s → x ≡ get_or s e x → Moves (role x) d o → Walk e d → 0 < o → Walk (e + 1) o
  walk_more e d o x h is m w p =
      let f = w.from in
      record {
        from = omega arith;
        to = omega arith;
        some = p;
        few = moves_few (role x) d o e w.few m;
        same = same_more e d o x h is m w;
        none = λ k l n. ⊎_elim (λ b. w.none k l (omega arith)) (λ b. let z : e + 1 ≡ k = omega arith in rw (← z) (and_right (leb a (e + 1)) _ (at_more e d o x h is m w ∙ ne_eqb o 0 (λ q. omega arith)))) (cases_lt k (e + 1));
      }

  pub walk_found : (e d o : ℕ) (x : A) → e < length s → x ≡ get_or s e x → Moves (role x) d o → Walk e d → o ≡ 0 → Next (group_end role s a) (length s) a (Some (e + 1))
  walk_found e d o x h is m w z =
      let f = w.from in
      (omega arith, omega arith, and_from (leb a (e + 1)) _ (le-leb a (e + 1) (omega arith)) (at_more e d o x h is m w ∙ eq-eqb o 0 z), λ k u v. w.none k u (omega arith))

  pub walk_all : (e d : ℕ) → length s ≤ e → Walk e d → Next (group_end role s a) (length s) a None
  walk_all e d l w = λ k u n. w.none k u (omega arith)

  -- a part that begins with a symbol, beyond it
  module _ (x : A) (h : a < length s) (is : x ≡ get_or s a x) where
    begun : (k : ℕ) → a + 1 ≤ k → balanced_end role s a k ≡ after (role x) 0 (closes_from role (part s (a + 1) k))
    begun k l = ap (λ b. b && balanced_test role (part s a k)) (le-leb a k (omega arith)) ∙ ap (balanced_test role) (part_more s a k x (omega arith) h is) ∙ ap (λ b. b && after (role x) 0 (closes_from role (part s (a + 1) k))) (lt-ltb 0 (suc (length (part s (a + 1) k))) (omega arith))

    pub balanced_closing : role x ≡ Closing → Next (balanced_end role s a) (length s) (a + 1) None
    balanced_closing p = λ k u v. begun k u ∙ rw p

-- a part that begins with an opening symbol ends with its group
pub balanced_opening : {A : Type 0} (role : A → Role) (s : List A) (a : ℕ) (x : A) (r : Option ℕ) → a < length s → x ≡ get_or s a x → role x ≡ Opening → Next (group_end role s (a + 1)) (length s) (a + 1) r → Next (balanced_end role s a) (length s) (a + 1) r
balanced_opening role s a x r h is p =
    next_like (group_end role s (a + 1)) (balanced_end role s a) (length s) (a + 1) r
    (λ k u v. begun role s a x h is k u ∙ rw p (sym (ap (λ b. b && closes_from role (part s (a + 1) k) 1) (le-leb (a + 1) k u))))

-- what closes all that is open may be passed over
passed_by : {A : Type 0} (role : A → Role) (r : Role) (d : ℕ) (f h : ℕ → Bool) (b : Bool) → ((e : ℕ) → f e ≡ true → h e ≡ b) → after r d f ≡ true → after r d h ≡ b
passed_by role Opening d f h b ih t = ih (suc d) t
passed_by role Closing zero f h b ih t = absurd (false≢true t)
passed_by role Closing (suc d) f h b ih t = ih d t
passed_by role Plain d f h b ih t = ih d t

passed : {A : Type 0} (role : A → Role) (xs ys : List A) (d : ℕ) → closes_from role xs d ≡ true → closes_from role (xs ++ ys) d ≡ closes_from role ys 0
passed role [] ys d t = ap (closes_from role ys) (eqb-true d 0 t)
passed role (x ∷ xs) ys d t = passed_by role (role x) d (closes_from role xs) (closes_from role (xs ++ ys)) (closes_from role ys 0) (λ e. passed role xs ys e) t

part_parts : {A : Type 0} (s : List A) (a e k : ℕ) → a ≤ e → e ≤ k → part s a k ≡ part s a e ++ part s e k
part_parts s a e k l m =
    let x : k - a ≡ (e - a) + (k - e) = omega arith in
    let y : a + (e - a) ≡ e = omega arith in
    ap (λ j. take j (drop a s)) x ∙ take-add (e - a) (k - e) (drop a s) ∙ ap (λ t. take (e - a) (drop a s) ++ take (k - e) t) (drop-drop (e - a) a s ∙ ap (λ j. drop j s) y)

-- behind an end of a balanced part, its next end is that of a balanced part that begins there
pub balanced_next : {A : Type 0} (role : A → Role) (s : List A) (a e : ℕ) (r : Option ℕ) → a ≤ e → balanced_end role s a e ≡ true → Next (balanced_end role s e) (length s) (e + 1) r → Next (balanced_end role s a) (length s) (e + 1) r
balanced_next role s a e r l t = next_like (balanced_end role s e) (balanced_end role s a) (length s) (e + 1) r same
  where
    shut : closes_from role (part s a e) 0 ≡ true
    shut = (and_parts (ltb 0 (length (part s a e))) _ (and_parts (leb a e) _ t).1).1

    plainly : (b k : ℕ) → b < k → k ≤ length s → balanced_end role s b k ≡ closes_from role (part s b k) 0
    plainly b k u v =
        ap (λ x. x && balanced_test role (part s b k)) (le-leb b k (omega arith))
        ∙ ap (λ x. x && closes_from role (part s b k) 0) (lt-ltb 0 (length (part s b k)) (omega (arith, length_part s b k (omega arith) v)))

    same : (k : ℕ) → e + 1 ≤ k → k ≤ length s → balanced_end role s a k ≡ balanced_end role s e k
    same k u v =
        plainly a k (omega arith) v ∙ ap (λ p. closes_from role p 0) (part_parts s a e k l (omega arith)) ∙ passed role (part s a e) (part s e k) 0 shut
        ∙ sym (plainly e k (omega arith) v)
