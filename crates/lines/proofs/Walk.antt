-- The readings go as far as the grammar does. Assumes nothing.
use Rattle.std.proofs.Common.{◌≡◌, ℕ, zero, suc, ◌+◌, ◌<◌, ◌≤◌, Bool, true, false, cond, ◌↔◌, List, [], ◌∷◌, ◌++◌, map, length, get_or, take, drop, Some, None, Option, sym, refl, ap, ◌∙◌, subst, append-nil, suc-le-suc, zero-le, le_of_suc-le-suc, not-suc-le-zero, add-one, arith, drop-cons}
use lib.Seq.{drop-length}
use Rattle.lines.specs.declared.mark.Mark.{Mark}
use Rattle.lines.specs.declared.reading.Reading.{Reading}
use Rattle.lines.specs.Marks.{mark_of}
use Rattle.lines.specs.Languages.{Lang, none, In}
use Rattle.lines.specs.After.{holds_null, is_none, after, after_all, reach}
use Rattle.lines.specs.Grammar.{plain, line}
use Rattle.lines.specs.Next.{beginning, next, stands}
use Rattle.lines.proofs.Samples.{follow, follows, finish}
use Rattle.lines.specs.Lines.{StatementLine, longest, Longest, is_statement}
use Rattle.lines.proofs.Follows.{null_in, after_in, after_all_in}
use Rattle.lines.proofs.Steps.{steps, finishes, some_follow, stands_follow}

abbrev pub onward : Option Reading → (Reading → ℕ) → ℕ
onward None f = 0
onward (Some r) f = f r

-- how far the readings go from q
unfoldable pub walk : Reading → List ℕ → ℕ
walk q [] = 0
walk q (c ∷ s) = onward (next q (mark_of c)) (λ r. suc (walk r s))

reach_on : (s : List ℕ) → ((r : Reading) → reach (follow r) (map mark_of s) ≡ walk r s) → (o : Option Reading)
    → cond (is_none (follows o)) 0 (suc (reach (follows o) (map mark_of s))) ≡ onward o (λ r. suc (walk r s))
unfolding follows is_none
reach_on s ih None = refl
reach_on s ih (Some r) =
    ap (λ (b : Bool). cond b 0 (suc (reach (follow r) (map mark_of s)))) (some_follow r) ∙ ap suc (ih r)

pub reach_walk : (q : Reading) (s : List ℕ) → reach (follow q) (map mark_of s) ≡ walk q s
unfolding reach walk
reach_walk q [] = refl
reach_walk q (c ∷ s) =
    ap (λ (a : Lang Mark). cond (is_none a) 0 (suc (reach a (map mark_of s)))) (steps q (mark_of c))
    ∙ reach_on s (λ r. reach_walk r s) (next q (mark_of c))

pub longest_walk : (s : List ℕ) → longest s ≡ walk beginning s
unfolding longest follow after_all
longest_walk s = reach_walk beginning s

abbrev Into : Lang Mark → List ℕ → Type 0
Into a s = (t : List ℕ) × In a (map mark_of (s ++ t))

into_on : (s : List ℕ) (n : ℕ) → ((r : Reading) → Into (follow r) (take n s) ↔ (n ≤ walk r s)) → (o : Option Reading)
    → Into (follows o) (take n s) ↔ (suc n ≤ onward o (λ r. suc (walk r s)))
unfolding follows
into_on s n ih None = (λ h. absurd h.1, λ h. absurd (not-suc-le-zero h))
into_on s n ih (Some r) = (λ h. suc-le-suc ((ih r).0 h), λ h. (ih r).1 (le_of_suc-le-suc h))

into_more : (q : Reading) (c : ℕ) (s : List ℕ) → Into (follow q) (c ∷ s) ↔ Into (follows (next q (mark_of c))) s
into_more q c s = (
  λ h. (
    h.0,
    subst (λ (a : Lang Mark). In a (map mark_of (s ++ h.0))) (steps q (mark_of c))
        ((after_in (mark_of c) (follow q) (map mark_of (s ++ h.0))).1 h.1),
  ),
  λ h. (
    h.0,
    (after_in (mark_of c) (follow q) (map mark_of (s ++ h.0))).0
        (subst (λ (a : Lang Mark). In a (map mark_of (s ++ h.0))) (sym (steps q (mark_of c))) h.1),
  ),
)

pub into_walk : (q : Reading) (s : List ℕ) (n : ℕ) → n ≤ length s → Into (follow q) (take n s) ↔ (n ≤ walk q s)
unfolding walk
into_walk q s zero h = (
  λ _. zero-le,
  λ _. (
    finish q,
    subst (In (follow q)) (append-nil (map mark_of (finish q)))
        ((after_all_in (map mark_of (finish q)) (follow q) []).0 ((null_in (after_all (map mark_of (finish q)) (follow q))).0 (finishes q))),
  ),
)
into_walk q [] (suc n) h = absurd (not-suc-le-zero h)
into_walk q (c ∷ s) (suc n) h = (
  λ g. (into_on s n (λ r. into_walk r s n (le_of_suc-le-suc h)) (next q (mark_of c))).0 ((into_more q c (take n s)).0 g),
  λ g. (into_more q c (take n s)).1 ((into_on s n (λ r. into_walk r s n (le_of_suc-le-suc h)) (next q (mark_of c))).1 g),
)

pub longest_stands : (s : List ℕ) → Longest s (longest s)
unfolding longest follow after_all
longest_stands s n h = (
  λ g. subst (λ (k : ℕ). n ≤ k) (sym (longest_walk s)) ((into_walk beginning s n h).0 g),
  λ g. (into_walk beginning s n h).1 (subst (λ (k : ℕ). n ≤ k) (longest_walk s) g),
)

within_on : (o : Option Reading) (s : List ℕ) → ((r : Reading) → walk r s ≤ length s) → onward o (λ r. suc (walk r s)) ≤ suc (length s)
within_on None s ih = zero-le
within_on (Some r) s ih = suc-le-suc (ih r)

walk_within : (q : Reading) (s : List ℕ) → walk q s ≤ length s
unfolding walk
walk_within q [] = zero-le
walk_within q (c ∷ s) = within_on (next q (mark_of c)) s (λ r. walk_within r s)

pub longest_within : (s : List ℕ) → longest s ≤ length s
longest_within s = subst (λ (n : ℕ). n ≤ length s) (sym (longest_walk s)) (walk_within beginning s)

-- a text is in a set just if nothing more need follow it
pub whole_in : {A : Type 0} (ms : List A) (a : Lang A) → In a ms ↔ (holds_null (after_all ms a) ≡ true)
whole_in ms a = (
  λ h. (null_in (after_all ms a)).1 ((after_all_in ms a []).1 (subst (In a) (sym (append-nil ms)) h)),
  λ e. subst (In a) (append-nil ms) ((after_all_in ms a []).0 ((null_in (after_all ms a)).0 e)),
)

pub statement_in : (s : List ℕ) → StatementLine s ↔ (is_statement s ≡ true)
unfolding is_statement
statement_in s = whole_in (map mark_of s) (line plain)

module _ (q : Reading) (s : List ℕ) (i : ℕ) (h : i < length s) where
  walk_at : walk q (drop i s) ≡ onward (next q (mark_of (get_or s i 0))) (λ r. suc (walk r (drop (suc i) s)))
  unfolding walk
  walk_at = ap (walk q) (drop-cons s i 0 h)

  pub walk_on : (r : Reading) → next q (mark_of (get_or s i 0)) ≡ Some r → walk q (drop i s) ≡ suc (walk r (drop (suc i) s))
  walk_on r e = walk_at ∙ ap (λ (o : Option Reading). onward o (λ x. suc (walk x (drop (suc i) s)))) e

  pub walk_stop : next q (mark_of (get_or s i 0)) ≡ None → walk q (drop i s) ≡ 0
  walk_stop e = walk_at ∙ ap (λ (o : Option Reading). onward o (λ x. suc (walk x (drop (suc i) s)))) e

pub walk_end : (q : Reading) (s : List ℕ) → walk q (drop (length s) s) ≡ 0
unfolding walk
walk_end q s = ap (walk q) (drop-length s)

-- the three ways that a loop over the characters goes
module _ (q : Reading) (s : List ℕ) (i : ℕ) (inv : walk beginning s ≡ i + walk q (drop i s)) where
  pub goes_on : (r : Reading) → i < length s → next q (mark_of (get_or s i 0)) ≡ Some r → walk beginning s ≡ (i + 1) + walk r (drop (i + 1) s)
  goes_on r h e =
      let w = walk_on q s i h r e in
      rw add-one (omega arith)

  pub stops : i < length s → next q (mark_of (get_or s i 0)) ≡ None → i ≡ longest s
  stops h e = let w = walk_stop q s i h e in let l = longest_walk s in omega arith

  pub ends : i ≡ length s → length s ≡ longest s
  ends e =
      let w = walk_end q s in
      let l = longest_walk s in
      let v : walk q (drop i s) ≡ 0 = ap (λ (k : ℕ). walk q (drop k s)) e ∙ w in
      omega arith

abbrev pub onto : Option Reading → (Reading → Bool) → Bool
onto None f = false
onto (Some r) f = f r

-- whether the readings from q end where a line may
unfoldable pub lands : Reading → List ℕ → Bool
lands q [] = stands q
lands q (c ∷ s) = onto (next q (mark_of c)) (λ r. lands r s)

pub none_stays : (ms : List Mark) → holds_null (after_all ms none) ≡ false
unfolding holds_null after_all after
none_stays [] = refl
none_stays (m ∷ ms) = none_stays ms

lands_on : (s : List ℕ) → ((r : Reading) → holds_null (after_all (map mark_of s) (follow r)) ≡ lands r s) → (o : Option Reading)
    → holds_null (after_all (map mark_of s) (follows o)) ≡ onto o (λ r. lands r s)
unfolding follows
lands_on s ih None = none_stays (map mark_of s)
lands_on s ih (Some r) = ih r

after_lands : (q : Reading) (s : List ℕ) → holds_null (after_all (map mark_of s) (follow q)) ≡ lands q s
unfolding after_all lands
after_lands q [] = stands_follow q
after_lands q (c ∷ s) =
    ap (λ (a : Lang Mark). holds_null (after_all (map mark_of s) a)) (steps q (mark_of c))
    ∙ lands_on s (λ r. after_lands r s) (next q (mark_of c))

pub statement_lands : (s : List ℕ) → is_statement s ≡ lands beginning s
unfolding is_statement follow after_all
statement_lands s = after_lands beginning s

module _ (q : Reading) (s : List ℕ) (i : ℕ) (h : i < length s) where
  lands_at : lands q (drop i s) ≡ onto (next q (mark_of (get_or s i 0))) (λ r. lands r (drop (suc i) s))
  unfolding lands
  lands_at = ap (lands q) (drop-cons s i 0 h)

  pub lands_more : (r : Reading) → next q (mark_of (get_or s i 0)) ≡ Some r → lands q (drop i s) ≡ lands r (drop (i + 1) s)
  lands_more r e = rw add-one (lands_at ∙ ap (λ (o : Option Reading). onto o (λ x. lands x (drop (suc i) s))) e)

  pub lands_stop : next q (mark_of (get_or s i 0)) ≡ None → lands q (drop i s) ≡ false
  lands_stop e = lands_at ∙ ap (λ (o : Option Reading). onto o (λ x. lands x (drop (suc i) s))) e

pub lands_end : (q : Reading) (s : List ℕ) (i : ℕ) → i ≡ length s → lands q (drop i s) ≡ stands q
unfolding lands
lands_end q s i e = ap (λ (k : ℕ). lands q (drop k s)) e ∙ ap (lands q) (drop-length s)
