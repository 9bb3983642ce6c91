-- The enumeration lists the partial placings. Assumes nothing.
use Rattle.std.proofs.Common.{◌≡◌, ℕ, zero, suc, ◌<◌, ◌≤◌, Bool, leb, List, [], ◌∷◌, length, get_or, take, Decides, ap, arith}
use Rattle.std.specs.List.{ContainsAt}
use Rattle.std.proofs.lemmas.List.{length-take-le, get_or-take}
use Rattle.std.proofs.ByRecursion.{All-weaker}
use Rattle.std.proofs.lemmas.Bool.{leb-true, le-leb}
use Rattle.std.proofs.lemmas.Bool.Decides.{Decides-and}
use Rattle.symbols.specs.declared.role.Role.{Role}
use Rattle.placings.specs.declared.mode.Mode.{Mode}
use Rattle.placings.specs.declared.mode.Mode.TheVariants.{Anchored}
use Rattle.placings.specs.Tree.{paths}
use Rattle.placings.specs.Pattern.{Element, arbitrary, Suits}
use Rattle.placings.specs.Placing.{Partial}
use Rattle.placings.specs.Enumeration.{suits_test, may_at, may, partials}
use Rattle.placings.specs.Theorems.{Equality, Enumerates}
use Rattle.placings.proofs.Tree.{Goes, each_from_goes, goes_from_each, below_sound, below_complete, below_ascending}
use Rattle.placings.proofs.Pattern.{decides_starts, decides_so_far}

module _ {A : Type 0} (eq : A → A → Bool) (dec : Equality A eq) (role : A → Role) (mode : Mode) (s : List A) (pattern : List (Element A)) where
  -- the test at place i of ps
  at_place : (ps : List ℕ) (i : ℕ) → i < length ps → may eq role mode s pattern (take i ps) (get_or ps i 0) ≡ may_at eq role mode s pattern (take i ps) i (get_or ps i 0)
  at_place ps i l = ap (λ k. may_at eq role mode s pattern (take i ps) k (get_or ps i 0)) (length-take-le i ps (omega arith))

  -- it decides where a partial placing may start, and how it may go on
  decides_start : (ps : List ℕ) → 0 < length ps → Decides (may eq role mode s pattern (take 0 ps) (get_or ps 0 0)) (mode ≡ Anchored → get_or ps 0 0 ≡ 0)
  unfolding may_at
  decides_start ps l = rw (at_place ps 0 l) (decides_starts mode (get_or ps 0 0))

  decides_next : (ps : List ℕ) (i : ℕ) → suc i < length ps → Decides (may eq role mode s pattern (take (suc i) ps) (get_or ps (suc i) 0)) ((get_or ps i 0 ≤ get_or ps (suc i) 0) × Suits role s (length pattern) ps i (get_or ps (suc i) 0) (get_or pattern i arbitrary))
  unfolding may_at
  decides_next ps i l =
      let k : i < suc i = omega arith in
      rw (at_place ps (suc i) l, get_or-take (suc i) ps i 0 k)
      (Decides-and (leb (get_or ps i 0) (get_or ps (suc i) 0)) (suits_test eq role s (length pattern) (take (suc i) ps) i (get_or ps (suc i) 0) (get_or pattern i arbitrary))
      (leb-true _ _, le-leb _ _) (decides_so_far eq dec role s (length pattern) ps i (get_or ps (suc i) 0) (get_or pattern i arbitrary)))

  partial_from : (ps : List ℕ) → 0 < length ps → length ps ≤ suc (length pattern) → Goes (may eq role mode s pattern) (length s) [] ps → Partial role mode s pattern ps
  partial_from ps some few g =
      let each = each_from_goes (may eq role mode s pattern) (length s) [] ps g in
      record {
        some = some;
        few = few;
        within = λ i l. (each i l).0;
        start = (decides_start ps some).0 (each 0 some).1;
        rising = λ i l. ((decides_next ps i l).0 (each (suc i) l).1).0;
        suits = λ i l. ((decides_next ps i l).0 (each (suc i) l).1).1;
      }

  goes_from : (ps : List ℕ) → Partial role mode s pattern ps → Goes (may eq role mode s pattern) (length s) [] ps
  goes_from ps h =
      goes_from_each (may eq role mode s pattern) (length s) [] ps
      (elim [
        | zero ↦ λ l. (h.within 0 l, (decides_start ps l).1 h.start)
        | suc i ↦ λ l. (h.within (suc i) l, (decides_next ps i l).1 (h.rising i l, h.suits i l))
      ])

  listed : (ps : List ℕ) → Partial role mode s pattern ps → ContainsAt (partials eq role mode s pattern) ps
  unfolding paths
  listed [] h = absurd (omega (arith, h.some))
  listed (c ∷ r) h = below_complete (may eq role mode s pattern) (length s) (suc (length pattern)) [] c r (omega (arith, h.few)) (goes_from (c ∷ r) h)

  pub enumerates : Enumerates eq role mode s pattern
  unfolding paths
  enumerates =
      record {
        sound =
            All-weaker _ (Partial role mode s pattern) (λ q u. rw u.2 (partial_from (u.0 ∷ u.1) (omega arith) (omega (arith, u.3)) u.4)) (partials eq role mode s pattern)
            (below_sound (may eq role mode s pattern) (length s) (suc (length pattern)) []);
        complete = listed;
        ascending = below_ascending (may eq role mode s pattern) (length s) (suc (length pattern)) [];
      }
