-- What it says that names are within their limits. Assumes nothing.
use Rattle.std.proofs.Common.{◌≡◌, ℕ, zero, suc, ◌+◌, ◌-◌, ◌<◌, ◌≤◌, true, false, ◌||◌, ltb, List, [], ◌∷◌, length, get_or, drop, sym, ap, ◌∙◌, arith}
use Rattle.std.proofs.lemmas.List.{drop_more, drop_all}
use Rattle.std.proofs.lemmas.Bool.{or_parts, or_left, or_right, or_from, ltb-false, lt-ltb, le-ltb}
use Rattle.stores.specs.declared.limits.Limits.{Limits}
use Rattle.stores.specs.Names.{Names, size, limits, under}
use Rattle.stores.proofs.Calls.{under_is}
use Rattle.changes.specs.Success.{Success}
use Rattle.changes.specs.Limits.{over_longest, over_limits}
use Rattle.changes.specs.Written.{written}
use Rattle.changes.proofs.Written.{written_length, written_limits}

longest_at : {X : Type 0} (l : ℕ) (ss : List (List X)) (i : ℕ) → over_longest l ss ≡ false → length (get_or ss i []) ≤ l
unfolding over_longest
longest_at l [] i e = omega arith
longest_at l (s ∷ ss) zero e = ltb-false l (length s) (or_parts (ltb l (length s)) (over_longest l ss) e).0
longest_at l (s ∷ ss) (suc i) e = longest_at l ss i (or_parts (ltb l (length s)) (over_longest l ss) e).1

module _ {X : Type 0} (names : Names X) (within : over_limits names ≡ false) where
  pub limit_each : (i : ℕ) → length (get_or names.strings i []) ≤ names.longest
  unfolding over_limits
  limit_each i = longest_at names.longest names.strings i (or_parts (over_longest names.longest names.strings) (ltb names.most (size names.strings)) within).0

  pub limit_all : size names.strings ≤ names.most
  unfolding over_limits
  limit_all = ltb-false names.most (size names.strings) (or_parts (over_longest names.longest names.strings) (ltb names.most (size names.strings)) within).1

-- one string more, of n symbols
module _ {X : Type 0} (names : Names X) (i n : ℕ) (lt : i < length names.strings) (is : n ≡ length (under names (i + 1))) where
  here : n ≡ length (get_or names.strings i [])
  here = is ∙ ap length (under_is names (i + 1) (omega arith) ∙ ap (λ k. get_or names.strings k []) (let e : (i + 1) - 1 ≡ i = omega arith in e))

  pub size_more : size (drop i names.strings) ≡ n + size (drop (i + 1) names.strings)
  size_more = ap size (drop_more names.strings i [] lt) ∙ ap (λ k. k + size (drop (i + 1) names.strings)) (sym here)

  longest_more : over_longest names.longest (drop i names.strings) ≡ (ltb names.longest n || over_longest names.longest (drop (i + 1) names.strings))
  unfolding over_longest
  longest_more = ap (over_longest names.longest) (drop_more names.strings i [] lt) ∙ ap (λ k. ltb names.longest k || over_longest names.longest (drop (i + 1) names.strings)) (sym here)

  -- the string is too long
  pub over_one : over_longest names.longest (drop i names.strings) ≡ over_longest names.longest names.strings → names.longest < n → true ≡ over_limits names
  unfolding over_limits
  over_one rest h = sym (or_left _ _ (sym rest ∙ longest_more ∙ or_left _ _ (lt-ltb names.longest n h)))

  -- with it all together are too much
  pub over_all : (sum : ℕ) → sum + size (drop i names.strings) ≡ size names.strings → names.most < sum + n → true ≡ over_limits names
  unfolding over_limits
  over_all sum rest h = sym (or_right _ _ (lt-ltb names.most (size names.strings) (omega (arith, size_more))))

  -- the string is short enough
  pub over_more : over_longest names.longest (drop i names.strings) ≡ over_longest names.longest names.strings → n ≤ names.longest → over_longest names.longest (drop (i + 1) names.strings) ≡ over_longest names.longest names.strings
  over_more rest h = sym (longest_more ∙ ap (λ b. b || over_longest names.longest (drop (i + 1) names.strings)) (le-ltb names.longest n h)) ∙ rest

-- no string is left
pub over_none : {X : Type 0} (names : Names X) (i sum : ℕ) → length names.strings ≤ i → sum ≤ names.most → sum + size (drop i names.strings) ≡ size names.strings → over_longest names.longest (drop i names.strings) ≡ over_longest names.longest names.strings → false ≡ over_limits names
unfolding over_limits over_longest
over_none names i sum h most all rest =
    let none = drop_all i names.strings h in
    sym (or_from _ _ (sym rest ∙ ap (over_longest names.longest) none) (le-ltb names.most (size names.strings) (omega (arith, ap size none))))

-- what a store tells of itself holds after the writes too
pub record Limited {X : Type 0} (l : Limits) (names : Names X) : Type 0 where
  pub count : l.names ≡ length names.strings
  pub longest : l.longest ≡ names.longest
  pub most : l.most ≡ names.most

pub limited : {X : Type 0} (success : Success X) (names : Names X) (l : Limits) → l ≡ limits names → Limited l (written success names)
limited success names l e =
    record {
      count = ap (λ (j : Limits). j.names) e ∙ sym (written_length success names);
      longest = ap (λ (j : Limits). j.longest) e ∙ sym (ap (λ m. m.longest) (written_limits success names));
      most = ap (λ (j : Limits). j.most) e ∙ sym (ap (λ m. m.most) (written_limits success names));
    }
