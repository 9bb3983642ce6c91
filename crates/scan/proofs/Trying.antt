-- The starts that are tried one after the other, and the trials. Assumes nothing.
use Rattle.std.proofs.Common.{◌≡◌, ℕ, zero, suc, ◌+◌, ◌-◌, ◌<◌, ◌≤◌, Bool, true, false, cond, eqb, leb, List, [], ◌∷◌, ◌++◌, length, Some, None, Option, sym, refl, ap, ◌∙◌, subst, arith}
use Rattle.std.proofs.lemmas.Bool.{le-leb, lt-leb}
use Rattle.placings.specs.Tree.{below, paths}
use Rattle.placings.specs.Enumeration.{first, count, answer, tells, success, failure, spent}
use Rattle.scan.specs.Ends.{Next}
use Rattle.scan.specs.Left.{across}
use Rattle.scan.proofs.Telling.{told_spent, told_within}
use Rattle.scan.proofs.Stack.{across_none, across_some, below_across, first_more, count_more}

module _ (m : ℕ) where
  first_append : (xs ys : List (List ℕ)) (p : List ℕ) → first m xs ≡ Some p → (first m (xs ++ ys) ≡ Some p) × (count m (xs ++ ys) ≡ count m xs)
  unfolding first count
  first_append [] ys p e = let z : ◌≡◌ {A = ℕ} 0 1 = cc in absurd (omega arith)
  first_append (x ∷ xs) ys p e = go (eqb (length x) (suc m)) (first_append xs ys p) e
    where
      go : (b : Bool) → (first m xs ≡ Some p → (first m (xs ++ ys) ≡ Some p) × (count m (xs ++ ys) ≡ count m xs)) → cond b (Some x) (first m xs) ≡ Some p → (cond b (Some x) (first m (xs ++ ys)) ≡ Some p) × (cond b 1 (suc (count m (xs ++ ys))) ≡ cond b 1 (suc (count m xs)))
      go true ih h = (h, refl)
      go false ih h = let r = ih h in (r.0, ap suc r.1)

  none_append : (xs ys : List (List ℕ)) → first m xs ≡ None → (first m (xs ++ ys) ≡ first m ys) × (count m (xs ++ ys) ≡ count m xs + count m ys)
  unfolding first count
  none_append [] ys e = (refl, omega arith)
  none_append (x ∷ xs) ys e = go (eqb (length x) (suc m)) (none_append xs ys) e
    where
      go : (b : Bool) → (first m xs ≡ None → (first m (xs ++ ys) ≡ first m ys) × (count m (xs ++ ys) ≡ count m xs + count m ys)) → cond b (Some x) (first m xs) ≡ None → (cond b (Some x) (first m (xs ++ ys)) ≡ first m ys) × (cond b 1 (suc (count m (xs ++ ys))) ≡ cond b 1 (suc (count m xs)) + count m ys)
      go true ih h = let z : ◌≡◌ {A = ℕ} 0 1 = cc in absurd (omega arith)
      go false ih h = let r = ih h in let q = r.1 in (r.0, omega arith)

  count_append : (xs ys : List (List ℕ)) → count m xs ≤ count m (xs ++ ys)
  unfolding count
  count_append [] ys = omega arith
  count_append (x ∷ xs) ys = go (eqb (length x) (suc m)) (count_append xs ys)
    where
      go : (b : Bool) → count m xs ≤ count m (xs ++ ys) → cond b 1 (suc (count m xs)) ≤ cond b 1 (suc (count m (xs ++ ys)))
      go true h = omega arith
      go false h = omega arith

-- the starts before this one are tried, and of all that there is to try the rest is left
pub record Tried (ok : List ℕ → ℕ → Bool) (n m last allowance start left : ℕ) : Type 0 where
  pub reach : start ≤ last
  pub fewer : left ≤ allowance
  pub firsts : first m (paths ok n m) ≡ first m (across ok n m [] start)
  pub counts : count m (paths ok n m) + left ≡ allowance + count m (across ok n m [] start)

module _ (ok : List ℕ → ℕ → Bool) (n m last allowance : ℕ) (some : 0 < m) (within : last ≤ n) (starts : (k : ℕ) → k ≤ n → ok [] k ≡ leb k last) where
  lone : (k : ℕ) → length (k ∷ []) ≡ suc m → ⊥
  lone k q = omega arith

  -- a start, what goes on from it, and the later starts
  here : (k : ℕ) → k ≤ last → across ok n m [] k ≡ (k ∷ []) ∷ (below ok n m (k ∷ []) ++ across ok n m [] (suc k))
  here k l = across_some ok n m [] k k (omega arith, omega arith, starts k (omega arith) ∙ le-leb k last l, λ i x y. absurd (omega arith))

  past : (k : ℕ) → last < k → across ok n m [] k ≡ []
  past k l = across_none ok n m [] k (λ i x y. starts i y ∙ lt-leb i last (omega arith))

  -- starts from which nothing goes on are one trial each
  pass : (j c : ℕ) → c + j ≤ suc last → ((k : ℕ) → c ≤ k → k < c + j → below ok n m (k ∷ []) ≡ []) → (first m (across ok n m [] c) ≡ first m (across ok n m [] (c + j))) × (count m (across ok n m [] c) ≡ j + count m (across ok n m [] (c + j)))
  pass zero c l h = let z : c + 0 ≡ c = omega arith in (rw z refl, rw z (omega arith))
  pass (suc j) c l h =
      let z : c + suc j ≡ suc c + j = omega arith in
      let e : across ok n m [] c ≡ (c ∷ []) ∷ across ok n m [] (suc c) = here c (omega arith) ∙ ap (λ xs. (c ∷ []) ∷ (xs ++ across ok n m [] (suc c))) (h c (omega arith) (omega arith)) in
      let r = pass j (suc c) (omega arith) (λ k x y. h k (omega arith) (omega arith)) in
      let q = r.1 in (
        ap (first m) e ∙ first_more m (c ∷ []) (across ok n m [] (suc c)) (lone c) ∙ r.0 ∙ ap (λ k. first m (across ok n m [] k)) (sym z),
        omega (arith, ap (count m) e, count_more m (c ∷ []) (across ok n m [] (suc c)) (lone c), ap (λ k. count m (across ok n m [] k)) z),
      )

  pub tried_none : Tried ok n m last allowance 0 allowance
  unfolding paths
  tried_none = let e = below_across ok n m [] in record { reach = omega arith; fewer = omega arith; firsts = ap (first m) e; counts = omega (arith, ap (count m) e) }

  tells_spent : allowance < count m (paths ok n m) → answer m allowance (paths ok n m) ≡ spent
  tells_spent l = told_spent m allowance (paths ok n m) l

  tells_within : (rest : ℕ) (v : Option (List ℕ)) → first m (paths ok n m) ≡ v → count m (paths ok n m) + rest ≡ allowance → answer m allowance (paths ok n m) ≡ tells v (allowance - rest)
  tells_within rest v e q = told_within m allowance (paths ok n m) rest v e q

  module _ (stop : ℕ → Bool) (barren : (k : ℕ) → stop k ≡ false → below ok n m (k ∷ []) ≡ []) (start left : ℕ) (t : Tried ok n m last allowance start left) where
    -- the scan stops at no start any more
    passed : Next stop last start None → (first m (paths ok n m) ≡ None) × (count m (paths ok n m) + left ≡ allowance + (last - start + 1))
    unfolding first count
    passed h =
        let l = t.reach in
        let c = t.counts in
        let z : start + (last - start + 1) ≡ suc last = omega arith in
        let r = pass (last - start + 1) start (omega arith) (λ k x y. barren k (h k x (omega arith))) in
        let e = ap (λ k. across ok n m [] k) z ∙ past (suc last) (omega arith) in
        (t.firsts ∙ r.0 ∙ ap (first m) e, omega (arith, r.1, ap (count m) e))

    pub passed_spent : Next stop last start None → left ≤ last - start → answer m allowance (paths ok n m) ≡ spent
    passed_spent h l = let r = (passed h).1 in tells_spent (omega arith)

    pub passed_failed : Next stop last start None → (more : ℕ) → more + (last - start + 1) ≡ left → answer m allowance (paths ok n m) ≡ failure (allowance - more)
    passed_failed h more l = let r = (passed h).1 in tells_within more None (passed h).0 (omega arith)

    -- the scan stops at a start
    module _ (s : ℕ) (h : Next stop last start (Some s)) where
      stopped : (first m (paths ok n m) ≡ first m (below ok n m (s ∷ []) ++ across ok n m [] (suc s))) × (count m (paths ok n m) + left ≡ allowance + (s - start) + 1 + count m (below ok n m (s ∷ []) ++ across ok n m [] (suc s)))
      stopped =
          let a = h.0 in
          let b = h.1 in
          let c = t.counts in
          let z : start + (s - start) ≡ s = omega arith in
          let r = pass (s - start) start (omega arith) (λ k x y. barren k (h.3 k x (omega arith))) in
          let e = ap (λ k. across ok n m [] k) z ∙ here s b in
          let xs = below ok n m (s ∷ []) ++ across ok n m [] (suc s) in
          (t.firsts ∙ r.0 ∙ ap (first m) e ∙ first_more m (s ∷ []) xs (lone s), omega (arith, r.1, ap (count m) e, count_more m (s ∷ []) xs (lone s)))

      pub stopped_spent : left ≤ s - start → answer m allowance (paths ok n m) ≡ spent
      stopped_spent l = let r = stopped.1 in tells_spent (omega arith)

      -- some trials are left for the walk from it
      module _ (more : ℕ) (l : more + (s - start + 1) ≡ left) where
        abbrev walk : List (List ℕ)
        walk = below ok n m (s ∷ [])

        pub stopped_exceeded : more < count m walk → answer m allowance (paths ok n m) ≡ spent
        stopped_exceeded e = let r = stopped.1 in let g = count_append m walk (across ok n m [] (suc s)) in tells_spent (omega arith)

        pub stopped_placed : (p : List ℕ) → first m walk ≡ Some p → count m walk ≤ more → answer m allowance (paths ok n m) ≡ success p (allowance - (more - count m walk))
        stopped_placed p e q =
            let r = stopped.1 in
            let g = first_append m walk (across ok n m [] (suc s)) p e in
            let d = g.1 in
            tells_within (more - count m walk) (Some p) (stopped.0 ∙ g.0) (omega arith)

        missed : first m walk ≡ None → count m walk ≤ more → (first m (paths ok n m) ≡ first m (across ok n m [] (suc s))) × (count m (paths ok n m) + (more - count m walk) ≡ allowance + count m (across ok n m [] (suc s)))
        missed e q =
            let r = stopped.1 in
            let g = none_append m walk (across ok n m [] (suc s)) e in
            let d = g.1 in
            (stopped.0 ∙ g.0, omega arith)

        pub missed_failed : s ≡ last → first m walk ≡ None → count m walk ≤ more → answer m allowance (paths ok n m) ≡ failure (allowance - (more - count m walk))
        unfolding first count
        missed_failed z e q =
            let r = missed e q in
            let c = r.1 in
            let p = past (suc s) (omega arith) in
            tells_within (more - count m walk) None (r.0 ∙ ap (first m) p) (omega (arith, ap (count m) p))

        pub missed_more : s < last → first m walk ≡ None → count m walk ≤ more → Tried ok n m last allowance (s + 1) (more - count m walk)
        missed_more ne e q =
            let r = missed e q in
            let z : suc s ≡ s + 1 = omega arith in
            let f = t.fewer in
            subst (λ k. Tried ok n m last allowance k (more - count m walk)) z (record { reach = omega arith; fewer = omega arith; firsts = r.0; counts = r.1 })
