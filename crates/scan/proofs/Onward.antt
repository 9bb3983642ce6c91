-- A walk from one start, move by move. Assumes nothing.
use Rattle.std.proofs.Common.{◌≡◌, ℕ, suc, ◌+◌, ◌-◌, ◌<◌, ◌≤◌, Bool, eqb, ◌≢◌, List, [], ◌∷◌, length, get_or, set, Some, None, Ok, Err, Option, sym, refl, ap, ◌∙◌, subst, append-nil, arith}
use Rattle.std.proofs.lemmas.List.{length-set, get_or-set_other, get_or-set_same}
use Rattle.std.proofs.lemmas.Bool.{eqb-true, eqb-false}
use Rattle.placings.specs.Tree.{below, push}
use Rattle.placings.specs.Enumeration.{first, count}
use Rattle.scan.specs.declared.row.Row.{Row}
use Rattle.scan.specs.declared.step.Move.TheVariants as move
use Rattle.scan.specs.declared.answer.ScanRefusal.TheVariants.{Spent}
use Rattle.scan.specs.Ends.{Next}
use Rattle.scan.specs.Rows.{unused, entered}
use Rattle.scan.specs.Steps.{course}
use Rattle.scan.specs.Left.{beginning, places, behind, left, Standing, Retreats}
use Rattle.scan.proofs.Courses.{forward_is, back_is, done_is, spent_is}
use Rattle.scan.proofs.Suiting.{length_places}
use Rattle.scan.proofs.Stack.{below_across, left_forward, left_back, left_some, behind_set, places_set, places_set_below, standing_none, standing_more, beginning_more, beginning_set, first_full, first_more, count_full, count_more, count_some}

-- the walk stands before row i, and of all that there is to try the rest is left
pub record Onward (ok : List ℕ → ℕ → Bool) (n m start trials : ℕ) (rows : List Row) (i begin now : ℕ) : Type 0 where
  pub short : i < m
  pub begins : begin ≡ beginning start rows i
  pub within : begin ≤ n
  pub stands : Standing ok n m start rows i
  pub firsts : first m (below ok n m (start ∷ [])) ≡ first m (left ok n m start rows i 0)
  pub fewer : now ≤ trials
  pub counts : count m (below ok n m (start ∷ [])) + now ≡ trials + count m (left ok n m start rows i 0)

module _ (ok : List ℕ → ℕ → Bool) (n m start trials : ℕ) where
  pub onward_none : (rows : List Row) → length rows ≡ 8 → 0 < m → start ≤ n → Onward ok n m start trials rows 0 start trials
  unfolding behind
  onward_none rows l some w =
      let z : m ≡ suc (m - 1) = omega arith in
      let e : below ok n m (start ∷ []) ≡ left ok n m start rows 0 0 = ap (λ d. below ok n d (start ∷ [])) z ∙ below_across ok n (m - 1) (start ∷ []) ∙ sym (append-nil _) in
      record { short = some; begins = refl; within = w; stands = standing_none ok n m start rows l; firsts = ap (first m) e; fewer = omega arith; counts = omega (arith, ap (count m) e) }

  -- one more partial placing, which is no placing
  onward_more : m ≤ 8 → (rows after : List Row) (i j begin end now : ℕ) → Onward ok n m start trials rows i begin now → 0 < now → j < m → end ≡ beginning start after j → end ≤ n → Standing ok n m start after j → left ok n m start rows i 0 ≡ places start after j ∷ left ok n m start after j 0 → Onward ok n m start trials after j end (now - 1)
  onward_more few rows after i j begin end now o p l b w st e =
      let eight = st.eight in
      let size = length_places start after j (omega arith) in
      let ne : length (places start after j) ≡ suc m → ⊥ = λ q. omega arith in
      let c = o.counts in
      record {
        short = l;
        begins = b;
        within = w;
        stands = st;
        firsts = o.firsts ∙ ap (first m) e ∙ first_more m (places start after j) (left ok n m start after j 0) ne;
        fewer = let f = o.fewer in omega arith;
        counts = omega (arith, ap (count m) e, count_more m (places start after j) (left ok n m start after j 0) ne);
      }

  -- what a row is once its element has looked for a first end
  row_at : (row old : Row) (begin e : ℕ) (r : Option ℕ) → row ≡ entered old begin r → r ≡ Some e → row ≡ record { begin = begin; end = e }
  row_at row old begin e r a q = a ∙ ap (entered old begin) q

  pub standing_set : (rows : List Row) (i : ℕ) (row : Row) → Standing ok n m start rows i → Standing ok n m start (set rows i row) i
  standing_set rows i row h =
      record {
        eight = length-set rows i row ∙ h.eight;
        begins = λ k x. let a : k ≢ i = omega arith in rw (get_or-set_other rows i k row unused a, beginning_set ok n m start rows i row k (omega arith)) (h.begins k x);
        within = λ k x. let a : k ≢ i = omega arith in rw (get_or-set_other rows i k row unused a) (h.within k x);
        suits = λ k x. let a : k ≢ i = omega arith in rw (get_or-set_other rows i k row unused a, places_set_below ok n m start rows i k row (omega arith)) (h.suits k x);
      }

  module _ (few : m ≤ 8) (rows : List Row) (i begin now : ℕ) (o : Onward ok n m start trials rows i begin now) (last : Bool) (lastly : last ≡ eqb (i + 1) m) (r : Option ℕ) (nxt : Next (ok (places start rows i)) n 0 r) (row : Row) (entry : row ≡ entered (get_or rows i unused) begin r) where
    pub onward_forward : (e : ℕ) → move.Forward e ≡ course last now r → Onward ok n m start trials (set rows i row) (i + 1) e (now - 1)
    onward_forward e q =
        let x = forward_is last now r e q in
        let short = o.short in
        let eight = o.stands.eight in
        let k : i < length rows = omega arith in
        let is = row_at row (get_or rows i unused) begin e r entry x.0 in
        let end : row.end ≡ e = ap (λ (y : Row). y.end) is in
        let h : Next (ok (places start rows i)) n 0 (Some row.end) = subst (Next (ok (places start rows i)) n 0) (x.0 ∙ ap Some (sym end)) nxt in
        let ne = eqb-false (i + 1) m (sym lastly ∙ x.2) in
        let z : suc i ≡ i + 1 = omega arith in
        subst (λ j. Onward ok n m start trials (set rows i row) j e (now - 1)) z
        (onward_more few rows (set rows i row) i (suc i) begin e now o x.1 (omega arith) (sym end ∙ sym (beginning_more ok n m start rows i row k)) (subst (λ y. y ≤ n) end h.1)
        (standing_more ok n m start rows i row k o.stands (ap (λ (y : Row). y.begin) is ∙ o.begins) h.1 h.2)
        (left_forward ok n m start rows i 0 row (omega arith) k h))

    pub onward_placed : move.Done ≡ course last now r → (first m (below ok n m (start ∷ [])) ≡ Some (places start (set rows i row) m)) × (count m (below ok n m (start ∷ [])) + (now - 1) ≡ trials)
    onward_placed q =
        let x = done_is last now r q in
        let eight = o.stands.eight in
        let short = o.short in
        let k : i < length rows = omega arith in
        let some = x.2 in
        let at = eqb-true (i + 1) m (sym lastly ∙ x.3) in
        let z : m ≡ suc i = omega arith in
        let is = row_at row (get_or rows i unused) begin x.0 r entry x.1 in
        let end : row.end ≡ x.0 = ap (λ (y : Row). y.end) is in
        let all : places start (set rows i row) m ≡ push (places start rows i) x.0 = ap (places start (set rows i row)) z ∙ places_set ok n m start rows i row k ∙ ap (push (places start rows i)) end in
        let full : length (push (places start rows i) x.0) ≡ suc m = ap length (sym all) ∙ length_places start (set rows i row) m (omega (arith, length-set rows i row)) in
        let xs = left_some ok n m start rows i 0 x.0 (subst (Next (ok (places start rows i)) n 0) x.1 nxt) in
        let c = o.counts in (
          o.firsts ∙ ap (first m) xs.1 ∙ first_full m (push (places start rows i) x.0) xs.0 full ∙ ap Some (sym all),
          omega (arith, ap (count m) xs.1, count_full m (push (places start rows i) x.0) xs.0 full),
        )

    pub onward_spent : move.Spent ≡ course last now r → trials < count m (below ok n m (start ∷ []))
    onward_spent q =
        let x = spent_is last now r q in
        let xs = left_some ok n m start rows i 0 x.0 (subst (Next (ok (places start rows i)) n 0) x.1 nxt) in
        let none = x.2 in
        let c = o.counts in
        omega (arith, ap (count m) xs.1, count_some m (push (places start rows i) x.0) xs.0)

    -- where row i finds no end, what is left is what the rows before it have
    module _ (q : move.Back ≡ course last now r) where
      passed_on : left ok n m start rows i 0 ≡ behind ok n m start (set rows i row) i
      passed_on = left_back ok n m start rows i 0 (subst (Next (ok (places start rows i)) n 0) (back_is last now r q) nxt) ∙ sym (behind_set ok n m start rows i i row (omega arith))

      pub onward_resumed : (after : List Row) (j e : ℕ) → Retreats ok n m start (set rows i row) i now after (Ok (Some (j, e))) → Onward ok n m start trials after (j + 1) e (now - 1)
      onward_resumed after j e h =
          let l = h.0 in
          let short = o.short in
          let eight = o.stands.eight in
          let k : j < length (set rows i row) = omega (arith, length-set rows i row) in
          let z : suc j ≡ j + 1 = omega arith in
          let held : (get_or after j unused).end ≡ e = ap (λ (y : List Row). (get_or y j unused).end) h.2 ∙ ap (λ (y : Row). y.end) (get_or-set_same (set rows i row) j _ unused k) in
          let at : beginning start after (suc j) ≡ e = ap (λ (y : List Row). beginning start y (suc j)) h.2 ∙ beginning_more ok n m start (set rows i row) j _ k in
          subst (λ x. Onward ok n m start trials after x e (now - 1)) z
          (onward_more few rows after i (suc j) begin e now o h.1 (omega arith) (sym at) (subst (λ x. x ≤ n) held (h.3.within j (omega arith))) h.3 (passed_on ∙ h.4))

      pub onward_missed : (after : List Row) → Retreats ok n m start (set rows i row) i now after (Ok None) → (first m (below ok n m (start ∷ [])) ≡ None) × (count m (below ok n m (start ∷ [])) + now ≡ trials)
      unfolding first count
      onward_missed after h = let e = passed_on ∙ h in let c = o.counts in (o.firsts ∙ ap (first m) e, omega (arith, ap (count m) e))

      pub onward_exceeded : (after : List Row) → Retreats ok n m start (set rows i row) i now after (Err Spent) → trials < count m (below ok n m (start ∷ []))
      onward_exceeded after h = let c = o.counts in omega (arith, ap (count m) passed_on)
