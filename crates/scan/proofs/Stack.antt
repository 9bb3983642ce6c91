-- What a scan has left to try, and how a move changes it. Assumes nothing.
use Rattle.std.proofs.Common.{◌≡◌, ℕ, zero, suc, ◌+◌, ◌-◌, ◌<◌, ◌≤◌, Bool, true, false, cond, eqb, ◌≢◌, List, [], ◌∷◌, ◌++◌, length, get_or, take, set, Some, None, refl, ap, ◌∙◌, ⊎_elim, append_assoc, arith}
use Rattle.std.proofs.lemmas.List.{take-set-le, get_or-set_other, get_or-set_same, take_more_set, length-map, length-set, map-set}
use Rattle.std.proofs.lemmas.Bool.{cond-true, cond-false, eq-eqb, ne_eqb, cases_eq}
use Rattle.placings.specs.Tree.{push, run, below}
use Rattle.placings.specs.Enumeration.{first, count}
use Rattle.scan.specs.declared.row.Row.{Row}
use Rattle.scan.specs.Ends.{Next}
use Rattle.scan.specs.Rows.{unused}
use Rattle.scan.specs.Left.{ends, beginning, places, across, here, behind, left, Standing}
use Rattle.scan.proofs.Suiting.{end_at}

module _ (ok : List ℕ → ℕ → Bool) (n : ℕ) where
  abbrev kids : ℕ → List ℕ → ℕ → List (List ℕ)
  kids d p c = cond (ok p c) (push p c ∷ below ok n d (push p c)) []

  -- k numbers that do not pass
  skips : (d : ℕ) (p : List ℕ) (k j c : ℕ) → ((i : ℕ) → c ≤ i → i < c + k → ok p i ≡ false) → run (kids d p) (k + j) c ≡ run (kids d p) j (c + k)
  unfolding run
  skips d p zero j c h = let a : 0 + j ≡ j = omega arith in let b : c + 0 ≡ c = omega arith in rw (a, b)
  skips d p (suc k) j c h =
      let a : suc k + j ≡ suc (k + j) = omega arith in
      let b : c + suc k ≡ suc c + k = omega arith in
      rw (a, b, cond-false (ok p c) (push p c ∷ below ok n d (push p c)) [] (h c (omega arith) (omega arith)))
      (skips d p k j (suc c) (λ i x y. h i (omega arith) (omega arith)))

  pub across_none : (d : ℕ) (p : List ℕ) (c : ℕ) → Next (ok p) n c None → across ok n d p c ≡ []
  unfolding across run
  across_none d p c h =
      let a : suc n - c ≡ (suc n - c) + 0 = omega arith in
      rw a (skips d p (suc n - c) 0 c (λ i x y. h i x (omega arith)))

  pub across_some : (d : ℕ) (p : List ℕ) (c e : ℕ) → Next (ok p) n c (Some e) → across ok n d p c ≡ (push p e ∷ below ok n d (push p e)) ++ across ok n d p (suc e)
  unfolding across run
  across_some d p c e h =
      let l = h.0 in
      let r = h.1 in
      let a : suc n - c ≡ (e - c) + suc (suc n - suc e) = omega arith in
      let b : c + (e - c) ≡ e = omega arith in
      ap (λ k. run (kids d p) k c) a ∙ skips d p (e - c) (suc (suc n - suc e)) c (λ i x y. h.3 i x (omega arith))
      ∙ ap (λ k. run (kids d p) (suc (suc n - suc e)) k) b
      ∙ ap (λ l. l ++ run (kids d p) (suc n - suc e) (suc e)) (cond-true (ok p e) (push p e ∷ below ok n d (push p e)) [] h.2)

  pub below_across : (d : ℕ) (p : List ℕ) → below ok n (suc d) p ≡ across ok n d p 0
  unfolding below across
  below_across d p = let a : suc n - 0 ≡ suc n = omega arith in rw a

module _ (ok : List ℕ → ℕ → Bool) (n m start : ℕ) where
  pub ends_set : (rows : List Row) (i : ℕ) (row : Row) → ends (set rows i row) ≡ set (ends rows) i row.end
  ends_set rows i row = map-set (λ (row : Row). row.end) rows i row

  pub places_set_below : (rows : List Row) (i j : ℕ) (row : Row) → j ≤ i → places start (set rows i row) j ≡ places start rows j
  places_set_below rows i j row l = ap (λ es. start ∷ take j es) (ends_set rows i row) ∙ ap (λ es. start ∷ es) (take-set-le j (ends rows) i row.end l)

  pub places_set : (rows : List Row) (i : ℕ) (row : Row) → i < length rows → places start (set rows i row) (suc i) ≡ push (places start rows i) row.end
  places_set rows i row l =
      let z : suc i ≡ i + 1 = omega arith in
      let k : i < length (ends rows) = omega (arith, length-map rows (λ (row : Row). row.end)) in
      ap (λ es. start ∷ take (suc i) es) (ends_set rows i row) ∙ ap (λ j. start ∷ take j (set (ends rows) i row.end)) z ∙ ap (λ es. start ∷ es) (take_more_set (ends rows) i row.end k)

  pub behind_set : (rows : List Row) (j i : ℕ) (row : Row) → j ≤ i → behind ok n m start (set rows i row) j ≡ behind ok n m start rows j
  unfolding behind
  behind_set rows zero i row l = refl
  behind_set rows (suc j) i row l =
      let a : j ≢ i = omega arith in
      rw (places_set_below rows i j row (omega arith), ends_set rows i row, get_or-set_other (ends rows) i j row.end 0 a, behind_set rows j i row (omega arith))

  -- back: row i finds no end
  pub left_back : (rows : List Row) (i c : ℕ) → Next (ok (places start rows i)) n c None → left ok n m start rows i c ≡ behind ok n m start rows i
  left_back rows i c h = ap (λ xs. xs ++ behind ok n m start rows i) (across_none ok n (m - suc i) (places start rows i) c h)

  -- forward: row i finds an end, and is not the last
  pub left_forward : (rows : List Row) (i c : ℕ) (row : Row) → suc i < m → i < length rows → Next (ok (places start rows i)) n c (Some row.end) → left ok n m start rows i c ≡ places start (set rows i row) (suc i) ∷ left ok n m start (set rows i row) (suc i) 0
  unfolding behind
  left_forward rows i c row l k h =
      let z : m - suc i ≡ suc (m - suc (suc i)) = omega arith in
      let ks : i < length (ends rows) = omega (arith, length-map rows (λ (row : Row). row.end)) in
      let e : get_or (ends (set rows i row)) i 0 ≡ row.end = ap (λ es. get_or es i 0) (ends_set rows i row) ∙ get_or-set_same (ends rows) i row.end 0 ks in
      rw (places_set rows i row k, places_set_below rows i i row (omega arith), e, behind_set rows i i row (omega arith), across_some ok n (m - suc i) (places start rows i) c row.end h, ap (λ d. below ok n d (push (places start rows i) row.end)) z, below_across ok n (m - suc (suc i)) (push (places start rows i) row.end))
      (ap (λ xs. push (places start rows i) row.end ∷ xs) (append_assoc (across ok n (m - suc (suc i)) (push (places start rows i) row.end) 0) (across ok n (m - suc i) (places start rows i) (suc row.end)) (behind ok n m start rows i)))

  -- row i finds an end
  pub left_some : (rows : List Row) (i c e : ℕ) → Next (ok (places start rows i)) n c (Some e) → (xs : List (List ℕ)) × (left ok n m start rows i c ≡ push (places start rows i) e ∷ xs)
  left_some rows i c e h = ((below ok n (m - suc i) (push (places start rows i) e) ++ across ok n (m - suc i) (places start rows i) (suc e)) ++ behind ok n m start rows i, ap (λ xs. xs ++ behind ok n m start rows i) (across_some ok n (m - suc i) (places start rows i) c e h))

  pub behind_left : (rows : List Row) (j : ℕ) → j < length rows → behind ok n m start rows (suc j) ≡ left ok n m start rows j ((get_or rows j unused).end + 1)
  unfolding behind
  behind_left rows j l = let z : suc (get_or (ends rows) j 0) ≡ (get_or rows j unused).end + 1 = omega (arith, end_at rows j l) in ap (λ c. here ok n m start rows j c ++ behind ok n m start rows j) z

  pub standing_none : (rows : List Row) → length rows ≡ 8 → Standing ok n m start rows 0
  standing_none rows l = record { eight = l; begins = λ k h. absurd (omega arith); within = λ k h. absurd (omega arith); suits = λ k h. absurd (omega arith) }

  pub standing_less : (rows : List Row) (i j : ℕ) → j ≤ i → Standing ok n m start rows i → Standing ok n m start rows j
  standing_less rows i j l h = record { eight = h.eight; begins = λ k x. h.begins k (omega arith); within = λ k x. h.within k (omega arith); suits = λ k x. h.suits k (omega arith) }

  pub beginning_set : (rows : List Row) (i : ℕ) (row : Row) (k : ℕ) → k ≤ i → beginning start (set rows i row) k ≡ beginning start rows k
  beginning_set rows i row zero l = refl
  beginning_set rows i row (suc k) l = let a : k ≢ i = omega arith in ap (λ es. get_or es k 0) (ends_set rows i row) ∙ get_or-set_other (ends rows) i k row.end 0 a

  pub beginning_more : (rows : List Row) (i : ℕ) (row : Row) → i < length rows → beginning start (set rows i row) (suc i) ≡ row.end
  beginning_more rows i row l = let ks : i < length (ends rows) = omega (arith, length-map rows (λ (row : Row). row.end)) in ap (λ es. get_or es i 0) (ends_set rows i row) ∙ get_or-set_same (ends rows) i row.end 0 ks

  pub standing_more : (rows : List Row) (i : ℕ) (row : Row) → i < length rows → Standing ok n m start rows i → row.begin ≡ beginning start rows i → row.end ≤ n → ok (places start rows i) row.end ≡ true → Standing ok n m start (set rows i row) (suc i)
  standing_more rows i row l h b w t =
      record {
        eight = length-set rows i row ∙ h.eight;
        begins = λ k x. ⊎_elim
            (λ (q : k ≡ i). rw (q, get_or-set_same rows i row unused l, beginning_set rows i row i (omega arith)) b)
            (λ (ne : k ≡ i → ⊥). let a : k ≢ i = ne in rw (get_or-set_other rows i k row unused a, beginning_set rows i row k (omega arith)) (h.begins k (omega arith)))
            (cases_eq k i);
        within = λ k x. ⊎_elim
            (λ (q : k ≡ i). rw (q, get_or-set_same rows i row unused l) w)
            (λ (ne : k ≡ i → ⊥). let a : k ≢ i = ne in rw (get_or-set_other rows i k row unused a) (h.within k (omega arith)))
            (cases_eq k i);
        suits = λ k x. ⊎_elim
            (λ (q : k ≡ i). rw (q, get_or-set_same rows i row unused l, places_set_below rows i i row (omega arith)) t)
            (λ (ne : k ≡ i → ⊥). let a : k ≢ i = ne in rw (get_or-set_other rows i k row unused a, places_set_below rows i k row (omega arith)) (h.suits k (omega arith)))
            (cases_eq k i);
      }

-- the first placing and the trials of what is left, by its first
module _ (m : ℕ) where
  pub first_full : (x : List ℕ) (xs : List (List ℕ)) → length x ≡ suc m → first m (x ∷ xs) ≡ Some x
  unfolding first
  first_full x xs e = cond-true (eqb (length x) (suc m)) (Some x) (first m xs) (eq-eqb _ _ e)

  pub first_more : (x : List ℕ) (xs : List (List ℕ)) → (length x ≡ suc m → ⊥) → first m (x ∷ xs) ≡ first m xs
  unfolding first
  first_more x xs e = cond-false (eqb (length x) (suc m)) (Some x) (first m xs) (ne_eqb _ _ e)

  pub count_full : (x : List ℕ) (xs : List (List ℕ)) → length x ≡ suc m → count m (x ∷ xs) ≡ 1
  unfolding count
  count_full x xs e = cond-true (eqb (length x) (suc m)) 1 (suc (count m xs)) (eq-eqb _ _ e)

  pub count_more : (x : List ℕ) (xs : List (List ℕ)) → (length x ≡ suc m → ⊥) → count m (x ∷ xs) ≡ suc (count m xs)
  unfolding count
  count_more x xs e = cond-false (eqb (length x) (suc m)) 1 (suc (count m xs)) (ne_eqb _ _ e)

  pub count_some : (x : List ℕ) (xs : List (List ℕ)) → 0 < count m (x ∷ xs)
  unfolding count
  count_some x xs = go (eqb (length x) (suc m))
    where
      go : (b : Bool) → 0 < cond b 1 (suc (count m xs))
      go true = omega arith
      go false = omega arith
