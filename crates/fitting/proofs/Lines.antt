-- What a line without fault is, and what is brought by lines without fault. Assumes nothing.
use Rattle.std.proofs.Common.{◌≡◌, ℕ, ◌+◌, ◌≤◌, Bool, true, false, cond, not, ◌&&◌, ◌||◌, leb, List, [], ◌∷◌, ◌++◌, map, length, None, Result, sym, refl, ◌∙◌, arith}
use Rattle.std.proofs.lemmas.List.{length-append}
use Rattle.std.proofs.lemmas.Bool.{false≢true, and_parts, or_from}
use Rattle.std.proofs.lemmas.Bool.Decides.{nat_tests}
use Rattle.symbols.specs.declared.fault.TextFault.{TextFault}
use Rattle.lines.specs.declared.token.Token.{Token}
use Rattle.lines.specs.Ends.{begins_end}
use Rattle.lines.specs.Lines.{idle, is_end, is_statement}
use Rattle.lines.specs.Marks.{mark_of}
use Rattle.lines.specs.Next.{beginning}
use Rattle.lines.specs.Tokens.{tokens}
use Rattle.lines.proofs.Endings.{is_end_at}
use Rattle.lines.proofs.Walk.{lands, statement_lands}
use Rattle.sheets.specs.declared.fault.Cause.{Cause}
use Rattle.sheets.specs.declared.fault.Fault.{Fault}
use Rattle.sheets.specs.Faults.{fault, first}
use Rattle.sheets.specs.LineFaults.{Brought, no_statement, extra_statement, second_label, label, labelled_end, own_faults, none_yet, passed, line_faults, with_statement, with_line}
use Rattle.sheets.specs.Sheets.{lines_refusal, brought_by}
use Rattle.sheets.specs.Tallies.{Count, token_faults, with_token, faults_from, count_from}
use Rattle.sheets.proofs.Accepted.{refused_none, form_none}
use Rattle.sheets.proofs.Firsts.{first_append}
use Rattle.sheets.proofs.TokenLaws.{least_none_left, least_none_right, when_none, names_bound, symbols_bound}
use Rattle.fitting.proofs.Names.{Among, tokens_keep}

-- of two lists without fault
none_left : (a b : List Fault) → first (a ++ b) ≡ None → first a ≡ None
none_left a b e = least_none_left (first a) (first b) (sym (first_append a b) ∙ e)

none_right : (a b : List Fault) → first (a ++ b) ≡ None → first b ≡ None
none_right a b e = least_none_right (first a) (first b) (sym (first_append a b) ∙ e)

-- a line without this fault stands
standing : (l : List ℕ) → idle l ≡ false → first (no_statement l) ≡ None → lands beginning l ≡ true
standing l p h = sym (statement_lands l) ∙ go (is_end l) (is_statement l) refl refl
  where
    go : (e w : Bool) → is_end l ≡ e → is_statement l ≡ w → is_statement l ≡ true
    go true w q r = (and_parts (begins_end (map mark_of l)) (is_statement l) (sym (is_end_at l) ∙ q)).1
    go false true q r = r
    go false false q r = absurd (let z : ◌≡◌ {A = ℕ} 0 1 = (let f = rw (p, q, r) at h in cc) in omega arith)

module _ (reads : List ℕ → Result ℕ TextFault) where
  -- a line without fault that is not idle
  pub record Clean (n : Brought) (l : List ℕ) : Type 0 where
    pub before_end : n.ended ≡ false
    pub stands : lands beginning l ≡ true
    pub room : (leb 128 n.statements && not (labelled_end l)) ≡ false
    pub rest : first (faults_from reads l (none_yet n) (tokens l)) ≡ None

  pub clean : (n : Brought) (l : List ℕ) → first (line_faults reads n l) ≡ None → idle l ≡ false → Clean n l
  unfolding line_faults
  clean n l none p =
      record {
        before_end = f.0;
        stands = standing l p (none_left (no_statement l) (extra_statement n.statements l) g);
        room = when_none (leb 128 n.statements && not (labelled_end l)) (fault 1 Cause.TooMany) (none_right (no_statement l) (extra_statement n.statements l) g);
        rest = last (passed n l) (or_from (idle l) n.ended p f.0) (none_right (own_faults n l) (cond (passed n l) [] (faults_from reads l (none_yet n) (tokens l))) none);
      }
    where
      form : List Fault
      form = (no_statement l ++ extra_statement n.statements l) ++ second_label n.labels l

      of_form : (i d : Bool) → i ≡ false → first (cond i [] (cond d (fault 1 Cause.End ∷ []) form)) ≡ None → (d ≡ false) × (first form ≡ None)
      of_form true d q e = absurd (false≢true (sym q))
      of_form false true q e = absurd (let z : ◌≡◌ {A = ℕ} 0 1 = cc in omega arith)
      of_form false false q e = (refl, e)

      f : (n.ended ≡ false) × (first form ≡ None)
      f = of_form (idle l) n.ended p (form_none reads n l none)

      g : first (no_statement l ++ extra_statement n.statements l) ≡ None
      g = none_left (no_statement l ++ extra_statement n.statements l) (second_label n.labels l) f.1

      last : (b : Bool) → b ≡ false → first (cond b [] (faults_from reads l (none_yet n) (tokens l))) ≡ None → first (faults_from reads l (none_yet n) (tokens l)) ≡ None
      last true q e = absurd (false≢true (sym q))
      last false q e = e

  -- tokens without fault bring no more than there may be
  tokens_limited : (s : List ℕ) (n : Count) (ts : List Token) → first (faults_from reads s n ts) ≡ None → length n.names ≤ 64 → n.symbols ≤ 4096
      → (length (count_from reads s n ts).names ≤ 64) × ((count_from reads s n ts).symbols ≤ 4096)
  unfolding faults_from count_from with_token
  tokens_limited s n [] none names symbols = (names, symbols)
  tokens_limited s n (t ∷ ts) none names symbols =
      let here = none_left (token_faults reads s n t) (faults_from reads s (with_token reads s n t) ts) none in
      tokens_limited s (with_token reads s n t) ts (none_right (token_faults reads s n t) (faults_from reads s (with_token reads s n t) ts) none)
      (names_bound reads s n t here names) (symbols_bound reads s n t here symbols)

  -- no limit is passed, and there is a label for each statement
  pub record Held (n : Brought) : Type 0 where
    pub statements : n.statements ≤ 128
    pub labels : length n.labels ≡ n.statements
    pub names : length n.names ≤ 64
    pub symbols : n.symbols ≤ 4096

  with_statement_held : (n : Brought) (l : List ℕ) → Clean n l → Held n → Held (with_statement reads n l)
  with_statement_held n l c h =
      let t = tokens_limited l (none_yet n) (tokens l) c.rest h.names h.symbols in
      let x = counted (labelled_end l) c.room in
      record { statements = x.0; labels = x.1; names = t.0; symbols = t.1 }
    where
      counted : (b : Bool) → (leb 128 n.statements && not b) ≡ false
          → (cond b n.statements (n.statements + 1) ≤ 128) × (length (cond b n.labels (n.labels ++ (label l ∷ []))) ≡ cond b n.statements (n.statements + 1))
      counted true e = (h.statements, h.labels)
      counted false e = (grind (arith, nat_tests), (let a = h.labels in let b = length-append n.labels (label l ∷ []) in omega (arith, a, b)))

  line_held : (n : Brought) (l : List ℕ) → first (line_faults reads n l) ≡ None → Held n → Held (with_line reads n l)
  unfolding with_line
  line_held n l none h = go (idle l) refl
    where
      on : (d : Bool) → d ≡ false → Held (with_statement reads n l) → Held (cond d n (with_statement reads n l))
      on true e k = h
      on false e k = k

      go : (i : Bool) → idle l ≡ i → Held (cond (i || n.ended) n (with_statement reads n l))
      go true e = h
      go false e = let c = clean n l none e in on n.ended c.before_end (with_statement_held n l c h)

  pub lines_held : (k : ℕ) (n : Brought) (ls : List (List ℕ)) → lines_refusal reads k n ls ≡ None → Held n → Held (brought_by reads n ls)
  unfolding lines_refusal brought_by
  lines_held k n [] e h = h
  lines_held k n (l ∷ ls) e h =
      let p = refused_none (first (line_faults reads n l)) k (lines_refusal reads (k + 1) (with_line reads n l) ls) e in
      lines_held (k + 1) (with_line reads n l) ls p.1 (line_held n l p.0 h)

  -- names stay
  line_keeps : (n : Brought) (l : List ℕ) (x : List ℕ) → Among x n.names → Among x (with_line reads n l).names
  unfolding with_line
  line_keeps n l x h = go (passed n l)
    where
      go : (b : Bool) → Among x (cond b n (with_statement reads n l)).names
      go true = h
      go false = tokens_keep reads l (none_yet n) (tokens l) x h

  pub lines_keep : (n : Brought) (ls : List (List ℕ)) (x : List ℕ) → Among x n.names → Among x (brought_by reads n ls).names
  unfolding brought_by
  lines_keep n [] x h = h
  lines_keep n (l ∷ ls) x h = lines_keep (with_line reads n l) ls x (line_keeps n l x h)
