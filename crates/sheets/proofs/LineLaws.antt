-- A line's own faults, and what a line without fault brings. Assumes nothing.
use Rattle.std.proofs.Common.{◌≡◌, ℕ, ◌+◌, ◌<◌, ◌≤◌, Bool, true, false, cond, not, ◌&&◌, ◌||◌, leb, List, [], ◌∷◌, ◌++◌, map, length, take, drop, set, Some, None, Option, Result, sym, refl, ap, ◌∙◌, subst, arith, take-take}
use Rattle.std.proofs.lemmas.Bool.Decides.{nat_tests}
use Rattle.lines.specs.Lines.{idle}
use Rattle.lines.specs.Tokens.{tokens}
use Rattle.symbols.specs.Answers.{answered}
use Rattle.symbols.specs.declared.fault.TextFault.{TextFault}
use Rattle.sheets.specs.declared.check.Carried.{Carried}
use Rattle.sheets.specs.declared.fault.Cause.{Cause}
use Rattle.sheets.specs.declared.fault.Fault.{Fault}
use Rattle.sheets.specs.declared.part.Part.{Part}
use Rattle.sheets.specs.declared.tally.Tally.{Tally}
use Rattle.sheets.specs.Faults.{fault, least, first}
use Rattle.sheets.specs.LineFaults.{Brought, no_statement, label, label_size, labelled_end, extra_statement, second_label, none_yet, code_faults, passed, form_faults, own_faults, line_faults, with_statement, with_line, carried, Limited, Checked}
use Rattle.sheets.specs.Parts.{part_of}
use Rattle.sheets.specs.Tallies.{Count, told, Within, faults_from, count_from, Lies}
use Rattle.sheets.proofs.Firsts.{first_append, least_none}
use Rattle.sheets.proofs.Searches.{pushed}
use Rattle.sheets.proofs.TokenLaws.{three, least_none_left, least_none_right, when_none}

-- the label of a line is a part of its text
pub label_lies : (text s : List ℕ) (from k : ℕ) → Lies text from s → k ≤ length s → k ≡ label_size (tokens s)
    → part_of text (record { start = from; size = k }) ≡ label s
unfolding part_of label
label_lies text s from k h l e =
    sym (ap (take k) h ∙ take-take k (length s) (drop from text) l) ∙ ap (λ (n : ℕ). take n s) e

pub label_noted : (text s : List ℕ) (from k : ℕ) (labels : List Part) (n : ℕ) → n < length labels → Lies text from s → k ≤ length s → k ≡ label_size (tokens s)
    → map (part_of text) (take (n + 1) (set labels n (record { start = from; size = k }))) ≡ map (part_of text) (take n labels) ++ (label s ∷ [])
label_noted text s from k labels n r h l e =
    pushed text labels n (record { start = from; size = k }) r
    ∙ ap (λ (x : List ℕ). map (part_of text) (take n labels) ++ (x ∷ [])) (label_lies text s from k h l e)

-- the faults of form and label of a line that may be a statement
pub form_first : (statements : ℕ) (labels : List (List ℕ)) (s : List ℕ) (a b c d e : Option Fault) → false ≡ idle s
    → d ≡ least a b → e ≡ least d c → a ≡ first (no_statement s) → b ≡ first (extra_statement statements s) → c ≡ first (second_label labels s)
    → e ≡ first (form_faults statements labels false s)
form_first statements labels s a b c d e i p q f g h =
    three a b c d e (first (no_statement s)) (first (extra_statement statements s)) (first (second_label labels s)) p q f g h
    ∙ sym (first_append (no_statement s ++ extra_statement statements s) (second_label labels s)
    ∙ ap (λ (o : Option Fault). least o (first (second_label labels s))) (first_append (no_statement s) (extra_statement statements s)))
    ∙ ap (λ (x : Bool). first (cond x [] ((no_statement s ++ extra_statement statements s) ++ second_label labels s))) i

abbrev bringing : ℕ → List (List ℕ) → ℕ → List (List ℕ) → Bool → Brought
bringing k ls c ns b = record { statements = k; labels = ls; symbols = c; names = ns; ended = b }

-- before the tokens of a line
abbrev pub tallied : Carried → Tally
tallied c = record { elements = 0; operands = 0; symbols = c.symbols; names = c.names }

or_left : (a b : Bool) → false ≡ (a || b) → false ≡ a
or_left true b e = e
or_left false b e = refl

or_right : (a b : Bool) → false ≡ (a || b) → false ≡ b
or_right true b e = absurd (let z : ◌≡◌ {A = ℕ} 0 1 = cc in omega arith)
or_right false b e = e

module _ (reads : List ℕ → Result ℕ TextFault) (text s : List ℕ) (names labels : List Part) (before : Carried) where
  abbrev n : Brought
  n = carried text names labels before

  abbrev token_part : List Fault
  token_part = faults_from reads s (none_yet n) (tokens s)

  line_first : first (line_faults reads n s) ≡ least (first (own_faults n s)) (first (cond (passed n s) [] token_part))
  unfolding line_faults
  line_first = first_append (own_faults n s) (cond (passed n s) [] token_part)

  -- a line that brings nothing
  pub check_passed : (own : Option Fault) → own ≡ first (own_faults n s) → true ≡ passed n s → Limited before
      → Checked (first (line_faults reads n s)) (with_line reads n s) text names labels (answered own before)
  unfolding with_line
  check_passed own e p l =
      let f : first (line_faults reads n s) ≡ own =
      line_first ∙ ap (λ (b : Bool). least (first (own_faults n s)) (first (cond b [] token_part))) (sym p)
      ∙ least_none (first (own_faults n s)) ∙ sym e in
      go own f
    where
      go : (o : Option Fault) → first (line_faults reads n s) ≡ o → Checked (first (line_faults reads n s)) (with_line reads n s) text names labels (answered o before)
      go None f = (f, ap (λ (b : Bool). cond b n (with_statement reads n s)) p, l)
      go (Some x) f = f

  module _ (own : Option Fault) (e : own ≡ first (own_faults n s)) (p : false ≡ passed n s) where
    not_passed : first (line_faults reads n s) ≡ least own (first token_part)
    not_passed =
        line_first ∙ ap (λ (b : Bool). least (first (own_faults n s)) (first (cond b [] token_part))) (sym p)
        ∙ ap (λ (o : Option Fault). least o (first token_part)) (sym e)

    pub check_faulty : (f r : Fault) → first token_part ≡ Some f → Some r ≡ least own (Some f) → first (line_faults reads n s) ≡ Some r
    check_faulty f r t l = not_passed ∙ ap (least own) t ∙ sym l

    -- no statement too many
    room : own ≡ None → (leb 128 before.statements && not (labelled_end s)) ≡ false
    room o =
        let all : least (first (code_faults s)) (first (form_faults before.statements n.labels before.ended s)) ≡ None =
        sym (e ∙ first_append (code_faults s) (form_faults before.statements n.labels before.ended s)) ∙ o in
        let form : first (form_faults before.statements n.labels before.ended s) ≡ None =
        least_none_right (first (code_faults s)) (first (form_faults before.statements n.labels before.ended s)) all in
        let open₁ : first ((no_statement s ++ extra_statement before.statements s) ++ second_label n.labels s) ≡ None =
        ap (λ (b : Bool). first (cond b [] (cond false (fault 1 Cause.End ∷ []) ((no_statement s ++ extra_statement before.statements s) ++ second_label n.labels s))))
        (or_left (idle s) before.ended p)
        ∙ ap (λ (b : Bool). first (form_faults before.statements n.labels b s)) (or_right (idle s) before.ended p) ∙ form in
        let both : least (first (no_statement s)) (first (extra_statement before.statements s)) ≡ None =
        sym (first_append (no_statement s) (extra_statement before.statements s))
        ∙ least_none_left (first (no_statement s ++ extra_statement before.statements s)) (first (second_label n.labels s))
        (sym (first_append (no_statement s ++ extra_statement before.statements s) (second_label n.labels s)) ∙ open₁) in
        when_none (leb 128 before.statements && not (labelled_end s)) (fault 1 Cause.TooMany)
        (least_none_right (first (no_statement s)) (first (extra_statement before.statements s)) both)

    -- a statement's line
    module _ (names' labels' : List Part) (tally : Tally) (k : ℕ) (ended : Bool)
        (t : first token_part ≡ None) (c : told text names' tally ≡ count_from reads s (none_yet n) (tokens s)) (w : Within tally)
        (en : ended ≡ labelled_end s) (kk : k ≡ cond (labelled_end s) before.statements (before.statements + 1))
        (ll : map (part_of text) (take k labels') ≡ cond (labelled_end s) n.labels (n.labels ++ (label s ∷ []))) where
      abbrev now_carried : Carried
      now_carried = record { statements = k; symbols = tally.symbols; names = tally.names; ended = ended }

      brought : carried text names' labels' now_carried ≡ with_statement reads n s
      brought =
          ap (λ (x : ℕ). bringing x (map (part_of text) (take k labels')) tally.symbols (map (part_of text) (take tally.names names')) ended) kk
          ∙ ap (λ (x : List (List ℕ)). bringing k₁ x tally.symbols (map (part_of text) (take tally.names names')) ended) ll
          ∙ ap (λ (x : Count). bringing k₁ l₁ x.symbols x.names ended) c
          ∙ ap (bringing k₁ l₁ (count_from reads s (none_yet n) (tokens s)).symbols (count_from reads s (none_yet n) (tokens s)).names) en
        where
          k₁ : ℕ
          k₁ = cond (labelled_end s) before.statements (before.statements + 1)

          l₁ : List (List ℕ)
          l₁ = cond (labelled_end s) n.labels (n.labels ++ (label s ∷ []))

      in_limit : own ≡ None → Limited before → k ≤ 128
      in_limit o l = subst (λ (x : ℕ). x ≤ 128) (sym kk) (go (labelled_end s) (room o))
        where
          go : (b : Bool) → (leb 128 before.statements && not b) ≡ false → cond b before.statements (before.statements + 1) ≤ 128
          go true q = l.statements
          go false q = grind (arith, nat_tests)

      pub check_taken : Limited before → Checked (first (line_faults reads n s)) (with_line reads n s) text names' labels' (answered own now_carried)
      unfolding with_line
      check_taken l = go own refl (not_passed ∙ ap (least own) t ∙ least_none own)
        where
          go : (o : Option Fault) → own ≡ o → first (line_faults reads n s) ≡ own
              → Checked (first (line_faults reads n s)) (with_line reads n s) text names' labels' (answered o now_carried)
          go None q f = (
            f ∙ q,
            brought ∙ ap (λ (b : Bool). cond b n (with_statement reads n s)) p,
            record { statements = in_limit q l; symbols = w.symbols; names = w.names },
          )
          go (Some x) q f = f ∙ q
