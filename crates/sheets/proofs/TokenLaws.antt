-- The fault of a token that counts, and what is counted with a token that has none. Assumes nothing.
use Rattle.std.proofs.Common.{◌≡◌, ℕ, zero, suc, ◌+◌, ◌-◌, ◌<◌, ◌≤◌, Bool, true, false, cond, ◌&&◌, ltb, leb, List, [], ◌∷◌, ◌++◌, map, length, take, drop, Some, None, Ok, Err, Option, Result, sym, refl, ap, ◌∙◌, subst, arith, length-append, take-take, drop-drop, ltb-false}
use native.Mathlib.Numerals.{unary_clauses}
use Rattle.std.proofs.lemmas.Bool.Decides.{nat_tests}
use Rattle.lines.specs.declared.token.Token.{Token}
use Rattle.symbols.specs.Answers.{answered}
use Rattle.symbols.specs.declared.fault.TextFault.{TextFault}
use Rattle.sheets.specs.declared.fault.Cause.{Cause}
use Rattle.sheets.specs.declared.fault.Fault.{Fault}
use Rattle.sheets.specs.declared.item.Opened.{Opened}
use Rattle.sheets.specs.declared.part.Part.{Part}
use Rattle.sheets.specs.declared.tally.Tally.{Tally}
use Rattle.sheets.specs.Faults.{fault, before, least, first}
use Rattle.sheets.specs.Items.{opened_by, Inside, indirect, word, spelling, brings_name}
use Rattle.sheets.specs.Parts.{part_of, position, or_added, with_word}
use Rattle.sheets.specs.Tallies.{Count, told, Within, when, long_name, opened_before, ninth, absent, extra_name, literal, literal_answer, literal_faults, symbols_added, joined, token_faults, with_token, elements_opened, operands_opened, Lies, Took}
use Rattle.sheets.proofs.Extras.{length_named}
use Rattle.sheets.proofs.Firsts.{first_append}

module _ (reads : List ℕ → Result ℕ TextFault) (s : List ℕ) (n : Count) (t : Token) where
  pub token_first : first (token_faults reads s n t)
      ≡ least (least (least (first (long_name s t)) (first (ninth n.elements n.operands t))) (first (extra_name s n.names t))) (first (literal_faults (literal reads s t) n.symbols t))
  unfolding token_faults
  token_first =
      first_append ((long_name s t ++ ninth n.elements n.operands t) ++ extra_name s n.names t) (literal_faults (literal reads s t) n.symbols t)
      ∙ ap (λ (o : Option Fault). least o (first (literal_faults (literal reads s t) n.symbols t)))
      (first_append (long_name s t ++ ninth n.elements n.operands t) (extra_name s n.names t)
      ∙ ap (λ (o : Option Fault). least o (first (extra_name s n.names t))) (first_append (long_name s t) (ninth n.elements n.operands t)))

joined_err : (o : Option Fault) (g : Fault) (k : ℕ) → joined o (Err g) ≡ answered (least o (Some g)) k
joined_err None g k = refl
joined_err (Some f) g k = go (before g f)
  where
    go : (b : Bool) → cond b (Err g) (Err f) ≡ answered (cond b (Some g) (Some f)) k
    go true = refl
    go false = refl

joined_ok : (o : Option Fault) (k : ℕ) → joined o (Ok k) ≡ answered (least o None) k
joined_ok None k = refl
joined_ok (Some f) k = refl

-- a literal's own fault among the others
pub joined_answer : (o : Option Fault) (lit : Result ℕ TextFault) (b : ℕ) (t : Token)
    → joined o (literal_answer lit b t) ≡ answered (least o (first (literal_faults lit b t))) (symbols_added lit)
joined_answer o (Ok k) b t = go (ltb 4096 (b + k))
  where
    go : (x : Bool) → joined o (cond x (Err (fault (t.start + 1) Cause.TooMany)) (Ok k))
        ≡ answered (least o (first (when x (fault (t.start + 1) Cause.TooMany)))) k
    go true = joined_err o (fault (t.start + 1) Cause.TooMany) k
    go false = joined_ok o k
joined_answer o (Err f) b t = joined_err o (fault ((t.start + 2) + f.at) (Cause.Symbol f.fault)) 0

-- three faults together
pub three : (a b c d e x y z : Option Fault) → d ≡ least a b → e ≡ least d c → a ≡ x → b ≡ y → c ≡ z → e ≡ least (least x y) z
three a b c d e x y z p q f g h = q ∙ ap (λ (o : Option Fault). least o c) p ∙ ap (λ (o : Option Fault). least (least o b) c) f
    ∙ ap (λ (o : Option Fault). least (least x o) c) g ∙ ap (least (least x y)) h

-- a part of a line is a part of its text
take_none : (n : ℕ) → ◌≡◌ {A = List ℕ} (take n []) []
take_none zero = refl
take_none (suc n) = refl

take_drop : (k m : ℕ) (l : List ℕ) → drop k (take m l) ≡ take (m - k) (drop k l)
take_drop zero m l = ap (λ (n : ℕ). take n l) (omega arith)
take_drop (suc k) zero l = let e : 0 ≡ 0 - suc k = omega arith in ap (λ (n : ℕ). take n (drop (suc k) l)) e
take_drop (suc k) (suc m) [] = sym (take_none (suc m - suc k))
take_drop (suc k) (suc m) (x ∷ l) =
    let e : m - k ≡ suc m - suc k = simp unary_clauses in
    take_drop k m l ∙ ap (λ (n : ℕ). take n (drop k l)) e

pub part_lies : (text line : List ℕ) (from : ℕ) (p : Part) → Lies text from line → p.start + p.size ≤ length line
    → part_of text (record { start = from + p.start; size = p.size }) ≡ part_of line p
unfolding part_of
part_lies text line from p h l =
    let m = length line in
    ap (take p.size) (sym (drop-drop p.start from text))
    ∙ sym (take-take p.size (m - p.start) (drop p.start (drop from text)) (omega arith))
    ∙ ap (take p.size) (sym (take_drop p.start m (drop from text)))
    ∙ ap (λ (x : List ℕ). take p.size (drop p.start x)) (sym h)

pub word_within : (s : List ℕ) (t : Token) → Inside s t → (word s t).start + (word s t).size ≤ length s
word_within s t h = go (indirect s t)
  where
    chosen : Bool → Part
    chosen b = cond b (record { start = t.start + 1; size = t.size - 1 }) (record { start = t.start; size = t.size })

    go : (b : Bool) → (chosen b).start + (chosen b).size ≤ length s
    go true = let a = h.some in let b = h.within in omega arith
    go false = h.within

-- where no fault counts there is none
pub least_none_left : (a b : Option Fault) → least a b ≡ None → a ≡ None
least_none_left None b e = refl
least_none_left (Some f) None e = e
least_none_left (Some f) (Some g) e = go (before g f) e
  where
    go : (x : Bool) → cond x (Some g) (Some f) ≡ None → Some f ≡ None
    go true p = absurd (let z : ◌≡◌ {A = ℕ} 0 1 = cc in omega arith)
    go false p = p

pub least_none_right : (a b : Option Fault) → least a b ≡ None → b ≡ None
least_none_right a None e = refl
least_none_right None (Some g) e = e
least_none_right (Some f) (Some g) e = go (before g f) e
  where
    go : (x : Bool) → cond x (Some g) (Some f) ≡ None → Some g ≡ None
    go true p = p
    go false p = absurd (let z : ◌≡◌ {A = ℕ} 0 1 = cc in omega arith)

pub when_none : (b : Bool) (f : Fault) → first (when b f) ≡ None → b ≡ false
when_none true f e = absurd (let z : ◌≡◌ {A = ℕ} 0 1 = cc in omega arith)
when_none false f e = refl

module _ (reads : List ℕ → Result ℕ TextFault) (s : List ℕ) (n : Count) (t : Token) (no : first (token_faults reads s n t) ≡ None) where
  abbrev others : Option Fault
  others = least (least (first (long_name s t)) (first (ninth n.elements n.operands t))) (first (extra_name s n.names t))

  apart : least others (first (literal_faults (literal reads s t) n.symbols t)) ≡ None
  apart = sym (token_first reads s n t) ∙ no

  without : others ≡ None
  without = least_none_left others (first (literal_faults (literal reads s t) n.symbols t)) apart

  pub symbols_bound : n.symbols ≤ 4096 → n.symbols + symbols_added (literal reads s t) ≤ 4096
  symbols_bound h = go (literal reads s t) (least_none_right others (first (literal_faults (literal reads s t) n.symbols t)) apart)
    where
      go : (lit : Result ℕ TextFault) → first (literal_faults lit n.symbols t) ≡ None → n.symbols + symbols_added lit ≤ 4096
      go (Ok k) e = ltb-false 4096 (n.symbols + k) (when_none (ltb 4096 (n.symbols + k)) (fault (t.start + 1) Cause.TooMany) e)
      go (Err f) e = omega arith

  few : leb 8 (opened_before (opened_by t.role) n.elements n.operands) ≡ false
  few =
      when_none (leb 8 (opened_before (opened_by t.role) n.elements n.operands)) (fault (t.start + 1) Cause.TooMany)
      (least_none_right (first (long_name s t)) (first (ninth n.elements n.operands t))
      (least_none_left (least (first (long_name s t)) (first (ninth n.elements n.operands t))) (first (extra_name s n.names t)) without))

  pub elements_bound : n.elements ≤ 8 → n.elements + elements_opened (opened_by t.role) ≤ 8
  elements_bound h = go (opened_by t.role) few
    where
      go : (o : Option Opened) → leb 8 (opened_before o n.elements n.operands) ≡ false → n.elements + elements_opened o ≤ 8
      go None e = omega arith
      go (Some Opened.Element) e = grind (arith, nat_tests)
      go (Some Opened.Operand) e = omega arith

  pub operands_bound : n.operands ≤ 8 → n.operands + operands_opened (opened_by t.role) ≤ 8
  operands_bound h = go (opened_by t.role) few
    where
      go : (o : Option Opened) → leb 8 (opened_before o n.elements n.operands) ≡ false → n.operands + operands_opened o ≤ 8
      go None e = omega arith
      go (Some Opened.Element) e = omega arith
      go (Some Opened.Operand) e = grind (arith, nat_tests)

  named : (brings_name s t && (leb 64 (length n.names) && absent (position (spelling s t) n.names))) ≡ false
  named =
      when_none (brings_name s t && (leb 64 (length n.names) && absent (position (spelling s t) n.names))) (fault ((word s t).start + 1) Cause.TooMany)
      (least_none_right (least (first (long_name s t)) (first (ninth n.elements n.operands t))) (first (extra_name s n.names t)) without)

  pub names_bound : length n.names ≤ 64 → length (cond (brings_name s t) (with_word (spelling s t) n.names) n.names) ≤ 64
  names_bound h = go (brings_name s t) (position (spelling s t) n.names) named
    where
      go : (b : Bool) (o : Option ℕ) → (b && (leb 64 (length n.names) && absent o)) ≡ false
          → length (cond b (or_added o (spelling s t) n.names) n.names) ≤ 64
      go false o e = h
      go true (Some k) e = h
      go true None e =
          let l : length n.names < 64 = grind (arith, nat_tests) in
          subst (λ (m : ℕ). m ≤ 64) (sym (length-append n.names (spelling s t ∷ []))) (omega arith)

abbrev count : ℕ → ℕ → ℕ → List (List ℕ) → Count
count a b c ns = record { elements = a; operands = b; symbols = c; names = ns }

answered_ok : (o : Option Fault) (a k : ℕ) → Ok k ≡ answered o a → (o ≡ None) × (k ≡ a)
answered_ok None a k e = (refl, (let z : k ≡ a = cc in z))
answered_ok (Some f) a k e = absurd (let z : ◌≡◌ {A = ℕ} 0 1 = cc in omega arith)

pub answered_err : (o : Option Fault) (a : ℕ) (f : Fault) → Err f ≡ answered o a → o ≡ Some f
answered_err None a f e = absurd (let z : ◌≡◌ {A = ℕ} 0 1 = cc in omega arith)
answered_err (Some g) a f e = let z : g ≡ f = cc in ap (λ (x : Fault). Some x) z

-- a token without fault, taken
module _ (reads : List ℕ → Result ℕ TextFault) (s text : List ℕ) (names : List Part) (tally : Tally) (t : Token) (k : ℕ)
    (ans : Ok k ≡ answered (first (token_faults reads s (told text names tally) t)) (symbols_added (literal reads s t))) where
  abbrev so_far : Count
  so_far = told text names tally

  no_fault : first (token_faults reads s so_far t) ≡ None
  no_fault = (answered_ok (first (token_faults reads s so_far t)) (symbols_added (literal reads s t)) k ans).0

  added : k ≡ symbols_added (literal reads s t)
  added = (answered_ok (first (token_faults reads s so_far t)) (symbols_added (literal reads s t)) k ans).1

  pub symbols_fit : Within tally → tally.symbols + k ≤ 4096
  symbols_fit w =
      subst (λ (x : ℕ). tally.symbols + x ≤ 4096) (sym added) (symbols_bound reads s so_far t no_fault w.symbols)

  module _ (names' : List Part) (e o m : ℕ) (ee : e ≡ elements_opened (opened_by t.role)) (oo : o ≡ operands_opened (opened_by t.role))
      (nn : map (part_of text) (take m names') ≡ cond (brings_name s t) (with_word (spelling s t) so_far.names) so_far.names) where
    abbrev tallied : Tally
    tallied = record { elements = tally.elements + e; operands = tally.operands + o; symbols = tally.symbols + k; names = m }

    counted_with : told text names' tallied ≡ with_token reads s so_far t
    unfolding with_token
    counted_with =
        ap (λ (x : ℕ). count x (tally.operands + o) (tally.symbols + k) (map (part_of text) (take m names'))) (ap (λ (x : ℕ). tally.elements + x) ee)
        ∙ ap (λ (x : ℕ). count (tally.elements + elements_opened (opened_by t.role)) x (tally.symbols + k) (map (part_of text) (take m names'))) (ap (λ (x : ℕ). tally.operands + x) oo)
        ∙ ap (λ (x : ℕ). count (tally.elements + elements_opened (opened_by t.role)) (tally.operands + operands_opened (opened_by t.role)) x (map (part_of text) (take m names'))) (ap (λ (x : ℕ). tally.symbols + x) added)
        ∙ ap (count (tally.elements + elements_opened (opened_by t.role)) (tally.operands + operands_opened (opened_by t.role)) (tally.symbols + symbols_added (literal reads s t))) nn

    pub token_took : Within tally → tally.names ≤ length names → m ≤ length names'
        → Took (first (token_faults reads s so_far t)) (with_token reads s so_far t) text names' (Ok tallied)
    token_took w r r' = (
      no_fault,
      counted_with,
      record {
        elements = subst (λ (x : ℕ). tally.elements + x ≤ 8) (sym ee) (elements_bound reads s so_far t no_fault w.elements);
        operands = subst (λ (x : ℕ). tally.operands + x ≤ 8) (sym oo) (operands_bound reads s so_far t no_fault w.operands);
        symbols = symbols_fit w;
        names = subst (λ (x : ℕ). x ≤ 64) (ap length (sym nn) ∙ length_named text names' m r')
            (names_bound reads s so_far t no_fault (subst (λ (x : ℕ). x ≤ 64) (sym (length_named text names tally.names r)) w.names));
      },
    )
