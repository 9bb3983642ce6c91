-- The rows and the start of an accepted text fit the sheet. Assumes nothing.
use Rattle.std.proofs.Common.{◌≡◌, ℕ, zero, suc, ◌+◌, ◌≤◌, min, Bool, true, false, cond, not, List, [], ◌∷◌, length, take, drop, replicate, Some, None, Option, Result, sym, refl, subst, ⊎_elim, arith}
use Rattle.std.specs.List.{flat_map, AllByRecursion}
use Rattle.std.proofs.ByRecursion.{All-append, All-take, All-drop, All-weaker}
use Rattle.std.proofs.lemmas.List.{length-append}
use Rattle.std.proofs.lemmas.Bool.{false≢true, and_parts, not-true, or_cases, or_from}
use Rattle.symbols.specs.declared.fault.TextFault.{TextFault}
use Rattle.lines.specs.declared.role.Role.{Role}
use Rattle.lines.specs.declared.token.Token.{Token}
use Rattle.sheets.specs.Sheets.{lines_of}
use Rattle.lines.specs.Lines.{idle}
use Rattle.lines.specs.Next.{beginning}
use Rattle.lines.specs.Roles.{same_role}
use Rattle.lines.specs.Tokens.{token, tokens}
use Rattle.lines.proofs.Runs.{same_roles}
use Rattle.lines.proofs.Walk.{lands}
use Rattle.constants.specs.Constants.{token_symbols, line_symbols}
use Rattle.sheets.specs.Faults.{first}
use Rattle.sheets.specs.Items.{spelling, brings_name}
use Rattle.sheets.specs.Labels.{token_text, token_unknown, unknown_from, lines_unknown}
use Rattle.sheets.specs.LineFaults.{Brought, labelled_end, none_yet, passed, line_faults, with_statement, with_line}
use Rattle.sheets.specs.Sheets.{lines_refusal, brought_by}
use Rattle.sheets.specs.Tallies.{counts, count_from}
use Rattle.sheets.proofs.Accepted.{refused_none}
use Rattle.changes.specs.Success.{In, Numbered}
use Rattle.tables.specs.declared.name.Name.{Name}
use Rattle.tables.specs.declared.row.Item.{Item}
use Rattle.tables.specs.declared.row.Item.TheVariants.{Operand as operand, Variable as variable}
use Rattle.tables.specs.declared.row.Next.{Next}
use Rattle.tables.specs.declared.row.Operand.{Operand}
use Rattle.tables.specs.declared.row.Reference.{Reference}
use Rattle.tables.specs.Rows.{Row}
use Rattle.rows.specs.declared.entry.Entry.{Entry}
use Rattle.rows.specs.Entries.{reference_of, entry_of, entries_from}
use Rattle.rows.specs.Fills.{filled}
use Rattle.rows.specs.Givens.{in_front, or, else, given, last_given}
use Rattle.rows.specs.Labels.{name_label}
use Rattle.rows.specs.Rows.{label_in, reference_in, element_in, operand_in, success_in, failure_in, replaces, null, right_side_of, row_of, has_row, led, line_row, rows_from}
use Rattle.load.specs.Starts.{token_start, line_start, text_start}
use Rattle.checks.specs.Fits.{number_in}
use Rattle.checks.specs.Sound.{Given, Short, Sound-operand, Sound-item, Sound-side, Sound-next, Sound-target, Sound-row}
use Rattle.fitting.proofs.Entries.{Sound-entry, front_sound, told_known, or_else_none, all_settled, entries_sound}
use Rattle.fitting.proofs.Lines.{clean, lines_keep}
use Rattle.fitting.proofs.Names.{Among, known_next, tokens_bring}
use Rattle.fitting.proofs.References.{refers, referred}
use Rattle.fitting.proofs.Tokens.{good_tokens}

-- what sound things give is sound
module _ {A B : Type 0} (f : A → Option B) (P : A → Type 0) (Q : B → Type 0) (each : (x : A) → P x → Given Q (f x)) where
  last_sound : (xs : List A) → AllByRecursion P xs → Given Q (last_given f xs)
  unfolding last_given
  last_sound [] h = tt
  last_sound (x ∷ xs) h = go (last_given f xs) (f x) (last_sound xs h.1) (each x h.0)
    where
      go : (a b : Option B) → Given Q a → Given Q b → Given Q (or a b)
      go None b p q = q
      go (Some y) b p q = p

  given_sound : (xs : List A) → AllByRecursion P xs → AllByRecursion Q (given f xs)
  unfolding given
  given_sound [] h = tt
  given_sound (x ∷ xs) h = front_sound Q (f x) (given f xs) (each x h.0) (given_sound xs h.1)

all_same : {A : Type 0} (Q : A → Type 0) (n : ℕ) (x : A) → Q x → AllByRecursion Q (replicate n x)
all_same Q zero x h = tt
all_same Q (suc n) x h = (h, all_same Q n x h)

pub filled_sound : {A : Type 0} (Q : A → Type 0) (n : ℕ) (blank : A) (xs : List A) → Q blank → AllByRecursion Q xs → AllByRecursion Q (filled n blank xs)
filled_sound Q n blank xs b h =
    All-append Q (take n xs) (drop (length (take n xs)) (replicate n blank)) (All-take Q n xs h)
    (All-drop Q (length (take n xs)) (replicate n blank) (all_same Q n blank b))

-- a thing is given
abbrev there : {B : Type 0} → Option B → Bool
there None = false
there (Some x) = true

else_sound : {B : Type 0} (Q : B → Type 0) (d : B) (o : Option B) → Given Q o → there o ≡ true → Q (else d o)
else_sound Q d None h t = absurd (false≢true t)
else_sound Q d (Some x) h t = h

item_numbered : (n c : ℕ) (i : Item) → Sound-item n c i → Numbered n i
item_numbered n c (operand o) h = tt
item_numbered n c (variable v) h = h.0

module _ (n s c : ℕ) where
  abbrev Entries : List (Entry Name) → Type 0
  Entries es = AllByRecursion (Sound-entry n s c) es

  label_sound : (e : Entry Name) → Sound-entry n s c e → Given Short (label_in e)
  label_sound (Entry.Label x) h = h
  label_sound (Entry.Reference x) h = tt
  label_sound (Entry.Element x) h = tt
  label_sound Entry.Equal h = tt
  label_sound (Entry.Operand x) h = tt
  label_sound (Entry.Both g) h = tt
  label_sound (Entry.OnS g) h = tt
  label_sound (Entry.OnF g) h = tt

  reference_sound : (e : Entry Name) → Sound-entry n s c e → Given (λ r. In n (number_in r)) (reference_in e)
  reference_sound (Entry.Label x) h = tt
  reference_sound (Entry.Reference x) h = h
  reference_sound (Entry.Element x) h = tt
  reference_sound Entry.Equal h = tt
  reference_sound (Entry.Operand x) h = tt
  reference_sound (Entry.Both g) h = tt
  reference_sound (Entry.OnS g) h = tt
  reference_sound (Entry.OnF g) h = tt

  element_sound : (e : Entry Name) → Sound-entry n s c e → Given (Sound-item n c) (element_in e)
  element_sound (Entry.Label x) h = tt
  element_sound (Entry.Reference x) h = tt
  element_sound (Entry.Element x) h = h
  element_sound Entry.Equal h = tt
  element_sound (Entry.Operand x) h = tt
  element_sound (Entry.Both g) h = tt
  element_sound (Entry.OnS g) h = tt
  element_sound (Entry.OnF g) h = tt

  operand_sound : (e : Entry Name) → Sound-entry n s c e → Given (Sound-operand n c) (operand_in e)
  operand_sound (Entry.Label x) h = tt
  operand_sound (Entry.Reference x) h = tt
  operand_sound (Entry.Element x) h = tt
  operand_sound Entry.Equal h = tt
  operand_sound (Entry.Operand x) h = h
  operand_sound (Entry.Both g) h = tt
  operand_sound (Entry.OnS g) h = tt
  operand_sound (Entry.OnF g) h = tt

  success_sound : (e : Entry Name) → Sound-entry n s c e → Given (Sound-target n s) (success_in e)
  success_sound (Entry.Label x) h = tt
  success_sound (Entry.Reference x) h = tt
  success_sound (Entry.Element x) h = tt
  success_sound Entry.Equal h = tt
  success_sound (Entry.Operand x) h = tt
  success_sound (Entry.Both g) h = h
  success_sound (Entry.OnS g) h = h
  success_sound (Entry.OnF g) h = tt

  failure_sound : (e : Entry Name) → Sound-entry n s c e → Given (Sound-target n s) (failure_in e)
  failure_sound (Entry.Label x) h = tt
  failure_sound (Entry.Reference x) h = tt
  failure_sound (Entry.Element x) h = tt
  failure_sound Entry.Equal h = tt
  failure_sound (Entry.Operand x) h = tt
  failure_sound (Entry.Both g) h = h
  failure_sound (Entry.OnS g) h = tt
  failure_sound (Entry.OnF g) h = h

  no_literal : Sound-operand n c null
  no_literal = (omega arith, omega arith)

  side_sound : (b : Bool) (xs : List Operand) → AllByRecursion (Sound-operand n c) xs → Given (Sound-side n c) (cond b (Some (right_side_of xs)) None)
  side_sound false xs h = tt
  side_sound true xs h = (omega arith, All-take (Sound-operand n c) (min (length xs) 8) (filled 8 null xs) (filled_sound (Sound-operand n c) 8 null xs no_literal h))

  row_sound : (es : List (Entry Name)) → Entries es → there (last_given reference_in es) ≡ true → Sound-row n s c (row_of es)
  row_sound es h r =
      let xs : List Item = given element_in es in
      let items = All-take (Sound-item n c) (min (length xs) 8) (filled 8 (Item.Operand null) xs)
      (filled_sound (Sound-item n c) 8 (Item.Operand null) xs no_literal (given_sound element_in (Sound-entry n s c) (Sound-item n c) element_sound es h)) in
      record {
        label = last_sound label_in (Sound-entry n s c) Short label_sound es h;
        reference = else_sound (λ x. In n (number_in x)) (Reference.Named 0) (last_given reference_in es) (last_sound reference_in (Sound-entry n s c) (λ x. In n (number_in x)) reference_sound es h) r;
        elements = omega arith;
        items = items;
        variables = All-weaker (Sound-item n c) (Numbered n) (item_numbered n c) (take (min (length xs) 8) (filled 8 (Item.Operand null) xs)) items;
        operands = side_sound (replaces es) (given operand_in es) (given_sound operand_in (Sound-entry n s c) (Sound-operand n c) operand_sound es h);
        success = last_sound success_in (Sound-entry n s c) (Sound-target n s) success_sound es h;
        failure = last_sound failure_in (Sound-entry n s c) (Sound-target n s) failure_sound es h;
      }

there_first : {B : Type 0} (a b : Option B) → there a ≡ true → there (or a b) ≡ true
there_first None b h = absurd (false≢true h)
there_first (Some x) b h = refl

there_second : {B : Type 0} (a b : Option B) → there b ≡ true → there (or a b) ≡ true
there_second None b h = h
there_second (Some x) b h = refl

-- a string reference is given by what stands behind, or by the first
there_behind : (o : Option (Entry Name)) (es : List (Entry Name)) → there (last_given reference_in es) ≡ true → there (last_given reference_in (in_front o es)) ≡ true
unfolding last_given
there_behind None es h = h
there_behind (Some e) es h = there_first (last_given reference_in es) (reference_in e) h

there_front : (r : Reference) (es : List (Entry Name)) → there (last_given reference_in (in_front (Some (Entry.Reference r)) es)) ≡ true
unfolding last_given
there_front r es = there_second (last_given reference_in es) (Some r) refl

module _ {X : Type 0} (meant : List ℕ → Option X) (wide : ℕ) (names labels : List (List ℕ)) where
  -- the string reference that a token is, is given
  reference_there : (from : ℕ) (line : List ℕ) (at : ℕ) (ts : List Token) → refers ts ≡ true → there (last_given reference_in (entries_from name_label names labels from line meant wide at ts)) ≡ true
  unfolding refers entries_from
  reference_there from line at [] h = absurd (false≢true h)
  reference_there from line at (t ∷ ts) h = ⊎_elim here (λ k. there_behind one rest (reference_there from line next ts k)) (or_cases (same_role t.role Role.Reference) (refers ts) h)
    where
      next : ℕ
      next = at + length (token_symbols meant wide line t)

      rest : List (Entry Name)
      rest = entries_from name_label names labels from line meant wide (at + length (token_symbols meant wide line t)) ts

      one : Option (Entry Name)
      one = entry_of name_label names labels from line t (Operand.Literal at (at + length (token_symbols meant wide line t)))

      here : same_role t.role Role.Reference ≡ true → there (last_given reference_in (in_front one rest)) ≡ true
      here e =
          subst (λ (r : Role). there (last_given reference_in (in_front (entry_of name_label names labels from line (token r t.start t.size) (Operand.Literal at next)) rest)) ≡ true)
          (sym (same_roles t.role Role.Reference e)) (there_front (reference_of names line (token Role.Reference t.start t.size)) rest)

  module _ (constants : ℕ) where
    abbrev Sound : Row → Type 0
    Sound = Sound-row (length names) (length labels) constants

    line_sound : (from at : ℕ) (l : List ℕ) → lands beginning l ≡ true → labelled_end l ≡ false
        → AllByRecursion (λ t. brings_name l t ≡ true → Among (spelling l t) names) (tokens l) → unknown_from labels l (tokens l) ≡ None
        → at + length (line_symbols meant wide l) ≤ constants → Sound (line_row name_label meant wide names labels from at l)
    line_sound from at l stands other named told room =
        row_sound (length names) (length labels) constants (entries_from name_label names labels from l meant wide at (tokens l))
        (entries_sound names labels l meant wide from constants at (tokens l) (all_settled names labels l (tokens l) (good_tokens l stands) named told) room)
        (reference_there from l at (tokens l) (referred l stands other))

    abbrev reads : List ℕ → Result ℕ TextFault
    reads = counts meant wide

    -- the names of a statement line are among those of the sheet
    line_named : (n : Brought) (l : List ℕ) (ls : List (List ℕ)) → passed n l ≡ false → ((x : List ℕ) → Among x (brought_by reads (with_line reads n l) ls).names → Among x names)
        → AllByRecursion (λ t. brings_name l t ≡ true → Among (spelling l t) names) (tokens l)
    unfolding with_line
    line_named n l ls p all =
        All-weaker (λ t. brings_name l t ≡ true → Among (spelling l t) (count_from reads l (none_yet n) (tokens l)).names) (λ t. brings_name l t ≡ true → Among (spelling l t) names)
        (λ t h b. all (spelling l t) (lines_keep reads (with_line reads n l) ls (spelling l t) (on (passed n l) p (spelling l t) (h b)))) (tokens l) (tokens_bring reads l (none_yet n) (tokens l))
      where
        on : (b : Bool) → b ≡ false → (x : List ℕ) → Among x (with_statement reads n l).names → Among x (cond b n (with_statement reads n l)).names
        on true e x h = absurd (false≢true (sym e))
        on false e x h = h

    pub rows_sound : (k j from at : ℕ) (n : Brought) (ls : List (List ℕ)) → lines_refusal reads k n ls ≡ None → lines_unknown labels j ls ≡ None
        → ((x : List ℕ) → Among x (brought_by reads n ls).names → Among x names)
        → at + length (flat_map (line_symbols meant wide) ls) ≤ constants → AllByRecursion Sound (rows_from name_label meant wide names labels from at ls)
    unfolding lines_refusal lines_unknown brought_by rows_from
    rows_sound k j from at n [] e u all room = tt
    rows_sound k j from at n (l ∷ ls) e u all room =
        let p = refused_none (first (line_faults reads n l)) k (lines_refusal reads (k + 1) (with_line reads n l) ls) e in
        let q = refused_none (unknown_from labels l (tokens l)) j (lines_unknown labels (j + 1) ls) u in
        let a = length-append (line_symbols meant wide l) (flat_map (line_symbols meant wide) ls) in
        go (has_row l) refl p.0 q.0 (omega (arith, a))
        (rows_sound (k + 1) (j + 1) ((from + length l) + 1) (at + length (line_symbols meant wide l)) (with_line reads n l) ls p.1 q.1 all (omega (arith, a)))
      where
        rest : List Row
        rest = rows_from name_label meant wide names labels ((from + length l) + 1) (at + length (line_symbols meant wide l)) ls

        go : (b : Bool) → has_row l ≡ b → first (line_faults reads n l) ≡ None → unknown_from labels l (tokens l) ≡ None
            → at + length (line_symbols meant wide l) ≤ constants → AllByRecursion Sound rest → AllByRecursion Sound (led b (line_row name_label meant wide names labels from at l) rest)
        go false r f t i h = h
        go true r f t i h =
            let w = and_parts (not (idle l)) (not (labelled_end l)) r in
            let busy = not-true (idle l) w.0 in
            let c = clean reads n l f busy in
            (line_sound from at l c.stands (not-true (labelled_end l) w.1) (line_named n l ls (or_from (idle l) n.ended busy c.before_end) all) t i, h)

-- where a sheet starts
module _ (labels : List (List ℕ)) where
  token_start_sound : (line : List ℕ) (r : Role) (k n : ℕ) → token_unknown labels line (token r k n) ≡ None → Given (Sound-next (length labels)) (token_start labels line (token r k n))
  token_start_sound line Role.Between k n h = tt
  token_start_sound line Role.Label k n h = tt
  token_start_sound line Role.Start k n h = known_next labels (token_text line (token Role.Start k n)) (told_known labels line (token Role.Start k n) h refl)
  token_start_sound line Role.Reference k n h = tt
  token_start_sound line Role.Element k n h = tt
  token_start_sound line Role.LiteralElement k n h = tt
  token_start_sound line Role.Star k n h = tt
  token_start_sound line Role.Variable k n h = tt
  token_start_sound line Role.Group k n h = tt
  token_start_sound line Role.Length k n h = tt
  token_start_sound line Role.Equal k n h = tt
  token_start_sound line Role.Operand k n h = tt
  token_start_sound line Role.LiteralOperand k n h = tt
  token_start_sound line Role.Both k n h = tt
  token_start_sound line Role.OnS k n h = tt
  token_start_sound line Role.OnF k n h = tt

  tokens_told : (line : List ℕ) (ts : List Token) → unknown_from labels line ts ≡ None → AllByRecursion (λ t. token_unknown labels line t ≡ None) ts
  unfolding unknown_from
  tokens_told line [] u = tt
  tokens_told line (t ∷ ts) u = let p = or_else_none (token_unknown labels line t) (unknown_from labels line ts) u in (p.0, tokens_told line ts p.1)

  lines_told : (j : ℕ) (ls : List (List ℕ)) → lines_unknown labels j ls ≡ None → AllByRecursion (λ l. unknown_from labels l (tokens l) ≡ None) ls
  unfolding lines_unknown
  lines_told j [] u = tt
  lines_told j (l ∷ ls) u = let p = refused_none (unknown_from labels l (tokens l)) j (lines_unknown labels (j + 1) ls) u in (p.0, lines_told (j + 1) ls p.1)

  line_start_sound : (l : List ℕ) → unknown_from labels l (tokens l) ≡ None → Given (Sound-next (length labels)) (line_start labels l)
  line_start_sound l u =
      last_sound (token_start labels l) (λ t. token_unknown labels l t ≡ None) (Sound-next (length labels))
      (λ t h. token_start_sound l t.role t.start t.size h) (tokens l) (tokens_told l (tokens l) u)

  pub start_sound : (text : List ℕ) → lines_unknown labels 1 (lines_of text) ≡ None → Sound-next (length labels) (text_start labels text)
  start_sound text u =
      go (last_given (line_start labels) (lines_of text))
      (last_sound (line_start labels) (λ l. unknown_from labels l (tokens l) ≡ None) (Sound-next (length labels)) line_start_sound (lines_of text) (lines_told 1 (lines_of text) u))
    where
      go : (o : Option Next) → Given (Sound-next (length labels)) o → Sound-next (length labels) (else Next.End o)
      go None h = tt
      go (Some x) h = h
