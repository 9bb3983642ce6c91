-- A row that is filled entry by entry ends as the row that the entries tell, if no operand comes before `=`. Assumes nothing.
use Rattle.std.proofs.Common.{◌≡◌, ℕ, Bool, true, false, cond, not, ◌&&◌, ◌||◌, List, [], ◌∷◌, ◌++◌, Some, None, Option, sym, refl, ap, ◌∙◌}
use Rattle.std.proofs.lemmas.Bool.{false≢true}
use Rattle.std.proofs.lemmas.List.{append_assoc, append-nil}
use Rattle.std.specs.Option.{option_map}
use Rattle.tables.specs.declared.row.Item.{Item}
use Rattle.tables.specs.declared.row.Operand.{Operand}
use Rattle.tables.specs.declared.row.Pattern.{Pattern}
use Rattle.tables.specs.declared.row.Reference.{Reference}
use Rattle.tables.specs.declared.row.RightSide.{RightSide}
use Rattle.tables.specs.declared.row.RowOf.{RowOf}
use Rattle.tables.specs.declared.row.Target.{Target}
use Rattle.rows.specs.declared.entry.Entry.{Entry}
use Rattle.rows.specs.Filling.{with_item, with_operand, entered}
use Rattle.rows.specs.Givens.{in_front, or, else, given, last_given}
use Rattle.rows.specs.Rows.{label_in, reference_in, element_in, is_equal, operand_in, success_in, failure_in, replaces, null, pattern_of, right_side_of, row_of}
use Rattle.rows.proofs.Fills.{push_more}

pub item_more : (xs : List Item) (x : Item) → with_item (pattern_of xs) x ≡ pattern_of (xs ++ (x ∷ []))
item_more xs x = push_more 8 (Item.Operand null) (λ (ys : List Item) (k : ℕ). record { items = ys; count = k }) xs x

pub operand_more : (xs : List Operand) (x : Operand) → with_operand x (right_side_of xs) ≡ right_side_of (xs ++ (x ∷ []))
operand_more xs x = push_more 8 null (λ (ys : List Operand) (k : ℕ). record { operands = ys; count = k }) xs x

-- one thing more, if there is one
abbrev pub behind : {A : Type 0} → List A → Option A → List A
behind xs None = xs
behind xs (Some x) = xs ++ (x ∷ [])

pub or_assoc : {A : Type 0} (a b c : Option A) → or a (or b c) ≡ or (or a b) c
or_assoc None b c = refl
or_assoc (Some x) b c = refl

pub else_or : {A : Type 0} (d : A) (a b : Option A) → else (else d b) a ≡ else d (or a b)
else_or d None b = refl
else_or d (Some x) b = refl

pub or_none : {A : Type 0} (o : Option A) → or o None ≡ o
or_none None = refl
or_none (Some x) = refl

pub behind_front : {A : Type 0} (xs : List A) (o : Option A) (ys : List A) → behind xs o ++ ys ≡ xs ++ in_front o ys
behind_front xs None ys = refl
behind_front xs (Some x) ys = append_assoc xs (x ∷ []) ys

abbrev is_operand : Option Operand → Bool
is_operand None = false
is_operand (Some x) = true

begun : (o : Option (List Operand)) → Some (else (right_side_of []) (option_map right_side_of o)) ≡ option_map right_side_of (Some (else [] o))
begun None = refl
begun (Some ys) = refl

grown : (x : Operand) (o : Option (List Operand)) → option_map (with_operand x) (option_map right_side_of o) ≡ option_map right_side_of (option_map (λ ys. ys ++ (x ∷ [])) o)
grown x None = refl
grown x (Some ys) = ap (λ (p : RightSide). Some p) (operand_more ys x)

side_told : (b : Bool) (ys : List Operand) → option_map right_side_of (cond b (Some ys) None) ≡ cond b (Some (right_side_of ys)) None
side_told true ys = refl
side_told false ys = refl

module _ {L : Type 0} where
  -- a row once entries are in it
  unfoldable pub filled_with : RowOf L → List (Entry L) → RowOf L
  filled_with r [] = r
  filled_with r (e ∷ es) = filled_with (entered r e) es

  -- no operand comes before `=`
  unfoldable pub ordered : List (Entry L) → Bool
  ordered [] = true
  ordered (e ∷ es) = is_equal e || (not (is_operand (operand_in e)) && ordered es)

  -- a row by what it has so far
  abbrev row : Option L → Reference → List Item → Option (List Operand) → Option Target → Option Target → RowOf L
  row l r xs o s f =
      record { label = l; reference = r; pattern = pattern_of xs; right_side = option_map right_side_of o; on_success = s; on_failure = f }

  -- the operands with an entry, and with entries
  abbrev sided : Option (List Operand) → Entry L → Option (List Operand)
  sided o (Entry.Label x) = o
  sided o (Entry.Reference x) = o
  sided o (Entry.Element x) = o
  sided o Entry.Equal = Some (else [] o)
  sided o (Entry.Operand x) = option_map (λ ys. ys ++ (x ∷ [])) o
  sided o (Entry.Both g) = o
  sided o (Entry.OnS g) = o
  sided o (Entry.OnF g) = o

  abbrev all_sided : Option (List Operand) → List (Entry L) → Option (List Operand)
  all_sided None es = cond (replaces es) (Some (given operand_in es)) None
  all_sided (Some ys) es = Some (ys ++ given operand_in es)

  entered_is : (l : Option L) (r : Reference) (xs : List Item) (o : Option (List Operand)) (s f : Option Target) (e : Entry L)
      → entered (row l r xs o s f) e
      ≡ row (or (label_in e) l) (else r (reference_in e)) (behind xs (element_in e)) (sided o e) (or (success_in e) s) (or (failure_in e) f)
  entered_is l r xs o s f (Entry.Label x) = refl
  entered_is l r xs o s f (Entry.Reference x) = refl
  entered_is l r xs o s f (Entry.Element x) =
      ap (λ (p : Pattern). record { label = l; reference = r; pattern = p; right_side = option_map right_side_of o; on_success = s; on_failure = f }) (item_more xs x)
  entered_is l r xs o s f Entry.Equal =
      ap (λ (p : Option RightSide). record { label = l; reference = r; pattern = pattern_of xs; right_side = p; on_success = s; on_failure = f }) (begun o)
  entered_is l r xs o s f (Entry.Operand x) =
      ap (λ (p : Option RightSide). record { label = l; reference = r; pattern = pattern_of xs; right_side = p; on_success = s; on_failure = f }) (grown x o)
  entered_is l r xs o s f (Entry.Both g) = refl
  entered_is l r xs o s f (Entry.OnS g) = refl
  entered_is l r xs o s f (Entry.OnF g) = refl

  -- entries in order: what is behind the first, and the operands with them all
  abbrev After : Option (List Operand) → List (Entry L) → Type 0
  After None es = ordered es ≡ true
  After (Some ys) es = Unit {0}

  after : (o : Option (List Operand)) (e : Entry L) (es : List (Entry L)) → After o (e ∷ es) → After (sided o e) es
  unfolding ordered
  after None (Entry.Label x) es h = h
  after None (Entry.Reference x) es h = h
  after None (Entry.Element x) es h = h
  after None Entry.Equal es h = tt
  after None (Entry.Operand x) es h = absurd (false≢true h)
  after None (Entry.Both g) es h = h
  after None (Entry.OnS g) es h = h
  after None (Entry.OnF g) es h = h
  after (Some ys) (Entry.Label x) es h = tt
  after (Some ys) (Entry.Reference x) es h = tt
  after (Some ys) (Entry.Element x) es h = tt
  after (Some ys) Entry.Equal es h = tt
  after (Some ys) (Entry.Operand x) es h = tt
  after (Some ys) (Entry.Both g) es h = tt
  after (Some ys) (Entry.OnS g) es h = tt
  after (Some ys) (Entry.OnF g) es h = tt

  side_on : (o : Option (List Operand)) (e : Entry L) (es : List (Entry L)) → After o (e ∷ es) → all_sided (sided o e) es ≡ all_sided o (e ∷ es)
  unfolding ordered given replaces
  side_on None (Entry.Label x) es h = refl
  side_on None (Entry.Reference x) es h = refl
  side_on None (Entry.Element x) es h = refl
  side_on None Entry.Equal es h = refl
  side_on None (Entry.Operand x) es h = absurd (false≢true h)
  side_on None (Entry.Both g) es h = refl
  side_on None (Entry.OnS g) es h = refl
  side_on None (Entry.OnF g) es h = refl
  side_on (Some ys) (Entry.Label x) es h = refl
  side_on (Some ys) (Entry.Reference x) es h = refl
  side_on (Some ys) (Entry.Element x) es h = refl
  side_on (Some ys) Entry.Equal es h = refl
  side_on (Some ys) (Entry.Operand x) es h = ap (λ (zs : List Operand). Some zs) (append_assoc ys (x ∷ []) (given operand_in es))
  side_on (Some ys) (Entry.Both g) es h = refl
  side_on (Some ys) (Entry.OnS g) es h = refl
  side_on (Some ys) (Entry.OnF g) es h = refl

  side_none : (es : List (Entry L)) → es ≡ [] → (o : Option (List Operand)) → o ≡ all_sided o es
  unfolding given replaces
  side_none es e None = ap (λ (xs : List (Entry L)). all_sided None xs) (sym e)
  side_none es e (Some ys) = let p = append-nil ys in ap (λ (zs : List Operand). Some zs) (sym p) ∙ ap (λ (xs : List (Entry L)). all_sided (Some ys) xs) (sym e)

  told_from : (es : List (Entry L)) (l : Option L) (r : Reference) (xs : List Item) (o : Option (List Operand)) (s f : Option Target) → After o es
      → filled_with (row l r xs o s f) es
      ≡ row (or (last_given label_in es) l) (else r (last_given reference_in es)) (xs ++ given element_in es) (all_sided o es) (or (last_given success_in es) s) (or (last_given failure_in es) f)
  unfolding filled_with given last_given
  told_from [] l r xs o s f h = let p = append-nil xs in let q = side_none [] refl o in cc
  told_from (e ∷ es) l r xs o s f h =
      let step = ap (λ (d : RowOf L). filled_with d es) (entered_is l r xs o s f e) in
      let rest = told_from es (or (label_in e) l) (else r (reference_in e)) (behind xs (element_in e)) (sided o e) (or (success_in e) s) (or (failure_in e) f) (after o e es h) in
      let a = or_assoc (last_given label_in es) (label_in e) l in
      let b = else_or r (last_given reference_in es) (reference_in e) in
      let c = behind_front xs (element_in e) (given element_in es) in
      let d = side_on o e es h in
      let g = or_assoc (last_given success_in es) (success_in e) s in
      let i = or_assoc (last_given failure_in es) (failure_in e) f in
      step ∙ rest ∙ cc

  -- the row that entries tell is where the filling of a blank one ends
  pub row_filled : (es : List (Entry L)) → ordered es ≡ true → filled_with (row_of []) es ≡ row_of es
  unfolding given last_given replaces
  row_filled es h =
      let a = or_none (last_given label_in es) in
      let b = or_none (last_given success_in es) in
      let c = or_none (last_given failure_in es) in
      let d = side_told (replaces es) (given operand_in es) in
      told_from es None (Reference.Named 0) [] None None None h ∙ cc

  pub row_blank : row None (Reference.Named 0) [] None None None ≡ row_of []
  unfolding given last_given replaces
  row_blank = refl
