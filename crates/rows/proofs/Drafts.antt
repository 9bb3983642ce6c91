-- A row as a draft that keeps each operand, and beside them whether `=` came. Filled entry by entry it ends as the row that the entries tell, in whatever order they come. Assumes nothing.
use Rattle.std.proofs.Common.{◌≡◌, Bool, true, false, cond, ◌||◌, List, [], ◌∷◌, ◌++◌, Some, None, Option, sym, refl, ap, ◌∙◌}
use Rattle.std.proofs.lemmas.List.{append-nil}
use Rattle.tables.specs.declared.row.Item.{Item}
use Rattle.tables.specs.declared.row.Operand.{Operand}
use Rattle.tables.specs.declared.row.Pattern.{Pattern}
use Rattle.tables.specs.declared.row.Reference.{Reference}
use Rattle.tables.specs.declared.row.RightSide.{RightSide}
use Rattle.tables.specs.declared.row.RowOf.{RowOf}
use Rattle.tables.specs.declared.row.Target.{Target}
use Rattle.rows.specs.declared.entry.Entry.{Entry}
use Rattle.rows.specs.Filling.{with_item, with_operand}
use Rattle.rows.specs.Givens.{or, else, given, last_given}
use Rattle.rows.specs.Rows.{label_in, reference_in, element_in, is_equal, operand_in, success_in, failure_in, replaces, pattern_of, right_side_of, row_of}
use Rattle.rows.proofs.Filling.{filled_with, ordered, row_filled, item_more, operand_more, behind, behind_front, or_assoc, else_or, or_none}

pub record Draft (L : Type 0) : Type 0 where
  pub label : Option L
  pub reference : Reference
  pub pattern : Pattern
  pub replaces : Bool
  pub right_side : RightSide
  pub on_success : Option Target
  pub on_failure : Option Target

some_or : (q b r : Bool) → (cond q true b || r) ≡ (b || (q || r))
some_or true true r = refl
some_or true false r = refl
some_or false b r = refl

module _ {L : Type 0} where
  abbrev filled_in : Option L → Reference → Pattern → Bool → RightSide → Option Target → Option Target → Draft L
  filled_in label reference pattern replaces right s f =
      record { label = label; reference = reference; pattern = pattern; replaces = replaces; right_side = right; on_success = s; on_failure = f }

  -- nothing is filled in yet
  abbrev pub no_draft : Draft L
  no_draft = filled_in None (Reference.Named 0) (pattern_of []) false (right_side_of []) None None

  -- a draft once an entry is in it
  abbrev pub entered : Draft L → Entry L → Draft L
  entered d (Entry.Label x) = filled_in (Some x) d.reference d.pattern d.replaces d.right_side d.on_success d.on_failure
  entered d (Entry.Reference x) = filled_in d.label x d.pattern d.replaces d.right_side d.on_success d.on_failure
  entered d (Entry.Element x) = filled_in d.label d.reference (with_item d.pattern x) d.replaces d.right_side d.on_success d.on_failure
  entered d Entry.Equal = filled_in d.label d.reference d.pattern true d.right_side d.on_success d.on_failure
  entered d (Entry.Operand x) = filled_in d.label d.reference d.pattern d.replaces (with_operand x d.right_side) d.on_success d.on_failure
  entered d (Entry.Both g) = filled_in d.label d.reference d.pattern d.replaces d.right_side (Some g) (Some g)
  entered d (Entry.OnS g) = filled_in d.label d.reference d.pattern d.replaces d.right_side (Some g) d.on_failure
  entered d (Entry.OnF g) = filled_in d.label d.reference d.pattern d.replaces d.right_side d.on_success (Some g)

  -- the row of a draft: without `=` it has no right side
  abbrev pub finished : Draft L → RowOf L
  finished d =
      record { label = d.label; reference = d.reference; pattern = d.pattern; right_side = cond d.replaces (Some d.right_side) None; on_success = d.on_success; on_failure = d.on_failure }

  -- a draft once entries are in it
  unfoldable pub drafted : Draft L → List (Entry L) → Draft L
  drafted d [] = d
  drafted d (e ∷ es) = drafted (entered d e) es

  -- a draft by what it has so far
  abbrev draft : Option L → Reference → List Item → Bool → List Operand → Option Target → Option Target → Draft L
  draft l r xs b ys s f = filled_in l r (pattern_of xs) b (right_side_of ys) s f

  abbrev row : Option L → Reference → List Item → Bool → List Operand → Option Target → Option Target → RowOf L
  row l r xs b ys s f = finished (draft l r xs b ys s f)

  entered_is : (l : Option L) (r : Reference) (xs : List Item) (b : Bool) (ys : List Operand) (s f : Option Target) (e : Entry L)
      → entered (draft l r xs b ys s f) e
      ≡ draft (or (label_in e) l) (else r (reference_in e)) (behind xs (element_in e)) (cond (is_equal e) true b) (behind ys (operand_in e)) (or (success_in e) s) (or (failure_in e) f)
  entered_is l r xs b ys s f (Entry.Label x) = refl
  entered_is l r xs b ys s f (Entry.Reference x) = refl
  entered_is l r xs b ys s f (Entry.Element x) = ap (λ (p : Pattern). filled_in l r p b (right_side_of ys) s f) (item_more xs x)
  entered_is l r xs b ys s f Entry.Equal = refl
  entered_is l r xs b ys s f (Entry.Operand x) = ap (λ (p : RightSide). filled_in l r (pattern_of xs) b p s f) (operand_more ys x)
  entered_is l r xs b ys s f (Entry.Both g) = refl
  entered_is l r xs b ys s f (Entry.OnS g) = refl
  entered_is l r xs b ys s f (Entry.OnF g) = refl

  pub told_from : (es : List (Entry L)) (l : Option L) (r : Reference) (xs : List Item) (b : Bool) (ys : List Operand) (s f : Option Target)
      → finished (drafted (draft l r xs b ys s f) es)
      ≡ row (or (last_given label_in es) l) (else r (last_given reference_in es)) (xs ++ given element_in es) (b || replaces es) (ys ++ given operand_in es) (or (last_given success_in es) s) (or (last_given failure_in es) f)
  unfolding drafted given last_given replaces
  told_from [] l r xs b ys s f = start b
    where
      start : (c : Bool) → row l r xs c ys s f ≡ row l r (xs ++ []) (c || false) (ys ++ []) s f
      start c =
          let p = append-nil xs in
          let q = append-nil ys in
          let z : (c || false) ≡ c = elim c as (λ v. (v || false) ≡ v) [ true ↦ refl | false ↦ refl ] in
          cc
  told_from (e ∷ es) l r xs b ys s f =
      let step = ap (λ (d : Draft L). finished (drafted d es)) (entered_is l r xs b ys s f e) in
      let rest = told_from es (or (label_in e) l) (else r (reference_in e)) (behind xs (element_in e)) (cond (is_equal e) true b) (behind ys (operand_in e)) (or (success_in e) s) (or (failure_in e) f) in
      let a = or_assoc (last_given label_in es) (label_in e) l in
      let b₁ = else_or r (last_given reference_in es) (reference_in e) in
      let c = behind_front xs (element_in e) (given element_in es) in
      let d = some_or (is_equal e) b (replaces es) in
      let g = behind_front ys (operand_in e) (given operand_in es) in
      let h = or_assoc (last_given success_in es) (success_in e) s in
      let i = or_assoc (last_given failure_in es) (failure_in e) f in
      step ∙ rest ∙ cc

  -- the row that entries tell is where the draft ends
  pub row_told : (es : List (Entry L)) → finished (drafted no_draft es) ≡ row_of es
  row_told es =
      let a = or_none (last_given label_in es) in
      let b = or_none (last_given success_in es) in
      let c = or_none (last_given failure_in es) in
      told_from es None (Reference.Named 0) [] false [] None None ∙ cc

  -- and so is the filling of a blank row, where no operand comes before `=`
  pub filled_drafted : (es : List (Entry L)) → ordered es ≡ true → filled_with (row_of []) es ≡ finished (drafted no_draft es)
  filled_drafted es h = row_filled es h ∙ sym (row_told es)
