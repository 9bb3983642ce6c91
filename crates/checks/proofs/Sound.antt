-- The tests of rows decide what holds of them; what holds for some names holds for more. Assumes nothing.
use Rattle.std.proofs.Common.{ℕ, ◌≤◌, Bool, true, leb, List, Some, None, Decides, Option, refl, arith}
use Rattle.std.proofs.ByRecursion.{All-weaker, Decides-by_and}
use Rattle.std.proofs.lemmas.Bool.{leb-true, le-leb}
use Rattle.std.proofs.lemmas.Bool.Decides.{Decides-and, Decides-like}
use Rattle.std.specs.List.{AllByRecursion, list_all}
use Rattle.tables.specs.Rows.{items_in, operands_in, number_in}
use Rattle.tables.specs.Tables.{numbered}
use Rattle.tables.specs.declared.name.Name.{Name}
use Rattle.tables.specs.declared.row.Form.{Form}
use Rattle.tables.specs.declared.row.Form.TheVariants.{Arbitrary, Balanced, Fixed}
use Rattle.tables.specs.declared.row.Item.{Item}
use Rattle.tables.specs.declared.row.Item.TheVariants.{Operand as operand, Variable as variable}
use Rattle.tables.specs.declared.row.Next.{Next}
use Rattle.tables.specs.declared.row.Next.TheVariants.{Statement, End}
use Rattle.tables.specs.declared.row.Operand.{Operand}
use Rattle.tables.specs.declared.row.Operand.TheVariants.{Literal, Contents}
use Rattle.tables.specs.declared.row.Pattern.{Pattern}
use Rattle.tables.specs.declared.row.RightSide.{RightSide}
use Rattle.tables.specs.Rows.{Row}
use Rattle.tables.specs.declared.row.Target.{Target}
use Rattle.tables.specs.declared.row.Target.TheVariants.{To, Through}
use Rattle.tables.specs.declared.sheet.Counts.{Counts}
use Rattle.changes.specs.Success.{In, Numbered}
use Rattle.tables.specs.Limits.{most_elements, most_operands, longest_part, longest_name}
use Rattle.checks.specs.Fits.{if_given, reference_fits, operand_fits, form_fits, item_fits, next_fits, target_fits, pattern_fits, side_fits, name_fits, row_fits}
use Rattle.checks.specs.Sound.{Given, Sound-operand, Sound-form, Sound-item, Sound-side, Sound-next, Sound-target, Short, Sound-row}

pub decides_leb : (a b : ℕ) → Decides (leb a b) (a ≤ b)
decides_leb a b = (leb-true a b, le-leb a b)

-- what is always so
decides_always : Decides true (Unit {0})
decides_always = (λ _. tt, λ _. refl)

module _ {A : Type 0} (test : A → Bool) (P : A → Type 0) (each : (x : A) → Decides (test x) (P x)) where
  pub decides_every : (xs : List A) → Decides (list_all test xs) (AllByRecursion P xs)
  decides_every xs = Decides-by_and test P (list_all test) each refl (λ _ _. refl) xs

  decides_given : (o : Option A) → Decides (if_given test o) (Given P o)
  decides_given None = decides_always
  decides_given (Some x) = each x

decides_numbered : (n k : ℕ) → Decides (numbered n k) (In n k)
decides_numbered n k = Decides-like (numbered n k) (λ h. record { low = h.0; high = h.1 }) (λ h. (h.low, h.high)) (Decides-and (leb 1 k) (leb k n) (decides_leb 1 k) (decides_leb k n))

decides_form : (f : Form) → Decides (form_fits f) (Sound-form f)
decides_form Arbitrary = decides_always
decides_form Balanced = decides_always
decides_form (Fixed size) = decides_leb size longest_part

pub decides_short : (name : Name) → Decides (name_fits name) (Short name)
decides_short name = decides_leb name.length longest_name

module _ (c : Counts) where
  decides_operand : (o : Operand) → Decides (operand_fits c o) (Sound-operand c.names c.constants o)
  decides_operand (Literal from to) = Decides-and (leb from to) (leb to c.constants) (decides_leb from to) (decides_leb to c.constants)
  decides_operand (Contents r) = decides_numbered c.names (number_in r)

  decides_item : (i : Item) → Decides (item_fits c i) (Sound-item c.names c.constants i)
  decides_item (operand o) = decides_operand o
  decides_item (variable v) = Decides-and (numbered c.names v.name) (form_fits v.form) (decides_numbered c.names v.name) (decides_form v.form)

  pub decides_next : (next : Next) → Decides (next_fits c next) (Sound-next c.statements next)
  decides_next (Statement k) = decides_numbered c.statements k
  decides_next End = decides_always

  decides_target : (t : Target) → Decides (target_fits c t) (Sound-target c.names c.statements t)
  decides_target (To next) = decides_next next
  decides_target (Through k) = decides_numbered c.names k

  decides_pattern : (p : Pattern) → Decides (pattern_fits c p) ((p.count ≤ most_elements) × AllByRecursion (Sound-item c.names c.constants) (items_in p))
  decides_pattern p = Decides-and (leb p.count most_elements) (list_all (item_fits c) (items_in p)) (decides_leb p.count most_elements) (decides_every (item_fits c) (Sound-item c.names c.constants) decides_item (items_in p))

  decides_side : (s : RightSide) → Decides (side_fits c s) (Sound-side c.names c.constants s)
  decides_side s = Decides-and (leb s.count most_operands) (list_all (operand_fits c) (operands_in s)) (decides_leb s.count most_operands) (decides_every (operand_fits c) (Sound-operand c.names c.constants) decides_operand (operands_in s))

-- a sound variable has one of the names
item_numbered : (n c : ℕ) (i : Item) → Sound-item n c i → Numbered n i
item_numbered n c (operand o) h = tt
item_numbered n c (variable v) h = h.0

pub decides_row : (c : Counts) (row : Row) → Decides (row_fits c row) (Sound-row c.names c.statements c.constants row)
decides_row c row =
    Decides-like (row_fits c row)
    (λ h. record {
      label = h.0;
      reference = h.1.0;
      elements = h.1.1.0.0;
      items = h.1.1.0.1;
      variables = All-weaker (Sound-item c.names c.constants) (Numbered c.names) (item_numbered c.names c.constants) (items_in row.pattern) h.1.1.0.1;
      operands = h.1.1.1.0;
      success = h.1.1.1.1.0;
      failure = h.1.1.1.1.1;
    })
    (λ h. (h.label, (h.reference, ((h.elements, h.items), (h.operands, (h.success, h.failure))))))
    (Decides-and (if_given name_fits row.label) _ (decides_given name_fits Short decides_short row.label)
    (Decides-and (reference_fits c row.reference) _ (decides_numbered c.names (number_in row.reference))
    (Decides-and (pattern_fits c row.pattern) _ (decides_pattern c row.pattern)
    (Decides-and (if_given (side_fits c) row.right_side) _ (decides_given (side_fits c) (Sound-side c.names c.constants) (decides_side c) row.right_side)
    (Decides-and (if_given (target_fits c) row.on_success) (if_given (target_fits c) row.on_failure) (decides_given (target_fits c) (Sound-target c.names c.statements) (decides_target c) row.on_success) (decides_given (target_fits c) (Sound-target c.names c.statements) (decides_target c) row.on_failure))))))

-- n names are among m
module _ (n m : ℕ) (more : n ≤ m) where
  in_more : (k : ℕ) → In n k → In m k
  in_more k h = record { low = h.low; high = omega arith }

  given_more : {A : Type 0} (P Q : A → Type 0) → ((x : A) → P x → Q x) → (o : Option A) → Given P o → Given Q o
  given_more P Q f None h = tt
  given_more P Q f (Some x) h = f x h

  operand_more : (c : ℕ) (o : Operand) → Sound-operand n c o → Sound-operand m c o
  operand_more c (Literal from to) h = h
  operand_more c (Contents r) h = in_more (number_in r) h

  item_more : (c : ℕ) (i : Item) → Sound-item n c i → Sound-item m c i
  item_more c (operand o) h = operand_more c o h
  item_more c (variable v) h = (in_more v.name h.0, h.1)

  side_more : (c : ℕ) (s : RightSide) → Sound-side n c s → Sound-side m c s
  side_more c s h = (h.0, All-weaker (Sound-operand n c) (Sound-operand m c) (operand_more c) (operands_in s) h.1)

  target_more : (s : ℕ) (t : Target) → Sound-target n s t → Sound-target m s t
  target_more s (To next) h = h
  target_more s (Through k) h = in_more k h

  numbered_more : (i : Item) → Numbered n i → Numbered m i
  numbered_more (operand o) h = tt
  numbered_more (variable v) h = in_more v.name h

  pub sound_row_more : (s c : ℕ) (row : Row) → Sound-row n s c row → Sound-row m s c row
  sound_row_more s c row h =
      record {
        label = h.label;
        reference = in_more (number_in row.reference) h.reference;
        elements = h.elements;
        items = All-weaker (Sound-item n c) (Sound-item m c) (item_more c) (items_in row.pattern) h.items;
        variables = All-weaker (Numbered n) (Numbered m) numbered_more (items_in row.pattern) h.variables;
        operands = given_more (Sound-side n c) (Sound-side m c) (side_more c) row.right_side h.operands;
        success = given_more (Sound-target n s) (Sound-target m s) (target_more s) row.on_success h.success;
        failure = given_more (Sound-target n s) (Sound-target m s) (target_more s) row.on_failure h.failure;
      }
