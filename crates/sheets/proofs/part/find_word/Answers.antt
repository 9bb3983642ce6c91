use Rattle.std.proofs.Common.{◌≡◌, ℕ, true, false, List, map, length, Some, None, Option, sym, ◌∙◌, subst, arith}
use Rattle.sheets.specs.declared.part.Part.{Part}
use Rattle.sheets.specs.Parts.{part_of, position, First}
use Rattle.sheets.proofs.Searches.{place_is, place_end, first_place}
use Rattle.sheets.proofs.part.find_word.Goals as goal

abbrev zero_part : Part
zero_part = record { start = 0; size = 0 }

-- the place that was found is the first
module _ (text word : List ℕ) (parts : List Part) (r : Option ℕ) where
  pub told : r ≡ position word (map (part_of text) parts) → First word (map (part_of text) parts) r
  told e = subst (First word (map (part_of text) parts)) (sym e) (first_place word (map (part_of text) parts))

pub returns-then-spells : goal.returns-then-spells
returns-then-spells c =
    let v = sym (c.loop-i.invariant ∙ place_is c.args.text.now c.args.word.now c.args.parts.now c.loop-i.i zero_part (omega arith) true c.if-spells.ensures) in
    record { value = v; first = told c.args.text.now c.args.word.now c.args.parts.now (Some c.loop-i.i) v }

pub loop-i-preserved : goal.loop-i-preserved
loop-i-preserved c =
    c.loop-i.invariant ∙ place_is c.args.text.now c.args.word.now c.args.parts.now c.loop-i.i zero_part (omega arith) false c.if-spells.ensures

pub returns : goal.returns
returns c =
    let e : c.loop-i.i ≡ length c.args.parts.now = omega arith in
    let v = sym (c.loop-i.invariant ∙ place_end c.args.text.now c.args.word.now c.args.parts.now c.loop-i.i e) in
    record { value = v; first = told c.args.text.now c.args.word.now c.args.parts.now None v }
