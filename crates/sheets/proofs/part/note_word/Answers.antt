use Rattle.std.proofs.Common.{sym, ◌∙◌, arith, length-set}
use Rattle.sheets.specs.Parts.{words}
use Rattle.sheets.proofs.Searches.{noted, kept}
use Rattle.sheets.proofs.part.note_word.Goals as goal

pub returns-then-is_some : goal.returns-then-is_some
returns-then-is_some c =
    record {
      words = kept c.args.text.now c.args.parts.now c.args.count c.args.part c.requires c.part_of.result.now (words c.first-known.result)
          c.part_of.ensures c.first-known.ensures.words c.find.result c.find.ensures.value (sym c.is_some.ensures ∙ c.if-is_some.true);
      room = let h = c.requires in omega arith;
    }

pub returns : goal.returns
returns c =
    record {
      words = noted c.args.text.now c.args.parts.now c.args.count c.args.part c.requires c.part_of.result.now (words c.first-known.result)
          c.part_of.ensures c.first-known.ensures.words c.find.result c.find.ensures.value (sym c.is_some.ensures ∙ c.if-is_some.false);
      room = let h = c.requires in simp length-set (omega arith);
    }
