use Rattle.std.proofs.Common.{◌+◌, Bool, cond, [], ◌∷◌, ◌++◌, map, take, ap, ◌∙◌}
use Rattle.sheets.specs.LineFaults.{label}
use Rattle.sheets.specs.Parts.{part_of}
use Rattle.sheets.proofs.LineLaws.{label_noted}
use Rattle.sheets.proofs.check.note_label.Goals as goal

pub returns : goal.returns
returns c =
    let text = c.args.line.text.now in
    let line = c.args.line.characters.now in
    let before = map (part_of text) (take c.args.statements c.args.labels.now) in
    let e = c.if-labelled_end.ensures in
    record {
      value = ap (λ (b : Bool). cond b c.args.statements (c.args.statements + 1)) e;
      labels = label_noted text line c.args.line.from c.label_size.result c.args.labels.now c.args.statements c.requires c.args.line.lies
          c.label_size.ensures.within c.label_size.ensures.value
          ∙ ap (λ (b : Bool). cond b before (before ++ (label line ∷ []))) e;
    }
