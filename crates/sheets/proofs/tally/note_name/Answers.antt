use Rattle.std.proofs.Common.{◌+◌, Bool, cond, List, ℕ, map, take, ap, subst, sym, ◌∙◌}
use Rattle.sheets.specs.declared.part.Part.{Part}
use Rattle.sheets.specs.Items.{word, spelling}
use Rattle.sheets.specs.Parts.{part_of, with_word}
use Rattle.sheets.specs.Tallies.{Lies}
use Rattle.sheets.proofs.TokenLaws.{part_lies, word_within}
use Rattle.sheets.proofs.tally.note_name.Goals as goal

pub returns : goal.returns
returns c =
    let text = c.args.line.text.now in
    let line = c.args.lexeme.line.now in
    let before = map (part_of text) (take c.args.count c.args.names.now) in
    let w = word line c.args.lexeme.token in
    let lies : Lies text c.args.line.from line = subst (Lies text c.args.line.from) (sym c.requires.same) c.args.line.lies in
    record {
      names = c.note_word.ensures.words
          ∙ ap (λ (p : Part). with_word (part_of text (record { start = c.args.line.from + p.start; size = p.size })) before) c.word-word.ensures
          ∙ ap (λ (x : List ℕ). with_word x before)
          (part_lies text line c.args.line.from w lies (word_within line c.args.lexeme.token (record { some = c.args.lexeme.some; within = c.args.lexeme.within })))
          ∙ ap (λ (b : Bool). cond b (with_word (spelling line c.args.lexeme.token) before) before) c.if-not-brings_name.ensures;
      room = c.note_word.ensures.room;
    }
