use Rattle.std.proofs.Common.{Some, None, sym, ◌∙◌}
use Rattle.sheets.specs.Parts.{words}
use Rattle.sheets.proofs.LabelLoops.{unknown_at, unknown_end}
use Rattle.sheets.proofs.labels.line_unknown.Goals as goal

pub returns-in-Some-token_unknown : goal.returns-in-Some-token_unknown
returns-in-Some-token_unknown c =
    sym (unknown_at (words c.args.labels) c.args.line.now c.loop-lexeme.lexeme-iterator c.loop-lexeme.invariant.0 _ c.loop-lexeme.invariant.1
    c.in-Some.lexeme c.next.new.self c.in-Some.ensures.steps (Some c.in-Some-token_unknown.fault) c.in-Some-token_unknown.ensures)

pub loop-lexeme-preserved : goal.loop-lexeme-preserved
loop-lexeme-preserved c =
    let read = c.in-Some.ensures.steps in (
      read.same ∙ c.loop-lexeme.invariant.0,
      unknown_at (words c.args.labels) c.args.line.now c.loop-lexeme.lexeme-iterator c.loop-lexeme.invariant.0 _ c.loop-lexeme.invariant.1
          c.in-Some.lexeme c.next.new.self read None c.in_default.ensures,
    )

pub returns : goal.returns
returns c =
    unknown_end (words c.args.labels) c.args.line.now c.loop-lexeme.lexeme-iterator c.loop-lexeme.invariant.0 _ c.loop-lexeme.invariant.1 c.in-None.ensures.steps.0
