use Rattle.std.proofs.Common.{◌∙◌}
use Rattle.rows.specs.Namings.{labels_of}
use Rattle.load.proofs.StartLoops.{token_on, tokens_done}
use Rattle.load.proofs.start.after_line.Goals as goal

pub loop-lexeme-preserved : goal.loop-lexeme-preserved
loop-lexeme-preserved c =
    let read = c.in-Some.ensures.steps in (
      read.same ∙ c.loop-lexeme.invariant.0,
      token_on (labels_of c.args.naming.now) c.args.line.now c.loop-lexeme.lexeme-iterator c.loop-lexeme.invariant.0 _ c.loop-lexeme.start c.loop-lexeme.invariant.1
          c.in-Some.lexeme c.next.new.self read c.after_token-start.result c.after_token-start.ensures,
    )

pub returns : goal.returns
returns c =
    tokens_done (labels_of c.args.naming.now) c.args.line.now c.loop-lexeme.lexeme-iterator c.loop-lexeme.invariant.0 _ c.loop-lexeme.start c.loop-lexeme.invariant.1 c.in-None.ensures.steps.0
