use Rattle.std.proofs.Common.{◌≤◌, length, sym, ap, ◌∙◌, arith}
use Rattle.constants.specs.Constants.{line_symbols}
use Rattle.constants.proofs.Areas.{written_none}
use Rattle.constants.proofs.Loops.{token_step, tokens_none}
use Rattle.constants.proofs.write_line.Goals as goal

pub write_token-count-requires : goal.write_token-count-requires
write_token-count-requires g c =
    let room : length (line_symbols g.K.Kind.meant g.K.Kind.WIDTH c.args.line.now) ≤ length c.loop-lexeme.area = omega arith in
    let read = c.in-Some.ensures.steps in
    let same = c.loop-lexeme.invariant.0 in
    let s = token_step g.K.Kind.meant g.K.Kind.WIDTH c.args.line.now c.loop-lexeme.lexeme-iterator same c.in-Some.lexeme c.next.new.self read _ c.loop-lexeme.count c.loop-lexeme.area c.loop-lexeme.invariant.1 room in
    let e = ap length (read.line ∙ same) in
    record { small = omega (arith, e, c.requires.small); room = s.room }

pub overflow_add-count : goal.overflow_add-count
overflow_add-count g c =
    let room : length (line_symbols g.K.Kind.meant g.K.Kind.WIDTH c.args.line.now) ≤ length c.loop-lexeme.area = omega arith in
    let read = c.in-Some.ensures.steps in
    let same = c.loop-lexeme.invariant.0 in
    let s = token_step g.K.Kind.meant g.K.Kind.WIDTH c.args.line.now c.loop-lexeme.lexeme-iterator same c.in-Some.lexeme c.next.new.self read _ c.loop-lexeme.count c.loop-lexeme.area c.loop-lexeme.invariant.1 room in
    omega (arith, s.fits, c.write_token-count.ensures.value)

pub loop-lexeme-preserved : goal.loop-lexeme-preserved
loop-lexeme-preserved g c =
    let room : length (line_symbols g.K.Kind.meant g.K.Kind.WIDTH c.args.line.now) ≤ length c.loop-lexeme.area = omega arith in
    let read = c.in-Some.ensures.steps in
    let same = c.loop-lexeme.invariant.0 in
    let s = token_step g.K.Kind.meant g.K.Kind.WIDTH c.args.line.now c.loop-lexeme.lexeme-iterator same c.in-Some.lexeme c.next.new.self read _ c.loop-lexeme.count c.loop-lexeme.area c.loop-lexeme.invariant.1 room in (
      read.same ∙ same,
      s.count c.write_token-count.result c.write_token-count.ensures.value,
      c.loop-lexeme.invariant.2 ∙ s.left c.write_token-count.result c.write_token-count.new.area c.write_token-count.ensures.value c.write_token-count.ensures.area,
    )

pub returns : goal.returns
returns g c =
    let none = tokens_none g.K.Kind.meant g.K.Kind.WIDTH c.args.line.now c.loop-lexeme.lexeme-iterator c.in-None.ensures.steps.0 in
    record {
      value = omega (arith, ap length none, c.loop-lexeme.invariant.1);
      area = sym (c.loop-lexeme.invariant.2 ∙ written_none c.loop-lexeme.count _ c.loop-lexeme.area none);
    }
