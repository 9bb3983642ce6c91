use Rattle.std.proofs.Common.{◌≤◌, length, sym, ap, ◌∙◌, arith}
use Rattle.constants.specs.Constants.{sheet_symbols}
use Rattle.constants.proofs.Areas.{written_none}
use Rattle.constants.proofs.Loops.{line_step, lines_none, within}
use Rattle.constants.proofs.write_constants.Goals as goal

pub write_line-count-requires : goal.write_line-count-requires
write_line-count-requires g c =
    let room : length (sheet_symbols g.K.Kind.meant g.K.Kind.WIDTH c.args.text.now) ≤ length c.loop-line.area = omega arith in
    let cut = c.in-Some.ensures.steps in
    let s = line_step g.K.Kind.meant g.K.Kind.WIDTH c.loop-line.line-iterator c.in-Some.line c.next.new.self cut _ c.loop-line.count c.loop-line.area c.loop-line.invariant.1 room in
    let w = within c.in-Some.line in
    let e = ap length (cut.text ∙ c.loop-line.invariant.0) in
    record { small = omega (arith, w, e, c.requires.small); room = s.room }

pub overflow_add-count : goal.overflow_add-count
overflow_add-count g c =
    let room : length (sheet_symbols g.K.Kind.meant g.K.Kind.WIDTH c.args.text.now) ≤ length c.loop-line.area = omega arith in
    let cut = c.in-Some.ensures.steps in
    let s = line_step g.K.Kind.meant g.K.Kind.WIDTH c.loop-line.line-iterator c.in-Some.line c.next.new.self cut _ c.loop-line.count c.loop-line.area c.loop-line.invariant.1 room in
    omega (arith, s.fits, c.write_line-count.ensures.value)

pub loop-line-preserved : goal.loop-line-preserved
loop-line-preserved g c =
    let room : length (sheet_symbols g.K.Kind.meant g.K.Kind.WIDTH c.args.text.now) ≤ length c.loop-line.area = omega arith in
    let cut = c.in-Some.ensures.steps in
    let s = line_step g.K.Kind.meant g.K.Kind.WIDTH c.loop-line.line-iterator c.in-Some.line c.next.new.self cut _ c.loop-line.count c.loop-line.area c.loop-line.invariant.1 room in (
      cut.same ∙ c.loop-line.invariant.0,
      s.count c.write_line-count.result c.write_line-count.ensures.value,
      c.loop-line.invariant.2 ∙ s.left c.write_line-count.result c.write_line-count.new.area c.write_line-count.ensures.value c.write_line-count.ensures.area,
    )

pub returns : goal.returns
returns g c =
    let none = lines_none g.K.Kind.meant g.K.Kind.WIDTH c.loop-line.line-iterator c.in-None.ensures.steps.0 in
    record {
      value = omega (arith, ap length none, c.loop-line.invariant.1);
      area = sym (c.loop-line.invariant.2 ∙ written_none c.loop-line.count _ c.loop-line.area none);
    }
