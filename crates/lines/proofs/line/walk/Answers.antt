use Rattle.std.proofs.Common.{◌≡◌, ◌<◌, length, get_or, Some, None, sym, refl, ◌∙◌, arith}
use Rattle.lines.specs.Lines.{longest}
use Rattle.lines.specs.Marks.{mark_of}
use Rattle.lines.specs.Next.{next}
use Rattle.lines.proofs.Walk.{goes_on, stops, ends, statement_lands, lands_more, lands_stop, lands_end}
use Rattle.lines.proofs.line.walk.Goals as goal

pub loop-i-init : goal.loop-i-init
loop-i-init c = (omega arith, refl)

pub loop-i-preserved : goal.loop-i-preserved
loop-i-preserved c =
    let h : c.loop-i.i < length c.args.line.now = omega arith in
    let e₀ = c.in-Some.ensures in
    let e : next c.loop-i.reading (mark_of (get_or c.args.line.now c.loop-i.i 0)) ≡ Some c.in-Some.then = cc in (
      goes_on c.loop-i.reading c.args.line.now c.loop-i.i c.loop-i.invariant.0 c.in-Some.then h e,
      c.loop-i.invariant.1 ∙ lands_more c.loop-i.reading c.args.line.now c.loop-i.i h c.in-Some.then e,
    )

pub returns-in_default : goal.returns-in_default
returns-in_default c =
    let h : c.loop-i.i < length c.args.line.now = omega arith in
    let e₀ = c.in_default.ensures in
    let e : next c.loop-i.reading (mark_of (get_or c.args.line.now c.loop-i.i 0)) ≡ None = cc in
    let v : c.loop-i.i ≡ longest c.args.line.now = stops c.loop-i.reading c.args.line.now c.loop-i.i c.loop-i.invariant.0 h e in
    let w = lands_stop c.loop-i.reading c.args.line.now c.loop-i.i h e in
    record {
      reach = v;
      whole = sym (statement_lands c.args.line.now ∙ c.loop-i.invariant.1 ∙ w);
    }

pub returns : goal.returns
returns c =
    let e : c.loop-i.i ≡ length c.args.line.now = omega arith in
    let v : length c.args.line.now ≡ longest c.args.line.now = ends c.loop-i.reading c.args.line.now c.loop-i.i c.loop-i.invariant.0 e in
    let w = lands_end c.loop-i.reading c.args.line.now c.loop-i.i e in
    record {
      reach = v;
      whole = c.stands.ensures ∙ sym (statement_lands c.args.line.now ∙ c.loop-i.invariant.1 ∙ w);
    }
