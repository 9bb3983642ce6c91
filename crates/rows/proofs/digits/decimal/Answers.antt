use Rattle.std.proofs.Common.{◌≡◌, ◌+◌, ◌-◌, sym, ap, ◌∙◌, arith}
use Rattle.rows.proofs.Decimals.{most_small, most_more, read_on, read_digit, read_stop, read_all, decimal_read}
use Rattle.rows.proofs.digits.decimal.Goals as goal

pub loop-place-init : goal.loop-place-init
loop-place-init c =
    let e : 4 ≡ (c.args.at + 4) - c.args.at = omega arith in
    (decimal_read c.args.line.now c.args.at ∙ ap (λ i. read_on c.args.line.now i 0 c.args.at) e, omega arith)

pub overflow_mul-number : goal.overflow_mul-number
overflow_mul-number c =
    let m = most_small (c.loop-place.place - c.args.at) c.loop-place.number 0 (omega (arith, c.loop-place.auto.place, c.loop-place-test.true)) c.loop-place.invariant.1 (omega arith) in
    omega (arith, m)

pub overflow_add-number : goal.overflow_add-number
overflow_add-number c =
    let m = most_small (c.loop-place.place - c.args.at) c.loop-place.number c.in-Some.digit (omega (arith, c.loop-place.auto.place, c.loop-place-test.true)) c.loop-place.invariant.1 c.in-Some.ensures.small in
    omega (arith, m)

pub loop-place-preserved : goal.loop-place-preserved
loop-place-preserved c =
    let p = c.loop-place.auto.place in
    let t = c.loop-place-test.true in (
      c.loop-place.invariant.0
          ∙ read_digit c.args.line.now ((c.args.at + 4) - c.loop-place.place) ((c.args.at + 4) - (c.loop-place.place + 1)) c.loop-place.number c.loop-place.place c.in-Some.digit
          (omega (arith, t)) (sym c.in-Some.ensures.value),
      most_more (c.loop-place.place - c.args.at) ((c.loop-place.place + 1) - c.args.at) c.loop-place.number c.in-Some.digit (omega (arith, p)) c.loop-place.invariant.1 c.in-Some.ensures.small,
    )

pub returns-in_default : goal.returns-in_default
returns-in_default c = sym (c.loop-place.invariant.0 ∙ read_stop c.args.line.now ((c.args.at + 4) - c.loop-place.place) c.loop-place.number c.loop-place.place (sym c.in_default.ensures.value))

pub returns-after-loop-place : goal.returns-after-loop-place
returns-after-loop-place c = sym (c.loop-place.invariant.0 ∙ read_all c.args.line.now ((c.args.at + 4) - c.loop-place.place) c.loop-place.number c.loop-place.place (omega arith))
