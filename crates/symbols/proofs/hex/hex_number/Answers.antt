use Rattle.std.proofs.Common.{get_or, sym, ◌∙◌, arith}
use Rattle.symbols.specs.HexLaws.{more_stops, more_goes, more_ends, grows, fits_four, value_small}
use Rattle.symbols.proofs.hex.hex_number.Goals as goal

pub returns-in_err-n : goal.returns-in_err-n
returns-in_err-n c =
    c.from_residual.ensures
    ∙ sym (c.loop-digit.invariant.0 ∙ more_stops c.args.digits.now c.loop-digit.n c.loop-digit.digit-index (omega arith) (sym c.in_err-n.ensures))

pub overflow_add-n : goal.overflow_add-n
overflow_add-n c =
    let f = fits_four c.loop-digit.n c.loop-digit.digit-index (omega arith) c.loop-digit.invariant.1 in
    let v = value_small (get_or c.args.digits.now c.loop-digit.digit-index 0) c.in_ok-n.field-0 (sym c.in_ok-n.ensures) in
    omega arith

pub overflow_mul-n : goal.overflow_mul-n
overflow_mul-n c = let f = fits_four c.loop-digit.n c.loop-digit.digit-index (omega arith) c.loop-digit.invariant.1 in omega arith

pub loop-digit-preserved : goal.loop-digit-preserved
loop-digit-preserved c =
    let is = sym c.in_ok-n.ensures in (
      c.loop-digit.invariant.0 ∙ more_goes c.args.digits.now c.loop-digit.n c.loop-digit.digit-index c.in_ok-n.field-0 (omega arith) is,
      grows c.loop-digit.n c.in_ok-n.field-0 c.loop-digit.digit-index c.loop-digit.invariant.1 (value_small (get_or c.args.digits.now c.loop-digit.digit-index 0) c.in_ok-n.field-0 is),
    )

pub returns : goal.returns
returns c = sym (c.loop-digit.invariant.0 ∙ more_ends c.args.digits.now c.loop-digit.n c.loop-digit.digit-index (omega arith))
