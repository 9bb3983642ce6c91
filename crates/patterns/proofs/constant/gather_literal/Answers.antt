use Rattle.std.proofs.Common.{◌-◌, ◌<◌, length, take, drop, Some, sym, refl, ap, arith}
use Rattle.std.proofs.lemmas.List.{length-take, length-drop}
use Rattle.placings.specs.Pattern.{part}
use Rattle.patterns.proofs.Areas.{part_cut}
use Rattle.patterns.proofs.Fits.{fit_long}
use Rattle.patterns.proofs.Gathers.{gathers_within}
use Rattle.patterns.proofs.constant.gather_literal.Goals as goal

pub returns-then-end-start : goal.returns-then-end-start
returns-then-end-start g c =
    let xs = c.args.constants.now in
    let start = c.min-start.result in
    let end = c.min-end.result in
    let cut = part_cut xs c.args.from c.args.to start end c.min-end.ensures c.min-start.ensures in
    let long : c.args.longest < length (part xs c.args.from c.args.to) = omega (arith, ap length cut, length-take (end - start) (drop start xs), length-drop start xs) in
    λ i. record {
      value = sym (ap Some (fit_long c.args.longest (part xs c.args.from c.args.to) long));
      kept = refl;
      adds = record { fitting = refl; more = omega arith; few = omega arith };
    }

pub returns : goal.returns
returns g c =
    let xs = c.args.constants.now in
    let start = c.min-start.result in
    let end = c.min-end.result in
    let cut = part_cut xs c.args.from c.args.to start end c.min-end.ensures c.min-start.ensures in
    λ i. gathers_within c.args.longest c.args.used i c.args.area.now c.put_constant.new.area (take (end - start) (drop start xs)) (part xs c.args.from c.args.to) c.put_constant.result
    (omega (arith, length-take (end - start) (drop start xs))) cut (c.put_constant.ensures i)
