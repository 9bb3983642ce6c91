use Rattle.std.proofs.Common.{suc, ◌+◌, ◌<◌, length, get_or, drop, sym, refl, ap, ◌∙◌, add-one, arith}
use Rattle.std.specs.Option.{option_copied, option_or}
use Rattle.changes.specs.Sources.{last_part}
use Rattle.changes.specs.Success.{places}
use Rattle.changes.specs.Told.{told}
use Rattle.changes.proofs.Sources.{last_more, last_all, found_more, or_none}
use Rattle.changes.proofs.success.Success.last_part.Goals as goal

pub loop-i-init : goal.loop-i-init
loop-i-init g c = (refl, or_none _)

pub slice_bounds-part-end : goal.slice_bounds-part-end
slice_bounds-part-end g c =
    let placed = c.args.self.now.placed in
    omega (arith, placed.within (suc c.loop-i.i) (omega (arith, placed.whole, c.loop-i-test.true)))

pub loop-i-preserved : goal.loop-i-preserved
loop-i-preserved g c =
    let i = c.loop-i.i in
    let success = c.args.self.now in
    let lt : i < length success.ends.now = omega (arith, success.placed.whole, c.loop-i-test.true) in
    let found = found_more (λ s. s.now) _ _ _ _ _ _ c.or-found.ensures c.then_some.ensures c.is_variable_of.ensures in
    let more = last_more success.subject.now c.args.name c.loop-i.from i success.items.now success.ends.now _ (option_copied c.loop-i.found) c.loop-i-test.true lt in (
      sym (ap (λ n. get_or (places (told success)) n 0) (add-one i)),
      ap (option_or (last_part success.subject.now c.args.name (get_or success.ends.now i 0) (drop (i + 1) success.items.now) (drop (i + 1) success.ends.now))) found ∙ sym more ∙ c.loop-i.invariant.1,
    )

pub returns : goal.returns
returns g c =
    let success = c.args.self.now in
    sym (last_all success.subject.now c.args.name c.loop-i.from c.loop-i.i success.items.now success.ends.now (option_copied c.loop-i.found) c.loop-i-test.false) ∙ c.loop-i.invariant.1
