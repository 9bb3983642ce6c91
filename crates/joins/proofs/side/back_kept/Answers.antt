use Rattle.std.proofs.Common.{◌≡◌, suc, ◌-◌, length, sym, ◌∙◌, arith}
use Rattle.joins.proofs.Renewals.{back_some, not_empty}
use Rattle.joins.proofs.side.back_kept.Goals as goal

pub returns : goal.returns
returns g c =
    let success = c.args.success in
    let some : length success.items.now ≡ 0 → ⊥ = not_empty (length success.items.now) (sym c.is_empty.ensures ∙ c.if-is_empty.false) in
    record {
      value = back_some success.subject.now success.items.now success.start success.ends.now some success.placed.whole;
      within = success.placed.within (suc (length success.items.now - 1)) (omega (arith, success.placed.whole, some));
    }
