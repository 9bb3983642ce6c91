use Rattle.std.proofs.Common.{length, sym, ◌∙◌, arith}
use Rattle.joins.proofs.Renewals.{front_some, not_empty}
use Rattle.joins.proofs.side.front_kept.Goals as goal

pub returns : goal.returns
returns g c =
    let success = c.args.success in
    record {
      value = front_some success.items.now success.start (not_empty (length success.items.now) (sym c.is_empty.ensures ∙ c.if-is_empty.false));
      within = success.placed.within 0 (omega arith);
    }
