use Rattle.std.proofs.Common.{length, sym, ◌∙◌}
use Rattle.std.proofs.lemmas.Result.{err_from_is_err_and}
use Rattle.stores.proofs.Calls.{fetch_refused, fetch_copies}
use Rattle.slots.proofs.SlotStoreStore.fetch.Goals as goal

pub returns-in_err-part : goal.returns-in_err-part
returns-in_err-part g c =
    let p = err_from_is_err_and c.from_residual.result c.from_residual.ensures.1 in
    let refused = fetch_refused _ c.args.number (length c.args.area.now) _ c.in_err-part.ensures in
    record { answer = rw (p.1, p.2, refused); area = rw refused }

pub returns : goal.returns
returns g c =
    let lies = c.in_ok-part.ensures.lies in
    let f = fetch_copies _ c.args.number lies.accepts _ c.args.area.now (lies.string ∙ sym c.of.ensures) in
    record { answer = c.copy_front.ensures.answer ∙ f.0; area = c.copy_front.ensures.area ∙ f.1 }
