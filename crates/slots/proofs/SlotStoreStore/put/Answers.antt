use Rattle.std.proofs.Common.{◌<◌, ◌≤◌, length, refl, arith, rules}
use Rattle.std.proofs.lemmas.Result.{err_from_is_err_and}
use Rattle.stores.proofs.Calls.{put_refused, put_long}
use Rattle.slots.proofs.Slots.{slot_inside, slot_takes, slot_leaves}
use Rattle.slots.proofs.SlotStoreStore.put.Goals as goal

pub returns-in_err-slot : goal.returns-in_err-slot
returns-in_err-slot g c =
    let p = err_from_is_err_and c.from_residual.result c.from_residual.ensures.1 in
    let refused = put_refused _ c.args.number c.args.string.now _ c.in_err-slot.ensures in
    record { answer = rw (p.1, p.2, refused); after = rw refused; named = refl }

pub returns-then-string-self : goal.returns-then-string-self
returns-then-string-self g c =
    let ok = c.in_ok-slot.ensures.lies.accepts in
    let is = (slot_inside _ _ _ _ c.args.number ok).is in
    let long : c.args.self.now.longest < length c.args.string.now = omega arith in
    let refused = put_long _ c.args.number ok c.args.string.now (rw is long) in
    record { answer = rw refused; after = rw refused; named = refl }

pub returns : goal.returns
returns g c =
    let self = c.args.self.now in
    let slot = c.in_ok-slot.ensures in
    let ok = slot.lies.accepts in
    let le : length c.args.string.now ≤ self.longest = omega arith in
    let accepted = slot_takes self.area.now self.lengths self.names self.longest c.args.number c.args.string.now ok le in
    let leaves = slot_leaves self.area.now self.lengths self.names self.longest c.copy_at.new.area _ c.args.number c.args.string.now ok le (search rules) (rw slot.starts at c.copy_at.ensures) refl in
    record { answer = rw accepted; after = rw accepted leaves; named = refl }
