use Rattle.std.proofs.Common.{◌-◌, ◌<◌, ◌≤◌, length, refl, arith, rules}
use Rattle.std.proofs.lemmas.Result.{err_from_is_err_and}
use Rattle.stores.proofs.Calls.{put_refused, put_long}
use Rattle.packed.proofs.Packs.{pack_inside, pack_over, pack_takes, pack_leaves}
use Rattle.packed.proofs.PackedStoreStore.put.Goals as goal

pub returns-in_err-old : goal.returns-in_err-old
returns-in_err-old g c =
    let p = err_from_is_err_and c.from_residual.result c.from_residual.ensures.1 in
    let refused = put_refused _ c.args.number c.args.string.now _ c.in_err-old.ensures in
    record { answer = rw (p.1, p.2, refused); after = rw refused; named = refl }

pub returns-then-string-self : goal.returns-then-string-self
returns-then-string-self g c =
    let ok = c.in_ok-old.ensures.lies.accepts in
    let is = (pack_inside c.args.self.now c.args.number ok).is in
    let long : c.args.self.now.limits.longest < length c.args.string.now = omega arith in
    let refused = put_long _ c.args.number ok c.args.string.now (rw is long) in
    record { answer = rw refused; after = rw refused; named = refl }

pub returns-then-string-self-2 : goal.returns-then-string-self-2
returns-then-string-self-2 g c =
    let found = c.in_ok-old.ensures in
    let refused = pack_over c.args.self.now c.args.number found.lies.accepts _ found c.args.string.now _ c.total-end.ensures (omega arith) in
    record { answer = rw refused; after = rw refused; named = refl }

pub returns : goal.returns
returns g c =
    let self = c.args.self.now in
    let string = c.args.string.now in
    let found = c.in_ok-old.ensures in
    let ok = found.lies.accepts in
    let le : length string ≤ self.limits.longest = omega arith in
    let room : length string ≤ self.limits.most - (c.total-end.result - c.in_ok-old.old.length) = omega arith in
    let accepted = pack_takes self c.args.number ok _ found string _ c.total-end.ensures le room in
    let leaves = pack_leaves self c.args.number ok _ found string c.make_room.new.area c.copy_at.new.area _ _ c.total-end.ensures le room (search rules) c.make_room.auto.area c.make_room.ensures.before c.make_room.ensures.behind c.copy_at.ensures refl in
    record { answer = rw accepted; after = rw accepted leaves; named = refl }
