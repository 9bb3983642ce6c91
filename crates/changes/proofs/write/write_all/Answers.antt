use Rattle.std.proofs.Common.{sym, subst, rules}
use Rattle.changes.specs.Sources.{OneSource}
use Rattle.changes.specs.Told.{told}
use Rattle.changes.proofs.Written.{one_source}
use Rattle.changes.proofs.Writes.{clear, fill, passable_clear, passable_fill, both_passes}
use Rattle.changes.proofs.write.write_all.Goals as goal

pub returns : goal.returns
returns g c =
    let names = g.S.Store.held c.args.store.now in
    let success = told c.args.success in
    let sound = c.requires.sound in
    let middle = g.S.Store.held c.put_all.new.store in
    let first = c.put_all.ensures clear (λ s r made. search rules) (passable_clear success names (g.S.Store.bounds c.args.store.now).total) in
    let second = c.put_all-2.ensures fill (λ s r made. search rules) (passable_fill success names sound middle first c.requires.fits) in
    let after = both_passes success names sound middle first (g.S.Store.held c.put_all-2.new.store) second in
    record { after = after; source = subst (OneSource success names) (sym after) (one_source success names sound) }
