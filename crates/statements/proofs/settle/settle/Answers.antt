use Rattle.std.proofs.Common.{length, sym}
use Rattle.changes.specs.Told.{told}
use Rattle.statements.proofs.Settling.{room_after}
use Rattle.statements.proofs.settle.settle.Goals as goal

pub goes_to-requires : goal.goes_to-requires
goes_to-requires g c = room_after (told c.args.success) (g.S.Store.held c.args.store.now) (length c.args.area.now) c.requires.room (sym c.if-is_over.ensures)
