use Rattle.std.proofs.Common.{sym}
use Rattle.slots.proofs.Slots.{told_fit, told_unfit}
use Rattle.slots.proofs.SlotStoreStore.tell.Goals as goal

pub returns-then-fits : goal.returns-then-fits
returns-then-fits g c = let s = c.slot_limits-limits.ensures in told_fit _ _ _ _ _ s.names s.longest s.most (sym c.if-fits.ensures)

pub returns-else-fits : goal.returns-else-fits
returns-else-fits g c = let s = c.slot_limits-limits.ensures in told_unfit _ _ _ _ _ s.names s.longest s.most (sym c.if-fits.ensures)
