use Rattle.std.proofs.Common.{refl}
use Rattle.slots.proofs.Slots.{slots_new}
use Rattle.slots.proofs.SlotStore.new.Goals as goal

pub returns : goal.returns
returns g c = record { means = slots_new c.args.area.now _ c.args.names c.args.longest refl; named = refl }
