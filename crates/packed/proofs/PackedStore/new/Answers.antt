use Rattle.std.proofs.Common.{refl}
use Rattle.packed.proofs.Packs.{pack_new}
use Rattle.packed.proofs.PackedStore.new.Goals as goal

pub returns : goal.returns
returns g c = record { means = pack_new c.args.area.now _ c.args.limits.names c.args.limits.longest c.args.limits.most refl; named = refl }
