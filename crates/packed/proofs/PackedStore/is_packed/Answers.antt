use Rattle.std.proofs.Common.{leb, sym, ap, ◌∙◌}
use Rattle.stores.proofs.Bounds.{range_parts}
use Rattle.packed.proofs.Packs.{packs_unfit, packs_fit}
use Rattle.packed.proofs.PackedStore.is_packed.Goals as goal

pub returns-else-fits : goal.returns-else-fits
returns-else-fits g c = c.if-fits.false ∙ sym (packs_unfit _ _ _ _ _ (sym c.if-fits.ensures))

pub total-requires : goal.total-requires
total-requires g c = (range_parts _ _ _ _ (sym c.if-fits.ensures)).few

pub returns-then-fits : goal.returns-then-fits
returns-then-fits g c = ap (λ z. leb z c.args.self.now.limits.most) c.total.ensures ∙ sym (packs_fit _ _ _ _ _ (sym c.if-fits.ensures))
