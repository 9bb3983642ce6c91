use Rattle.std.proofs.Common.{sym, ◌∙◌}
use Rattle.std.proofs.lemmas.Bool.{cond-true, cond-false}
use Rattle.packed.proofs.Packs.{pack_limits}
use Rattle.packed.proofs.PackedStoreStore.tell.Goals as goal

pub returns-else-is_packed : goal.returns-else-is_packed
returns-else-is_packed g c = sym (pack_limits _ _ _ _ _ ∙ cond-false _ _ _ (sym c.if-is_packed.ensures))

pub returns-then-is_packed : goal.returns-then-is_packed
returns-then-is_packed g c = sym (pack_limits _ _ _ _ _ ∙ cond-true _ _ _ (sym c.if-is_packed.ensures))
