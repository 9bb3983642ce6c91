use Rattle.scan.proofs.Walks.{balanced_next}
use Rattle.scan.proofs.search.Search.next_end.Goals as goal

pub returns-in-Balanced : goal.returns-in-Balanced
returns-in-Balanced g c = rw (c.in-Free.is, c.in-Balanced.is) (λ w t. balanced_next _ _ _ _ _ c.requires.0 t c.balanced_from.ensures)
