use Rattle.std.proofs.Common.{sym}
use Rattle.scan.proofs.Walks.{balanced_closing, balanced_opening}
use Rattle.scan.proofs.search.Search.balanced_from.Goals as goal

pub returns-in-Opening : goal.returns-in-Opening
returns-in-Opening g c = balanced_opening _ _ _ _ _ c.in_ok-symbol.ensures.lookup.3.0 c.in_ok-symbol.ensures.lookup.1 (sym c.in-Opening.ensures) c.group_end.ensures

pub returns-in-Closing : goal.returns-in-Closing
returns-in-Closing g c = balanced_closing _ _ _ _ c.in_ok-symbol.ensures.lookup.3.0 c.in_ok-symbol.ensures.lookup.1 (sym c.in-Closing.ensures)
