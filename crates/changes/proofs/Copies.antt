-- A success is what it tells: how it is shown to be placed makes no other one. Assumes nothing.
use Rattle.std.proofs.Common.{◌≡◌}
use Rattle.changes.specs.declared.success.Success.{Success}
use Rattle.changes.specs.Success.{Placed, Placed-prop}
use Rattle.changes.specs.Told.{told}

pub copied : {X : Type 0} (s : Success X) (p : Placed (told s))
    → ◌≡◌ {A = Success X} (record { subject = s.subject; items = s.items; start = s.start; ends = s.ends; reference = s.reference; contents = s.contents; placed = p }) s
copied s p = λ i.
    record {
      subject = s.subject;
      items = s.items;
      start = s.start;
      ends = s.ends;
      reference = s.reference;
      contents = s.contents;
      placed = Placed-prop (told s) p s.placed i;
    }
