-- What a success that is handed to the code tells. Assumes nothing.
use Rattle.changes.specs.declared.success.Success.{Success as Lent}
use Rattle.changes.specs.Success.{Success, telling}

-- what it tells
abbrev pub told : {X : Type 0} → Lent X → Success X
told lent = telling lent.subject.now lent.items.now lent.start lent.ends.now lent.reference lent.contents.now
