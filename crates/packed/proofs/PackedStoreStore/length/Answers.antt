use Rattle.stores.proofs.Parts.{lies_length}
use Rattle.packed.proofs.PackedStoreStore.length.Goals as goal

pub returns : goal.returns
returns g c =
    let lies = c.in_ok-part.ensures.lies in
    rw (lies.accepts, lies_length _ _ _ _ lies)
