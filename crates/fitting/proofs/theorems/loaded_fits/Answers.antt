use Rattle.fitting.proofs.Fitting.{every_load_fits, every_load_admitted}
use Rattle.fitting.proofs.theorems.loaded_fits.Goals as goal

pub returns : goal.returns
returns g c =
    record { fits = every_load_fits g.K.Kind.meant g.K.Kind.WIDTH; admitted = every_load_admitted g.K.Kind.meant g.K.Kind.WIDTH }
