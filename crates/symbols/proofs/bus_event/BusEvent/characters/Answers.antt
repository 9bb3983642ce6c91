use Rattle.std.proofs.Common.{rules}
use Rattle.symbols.specs.Hex.{hex_digits}
use Rattle.symbols.specs.BusLaws.{spelled}
use Rattle.symbols.proofs.bus_event.BusEvent.characters.Goals as goal

pub returns : goal.returns
unfolding hex_digits
returns c = let e = spelled c.args.self in search rules
