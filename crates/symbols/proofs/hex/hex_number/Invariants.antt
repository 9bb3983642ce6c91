use Rattle.std.proofs.Common.{◌≡◌, ◌^◌, ◌<◌, drop}
use Rattle.symbols.specs.Hex.{hex_more, hex_number}
use Rattle.symbols.proofs.hex.hex_number.Given as goal

abbrev pub invariant-loop-digit : goal.invariant-loop-digit
invariant-loop-digit l = (hex_number l.digits ≡ hex_more l.n (drop l.digit-index l.digits)) × (l.n < 16 ^ l.digit-index)
