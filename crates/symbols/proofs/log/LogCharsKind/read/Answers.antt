use Rattle.std.proofs.Common.{refl, arith}
use Rattle.symbols.specs.LogLaws.{read_one}
use Rattle.symbols.proofs.log.LogCharsKind.read.Goals as goal

pub returns-in-32-to-126 : goal.returns-in-32-to-126
returns-in-32-to-126 c = read_one c.args.text.now _ (omega arith) refl
