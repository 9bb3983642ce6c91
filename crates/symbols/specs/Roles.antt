-- How many groups a symbol of a role opens and closes. Assumes nothing.
use Rattle.std.specs.Prelude.{ℕ}
use Rattle.symbols.specs.declared.role.Role.{Role}
use Rattle.symbols.specs.declared.role.Role.TheVariants.{Opening, Closing, Plain}

-- how many a symbol of a role opens: one or none
abbrev pub opens : Role → ℕ
opens Opening = 1
opens Closing = 0
opens Plain = 0

-- how many it closes: one or none
abbrev pub closes : Role → ℕ
closes Opening = 0
closes Closing = 1
closes Plain = 0
