use Rattle.std.proofs.Common.{ℕ, length, Some, sym, ap, ◌∙◌, subst}
use Rattle.stores.specs.declared.limits.Limits.{Limits}
use Rattle.tables.specs.declared.row.Item.{Item}
use Rattle.tables.specs.declared.row.Item.TheVariants.{Operand}
use Rattle.placings.specs.Pattern.{constant, part}
use Rattle.patterns.specs.Gathering.{Gathers}
use Rattle.patterns.specs.Resolved.{item_element}
use Rattle.patterns.proofs.element.gather_item.Goals as goal

pub returns-in-Literal : goal.returns-in-Literal
returns-in-Literal g c =
    let names = g.S.Store.held c.args.store.now in
    let left = c.args.left.now in
    let ByItem : Item → Type 0 = λ item. Gathers names.longest c.args.used (length left) c.args.area.now c.gather_literal.new.area (item_element g.K.Kind.chars c.args.listing.names.now c.args.listing.constants.now names left item) (Some c.gather_literal.result) in
    let ByLimit : ℕ → Type 0 = λ n. Gathers n c.args.used (length left) c.args.area.now c.gather_literal.new.area (Some (constant (part c.args.listing.constants.now c.in-Literal.from c.in-Literal.to))) (Some c.gather_literal.result) in
    subst ByItem (sym (c.in-Operand.is ∙ ap Operand c.in-Literal.is)) (subst ByLimit (ap (λ (t : Limits). t.longest) c.tell-longest.ensures) (c.gather_literal.ensures (length left)))
