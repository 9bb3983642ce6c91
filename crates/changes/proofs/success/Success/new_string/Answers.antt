use Rattle.std.proofs.Common.{sym, ◌∙◌}
use Rattle.std.proofs.lemmas.Bool.{cond-true, cond-false}
use Rattle.changes.specs.Sources.{new_string}
use Rattle.changes.specs.Told.{told}
use Rattle.changes.proofs.Places.{new_value, source_cut}
use Rattle.changes.proofs.Sources.{reference_is}
use Rattle.changes.proofs.success.Success.new_string.Goals as goal

pub returns-then-eq : goal.returns-then-eq
unfolding new_string
returns-then-eq g c =
    let success = told c.args.self.now in
    let value = sym (cond-true _ _ _ (sym (reference_is c.args.self.now.reference c.args.name) ∙ sym c.eq.ensures ∙ c.if-eq.true)) in
    record { value = value; source = value ∙ new_value success c.args.name; cuts = source_cut success c.args.name c.args.self.now.placed }

pub returns : goal.returns
unfolding new_string
returns g c =
    let success = told c.args.self.now in
    let value = c.last_part.ensures ∙ sym (cond-false _ _ _ (sym (reference_is c.args.self.now.reference c.args.name) ∙ sym c.eq.ensures ∙ c.if-eq.false)) in
    record { value = value; source = value ∙ new_value success c.args.name; cuts = source_cut success c.args.name c.args.self.now.placed }
