use Rattle.std.proofs.Common.{◌≡◌, ℕ, Some, None, Option, Result, sym, ap, ◌∙◌, arith}
use Rattle.std.specs.Result.{result_ok}
use Rattle.symbols.specs.Kinds.{read_as}
use Rattle.symbols.specs.BusLaws.{read_parts, no_value}
use Rattle.symbols.specs.declared.fault.SymbolFault.{SymbolFault}
use Rattle.symbols.proofs.bus.event_meant.Goals as goal

-- a part that is read is meant
meant : {X : Type 0} (o : Option X) (r : Result X SymbolFault) (x : X) → r ≡ read_as o → Some x ≡ result_ok r → o ≡ Some x
meant None r x e h = let a : Some x ≡ None = h ∙ ap result_ok e in absurd (let z : ◌≡◌ {A = ℕ} 0 1 = cc in omega arith)
meant (Some y) r x e h = sym (h ∙ ap result_ok e)

pub returns-in_err-value : goal.returns-in_err-value
returns-in_err-value c =
    c.from_residual-in_err-value.ensures
    ∙ sym (no_value c.args.text.now (omega arith) c.in_ok-identifier.identifier c.in_ok-phase.phase
    (sym c.in_ok-identifier.ensures) (meant _ _ _ c.try_from.ensures c.in_ok-phase.ensures.value) (sym c.in_err-value.ensures))

pub returns : goal.returns
returns c =
    sym (read_parts c.args.text.now (omega arith) _
    (sym c.in_ok-identifier.ensures) (meant _ _ _ c.try_from.ensures c.in_ok-phase.ensures.value) (sym c.in_ok-value.ensures))
