use Rattle.std.proofs.Common.{◌≡◌, ◌∷◌, [], get_or, take, sym, ap, refl, ◌∙◌, arith}
use Rattle.std.specs.Prelude.{encode_utf8}
use Rattle.std.proofs.lemmas.List.{take_more}
use Rattle.std.proofs.Output.{has_written_append, has_written_of_eq}
use Rattle.symbols.proofs.EventText.{written_alone}
use Rattle.symbols.specs.Bus.{bus_chars}
use Rattle.symbols.specs.BusLaws.{bus_wide}
use Rattle.symbols.proofs.bus_event.BusEventDisplay.fmt.Goals as goal

pub loop-c-preserved : goal.loop-c-preserved
loop-c-preserved g c p =
    let xs = bus_chars c.args.self.now in
    let k = c.loop-c.c-index in
    let so_far = c.loop-c.invariant p in
    let l = bus_wide c.args.self.now in
    let one : encode_utf8 (get_or c.characters-c-items.result k 0) ≡ get_or xs k 0 ∷ [] = ap (λ t. encode_utf8 (get_or t k 0)) c.characters-c-items.ensures ∙ written_alone c.args.self.now k in
    has_written_of_eq _ _ _ _ _ (sym (take_more xs k 0 (omega arith))) (has_written_append _ _ (take k xs) _ (get_or xs k 0 ∷ []) _ so_far (has_written_of_eq _ _ _ _ _ one (c.in_ok-write.ensures.writes so_far.plain refl)))
