use Rattle.std.proofs.Common.{rules, ◌≡◌, ℕ, List, [], ◌++◌, ap, sym, ◌∙◌}
use Rattle.std.proofs.lemmas.Grind.{flat_map-append}
use Rattle.std.proofs.lemmas.List.{append_assoc}
use Rattle.std.proofs.Output.{has_written_append}
use Rattle.std.specs.List.{flat_map}
use Rattle.std.specs.Slice.Iter.{chunks_rest}
use Rattle.texts.proofs.Written.{front_is}
use Rattle.texts.proofs.TextDisplay.fmt.Goals as goal

pub loop-symbols-init : goal.loop-symbols-init
loop-symbols-init g c = (search rules, tt, λ plain. ([], search rules, search rules))

pub loop-symbols-preserved : goal.loop-symbols-preserved
loop-symbols-preserved g c =
    let chars = flat_map g.K.Kind.chars in
    let part = c.in-Some.symbols.now in
    let steps = c.in-Some.ensures.steps in
    let text : c.in-Ok-from_utf8.text.now ≡ chars part = c.in-Ok-from_utf8.ensures.cases.0 ∙ front_is _ _ _ _ _ c.in-Ok.ensures.answer c.in-Ok.ensures.area in (
      search rules,
      tt,
      λ plain.
          let so_far = c.loop-symbols.invariant.2 plain in (
            so_far.0 ++ c.in-Ok-from_utf8.text.now,
            has_written_append _ _ _ _ _ _ so_far.1 (search rules),
            append_assoc so_far.0 _ _
                ∙ ap (λ (t : List ℕ). so_far.0 ++ t) (ap (λ (t : List ℕ). t ++ chars (chunks_rest c.next.new.self)) text ∙ (sym (flat_map-append g.K.Kind.chars part (chunks_rest c.next.new.self)) ∙ sym (ap chars steps.1.0)))
                ∙ so_far.2,
          ),
    )
