use Rattle.std.proofs.Common.{ℕ, ◌≤◌, List, ap, ◌∙◌, arith}
use Rattle.symbols.specs.Texts.{text_read, counted}
use Rattle.sheets.specs.Items.{contents}
use Rattle.sheets.specs.Parts.{part_of}
use Rattle.sheets.proofs.Literals.{fault_within}
use Rattle.sheets.proofs.tally.literal.Goals as goal

pub overflow_add-result-in-Err : goal.overflow_add-result-in-Err
overflow_add-result-in-Err g c =
    let e₀ = c.in-Err.ensures in
    let l : c.in-Err.e.at ≤ (contents c.args.token).size =
    fault_within g.K.Kind.meant g.K.Kind.WIDTH c.args.line.now (contents c.args.token) c.in-Err.e
    (e₀ ∙ ap (λ (x : List ℕ). counted (text_read g.K.Kind.meant g.K.Kind.WIDTH x))
    (c.part_of.ensures ∙ ap (part_of c.args.line.now) c.contents.ensures)) in
    omega (arith, l)
