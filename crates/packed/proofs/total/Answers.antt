use Rattle.std.proofs.Common.{◌≡◌, min, take, sum_by, sym, ap, ◌∙◌, rules, arith, sum}
use Rattle.std.proofs.lemmas.List.Sums.{sum-map}
use Rattle.packed.proofs.Packs.{lengths_map}
use Rattle.packed.proofs.total.Goals as goal

pub returns : goal.returns
returns c =
    let all : c.loop-length.sum ≡ sum_by (λ x. min x c.args.longest) (take c.args.count c.args.table.now) = search rules in
    all ∙ sym (sum-map (λ x. min x c.args.longest) (take c.args.count c.args.table.now)) ∙ ap sum (lengths_map c.args.count c.args.longest c.args.table.now (omega arith))
