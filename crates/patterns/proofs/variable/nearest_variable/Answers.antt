use Rattle.std.proofs.Common.{◌≡◌, ℕ, Some, None, Option, refl, ◌∙◌, rules}
use Rattle.patterns.specs.Nearest.{nearest}
use Rattle.patterns.proofs.Nearest.{nearest_at, nearest_none}
use Rattle.patterns.proofs.variable.nearest_variable.Goals as goal

pub returns : goal.returns
returns c = by_case c.rposition.result refl
  where
    by_case : (o : Option ℕ) → c.rposition.result ≡ o → c.rposition.result ≡ nearest c.args.name c.args.items.now
    by_case (Some i) e =
        let bound = rw e at c.rposition.ensures.bound in
        let runs = rw e at c.rposition.ensures.runs in
        e ∙ nearest_at c.args.name i c.args.items.now (search rules) (search rules) (search rules)
    by_case None e =
        let runs = rw e at c.rposition.ensures.runs in
        e ∙ nearest_none c.args.name c.args.items.now (search rules)
