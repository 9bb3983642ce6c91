use Rattle.placings.proofs.Order.{strict_total}
use Rattle.placings.proofs.Enumeration.{enumerates}
use Rattle.placings.proofs.Verdict.{decided}
use Rattle.placings.proofs.Trials.{trials_counted}
use Rattle.placings.proofs.Says.{says, determined}
use Rattle.placings.proofs.theorems.placings_stand.Goals as goal

pub returns : goal.returns
returns g c =
    record {
      order = strict_total;
      enumeration = enumerates;
      verdict = λ eq dec role mode s pattern. decided eq role mode s pattern (enumerates eq dec role mode s pattern);
      trials = λ eq dec role mode s pattern. trials_counted eq role mode s pattern (enumerates eq dec role mode s pattern);
      answer = says;
      only = determined;
    }
