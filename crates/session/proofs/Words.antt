-- Words that choose a mode, and words that choose none. Assumes nothing.
use Rattle.std.proofs.Common.{◌≡◌, List, Some, Ok, Err, Option, Result, unwrap_or, sym, ap, ◌∙◌, subst}
use Rattle.std.specs.Result.{result_ok}
use Rattle.symbols.specs.Answers.{answered}
use Rattle.placings.specs.declared.mode.Mode.{Mode}
use Rattle.placings.specs.declared.mode.NoMode.{NoMode}
use Rattle.session.specs.declared.entry.Entry.{Entry}
use Rattle.session.specs.declared.refusal.Refusal.{Refusal}
use Rattle.session.specs.declared.refusal.Refusal.TheVariants.{NoWord}
use Rattle.session.specs.State.{State}
use Rattle.session.specs.Calls.{no_mode}
use Rattle.session.specs.Effects.{chosen, Leaves}

-- what a word chose, by the answer that was made of it
pub word_known : (o : Option Mode) (r : Result Mode NoMode) (m : Mode) → result_ok r ≡ o → r ≡ Ok m → o ≡ Some m
word_known o r m made was = sym made ∙ ap result_ok was

pub word_unknown : (o : Option Mode) (r : Result Mode NoMode) (e : NoMode) → result_ok r ≡ o → r ≡ Err e → no_mode o ≡ Some NoWord
word_unknown o r e made was = ap no_mode (sym made ∙ ap result_ok was)

-- the mode that a word chooses is set where the mode that was found is
pub chosen_word : {X : Type 0} (s t : State X) (old new : List Entry) (o : Option Refusal) (found : Option Mode) (m : Mode) → found ≡ Some m → Leaves s t old new (answered o (chosen s m)) → Leaves s t old new (answered o (chosen s (unwrap_or found s.mode)))
chosen_word s t old new o found m is leaves = subst (λ (q : Option Mode). Leaves s t old new (answered o (chosen s (unwrap_or q s.mode)))) (sym is) leaves
