use Rattle.std.proofs.Common.{◌≡◌, ℕ, ◌<◌, ◌≤◌, List, length, Some, None, sym, ap, ◌∙◌}
use Rattle.std.proofs.lemmas.Bool.{cond-true, cond-false, lt-ltb, le-ltb}
use Rattle.stores.specs.declared.refusal.StoreRefusal.TheVariants.{ShortArea}
use Rattle.symbols.specs.Answers.{answered, unless, over}
use Rattle.changes.specs.Limits.{room_refusal}
use Rattle.changes.proofs.after.copy_front.Goals as goal

refused : {X : Type 0} (room : ℕ) (s : List X) → room < length s → Some ShortArea ≡ room_refusal room s
unfolding room_refusal
refused room s h = sym (cond-true _ _ _ (lt-ltb room (length s) h))

taken : {X : Type 0} (room : ℕ) (s : List X) → length s ≤ room → None ≡ room_refusal room s
unfolding room_refusal
taken room s h = sym (cond-false _ _ _ (le-ltb room (length s) h))

pub returns-then-string-area : goal.returns-then-string-area
returns-then-string-area g c =
    let s = c.args.string.now in
    let area = c.args.area.now in
    let is = refused (length area) s c.if-string-area.true in
    record { answer = ap (λ o. answered o (length s)) is; area = ap (λ o. unless o area (over s area)) is }

pub returns : goal.returns
returns g c =
    let s = c.args.string.now in
    let area = c.args.area.now in
    let is = taken (length area) s c.if-string-area.false in
    record {
      answer = ap (λ n. answered None n) c.copy_over.ensures.value ∙ ap (λ o. answered o (length s)) is;
      area = c.copy_over.ensures.after ∙ ap (λ o. unless o area (over s area)) is;
    }
