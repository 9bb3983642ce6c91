-- What a line is told to be, and what that says. Assumes nothing.
use Rattle.std.proofs.Common.{◌≡◌, ℕ, Bool, true, false, cond, ◌&&◌, List, map, sym, refl, ap, ◌∙◌}
use Rattle.lines.specs.declared.line.Form.{Form}
use Rattle.lines.specs.Marks.{mark_of}
use Rattle.lines.specs.Grammar.{plain, ending}
use Rattle.lines.specs.Ends.{begins_end}
use Rattle.lines.specs.Lines.{idle, is_end, is_statement, form_of, Says, EndLine}
use Rattle.lines.proofs.Endings.{is_end_at}
use Rattle.lines.proofs.Follows.{true_false}
use Rattle.lines.proofs.Walk.{whole_in, statement_in}

end_in : (s : List ℕ) → (is_end s ≡ true → EndLine s) × (EndLine s → is_end s ≡ true)
unfolding is_end
end_in s = ((whole_in (map mark_of s) (ending plain)).1, (whole_in (map mark_of s) (ending plain)).0)

pub says : (s : List ℕ) → Says s (form_of s)
says s = go (idle s) (is_end s) (is_statement s) refl refl refl
  where
    go : (i e w : Bool) → idle s ≡ i → is_end s ≡ e → is_statement s ≡ w
        → Says s (cond i Form.Idle (cond e Form.End (cond w Form.Statement Form.Broken)))
    go true e w p q r = p
    go false true w p q r = (end_in s).0 q
    go false false true p q r = ((statement_in s).1 r, λ h. true_false (is_end s) ((end_in s).1 h) q)
    go false false false p q r = (p, λ h. true_false (is_statement s) ((statement_in s).0 h) r)

-- by the three tests
pub form_by : (s : List ℕ) (i b w : Bool) → i ≡ idle s → b ≡ begins_end (map mark_of s) → w ≡ is_statement s
    → form_of s ≡ cond i Form.Idle (cond (b && w) Form.End (cond w Form.Statement Form.Broken))
form_by s i b w p q r =
    let e : is_end s ≡ (b && w) = is_end_at s ∙ ap (λ (x : Bool). x && is_statement s) (sym q) ∙ ap (λ (x : Bool). b && x) (sym r) in
    ap (λ (x : Bool). cond x Form.Idle (cond (is_end s) Form.End (cond (is_statement s) Form.Statement Form.Broken))) (sym p)
    ∙ ap (λ (x : Bool). cond i Form.Idle (cond x Form.End (cond (is_statement s) Form.Statement Form.Broken))) e
    ∙ ap (λ (x : Bool). cond i Form.Idle (cond (b && w) Form.End (cond x Form.Statement Form.Broken))) (sym r)

pub form_idle : (s : List ℕ) → true ≡ idle s → form_of s ≡ Form.Idle
form_idle s p = form_by s true (begins_end (map mark_of s)) (is_statement s) p refl refl

-- a line that is no statement line is not END's either
pub form_broken : (s : List ℕ) → false ≡ idle s → false ≡ is_statement s → form_of s ≡ Form.Broken
form_broken s p r = form_by s false (begins_end (map mark_of s)) false p refl r ∙ go (begins_end (map mark_of s))
  where
    go : (b : Bool) → cond (b && false) Form.End Form.Broken ≡ Form.Broken
    go true = refl
    go false = refl
