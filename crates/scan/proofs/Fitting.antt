-- Elements that fit: one after the other, and what they then read. Assumes nothing.
use Rattle.std.proofs.Common.{◌≡◌, ℕ, zero, suc, ◌+◌, ◌<◌, ◌≤◌, true, refl, sym, ◌&&◌, leb, List, [], ◌∷◌, length, get_or, ap, ◌∙◌, arith}
use Rattle.std.proofs.lemmas.Bool.{and_parts, leb-true, ltb-true}
use Rattle.std.specs.List.{list_all, enumerate_from}
use Rattle.scan.specs.declared.element.Element.{Element}
use Rattle.scan.specs.declared.element.Element.TheVariants.{Compared, Fixed, Free}
use Rattle.scan.specs.declared.element.Source.{Source}
use Rattle.scan.specs.declared.element.Source.TheVariants.{Constant, Back}
use Rattle.scan.specs.declared.row.Row.{Row}
use Rattle.scan.specs.Elements.{fits, all_fit}
use Rattle.scan.specs.Rows.{Readable, Parted}
use Rattle.scan.proofs.Suiting.{Refers}

pub fit_enumerated : (c i : ℕ) (es : List Element) → list_all (λ p. fits c p.0 p.1) (enumerate_from i es) ≡ all_fit c i es
unfolding all_fit
fit_enumerated c i [] = refl
fit_enumerated c i (x ∷ es) = let z : i + 1 ≡ suc i = omega arith in ap (λ b. fits c i x && b) (fit_enumerated c (i + 1) es ∙ ap (λ k. all_fit c k es) z)

-- each of them does
pub fit_at : (c b i : ℕ) (es : List Element) (d : Element) → all_fit c b es ≡ true → i < length es → fits c (b + i) (get_or es i d) ≡ true
unfolding all_fit
fit_at c b i [] d t l = absurd (omega arith)
fit_at c b zero (x ∷ es) d t l = let z : b + 0 ≡ b = omega arith in rw z (and_parts (fits c b x) _ t).0
fit_at c b (suc i) (x ∷ es) d t l = let z : b + suc i ≡ suc b + i = omega arith in rw z (fit_at c (suc b) i es d (and_parts (fits c b x) _ t).1 (omega arith))

pub fit_refers : (c i : ℕ) (x : Element) → fits c i x ≡ true → Refers i x
fit_refers c i (Compared (Constant from to)) t = tt
fit_refers c i (Compared (Back j)) t = ltb-true j i t
fit_refers c i (Fixed size) t = tt
fit_refers c i (Free variable) t = tt

pub fit_reads : (n c i : ℕ) (rows : List Row) (x : Element) → i < 8 → Parted n rows i → fits c i x ≡ true → Readable n c rows x
fit_reads n c i rows (Compared (Constant from to)) l p t = let h = and_parts (leb from to) _ t in (leb-true from to h.0, leb-true to c h.1)
fit_reads n c i rows (Compared (Back j)) l p t = let h = ltb-true j i t in let q = p j h in (omega arith, q.0, q.1)
fit_reads n c i rows (Fixed size) l p t = tt
fit_reads n c i rows (Free variable) l p t = tt

-- a constant that stands first lies within the constants
pub front_reads : (c : ℕ) (es : List Element) (source : Source) (from to : ℕ) (d : Element) → all_fit c 0 es ≡ true → 0 < length es → get_or es 0 d ≡ Compared source → source ≡ Constant from to → (from ≤ to) × (to ≤ c)
front_reads c es source from to d t some is constant =
    let fit : fits c 0 (Compared (Constant from to)) ≡ true = ap (λ x. fits c 0 (Compared x)) (sym constant) ∙ ap (fits c 0) (sym is) ∙ fit_at c 0 0 es d t some in
    let h = and_parts (leb from to) _ fit in
    (leb-true from to h.0, leb-true to c h.1)
