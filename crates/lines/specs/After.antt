-- What may follow in a set of texts once a beginning is read. Assumes nothing.
use Rattle.std.specs.Prelude.{ℕ, suc, Bool, true, false, cond, not, ◌&&◌, ◌||◌, List, [], ◌∷◌}
use Rattle.lines.specs.Languages.{Lang, none, null, one, ◌then◌, ◌or◌, ◌but◌, many}

unfoldable pub holds_null : {A : Type 0} → Lang A → Bool
holds_null none = false
holds_null null = true
holds_null (one p) = false
holds_null (a then b) = holds_null a && holds_null b
holds_null (a or b) = holds_null a || holds_null b
holds_null (a but b) = holds_null a && not (holds_null b)
holds_null (many a) = true

unfoldable pub is_none : {A : Type 0} → Lang A → Bool
is_none none = true
is_none null = false
is_none (one p) = false
is_none (a then b) = false
is_none (a or b) = false
is_none (a but b) = false
is_none (many a) = false

-- the three joins, with what is none or null left out
unfoldable pub seq : {A : Type 0} → Lang A → Lang A → Lang A
seq none c = none
seq null c = c
seq (one p) c = one p then c
seq (a then b) c = seq a (seq b c)
seq (a or b) c = (a or b) then c
seq (a but b) c = (a but b) then c
seq (many a) c = many a then c

unfoldable pub alt : {A : Type 0} → Lang A → Lang A → Lang A
alt a b = cond (is_none a) b (cond (is_none b) a (a or b))

unfoldable pub less : {A : Type 0} → Lang A → Lang A → Lang A
less a b = cond (is_none a) none (cond (is_none b) a (a but b))

-- what may follow k
unfoldable pub after : {A : Type 0} → A → Lang A → Lang A
after k none = none
after k null = none
after k (one p) = cond (p k) null none
after k (a then b) = alt (seq (after k a) b) (cond (holds_null a) (after k b) none)
after k (a or b) = alt (after k a) (after k b)
after k (a but b) = less (after k a) (after k b)
after k (many a) = seq (after k a) (many a)

unfoldable pub after_all : {A : Type 0} → List A → Lang A → Lang A
after_all [] a = a
after_all (k ∷ ks) a = after_all ks (after k a)

-- how long a beginning of the text is left before nothing may follow
unfoldable pub reach : {A : Type 0} → Lang A → List A → ℕ
reach a [] = 0
reach a (k ∷ ks) = cond (is_none (after k a)) 0 (suc (reach (after k a) ks))
