-- Sets of texts over any alphabet: what a form of line is said by. Assumes nothing.
use Rattle.std.specs.Prelude.{◌≡◌, Bool, true, ◌⊎◌, List, [], ◌∷◌, ◌++◌}

infixr 30 ◌then◌
infixr 20 ◌or◌
infixr 25 ◌but◌
-- no text, the null text, one character of some, one after another, one or another, one and not another, any number in a row
pub data Lang (A : Type 0) : Type 0 where
  none : Lang A
  null : Lang A
  one : (A → Bool) → Lang A
  ◌then◌ : Lang A → Lang A → Lang A
  ◌or◌ : Lang A → Lang A → Lang A
  ◌but◌ : Lang A → Lang A → Lang A
  many : Lang A → Lang A

-- a text that is some texts in a row
pub data Many {A : Type 0} (P : List A → Type 0) : List A → Type 0 where
  stop : Many P []
  more : {s : List A} (u v : List A) → s ≡ u ++ v → P u → Many P v → Many P s

-- which texts are in a set
abbrev pub In : {A : Type 0} → Lang A → List A → Type 0
In none s = ⊥
In null s = s ≡ []
In {A} (one p) s = (k : A) × (s ≡ k ∷ []) × (p k ≡ true)
In {A} (a then b) s = (u : List A) × (v : List A) × (s ≡ u ++ v) × In a u × In b v
In (a or b) s = In a s ⊎ In b s
In (a but b) s = In a s × (In b s → ⊥)
In (many a) s = Many (In a) s

-- a text or nothing
unfoldable pub optional : {A : Type 0} → Lang A → Lang A
optional a = null or a
