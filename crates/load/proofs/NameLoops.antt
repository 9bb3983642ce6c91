-- Names put into a table one by one. Assumes nothing.
use Rattle.std.proofs.Common.{◌≡◌, ℕ, ◌+◌, ◌<◌, ◌≤◌, min, Bool, true, false, cond, ltb, List, [], ◌∷◌, ◌++◌, map, length, get_or, take, set, sym, refl, ap, ◌∙◌}
use Rattle.std.proofs.lemmas.List.{length-map, map_more, map_push, take_all}
use Rattle.sheets.specs.declared.part.Part.{Part}
use Rattle.sheets.specs.Parts.{part_of}
use Rattle.tables.specs.declared.name.Name.{Name}
use Rattle.tables.specs.declared.sheet.NameTable.{NameTable}
use Rattle.rows.specs.Fills.{filled}
use Rattle.rows.specs.Names.{name_of}
use Rattle.load.specs.Names.{name_table}
use Rattle.rows.proofs.Fills.{push_more}

-- a table with one more name, while there is room
abbrev pub with_name : NameTable → Name → NameTable
with_name t x = cond (ltb t.count 64) (record { names = set t.names t.count x; count = t.count + 1 }) t

abbrev pub table : List Name → ℕ → NameTable
table ns k = record { names = ns; count = k }

abbrev tabled : List Name → NameTable
tabled ns = table (filled 64 (name_of []) ns) (min (length ns) 64)

told : (ws : List (List ℕ)) → name_table ws ≡ tabled (map name_of ws)
told ws = ap (λ (k : ℕ). table (filled 64 (name_of []) (map name_of ws)) (min k 64)) (sym (length-map ws name_of))

pub name_more : (ws : List (List ℕ)) (w : List ℕ) → with_name (name_table ws) (name_of w) ≡ name_table (ws ++ (w ∷ []))
name_more ws w =
    ap (λ (t : NameTable). with_name t (name_of w)) (told ws)
    ∙ push_more 64 (name_of []) table (map name_of ws) (name_of w)
    ∙ ap tabled (sym (map_push name_of ws w))
    ∙ sym (told (ws ++ (w ∷ [])))

-- one more, as a push into an array of names puts it there
pub names_pushed : (ns ns' : List Name) (k k' : ℕ) (x : Name) → length ns ≡ 64 → k' ≡ cond (ltb k (length ns)) (k + 1) k
    → ns' ≡ cond (ltb k (length ns)) (set ns k x) ns → table ns' k' ≡ with_name (table ns k) x
names_pushed ns ns' k k' x l e f =
    ap (λ (n : ℕ). table ns' n) e ∙ ap (λ (zs : List Name). table zs (cond (ltb k (length ns)) (k + 1) k)) f
    ∙ go (ltb k (length ns)) ∙ ap (λ (n : ℕ). cond (ltb k n) (table (set ns k x) (k + 1)) (table ns k)) l
  where
    go : (b : Bool) → table (cond b (set ns k x) ns) (cond b (k + 1) k) ≡ cond b (table (set ns k x) (k + 1)) (table ns k)
    go true = refl
    go false = refl

-- one more of the parts of a text
module _ (text : List ℕ) (ps : List Part) (i : ℕ) where
  abbrev upto : ℕ → NameTable
  upto k = name_table (map (part_of text) (take k ps))

  pub names_on : (d : Part) (t t' : NameTable) (x : Name) (w : List ℕ) → i < length ps → t ≡ upto i → t' ≡ with_name t x → x ≡ name_of w
      → w ≡ part_of text (get_or ps i d) → t' ≡ upto (i + 1)
  names_on d t t' x w h inv e f p =
      e ∙ ap (λ (y : NameTable). with_name y x) inv
      ∙ ap (with_name (upto i)) (f ∙ ap name_of p)
      ∙ name_more (map (part_of text) (take i ps)) (part_of text (get_or ps i d))
      ∙ ap name_table (sym (map_more (part_of text) ps i d h))

  pub names_all : (t : NameTable) → length ps ≤ i → t ≡ upto i → t ≡ name_table (map (part_of text) ps)
  names_all t h inv = inv ∙ ap (λ (qs : List Part). name_table (map (part_of text) qs)) (take_all i ps h)
