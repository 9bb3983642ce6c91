-- Looking up names and labels: the first row that has the name, and absent if none has it. Assumes nothing.
use Rattle.std.specs.Prelude.{◌≡◌, ℕ, ◌-◌, ◌<◌, ◌≤◌, Bool, true, false, cond, List, length, take, Some, None, codes, Option, slice_index_or}
use Rattle.std.specs.List.{position_from}
use Rattle.std.specs.Option.{option_map}
use Rattle.std.specs.Str.{bytes_eq}
use Rattle.tables.specs.declared.name.Name.{Name}
use Rattle.tables.specs.declared.row.Next.{Next}
use Rattle.tables.specs.declared.row.Next.TheVariants.{Statement, End}
use Rattle.tables.specs.Rows.{Row}
use Rattle.tables.specs.declared.sheet.NameTable.{NameTable}

-- the characters of a name
abbrev pub spelling : Name → List ℕ
spelling name = take name.length name.letters

-- whether a name has these characters
abbrev pub spelled : List ℕ → Name → Bool
spelled chars name = bytes_eq (spelling name) chars

-- the names of a table, in the order of their numbers
abbrev pub names_in : NameTable → List Name
names_in table = take table.count table.names

-- the number of a name in a table, counted from 1
abbrev pub name_number : NameTable → List ℕ → Option ℕ
name_number table chars = position_from (spelled chars) 1 (names_in table)

-- whether a label is there and has these characters
abbrev pub label_spelled : List ℕ → Option Name → Bool
label_spelled chars None = false
label_spelled chars (Some name) = spelled chars name

-- the number of the statement that has a label, counted from 1
abbrev pub label_number : List Row → List ℕ → Option ℕ
label_number rows chars = position_from (λ (row : Row). label_spelled chars row.label) 1 rows

-- where a label leads: END to the end, every other to the statement that has it
abbrev pub label_place : List Row → List ℕ → Option Next
label_place rows chars = cond (bytes_eq chars (codes "END")) (Some End) (option_map Statement (label_number rows chars))

-- the number n is that of the first that passes the test: it passes, and none before it does; or none passes
abbrev pub First : {A : Type 0} → (A → Bool) → List A → Option ℕ → Type 0
First {A} test xs None = (k : ℕ) (d : A) → k < length xs → test (slice_index_or xs k d) ≡ false
First {A} test xs (Some n) = (1 ≤ n) × (n ≤ length xs) × ((d : A) → test (slice_index_or xs (n - 1) d) ≡ true) × ((k : ℕ) (d : A) → k < n - 1 → test (slice_index_or xs k d) ≡ false)
