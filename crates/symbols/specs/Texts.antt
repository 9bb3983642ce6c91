-- Reading a whole text as symbols, and writing symbols as a text. Assumes nothing.
use Rattle.std.specs.Prelude.{◌≡◌, ℕ, zero, suc, ◌+◌, ◌/◌, ◌%◌, cond, List, [], ◌∷◌, length, take, drop, Some, None, Ok, Err, Option, Result, ◌==◌, ◌≢◌}
use Rattle.std.specs.List.{flat_map}
use Rattle.std.specs.Option.{option_map}
use Rattle.symbols.specs.Answers.{answered, unless, over}
use Rattle.symbols.specs.Kinds.{short_of}
use Rattle.symbols.specs.declared.fault.SymbolFault.{SymbolFault}
use Rattle.symbols.specs.declared.fault.SymbolFault.TheVariants.{NotWhole, NoMeaning}
use Rattle.symbols.specs.declared.fault.TextFault.{TextFault}
use Rattle.symbols.specs.declared.fault.TextRefusal.{TextRefusal}
use Rattle.symbols.specs.declared.fault.TextRefusal.TheVariants.{Fault, Area}

-- a symbol, if there is one at the place, before the symbols behind it
abbrev pub before : {X : Type 0} → ℕ → Option X → Result (List X) TextFault → Result (List X) TextFault
before at None r = Err (record { fault = NoMeaning; at = at })
before at (Some x) (Ok xs) = Ok (x ∷ xs)
before at (Some x) (Err f) = Err f

module _ {X : Type 0} (meant : List ℕ → Option X) (wide : ℕ) where
  -- the k symbols that s means, where s is what a text has from the place on; or the first characters that mean none
  unfoldable pub symbols_from : ℕ → ℕ → List ℕ → Result (List X) TextFault
  symbols_from zero at s = Ok []
  symbols_from (suc k) at s = before at (meant (take wide s)) (symbols_from k (at + wide) (drop wide s))

  -- the symbols that a text means, or its fault: a text that no whole number of symbols fills has fault 1 at its first character
  unfoldable pub text_read : List ℕ → Result (List X) TextFault
  text_read s = cond (length s % wide == 0) (symbols_from (length s / wide) 0 s) (Err (record { fault = NotWhole; at = 0 }))

-- how many symbols were read, or the fault
abbrev pub counted : {X : Type 0} → Result (List X) TextFault → Result ℕ TextFault
counted (Ok xs) = Ok (length xs)
counted (Err f) = Err f

-- the symbols that were read, none under a fault
abbrev pub symbols_in : {X : Type 0} → Result (List X) TextFault → List X
symbols_in (Ok xs) = xs
symbols_in (Err f) = []

-- why a text is not read into an area of `room` symbols: its fault, then an area that is too short
abbrev pub text_refusal : {X : Type 0} → Result (List X) TextFault → ℕ → Option TextRefusal
text_refusal (Ok xs) room = option_map Area (short_of room (length xs))
text_refusal (Err f) room = Some (Fault f)

-- what reading a text into an area answers: how many symbols it has, or why it is refused
abbrev pub read_answer : {X : Type 0} → Result (List X) TextFault → List X → Result ℕ TextRefusal
read_answer r area = answered (text_refusal r (length area)) (length (symbols_in r))

-- an area once the symbols of a text are read into it, or as it was under a refusal
abbrev pub read_into : {X : Type 0} → Result (List X) TextFault → List X → List X
read_into r area = unless (text_refusal r (length area)) area (over (symbols_in r) area)

-- what a fault says of a text: no whole number of symbols fills it; or symbols write it up to the place, and no symbol is written there
abbrev pub Faulty : {X : Type 0} → (X → List ℕ) → ℕ → List ℕ → SymbolFault → ℕ → Type 0
Faulty {X} chars wide s NotWhole at = (at ≡ 0) × (length s % wide ≢ 0)
Faulty {X} chars wide s NoMeaning at = (xs : List X) × (flat_map chars xs ≡ take at s) × ((x : X) → chars x ≢ take wide (drop at s))

-- reading and writing are inverse to each other, and a fault is where it is said to be
pub record Tells {X : Type 0} (chars : X → List ℕ) (wide : ℕ) (s : List ℕ) (r : Result (List X) TextFault) : Type 0 where
  pub written : (xs : List X) → r ≡ Ok xs → flat_map chars xs ≡ s
  pub read : (xs : List X) → flat_map chars xs ≡ s → r ≡ Ok xs
  pub faulty : (f : TextFault) → r ≡ Err f → Faulty chars wide s f.fault f.at
