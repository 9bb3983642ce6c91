-- The constants of a sheet: the symbols of its literals. Assumes nothing.
use Rattle.std.specs.Prelude.{ℕ, cond, List, [], Option}
use Rattle.std.specs.List.{flat_map}
use Rattle.lines.specs.declared.token.Token.{Token}
use Rattle.lines.specs.Tokens.{tokens}
use Rattle.symbols.specs.Texts.{text_read, symbols_in}
use Rattle.sheets.specs.Items.{contents}
use Rattle.sheets.specs.Parts.{part_of}
use Rattle.sheets.specs.Sheets.{lines_of}
use Rattle.sheets.specs.Tallies.{is_literal}

module _ {X : Type 0} (meant : List ℕ → Option X) (wide : ℕ) where
  -- the symbols that a token brings: those between the quotes of a literal, none of any other token
  abbrev pub token_symbols : List ℕ → Token → List X
  token_symbols s t = cond (is_literal s t) (symbols_in (text_read meant wide (part_of s (contents t)))) []

  -- the symbols of a line's literals, left to right
  abbrev pub line_symbols : List ℕ → List X
  line_symbols s = flat_map (token_symbols s) (tokens s)

  -- the symbols of a text's literals, line by line; a comment has no tokens, so none of its quotes is a literal's
  abbrev pub sheet_symbols : List ℕ → List X
  sheet_symbols text = flat_map line_symbols (lines_of text)
