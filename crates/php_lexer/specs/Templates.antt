-- What the types of this crate that speak of templates stand for.
use Rattle.std.specs.Prelude.{ℕ, ◌≤◌, Bool, true, false, List, [], ◌∷◌, ◌++◌, map, Option, Some, None}
use Rattle.std.specs.declared.vec.Vec.{Vec}
use Rattle.std.specs.declared.alloc.Global.{Global}
use Rattle.php_syntax.specs.declared.token.PartKey.{PartKey}
use Rattle.php_syntax.specs.Tokens.{PlainKey, PlainPart, plain_part, read_part, plain_key, plain_part_of}
use Rattle.lexical_grammar.specs.Texts as texts
use Rattle.lexical_grammar.specs.Rows as rows
use Rattle.php_lexer.specs.declared.template.Enclosure.{Enclosure}
use Rattle.php_lexer.specs.declared.template.Enclosure.TheVariants.{Quotes, Lines}
use Rattle.php_lexer.specs.declared.template.TextUnit.{TextUnit}
use Rattle.php_lexer.specs.declared.template.TextUnit.TheVariants.{Byte, Reads}
use Rattle.php_lexer.specs.declared.template.TextRow.{TextRow}
use Rattle.php_lexer.specs.declared.template.TextRow.TheVariants.{Whole, Broken, Endless}

-- a key and how many bytes it takes, where there is one
abbrev pub maybe_key : Option (PartKey × ℕ) → texts.KeyAt
maybe_key None = None
maybe_key (Some key) = Some (plain_key key.0, key.1)

-- keys and how many bytes they take, where there are any
abbrev pub maybe_keys : Option (Vec PartKey Global × ℕ) → Option (List PlainKey × ℕ)
maybe_keys None = None
maybe_keys (Some keys) = Some (map plain_key keys.0.items, keys.1)

-- the plain form of what a template stands in
abbrev pub enclosure_of : Enclosure → texts.Enclosure
enclosure_of Quotes = texts.quotes
enclosure_of Lines = texts.lines

-- the plain form of what one place of a template gives
abbrev pub unit_of : TextUnit → texts.Unit_of
unit_of (Byte b) = texts.byte b
unit_of (Reads name keys) = texts.reads name (map plain_key keys.items)

-- the row of the parts that a row of units makes
abbrev pub parts_row : rows.Row texts.Unit_of → rows.Row PlainPart
parts_row (rows.whole units n) = rows.whole (texts.parts_of units) n
parts_row (rows.broken n) = rows.broken n
parts_row rows.endless = rows.endless

-- the plain form of a row of parts
abbrev pub plain_row : TextRow → rows.Row PlainPart
plain_row (Whole parts n) = rows.whole (map plain_part_of parts.items) n
plain_row (Broken n) = rows.broken n
plain_row Endless = rows.endless

-- the row comes to its end, whatever stands before it
abbrev pub has_end_of : {X : Type 0} → rows.Row X → Bool
has_end_of (rows.whole xs n) = true
has_end_of (rows.broken n) = true
has_end_of rows.endless = false

-- bytes as one part, if there are any
abbrev pub bytes_part : List ℕ → List PlainPart
bytes_part [] = []
bytes_part (b ∷ bytes) = plain_part (b ∷ bytes) ∷ []

-- a text takes no more than so many bytes
abbrev pub TextWithin : ℕ → TextRow → Type 0
TextWithin most (Whole parts n) = n ≤ most
TextWithin most (Broken n) = n ≤ most
TextWithin most Endless = 0 ≤ most

-- the parts, and the bytes behind them, with one unit more
abbrev pub parts_with : List PlainPart → List ℕ → texts.Unit_of → List PlainPart
parts_with parts plain (texts.byte b) = parts
parts_with parts plain (texts.reads name keys) = (parts ++ bytes_part plain) ++ read_part name keys ∷ []

-- the bytes behind the last read of a variable, with one unit more: a read leaves none
abbrev pub plain_with : List ℕ → texts.Unit_of → List ℕ
plain_with plain (texts.byte b) = plain ++ b ∷ []
plain_with plain (texts.reads name keys) = []
