-- What the types of this crate that speak of rows stand for.
use Rattle.std.specs.Prelude.{ℕ, ◌<◌, ◌≤◌, List, Option, Some, None}
use Rattle.lexical_grammar.specs.Rows as rows
use Rattle.php_lexer.specs.declared.found.Found.{Found}
use Rattle.php_lexer.specs.declared.found.Found.TheVariants.{Item, Wrong, Over, Missing}

-- what was found, with its item seen by view
abbrev pub plain_found : {X Y : Type 0} → (X → Y) → Found X → rows.Found Y
plain_found view (Item x n) = rows.item (view x) n
plain_found view (Wrong n) = rows.wrong n
plain_found view (Over n) = rows.over n
plain_found view Missing = rows.missing

-- an item and a wrong place take one byte at least, and no more than so many
abbrev pub FoundWithin : {X : Type 0} → ℕ → Found X → Type 0
FoundWithin most (Item x n) = (0 < n) × (n ≤ most)
FoundWithin most (Wrong n) = (0 < n) × (n ≤ most)
FoundWithin most (Over n) = n ≤ most
FoundWithin most Missing = Unit {0}

-- the bytes of a single-quoted text and how many bytes it takes; None where it has no end
abbrev pub text_row : Option (List ℕ × ℕ) → rows.Row ℕ
text_row None = rows.endless
text_row (Some found) = rows.whole found.0 found.1
