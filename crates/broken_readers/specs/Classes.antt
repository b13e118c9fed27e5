-- What the classes of bytes stand for.
use Rattle.std.specs.Prelude.{ℕ, Bool, not, ◌==◌, ◌||◌}
use Rattle.xml_text.specs.Characters.{is_blank}
use Rattle.xml_text.specs.Names.{in_name}
use Rattle.broken_readers.specs.declared.class.PieceClass.{PieceClass}
use Rattle.broken_readers.specs.declared.class.PieceClass.TheVariants.{Text, Reference, Tag, EndTag, Value, But, Neither}

-- which bytes of ASCII are in the class
abbrev pub in_class : PieceClass → ℕ → Bool
in_class Text = λ c. not (c == 60 || c == 38)
in_class Reference = λ c. in_name c || c == 35
in_class Tag = λ c. in_name c || is_blank c || (c == 61 || c == 47)
in_class EndTag = λ c. in_name c || is_blank c
in_class (Value q) = λ c. not (c == 60 || c == q)
in_class (But d) = λ c. not (c == d)
in_class (Neither d) = λ c. not (c == d || c == 62)
