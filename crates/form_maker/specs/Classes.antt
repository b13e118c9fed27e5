-- What the classes of bytes stand for.
use Rattle.std.specs.Prelude.{ℕ, Bool, not, ◌==◌, ◌&&◌, ◌||◌, nat_lt}
use Rattle.std.specs.Char.{is_ascii_digit, is_ascii_hexdigit, digit_value}
use Rattle.xml_text.specs.Characters.{is_blank, is_character}
use Rattle.xml_text.specs.Names.{begins_name, in_name, in_public_identifier}
use Rattle.page_model.specs.Parts.{character}
use Rattle.page_model.specs.Pieces.{may_follow}
use Rattle.page_model.specs.Places.{at_beginning, behind_mark, behind}
use Rattle.page_forms.specs.Remarks.{is_letter}
use Rattle.page_forms.specs.Simple.{is_mark}
use Rattle.form_maker.specs.declared.class.Base.{Base}
use Rattle.form_maker.specs.declared.class.Base.TheVariants.{Decimal, Hexadecimal}
use Rattle.form_maker.specs.declared.class.DigitTest.{DigitTest}
use Rattle.form_maker.specs.declared.class.DigitTest.TheVariants.{EqualTo, Above, Below, Between}
use Rattle.form_maker.specs.declared.class.CharacterTest.{CharacterTest}
use Rattle.form_maker.specs.declared.class.CharacterTest.TheVariants.{OtherThan, Neither, InValue, TextAtBeginning, TextBehindMark, TextBehind}
use Rattle.form_maker.specs.declared.class.ByteClass.{ByteClass}
use Rattle.form_maker.specs.declared.class.ByteClass.TheVariants.{Blank, Letter, NameStart, NameStartBut, InName, InNameBut, PublicBut, Digit, Character}

-- digits of a base
abbrev pub is_digit : Base → ℕ → Bool
is_digit Decimal = is_ascii_digit
is_digit Hexadecimal = is_ascii_hexdigit

-- digits by their values
abbrev pub digit_test : DigitTest → ℕ → Bool
digit_test (EqualTo d) c = digit_value c == digit_value d
digit_test (Above d) c = nat_lt (digit_value d) (digit_value c)
digit_test (Below d) c = nat_lt (digit_value c) (digit_value d)
digit_test (Between d e) c = nat_lt (digit_value d) (digit_value c) && nat_lt (digit_value c) (digit_value e)

-- no `<`, no `&`, no `]` and no white space
abbrev pub is_text : ℕ → Bool
is_text c = not (c == 60 || c == 38 || is_mark c)

-- characters of ASCII by what they may be
abbrev pub character_test : CharacterTest → ℕ → Bool
character_test (OtherThan d) c = not (c == d)
character_test (Neither d) c = not (c == d || c == 62)
character_test (InValue q) c = not (c == 60 || c == 38 || c == q)
character_test TextAtBeginning c = is_text c && may_follow at_beginning (character c)
character_test TextBehindMark c = is_text c && may_follow behind_mark (character c)
character_test (TextBehind k) c = is_text c && may_follow (behind k) (character c)

-- a class of bytes
abbrev pub in_class : ByteClass → ℕ → Bool
in_class Blank = is_blank
in_class (Letter w) = is_letter w
in_class NameStart = begins_name
in_class (NameStartBut w) = λ c. begins_name c && not (is_letter w c)
in_class InName = in_name
in_class (InNameBut w) = λ c. in_name c && not (is_letter w c)
in_class (PublicBut q) = λ c. in_public_identifier c && not (c == q)
in_class (Digit base test) = λ c. is_digit base c && digit_test test c
in_class (Character test) = λ c. is_character c && character_test test c
