use Rattle.std.proofs.Common.{◌≡◌, IsUtf8, chars}
use Rattle.std.specs.Str.Iter.{chars_rest}
use Rattle.std.specs.List.{list_all}
use Rattle.xml_text.specs.Characters.{is_character}
use Rattle.xml_text.proofs.texts.has_characters_alone.Given as goal

abbrev pub invariant-loop-c : goal.invariant-loop-c
invariant-loop-c l =
    IsUtf8 (chars_rest l.c-iterator) × (list_all is_character (chars (chars_rest l.c-iterator)) ≡ list_all is_character (chars l.fn.text))
