-- The tokens and states of pages, character by character and byte by byte, on worked examples and near misses.
use Rattle.std.proofs.Common.{◌≡◌, ℕ, List, [], ◌∷◌, true, false, Option, Some, codes, refl}
use Rattle.std.specs.Char.{encode_utf8}
use Rattle.std.specs.Str.{chars}
use Rattle.text_base.specs.declared.page_token.PageToken.{PageToken}
use Rattle.text_base.specs.declared.page_token.PageToken.TheVariants as token
use Rattle.dtd_model.specs.declared.dtd.DoctypeRule.TheVariants.{Strict}
use Rattle.dtd_model.specs.Mini.{mini_table}
use Rattle.dtd_model.specs.Table.{cdata, id, nmtokens, one_of, implied, required, fixed, text_and, nothing, Table}
use Rattle.page_model.specs.Places.{at_beginning, behind}
use Rattle.piece_steps.specs.Readers.{state_after, all_tokens}
use Rattle.character_steps.specs.Bytes.{decoded, is_begun}
use Rattle.character_steps.specs.Encoded.{encoded}
use Rattle.page_model.specs.Fronts.{in_tag, in_reference, nothing as nothing_open}
use Rattle.page_model.specs.OpenTags.{in_value}
use Rattle.page_model.specs.OpenValues.{in_decimal, in_words}
use Rattle.page_steps.specs.PageSteps.{PageState, page_step, page_reader, page_hold}

-- paragraphs and images, with attributes of each kind
abbrev some_table : Table
some_table = record {
  elements =
      record {
        name = codes "p";
        holding = text_and [];
        attributes =
            record { name = codes "class"; kind = nmtokens; presence = implied } ∷ record { name = codes "id"; kind = id; presence = implied }
            ∷ record { name = codes "dir"; kind = one_of (codes "ltr" ∷ codes "rtl" ∷ []); presence = implied } ∷ [];
      }
      ∷ record {
        name = codes "img";
        holding = nothing;
        attributes = record { name = codes "alt"; kind = cdata; presence = required } ∷ record { name = codes "space"; kind = cdata; presence = fixed (codes "keep") } ∷ [];
      } ∷ [];
  entities = codes "nbsp" ∷ [];
  doctype = Strict;
}

abbrev tokens : List ℕ → List PageToken
tokens cs = all_tokens (page_reader some_table) (Some (record { place = at_beginning; inside = nothing_open })) cs

abbrev bytes_tokens : List ℕ → List PageToken
bytes_tokens bytes = all_tokens (encoded (page_reader some_table) page_hold) (Some (record { state = record { place = at_beginning; inside = nothing_open }; begun = [] })) bytes

abbrev state : List ℕ → Option PageState
state cs = state_after (page_reader some_table) (Some (record { place = at_beginning; inside = nothing_open })) cs

a_remark : tokens (codes "<!-- --><p>a &lt;</p>") ≡ token.Misc ∷ token.Start (record { 0 = 0 }) ∷ token.Text ∷ token.Blank ∷ token.Text ∷ token.End (record { 0 = 0 }) ∷ []
unfolding page_step
a_remark = refl

-- one attribute twice, one that is not declared, one that has to stand, and text behind what is bad
twice : tokens (codes "<p class=\"x\" class=\"x\">") ≡ token.Bad ∷ []
unfolding page_step
twice = refl

other : tokens (codes "<p lang=\"x\">") ≡ token.Bad ∷ []
unfolding page_step
other = refl

left_out : tokens (codes "<img />a") ≡ token.Bad ∷ []
unfolding page_step
left_out = refl

an_image : tokens (codes "<img alt=\"&nbsp;&#65;\" space = 'keep'/>") ≡ token.Start (record { 0 = 1 }) ∷ token.End (record { 0 = 1 }) ∷ []
unfolding page_step encode_utf8
an_image = refl

another_value : tokens (codes "<img alt='' space='kept'/>") ≡ token.Bad ∷ []
unfolding page_step encode_utf8
another_value = refl

a_choice : tokens (codes "<p dir=\" rtl \"></p >") ≡ token.Start (record { 0 = 0 }) ∷ token.End (record { 0 = 0 }) ∷ []
unfolding page_step
a_choice = refl

no_choice : tokens (codes "<p dir=\"rt\">") ≡ token.Bad ∷ []
unfolding page_step
no_choice = refl

two_names : tokens (codes "<p id='a b'>") ≡ token.Bad ∷ []
unfolding page_step
two_names = refl

two_tokens : tokens (codes "<p class='1 2'>") ≡ token.Start (record { 0 = 0 }) ∷ []
unfolding page_step
two_tokens = refl

-- references
too_large : tokens (codes "&#x110000;") ≡ token.Bad ∷ []
unfolding page_step
too_large = refl

euro : tokens (codes "&#x20AC;") ≡ token.Text ∷ []
unfolding page_step
euro = refl

unknown : tokens (codes "&euro;") ≡ token.Bad ∷ []
unfolding page_step
unknown = refl

-- brackets, comments, sections, instructions
end_of_section : tokens (codes "]]>") ≡ token.Text ∷ token.Text ∷ token.Bad ∷ []
unfolding page_step
end_of_section = refl

one_bracket : tokens (codes "]>") ≡ token.Text ∷ token.Text ∷ []
unfolding page_step
one_bracket = refl

dashes : tokens (codes "<!-- -- -->") ≡ token.Bad ∷ []
unfolding page_step
dashes = refl

three_dashes : tokens (codes "<!-- --->") ≡ token.Bad ∷ []
unfolding page_step
three_dashes = refl

a_section : tokens (codes "<![CDATA[]]]]>a") ≡ token.Text ∷ token.Text ∷ []
unfolding page_step
a_section = refl

an_instruction : tokens (codes "<?php?><?php a?b?>") ≡ token.Misc ∷ token.Misc ∷ []
unfolding page_step
an_instruction = refl

-- the XML declaration stands first only
declared : tokens (codes "<?xml version='1.0' encoding=\"utf-8\"?> ") ≡ token.Blank ∷ []
unfolding page_step
declared = refl

declared_late : tokens (codes " <?xml version='1.0'?>") ≡ token.Blank ∷ token.Bad ∷ []
unfolding page_step
declared_late = refl

out_of_order : tokens (codes "<?xml version='1.0' standalone='no' encoding='utf-8'?>") ≡ token.Bad ∷ []
unfolding page_step
out_of_order = refl

-- document types
strict_type : tokens (codes "<!DOCTYPE html PUBLIC \"-//W3C//DTD XHTML 1.0 Strict//EN\" '' >") ≡ token.Doctype ∷ []
unfolding page_step
strict_type = refl

no_type : tokens (codes "<!DOCTYPE html>") ≡ token.Bad ∷ []
unfolding page_step
no_type = refl

free_type : all_tokens (page_reader mini_table) (Some (record { place = at_beginning; inside = nothing_open })) (codes "<!DOCTYPE html SYSTEM 'a'>") ≡ token.Doctype ∷ []
unfolding page_step mini_table
free_type = refl

-- bytes: a mark and e with an accent; bytes that are no character
a_mark : bytes_tokens (0xEF ∷ 0xBB ∷ 0xBF ∷ 0xC3 ∷ 0xA9 ∷ []) ≡ token.Text ∷ []
unfolding page_step decoded is_begun chars encode_utf8
a_mark = refl

no_text : bytes_tokens (0x41 ∷ 0xC3 ∷ 0x41 ∷ []) ≡ token.Text ∷ token.Bad ∷ []
unfolding page_step decoded is_begun chars encode_utf8
no_text = refl

cut_off : bytes_tokens (0x41 ∷ 0xC3 ∷ []) ≡ token.Text ∷ token.Bad ∷ []
unfolding page_step decoded is_begun chars encode_utf8
cut_off = refl

-- states
in_number : state (codes "a&#0065") ≡ Some (record { place = behind 0; inside = in_reference (in_decimal 65) })
unfolding page_step
in_number = refl

in_classes : state (codes "<p id='a' class=\"b ") ≡ Some (record { place = at_beginning; inside = in_tag (codes "p") (codes "id" ∷ []) (in_value (codes "class") 34 (in_words false true)) })
unfolding page_step
in_classes = refl
