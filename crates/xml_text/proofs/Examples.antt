-- What is a character, a name or a text, and what is not.
use Rattle.std.proofs.Common.{◌≡◌, true, false, [], refl, codes}
use Rattle.xml_text.specs.Characters.{is_character}
use Rattle.xml_text.specs.Names.{is_name, is_name_token, in_public_identifier}
use Rattle.xml_text.specs.Texts.{holds}

-- XML 1.0, 2.2: any character but the surrogate blocks, FFFE and FFFF
pub last_before_surrogates : is_character 0xD7FF ≡ true
last_before_surrogates = refl

pub a_surrogate : is_character 0xD800 ≡ false
a_surrogate = refl

pub not_fffe : is_character 0xFFFE ≡ false
not_fffe = refl

pub the_last_one : is_character 0x10FFFF ≡ true
the_last_one = refl

pub a_form_feed : is_character 12 ≡ false
a_form_feed = refl

pub a_name : is_name (codes "xml:lang") ≡ true
a_name = refl

pub begins_with_a_digit : is_name (codes "1a") ≡ false
begins_with_a_digit = refl

pub a_token : is_name_token (codes "1a") ≡ true
a_token = refl

pub no_token : is_name_token [] ≡ false
no_token = refl

-- XML 1.0, 2.3: a quotation mark is no PubidChar
pub a_quote : in_public_identifier 34 ≡ false
a_quote = refl

pub an_end_of_a_section : holds (codes "]]>") (codes "a]]]>b") ≡ true
an_end_of_a_section = refl

pub no_end_of_a_section : holds (codes "]]>") (codes "a]] >b") ≡ false
no_end_of_a_section = refl
