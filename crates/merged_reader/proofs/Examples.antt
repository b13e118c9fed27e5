-- First bytes and those that stand for them, on the rows of RFC 3629, 4, with near misses; and where all characters lead on alike.
use Rattle.std.proofs.Common.{◌≡◌, Bool, true, false, [], ◌∷◌, None, codes, refl}
use Rattle.character_steps.specs.Bytes.{is_begun}
use Rattle.page_model.specs.Places.{Place, at_beginning, behind_mark, behind}
use Rattle.page_model.specs.Fronts.{Open, nothing, in_tag_name, in_tag, in_comment, in_section, in_instruction, in_declaration, in_doctype}
use Rattle.page_model.specs.OpenDoctypes.{in_public, in_system}
use Rattle.page_model.specs.OpenTags.{in_value}
use Rattle.page_model.specs.OpenValues.{OpenValue, in_text, in_fixed}
use Rattle.merged_reader.specs.Alike.{representative}
use Rattle.merged_reader.specs.Merging.{takes_all_alike, merged_begun}

-- one byte: C2 to DF; E1 to EC, and EE; F1 to F3
two : representative (0xDF ∷ []) ≡ 0xC2 ∷ []
unfolding is_begun
two = refl

three : representative (0xEC ∷ []) ≡ 0xE1 ∷ []
unfolding is_begun
three = refl

private_use : representative (0xEE ∷ []) ≡ 0xE1 ∷ []
unfolding is_begun
private_use = refl

four : representative (0xF3 ∷ []) ≡ 0xF1 ∷ []
unfolding is_begun
four = refl

-- those behind which not each byte that continues may stand: E0, ED, F0, F4; and EF, since EF BF stay
e0 : representative (0xE0 ∷ []) ≡ 0xE0 ∷ []
unfolding is_begun
e0 = refl

ed : representative (0xED ∷ []) ≡ 0xED ∷ []
unfolding is_begun
ed = refl

ef : representative (0xEF ∷ []) ≡ 0xEF ∷ []
unfolding is_begun
ef = refl

f0 : representative (0xF0 ∷ []) ≡ 0xF0 ∷ []
unfolding is_begun
f0 = refl

f4 : representative (0xF4 ∷ []) ≡ 0xF4 ∷ []
unfolding is_begun
f4 = refl

-- two bytes
two_of_three : representative (0xE0 ∷ 0xA0 ∷ []) ≡ 0xE1 ∷ 0x80 ∷ []
unfolding is_begun
two_of_three = refl

before_surrogates : representative (0xED ∷ 0x9F ∷ []) ≡ 0xE1 ∷ 0x80 ∷ []
unfolding is_begun
before_surrogates = refl

near_none : representative (0xEF ∷ 0xBE ∷ []) ≡ 0xE1 ∷ 0x80 ∷ []
unfolding is_begun
near_none = refl

before_none : representative (0xEF ∷ 0xBF ∷ []) ≡ 0xEF ∷ 0xBF ∷ []
unfolding is_begun
before_none = refl

two_of_four : representative (0xF0 ∷ 0x90 ∷ []) ≡ 0xF1 ∷ 0x80 ∷ []
unfolding is_begun
two_of_four = refl

the_last : representative (0xF4 ∷ 0x8F ∷ []) ≡ 0xF1 ∷ 0x80 ∷ []
unfolding is_begun
the_last = refl

-- three bytes
three_of_four : representative (0xF4 ∷ 0x8F ∷ 0xBF ∷ []) ≡ 0xF1 ∷ 0x80 ∷ 0x80 ∷ []
unfolding is_begun
three_of_four = refl

-- none, and what no character begins with: ASCII, a byte that continues, too many bytes, a surrogate
none : representative [] ≡ []
unfolding is_begun
none = refl

letter : representative (0x41 ∷ []) ≡ 0x41 ∷ []
unfolding is_begun
letter = refl

behind_another : representative (0x80 ∷ []) ≡ 0x80 ∷ []
unfolding is_begun
behind_another = refl

too_many : representative (0xE0 ∷ 0x9F ∷ []) ≡ 0xE0 ∷ 0x9F ∷ []
unfolding is_begun
too_many = refl

surrogate : representative (0xED ∷ 0xA0 ∷ []) ≡ 0xED ∷ 0xA0 ∷ []
unfolding is_begun
surrogate = refl

-- Where all characters of several bytes lead on alike.

abbrev at : Place → Open → Bool
at place o = takes_all_alike (record { place = place; inside = o })

-- in a tag `<p class='`, in a value that is read so far as this
abbrev valued : OpenValue → Open
valued v = in_tag (codes "p") [] (in_value (codes "class") 39 v)

content : at (behind 0) nothing ≡ true
content = refl

behind_brackets : at (behind 2) nothing ≡ true
behind_brackets = refl

behind_the_mark : at behind_mark nothing ≡ true
behind_the_mark = refl

before_the_page : at at_beginning nothing ≡ false
before_the_page = refl

first_comment : at at_beginning (in_comment 1) ≡ true
first_comment = refl

a_section : at (behind 0) (in_section 0) ≡ true
a_section = refl

an_instruction : at (behind 0) (in_instruction true) ≡ true
an_instruction = refl

a_value : at (behind 0) (valued in_text) ≡ true
a_value = refl

fixed_value : at (behind 0) (valued (in_fixed [])) ≡ false
fixed_value = refl

declared : at at_beginning (in_declaration [] (in_value (codes "version") 34 (in_fixed []))) ≡ false
declared = refl

system : at (behind 0) (in_doctype (in_system 34)) ≡ true
system = refl

public : at (behind 0) (in_doctype (in_public 34 None)) ≡ false
public = refl

a_name : at (behind 0) (in_tag_name (codes "p")) ≡ false
a_name = refl

-- what is kept: in text U+20AC is as U+1000, in a fixed value and before the page it is not
in_content : merged_begun (record { place = behind 0; inside = nothing }) (0xE2 ∷ 0x82 ∷ []) ≡ 0xE1 ∷ 0x80 ∷ []
unfolding is_begun
in_content = refl

in_a_fixed_value : merged_begun (record { place = behind 0; inside = valued (in_fixed []) }) (0xE2 ∷ 0x82 ∷ []) ≡ 0xE2 ∷ 0x82 ∷ []
in_a_fixed_value = refl

of_the_mark : merged_begun (record { place = at_beginning; inside = nothing }) (0xEF ∷ 0xBB ∷ []) ≡ 0xEF ∷ 0xBB ∷ []
of_the_mark = refl
