-- Of which beginnings a piece can come, on worked examples and near misses.
use Rattle.std.proofs.Common.{◌≡◌, ℕ, Bool, true, false, List, [], ◌∷◌, ◌++◌, Option, Some, None, codes, refl}
use Rattle.std.specs.Char.{encode_utf8}
use Rattle.std.specs.Str.{chars}
use Rattle.dtd_model.specs.declared.dtd.DoctypeRule.TheVariants.{Strict}
use Rattle.dtd_model.specs.Table.{cdata, one_of, implied, required, fixed, nothing, text_and, Table}
use Rattle.character_steps.specs.Bytes.{decoded, is_begun}
use Rattle.character_steps.specs.Encoded.{Held}
use Rattle.page_steps.specs.PageSteps.{PageState, page_step}
use Rattle.front_laws.specs.Laws.{narrow_state}

-- `odd` has a required attribute that can have no value; the value of `note` has a single quote
abbrev some_table : Table
some_table = record {
  elements =
      record {
        name = codes "pre";
        holding = text_and [];
        attributes =
            record { name = codes "class"; kind = cdata; presence = implied } ∷ record { name = codes "dir"; kind = one_of (codes "ltr" ∷ codes "rtl" ∷ []); presence = implied }
            ∷ record { name = codes "note"; kind = cdata; presence = fixed (codes "it's") } ∷ [];
      }
      ∷ record { name = codes "img"; holding = nothing; attributes = record { name = codes "alt"; kind = cdata; presence = required } ∷ [] }
      ∷ record { name = codes "odd"; holding = nothing; attributes = record { name = codes "no"; kind = one_of []; presence = required } ∷ [] } ∷ [];
  entities = codes "nbsp" ∷ [];
  doctype = Strict;
}

is_some_state : Option (Held PageState) → Bool
is_some_state None = false
is_some_state (Some h) = true

-- a piece can come of the bytes
abbrev can_come : List ℕ → Bool
can_come bytes = is_some_state (narrow_state some_table bytes)

new_name : can_come (codes "<pre class='a' d") ≡ true
unfolding page_step decoded chars is_some_state is_begun encode_utf8
new_name = refl

name_stands : can_come (codes "<pre class='a' c") ≡ false
unfolding page_step decoded chars is_some_state is_begun encode_utf8
name_stands = refl

required_left : can_come (codes "<img ") ≡ true
unfolding page_step decoded chars is_some_state is_begun encode_utf8
required_left = refl

required_missing : can_come (codes "<img/") ≡ false
unfolding page_step decoded chars is_some_state is_begun encode_utf8
required_missing = refl

required_stands : can_come (codes "<img alt=''/") ≡ true
unfolding page_step decoded chars is_some_state is_begun encode_utf8
required_stands = refl

no_value : can_come (codes "<o") ≡ false
unfolding page_step decoded chars is_some_state is_begun encode_utf8
no_value = refl

a_whole_end : can_come (codes "</pre ") ≡ true
unfolding page_step decoded chars is_some_state is_begun encode_utf8
a_whole_end = refl

no_whole_end : can_come (codes "</pr ") ≡ false
unfolding page_step decoded chars is_some_state is_begun encode_utf8
no_whole_end = refl

a_whole_choice : can_come (codes "<pre dir=' ltr ") ≡ true
unfolding page_step decoded chars is_some_state is_begun encode_utf8
a_whole_choice = refl

no_whole_choice : can_come (codes "<pre dir=' lt ") ≡ false
unfolding page_step decoded chars is_some_state is_begun encode_utf8
no_whole_choice = refl

first_word : can_come (codes "<?xml v") ≡ true
unfolding page_step decoded chars is_some_state is_begun encode_utf8
first_word = refl

no_first_word : can_come (codes "<?xml e") ≡ false
unfolding page_step decoded chars is_some_state is_begun encode_utf8
no_first_word = refl

next_word : can_come (codes "<?xml version='1.0' s") ≡ true
unfolding page_step decoded chars is_some_state is_begun encode_utf8
next_word = refl

no_next_word : can_come (codes "<?xml version='1.0' v") ≡ false
unfolding page_step decoded chars is_some_state is_begun encode_utf8
no_next_word = refl

other_quote : can_come (codes "<pre note=\"it") ≡ true
unfolding page_step decoded chars is_some_state is_begun encode_utf8
other_quote = refl

this_quote : can_come (codes "<pre note='it") ≡ false
unfolding page_step decoded chars is_some_state is_begun encode_utf8
this_quote = refl

several_in_text : can_come (codes "<pre class='" ++ 0xC3 ∷ []) ≡ true
unfolding page_step decoded chars is_some_state is_begun encode_utf8
several_in_text = refl

several_in_fixed : can_come (codes "<pre note=\"it" ++ 0xC3 ∷ []) ≡ false
unfolding page_step decoded chars is_some_state is_begun encode_utf8
several_in_fixed = refl

several_in_word : can_come (codes "<?xml version='" ++ 0xC3 ∷ []) ≡ false
unfolding page_step decoded chars is_some_state is_begun encode_utf8
several_in_word = refl
