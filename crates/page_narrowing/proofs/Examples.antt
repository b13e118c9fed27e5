-- What passes and what does not, on worked examples and near misses.
use Rattle.std.proofs.Common.{◌≡◌, ℕ, Bool, true, false, List, [], ◌∷◌, Option, Some, None, codes, refl}
use Rattle.std.specs.Char.{encode_utf8}
use Rattle.std.specs.Str.{chars}
use Rattle.dtd_model.specs.declared.dtd.DoctypeRule.TheVariants.{Strict}
use Rattle.dtd_model.specs.Table.{cdata, one_of, implied, fixed, text_and, Table}
use Rattle.piece_steps.specs.Readers.{state_after}
use Rattle.character_steps.specs.Bytes.{decoded, is_begun}
use Rattle.character_steps.specs.Encoded.{Held, at_state}
use Rattle.page_steps.specs.PageSteps.{PageState, page_step}
use Rattle.page_step_laws.specs.Laws.{beginning}
use Rattle.page_narrowing.specs.Passing.{narrow_reader}

abbrev some_table : Table
some_table = record {
  elements =
      record {
        name = codes "pre";
        holding = text_and [];
        attributes =
            record { name = codes "class"; kind = cdata; presence = implied } ∷ record { name = codes "dir"; kind = one_of (codes "ltr" ∷ codes "rtl" ∷ []); presence = implied }
            ∷ record { name = codes "space"; kind = cdata; presence = fixed (codes "keep") } ∷ [];
      } ∷ [];
  entities = codes "nbsp" ∷ [];
  doctype = Strict;
}

is_some_state : Option (Held PageState) → Bool
is_some_state None = false
is_some_state (Some h) = true

-- a piece may still come of the bytes
abbrev may_come : List ℕ → Bool
may_come bytes = is_some_state (state_after (narrow_reader some_table) (Some (at_state beginning)) bytes)

a_name : may_come (codes "<pr") ≡ true
unfolding page_step decoded chars is_some_state is_begun encode_utf8
a_name = refl

no_name : may_come (codes "<po") ≡ false
unfolding page_step decoded chars is_some_state is_begun encode_utf8
no_name = refl

an_end : may_come (codes "<pre></pr") ≡ true
unfolding page_step decoded chars is_some_state is_begun encode_utf8
an_end = refl

no_end : may_come (codes "</q") ≡ false
unfolding page_step decoded chars is_some_state is_begun encode_utf8
no_end = refl

an_attribute : may_come (codes "<pre cla") ≡ true
unfolding page_step decoded chars is_some_state is_begun encode_utf8
an_attribute = refl

no_attribute : may_come (codes "<pre clo") ≡ false
unfolding page_step decoded chars is_some_state is_begun encode_utf8
no_attribute = refl

no_choice : may_come (codes "<pre dir='lr") ≡ false
unfolding page_step decoded chars is_some_state is_begun encode_utf8
no_choice = refl

no_fixed : may_come (codes "<pre space='kept") ≡ false
unfolding page_step decoded chars is_some_state is_begun encode_utf8
no_fixed = refl

an_entity : may_come (codes "&nb") ≡ true
unfolding page_step decoded chars is_some_state is_begun encode_utf8
an_entity = refl

no_entity : may_come (codes "&nq") ≡ false
unfolding page_step decoded chars is_some_state is_begun encode_utf8
no_entity = refl

the_last : may_come (codes "&#x10FFFF") ≡ true
unfolding page_step decoded chars is_some_state is_begun encode_utf8
the_last = refl

one_beyond : may_come (codes "&#x110000") ≡ false
unfolding page_step decoded chars is_some_state is_begun encode_utf8
one_beyond = refl

-- the first byte of a character of two, in a value and in a name
in_a_value : may_come (60 ∷ 112 ∷ 114 ∷ 101 ∷ 32 ∷ 99 ∷ 108 ∷ 97 ∷ 115 ∷ 115 ∷ 61 ∷ 39 ∷ 0xC3 ∷ []) ≡ true
unfolding page_step decoded chars is_some_state is_begun encode_utf8
in_a_value = refl

in_a_name : may_come (60 ∷ 112 ∷ 0xC3 ∷ []) ≡ false
unfolding page_step decoded chars is_some_state is_begun encode_utf8
in_a_name = refl
