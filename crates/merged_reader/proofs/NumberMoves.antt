-- A state with an open number and the one with the least number of its kind put out the same, and lead on to states that the same stand for.
use Rattle.std.proofs.Common.{◌≡◌, ℕ, ◌+◌, ◌*◌, Bool, true, false, ◌&&◌, ◌||◌, not, nat_eq, List, [], ◌∷◌, ◌++◌, Option, Some, None, refl, sym, ◌∙◌, ap}
use Rattle.std.specs.Prelude.{if◌then◌else◌, ◌==◌}
use Rattle.std.specs.Char.{is_ascii_digit, is_ascii_hexdigit, digit_value}
use Rattle.text_base.specs.declared.page_token.PageToken.{PageToken}
use Rattle.text_base.specs.declared.page_token.PageToken.TheVariants as token
use Rattle.xml_text.specs.Characters.{is_character}
use Rattle.number_kinds.specs.Kinds.{decimal_kind, hexadecimal_kind}
use Rattle.number_kinds.proofs.KindLemmas.{small_decimal, small_hexadecimal, ten_leads, sixteen_leads}
use Rattle.dtd_model.specs.Table.{Declared, Rule, Table}
use Rattle.page_model.specs.Attributes.{find_rule}
use Rattle.page_model.specs.Parts.{is_quote}
use Rattle.page_model.specs.Places.{Place, at_beginning, behind_mark, behind}
use Rattle.piece_steps.specs.Insides.{Turn, out, stop, inside, stepped}
use Rattle.piece_steps.specs.Readers.{Move, go, done, fail, kept, to_state, put_out, last_tokens}
use Rattle.character_steps.specs.Bytes.{decoded, is_begun}
use Rattle.character_steps.specs.Encoded.{Held, lifted, by_character, is_some_byte}
use Rattle.page_model.specs.Fronts.{Open, nothing, in_reference, in_opener, in_tag_name, in_tag, at_empty_end, in_end_tag, in_comment, in_section, in_target, behind_target, in_instruction, in_declaration, at_declaration_end, in_doctype, find_declared, kept_place}
use Rattle.page_model.specs.OpenTags.{OpenAttribute, between, in_attribute_name, behind_name, behind_equals, in_value}
use Rattle.page_model.specs.OpenValues.{OpenReference, in_entity, at_number, in_decimal, in_hexadecimal, capped, OpenValue, in_text, in_reference as in_value_reference, in_fixed, in_choice, in_words}
use Rattle.page_steps.specs.AttributeSteps.{ends_with, stops, valued}
use Rattle.page_steps.specs.PageSteps.{OpenMove, PageState, page_step, page_reader, page_hold, put_place, open_move, reference_move, tag_by, tag_move, is_inside}
use Rattle.page_steps.specs.ReferenceSteps.{reference_step, reference_good, decimal_step, hexadecimal_step}
use Rattle.page_steps.specs.TagSteps.{step_of, good_of, names_with}
use Rattle.page_steps.specs.ValueSteps.{in_reference_of, semicolon_step, may_stand}
use Rattle.page_endings.specs.Ending.{reference_can_end, value_can_end, declared_so, may_be_all, tag_can_end, open_can_end, value_takes, attribute_takes, takes_several, value_goes_on, tag_goes_on, goes_on_with}
use Rattle.page_narrowing.specs.Passing.{passes, narrow_reader}
use Rattle.merged_reader.specs.Merging.{value_alike, attribute_alike, open_alike}
use Rattle.merged_reader.specs.Numbers.{merged_reference, merged_value, merged_attribute, merged_open, merged_numbers}

-- References.

again : (r : OpenReference) → merged_reference (merged_reference r) ≡ merged_reference r
again (in_entity name) = refl
again at_number = refl
again (in_decimal n) = ap (λ (k : ℕ). in_decimal k) (ten_leads n).same
again (in_hexadecimal None) = refl
again (in_hexadecimal (Some n)) = ap (λ (k : ℕ). in_hexadecimal (Some k)) (sixteen_leads n).same

same_good : (entities : List (List ℕ)) (r : OpenReference) → reference_good entities (merged_reference r) ≡ reference_good entities r
same_good entities (in_entity name) = refl
same_good entities at_number = refl
same_good entities (in_decimal n) = (ten_leads n).good
same_good entities (in_hexadecimal None) = refl
same_good entities (in_hexadecimal (Some n)) = (sixteen_leads n).good

same_passes : (entities : List (List ℕ)) (r : OpenReference) → reference_can_end entities (merged_reference r) ≡ reference_can_end entities r
same_passes entities (in_entity name) = refl
same_passes entities at_number = refl
same_passes entities (in_decimal n) = (ten_leads n).within
same_passes entities (in_hexadecimal None) = refl
same_passes entities (in_hexadecimal (Some n)) = (sixteen_leads n).within

abbrev merged_option : Option OpenReference → Option OpenReference
merged_option None = None
merged_option (Some r) = Some (merged_reference r)

decimal_same : (n c : ℕ) → merged_option (decimal_step (decimal_kind n) c) ≡ merged_option (decimal_step n c)
decimal_same n c = at (is_ascii_digit c) refl
  where
    at : (b : Bool) → is_ascii_digit c ≡ b
        → merged_option (if b then Some (in_decimal (capped (decimal_kind n * 10 + digit_value c))) else None)
        ≡ merged_option (if b then Some (in_decimal (capped (n * 10 + digit_value c))) else None)
    at true e = ap (λ (k : ℕ). Some (in_decimal k))
        ((ten_leads (decimal_kind n * 10 + digit_value c)).capped
        ∙ (ten_leads n).digits (digit_value c) (small_decimal c e)
        ∙ sym (ten_leads (n * 10 + digit_value c)).capped)
    at false e = refl

hexadecimal_same : (n c : ℕ) → merged_option (hexadecimal_step (hexadecimal_kind n) c) ≡ merged_option (hexadecimal_step n c)
hexadecimal_same n c = at (is_ascii_hexdigit c) refl
  where
    at : (b : Bool) → is_ascii_hexdigit c ≡ b
        → merged_option (if b then Some (in_hexadecimal (Some (capped (hexadecimal_kind n * 16 + digit_value c)))) else None)
        ≡ merged_option (if b then Some (in_hexadecimal (Some (capped (n * 16 + digit_value c)))) else None)
    at true e = ap (λ (k : ℕ). Some (in_hexadecimal (Some k)))
        ((sixteen_leads (hexadecimal_kind n * 16 + digit_value c)).capped
        ∙ (sixteen_leads n).digits (digit_value c) (small_hexadecimal c e)
        ∙ sym (sixteen_leads (n * 16 + digit_value c)).capped)
    at false e = refl

same_step : (r : OpenReference) (c : ℕ) → merged_option (reference_step (merged_reference r) c) ≡ merged_option (reference_step r c)
same_step (in_entity name) c = refl
same_step at_number c = refl
same_step (in_decimal n) c = decimal_same n c
same_step (in_hexadecimal None) c = refl
same_step (in_hexadecimal (Some n)) c = hexadecimal_same n c

-- Moves between what is open.

abbrev merged_move : OpenMove → OpenMove
merged_move (go o) = go (merged_open o)
merged_move (done place tokens) = done place tokens
merged_move fail = fail

stepped_same : (exit : Place) (tokens : List PageToken) (o : Option OpenReference)
    → merged_move (inside in_reference (done exit tokens) (stepped o)) ≡ inside in_reference (done exit tokens) (stepped (merged_option o))
stepped_same exit tokens None = refl
stepped_same exit tokens (Some r) = refl

references : (entities : List (List ℕ)) (r : OpenReference) (c : ℕ)
    → merged_move (reference_move entities (merged_reference r) c) ≡ merged_move (reference_move entities r c)
references entities r c = at (nat_eq c 59)
  where
    at : (b : Bool)
        → merged_move (inside in_reference (done (behind 0) (token.Text ∷ [])) (if b then (if reference_good entities (merged_reference r) then out else stop) else stepped (reference_step (merged_reference r) c)))
        ≡ merged_move (inside in_reference (done (behind 0) (token.Text ∷ [])) (if b then (if reference_good entities r then out else stop) else stepped (reference_step r c)))
    at true = ap (λ (g : Bool). let t : Turn OpenReference = if g then out else stop in merged_move (inside in_reference (done (behind 0) (token.Text ∷ [])) t)) (same_good entities r)
    at false =
        stepped_same (behind 0) (token.Text ∷ []) (reference_step (merged_reference r) c)
        ∙ ap (λ (o : Option OpenReference). inside in_reference (done (behind 0) (token.Text ∷ [])) (stepped o)) (same_step r c)
        ∙ sym (stepped_same (behind 0) (token.Text ∷ []) (reference_step r c))

-- Values.

abbrev merged_value_option : Option OpenValue → Option OpenValue
merged_value_option None = None
merged_value_option (Some v) = Some (merged_value v)

reference_value : (o : Option OpenReference) → merged_value_option (in_reference_of o) ≡ in_reference_of (merged_option o)
reference_value None = refl
reference_value (Some r) = refl

semicolons : (entities : List (List ℕ)) (r : OpenReference) (c : ℕ)
    → merged_value_option (semicolon_step entities (merged_reference r) c) ≡ merged_value_option (semicolon_step entities r c)
semicolons entities r c = at (c == 59)
  where
    at : (b : Bool)
        → merged_value_option (if b then (if reference_good entities (merged_reference r) then Some in_text else None) else in_reference_of (reference_step (merged_reference r) c))
        ≡ merged_value_option (if b then (if reference_good entities r then Some in_text else None) else in_reference_of (reference_step r c))
    at true = ap (λ (g : Bool). merged_value_option (if g then Some in_text else None)) (same_good entities r)
    at false =
        reference_value (reference_step (merged_reference r) c) ∙ ap in_reference_of (same_step r c) ∙ sym (reference_value (reference_step r c))

value_steps : (entities : List (List ℕ)) (o : Option Declared) (r : OpenReference) (c : ℕ)
    → merged_value_option (step_of entities o (in_value_reference (merged_reference r)) c) ≡ merged_value_option (step_of entities o (in_value_reference r) c)
value_steps entities None r c = refl
value_steps entities (Some d) r c = at (may_stand c)
  where
    at : (b : Bool)
        → merged_value_option (if b then semicolon_step entities (merged_reference r) c else None) ≡ merged_value_option (if b then semicolon_step entities r c else None)
    at true = semicolons entities r c
    at false = refl

value_ends : (entities : List (List ℕ)) (o : Option Declared) (r : OpenReference)
    → good_of entities o (in_value_reference (merged_reference r)) ≡ good_of entities o (in_value_reference r)
value_ends entities None r = refl
value_ends entities (Some d) r = refl

module _ (table : Table) where
  -- Tags.

  valued_same : (tag : List ℕ) (rule : Rule) (names : List (List ℕ)) (name : List ℕ) (quote c : ℕ) (o : Option OpenValue)
      → merged_move (tag_by table tag rule names c (valued name quote o)) ≡ tag_by table tag rule names c (valued name quote (merged_value_option o))
  valued_same tag rule names name quote c None = refl
  valued_same tag rule names name quote c (Some v) = refl

  tags : (tag : List ℕ) (names : List (List ℕ)) (name : List ℕ) (quote : ℕ) (r : OpenReference) (c : ℕ) (o : Option Rule)
      → merged_move (tag_move table tag names (in_value name quote (in_value_reference (merged_reference r))) c o)
      ≡ merged_move (tag_move table tag names (in_value name quote (in_value_reference r)) c o)
  tags tag names name quote r c None = refl
  tags tag names name quote r c (Some rule) = at (c == quote)
    where
      at : (b : Bool)
          → merged_move (tag_by table tag rule names c (if b then (if good_of table.entities (find_declared rule.attributes name) (in_value_reference (merged_reference r)) then ends_with (names_with rule.attributes names name) else stops) else valued name quote (step_of table.entities (find_declared rule.attributes name) (in_value_reference (merged_reference r)) c)))
          ≡ merged_move (tag_by table tag rule names c (if b then (if good_of table.entities (find_declared rule.attributes name) (in_value_reference r) then ends_with (names_with rule.attributes names name) else stops) else valued name quote (step_of table.entities (find_declared rule.attributes name) (in_value_reference r) c)))
      at true = ap (λ (g : Bool). merged_move (tag_by table tag rule names c (if g then ends_with (names_with rule.attributes names name) else stops)))
          (value_ends table.entities (find_declared rule.attributes name) r)
      at false =
          valued_same tag rule names name quote c (step_of table.entities (find_declared rule.attributes name) (in_value_reference (merged_reference r)) c)
          ∙ ap (λ (o : Option OpenValue). tag_by table tag rule names c (valued name quote o)) (value_steps table.entities (find_declared rule.attributes name) r c)
          ∙ sym (valued_same tag rule names name quote c (step_of table.entities (find_declared rule.attributes name) (in_value_reference r) c))

  attributes : (place : Place) (tag : List ℕ) (names : List (List ℕ)) (o : OpenAttribute) (c : ℕ)
      → merged_move (open_move table place (in_tag tag names (merged_attribute o)) c) ≡ merged_move (open_move table place (in_tag tag names o) c)
  attributes place tag names (in_value name quote (in_value_reference r)) c = tags tag names name quote r c (find_rule table.elements tag)
  attributes place tag names (in_value name quote in_text) c = refl
  attributes place tag names (in_value name quote (in_fixed value)) c = refl
  attributes place tag names (in_value name quote (in_choice word spaced)) c = refl
  attributes place tag names (in_value name quote (in_words inside one)) c = refl
  attributes place tag names (between spaced) c = refl
  attributes place tag names (in_attribute_name name) c = refl
  attributes place tag names (behind_name name) c = refl
  attributes place tag names (behind_equals name) c = refl

  opens : (place : Place) (o : Open) (c : ℕ) → merged_move (open_move table place (merged_open o) c) ≡ merged_move (open_move table place o c)
  opens place (in_reference r) c = references table.entities r c
  opens place (in_tag tag names o) c = attributes place tag names o c
  opens place nothing c = refl
  opens place (in_opener begun) c = refl
  opens place (in_tag_name name) c = refl
  opens place (at_empty_end name names) c = refl
  opens place (in_end_tag name spaced) c = refl
  opens place (in_comment dashes) c = refl
  opens place (in_section brackets) c = refl
  opens place (in_target o) c = refl
  opens place behind_target c = refl
  opens place (in_instruction asked) c = refl
  opens place (in_declaration names o) c = refl
  opens place at_declaration_end c = refl
  opens place (in_doctype o) c = refl

-- What is open.

kept_same : (o : Open) (begun : List ℕ) (place : Place) → kept_place (merged_open o) begun place ≡ kept_place o begun place
kept_same o begun at_beginning = refl
kept_same o begun behind_mark = refl
kept_same nothing begun (behind k) = refl
kept_same (in_reference r) begun (behind k) = refl
kept_same (in_opener begun) bytes (behind k) = refl
kept_same (in_tag_name name) begun (behind k) = refl
kept_same (in_tag tag names o) begun (behind k) = refl
kept_same (at_empty_end name names) begun (behind k) = refl
kept_same (in_end_tag name spaced) begun (behind k) = refl
kept_same (in_comment dashes) begun (behind k) = refl
kept_same (in_section brackets) begun (behind k) = refl
kept_same (in_target o) begun (behind k) = refl
kept_same behind_target begun (behind k) = refl
kept_same (in_instruction asked) begun (behind k) = refl
kept_same (in_declaration names o) begun (behind k) = refl
kept_same at_declaration_end begun (behind k) = refl
kept_same (in_doctype o) begun (behind k) = refl

again_attribute : (o : OpenAttribute) → merged_attribute (merged_attribute o) ≡ merged_attribute o
again_attribute (between spaced) = refl
again_attribute (in_attribute_name name) = refl
again_attribute (behind_name name) = refl
again_attribute (behind_equals name) = refl
again_attribute (in_value name quote in_text) = refl
again_attribute (in_value name quote (in_value_reference r)) = ap (λ (g : OpenReference). in_value name quote (in_value_reference g)) (again r)
again_attribute (in_value name quote (in_fixed value)) = refl
again_attribute (in_value name quote (in_choice word spaced)) = refl
again_attribute (in_value name quote (in_words inside one)) = refl

again_open : (o : Open) → merged_open (merged_open o) ≡ merged_open o
again_open nothing = refl
again_open (in_reference r) = ap (λ (g : OpenReference). in_reference g) (again r)
again_open (in_opener begun) = refl
again_open (in_tag_name name) = refl
again_open (in_tag tag names o) = ap (λ (a : OpenAttribute). in_tag tag names a) (again_attribute o)
again_open (at_empty_end name names) = refl
again_open (in_end_tag name spaced) = refl
again_open (in_comment dashes) = refl
again_open (in_section brackets) = refl
again_open (in_target o) = refl
again_open behind_target = refl
again_open (in_instruction asked) = refl
again_open (in_declaration names o) = refl
again_open at_declaration_end = refl
again_open (in_doctype o) = refl

inside_same : (o : Open) → is_inside (merged_open o) ≡ is_inside o
inside_same nothing = refl
inside_same (in_reference r) = refl
inside_same (in_opener begun) = refl
inside_same (in_tag_name name) = refl
inside_same (in_tag tag names o) = refl
inside_same (at_empty_end name names) = refl
inside_same (in_end_tag name spaced) = refl
inside_same (in_comment dashes) = refl
inside_same (in_section brackets) = refl
inside_same (in_target o) = refl
inside_same behind_target = refl
inside_same (in_instruction asked) = refl
inside_same (in_declaration names o) = refl
inside_same at_declaration_end = refl
inside_same (in_doctype o) = refl

value_takes_same : (v : OpenValue) → value_takes (merged_value v) ≡ value_takes v
value_takes_same in_text = refl
value_takes_same (in_value_reference r) = refl
value_takes_same (in_fixed value) = refl
value_takes_same (in_choice word spaced) = refl
value_takes_same (in_words inside one) = refl

attribute_takes_same : (o : OpenAttribute) → attribute_takes (merged_attribute o) ≡ attribute_takes o
attribute_takes_same (between spaced) = refl
attribute_takes_same (in_attribute_name name) = refl
attribute_takes_same (behind_name name) = refl
attribute_takes_same (behind_equals name) = refl
attribute_takes_same (in_value name quote v) = ap (λ (b : Bool). not (is_quote quote) || b) (value_takes_same v)

takes_same : (o : Open) → takes_several (merged_open o) ≡ takes_several o
takes_same nothing = refl
takes_same (in_reference r) = refl
takes_same (in_opener begun) = refl
takes_same (in_tag_name name) = refl
takes_same (in_tag tag names o) = attribute_takes_same o
takes_same (at_empty_end name names) = refl
takes_same (in_end_tag name spaced) = refl
takes_same (in_comment dashes) = refl
takes_same (in_section brackets) = refl
takes_same (in_target o) = refl
takes_same behind_target = refl
takes_same (in_instruction asked) = refl
takes_same (in_declaration names o) = refl
takes_same at_declaration_end = refl
takes_same (in_doctype o) = refl

value_alike_same : (v : OpenValue) → value_alike (merged_value v) ≡ value_alike v
value_alike_same in_text = refl
value_alike_same (in_value_reference r) = refl
value_alike_same (in_fixed value) = refl
value_alike_same (in_choice word spaced) = refl
value_alike_same (in_words inside one) = refl

attribute_alike_same : (o : OpenAttribute) → attribute_alike (merged_attribute o) ≡ attribute_alike o
attribute_alike_same (between spaced) = refl
attribute_alike_same (in_attribute_name name) = refl
attribute_alike_same (behind_name name) = refl
attribute_alike_same (behind_equals name) = refl
attribute_alike_same (in_value name quote v) = ap (λ (b : Bool). is_quote quote && b) (value_alike_same v)

pub alike_same : (place : Place) (o : Open) → open_alike place (merged_open o) ≡ open_alike place o
alike_same place nothing = refl
alike_same place (in_reference r) = refl
alike_same place (in_opener begun) = refl
alike_same place (in_tag_name name) = refl
alike_same place (in_tag tag names o) = attribute_alike_same o
alike_same place (at_empty_end name names) = refl
alike_same place (in_end_tag name spaced) = refl
alike_same place (in_comment dashes) = refl
alike_same place (in_section brackets) = refl
alike_same place (in_target o) = refl
alike_same place behind_target = refl
alike_same place (in_instruction asked) = refl
alike_same place (in_declaration names o) = refl
alike_same place at_declaration_end = refl
alike_same place (in_doctype o) = refl

-- States and bytes.

abbrev merged_state_move : Move Place PageToken PageState → Move Place PageToken PageState
merged_state_move (go s) = go (merged_numbers s)
merged_state_move (done place tokens) = done place tokens
merged_state_move fail = fail

abbrev at_place : Place → Open → PageState
at_place place o = record { place = place; inside = o }

put_same : (place : Place) (m : OpenMove) → merged_state_move (put_place place m) ≡ put_place place (merged_move m)
put_same place (go o) = ap (λ (p : Place). go (at_place p (merged_open o))) (sym (kept_same o [] place))
put_same place (done next tokens) = refl
put_same place fail = refl

-- the state with the number that stands for that of its open reference
abbrev pub numbered : Held PageState → Held PageState
numbered h = record { state = merged_numbers h.state; begun = h.begun }

abbrev pub numbered_option : Option (Held PageState) → Option (Held PageState)
numbered_option None = None
numbered_option (Some h) = Some (numbered h)

abbrev numbered_move : Move Place PageToken (Held PageState) → Move Place PageToken (Held PageState)
numbered_move (go h) = go (numbered h)
numbered_move (done place tokens) = done place tokens
numbered_move fail = fail

lifted_same : (m : Move Place PageToken PageState) → numbered_move (lifted m) ≡ lifted (merged_state_move m)
lifted_same (go s) = refl
lifted_same (done place tokens) = refl
lifted_same fail = refl

held_same : (s : PageState) → merged_numbers (page_hold (merged_numbers s)) ≡ merged_numbers (page_hold s)
held_same s =
    ap (λ (p : Place). at_place p (merged_open (merged_open s.inside))) (kept_same s.inside (0x80 ∷ []) s.place)
    ∙ ap (λ (o : Open). at_place (kept_place s.inside (0x80 ∷ []) s.place) o) (again_open s.inside)

module _ (table : Table) where
  steps : (s : PageState) (c : ℕ) → merged_state_move (page_step table (merged_numbers s) c) ≡ merged_state_move (page_step table s c)
  unfolding page_step
  steps s c = at (is_character c)
    where
      at : (b : Bool)
          → merged_state_move (if b then put_place s.place (open_move table s.place (merged_open s.inside) c) else fail)
          ≡ merged_state_move (if b then put_place s.place (open_move table s.place s.inside c) else fail)
      at true =
          put_same s.place (open_move table s.place (merged_open s.inside) c)
          ∙ ap (λ (m : OpenMove). put_place s.place m) (opens table s.place s.inside c)
          ∙ sym (put_same s.place (open_move table s.place s.inside c))
      at false = refl

  byte_moves : (s : PageState) (bytes : List ℕ) (o : Option ℕ)
      → numbered_move (by_character (page_reader table) page_hold (merged_numbers s) bytes o) ≡ numbered_move (by_character (page_reader table) page_hold s bytes o)
  byte_moves s bytes (Some c) =
      lifted_same (page_step table (merged_numbers s) c)
      ∙ ap (λ (m : Move Place PageToken PageState). lifted m) (steps s c)
      ∙ sym (lifted_same (page_step table s c))
  byte_moves s bytes None = at (is_begun bytes)
    where
      at : (b : Bool)
          → numbered_move (if b then go (record { state = page_hold (merged_numbers s); begun = bytes }) else fail)
          ≡ numbered_move (if b then go (record { state = page_hold s; begun = bytes }) else fail)
      at true = ap (λ (t : PageState). let h : Held PageState = record { state = t; begun = bytes } in go h) (held_same s)
      at false = refl

  -- The test of states.

  declared_same : (o : Option Declared) (quote : ℕ) (r : OpenReference)
      → declared_so (λ d. value_can_end table.entities d quote (in_value_reference (merged_reference r))) o ≡ declared_so (λ d. value_can_end table.entities d quote (in_value_reference r)) o
  declared_same None quote r = refl
  declared_same (Some d) quote r = same_passes table.entities r

  tag_same : (o : Option Rule) (tag : List ℕ) (names : List (List ℕ)) (name : List ℕ) (quote : ℕ) (r : OpenReference)
      → tag_can_end table.entities tag names (in_value name quote (in_value_reference (merged_reference r))) o
      ≡ tag_can_end table.entities tag names (in_value name quote (in_value_reference r)) o
  tag_same None tag names name quote r = refl
  tag_same (Some rule) tag names name quote r =
      ap (λ (b : Bool). b && may_be_all table.entities tag rule.attributes (name ∷ names)) (declared_same (find_declared rule.attributes name) quote r)

  attribute_same : (tag : List ℕ) (names : List (List ℕ)) (o : OpenAttribute)
      → open_can_end table (in_tag tag names (merged_attribute o)) ≡ open_can_end table (in_tag tag names o)
  attribute_same tag names (in_value name quote (in_value_reference r)) = tag_same (find_rule table.elements tag) tag names name quote r
  attribute_same tag names (in_value name quote in_text) = refl
  attribute_same tag names (in_value name quote (in_fixed value)) = refl
  attribute_same tag names (in_value name quote (in_choice word spaced)) = refl
  attribute_same tag names (in_value name quote (in_words inside one)) = refl
  attribute_same tag names (between spaced) = refl
  attribute_same tag names (in_attribute_name name) = refl
  attribute_same tag names (behind_name name) = refl
  attribute_same tag names (behind_equals name) = refl

  open_same : (o : Open) → open_can_end table (merged_open o) ≡ open_can_end table o
  open_same nothing = refl
  open_same (in_reference r) = same_passes table.entities r
  open_same (in_opener begun) = refl
  open_same (in_tag_name name) = refl
  open_same (in_tag tag names o) = attribute_same tag names o
  open_same (at_empty_end name names) = refl
  open_same (in_end_tag name spaced) = refl
  open_same (in_comment dashes) = refl
  open_same (in_section brackets) = refl
  open_same (in_target o) = refl
  open_same behind_target = refl
  open_same (in_instruction asked) = refl
  open_same (in_declaration names o) = refl
  open_same at_declaration_end = refl
  open_same (in_doctype o) = refl

  -- what a value goes on with
  value_goes_same : (d : Option Declared) (v : OpenValue) (u : List ℕ) → value_goes_on d (merged_value v) u ≡ value_goes_on d v u
  value_goes_same None v u = refl
  value_goes_same (Some d) in_text u = refl
  value_goes_same (Some d) (in_value_reference r) u = refl
  value_goes_same (Some d) (in_fixed value) u = refl
  value_goes_same (Some d) (in_choice word spaced) u = refl
  value_goes_same (Some d) (in_words inside one) u = refl

  tag_goes_same : (f : Option Rule) (o : OpenAttribute) (u : List ℕ) → tag_goes_on f (merged_attribute o) u ≡ tag_goes_on f o u
  tag_goes_same None o u = refl
  tag_goes_same (Some rule) (between spaced) u = refl
  tag_goes_same (Some rule) (in_attribute_name name) u = refl
  tag_goes_same (Some rule) (behind_name name) u = refl
  tag_goes_same (Some rule) (behind_equals name) u = refl
  tag_goes_same (Some rule) (in_value name quote v) u = ap (λ (b : Bool). not (is_quote quote) || b) (value_goes_same (find_declared rule.attributes name) v u)

  goes_same : (o : Open) (u : List ℕ) → goes_on_with table (merged_open o) u ≡ goes_on_with table o u
  goes_same nothing u = refl
  goes_same (in_reference r) u = refl
  goes_same (in_opener begun) u = refl
  goes_same (in_tag_name name) u = refl
  goes_same (in_tag tag names o) u = tag_goes_same (find_rule table.elements tag) o u
  goes_same (at_empty_end name names) u = refl
  goes_same (in_end_tag name spaced) u = refl
  goes_same (in_comment dashes) u = refl
  goes_same (in_section brackets) u = refl
  goes_same (in_target o) u = refl
  goes_same behind_target u = refl
  goes_same (in_instruction asked) u = refl
  goes_same (in_declaration names o) u = refl
  goes_same at_declaration_end u = refl
  goes_same (in_doctype o) u = refl

  passes_same : (h : Held PageState) → passes table (numbered h) ≡ passes table h
  passes_same h =
      ap (λ (b : Bool). b && (if is_some_byte h.begun then takes_several (merged_open h.state.inside) && goes_on_with table (merged_open h.state.inside) h.begun else true)) (open_same h.state.inside)
      ∙ ap (λ (b : Bool). open_can_end table h.state.inside && (if is_some_byte h.begun then b && goes_on_with table (merged_open h.state.inside) h.begun else true)) (takes_same h.state.inside)
      ∙ ap (λ (b : Bool). open_can_end table h.state.inside && (if is_some_byte h.begun then takes_several h.state.inside && b else true)) (goes_same h.state.inside h.begun)

  kept_moves : (m : Move Place PageToken (Held PageState)) → numbered_move (kept (passes table) m) ≡ kept (passes table) (numbered_move m)
  kept_moves (go h) = at (passes table h) ∙ ap (λ (b : Bool). if b then go (numbered h) else fail) (sym (passes_same h))
    where
      at : (b : Bool) → numbered_move (if b then go h else fail) ≡ (if b then go (numbered h) else fail)
      at true = refl
      at false = refl
  kept_moves (done place tokens) = refl
  kept_moves fail = refl

  -- The narrowed reader.

  moves : (h : Held PageState) (b : ℕ) → numbered_move ((narrow_reader table).step (numbered h) b) ≡ numbered_move ((narrow_reader table).step h b)
  moves h b =
      let bytes : List ℕ = h.begun ++ b ∷ [] in
      kept_moves (by_character (page_reader table) page_hold (merged_numbers h.state) bytes (decoded bytes))
      ∙ ap (λ (m : Move Place PageToken (Held PageState)). kept (passes table) m) (byte_moves h.state bytes (decoded bytes))
      ∙ sym (kept_moves (by_character (page_reader table) page_hold h.state bytes (decoded bytes)))

  leads_same : (m : Move Place PageToken (Held PageState)) → numbered_option (to_state (narrow_reader table) m) ≡ to_state (narrow_reader table) (numbered_move m)
  leads_same (go h) = refl
  leads_same (done place tokens) = refl
  leads_same fail = refl

  puts_same : (m : Move Place PageToken (Held PageState)) → put_out (narrow_reader table) (numbered_move m) ≡ put_out (narrow_reader table) m
  puts_same (go h) = refl
  puts_same (done place tokens) = refl
  puts_same fail = refl

  pub numbers_lead : (h : Held PageState) (b : ℕ)
      → numbered_option (to_state (narrow_reader table) ((narrow_reader table).step (numbered h) b))
      ≡ numbered_option (to_state (narrow_reader table) ((narrow_reader table).step h b))
  numbers_lead h b =
      leads_same ((narrow_reader table).step (numbered h) b)
      ∙ ap (to_state (narrow_reader table)) (moves h b)
      ∙ sym (leads_same ((narrow_reader table).step h b))

  pub numbers_put : (h : Held PageState) (b : ℕ)
      → put_out (narrow_reader table) ((narrow_reader table).step (numbered h) b) ≡ put_out (narrow_reader table) ((narrow_reader table).step h b)
  numbers_put h b =
      sym (puts_same ((narrow_reader table).step (numbered h) b))
      ∙ ap (put_out (narrow_reader table)) (moves h b)
      ∙ puts_same ((narrow_reader table).step h b)

  pub numbers_last : (h : Held PageState) → last_tokens (narrow_reader table) (numbered h) ≡ last_tokens (narrow_reader table) h
  numbers_last h = ap (λ (b : Bool). if is_some_byte h.begun || b then token.Bad ∷ [] else []) (inside_same h.state.inside)
