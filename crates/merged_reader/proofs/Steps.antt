-- A character of several bytes leads on as each other where all are taken alike.
use Rattle.std.proofs.Common.{◌≡◌, ℕ, ◌≤◌, ◌<◌, Bool, true, false, nat_eq, nat_le, List, [], ◌∷◌, Option, Some, None, refl, sym, ◌∙◌, ap, arith}
use Rattle.std.specs.Prelude.{if◌then◌else◌}
use Rattle.std.proofs.lemmas.Bool.{and_parts}
use Rattle.std.proofs.lemmas.Bool.Decides.{nat_tests}
use Rattle.text_base.specs.declared.page_token.PageToken.TheVariants as token
use Rattle.xml_text.specs.Characters.{is_character}
use Rattle.dtd_model.specs.Table.{Declared, Rule, Table}
use Rattle.page_model.specs.Attributes.{find_rule}
use Rattle.page_model.specs.Parts.{is_quote}
use Rattle.page_model.specs.Places.{Place, at_beginning, behind_mark, behind, brackets}
use Rattle.piece_steps.specs.Insides.{on, inside}
use Rattle.piece_steps.specs.Readers.{go, done, fail}
use Rattle.page_model.specs.Fronts.{Open, nothing, in_reference, in_opener, in_tag_name, in_tag, at_empty_end, in_end_tag, in_comment, in_section, in_target, behind_target, in_instruction, in_declaration, at_declaration_end, in_doctype, find_declared}
use Rattle.page_model.specs.OpenDoctypes.{OpenDoctype, before_root, in_root, behind_root, in_word, behind_word, in_public, behind_public, in_system, behind_system}
use Rattle.page_model.specs.OpenTags.{OpenAttribute, between, in_attribute_name, behind_name, behind_equals, in_value}
use Rattle.page_model.specs.OpenValues.{OpenValue, in_text, in_reference as in_value_reference, in_fixed, in_choice, in_words}
use Rattle.page_steps.specs.AttributeSteps.{ends_with, stops, Allowing, attribute_move, valued}
use Rattle.page_steps.specs.TagSteps.{of_element, step_of}
use Rattle.page_steps.specs.ValueSteps.{value_step}
use Rattle.page_steps.specs.PageSteps.{OpenMove, PageState, put_place, page_step, open_move, first_move, comment_move, section_move, instruction_move, tag_move, tag_by}
use Rattle.merged_reader.specs.Merging.{place_alike, attribute_alike, doctype_alike, open_alike, takes_all_alike}

-- none of the ASCII characters
not_this : (c k : ℕ) → 128 ≤ c → k < 128 → nat_eq c k ≡ false
not_this c k h l = grind (arith, nat_tests)

not_quote : (c q : ℕ) → 128 ≤ c → is_quote q ≡ true → nat_eq c q ≡ false
not_quote c q h l = grind (arith, nat_tests)

-- between pieces
behind_mark_here : (c : ℕ) → 128 ≤ c → first_move behind_mark c ≡ done (behind 0) (token.Text ∷ [])
behind_mark_here c h = grind (arith, nat_tests)

behind_here : (k c : ℕ) → 128 ≤ c → first_move (behind k) c ≡ done (behind 0) (token.Text ∷ [])
behind_here k c h = grind (arith, nat_tests)

pieces : (place : Place) (c : ℕ) → 128 ≤ c → place_alike place ≡ true → first_move place c ≡ done (behind 0) (token.Text ∷ [])
pieces at_beginning c h e = cc
pieces behind_mark c h e = behind_mark_here c h
pieces (behind k) c h e = behind_here k c h

comments : (dashes c : ℕ) → 128 ≤ c → comment_move dashes c ≡ (if nat_le 2 dashes then fail else go (in_comment 0))
comments dashes c h = grind (arith, nat_tests)

sections : (brackets c : ℕ) → 128 ≤ c → section_move brackets c ≡ go (in_section 0)
sections brackets c h = grind (arith, nat_tests)

instructions : (asked : Bool) (c : ℕ) → 128 ≤ c → instruction_move asked c ≡ go (in_instruction false)
instructions asked c h = grind (arith, nat_tests)

-- the system literal
literals : (table : Table) (place : Place) (q c : ℕ) → 128 ≤ c → is_quote q ≡ true
    → open_move table place (in_doctype (in_system q)) c ≡ go (in_doctype (in_system q))
literals table place q c h e =
    ap (λ (b : Bool). inside in_doctype (done (behind 0) (token.Doctype ∷ [])) (if b then on behind_system else on (in_system q))) (not_quote c q h e)

-- a value of CDATA
abbrev text_of : Option Declared → Option OpenValue
text_of None = None
text_of (Some d) = Some in_text

value_text : (entities : List (List ℕ)) (o : Option Declared) (c : ℕ) → 128 ≤ c → is_character c ≡ true → step_of entities o in_text c ≡ text_of o
value_text entities None c h i = refl
value_text entities (Some d) c h i = by c h i
  where
    by : (c : ℕ) → 128 ≤ c → is_character c ≡ true → value_step entities d in_text c ≡ Some in_text
    by c h i = grind (arith, nat_tests)

values : (entities : List (List ℕ)) (rules : List Declared) (names : List (List ℕ)) (name : List ℕ) (q c : ℕ) → 128 ≤ c → is_character c ≡ true
    → is_quote q ≡ true → attribute_move (of_element entities rules) names (in_value name q in_text) c ≡ valued name q (text_of (find_declared rules name))
values entities rules names name q c h i e =
    let a : Allowing = of_element entities rules in
    ap (λ (b : Bool). if b then (if a.good name in_text then ends_with (a.added names name) else stops) else valued name q (a.step name in_text c))
    (not_quote c q h e)
    ∙ ap (λ (o : Option OpenValue). valued name q o) (value_text entities (find_declared rules name) c h i)

abbrev declared_move : List ℕ → List (List ℕ) → List ℕ → ℕ → Option Declared → OpenMove
declared_move tag names name q None = fail
declared_move tag names name q (Some d) = go (in_tag tag names (in_value name q in_text))

by_rule : (table : Table) (tag : List ℕ) (rule : Rule) (names : List (List ℕ)) (name : List ℕ) (q c : ℕ) → 128 ≤ c → is_character c ≡ true → is_quote q ≡ true
    → tag_move table tag names (in_value name q in_text) c (Some rule) ≡ declared_move tag names name q (find_declared rule.attributes name)
by_rule table tag rule names name q c h i e =
    ap (tag_by table tag rule names c) (values table.entities rule.attributes names name q c h i e) ∙ by (find_declared rule.attributes name)
  where
    by : (o : Option Declared) → tag_by table tag rule names c (valued name q (text_of o)) ≡ declared_move tag names name q o
    by None = refl
    by (Some d) = refl

-- Two such characters.

module _ (table : Table) (c d : ℕ) (h : 128 ≤ c) (i : is_character c ≡ true) (g : 128 ≤ d) (j : is_character d ≡ true) where
  tags : (tag : List ℕ) (names : List (List ℕ)) (name : List ℕ) (q : ℕ) (o : Option Rule) → is_quote q ≡ true
      → tag_move table tag names (in_value name q in_text) c o ≡ tag_move table tag names (in_value name q in_text) d o
  tags tag names name q None e = refl
  tags tag names name q (Some rule) e = by_rule table tag rule names name q c h i e ∙ sym (by_rule table tag rule names name q d g j e)

  attributes : (place : Place) (tag : List ℕ) (names : List (List ℕ)) (o : OpenAttribute) → attribute_alike o ≡ true
      → open_move table place (in_tag tag names o) c ≡ open_move table place (in_tag tag names o) d
  attributes place tag names (between spaced) e = cc
  attributes place tag names (in_attribute_name name) e = cc
  attributes place tag names (behind_name name) e = cc
  attributes place tag names (behind_equals name) e = cc
  attributes place tag names (in_value name q in_text) e = tags tag names name q (find_rule table.elements tag) (and_parts (is_quote q) true e).0
  attributes place tag names (in_value name q (in_value_reference r)) e = let z = and_parts (is_quote q) false e in cc
  attributes place tag names (in_value name q (in_fixed value)) e = let z = and_parts (is_quote q) false e in cc
  attributes place tag names (in_value name q (in_choice word spaced)) e = let z = and_parts (is_quote q) false e in cc
  attributes place tag names (in_value name q (in_words inside one)) e = let z = and_parts (is_quote q) false e in cc

  doctypes : (place : Place) (o : OpenDoctype) → doctype_alike o ≡ true → open_move table place (in_doctype o) c ≡ open_move table place (in_doctype o) d
  doctypes place (before_root spaced) e = cc
  doctypes place (in_root name) e = cc
  doctypes place behind_root e = cc
  doctypes place (in_word word) e = cc
  doctypes place (behind_word word) e = cc
  doctypes place (in_public quote o) e = cc
  doctypes place (behind_public spaced) e = cc
  doctypes place (in_system q) e = literals table place q c h e ∙ sym (literals table place q d g e)
  doctypes place behind_system e = cc

  opens : (place : Place) (o : Open) → open_alike place o ≡ true → open_move table place o c ≡ open_move table place o d
  opens place nothing e = pieces place c h e ∙ sym (pieces place d g e)
  opens place (in_reference r) e = cc
  opens place (in_opener begun) e = cc
  opens place (in_tag_name name) e = cc
  opens place (in_tag name names o) e = attributes place name names o e
  opens place (at_empty_end name names) e = cc
  opens place (in_end_tag name spaced) e = cc
  opens place (in_comment dashes) e = comments dashes c h ∙ sym (comments dashes d g)
  opens place (in_section brackets) e = sections brackets c h ∙ sym (sections brackets d g)
  opens place (in_target o) e = cc
  opens place behind_target e = cc
  opens place (in_instruction asked) e = instructions asked c h ∙ sym (instructions asked d g)
  opens place (in_declaration names o) e = cc
  opens place at_declaration_end e = cc
  opens place (in_doctype o) e = doctypes place o e

  pub alike_steps : (s : PageState) → takes_all_alike s ≡ true → page_step table s c ≡ page_step table s d
  unfolding page_step
  alike_steps s e =
      ap (λ (b : Bool). if b then put_place s.place (open_move table s.place s.inside c) else fail) (i ∙ sym j)
      ∙ ap (λ (m : OpenMove). if is_character d then put_place s.place m else fail) (opens s.place s.inside e)
