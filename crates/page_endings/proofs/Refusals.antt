-- What is open and takes no character of several bytes fails at each.
use Rattle.std.proofs.Common.{◌≡◌, ℕ, suc, ◌≤◌, Bool, true, false, not, ◌&&◌, ◌||◌, List, [], ◌∷◌, ◌++◌, Option, Some, None, refl, sym, ◌∙◌, ap, codes, arith}
use Rattle.std.specs.Prelude.{if◌then◌else◌, nat_eq, nat_lt, nat_le, bytes_eq}
use Rattle.std.proofs.lemmas.Bool.Decides.{nat_tests}
use Rattle.text_base.specs.declared.page_token.PageToken.TheVariants as token
use Rattle.xml_text.specs.Characters.{is_blank, is_character}
use Rattle.xml_text.specs.Names.{begins_name, in_name, is_name}
use Rattle.dtd_model.specs.Table.{Kind, Declared, Rule, Table}
use Rattle.dtd_model.specs.declared.dtd.DoctypeRule.{DoctypeRule}
use Rattle.page_model.specs.Attributes.{find_rule}
use Rattle.page_model.specs.Parts.{is_quote}
use Rattle.page_model.specs.Places.{Place, behind, is_early}
use Rattle.piece_steps.specs.Insides.{Turn, out, stop, inside, stepped}
use Rattle.piece_steps.specs.Readers.{go, done, fail}
use Rattle.page_model.specs.Fronts.{Open, nothing, in_reference as open_reference, in_opener, in_tag_name, in_tag, at_empty_end, in_end_tag, in_comment, in_section, in_target, behind_target, in_instruction, in_declaration, at_declaration_end, in_doctype, find_declared}
use Rattle.page_model.specs.OpenDoctypes.{OpenDoctype, before_root, in_root, behind_root, in_word, behind_word, in_public, behind_public, in_system, behind_system}
use Rattle.page_model.specs.OpenTags.{OpenAttribute, between, in_attribute_name, behind_name, behind_equals, in_value}
use Rattle.page_model.specs.OpenValues.{OpenReference, in_entity, at_number, in_decimal, in_hexadecimal, OpenValue, in_text, in_reference, in_fixed, in_choice, in_words}
use Rattle.page_steps.specs.AttributeSteps.{Allowing, AttributeMove, stays, ends_with, leaves, stops, equals_move, valued, attribute_move}
use Rattle.page_steps.specs.DoctypeSteps.{begins, is_free, root_turn, may_begin, doctype_turn}
use Rattle.page_steps.specs.ReferenceSteps.{reference_step, reference_good}
use Rattle.page_steps.specs.TagSteps.{step_of, of_element, are_all, of_declaration}
use Rattle.page_steps.specs.ValueSteps.{has_names, has_many, begins_word, in_reference_of, may_stand, kept_step}
use Rattle.page_steps.specs.PageSteps.{OpenMove, tag_by, tag_move, empty_move, may_be_target, is_reserved, is_xml, is_started, behind_move, question_move, declaration_by, open_move, PageState, put_place, page_step}
use Rattle.page_endings.specs.Ending.{value_takes, attribute_takes, doctype_takes, takes_several}
use Rattle.page_endings.proofs.Wide.{no_begin, no_digit, no_hexdigit, no_name, no_blank, no_quote, not_this, no_public, no_beginning, not_the_text}

if_else : {A : Type 0} {y z : A} (b : Bool) (x : A) → b ≡ false → y ≡ z → (if b then x else y) ≡ z
if_else true x e q = cc
if_else false x e q = q

same_if : {A : Type 0} {x y z : A} (b : Bool) → x ≡ z → y ≡ z → (if b then x else y) ≡ z
same_if true p q = p
same_if false p q = q

and_no : (b x : Bool) → b ≡ false → (b && x) ≡ false
and_no true x e = cc
and_no false x e = refl

and_none : (x b : Bool) → b ≡ false → (x && b) ≡ false
and_none true b e = e
and_none false b e = refl

or_neither : (x y : Bool) → x ≡ false → y ≡ false → (x || y) ≡ false
or_neither true y e q = cc
or_neither false y e q = q

-- References and values.

reference_none : (r : OpenReference) (c : ℕ) → 128 ≤ c → reference_step r c ≡ None
reference_none (in_entity []) c h = if_else (nat_eq c 35) _ (not_this c 35 h (omega arith)) (if_else (begins_name c) _ (no_begin c h) refl)
reference_none (in_entity (n ∷ name)) c h = if_else (in_name c) _ (no_name c h) refl
reference_none at_number c h = if_else (nat_eq c 120) _ (not_this c 120 h (omega arith)) (if_else _ _ (no_digit c h) refl)
reference_none (in_decimal n) c h = if_else _ _ (no_digit c h) refl
reference_none (in_hexadecimal None) c h = if_else _ _ (no_hexdigit c h) refl
reference_none (in_hexadecimal (Some n)) c h = if_else _ _ (no_hexdigit c h) refl

no_word : (kind : Kind) (c : ℕ) → 128 ≤ c → begins_word kind c ≡ false
no_word kind c h = same_if (has_names kind) (no_begin c h) (no_name c h)

kept_none : (entities : List (List ℕ)) (kind : Kind) (v : OpenValue) (c : ℕ) → 128 ≤ c → value_takes v ≡ false → kept_step entities kind v c ≡ None
kept_none entities kind in_text c h e = cc
kept_none entities kind (in_reference r) c h e = if_else (nat_eq c 59) _ (not_this c 59 h (omega arith)) (ap in_reference_of (reference_none r c h))
kept_none entities kind (in_fixed value) c h e = cc
kept_none entities kind (in_choice word spaced) c h e = if_else (is_blank c) _ (no_blank c h) (if_else (not spaced && in_name c) _ (and_none (not spaced) (in_name c) (no_name c h)) refl)
kept_none entities kind (in_words true one) c h e = if_else (is_blank c) _ (no_blank c h) (if_else (in_name c) _ (no_name c h) refl)
kept_none entities kind (in_words false one) c h e = if_else (is_blank c) _ (no_blank c h) (if_else _ _ (and_none (not one || has_many kind) (begins_word kind c) (no_word kind c h)) refl)

NoStep : Allowing → Type 0
NoStep a = (name : List ℕ) (v : OpenValue) (c : ℕ) → 128 ≤ c → value_takes v ≡ false → a.step name v c ≡ None

element_none : (entities : List (List ℕ)) (rules : List Declared) → NoStep (of_element entities rules)
unfolding NoStep
element_none entities rules name v c h e = at (find_declared rules name)
  where
    at : (o : Option Declared) → step_of entities o v c ≡ None
    at None = refl
    at (Some d) = same_if (may_stand c) (kept_none entities d.kind v c h e) refl

declaration_none : NoStep of_declaration
unfolding NoStep
declaration_none name in_text c h e = refl
declaration_none name (in_reference r) c h e = refl
declaration_none name (in_fixed value) c h e = cc
declaration_none name (in_choice word spaced) c h e = refl
declaration_none name (in_words inside one) c h e = refl

-- Attributes: no move goes on with them.

abbrev Refused : AttributeMove → Type 0
Refused (stays o) = ⊥
Refused (ends_with names) = ⊥
Refused leaves = Unit {0}
Refused stops = Unit {0}

refused_if : (b : Bool) (x y : AttributeMove) → b ≡ false → Refused y → Refused (if b then x else y)
refused_if true x y e q = cc
refused_if false x y e q = q

equals_refused : (name : List ℕ) (c : ℕ) → 128 ≤ c → Refused (equals_move name c)
equals_refused name c h = refused_if (is_blank c) _ _ (no_blank c h) (refused_if (nat_eq c 61) _ _ (not_this c 61 h (omega arith)) tt)

other_quote : (c quote : ℕ) → 128 ≤ c → not (is_quote quote) ≡ false → nat_eq c quote ≡ false
other_quote c quote h e = at (is_quote quote) refl e (nat_eq c quote) refl
  where
    at : (b : Bool) → is_quote quote ≡ b → not b ≡ false → (x : Bool) → nat_eq c quote ≡ x → x ≡ false
    at false q e x p = cc
    at true q e false p = refl
    at true q e true p = let z = no_quote c h in let same : c ≡ quote = grind (arith, nat_tests) in let y : true ≡ false = sym q ∙ ap is_quote (sym same) ∙ z in cc

both_false : (x y : Bool) → (x || y) ≡ false → (x ≡ false) × (y ≡ false)
both_false true y e = cc
both_false false y e = (refl, e)

attribute_refused : (a : Allowing) → NoStep a → (names : List (List ℕ)) (o : OpenAttribute) (c : ℕ) → 128 ≤ c → attribute_takes o ≡ false → Refused (attribute_move a names o c)
unfolding NoStep
attribute_refused a f names (between spaced) c h e = refused_if (is_blank c) _ _ (no_blank c h) (refused_if (begins_name c) _ _ (no_begin c h) tt)
attribute_refused a f names (in_attribute_name name) c h e = refused_if (in_name c) _ _ (no_name c h) (by (a.may names name))
  where
    by : (b : Bool) → Refused (if b then equals_move name c else stops)
    by true = equals_refused name c h
    by false = tt
attribute_refused a f names (behind_name name) c h e = equals_refused name c h
attribute_refused a f names (behind_equals name) c h e = refused_if (is_blank c) _ _ (no_blank c h) (refused_if (is_quote c) _ _ (no_quote c h) tt)
attribute_refused a f names (in_value name quote v) c h e =
    let p = both_false (not (is_quote quote)) (value_takes v) e in
    refused_if (nat_eq c quote) _ _ (other_quote c quote h p.0) (by (a.step name v c) (f name v c h p.1))
  where
    by : (o : Option OpenValue) → o ≡ None → Refused (valued name quote o)
    by None q = tt
    by (Some g) q = cc

tag_refused : (table : Table) (name : List ℕ) (names : List (List ℕ)) (o : OpenAttribute) (c : ℕ) (f : Option Rule) → 128 ≤ c → attribute_takes o ≡ false → tag_move table name names o c f ≡ fail
tag_refused table name names o c None h e = refl
tag_refused table name names o c (Some rule) h e = at (attribute_move (of_element table.entities rule.attributes) names o c) (attribute_refused (of_element table.entities rule.attributes) (element_none table.entities rule.attributes) names o c h e)
  where
    at : (m : AttributeMove) → Refused m → tag_by table name rule names c m ≡ fail
    at (stays g) q = absurd q
    at (ends_with more) q = absurd q
    at leaves q = if_else (nat_eq c 62 && are_all name rule.attributes names) _ (and_no (nat_eq c 62) (are_all name rule.attributes names) (not_this c 62 h (omega arith))) (if_else (nat_eq c 47) _ (not_this c 47 h (omega arith)) refl)
    at stops q = refl

-- Document types.

root_refused : (rule : DoctypeRule) (c : ℕ) → 128 ≤ c → root_turn rule c ≡ stop
root_refused rule c h = if_else (is_blank c) _ (no_blank c h) (if_else (nat_eq c 62 && is_free rule) _ (and_no (nat_eq c 62) (is_free rule) (not_this c 62 h (omega arith))) refl)

may_not_begin : (rule : DoctypeRule) (word : List ℕ) (c : ℕ) → 128 ≤ c → may_begin rule (word ++ c ∷ []) ≡ false
may_not_begin rule word c h =
    or_neither (begins (codes "PUBLIC") (word ++ c ∷ [])) (is_free rule && begins (codes "SYSTEM") (word ++ c ∷ [])) (no_beginning word (codes "PUBLIC") c h refl)
    (and_none (is_free rule) (begins (codes "SYSTEM") (word ++ c ∷ [])) (no_beginning word (codes "SYSTEM") c h refl))

doctype_refused : (rule : DoctypeRule) (o : OpenDoctype) (c : ℕ) → 128 ≤ c → doctype_takes o ≡ false → doctype_turn rule o c ≡ stop
doctype_refused rule (before_root spaced) c h e = if_else (is_blank c) _ (no_blank c h) (if_else (nat_eq c 104 && spaced) _ (and_no (nat_eq c 104) spaced (not_this c 104 h (omega arith))) refl)
doctype_refused rule (in_root name) c h e = if_else (begins (codes "html") (name ++ c ∷ [])) _ (no_beginning name (codes "html") c h refl) (same_if (bytes_eq name (codes "html")) (root_refused rule c h) refl)
doctype_refused rule behind_root c h e = if_else (may_begin rule (c ∷ [])) _ (may_not_begin rule [] c h) (root_refused rule c h)
doctype_refused rule (in_word word) c h e =
    if_else (may_begin rule (word ++ c ∷ [])) _ (may_not_begin rule word c h)
    (if_else (bytes_eq word (codes "PUBLIC") && is_blank c) _ (and_none (bytes_eq word (codes "PUBLIC")) (is_blank c) (no_blank c h))
    (if_else (bytes_eq word (codes "SYSTEM") && is_blank c) _ (and_none (bytes_eq word (codes "SYSTEM")) (is_blank c) (no_blank c h)) refl))
doctype_refused rule (behind_word word) c h e = if_else (is_blank c) _ (no_blank c h) (if_else (is_quote c) _ (no_quote c h) refl)
doctype_refused rule (in_public quote o) c h e = if_else (nat_eq c quote) _ (other_quote c quote h e) (if_else _ _ (no_public c h) refl)
doctype_refused rule (behind_public spaced) c h e = if_else (is_blank c) _ (no_blank c h) (if_else (is_quote c && spaced) _ (and_no (is_quote c) spaced (no_quote c h)) refl)
doctype_refused rule (in_system quote) c h e = cc
doctype_refused rule behind_system c h e = if_else (is_blank c) _ (no_blank c h) (if_else (nat_eq c 62 && true) _ (and_no (nat_eq c 62) true (not_this c 62 h (omega arith))) refl)

-- All that may be open.

opener_refused : (begun : List ℕ) (c : ℕ) → 128 ≤ c → (table : Table) (place : Place) → open_move table place (in_opener begun) c ≡ fail
opener_refused [] c h table place = refl
opener_refused (a ∷ []) c h table place =
    if_else (nat_eq c 33) _ (not_this c 33 h (omega arith)) (if_else (nat_eq c 63) _ (not_this c 63 h (omega arith)) (if_else (nat_eq c 47) _ (not_this c 47 h (omega arith)) (if_else (begins_name c) _ (no_begin c h) refl)))
opener_refused (a ∷ b ∷ cs) c h table place =
    if_else _ _ (not_the_text (a ∷ b ∷ cs) (codes "<!--") c h refl) (if_else _ _ (not_the_text (a ∷ b ∷ cs) (codes "<![CDATA[") c h refl) (if_else _ _ (not_the_text (a ∷ b ∷ cs) (codes "<!DOCTYPE") c h refl)
    (if_else _ _ (or_neither _ _ (or_neither _ _ (no_beginning (a ∷ b ∷ cs) (codes "<!--") c h refl) (no_beginning (a ∷ b ∷ cs) (codes "<![CDATA[") c h refl)) (no_beginning (a ∷ b ∷ cs) (codes "<!DOCTYPE") c h refl)) refl)))

empty_refused : (table : Table) (name : List ℕ) (names : List (List ℕ)) (c : ℕ) (f : Option Rule) → 128 ≤ c → empty_move table name names c f ≡ fail
empty_refused table name names c None h = refl
empty_refused table name names c (Some rule) h = if_else _ _ (and_no (nat_eq c 62) (are_all name rule.attributes names) (not_this c 62 h (omega arith))) refl

target_refused : (place : Place) (o : Option (List ℕ)) (c : ℕ) → 128 ≤ c → (table : Table) → open_move table place (in_target o) c ≡ fail
target_refused place o c h table = if_else (may_be_target o c) _ (no_target o) (same_if (is_started o) behind_it refl)
  where
    no_target : (o : Option (List ℕ)) → may_be_target o c ≡ false
    no_target None = no_name c h
    no_target (Some []) = no_begin c h
    no_target (Some (t ∷ target)) = no_name c h

    behind_it : behind_move place o c ≡ fail
    behind_it = same_if (is_reserved o) (if_else _ _ (and_none (is_xml o && is_early place) (is_blank c) (no_blank c h)) refl) (if_else (is_blank c) _ (no_blank c h) (if_else (nat_eq c 63) _ (not_this c 63 h (omega arith)) refl))

declaration_refused : (names : List (List ℕ)) (o : OpenAttribute) (c : ℕ) → 128 ≤ c → attribute_takes o ≡ false → declaration_by names c (attribute_move of_declaration names o c) ≡ fail
declaration_refused names o c h e = at (attribute_move of_declaration names o c) (attribute_refused of_declaration declaration_none names o c h e)
  where
    question : (names : List (List ℕ)) → question_move names c ≡ fail
    question [] = refl
    question (version ∷ names) = if_else (nat_eq c 63) _ (not_this c 63 h (omega arith)) refl

    at : (m : AttributeMove) → Refused m → declaration_by names c m ≡ fail
    at (stays g) q = absurd q
    at (ends_with more) q = absurd q
    at leaves q = question names
    at stops q = refl

two_dashes : (dashes : ℕ) → nat_lt dashes 2 ≡ false → nat_le 2 dashes ≡ true
two_dashes dashes e = grind (arith, nat_tests)

comment_refused : (dashes c : ℕ) → 128 ≤ c → nat_lt dashes 2 ≡ false → (table : Table) (place : Place) → open_move table place (in_comment dashes) c ≡ fail
comment_refused dashes c h e table place = at (nat_le 2 dashes) (two_dashes dashes e)
  where
    close : OpenMove
    close = if nat_eq c 62 then done (behind 0) (token.Misc ∷ []) else fail

    more : OpenMove
    more = if nat_eq c 45 then go (in_comment (suc dashes)) else go (in_comment 0)

    at : (b : Bool) → b ≡ true → (if b then close else more) ≡ fail
    at true q = if_else (nat_eq c 62) _ (not_this c 62 h (omega arith)) refl
    at false q = cc

open_refused : (table : Table) (place : Place) (o : Open) (c : ℕ) → 128 ≤ c → takes_several o ≡ false → open_move table place o c ≡ fail
open_refused table place nothing c h e = cc
open_refused table place (open_reference r) c h e =
    ap (λ (b : Bool). let t : Turn OpenReference = if b then (if reference_good table.entities r then out else stop) else stepped (reference_step r c) in let m : OpenMove = inside open_reference (done (behind 0) (token.Text ∷ [])) t in m) (not_this c 59 h (omega arith))
    ∙ ap (λ (o : Option OpenReference). let m : OpenMove = inside open_reference (done (behind 0) (token.Text ∷ [])) (stepped o) in m) (reference_none r c h)
open_refused table place (in_opener begun) c h e = opener_refused begun c h table place
open_refused table place (in_tag_name name) c h e = if_else (in_name c) _ (no_name c h) (tag_refused table name [] (between false) c (find_rule table.elements name) h refl)
open_refused table place (in_tag name names o) c h e = tag_refused table name names o c (find_rule table.elements name) h e
open_refused table place (at_empty_end name names) c h e = empty_refused table name names c (find_rule table.elements name) h
open_refused table place (in_end_tag [] spaced) c h e = if_else (begins_name c && not spaced) _ (and_no (begins_name c) (not spaced) (no_begin c h)) refl
open_refused table place (in_end_tag (n ∷ name) spaced) c h e =
    if_else (in_name c && not spaced) _ (and_no (in_name c) (not spaced) (no_name c h))
    (same_if (is_name (n ∷ name)) (if_else (is_blank c) _ (no_blank c h) (if_else (nat_eq c 62) _ (not_this c 62 h (omega arith)) refl)) refl)
open_refused table place (in_comment dashes) c h e = comment_refused dashes c h e table place
open_refused table place (in_section brackets) c h e = cc
open_refused table place (in_target o) c h e = target_refused place o c h table
open_refused table place behind_target c h e = if_else (nat_eq c 62) _ (not_this c 62 h (omega arith)) refl
open_refused table place (in_instruction asked) c h e = cc
open_refused table place (in_declaration names o) c h e = declaration_refused names o c h e
open_refused table place at_declaration_end c h e = if_else (nat_eq c 62) _ (not_this c 62 h (omega arith)) refl
open_refused table place (in_doctype o) c h e = ap (λ (t : Turn OpenDoctype). let m : OpenMove = inside in_doctype (done (behind 0) (token.Doctype ∷ [])) t in m) (doctype_refused table.doctype o c h e)

pub pages_refuse : (table : Table) (s : PageState) (c : ℕ) → 128 ≤ c → takes_several s.inside ≡ false → page_step table s c ≡ fail
unfolding page_step
pages_refuse table s c h e = same_if (is_character c) (ap (put_place s.place) (open_refused table s.place s.inside c h e)) refl
