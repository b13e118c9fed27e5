-- The definitions on worked examples, and on near misses.
use Rattle.std.proofs.Common.{◌≡◌, ℕ, false, List, [], ◌∷◌, refl, Some, None}
use Rattle.std.specs.Prelude.{codes, if◌then◌else◌, map}
use Rattle.std.specs.Char.{encode_utf8}
use Rattle.std.specs.Str.{is_utf8, chars}
use Rattle.io_edge.specs.Names.{beside, normal, normal_parts}
use Rattle.dtd_model.specs.Table.{one, sequence, choice, optional, any_number, at_least_one, no_models, more_models, Holding, nothing, anything, text_and, children, cdata, nmtokens, one_of, required, with_default, fixed, Rule}
use Rattle.dtd_texts.specs.Heads.{same, name_length, named_length, digits_length, character_length, character_number, has_references}
use Rattle.dtd_texts.specs.Tokens.{token_at, token_length, tokens_behind, setting, is_declaration, before_end, declaration_length, behind_declaration}
use Rattle.dtd_texts.specs.Places.{inside, Source, internal, external, between_step, comment_step, target_step, instruction_step, entity_of, quote_step, external_step, end_step, inside_step, literal_step, value_step, behind_step}
use Rattle.dtd_texts.specs.Reading.{Parameter, source_in, start}
use Rattle.dtd_texts.specs.Went.{all_steps}
use Rattle.dtd_texts.specs.AttributeLists.{kind_named}
use Rattle.dtd_texts.specs.Tables.{said, declared, with_others}
use Rattle.dtd_texts.proofs.Run.{Files, Run, ended, stopped, tired, run, Seen, rules, none, omitted, names, unended, stops, seen}

-- outside stands the text `m`, behind a text declaration
abbrev outside : Files
outside name = if same name (codes "m") then Some (codes "<?xml version='1.0' encoding='utf-8'?><!ENTITY % c '(b|c)'>") else None

abbrev seen_in : List ℕ → Seen
seen_in file = seen (run outside 400 [] start file)

abbrev values : Run → List Source
values (ended s) = map (λ (p : Parameter). p.source) s.parameters
values (stopped outer s bytes) = []
values tired = []

abbrev values_in : List ℕ → List Source
values_in file = values (run outside 400 [] start file)

abbrev plain : List ℕ → Holding → Rule
plain name holding = record { name = name; holding = holding; attributes = [] }

-- an element without content, and white space
empty_element : seen_in (codes "<!ELEMENT br EMPTY> ") ≡ rules (plain (codes "br") nothing ∷ []) []
unfolding name_length named_length digits_length character_length character_number has_references tokens_behind token_at token_length setting is_declaration before_end declaration_length between_step comment_step target_step instruction_step entity_of quote_step external_step end_step inside_step literal_step value_step behind_step kind_named said declared with_others all_steps encode_utf8 is_utf8 chars
empty_element = refl

-- a model (XML 1.0, 3.2.1): elements are named by their places, `(a)` is a sequence of one
a_model : seen_in (codes "<!ELEMENT a (b,(c|b)*,a?)><!ELEMENT b ANY><!ELEMENT c (a)+>") ≡ rules (plain (codes "a") (children (sequence (more_models (one 1) (more_models (any_number (choice (more_models (one 2) (more_models (one 1) no_models)))) (more_models (optional (one 0)) no_models))))) ∷ plain (codes "b") anything ∷ plain (codes "c") (children (at_least_one (sequence (more_models (one 0) no_models)))) ∷ []) []
unfolding name_length named_length digits_length character_length character_number has_references tokens_behind token_at token_length setting is_declaration before_end declaration_length between_step comment_step target_step instruction_step entity_of quote_step external_step end_step inside_step literal_step value_step behind_step kind_named said declared with_others all_steps encode_utf8 is_utf8 chars
a_model = refl

-- text and elements (3.2.2)
mixed : seen_in (codes "<!ELEMENT p (#PCDATA | p)*><!ELEMENT q ( #PCDATA )>") ≡ rules (plain (codes "p") (text_and (0 ∷ [])) ∷ plain (codes "q") (text_and []) ∷ []) []
unfolding name_length named_length digits_length character_length character_number has_references tokens_behind token_at token_length setting is_declaration before_end declaration_length between_step comment_step target_step instruction_step entity_of quote_step external_step end_step inside_step literal_step value_step behind_step kind_named said declared with_others all_steps encode_utf8 is_utf8 chars
mixed = refl

-- where elements are named the star has to stand
mixed_without_star : seen_in (codes "<!ELEMENT p (#PCDATA | p)>") ≡ none 0
unfolding name_length named_length digits_length character_length character_number has_references tokens_behind token_at token_length setting is_declaration before_end declaration_length between_step comment_step target_step instruction_step entity_of quote_step external_step end_step inside_step literal_step value_step behind_step kind_named said declared with_others all_steps encode_utf8 is_utf8 chars
mixed_without_star = refl

-- one separator a group
two_separators : seen_in (codes "<!ELEMENT a (a,a|a)>") ≡ none 0
unfolding name_length named_length digits_length character_length character_number has_references tokens_behind token_at token_length setting is_declaration before_end declaration_length between_step comment_step target_step instruction_step entity_of quote_step external_step end_step inside_step literal_step value_step behind_step kind_named said declared with_others all_steps encode_utf8 is_utf8 chars
two_separators = refl

-- `?`, `*` and `+` stand directly behind
apart : seen_in (codes "<!ELEMENT a (a) *>") ≡ none 0
unfolding name_length named_length digits_length character_length character_number has_references tokens_behind token_at token_length setting is_declaration before_end declaration_length between_step comment_step target_step instruction_step entity_of quote_step external_step end_step inside_step literal_step value_step behind_step kind_named said declared with_others all_steps encode_utf8 is_utf8 chars
apart = refl

-- white space behind the name
close_by : seen_in (codes "<!ELEMENT a(a)>") ≡ none 0
unfolding name_length named_length digits_length character_length character_number has_references tokens_behind token_at token_length setting is_declaration before_end declaration_length between_step comment_step target_step instruction_step entity_of quote_step external_step end_step inside_step literal_step value_step behind_step kind_named said declared with_others all_steps encode_utf8 is_utf8 chars
close_by = refl

-- an element that is not declared
undeclared_element : seen_in (codes "<!ELEMENT a (b)>") ≡ names (codes "b")
unfolding name_length named_length digits_length character_length character_number has_references tokens_behind token_at token_length setting is_declaration before_end declaration_length between_step comment_step target_step instruction_step entity_of quote_step external_step end_step inside_step literal_step value_step behind_step kind_named said declared with_others all_steps encode_utf8 is_utf8 chars
undeclared_element = refl

-- attributes (3.3); the first declaration of an attribute counts, and a list may stand before its element
attribute_lists : seen_in (codes "<!ATTLIST a x CDATA #REQUIRED y (u|v) 'u'><!ELEMENT a EMPTY><!ATTLIST a x ID #IMPLIED z NMTOKENS #FIXED \"a b\">") ≡ rules (record { name = codes "a"; holding = nothing; attributes = record { name = codes "x"; kind = cdata; presence = required } ∷ record { name = codes "y"; kind = one_of (codes "u" ∷ codes "v" ∷ []); presence = with_default } ∷ record { name = codes "z"; kind = nmtokens; presence = fixed (codes "a b") } ∷ [] } ∷ []) []
unfolding name_length named_length digits_length character_length character_number has_references tokens_behind token_at token_length setting is_declaration before_end declaration_length between_step comment_step target_step instruction_step entity_of quote_step external_step end_step inside_step literal_step value_step behind_step kind_named said declared with_others all_steps encode_utf8 is_utf8 chars
attribute_lists = refl

-- a list for an element that is not declared says nothing, but has to be one
ignored_list : seen_in (codes "<!ATTLIST b x CDATA #REQUIRED>") ≡ rules [] []
unfolding name_length named_length digits_length character_length character_number has_references tokens_behind token_at token_length setting is_declaration before_end declaration_length between_step comment_step target_step instruction_step entity_of quote_step external_step end_step inside_step literal_step value_step behind_step kind_named said declared with_others all_steps encode_utf8 is_utf8 chars
ignored_list = refl

-- the near miss
ignored_list_broken : seen_in (codes "<!ATTLIST b x CDATA>") ≡ none 0
unfolding name_length named_length digits_length character_length character_number has_references tokens_behind token_at token_length setting is_declaration before_end declaration_length between_step comment_step target_step instruction_step entity_of quote_step external_step end_step inside_step literal_step value_step behind_step kind_named said declared with_others all_steps encode_utf8 is_utf8 chars
ignored_list_broken = refl

-- a default value holds no `<`, and each `&` begins a reference
default_value : seen_in (codes "<!ELEMENT a EMPTY><!ATTLIST a x CDATA '&amp;&#65;'>") ≡ rules (record { name = codes "a"; holding = nothing; attributes = record { name = codes "x"; kind = cdata; presence = with_default } ∷ [] } ∷ []) []
unfolding name_length named_length digits_length character_length character_number has_references tokens_behind token_at token_length setting is_declaration before_end declaration_length between_step comment_step target_step instruction_step entity_of quote_step external_step end_step inside_step literal_step value_step behind_step kind_named said declared with_others all_steps encode_utf8 is_utf8 chars
default_value = refl

-- the near miss
default_value_broken : seen_in (codes "<!ATTLIST a x CDATA 'a&b'>") ≡ none 0
unfolding name_length named_length digits_length character_length character_number has_references tokens_behind token_at token_length setting is_declaration before_end declaration_length between_step comment_step target_step instruction_step entity_of quote_step external_step end_step inside_step literal_step value_step behind_step kind_named said declared with_others all_steps encode_utf8 is_utf8 chars
default_value_broken = refl

-- types of entities and notations, and notations, are left out
left_out_type : seen_in (codes "<!-- --><!ATTLIST a x NOTATION (n) #IMPLIED>") ≡ omitted 8
unfolding name_length named_length digits_length character_length character_number has_references tokens_behind token_at token_length setting is_declaration before_end declaration_length between_step comment_step target_step instruction_step entity_of quote_step external_step end_step inside_step literal_step value_step behind_step kind_named said declared with_others all_steps encode_utf8 is_utf8 chars
left_out_type = refl

-- the same
left_out_notation : seen_in (codes "<!NOTATION n SYSTEM 'n'>") ≡ omitted 0
unfolding name_length named_length digits_length character_length character_number has_references tokens_behind token_at token_length setting is_declaration before_end declaration_length between_step comment_step target_step instruction_step entity_of quote_step external_step end_step inside_step literal_step value_step behind_step kind_named said declared with_others all_steps encode_utf8 is_utf8 chars
left_out_notation = refl

-- conditional sections are left out
left_out_section : seen_in (codes " <![INCLUDE[]]>") ≡ stops [] (codes "<![INCLUDE[]]>") 1
unfolding name_length named_length digits_length character_length character_number has_references tokens_behind token_at token_length setting is_declaration before_end declaration_length between_step comment_step target_step instruction_step entity_of quote_step external_step end_step inside_step literal_step value_step behind_step kind_named said declared with_others all_steps encode_utf8 is_utf8 chars
left_out_section = refl

-- a reference within a declaration is a space, the text and a space
in_declaration : seen_in (codes "<!ENTITY % m 'p|'><!ELEMENT p (%m;p)*>") ≡ rules (plain (codes "p") (children (any_number (choice (more_models (one 0) (more_models (one 0) no_models))))) ∷ []) []
unfolding name_length named_length digits_length character_length character_number has_references tokens_behind token_at token_length setting is_declaration before_end declaration_length between_step comment_step target_step instruction_step entity_of quote_step external_step end_step inside_step literal_step value_step behind_step kind_named said declared with_others all_steps encode_utf8 is_utf8 chars
in_declaration = refl

-- a declaration in an entity
whole_declaration : seen_in (codes "<!ENTITY % d '<!ELEMENT p EMPTY>'>%d;") ≡ rules (plain (codes "p") nothing ∷ []) []
unfolding name_length named_length digits_length character_length character_number has_references tokens_behind token_at token_length setting is_declaration before_end declaration_length between_step comment_step target_step instruction_step entity_of quote_step external_step end_step inside_step literal_step value_step behind_step kind_named said declared with_others all_steps encode_utf8 is_utf8 chars
whole_declaration = refl

-- a declaration that begins in an entity and ends outside is one in the replaced text
begins_in_entity : seen_in (codes "<!ENTITY % d '<!ELEMENT p '>%d; EMPTY>") ≡ rules (plain (codes "p") nothing ∷ []) []
unfolding name_length named_length digits_length character_length character_number has_references tokens_behind token_at token_length setting is_declaration before_end declaration_length between_step comment_step target_step instruction_step entity_of quote_step external_step end_step inside_step literal_step value_step behind_step kind_named said declared with_others all_steps encode_utf8 is_utf8 chars
begins_in_entity = refl

-- in an entity value there is no space
in_value_no_space : values_in (codes "<!ENTITY % a 'x'><!ENTITY % v '%a;%a;'>") ≡ internal (codes "x") ∷ internal (codes "xx") ∷ []
unfolding name_length named_length digits_length character_length character_number has_references tokens_behind token_at token_length setting is_declaration before_end declaration_length between_step comment_step target_step instruction_step entity_of quote_step external_step end_step inside_step literal_step value_step behind_step kind_named said declared with_others all_steps encode_utf8 is_utf8 chars
in_value_no_space = refl

-- a quote from an entity does not end the value (4.4.5), also where the reference comes of a character reference
quote_is_data : values_in (codes "<!ENTITY % q '&#37;r;'><!ENTITY % r \"'\"><!ENTITY % v 'a%q;b'>") ≡ internal (codes "%r;") ∷ internal (codes "'") ∷ internal (codes "a'b") ∷ []
unfolding name_length named_length digits_length character_length character_number has_references tokens_behind token_at token_length setting is_declaration before_end declaration_length between_step comment_step target_step instruction_step entity_of quote_step external_step end_step inside_step literal_step value_step behind_step kind_named said declared with_others all_steps encode_utf8 is_utf8 chars
quote_is_data = refl

-- a general entity reference in a value stays (4.4.7); a character reference is expanded (4.5)
value_of_entity : values_in (codes "<!ENTITY % v '&a;&#x41;&#66;'>") ≡ internal (codes "&a;AB") ∷ []
unfolding name_length named_length digits_length character_length character_number has_references tokens_behind token_at token_length setting is_declaration before_end declaration_length between_step comment_step target_step instruction_step entity_of quote_step external_step end_step inside_step literal_step value_step behind_step kind_named said declared with_others all_steps encode_utf8 is_utf8 chars
value_of_entity = refl

-- the example of XML 1.0, appendix D, of an entity that declares another
appendix_d : seen_in (codes "<!ENTITY % xx '&#37;zz;'><!ENTITY % zz '&#60;!ENTITY tricky \"error-prone\" >' >%xx;") ≡ rules [] (codes "tricky" ∷ [])
unfolding name_length named_length digits_length character_length character_number has_references tokens_behind token_at token_length setting is_declaration before_end declaration_length between_step comment_step target_step instruction_step entity_of quote_step external_step end_step inside_step literal_step value_step behind_step kind_named said declared with_others all_steps encode_utf8 is_utf8 chars
appendix_d = refl

-- the example of 4.4.5 of a value with a reference to a parameter entity, which is replaced, and to a general one, which stays
included_in_literal : seen_in (codes "<!ENTITY % YN '\"Yes\"'><!ENTITY WhatHeSaid \"He said %YN;\">") ≡ rules [] (codes "WhatHeSaid" ∷ [])
unfolding name_length named_length digits_length character_length character_number has_references tokens_behind token_at token_length setting is_declaration before_end declaration_length between_step comment_step target_step instruction_step entity_of quote_step external_step end_step inside_step literal_step value_step behind_step kind_named said declared with_others all_steps encode_utf8 is_utf8 chars
included_in_literal = refl

-- general entities whose value is a reference to a character (4.6)
predefined : seen_in (codes "<!ENTITY lt '&#38;#60;'><!ENTITY amp '&#38;#38;'><!ENTITY lt ''>") ≡ rules [] (codes "lt" ∷ codes "amp" ∷ [])
unfolding name_length named_length digits_length character_length character_number has_references tokens_behind token_at token_length setting is_declaration before_end declaration_length between_step comment_step target_step instruction_step entity_of quote_step external_step end_step inside_step literal_step value_step behind_step kind_named said declared with_others all_steps encode_utf8 is_utf8 chars
predefined = refl

-- a general entity with markup, or one outside, is left out
left_out_entity : seen_in (codes "<!ENTITY e '&#60;'>") ≡ stops [] (codes ">") 0
unfolding name_length named_length digits_length character_length character_number has_references tokens_behind token_at token_length setting is_declaration before_end declaration_length between_step comment_step target_step instruction_step entity_of quote_step external_step end_step inside_step literal_step value_step behind_step kind_named said declared with_others all_steps encode_utf8 is_utf8 chars
left_out_entity = refl

-- the same
left_out_outside : seen_in (codes "<!ENTITY e SYSTEM 'e'>") ≡ stops [] (codes ">") 0
unfolding name_length named_length digits_length character_length character_number has_references tokens_behind token_at token_length setting is_declaration before_end declaration_length between_step comment_step target_step instruction_step entity_of quote_step external_step end_step inside_step literal_step value_step behind_step kind_named said declared with_others all_steps encode_utf8 is_utf8 chars
left_out_outside = refl

-- no reference in a comment, in an instruction, in a default value and in a literal of an identifier
not_recognised : seen_in (codes "<!-- %n; --><?x %n;?><!ATTLIST a b CDATA '%n;'><!ENTITY % f PUBLIC '%n;' '%n;'>") ≡ rules [] []
unfolding name_length named_length digits_length character_length character_number has_references tokens_behind token_at token_length setting is_declaration before_end declaration_length between_step comment_step target_step instruction_step entity_of quote_step external_step end_step inside_step literal_step value_step behind_step kind_named said declared with_others all_steps encode_utf8 is_utf8 chars
not_recognised = refl

-- a comment holds no `--`
comment_broken : seen_in (codes "<!-- -- -->") ≡ stops [] (codes "-- -->") 0
unfolding name_length named_length digits_length character_length character_number has_references tokens_behind token_at token_length setting is_declaration before_end declaration_length between_step comment_step target_step instruction_step entity_of quote_step external_step end_step inside_step literal_step value_step behind_step kind_named said declared with_others all_steps encode_utf8 is_utf8 chars
comment_broken = refl

-- nor does it end in `--->`
comment_dash : seen_in (codes " <!----->") ≡ stops [] (codes "--->") 1
unfolding name_length named_length digits_length character_length character_number has_references tokens_behind token_at token_length setting is_declaration before_end declaration_length between_step comment_step target_step instruction_step entity_of quote_step external_step end_step inside_step literal_step value_step behind_step kind_named said declared with_others all_steps encode_utf8 is_utf8 chars
comment_dash = refl

-- an instruction may not be for `xml`, in any case
instruction_broken : seen_in (codes "<?xMl a?>") ≡ stops [] (codes "<?xMl a?>") 0
unfolding name_length named_length digits_length character_length character_number has_references tokens_behind token_at token_length setting is_declaration before_end declaration_length between_step comment_step target_step instruction_step entity_of quote_step external_step end_step inside_step literal_step value_step behind_step kind_named said declared with_others all_steps encode_utf8 is_utf8 chars
instruction_broken = refl

-- the first declaration of an entity counts
first_counts : seen_in (codes "<!ENTITY % p 'EMPTY'><!ENTITY % p 'ANY'><!ELEMENT p %p;>") ≡ rules (plain (codes "p") nothing ∷ []) []
unfolding name_length named_length digits_length character_length character_number has_references tokens_behind token_at token_length setting is_declaration before_end declaration_length between_step comment_step target_step instruction_step entity_of quote_step external_step end_step inside_step literal_step value_step behind_step kind_named said declared with_others all_steps encode_utf8 is_utf8 chars
first_counts = refl

-- an entity with its text outside, behind a text declaration
outside_text : seen_in (codes "<!ENTITY % e SYSTEM 'm'>%e;<!ELEMENT b %c;><!ELEMENT c EMPTY>") ≡ rules (plain (codes "b") (children (choice (more_models (one 0) (more_models (one 1) no_models)))) ∷ plain (codes "c") nothing ∷ []) []
unfolding beside normal normal_parts name_length named_length digits_length character_length character_number has_references tokens_behind token_at token_length setting is_declaration before_end declaration_length between_step comment_step target_step instruction_step entity_of quote_step external_step end_step inside_step literal_step value_step behind_step kind_named said declared with_others all_steps encode_utf8 is_utf8 chars
outside_text = refl

-- a reference before the declaration
too_early : seen_in (codes "%m;<!ENTITY % m ''>") ≡ stops [] (codes "%m;<!ENTITY % m ''>") 0
unfolding name_length named_length digits_length character_length character_number has_references tokens_behind token_at token_length setting is_declaration before_end declaration_length between_step comment_step target_step instruction_step entity_of quote_step external_step end_step inside_step literal_step value_step behind_step kind_named said declared with_others all_steps encode_utf8 is_utf8 chars
too_early = refl

-- a circle is met where it is entered
circle : seen_in (codes "<!ENTITY % a '&#37;b;'><!ENTITY % b '&#37;a;'>%a;") ≡ stops (codes "b" ∷ codes "a" ∷ []) (codes "%a;") 48
unfolding name_length named_length digits_length character_length character_number has_references tokens_behind token_at token_length setting is_declaration before_end declaration_length between_step comment_step target_step instruction_step entity_of quote_step external_step end_step inside_step literal_step value_step behind_step kind_named said declared with_others all_steps encode_utf8 is_utf8 chars
circle = refl

-- and not before
circle_unused : seen_in (codes "<!ENTITY % a '&#37;b;'><!ENTITY % b '&#37;a;'>") ≡ rules [] []
unfolding name_length named_length digits_length character_length character_number has_references tokens_behind token_at token_length setting is_declaration before_end declaration_length between_step comment_step target_step instruction_step entity_of quote_step external_step end_step inside_step literal_step value_step behind_step kind_named said declared with_others all_steps encode_utf8 is_utf8 chars
circle_unused = refl

-- a reference does not begin in one entity and end in another
not_across : seen_in (codes "<!ENTITY % a '&#37;x'><!ENTITY % b '%a;;'>") ≡ stops (codes "a" ∷ []) (codes "%x") 22
unfolding name_length named_length digits_length character_length character_number has_references tokens_behind token_at token_length setting is_declaration before_end declaration_length between_step comment_step target_step instruction_step entity_of quote_step external_step end_step inside_step literal_step value_step behind_step kind_named said declared with_others all_steps encode_utf8 is_utf8 chars
not_across = refl

-- a text that ends in a declaration
no_end : seen_in (codes "<!ELEMENT html") ≡ unended (inside (codes "ELEMENT html") false)
unfolding name_length named_length digits_length character_length character_number has_references tokens_behind token_at token_length setting is_declaration before_end declaration_length between_step comment_step target_step instruction_step entity_of quote_step external_step end_step inside_step literal_step value_step behind_step kind_named said declared with_others all_steps encode_utf8 is_utf8 chars
no_end = refl

-- no text outside of this name
not_outside : seen_in (codes "<!ENTITY % e SYSTEM 'n'>%e;") ≡ stops [] (codes "%e;") 24
unfolding beside normal normal_parts name_length named_length digits_length character_length character_number has_references tokens_behind token_at token_length setting is_declaration before_end declaration_length between_step comment_step target_step instruction_step entity_of quote_step external_step end_step inside_step literal_step value_step behind_step kind_named said declared with_others all_steps encode_utf8 is_utf8 chars
not_outside = refl

-- a text declaration and a byte order mark are passed over (4.3.1)
text_declaration : behind_declaration (0xEF ∷ 0xBB ∷ 0xBF ∷ codes "<?xml encoding = \"UTF-8\" ?>a") ≡ codes "a"
unfolding tokens_behind token_at token_length setting is_declaration before_end declaration_length
text_declaration = refl

-- another encoding is none
other_encoding : behind_declaration (codes "<?xml encoding='latin1'?>a") ≡ codes "<?xml encoding='latin1'?>a"
unfolding tokens_behind token_at token_length setting is_declaration before_end declaration_length
other_encoding = refl

-- a name is taken from the folder of the file in which its declaration stands (4.2.2)
beside_its_file : source_in (codes "d/x") (external (codes "../e/y")) ≡ external (codes "e/y")
unfolding beside normal normal_parts
beside_its_file = refl
