-- What is open, on worked examples and near misses.
use Rattle.std.proofs.Common.{◌≡◌, ℕ, ◌+◌, Bool, List, [], ◌∷◌, ◌++◌, true, false, None, Some, codes, refl, sym, ap, ◌∙◌, inl, inr, get_or, length, length-append, append_assoc, arith}
use Rattle.std.specs.Prelude.{◌==◌, ◌&&◌, if◌then◌else◌}
use Rattle.std.specs.List.{list_all}
use Rattle.std.specs.Char.{encode_utf8}
use Rattle.std.specs.Str.{encode_utf8_all, str_eq_ignore_ascii_case}
use Rattle.std.proofs.lemmas.Bool.{and_parts}
use Rattle.std.proofs.lemmas.Str.{encode_same, length-encode, len_utf8_bounds}
use Rattle.xml_text.specs.Characters.{is_blank}
use Rattle.xml_text.specs.Names.{begins_name, in_name, is_name}
use Rattle.dtd_model.specs.declared.dtd.DoctypeRule.TheVariants.{Strict, Free}
use Rattle.dtd_model.specs.Mini.{mini_table}
use Rattle.dtd_model.specs.References.{decimal, hexadecimal, entity}
use Rattle.dtd_model.specs.Table.{cdata, id, nmtokens, one_of, implied, fixed, Declared, text_and, Table}
use Rattle.page_model.specs.PageTokens.{IsLawful, NoPiece, piece_bytes}
use Rattle.page_model.specs.Parts.{Attribute, Tag, character, reference, section, comment, instruction, is_plain, has_semicolon}
use Rattle.page_model.specs.Pieces.{Piece, mark, declaration, doctype, start_tag, empty_tag, end_tag, leaf, may_follow}
use Rattle.page_model.specs.Places.{at_beginning, behind}
use Rattle.page_model.specs.OpenDoctypes.{before_root, in_root, behind_root, in_word, behind_word, system_word, public_word, in_public, behind_public, in_system, behind_system, DoctypeStands}
use Rattle.page_model.specs.OpenTags.{in_attribute_name, behind_name, behind_equals, in_value, between, AttributeStands}
use Rattle.page_model.specs.OpenValues.{in_entity, at_number, in_decimal, in_hexadecimal, ReferenceStands, OpenValue, in_text, in_reference as in_value_reference, in_fixed, in_choice, in_words, ValueStands}
use Rattle.page_model.specs.Fronts.{nothing, in_reference, in_opener, in_tag_name, in_tag, at_empty_end, in_end_tag, in_comment, in_section, in_target, behind_target, in_instruction, in_declaration, at_declaration_end, in_doctype, OpenStands, kept_place, standing, CanGoOn, IsBegun, bad, front, FrontStands, HasFront}

-- the first of the characters, and those behind it
abbrev first_or : ℕ → List ℕ → ℕ
first_or d [] = d
first_or d (c ∷ cs) = c

abbrev behind_first : List ℕ → List ℕ
behind_first [] = []
behind_first (c ∷ cs) = cs

-- a semicolon stands behind each `&`
abbrev each_closed : List ℕ → Bool
each_closed [] = true
each_closed (c ∷ cs) = (if c == 38 then has_semicolon cs else true) && each_closed cs

-- the second of the characters is this one
abbrev second_is : ℕ → List ℕ → Bool
second_is c [] = false
second_is c (a ∷ []) = false
second_is c (a ∷ b ∷ cs) = b == c

-- References: a name, `#` alone, digits with and without a value, and numbers that are too large are one.
a_name : ReferenceStands (in_entity (codes "am")) (codes "am")
a_name = (refl, refl)

no_name : ReferenceStands (in_entity (codes "#")) (codes "#") → ⊥
no_name (is, named) = cc

a_number : ReferenceStands at_number (codes "#")
a_number = refl

digits : ReferenceStands (in_decimal 16) (codes "#016")
digits = (codes "016", refl, λ e. cc, refl, refl)

too_large : ReferenceStands (in_decimal 0x110000) (codes "#1114112")
too_large = (codes "1114112", refl, λ e. cc, refl, refl)

larger_still : ReferenceStands (in_decimal 0x110000) (codes "#99999999")
larger_still = (codes "99999999", refl, λ e. cc, refl, refl)

no_digit : ReferenceStands (in_hexadecimal None) (codes "#x")
no_digit = ([], refl, refl)

hexadecimal_digits : ReferenceStands (in_hexadecimal (Some 0x20AC)) (codes "#x20aC")
hexadecimal_digits = (codes "20aC", refl, (λ e. cc, refl, refl))

-- Values, by how the attribute is declared.
abbrev language : Declared
language = record { name = codes "dir"; kind = one_of (codes "ltr" ∷ codes "rtl" ∷ []); presence = implied }

abbrev identity : Declared
identity = record { name = codes "id"; kind = id; presence = implied }

abbrev classes : Declared
classes = record { name = codes "class"; kind = nmtokens; presence = implied }

abbrev title : Declared
title = record { name = codes "title"; kind = cdata; presence = implied }

abbrev attribute : List ℕ → Attribute
attribute name = record { space = codes " "; name = name; before_equals = []; after_equals = []; quote = 34; value = [] }

abbrev preserve : Declared
preserve = record { name = codes "space"; kind = cdata; presence = fixed (codes "keep") }

so_much_of_a_choice : ValueStands language (in_choice (codes "rt") false) (codes " rt")
so_much_of_a_choice = refl

a_whole_choice : ValueStands language (in_choice (codes "rtl") true) (codes "rtl ")
a_whole_choice = refl

a_name_is_open : ValueStands identity (in_words true false) (codes " a1")
a_name_is_open = refl

a_second_token : ValueStands classes (in_words true true) (codes "a b")
a_second_token = refl

between_tokens : ValueStands classes (in_words false true) (codes "a b ")
between_tokens = refl

so_much_is_fixed : ValueStands preserve (in_fixed (codes "ke")) (codes "ke")
so_much_is_fixed = refl

-- Openers, tags and what is between them.
an_opener : OpenStands mini_table (in_opener (codes "<!")) (codes "<!")
an_opener = (refl, λ e. cc, inl (codes "--", λ e. cc, refl))

so_much_of_a_section : OpenStands mini_table (in_opener (codes "<![CD")) (codes "<![CD")
so_much_of_a_section = (refl, λ e. cc, inr (inl (codes "ATA[", λ e. cc, refl)))

a_tag_name : OpenStands mini_table (in_tag_name (codes "htm")) (codes "<htm")
a_tag_name = (refl, λ e. cc, refl)

no_opener : OpenStands mini_table (in_opener (codes "<h")) (codes "<h") → ⊥
no_opener (is, some, inl (more, left, whole)) = let e : true ≡ false = ap (second_is 33) whole in cc
no_opener (is, some, inr (inl (more, left, whole))) = let e : true ≡ false = ap (second_is 33) whole in cc
no_opener (is, some, inr (inr (more, left, whole))) = let e : true ≡ false = ap (second_is 33) whole in cc

an_end_tag : OpenStands mini_table (in_end_tag (codes "p") true) (codes "</p ")
an_end_tag = (codes " ", refl, refl, refl, refl)

two_dashes : OpenStands mini_table (in_comment 2) (codes "<!-- a--")
two_dashes = (codes " a--", refl, refl)

one_dash : OpenStands mini_table (in_comment 1) (codes "<!-- -a-")
one_dash = (codes " -a-", refl, refl)

three_brackets : OpenStands mini_table (in_section 2) (codes "<![CDATA[]]]")
three_brackets = (codes "]]]", refl, refl)

-- a target that may still be `xml`, and ones that are not
still_reserved : OpenStands mini_table (in_target (Some (codes "xM"))) (codes "<?xM")
still_reserved = (codes "xM", refl, refl, refl)

another_target : OpenStands mini_table (in_target None) (codes "<?xml-")
another_target = (codes "xml-", refl, refl, refl)

an_instruction : OpenStands mini_table (in_instruction true) (codes "<?php a?")
an_instruction = record { target = codes "php"; blank = 32; text = codes "a?"; is = refl; named = refl; not_reserved = refl; apart = refl; asked_is = refl }

a_declaration : OpenStands mini_table (in_declaration [] (in_value (codes "version") 34 (in_fixed (codes "1.")))) (codes "<?xml version=\"1.")
a_declaration = (
  codes " version=\"1.",
  record { attributes = []; are = tt; is = refl; names_are = refl; some = inr (λ e. cc) },
  record {
    gap = codes " ";
    before = [];
    after = [];
    value = codes "1.";
    is = refl;
    some_gap = (λ e. cc, refl);
    named = (λ e. cc, refl);
    blank_before = refl;
    blank_after = refl;
    quoted = refl;
    quoted_value = refl;
    stands = refl;
  },
)

-- a tag with an attribute
abbrev with_id : Table
with_id = record { elements = record { name = codes "p"; holding = text_and []; attributes = language ∷ identity ∷ [] } ∷ []; entities = []; doctype = Free }

in_an_identity : OpenStands with_id (in_tag (codes "p") [] (in_value (codes "id") 39 (in_words true false))) (codes "<p id='a")
in_an_identity = (
  record { name = codes "p"; holding = text_and []; attributes = language ∷ identity ∷ [] },
  codes " id='a",
  refl,
  record {
    rule = record { name = codes "p"; holding = text_and []; attributes = language ∷ identity ∷ [] };
    attributes = [];
    declared = refl;
    are = tt;
    is = refl;
    names_are = refl;
    some = inr (λ e. cc);
  },
  record {
    gap = codes " ";
    before = [];
    after = [];
    value = codes "a";
    is = refl;
    some_gap = (λ e. cc, refl);
    named = (λ e. cc, refl);
    blank_before = refl;
    blank_after = refl;
    quoted = refl;
    quoted_value = refl;
    stands = (identity, refl, refl);
  },
)

-- Document types: under the strict rule so much of the public literal is kept, else nothing of it.
so_much_of_a_word : DoctypeStands Free (in_word (codes "PUB")) (codes " html PUB")
so_much_of_a_word = ((codes " ", codes " ", refl, (λ e. cc, refl), (λ e. cc, refl)), λ e. cc, (public_word, codes "LIC", refl))

another_root : DoctypeStands Free (in_root (codes "hm")) (codes " hm") → ⊥
another_root (gap, is, some, more, (rest, whole)) = let e : true ≡ false = ap (second_is 116) whole in cc

kept_in_strict : DoctypeStands Strict (in_public 34 (Some (codes "-//"))) (codes " html PUBLIC \"-//")
kept_in_strict = (
  codes "\"-//",
  codes "-//",
  (codes "PUBLIC \"-//", (codes " ", codes " ", refl, (λ e. cc, refl), (λ e. cc, refl)), (codes " ", refl, (λ e. cc, refl))),
  (refl, refl, refl),
  refl,
)

-- brackets before an open piece or an open character do not count
brackets_forgotten : kept_place (in_tag_name (codes "p")) [] (behind 2) ≡ behind 0
brackets_forgotten = refl

before_a_character : kept_place nothing (0xC3 ∷ []) (behind 2) ≡ behind 0
before_a_character = refl

brackets_kept : kept_place nothing [] (behind 2) ≡ behind 2
brackets_kept = refl

-- `<htm` can become a start tag
goes_on : CanGoOn mini_table at_beginning (codes "<htm")
unfolding mini_table encode_utf8
goes_on = (codes "l>", start_tag (record { name = codes "html"; attributes = []; space = [] }), [], record { is = record { named = refl; attributes = tt; blank_space = refl }; allowed = refl }, refl)

-- the first byte of a character of two bytes
one_of_two : IsBegun (0xC3 ∷ [])
unfolding encode_utf8
one_of_two = (0xE9, refl, (0xA9 ∷ [], λ e. cc, refl))

-- Values and attributes in a tag, one form after another.
no_reference_open : ValueStands title in_text (codes "a &lt; b")
no_reference_open = closed (codes "a &lt; b") refl
  where
    -- each `&` has a semicolon behind it, which a test of the text says
    closed : (cs : List ℕ) → each_closed cs ≡ true → (fs xs : List ℕ) → cs ≡ fs ++ 38 ∷ xs → has_semicolon xs ≡ true
    closed [] h [] xs e = cc
    closed [] h (f ∷ fs) xs e = cc
    closed (c ∷ cs) h [] xs e =
        let p = and_parts (if c == 38 then has_semicolon cs else true) (each_closed cs) h in
        let is : c ≡ 38 = ap (first_or 0) e in
        let same : cs ≡ xs = ap behind_first e in
        sym (ap has_semicolon same) ∙ (sym (ap (λ (n : ℕ). if n == 38 then has_semicolon cs else true) is) ∙ p.0)
    closed (c ∷ cs) h (f ∷ fs) xs e =
        let p = and_parts (if c == 38 then has_semicolon cs else true) (each_closed cs) h in
        closed cs p.1 fs xs (ap behind_first e)

a_reference_open : ValueStands title (in_value_reference (in_entity (codes "am"))) (codes "a &lt; &am")
a_reference_open = (codes "a &lt; ", codes "am", refl, (refl, refl))

no_text_with_it_open : ValueStands title in_text (codes "a&b") → ⊥
no_text_with_it_open stands = let f : false ≡ true = stands (codes "a") (codes "b") refl in cc

-- what is asked of a value does not matter for these
abbrev Whatever : List ℕ → OpenValue → List ℕ → Type 0
Whatever name v cs = Unit {0}

directly_behind : AttributeStands Whatever (between false) []
directly_behind = (refl, refl)

white_space_between : AttributeStands Whatever (between true) (codes "  ")
white_space_between = (refl, refl)

an_attribute_name : AttributeStands Whatever (in_attribute_name (codes "cla")) (codes " cla")
an_attribute_name = (codes " ", refl, (λ e. cc, refl), (λ e. cc, refl))

-- white space has to stand before a name
runs_into_the_name : AttributeStands Whatever (in_attribute_name (codes "cla")) (codes "cla") → ⊥
runs_into_the_name ([], is, some, named) = absurd (some.0 refl)
runs_into_the_name (c ∷ cs, is, some, named) =
    let f : false ≡ true = ap (λ (n : ℕ). is_blank n && list_all is_blank cs) (ap (first_or 0) is) ∙ some.1 in
    cc

white_space_behind_a_name : AttributeStands Whatever (behind_name (codes "id")) (codes "\nid ")
white_space_behind_a_name = (codes "\n", codes " ", refl, (λ e. cc, refl), (λ e. cc, refl), (λ e. cc, refl))

behind_its_equals : AttributeStands Whatever (behind_equals (codes "id")) (codes " id = ")
behind_its_equals = (codes " ", codes " ", codes " ", refl, (λ e. cc, refl), (λ e. cc, refl), refl, refl)

-- Pieces, one form after another.
nothing_open : OpenStands mini_table nothing []
nothing_open = refl

a_reference_in_text : OpenStands mini_table (in_reference at_number) (codes "&#")
a_reference_in_text = (codes "#", refl, refl)

a_tag_ends_empty : OpenStands mini_table (at_empty_end (codes "p") []) (codes "<p /")
unfolding mini_table
a_tag_ends_empty = (
  codes " ",
  record {
    rule = record { name = codes "p"; holding = text_and []; attributes = [] };
    attributes = [];
    declared = refl;
    are = tt;
    is = refl;
    names_are = refl;
    some = inr (λ e. cc);
  },
  refl,
)

-- of the declared attributes those that stand, in the order of their declaration
both_stand : standing (language ∷ classes ∷ identity ∷ []) (attribute (codes "id") ∷ attribute (codes "dir") ∷ []) ≡ codes "dir" ∷ codes "id" ∷ []
both_stand = refl

may_end_here : OpenStands mini_table behind_target (codes "<?php?")
may_end_here = (codes "php", refl, refl)

-- `xml` names the declaration, and no instruction
no_instruction : OpenStands mini_table (in_instruction false) (codes "<?xml ") → ⊥
no_instruction i = at i.target i.is i.not_reserved i.named i.apart
  where
    at : (target : List ℕ) → codes "<?xml " ≡ codes "<?" ++ (target ++ i.blank ∷ i.text) → str_eq_ignore_ascii_case target (codes "xml") ≡ false → is_name target ≡ true → is_blank i.blank ≡ true → ⊥
    at [] is other named apart = cc
    at (a ∷ []) is other named apart =
        let f : false ≡ true = ap is_blank (ap (λ (xs : List ℕ). get_or xs 3 0) is) ∙ apart in
        cc
    at (a ∷ b ∷ []) is other named apart =
        let f : false ≡ true = ap is_blank (ap (λ (xs : List ℕ). get_or xs 4 0) is) ∙ apart in
        cc
    at (a ∷ b ∷ c ∷ []) is other named apart =
        let one : 120 ≡ a = ap (λ (xs : List ℕ). get_or xs 2 0) is in
        let two : 109 ≡ b = ap (λ (xs : List ℕ). get_or xs 3 0) is in
        let three : 108 ≡ c = ap (λ (xs : List ℕ). get_or xs 4 0) is in
        let f : true ≡ false = ap (λ (n : ℕ). str_eq_ignore_ascii_case (n ∷ 109 ∷ 108 ∷ []) (codes "xml")) one ∙ ap (λ (n : ℕ). str_eq_ignore_ascii_case (a ∷ n ∷ 108 ∷ []) (codes "xml")) two ∙ ap (λ (n : ℕ). str_eq_ignore_ascii_case (a ∷ b ∷ n ∷ []) (codes "xml")) three ∙ other in
        cc
    at (a ∷ b ∷ c ∷ d ∷ rest) is other named apart =
        let four : 32 ≡ d = ap (λ (xs : List ℕ). get_or xs 5 0) is in
        let more = (and_parts (begins_name a) (in_name b && (in_name c && (in_name d && list_all in_name rest))) named).1 in
        let behind_b = (and_parts (in_name b) (in_name c && (in_name d && list_all in_name rest)) more).1 in
        let behind_c = (and_parts (in_name c) (in_name d && list_all in_name rest) behind_b).1 in
        let f : false ≡ true = ap (λ (n : ℕ). in_name n && list_all in_name rest) four ∙ behind_c in
        cc

declaration_may_end : OpenStands mini_table at_declaration_end (codes "<?xml version='1.0' ?")
declaration_may_end = (
  codes "version" ∷ [],
  codes " ",
  record {
    attributes = record { space = codes " "; name = codes "version"; before_equals = []; after_equals = []; quote = 39; value = codes "1.0" } ∷ [];
    are = (
      record {
        some_space = λ e. cc;
        blank_space = refl;
        named = refl;
        blank_before = refl;
        blank_after = refl;
        quoted = refl;
        characters = refl;
        references = refl;
      },
      tt,
    );
    is = refl;
    names_are = refl;
    some = inr (λ e. cc);
  },
  refl,
)

a_document_type : OpenStands mini_table (in_doctype (before_root true)) (codes "<!DOCTYPE ")
a_document_type = (codes " ", refl, (refl, refl))

-- Document types, one form after another.
behind_the_opener : DoctypeStands Free (before_root false) []
behind_the_opener = (refl, refl)

so_much_of_the_root : DoctypeStands Free (in_root (codes "ht")) (codes " ht")
so_much_of_the_root = (codes " ", refl, (λ e. cc, refl), λ e. cc, (codes "ml", refl))

white_space_behind_the_root : DoctypeStands Free behind_root (codes " html\n")
white_space_behind_the_root = (codes " ", codes "\n", refl, (λ e. cc, refl), (λ e. cc, refl))

white_space_behind_the_word : DoctypeStands Strict (behind_word system_word) (codes " html SYSTEM ")
white_space_behind_the_word = (codes "SYSTEM ", (codes " ", codes " ", refl, (λ e. cc, refl), (λ e. cc, refl)), (codes " ", refl, (λ e. cc, refl)))

-- where any document type will do, nothing of the literal is kept
forgotten_when_free : DoctypeStands Free (in_public 34 None) (codes " html PUBLIC \"-//")
forgotten_when_free = (
  codes "\"-//",
  codes "-//",
  (codes "PUBLIC \"-//", (codes " ", codes " ", refl, (λ e. cc, refl), (λ e. cc, refl)), (codes " ", refl, (λ e. cc, refl))),
  (refl, refl, refl),
  refl,
)

behind_the_public : DoctypeStands Strict (behind_public true) (codes " html PUBLIC 'a' ")
behind_the_public = (
  codes " ",
  (
    codes "'a' ",
    (codes "PUBLIC 'a' ", (codes " ", codes " ", refl, (λ e. cc, refl), (λ e. cc, refl)), (codes " ", refl, (λ e. cc, refl))),
    (39, codes "a", refl, refl, refl),
  ),
  refl,
  refl,
)

in_the_first_system : DoctypeStands Free (in_system 39) (codes " html SYSTEM 'a\"")
in_the_first_system = (
  system_word,
  codes "'a\"",
  codes "a\"",
  (codes "SYSTEM 'a\"", (codes " ", codes " ", refl, (λ e. cc, refl), (λ e. cc, refl)), (codes " ", refl, (λ e. cc, refl))),
  (refl, refl, refl),
)

in_the_second_system : DoctypeStands Strict (in_system 34) (codes " html PUBLIC '' \"b")
in_the_second_system = (
  public_word,
  codes "\"b",
  codes "b",
  (
    codes " \"b",
    codes " ",
    (
      codes "'' \"b",
      (codes "PUBLIC '' \"b", (codes " ", codes " ", refl, (λ e. cc, refl), (λ e. cc, refl)), (codes " ", refl, (λ e. cc, refl))),
      (39, [], refl, refl, refl),
    ),
    (λ e. cc, refl),
    refl,
  ),
  (refl, refl, refl),
)

behind_the_system : DoctypeStands Free behind_system (codes " html SYSTEM 'a' ")
behind_the_system = (
  system_word,
  codes "'a' ",
  (codes "SYSTEM 'a' ", (codes " ", codes " ", refl, (λ e. cc, refl), (λ e. cc, refl)), (codes " ", refl, (λ e. cc, refl))),
  (codes " ", (39, codes "a", refl, refl, refl), refl),
)

-- Fronts. Behind `]]` no `>` is text, whatever follows; and no declared element begins with `x`.
abbrev less_first : List ℕ → Bool
less_first xs = first_or 0 xs == 60

section_end_is_bad : FrontStands mini_table (behind 2) (codes ">") bad
unfolding encode_utf8
section_end_is_bad (more, p, rest, lawful, e) = at p lawful e
  where
    at : (p : Piece) → IsLawful mini_table (behind 2) p → piece_bytes p ++ rest ≡ codes ">" ++ more → ⊥
    at mark l e = let f : false ≡ true = ap (λ (xs : List ℕ). first_or 0 xs == 62) e in cc
    at (declaration d) l e = let f : true ≡ false = ap less_first e in cc
    at (doctype d) l e = let f : true ≡ false = ap less_first e in cc
    at (start_tag tag) l e = let f : true ≡ false = ap less_first e in cc
    at (empty_tag tag) l e = let f : true ≡ false = ap less_first e in cc
    at (end_tag name space) l e = let f : true ≡ false = ap less_first e in cc
    at (leaf (character c)) l e =
        let is : c ≡ 62 = (encode_same c 62 rest more (sym (append_assoc (encode_utf8 c) [] rest) ∙ e)).0 in
        let f : false ≡ true = sym (ap (λ (n : ℕ). may_follow (behind 2) (character n)) is) ∙ l.is.0 in
        cc
    at (leaf (reference (decimal digits))) l e = let f : false ≡ true = ap (λ (xs : List ℕ). first_or 0 xs == 62) e in cc
    at (leaf (reference (hexadecimal digits))) l e = let f : false ≡ true = ap (λ (xs : List ℕ). first_or 0 xs == 62) e in cc
    at (leaf (reference (entity name))) l e = let f : false ≡ true = ap (λ (xs : List ℕ). first_or 0 xs == 62) e in cc
    at (leaf (section chars)) l e = let f : true ≡ false = ap less_first e in cc
    at (leaf (comment chars)) l e = let f : true ≡ false = ap less_first e in cc
    at (leaf (instruction target chars)) l e = let f : true ≡ false = ap less_first e in cc

-- a page of which `<` is left behind a whole start tag
abbrev second_or : ℕ → List ℕ → ℕ
second_or d [] = d
second_or d (c ∷ cs) = first_or d cs

named_behind : (name x y : List ℕ) → is_name name ≡ true → 60 ∷ (encode_utf8_all (name ++ x) ++ y) ≡ codes "<" → ⊥
named_behind [] x y named e = cc
named_behind (c ∷ cs) x y named e =
    some_bytes c (encode_utf8_all (cs ++ x) ++ y) (sym (append_assoc (encode_utf8 c) (encode_utf8_all (cs ++ x)) y) ∙ ap behind_first e)
  where
    some_bytes : (c : ℕ) (rest : List ℕ) → encode_utf8 c ++ rest ≡ [] → ⊥
    some_bytes c rest e =
        let l : length (encode_utf8 c ++ rest) ≡ length (encode_utf8 c) + length rest = length-append (encode_utf8 c) rest in
        let z : length (encode_utf8 c ++ rest) ≡ 0 = ap length e in
        let m = length-encode c in
        let b = (len_utf8_bounds c).0 in
        omega arith

no_piece_at_less : NoPiece mini_table (behind 0) (codes "<")
unfolding encode_utf8
no_piece_at_less mark rest l e = let f : false ≡ true = ap less_first e in cc
no_piece_at_less (declaration d) rest l e = let f : false ≡ true = ap (λ (xs : List ℕ). second_or 0 xs == 0) e in cc
no_piece_at_less (doctype d) rest l e = let f : false ≡ true = ap (λ (xs : List ℕ). second_or 0 xs == 0) e in cc
no_piece_at_less (start_tag tag) rest l e = named_behind tag.name _ rest l.is.named e
no_piece_at_less (empty_tag tag) rest l e = named_behind tag.name _ rest l.is.named e
no_piece_at_less (end_tag name space) rest l e = let f : false ≡ true = ap (λ (xs : List ℕ). second_or 0 xs == 0) e in cc
no_piece_at_less (leaf (character c)) rest l e =
    let is : c ≡ 60 = (encode_same c 60 rest [] (sym (append_assoc (encode_utf8 c) [] rest) ∙ e)).0 in
    let f : false ≡ true = sym (ap is_plain is) ∙ l.is.1 in
    cc
no_piece_at_less (leaf (reference (decimal digits))) rest l e = let f : false ≡ true = ap less_first e in cc
no_piece_at_less (leaf (reference (hexadecimal digits))) rest l e = let f : false ≡ true = ap less_first e in cc
no_piece_at_less (leaf (reference (entity name))) rest l e = let f : false ≡ true = ap less_first e in cc
no_piece_at_less (leaf (section chars)) rest l e = let f : false ≡ true = ap (λ (xs : List ℕ). second_or 0 xs == 0) e in cc
no_piece_at_less (leaf (comment chars)) rest l e = let f : false ≡ true = ap (λ (xs : List ℕ). second_or 0 xs == 0) e in cc
no_piece_at_less (leaf (instruction target chars)) rest l e = let f : false ≡ true = ap (λ (xs : List ℕ). second_or 0 xs == 0) e in cc

abbrev root_tag : Tag
root_tag = record { name = codes "html"; attributes = []; space = [] }

less_is_open : HasFront mini_table (codes "<html><") (front (behind 0) (in_opener (codes "<")) [])
unfolding mini_table encode_utf8
less_is_open = record {
  pieces = start_tag root_tag ∷ [];
  rest = codes "<";
  lawful = (record { is = record { named = refl; attributes = tt; blank_space = refl }; allowed = refl }, tt);
  spelled = refl;
  none = no_piece_at_less;
  stands = (
    (codes "html>", start_tag root_tag, [], record { is = record { named = refl; attributes = tt; blank_space = refl }; allowed = refl }, refl),
    (codes "<", refl, (65, refl, (encode_utf8 65, λ e. cc, refl)), (refl, λ e. cc, inl (codes "!--", λ e. cc, refl)), refl),
  );
}
