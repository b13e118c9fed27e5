-- Worked pages and near misses.
use Rattle.std.proofs.Common.{◌≡◌, ℕ, Bool, true, false, List, [], ◌∷◌, ◌++◌, refl, sym, ap, ◌∙◌, append_assoc, codes, Option, None, Some}
use Rattle.std.specs.Prelude.{◌==◌, ◌&&◌}
use Rattle.std.specs.List.{list_all}
use Rattle.std.specs.Str.{str_eq_ignore_ascii_case}
use Rattle.std.specs.Char.{encode_utf8}
use Rattle.std.proofs.lemmas.Bool.{and_parts}
use Rattle.std.proofs.lemmas.Str.{encode_same}
use Rattle.text_base.specs.declared.page_token.PageToken.{PageToken}
use Rattle.text_base.specs.declared.page_token.PageToken.TheVariants as token
use Rattle.xml_text.specs.Names.{begins_name, in_name, is_name}
use Rattle.xml_text.specs.Texts.{holds}
use Rattle.dtd_model.specs.declared.dtd.DoctypeRule.TheVariants.{Strict}
use Rattle.dtd_model.specs.Matches.{may_be_empty, after}
use Rattle.dtd_model.specs.Mini.{mini_table, plain_rule}
use Rattle.dtd_model.specs.References.{decimal, hexadecimal, entity, is_reference}
use Rattle.dtd_model.specs.Table.{cdata, id, idrefs, nmtoken, one_of, implied, fixed, nothing, children, one, Declared, Table}
use Rattle.page_model.specs.Attributes.{words_of, has_kind, has_fixed, attributes_fit, find_rule, is_some_rule, leaf_fits, doctype_fits}
use Rattle.page_model.specs.Broken.{is_loose_reference, loose_then, Broken}
use Rattle.page_model.specs.Nodes.{Nodes, no_nodes, other, element, no_doctype, Page, pieces_of}
use Rattle.page_model.specs.PageTokens.{piece_bytes, piece_tokens, tokens_then}
use Rattle.page_model.specs.Parts.{Attribute, Tag, IsTag, character, reference, section, comment, instruction, is_plain, refers_by, may_be_quoted, begins_blank}
use Rattle.page_model.specs.Pieces.{mark, declaration, doctype, start_tag, empty_tag, end_tag, leaf, piece_then, pieces_then, may_follow, after as place_after, IsPiece}
use Rattle.page_model.specs.Places.{at_beginning, behind_mark, behind}
use Rattle.page_model.specs.Prolog.{Doctype, public, no_identifier, is_in_order}
use Rattle.page_model.specs.TokenTree.{Trees, no_trees, single, tree, TokenTree, prolog_then, trees_then, PrologFits as TreePrologFits}
use Rattle.page_model.specs.Valid.{Valid, place_of, sort_of, blank, text, remark, is_between, may_hold, PrologFits}

-- References (XML 1.0, 4.1 and 4.6).

pub a_letter : is_reference (decimal (codes "65")) ≡ true
a_letter = refl

pub no_character : is_reference (decimal (codes "0")) ≡ false
no_character = refl

pub too_large : is_reference (hexadecimal (codes "110000")) ≡ false
too_large = refl

-- but pages with it do not yet break where less is asked
pub too_large_is_loose : is_loose_reference mini_table (hexadecimal (codes "110000")) ≡ true
too_large_is_loose = refl

pub each_ampersand : refers_by is_reference (codes "a&amp;&#60;b") ≡ true
each_ampersand = refl

pub a_lone_ampersand : refers_by is_reference (codes "a & b;") ≡ false
a_lone_ampersand = refl

pub no_semicolon : refers_by is_reference (codes "a?b=1&c=2") ≡ false
no_semicolon = refl

pub not_declared : leaf_fits mini_table (reference (entity (codes "foo"))) ≡ false
unfolding mini_table
not_declared = refl

-- The values of attributes (XML 1.0, 3.3.1).

pub the_words : words_of (codes "  ab c ") ≡ codes "ab" ∷ codes "c" ∷ []
the_words = refl

pub two_names : has_kind id (codes "a b") ≡ false
two_names = refl

pub names : has_kind idrefs (codes " a  b ") ≡ true
names = refl

pub no_names : has_kind idrefs (codes " ") ≡ false
no_names = refl

pub digit_first : has_kind id (codes "1a") ≡ false
digit_first = refl

pub digit_first_in_token : has_kind nmtoken (codes "1a") ≡ true
digit_first_in_token = refl

pub reference_in_id : has_kind id (codes "a&#98;") ≡ false
reference_in_id = refl

pub one_choice : has_kind (one_of (codes "ltr" ∷ codes "rtl" ∷ [])) (codes " rtl ") ≡ true
one_choice = refl

pub two_choices : has_kind (one_of (codes "ltr" ∷ codes "rtl" ∷ [])) (codes "ltr rtl") ≡ false
two_choices = refl

pub blank_in_fixed : has_fixed (fixed (codes "a")) (codes "a ") ≡ false
unfolding encode_utf8
blank_in_fixed = refl

-- U+E9 is two bytes
pub fixed_beyond_ascii : has_fixed (fixed (0xC3 ∷ 0xA9 ∷ [])) (0xE9 ∷ []) ≡ true
unfolding encode_utf8
fixed_beyond_ascii = refl

-- Attributes of a tag (XML 1.0, 3.1).

abbrev attribute : List ℕ → List ℕ → Attribute
attribute name value = record { space = codes " "; name = name; before_equals = []; after_equals = codes " "; quote = 34; value = value }

abbrev declared_id : Declared
declared_id = record { name = codes "id"; kind = id; presence = implied }

abbrev namespace : Declared
namespace = record { name = codes "xmlns"; kind = cdata; presence = fixed (codes "x") }

pub no_attributes : attributes_fit [] (codes "p") (declared_id ∷ []) [] ≡ true
no_attributes = refl

pub one_of_a_name : attributes_fit [] (codes "p") (declared_id ∷ []) (attribute (codes "id") (codes "a") ∷ []) ≡ true
one_of_a_name = refl

pub two_of_a_name : attributes_fit [] (codes "p") (declared_id ∷ []) (attribute (codes "id") (codes "a") ∷ attribute (codes "id") (codes "b") ∷ []) ≡ false
two_of_a_name = refl

pub undeclared_attribute : attributes_fit [] (codes "p") (declared_id ∷ []) (attribute (codes "class") (codes "a") ∷ []) ≡ false
undeclared_attribute = refl

pub html_without_namespace : attributes_fit [] (codes "html") (namespace ∷ []) [] ≡ false
html_without_namespace = refl

pub body_without_namespace : attributes_fit [] (codes "body") (namespace ∷ []) [] ≡ true
body_without_namespace = refl

pub less_in_value : may_be_quoted 34 60 ≡ false
less_in_value = refl

pub other_quote_in_value : may_be_quoted 34 39 ≡ true
other_quote_in_value = refl

-- Pieces and what they spell (XML 1.0, 2.4 to 2.8).

abbrev plain_tag : List ℕ → Tag
plain_tag name = record { name = name; attributes = []; space = [] }

pub a_tag : piece_bytes (empty_tag (record { name = codes "p"; attributes = attribute (codes "id") (codes "a") ∷ []; space = codes " " })) ≡ codes "<p id= \"a\" />"
unfolding encode_utf8
a_tag = refl

pub remarks : pieces_then (leaf (comment (codes " a ")) ∷ leaf (instruction (codes "t") (codes " b")) ∷ leaf (section (codes "<")) ∷ leaf (reference (decimal (codes "9"))) ∷ []) [] ≡ codes "<!-- a --><?t b?><![CDATA[<]]>&#9;"
remarks = refl

pub the_mark : piece_bytes mark ≡ 0xEF ∷ 0xBB ∷ 0xBF ∷ []
unfolding encode_utf8
the_mark = refl

-- XML 1.0, 2.5: `<!-- B+, B, or B--->` is not well-formed
pub ends_in_dash : holds (codes "--") (codes " B+, B, or B-" ++ codes "-") ≡ true
ends_in_dash = refl

pub begins_with_dash : holds (codes "--") (codes "-a" ++ codes "-") ≡ false
begins_with_dash = refl

pub reserved_target : str_eq_ignore_ascii_case (codes "xMl") (codes "xml") ≡ true
reserved_target = refl

pub another_target : str_eq_ignore_ascii_case (codes "xml-stylesheet") (codes "xml") ≡ false
another_target = refl

pub target_runs_into_text : begins_blank (codes "(b)") ≡ false
target_runs_into_text = refl

pub ampersand_is_not_plain : is_plain 38 ≡ false
ampersand_is_not_plain = refl

-- `]]>` in text, in any number of pieces
pub second_bracket : place_after (behind 1) (leaf (character 93)) ≡ behind 2
second_bracket = refl

pub third_bracket : place_after (behind 2) (leaf (character 93)) ≡ behind 2
third_bracket = refl

pub section_end : may_follow (behind 2) (character 62) ≡ false
section_end = refl

pub comment_between : may_follow (place_after (behind 2) (leaf (comment []))) (character 62) ≡ true
comment_between = refl

pub mark_is_no_text : may_follow at_beginning (character 0xFEFF) ≡ false
mark_is_no_text = refl

pub mark_in_text : may_follow (behind 0) (character 0xFEFF) ≡ true
mark_in_text = refl

pub second_mark : IsPiece behind_mark mark → ⊥
second_mark h = cc

-- The prolog (XML 1.0, 2.8).

abbrev strict_type : Doctype
strict_type = record {
  space = codes " ";
  identifier = public (codes " ") (codes " ") (record { quote = 34; text = codes "-//W3C//DTD XHTML 1.0 Strict//EN" }) (codes " ") (record { quote = 39; text = codes "s.dtd" });
  end_space = [];
}

pub strict_spelled : piece_then (doctype strict_type) [] ≡ codes "<!DOCTYPE html PUBLIC \"-//W3C//DTD XHTML 1.0 Strict//EN\" 's.dtd'>"
strict_spelled = refl

pub strict_meets : doctype_fits Strict strict_type ≡ true
strict_meets = refl

pub strict_wants_its_identifier : doctype_fits Strict (record { space = codes " "; identifier = no_identifier; end_space = [] }) ≡ false
strict_wants_its_identifier = refl

pub strict_wants_one : PrologFits Strict no_doctype → ⊥
strict_wants_one h = h

pub version_and_encoding : is_in_order (attribute (codes "version") (codes "1.0") ∷ attribute (codes "encoding") (codes "utf-8") ∷ []) ≡ true
version_and_encoding = refl

pub encoding_alone : is_in_order (attribute (codes "encoding") (codes "UTF-8") ∷ []) ≡ false
encoding_alone = refl

pub wrong_order : is_in_order (attribute (codes "version") (codes "1.0") ∷ attribute (codes "standalone") (codes "no") ∷ attribute (codes "encoding") (codes "UTF-8") ∷ []) ≡ false
wrong_order = refl

-- What may stand where (XML 1.0, 3).

pub blank_reference_between : is_between (sort_of (reference (decimal (codes "32")))) ≡ false
blank_reference_between = refl

pub blank_section_between : is_between (sort_of (section (codes " "))) ≡ false
blank_section_between = refl

pub comment_in_empty : may_hold nothing (sort_of (comment (codes " "))) ≡ false
comment_in_empty = refl

pub comment_between_elements : may_hold (children (one 0)) (sort_of (comment (codes " "))) ≡ true
comment_between_elements = refl

pub text_between_elements : may_hold (children (one 0)) (sort_of (character 120)) ≡ false
text_between_elements = refl

-- Pages and tokens.

pub capital_letters : find_rule mini_table.elements (codes "P") ≡ None
unfolding mini_table
capital_letters = refl

pub third : place_of mini_table.elements (codes "p") ≡ 2
unfolding mini_table
third = refl

abbrev around : List ℕ → Nodes → Nodes
around name inside = element (plain_tag name) inside [] no_nodes

-- nothing stands before the root
abbrev bare : Nodes → Page
bare nodes = record { mark = false; declaration = None; prolog = no_doctype; nodes = nodes }

-- the page with this in its body
abbrev page_with : Nodes → Page
page_with inside = bare (around (codes "html") (around (codes "body") inside))

plain : (name : List ℕ) → is_name name ≡ true → IsTag (plain_tag name)
plain name named = record { named = named; attributes = tt; blank_space = refl }

-- a page with a paragraph
pub paragraph : Valid mini_table (codes "<html><body><p>x</p></body></html>")
unfolding mini_table encode_utf8 may_be_empty after
paragraph = record {
  page = page_with (around (codes "p") (other (character 120) no_nodes));
  spells = record {
    pieces = (plain (codes "html") refl, (plain (codes "body") refl, (plain (codes "p") refl, ((refl, refl), ((refl, refl), ((refl, refl), ((refl, refl), tt)))))));
    spelled = refl;
  };
  allowed = refl;
  prolog = tt;
  root = record { root = refl; around = refl };
  fits = (
    record { rule = plain_rule _ _; declared = refl; held = refl; elements = refl },
    (
      record { rule = plain_rule _ _; declared = refl; held = refl; elements = refl },
      (record { rule = plain_rule _ _; declared = refl; held = refl; elements = refl }, tt, tt),
      tt,
    ),
    tt,
  );
}

-- its tokens, and that they are those of a tree
abbrev pub start : ℕ → PageToken
start n = token.Start (record { 0 = n })

abbrev pub end_of : ℕ → PageToken
end_of n = token.End (record { 0 = n })

abbrev pub its_tokens : List PageToken
its_tokens = start 0 ∷ start 1 ∷ start 2 ∷ token.Text ∷ end_of 2 ∷ end_of 1 ∷ end_of 0 ∷ []

pub paragraph_tokens : tokens_then mini_table (pieces_of (page_with (around (codes "p") (other (character 120) no_nodes)))) [] ≡ its_tokens
unfolding mini_table
paragraph_tokens = refl

pub paragraph_tree : TokenTree mini_table its_tokens
unfolding mini_table may_be_empty after
paragraph_tree = record {
  before = None;
  trees = tree 0 (tree 1 (tree 2 (single text no_trees) no_trees) no_trees) no_trees;
  flat = refl;
  prolog = tt;
  root = refl;
  around = refl;
  fits = (
    record { rule = plain_rule _ _; declared = refl; held = refl; elements = refl },
    (
      record { rule = plain_rule _ _; declared = refl; held = refl; elements = refl },
      (record { rule = plain_rule _ _; declared = refl; held = refl; elements = refl }, tt, tt),
      tt,
    ),
    tt,
  );
}

-- the tag of an empty element gives two tokens, a declaration none
pub two_tokens : piece_tokens mini_table (empty_tag (plain_tag (codes "p"))) ≡ token.Start (record { 0 = 2 }) ∷ token.End (record { 0 = 2 }) ∷ []
unfolding mini_table
two_tokens = refl

pub no_token : piece_tokens mini_table mark ≡ []
no_token = refl

-- Under the strict document type the declaration stands before the root, with white space and remarks round it.

abbrev strict_mini : Table
strict_mini = record { elements = mini_table.elements; entities = []; doctype = Strict }

abbrev empty_body : Trees
empty_body = tree 0 (tree 1 no_trees no_trees) no_trees

abbrev its_root : List PageToken
its_root = start 0 ∷ start 1 ∷ end_of 1 ∷ end_of 0 ∷ []

pub behind_its_type : TokenTree strict_mini (token.Misc ∷ token.Doctype ∷ its_root)
unfolding mini_table may_be_empty after
behind_its_type = record {
  before = Some (single remark no_trees);
  trees = empty_body;
  flat = refl;
  prolog = (refl, refl);
  root = refl;
  around = refl;
  fits = (
    record { rule = plain_rule _ _; declared = refl; held = refl; elements = refl },
    (record { rule = plain_rule _ _; declared = refl; held = refl; elements = refl }, tt, tt),
    tt,
  );
}

abbrev is_type : List PageToken → Bool
is_type [] = false
is_type (token.Doctype ∷ tokens) = true
is_type (token.Start e ∷ tokens) = false
is_type (token.End e ∷ tokens) = false
is_type (token.Blank ∷ tokens) = false
is_type (token.Text ∷ tokens) = false
is_type (token.Misc ∷ tokens) = false
is_type (token.Bad ∷ tokens) = false

abbrev is_start : List PageToken → Bool
is_start [] = false
is_start (token.Start e ∷ tokens) = true
is_start (token.Doctype ∷ tokens) = false
is_start (token.End e ∷ tokens) = false
is_start (token.Blank ∷ tokens) = false
is_start (token.Text ∷ tokens) = false
is_start (token.Misc ∷ tokens) = false
is_start (token.Bad ∷ tokens) = false

pub without_its_type : TokenTree strict_mini its_root → ⊥
without_its_type t = at t.before t.trees t.flat t.prolog
  where
    at : (before : Option Trees) (trees : Trees) → prolog_then before (trees_then trees []) ≡ its_root → TreePrologFits Strict before → ⊥
    at None trees e fits = fits
    at (Some no_trees) trees e fits = let f : true ≡ false = ap is_type e in cc
    at (Some (single blank more)) trees e fits = let f : false ≡ true = ap is_start e in cc
    at (Some (single text more)) trees e fits = let f : false ≡ true = ap is_start e in cc
    at (Some (single remark more)) trees e fits = let f : false ≡ true = ap is_start e in cc
    at (Some (tree n inside more)) trees e fits = cc

-- Pages that break whatever is declared of attributes, and such as do not.

-- the first of the bytes is this one, and there is a second
abbrev first_is : ℕ → List ℕ → Bool
first_is c [] = false
first_is c (a ∷ xs) = a == c

abbrev has_second : List ℕ → Bool
has_second [] = false
has_second (a ∷ []) = false
has_second (a ∷ b ∷ xs) = true

not_less : (c : ℕ) → is_plain c ≡ true → c ≡ 60 → ⊥
not_less c h is = let f : true ≡ false = sym h ∙ ap is_plain is in cc

-- a name stands behind the `<` of a tag
named_more : (name x y : List ℕ) → is_name name ≡ true → 60 ∷ ((name ++ x) ++ y) ≡ codes "<" → ⊥
named_more [] x y named e = cc
named_more (c ∷ cs) x y named e = let f : true ≡ false = ap has_second e in cc

-- `<` alone
pub less_breaks : Broken mini_table (codes "<")
unfolding encode_utf8
less_breaks [] l e = let f : false ≡ true = ap (first_is 60) e in cc
less_breaks (mark ∷ ps) l e = let f : false ≡ true = ap (first_is 60) e in cc
less_breaks (declaration d ∷ ps) l e = let f : true ≡ false = ap has_second e in cc
less_breaks (doctype d ∷ ps) l e = let f : true ≡ false = ap has_second e in cc
less_breaks (start_tag tag ∷ ps) l e = named_more tag.name _ _ l.0.named e
less_breaks (empty_tag tag ∷ ps) l e = named_more tag.name _ _ l.0.named e
less_breaks (end_tag name space ∷ ps) l e = let f : true ≡ false = ap has_second e in cc
less_breaks (leaf (character c) ∷ ps) l e = absurd (not_less c l.0.is.1 ((encode_same c 60 (loose_then ps) [] (sym (append_assoc (encode_utf8 c) [] (loose_then ps)) ∙ e)).0))
less_breaks (leaf (reference (decimal digits)) ∷ ps) l e = let f : false ≡ true = ap (first_is 60) e in cc
less_breaks (leaf (reference (hexadecimal digits)) ∷ ps) l e = let f : false ≡ true = ap (first_is 60) e in cc
less_breaks (leaf (reference (entity name)) ∷ ps) l e = let f : false ≡ true = ap (first_is 60) e in cc
less_breaks (leaf (section chars) ∷ ps) l e = let f : true ≡ false = ap has_second e in cc
less_breaks (leaf (comment chars) ∷ ps) l e = let f : true ≡ false = ap has_second e in cc
less_breaks (leaf (instruction target chars) ∷ ps) l e = let f : true ≡ false = ap has_second e in cc

-- the tag of an element that is not declared
abbrev at_second : List ℕ → ℕ
at_second [] = 0
at_second (a ∷ []) = 0
at_second (a ∷ b ∷ xs) = b

abbrev at_third : List ℕ → ℕ
at_third [] = 0
at_third (a ∷ xs) = at_second xs

undeclared_name : (name x y : List ℕ) → is_name name ≡ true → is_some_rule (find_rule mini_table.elements name) ≡ true → 60 ∷ ((name ++ x) ++ y) ≡ codes "<x>" → ⊥
unfolding mini_table
undeclared_name [] x y named declared e = cc
undeclared_name (c ∷ []) x y named declared e =
    let f : false ≡ true = ap (λ (n : ℕ). is_some_rule (find_rule mini_table.elements (n ∷ []))) (sym (ap at_second e)) ∙ declared in
    cc
undeclared_name (c ∷ d ∷ ds) x y named declared e =
    let f : false ≡ true = ap (λ (n : ℕ). in_name n && list_all in_name ds) (sym (ap at_third e)) ∙ (and_parts (begins_name c) (in_name d && list_all in_name ds) named).1 in
    cc

pub undeclared_breaks : Broken mini_table (codes "<x>")
unfolding encode_utf8
undeclared_breaks [] l e = let f : false ≡ true = ap (first_is 60) e in cc
undeclared_breaks (mark ∷ ps) l e = let f : false ≡ true = ap (first_is 60) e in cc
undeclared_breaks (declaration d ∷ ps) l e = let f : false ≡ true = ap (λ (xs : List ℕ). at_second xs == 120) e in cc
undeclared_breaks (doctype d ∷ ps) l e = let f : false ≡ true = ap (λ (xs : List ℕ). at_second xs == 120) e in cc
undeclared_breaks (start_tag tag ∷ ps) l e = undeclared_name tag.name _ _ l.0.named l.0.declared e
undeclared_breaks (empty_tag tag ∷ ps) l e = undeclared_name tag.name _ _ l.0.named l.0.declared e
undeclared_breaks (end_tag name space ∷ ps) l e = let f : false ≡ true = ap (λ (xs : List ℕ). at_second xs == 120) e in cc
undeclared_breaks (leaf (character c) ∷ ps) l e = absurd (not_less c l.0.is.1 ((encode_same c 60 (loose_then ps) (codes "x>") (sym (append_assoc (encode_utf8 c) [] (loose_then ps)) ∙ e)).0))
undeclared_breaks (leaf (reference (decimal digits)) ∷ ps) l e = let f : false ≡ true = ap (first_is 60) e in cc
undeclared_breaks (leaf (reference (hexadecimal digits)) ∷ ps) l e = let f : false ≡ true = ap (first_is 60) e in cc
undeclared_breaks (leaf (reference (entity name)) ∷ ps) l e = let f : false ≡ true = ap (first_is 60) e in cc
undeclared_breaks (leaf (section chars) ∷ ps) l e = let f : false ≡ true = ap (λ (xs : List ℕ). at_second xs == 120) e in cc
undeclared_breaks (leaf (comment chars) ∷ ps) l e = let f : false ≡ true = ap (λ (xs : List ℕ). at_second xs == 120) e in cc
undeclared_breaks (leaf (instruction target chars) ∷ ps) l e = let f : false ≡ true = ap (λ (xs : List ℕ). at_second xs == 120) e in cc

-- no attribute is declared, and a value may hold what is no UTF-8, and `&`
pub any_attribute : Broken mini_table (codes "<p a='&" ++ 0xFF ∷ codes "'>") → ⊥
unfolding mini_table
any_attribute breaks =
    breaks
    (start_tag (record { name = codes "p"; attributes = record { space = codes " "; name = codes "a"; before_equals = []; after_equals = []; quote = 39; value = 38 ∷ 0xFF ∷ [] } ∷ []; space = [] }) ∷ []) (
      record {
        named = refl;
        declared = refl;
        attributes = (
          record {
            some_space = λ e. cc;
            blank_space = refl;
            named = refl;
            blank_before = refl;
            blank_after = refl;
            quoted = refl;
            value = refl;
          },
          tt,
        );
        blank_space = refl;
      },
      tt,
    )
    refl

-- a number that is no character's
pub any_number_written : Broken mini_table (codes "&#1114112;") → ⊥
unfolding encode_utf8
any_number_written breaks = breaks (leaf (reference (decimal (codes "1114112"))) ∷ []) (refl, tt) refl

-- nothing is open
pub nothing_breaks_not : Broken mini_table [] → ⊥
nothing_breaks_not breaks = breaks [] tt refl
