-- Each piece is read as it is spelled.
use Rattle.std.proofs.Common.{◌≡◌, ℕ, Bool, true, false, not, ◌&&◌, ◌||◌, List, [], ◌∷◌, ◌++◌, Option, Some, refl, sym, ◌∙◌, ap, arith}
use Rattle.std.specs.Prelude.{◌==◌, if◌then◌else◌, nat_eq, codes, ◌≢◌, bytes_eq}
use Rattle.std.specs.List.{list_all}
use Rattle.std.specs.Char.{is_ascii_digit, is_ascii_hexdigit}
use Rattle.std.specs.Str.{str_eq_ignore_ascii_case}
use Rattle.std.proofs.lemmas.Bool.{and_parts, and_from, not-true}
use Rattle.std.proofs.lemmas.Bool.Decides.{nat_tests}
use Rattle.std.proofs.lemmas.Slice.Eq.{bytes_eq-Decides}
use Rattle.xml_text.specs.Characters.{is_blank, is_character}
use Rattle.xml_text.specs.Names.{begins_name, in_name, is_name, in_public_identifier}
use Rattle.dtd_model.specs.References.{Reference, decimal, hexadecimal, entity, reference_then, is_reference, number_written}
use Rattle.page_model.specs.Parts.{Attribute, attributes_then, AreAttributes, Tag, tag_then, IsTag, Leaf, character, reference, section, comment, instruction, IsLeaf, IsSection, IsComment, IsInstruction, is_plain, numbered, reference_of, begins_blank}
use Rattle.page_model.specs.Prolog.{Declaration, IsDeclaration, Literal, literal_then, IsLiteral, Identifier, no_identifier, system, public, identifier_then, IsIdentifier, Doctype, IsDoctype}
use Rattle.page_model.specs.Pieces.{Piece, mark, declaration, doctype, start_tag, empty_tag, end_tag, leaf, piece_then, may_follow, IsPiece}
use Rattle.page_model.specs.Places.{Place, at_beginning, behind_mark, behind}
use Rattle.page_model.specs.Scan.{front, beyond, strip, then_some, Stops, is_other}
use Rattle.page_model.specs.Reading.{quoted_at, all_attributes, tag_end, tag_with, open_at, end_at, reference_at, comment_at, section_at, instruction_at, declaration_with, declaration_at, question_at, doctype_end, system_at, second_at, public_at, identifier_by, identifier_at, doctype_at, bang_at, markup_at, single_at, piece_at}
use Rattle.page_model.proofs.ScanLemmas.{then_is, split_at, SplitAt}
use Rattle.page_model.proofs.UntilLemmas.{until_word, no_section_end, no_instruction_end, no_comment_end}
use Rattle.page_model.proofs.AttributeLemmas.{name_read, blank_stops, blank_not_in_name, quote_not_blank, quoted_read, all_read, no_attribute, begins_in}

abbrev pub Reads : Option (Piece × List ℕ) → Piece → List ℕ → Type 0
Reads o p rest = let z : Piece × List ℕ = (p, rest) in o ≡ Some z

-- Tags.

tag_ends : (name : List ℕ) (xs : List Attribute) (space rest : List ℕ) (c : ℕ) → list_all is_blank space ≡ true → is_blank c ≡ false → (o : Option (Piece × List ℕ))
    → tag_end (record { name = name; attributes = xs; space = space }) (c ∷ rest) ≡ o → tag_with name xs (space ++ c ∷ rest) ≡ o
tag_ends name xs space rest c h sign o e =
    let s = split_at is_blank space (c ∷ rest) h sign in
    ap (λ (w : List ℕ). tag_end (record { name = name; attributes = xs; space = w }) (beyond is_blank (space ++ c ∷ rest))) s.front_is
    ∙ ap (tag_end (record { name = name; attributes = xs; space = space })) s.beyond_is
    ∙ e

after_attributes : (xs : List Attribute) (space rest : List ℕ) (c : ℕ) → AreAttributes xs → list_all is_blank space ≡ true → in_name c ≡ false → Stops in_name (attributes_then xs (space ++ c ∷ rest))
after_attributes [] space rest c h blank sign = blank_stops space rest c blank sign
after_attributes (a ∷ xs) space rest c h blank sign = at a.space h.0.some_space h.0.blank_space
  where
    at : (ws : List ℕ) → ws ≢ [] → list_all is_blank ws ≡ true → Stops in_name (ws ++ (a.name ++ (a.before_equals ++ 61 ∷ (a.after_equals ++ a.quote ∷ (a.value ++ a.quote ∷ attributes_then xs (space ++ c ∷ rest))))))
    at [] some all = absurd (some refl)
    at (w ∷ ws) some all = blank_not_in_name w (and_parts (is_blank w) (list_all is_blank ws) all).0

open_read : (tag : Tag) (rest : List ℕ) (c : ℕ) → IsTag tag → in_name c ≡ false → is_blank c ≡ false → begins_name c ≡ false → (o : Option (Piece × List ℕ)) → tag_end tag (c ∷ rest) ≡ o → open_at (tag_then tag (c ∷ rest)) ≡ o
unfolding open_at
open_read tag rest c h sign blank begins o e =
    let n = attributes_then tag.attributes (tag.space ++ c ∷ rest) in
    let zn : List ℕ × List ℕ = (tag.name, n) in
    let za : List Attribute × List ℕ = (tag.attributes, tag.space ++ c ∷ rest) in
    let named = name_read tag.name n h.named (after_attributes tag.attributes tag.space rest c h.attributes h.blank_space sign) in
    let all : all_attributes n ≡ za = all_read tag.attributes (tag.space ++ c ∷ rest) h.attributes (no_attribute tag.space rest c h.blank_space blank begins) in
    then_is _ zn (λ n. tag_with n.0 (all_attributes n.1).0 (all_attributes n.1).1) named
    ∙ ap (λ (z : List Attribute × List ℕ). tag_with tag.name z.0 z.1) all
    ∙ tag_ends tag.name tag.attributes tag.space rest c h.blank_space blank o e

-- a name behind `<` begins a tag
markup_open : (n rest : List ℕ) → is_name n ≡ true → markup_at (n ++ rest) ≡ open_at (n ++ rest)
unfolding markup_at
markup_open [] rest h = cc
markup_open (c ∷ cs) rest h =
    let b = (and_parts (begins_name c) (list_all in_name cs) h).0 in
    chosen (nat_eq c 33) (nat_eq c 63) (nat_eq c 47) (no_bang c b) (no_question c b) (no_slash c b)
  where
    no_bang : (c : ℕ) → begins_name c ≡ true → nat_eq c 33 ≡ false
    no_bang c p = grind (arith, nat_tests)

    no_question : (c : ℕ) → begins_name c ≡ true → nat_eq c 63 ≡ false
    no_question c p = grind (arith, nat_tests)

    no_slash : (c : ℕ) → begins_name c ≡ true → nat_eq c 47 ≡ false
    no_slash c p = grind (arith, nat_tests)

    chosen : (x y z : Bool) → x ≡ false → y ≡ false → z ≡ false → (if x then bang_at (cs ++ rest) else (if y then question_at (cs ++ rest) else (if z then end_at (cs ++ rest) else open_at (c ∷ (cs ++ rest))))) ≡ open_at (c ∷ (cs ++ rest))
    chosen true y z e f g = cc
    chosen false true z e f g = cc
    chosen false false true e f g = cc
    chosen false false false e f g = refl

start_read : (place : Place) (tag : Tag) (rest : List ℕ) → IsTag tag → Reads (piece_at place (piece_then (start_tag tag) rest)) (start_tag tag) rest
unfolding piece_at
start_read place tag rest h = markup_open tag.name _ h.named ∙ open_read tag rest 62 h refl refl refl _ refl

empty_read : (place : Place) (tag : Tag) (rest : List ℕ) → IsTag tag → Reads (piece_at place (piece_then (empty_tag tag) rest)) (empty_tag tag) rest
unfolding piece_at
empty_read place tag rest h = markup_open tag.name _ h.named ∙ open_read tag (62 ∷ rest) 47 h refl refl refl _ refl

end_read : (place : Place) (name space rest : List ℕ) → is_name name ≡ true → list_all is_blank space ≡ true → Reads (piece_at place (piece_then (end_tag name space) rest)) (end_tag name space) rest
unfolding piece_at markup_at end_at
end_read place name space rest named blank =
    let zn : List ℕ × List ℕ = (name, space ++ 62 ∷ rest) in
    let s = split_at is_blank space (62 ∷ rest) blank refl in
    then_is _ zn (λ n. then_some (strip (codes ">") (beyond is_blank n.1)) (λ rest. let z : Piece × List ℕ = (end_tag n.0 (front is_blank n.1), rest) in Some z)) (name_read name (space ++ 62 ∷ rest) named (blank_stops space rest 62 blank refl))
    ∙ then_is _ rest (λ more. let z : Piece × List ℕ = (end_tag name (front is_blank (space ++ 62 ∷ rest)), more) in Some z) (ap (strip (codes ">")) s.beyond_is)
    ∙ ap (λ (w : List ℕ). let z : Piece × List ℕ = (end_tag name w, rest) in Some z) s.front_is

-- References.

not_semicolon : (c : ℕ) → in_name c ≡ true → is_other 59 c ≡ true
not_semicolon c p = grind (arith, nat_tests)

digit_in_name : (c : ℕ) → is_ascii_digit c ≡ true → in_name c ≡ true
digit_in_name c p = grind (arith, nat_tests)

hex_in_name : (c : ℕ) → is_ascii_hexdigit c ≡ true → in_name c ≡ true
hex_in_name c p = grind (arith, nat_tests)

digit_not_x : (c : ℕ) → is_ascii_digit c ≡ true → nat_eq c 120 ≡ false
digit_not_x c p = grind (arith, nat_tests)

begins_not_number : (c : ℕ) → begins_name c ≡ true → nat_eq c 35 ≡ false
begins_not_number c p = grind (arith, nat_tests)

all_others : (test : ℕ → Bool) → ((c : ℕ) → test c ≡ true → in_name c ≡ true) → (cs : List ℕ) → list_all test cs ≡ true → list_all (is_other 59) cs ≡ true
all_others test f [] h = refl
all_others test f (c ∷ cs) h =
    let a = and_parts (test c) (list_all test cs) h in
    and_from (is_other 59 c) (list_all (is_other 59) cs) (not_semicolon c (f c a.0)) (all_others test f cs a.1)

-- what a reference has between `&` and `;`
abbrev pub body_of : Reference → List ℕ
body_of (decimal digits) = 35 ∷ digits
body_of (hexadecimal digits) = 35 ∷ 120 ∷ digits
body_of (entity name) = name

body_others : (r : Reference) → is_reference r ≡ true → list_all (is_other 59) (body_of r) ≡ true
body_others (decimal digits) h = all_others is_ascii_digit digit_in_name digits (and_parts _ _ (and_parts _ _ h).0).1
body_others (hexadecimal digits) h = all_others is_ascii_hexdigit hex_in_name digits (and_parts _ _ (and_parts _ _ h).0).1
body_others (entity []) h = cc
body_others (entity (c ∷ cs)) h =
    let a = and_parts (begins_name c) (list_all in_name cs) h in
    all_others in_name (λ c p. p) (c ∷ cs) (and_from (in_name c) (list_all in_name cs) (begins_in c a.0) a.1)

body_read : (r : Reference) → is_reference r ≡ true → reference_of (body_of r) ≡ r
body_read (decimal []) h = cc
body_read (decimal (d ∷ ds)) h =
    let digits = (and_parts (list_all is_ascii_digit (d ∷ ds)) (is_character (number_written 10 0 (d ∷ ds))) h).0 in
    ap (λ (b : Bool). if b then hexadecimal ds else decimal (d ∷ ds)) (digit_not_x d (and_parts (is_ascii_digit d) (list_all is_ascii_digit ds) digits).0)
body_read (hexadecimal digits) h = refl
body_read (entity []) h = cc
body_read (entity (c ∷ cs)) h = ap (λ (b : Bool). if b then numbered cs else entity (c ∷ cs)) (begins_not_number c (and_parts (begins_name c) (list_all in_name cs) h).0)

then_body : (r : Reference) (rest : List ℕ) → reference_then r rest ≡ 38 ∷ (body_of r ++ 59 ∷ rest)
then_body (decimal digits) rest = refl
then_body (hexadecimal digits) rest = refl
then_body (entity name) rest = refl

ampersand_read : (r : Reference) (rest : List ℕ) → is_reference r ≡ true → Reads (reference_at (body_of r ++ 59 ∷ rest)) (leaf (reference r)) rest
unfolding reference_at
ampersand_read r rest h =
    let cs = body_of r ++ 59 ∷ rest in
    let s = split_at (is_other 59) (body_of r) (59 ∷ rest) (body_others r h) refl in
    then_is _ rest (λ more. let z : Piece × List ℕ = (leaf (reference (reference_of (front (is_other 59) cs))), more) in Some z) (ap (strip (codes ";")) s.beyond_is)
    ∙ ap (λ (x : Reference). let z : Piece × List ℕ = (leaf (reference x), rest) in Some z) (ap reference_of s.front_is ∙ body_read r h)

reference_read : (place : Place) (r : Reference) (rest : List ℕ) → is_reference r ≡ true → Reads (piece_at place (piece_then (leaf (reference r)) rest)) (leaf (reference r)) rest
unfolding piece_at
reference_read place r rest h = ap (piece_at place) (then_body r rest) ∙ ampersand_read r rest h

-- Comments, sections, instructions.

comment_read : (place : Place) (text rest : List ℕ) → IsComment text → Reads (piece_at place (piece_then (leaf (comment text)) rest)) (leaf (comment text)) rest
unfolding piece_at markup_at bang_at comment_at
comment_read place text rest h =
    let zs : List ℕ × List ℕ = (text, 62 ∷ rest) in
    then_is _ zs (λ s. then_some (strip (codes ">") s.1) (λ more. let z : Piece × List ℕ = (leaf (comment s.0), more) in Some z)) (until_word 45 (codes "-") text (62 ∷ rest) (no_comment_end text (62 ∷ rest) h.no_end))

section_read : (place : Place) (text rest : List ℕ) → IsSection text → Reads (piece_at place (piece_then (leaf (section text)) rest)) (leaf (section text)) rest
unfolding piece_at markup_at bang_at section_at
section_read place text rest h =
    let zs : List ℕ × List ℕ = (text, rest) in
    then_is _ zs (λ s. let z : Piece × List ℕ = (leaf (section s.0), s.1) in Some z) (until_word 93 (codes "]>") text rest (no_section_end text rest h.no_end))

after_target : (text rest : List ℕ) → begins_blank text ≡ true → Stops in_name (text ++ (63 ∷ 62 ∷ rest))
after_target [] rest h = refl
after_target (c ∷ cs) rest h = blank_not_in_name c h

same_letters : (a b : List ℕ) → bytes_eq a b ≡ true → a ≡ b
same_letters a b e = (bytes_eq-Decides a b).0 e

not_xml : (target : List ℕ) → str_eq_ignore_ascii_case target (codes "xml") ≡ false → bytes_eq target (codes "xml") ≡ false
not_xml target h = at (bytes_eq target (codes "xml")) refl
  where
    at : (b : Bool) → bytes_eq target (codes "xml") ≡ b → b ≡ false
    at true e = let f : true ≡ false = sym (ap (λ (t : List ℕ). str_eq_ignore_ascii_case t (codes "xml")) (same_letters target (codes "xml") e)) ∙ h in f
    at false e = refl

instruction_read : (place : Place) (target text rest : List ℕ) → IsInstruction target text → Reads (piece_at place (piece_then (leaf (instruction target text)) rest)) (leaf (instruction target text)) rest
unfolding piece_at markup_at question_at instruction_at
instruction_read place target text rest h =
    let n = text ++ (63 ∷ 62 ∷ rest) in
    let zn : List ℕ × List ℕ = (target, n) in
    let zs : List ℕ × List ℕ = (text, rest) in
    then_is _ zn (λ n. if bytes_eq n.0 (codes "xml") then declaration_at n.1 else instruction_at n.0 n.1) (name_read target n h.named (after_target text rest h.apart))
    ∙ ap (λ (b : Bool). if b then declaration_at n else instruction_at target n) (not_xml target h.not_reserved)
    ∙ then_is _ zs (λ s. let z : Piece × List ℕ = (leaf (instruction target s.0), s.1) in Some z) (until_word 63 (codes ">") text rest (no_instruction_end text rest h.no_end))

-- Characters and the byte order mark.

chosen_last : {A : Type 0} (x y : Bool) (a b c : A) → x ≡ false → y ≡ false → (if x then a else (if y then b else c)) ≡ c
chosen_last true y a b c e f = cc
chosen_last false true a b c e f = cc
chosen_last false false a b c e f = refl

plain_parts : (c : ℕ) → is_plain c ≡ true → (nat_eq c 60 ≡ false) × (nat_eq c 38 ≡ false)
plain_parts c h = at (nat_eq c 60) (nat_eq c 38) (and_parts (is_character c) _ h).1
  where
    at : (x y : Bool) → not (x || y) ≡ true → (x ≡ false) × (y ≡ false)
    at true y e = cc
    at false true e = cc
    at false false e = (refl, refl)

single_is : (place : Place) (c : ℕ) → may_follow place (character c) ≡ true → single_at place c ≡ leaf (character c)
single_is at_beginning c h = ap (λ (b : Bool). if b then mark else leaf (character c)) (not-true (nat_eq c 0xFEFF) h)
single_is behind_mark c h = refl
single_is (behind k) c h = refl

character_read : (place : Place) (c : ℕ) (rest : List ℕ) → may_follow place (character c) ≡ true → is_plain c ≡ true → Reads (piece_at place (piece_then (leaf (character c)) rest)) (leaf (character c)) rest
unfolding piece_at
character_read place c rest follows h =
    let p = plain_parts c h in
    chosen_last (nat_eq c 60) (nat_eq c 38) (markup_at rest) (reference_at rest) _ p.0 p.1
    ∙ ap (λ (q : Piece). let z : Piece × List ℕ = (q, rest) in Some z) (single_is place c follows)

mark_read : (place : Place) (rest : List ℕ) → place ≡ at_beginning → Reads (piece_at place (piece_then mark rest)) mark rest
unfolding piece_at
mark_read place rest e = ap (λ (p : Place). piece_at p (piece_then mark rest)) e

-- The declarations.

declaration_stops : (d : Declaration) (rest : List ℕ) → IsDeclaration d → Stops in_name (attributes_then d.attributes (d.space ++ (63 ∷ 62 ∷ rest)))
declaration_stops d rest h = after_attributes d.attributes d.space (62 ∷ rest) 63 h.attributes h.blank_space refl

declaration_read : (place : Place) (d : Declaration) (rest : List ℕ) → IsDeclaration d → Reads (piece_at place (piece_then (declaration d) rest)) (declaration d) rest
unfolding piece_at markup_at question_at declaration_at
declaration_read place d rest h =
    let n = attributes_then d.attributes (d.space ++ (63 ∷ 62 ∷ rest)) in
    let zn : List ℕ × List ℕ = (codes "xml", n) in
    let za : List Attribute × List ℕ = (d.attributes, d.space ++ (63 ∷ 62 ∷ rest)) in
    let all : all_attributes n ≡ za = all_read d.attributes (d.space ++ (63 ∷ 62 ∷ rest)) h.attributes (no_attribute d.space (62 ∷ rest) 63 h.blank_space refl refl) in
    let s = split_at is_blank d.space (63 ∷ 62 ∷ rest) h.blank_space refl in
    then_is _ zn (λ n. if bytes_eq n.0 (codes "xml") then declaration_at n.1 else instruction_at n.0 n.1) (name_read (codes "xml") n refl (declaration_stops d rest h))
    ∙ ap (λ (z : List Attribute × List ℕ). declaration_with z.0 z.1) all
    ∙ then_is _ rest (λ more. let z : Piece × List ℕ = (declaration (record { attributes = d.attributes; space = front is_blank (d.space ++ (63 ∷ 62 ∷ rest)) }), more) in Some z) (ap (strip (codes "?>")) s.beyond_is)
    ∙ ap (λ (w : List ℕ). let z : Piece × List ℕ = (declaration (record { attributes = d.attributes; space = w }), rest) in Some z) s.front_is

quoted_part : (test : ℕ → Bool) (l : Literal) (rest : List ℕ) → IsLiteral test l → (let z : Literal × List ℕ = (l, rest) in quoted_at (literal_then l rest) ≡ Some z)
quoted_part test l rest h = quoted_read l rest h.quoted (others l.text h.pass)
  where
    others : (cs : List ℕ) → list_all (λ c. test c && not (c == l.quote)) cs ≡ true → list_all (is_other l.quote) cs ≡ true
    others [] e = refl
    others (c ∷ cs) e =
        let a = and_parts (test c && not (c == l.quote)) (list_all (λ c. test c && not (c == l.quote)) cs) e in
        and_from (is_other l.quote c) (list_all (is_other l.quote) cs) (and_parts (test c) (not (c == l.quote)) a.0).1 (others cs a.1)

type_end : (space : List ℕ) (identifier : Identifier) (w rest : List ℕ) → list_all is_blank w ≡ true → Reads (doctype_end space identifier (w ++ 62 ∷ rest)) (doctype (record { space = space; identifier = identifier; end_space = w })) rest
type_end space identifier w rest h =
    let s = split_at is_blank w (62 ∷ rest) h refl in
    then_is _ rest (λ more. let z : Piece × List ℕ = (doctype (record { space = space; identifier = identifier; end_space = front is_blank (w ++ 62 ∷ rest) }), more) in Some z) (ap (strip (codes ">")) s.beyond_is)
    ∙ ap (λ (x : List ℕ). let z : Piece × List ℕ = (doctype (record { space = space; identifier = identifier; end_space = x }), rest) in Some z) s.front_is

-- white space before a literal
before_quote : (test : ℕ → Bool) (space : List ℕ) (l : Literal) (rest : List ℕ) → list_all is_blank space ≡ true → IsLiteral test l → SplitAt is_blank (space ++ literal_then l rest) space (literal_then l rest)
before_quote test space l rest blank h = split_at is_blank space (literal_then l rest) blank (quote_not_blank l.quote h.quoted)

identifier_read : (space : List ℕ) (i : Identifier) (w rest : List ℕ) → IsIdentifier i → list_all is_blank w ≡ true → Reads (identifier_at space (identifier_then i (w ++ 62 ∷ rest))) (doctype (record { space = space; identifier = i; end_space = w })) rest
unfolding system_at public_at
identifier_read space no_identifier w rest h blank =
    let cs = w ++ 62 ∷ rest in
    let s = split_at is_blank w (62 ∷ rest) blank refl in
    ap (λ (xs : List ℕ). identifier_by space cs (strip (codes "SYSTEM") xs) (strip (codes "PUBLIC") xs)) s.beyond_is
    ∙ type_end space no_identifier w rest blank
identifier_read space (system s t l) w rest h blank =
    let end = w ++ 62 ∷ rest in
    let ls = t ++ literal_then l end in
    let cs = s ++ (codes "SYSTEM" ++ ls) in
    let first = split_at is_blank s (codes "SYSTEM" ++ ls) h.0.blank refl in
    let second = before_quote is_character t l end h.1.blank h.2 in
    let zl : Literal × List ℕ = (l, end) in
    ap (λ (xs : List ℕ). identifier_by space cs (strip (codes "SYSTEM") xs) (strip (codes "PUBLIC") xs)) first.beyond_is
    ∙ ap (λ (x : List ℕ). system_at space x ls) first.front_is
    ∙ then_is _ zl (λ q. doctype_end space (system s (front is_blank ls) q.0) q.1) (ap quoted_at second.beyond_is ∙ quoted_part is_character l end h.2)
    ∙ ap (λ (x : List ℕ). doctype_end space (system s x l) end) second.front_is
    ∙ type_end space (system s t l) w rest blank
identifier_read space (public s t l u m) w rest h blank =
    let end = w ++ 62 ∷ rest in
    let ms = u ++ literal_then m end in
    let ls = t ++ literal_then l ms in
    let cs = s ++ (codes "PUBLIC" ++ ls) in
    let first = split_at is_blank s (codes "PUBLIC" ++ ls) h.0.blank refl in
    let second = before_quote in_public_identifier t l ms h.1.blank h.2 in
    let third = before_quote is_character u m end h.3.blank h.4 in
    let zl : Literal × List ℕ = (l, ms) in
    let zm : Literal × List ℕ = (m, end) in
    ap (λ (xs : List ℕ). identifier_by space cs (strip (codes "SYSTEM") xs) (strip (codes "PUBLIC") xs)) first.beyond_is
    ∙ ap (λ (x : List ℕ). public_at space x ls) first.front_is
    ∙ then_is _ zl (λ q. second_at space s (front is_blank ls) q.0 q.1) (ap quoted_at second.beyond_is ∙ quoted_part in_public_identifier l ms h.2)
    ∙ ap (λ (x : List ℕ). second_at space s x l ms) second.front_is
    ∙ then_is _ zm (λ q. doctype_end space (public s t l (front is_blank ms) q.0) q.1) (ap quoted_at third.beyond_is ∙ quoted_part is_character m end h.4)
    ∙ ap (λ (x : List ℕ). doctype_end space (public s t l x m) end) third.front_is
    ∙ type_end space (public s t l u m) w rest blank

doctype_read : (place : Place) (d : Doctype) (rest : List ℕ) → IsDoctype d → Reads (piece_at place (piece_then (doctype d) rest)) (doctype d) rest
unfolding piece_at markup_at bang_at doctype_at
doctype_read place d rest h =
    let is = identifier_then d.identifier (d.end_space ++ 62 ∷ rest) in
    let s = split_at is_blank d.space (codes "html" ++ is) h.apart.blank refl in
    then_is _ is (λ more. identifier_at (front is_blank (d.space ++ (codes "html" ++ is))) more) (ap (strip (codes "html")) s.beyond_is)
    ∙ ap (λ (x : List ℕ). identifier_at x is) s.front_is
    ∙ identifier_read d.space d.identifier d.end_space rest h.identifier h.blank_space

-- All of them.

leaf_read : (place : Place) (l : Leaf) (rest : List ℕ) → may_follow place l ≡ true → IsLeaf l → Reads (piece_at place (piece_then (leaf l) rest)) (leaf l) rest
leaf_read place (character c) rest follows h = character_read place c rest follows h
leaf_read place (reference r) rest follows h = reference_read place r rest h
leaf_read place (section text) rest follows h = section_read place text rest h
leaf_read place (comment text) rest follows h = comment_read place text rest h
leaf_read place (instruction target text) rest follows h = instruction_read place target text rest h

pub piece_read : (place : Place) (p : Piece) (rest : List ℕ) → IsPiece place p → Reads (piece_at place (piece_then p rest)) p rest
piece_read place mark rest h = mark_read place rest h
piece_read place (declaration d) rest h = declaration_read place d rest h.1
piece_read place (doctype d) rest h = doctype_read place d rest h
piece_read place (start_tag tag) rest h = start_read place tag rest h
piece_read place (empty_tag tag) rest h = empty_read place tag rest h
piece_read place (end_tag name space) rest h = end_read place name space rest h.0 h.1
piece_read place (leaf l) rest h = leaf_read place l rest h.0 h.1
