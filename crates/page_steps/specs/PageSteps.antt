-- One character more in a page: what it does in each kind of open piece.
use Rattle.std.specs.Prelude.{ℕ, suc, Bool, true, false, not, ◌==◌, ◌&&◌, ◌||◌, if◌then◌else◌, List, [], ◌∷◌, ◌++◌, Option, Some, None, min, nat_le, bytes_eq, codes}
use Rattle.std.specs.Str.{str_eq_ignore_ascii_case}
use Rattle.text_base.specs.declared.page_token.PageToken.{PageToken}
use Rattle.text_base.specs.declared.page_token.PageToken.TheVariants as token
use Rattle.xml_text.specs.Characters.{is_blank, is_character}
use Rattle.xml_text.specs.Names.{begins_name, in_name, is_name}
use Rattle.dtd_model.specs.Table.{Rule, Table}
use Rattle.page_model.specs.Attributes.{find_rule}
use Rattle.page_model.specs.PageTokens.{IsLawful, piece_tokens, sort_token, element_of}
use Rattle.page_model.specs.Parts.{character}
use Rattle.page_model.specs.Pieces.{Piece, piece_then, may_follow, behind_leaf, after}
use Rattle.page_model.specs.Places.{Place, at_beginning, behind_mark, behind, is_early}
use Rattle.page_model.specs.Valid.{sort_of}
use Rattle.piece_steps.specs.Languages.{Language}
use Rattle.piece_steps.specs.Readers.{Move, go, done, fail, Reader}
use Rattle.piece_steps.specs.Insides.{inside, closing}
use Rattle.page_model.specs.Fronts.{Open, nothing, in_reference, in_opener, in_tag_name, in_tag, at_empty_end, in_end_tag, in_comment, in_section, in_target, behind_target, in_instruction, in_declaration, at_declaration_end, in_doctype, reserved, kept_place}
use Rattle.page_model.specs.OpenDoctypes.{before_root}
use Rattle.page_model.specs.OpenTags.{OpenAttribute, between}
use Rattle.page_model.specs.OpenValues.{OpenReference, in_entity}
use Rattle.page_steps.specs.AttributeSteps.{AttributeMove, stays, ends_with, leaves, stops, attribute_move}
use Rattle.page_steps.specs.DoctypeSteps.{begins, doctype_turn}
use Rattle.page_steps.specs.ReferenceSteps.{reference_step, reference_good}
use Rattle.page_steps.specs.TagSteps.{of_element, are_all, of_declaration}

-- The moves are to open pieces here; what of the place is kept is put to them in `page_step`.
abbrev pub OpenMove : Type 0
OpenMove = Move Place PageToken Open

-- where a piece begins
abbrev pub text_move : Place → ℕ → OpenMove
text_move place c = if may_follow place (character c) then done (behind_leaf place (character c)) (sort_token (sort_of (character c)) ∷ [])
    else fail

-- at the beginning U+FEFF is the byte order mark
abbrev pub single_move : Place → ℕ → OpenMove
single_move at_beginning c = if c == 0xFEFF then done behind_mark [] else text_move at_beginning c
single_move behind_mark c = text_move behind_mark c
single_move (behind k) c = text_move (behind k) c

-- where a piece begins: `<`, `&`, or a character that is a piece by itself
abbrev pub first_move : Place → ℕ → OpenMove
first_move place c = if c == 60 then go (in_opener (codes "<")) else (if c == 38 then go (in_reference (in_entity []))
    else single_move place c)

-- behind `&`, up to `;`
abbrev pub reference_move : List (List ℕ) → OpenReference → ℕ → OpenMove
reference_move entities r c = inside in_reference (done (behind 0) (token.Text ∷ []))
    (closing reference_step (reference_good entities) 59 r c)

-- behind `<!` and more
abbrev pub bang_move : List ℕ → OpenMove
bang_move cs =
    if bytes_eq cs (codes "<!--") then go (in_comment 0)
    else (if bytes_eq cs (codes "<![CDATA[") then go (in_section 0)
    else (if bytes_eq cs (codes "<!DOCTYPE") then go (in_doctype (before_root false))
    else (if begins (codes "<!--") cs || begins (codes "<![CDATA[") cs || begins (codes "<!DOCTYPE") cs then go (in_opener cs) else fail)))

-- directly behind `<`
abbrev pub less_move : ℕ → OpenMove
less_move c =
    if c == 33 then go (in_opener (codes "<!"))
    else (if c == 63 then go (in_target (Some []))
    else (if c == 47 then go (in_end_tag [] false) else (if begins_name c then go (in_tag_name (c ∷ [])) else fail)))

-- behind `<`, or behind `<!` and more, by the characters read so far
abbrev pub opener_move : List ℕ → ℕ → OpenMove
opener_move [] c = fail
opener_move (a ∷ []) c = less_move c
opener_move (a ∷ b ∷ cs) c = bang_move ((a ∷ b ∷ cs) ++ c ∷ [])

-- Tags.

-- `>` and `/` behind attributes
abbrev pub end_move : Table → List ℕ → Rule → List (List ℕ) → ℕ → OpenMove
end_move table name rule names c =
    if c == 62 && are_all name rule.attributes names then done (behind 0) (token.Start (element_of table name) ∷ [])
    else (if c == 47 then go (at_empty_end name names) else fail)

-- what an attribute's move is to the tag: where the character is none of an attribute, it has to end the tag
abbrev pub tag_by : Table → List ℕ → Rule → List (List ℕ) → ℕ → AttributeMove → OpenMove
tag_by table name rule names c (stays o) = go (in_tag name names o)
tag_by table name rule names c (ends_with more) = go (in_tag name more (between false))
tag_by table name rule names c leaves = end_move table name rule names c
tag_by table name rule names c stops = fail

-- behind the name in a tag; the element has to be declared
abbrev pub tag_move : Table → List ℕ → List (List ℕ) → OpenAttribute → ℕ → Option Rule → OpenMove
tag_move table name names o c None = fail
tag_move table name names o c (Some rule) =
    tag_by table name rule names c (attribute_move (of_element table.entities rule.attributes) names o c)

-- in the name of a tag: one character more of it, or what stands behind it
abbrev pub tag_name_move : Table → List ℕ → ℕ → OpenMove
tag_name_move table name c = if in_name c then go (in_tag_name (name ++ c ∷ []))
    else tag_move table name [] (between false) c (find_rule table.elements name)

-- behind the `/` of an empty tag
abbrev pub empty_move : Table → List ℕ → List (List ℕ) → ℕ → Option Rule → OpenMove
empty_move table name names c None = fail
empty_move table name names c (Some rule) =
    if c == 62 && are_all name rule.attributes names
    then done (behind 0) (token.Start (element_of table name) ∷ token.End (element_of table name) ∷ []) else fail

-- the `>` of an end tag, whose element has to be declared
abbrev pub closed_move : Table → List ℕ → Option Rule → OpenMove
closed_move table name None = fail
closed_move table name (Some rule) = done (behind 0) (token.End (element_of table name) ∷ [])

-- behind `</` and a name, which may end there, or behind white space
abbrev pub end_name_move : Table → List ℕ → ℕ → OpenMove
end_name_move table name c =
    if is_name name then (if is_blank c then go (in_end_tag name true)
    else (if c == 62 then closed_move table name (find_rule table.elements name) else fail)) else fail

-- behind `</`: one character more of the name, as long as no white space stands behind it, or the end of the tag
abbrev pub end_tag_move : Table → List ℕ → Bool → ℕ → OpenMove
end_tag_move table [] spaced c = if begins_name c && not spaced then go (in_end_tag (c ∷ []) false) else fail
end_tag_move table (n ∷ name) spaced c =
    if in_name c && not spaced then go (in_end_tag ((n ∷ name) ++ c ∷ []) false) else end_name_move table (n ∷ name) c

-- Comments, sections and instructions.

-- in a comment, behind so many dashes: no `--` stands in it but that of its end (XML 1.0, 2.5)
abbrev pub comment_move : ℕ → ℕ → OpenMove
comment_move dashes c =
    if nat_le 2 dashes then (if c == 62 then done (behind 0) (token.Misc ∷ []) else fail)
    else (if c == 45 then go (in_comment (suc dashes)) else go (in_comment 0))

-- in a CDATA section, behind so many closing brackets, at most two counted: it ends with the first `]]>` (2.7)
abbrev pub section_move : ℕ → ℕ → OpenMove
section_move brackets c =
    if c == 62 && nat_le 2 brackets then done (behind 0) (token.Text ∷ [])
    else (if c == 93 then go (in_section (min 2 (suc brackets))) else go (in_section 0))

-- in a processing instruction, behind a `?` or not: it ends with the first `?>` (2.6)
abbrev pub instruction_move : Bool → ℕ → OpenMove
instruction_move asked c = if c == 62 && asked then done (behind 0) (token.Misc ∷ []) else go (in_instruction (c == 63))

-- the `>` of an instruction that has a target alone
abbrev pub remark_end : ℕ → OpenMove
remark_end c = if c == 62 then done (behind 0) (token.Misc ∷ []) else fail

-- a target so far: what it is, where it may still become `xml`
abbrev pub more_target : Option (List ℕ) → ℕ → Option (List ℕ)
more_target None c = None
more_target (Some target) c = reserved (target ++ c ∷ [])

-- the character may go on with the target, or begin it where nothing of it is read
abbrev pub may_be_target : Option (List ℕ) → ℕ → Bool
may_be_target None c = in_name c
may_be_target (Some []) c = begins_name c
may_be_target (Some (t ∷ target)) c = in_name c

-- the target is `xml` in some case, which no instruction may have (2.6, PITarget)
abbrev pub is_reserved : Option (List ℕ) → Bool
is_reserved None = false
is_reserved (Some target) = str_eq_ignore_ascii_case target (codes "xml")

-- the target is that of the XML declaration, `xml` in lower case
abbrev pub is_xml : Option (List ℕ) → Bool
is_xml None = false
is_xml (Some target) = bytes_eq target (codes "xml")

-- something of the target is read
abbrev pub is_started : Option (List ℕ) → Bool
is_started None = true
is_started (Some []) = false
is_started (Some (t ∷ target)) = true

-- behind a target: white space or `?`; behind `xml` the XML declaration, which may stand at the beginning alone
abbrev pub behind_move : Place → Option (List ℕ) → ℕ → OpenMove
behind_move place o c =
    if is_reserved o then (if is_xml o && is_early place && is_blank c then go (in_declaration [] (between true)) else fail)
    else (if is_blank c then go (in_instruction false) else (if c == 63 then go behind_target else fail))

-- behind `<?`: one character more of the target, or what stands behind it
abbrev pub target_move : Place → Option (List ℕ) → ℕ → OpenMove
target_move place o c = if may_be_target o c then go (in_target (more_target o c))
    else (if is_started o then behind_move place o c else fail)

-- The XML declaration.

-- the `?` of the XML declaration, which has a version at least
abbrev pub question_move : List (List ℕ) → ℕ → OpenMove
question_move [] c = fail
question_move (version ∷ names) c = if c == 63 then go at_declaration_end else fail

-- what an attribute's move is to the XML declaration, in which these names stand
abbrev pub declaration_by : List (List ℕ) → ℕ → AttributeMove → OpenMove
declaration_by names c (stays o) = go (in_declaration names o)
declaration_by names c (ends_with more) = go (in_declaration more (between false))
declaration_by names c leaves = question_move names c
declaration_by names c stops = fail

-- what a character does in each kind of open piece
abbrev pub open_move : Table → Place → Open → ℕ → OpenMove
open_move table place nothing c = first_move place c
open_move table place (in_reference r) c = reference_move table.entities r c
open_move table place (in_opener begun) c = opener_move begun c
open_move table place (in_tag_name name) c = tag_name_move table name c
open_move table place (in_tag name names o) c = tag_move table name names o c (find_rule table.elements name)
open_move table place (at_empty_end name names) c = empty_move table name names c (find_rule table.elements name)
open_move table place (in_end_tag name spaced) c = end_tag_move table name spaced c
open_move table place (in_comment dashes) c = comment_move dashes c
open_move table place (in_section brackets) c = section_move brackets c
open_move table place (in_target o) c = target_move place o c
open_move table place behind_target c = remark_end c
open_move table place (in_instruction asked) c = instruction_move asked c
open_move table place (in_declaration names o) c = declaration_by names c (attribute_move of_declaration names o c)
open_move table place at_declaration_end c = if c == 62 then done (behind 0) [] else fail
open_move table place (in_doctype o) c = inside in_doctype (done (behind 0) (token.Doctype ∷ [])) (doctype_turn table.doctype o c)

-- The reader of a page.

-- what is kept of the place, and what is open
pub record PageState : Type 0 where
  pub place : Place
  pub inside : Open

-- a move with what is kept of the place, while a piece is open
abbrev pub put_place : Place → OpenMove → Move Place PageToken PageState
put_place place (go o) = go (record { place = kept_place o [] place; inside = o })
put_place place (done next tokens) = done next tokens
put_place place fail = fail

-- one character more of a page: it has to be one of XML (2.2, Char)
unfoldable pub page_step : Table → PageState → ℕ → Move Place PageToken PageState
page_step table s c = if is_character c then put_place s.place (open_move table s.place s.inside c) else fail

-- a piece is open
abbrev pub is_inside : Open → Bool
is_inside nothing = false
is_inside o = true

-- the reader of a page by a definition: no piece is open in its first state, and each character is a step
abbrev pub page_reader : Table → Reader Place PageToken PageState
page_reader table = record {
  first = λ place. record { place = place; inside = nothing };
  step = page_step table;
  is_open = λ s. is_inside s.inside;
  bad = token.Bad;
}

-- what is kept while a character of several bytes is open
abbrev pub page_hold : PageState → PageState
page_hold s = record { place = kept_place s.inside (0x80 ∷ []) s.place; inside = s.inside }

-- the pieces of a page, by characters
abbrev pub page_language : Table → Language Place Piece PageToken
page_language table = record { Lawful = IsLawful table; spell = λ p. piece_then p []; after = after; tokens = piece_tokens table }
