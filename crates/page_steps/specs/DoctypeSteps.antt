-- One character more in a document type declaration, behind `<!DOCTYPE` (XML 1.0, 2.8; XHTML 1.0, 3.1.1).
use Rattle.std.specs.Prelude.{ℕ, Bool, true, false, ◌==◌, ◌&&◌, ◌||◌, if◌then◌else◌, List, [], ◌∷◌, ◌++◌, Option, Some, None, bytes_eq, codes, nat_eq}
use Rattle.std.specs.List.{starts_with}
use Rattle.xml_text.specs.Characters.{is_blank}
use Rattle.xml_text.specs.Names.{in_public_identifier}
use Rattle.dtd_model.specs.declared.dtd.DoctypeRule.{DoctypeRule}
use Rattle.dtd_model.specs.declared.dtd.DoctypeRule.TheVariants.{Strict, Free}
use Rattle.page_model.specs.Parts.{is_quote}
use Rattle.piece_steps.specs.Insides.{Turn, on, out, stop}
use Rattle.page_model.specs.OpenDoctypes.{Word, system_word, public_word, letters, OpenDoctype, before_root, in_root, behind_root, in_word, behind_word, in_public, behind_public, in_system, behind_system, kept}

-- the characters are the first of the whole
abbrev pub begins : List ℕ → List ℕ → Bool
begins whole cs = starts_with nat_eq whole cs

-- the definition asks for no public identifier of its own
abbrev pub is_free : DoctypeRule → Bool
is_free Strict = false
is_free Free = true

-- the declaration may end with the character
abbrev pub end_turn : Bool → ℕ → Turn OpenDoctype
end_turn may c = if c == 62 && may then out else stop

-- behind the root's name: white space, or the end where no identifier is asked for
abbrev pub root_turn : DoctypeRule → ℕ → Turn OpenDoctype
root_turn rule c = if is_blank c then on behind_root else end_turn (is_free rule) c

-- a strict definition wants a public identifier
abbrev pub may_begin : DoctypeRule → List ℕ → Bool
may_begin rule word = begins (letters public_word) word || is_free rule && begins (letters system_word) word

-- in `PUBLIC` or `SYSTEM`: one letter more, or white space behind the whole word
abbrev pub word_turn : DoctypeRule → List ℕ → ℕ → Turn OpenDoctype
word_turn rule word c =
    if may_begin rule (word ++ c ∷ []) then on (in_word (word ++ c ∷ []))
    else (if bytes_eq word (letters public_word) && is_blank c then on (behind_word public_word)
    else (if bytes_eq word (letters system_word) && is_blank c then on (behind_word system_word) else stop))

-- the quote of the literal behind the word
abbrev pub literal_turn : DoctypeRule → Word → ℕ → Turn OpenDoctype
literal_turn rule system_word quote = on (in_system quote)
literal_turn rule public_word quote = on (in_public quote (kept rule []))

-- the public literal with one character more, where it is kept
abbrev pub grown : Option (List ℕ) → ℕ → Option (List ℕ)
grown None c = None
grown (Some text) c = Some (text ++ c ∷ [])

-- the public literal is the one that the definition names, where it names one
abbrev pub is_wanted : Option (List ℕ) → Bool
is_wanted None = true
is_wanted (Some text) = bytes_eq text (codes "-//W3C//DTD XHTML 1.0 Strict//EN")

-- in a public literal: its quote, which ends it where it is the wanted one, or a character of public identifiers (2.3, PubidLiteral)
abbrev pub public_turn : ℕ → Option (List ℕ) → ℕ → Turn OpenDoctype
public_turn quote o c =
    if c == quote then (if is_wanted o then on (behind_public false) else stop)
    else (if in_public_identifier c then on (in_public quote (grown o c)) else stop)

-- what a character does behind `<!DOCTYPE`, by what was read; the root is `html`, and there is no internal subset
abbrev pub doctype_turn : DoctypeRule → OpenDoctype → ℕ → Turn OpenDoctype
doctype_turn rule (before_root spaced) c =
    if is_blank c then on (before_root true) else (if c == 104 && spaced then on (in_root (codes "h")) else stop)
doctype_turn rule (in_root name) c =
    if begins (codes "html") (name ++ c ∷ []) then on (in_root (name ++ c ∷ []))
    else (if bytes_eq name (codes "html") then root_turn rule c else stop)
doctype_turn rule behind_root c = if may_begin rule (c ∷ []) then on (in_word (c ∷ [])) else root_turn rule c
doctype_turn rule (in_word word) c = word_turn rule word c
doctype_turn rule (behind_word word) c =
    if is_blank c then on (behind_word word) else (if is_quote c then literal_turn rule word c else stop)
doctype_turn rule (in_public quote o) c = public_turn quote o c
doctype_turn rule (behind_public spaced) c =
    if is_blank c then on (behind_public true) else (if is_quote c && spaced then on (in_system c) else stop)
doctype_turn rule (in_system quote) c = if c == quote then on behind_system else on (in_system quote)
doctype_turn rule behind_system c = if is_blank c then on behind_system else end_turn true c
