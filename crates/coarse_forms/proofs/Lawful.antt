-- The texts of the forms of lawful pieces are coarse pieces.
use Rattle.std.proofs.Common.{◌≡◌, ◌⊎◌, inl, inr, ℕ, zero, suc, ◌<◌, ◌≤◌, Bool, true, false, List, [], ◌∷◌, ◌++◌, refl, sym, ◌∙◌, ap, subst, arith}
use Rattle.std.specs.Prelude.{◌==◌, ◌||◌, ◌&&◌, not, codes, nat_lt}
use Rattle.std.specs.Char.{to_ascii_lowercase}
use Rattle.std.specs.List.{list_all}
use Rattle.std.specs.Str.{encode_utf8_all}
use Rattle.std.proofs.lemmas.Bool.{and_parts, and_from, or_left, or_right, not_from_false, not-true, ne_eqb}
use Rattle.std.proofs.lemmas.Bool.Decides.{nat_tests}
use Rattle.xml_text.specs.Characters.{is_blank, is_character}
use Rattle.xml_text.specs.Names.{begins_name, in_name, is_name, in_public_identifier}
use Rattle.dtd_model.specs.declared.dtd.DoctypeRule.{DoctypeRule}
use Rattle.dtd_model.specs.declared.dtd.DoctypeRule.TheVariants.{Strict, Free}
use Rattle.derivatives.specs.Expressions.{Expr, empty, range, star, Matches}
use Rattle.derivatives.specs.Derivatives.{chain_of, either_of, may_end}
use Rattle.page_model.specs.Parts.{is_plain}
use Rattle.page_forms.specs.Declarations.{any_case, version_form, encoding_form, standalone_form, declaration_form}
use Rattle.page_forms.specs.Doctypes.{system_literal, public_literal, strict_literal, public_form, system_form, identifier_form, doctype_form}
use Rattle.page_forms.specs.Quotes.{quoted, attribute_of}
use Rattle.page_forms.specs.Remarks.{comment_form, run_then, times, text_up_to, section_form, is_letter, not_behind, target_form, instruction_form}
use Rattle.page_forms.specs.Words.{word, ascii, character_of, other_than, blanks, gap, name_form}
use Rattle.page_forms.proofs.NameForms.{begins_in, spells_name}
use Rattle.page_forms.proofs.OneCharacter.{spells_character}
use Rattle.page_forms.proofs.Spelling.{ascii_bytes}
use Rattle.page_forms.proofs.WordForms.{name_ascii}
use Rattle.coarse_forms.specs.CoarseForms.{byte_of, byte_but, text_byte, coarse_reference, parts_of_tag, value_bytes, coarse_tag, coarse_end_tag, coarse_comment, bytes_then, bytes_up_to, coarse_section, coarse_instruction, coarse_doctype, coarse_form}
use Rattle.coarse_forms.specs.Laws.{LawfulAreCoarse}
use Rattle.coarse_forms.proofs.Within.{Within, own, further, in_chain, in_left, in_right, both, to_left, to_right, of_word, word_apart, once, never, stars, more, before, none_before, in_ascii, ascii_in, are_in, word_in, character_in, characters_in, quotes}

-- what is left of a test of a character
second : (t c : Bool) → (t && c) ≡ true → c ≡ true
second t c h = (and_parts t c h).1

named : (w : List ℕ) → is_name w ≡ true → Matches name_form w
named w h = subst (λ (z : List ℕ). Matches name_form z) (ascii_bytes w (name_ascii w h)) (spells_name.made w h)

-- Comments.

other_dash : Within (other_than 45) (star (byte_but 45))
other_dash = characters_in (λ d. not (d == 45)) (λ d. not (d == 45)) (λ c h. second (is_character c) (not (c == 45)) h)

some_dash : Within (other_than 45) (chain_of (byte_but 45) (star (byte_but 45)))
some_dash = character_in (λ d. not (d == 45)) (λ d. not (d == 45)) (λ d. not (d == 45)) (λ c h. second (is_character c) (not (c == 45)) h)

abbrev Inside : Expr
Inside = either_of (byte_but 45) (chain_of (range 45 45) (byte_but 45))

plain_inside : Within (star (byte_but 45)) (star Inside)
plain_inside = stars (further (in_left (byte_but 45) (chain_of (range 45 45) (byte_but 45)) (own (byte_but 45))) (once Inside))

dash_inside : Within (chain_of (range 45 45) (other_than 45)) (star Inside)
dash_inside =
    further (in_chain (range 45 45) (other_than 45) (range 45 45) (chain_of (byte_but 45) (star (byte_but 45))) (own (range 45 45)) some_dash)
    (further (to_left (range 45 45) (byte_but 45) (star (byte_but 45)))
    (more (chain_of (range 45 45) (byte_but 45)) (star (byte_but 45))
    (further (in_right (byte_but 45) (chain_of (range 45 45) (byte_but 45)) (own (chain_of (range 45 45) (byte_but 45)))) (once Inside)) plain_inside))

pub comments_within : Within comment_form coarse_comment
unfolding comment_form
comments_within =
    in_chain (word (codes "<!--")) (chain_of (star (either_of (other_than 45) (chain_of (range 45 45) (other_than 45)))) (word (codes "-->"))) (word (codes "<!--")) (chain_of (star Inside) (word (codes "-->")))
    (own (word (codes "<!--")))
    (in_chain (star (either_of (other_than 45) (chain_of (range 45 45) (other_than 45)))) (word (codes "-->")) (star Inside) (word (codes "-->"))
    (stars (both (other_than 45) (chain_of (range 45 45) (other_than 45)) (further other_dash plain_inside) dash_inside)) (own (word (codes "-->"))))

-- Texts up to a mark.

-- what has to be seen of the classes of one byte
record Seen (c : ℕ) : Type 0 where
  others : Within (other_than c) (chain_of (byte_but c) (star (byte_but c)))
  last : Within (character_of (λ d. not (d == c || d == 62))) (chain_of (byte_of (λ d. not (d == c || d == 62))) (star (byte_but c)))

runs : (c k : ℕ) → Seen c → Within (run_then c k) (chain_of (bytes_then c k) (star (byte_but c)))
runs c zero s =
    further (in_chain (star (range c c)) (character_of (λ d. not (d == c || d == 62))) (star (range c c)) (chain_of (byte_of (λ d. not (d == c || d == 62))) (star (byte_but c))) (own (star (range c c))) s.last)
    (to_left (star (range c c)) (byte_of (λ d. not (d == c || d == 62))) (star (byte_but c)))
runs c (suc k) s =
    both (other_than c) (chain_of (range c c) (run_then c k))
    (further s.others (in_chain (byte_but c) (star (byte_but c)) (bytes_then c (suc k)) (star (byte_but c)) (in_left (byte_but c) (chain_of (range c c) (bytes_then c k)) (own (byte_but c))) (own (star (byte_but c)))))
    (further (in_chain (range c c) (run_then c k) (range c c) (chain_of (bytes_then c k) (star (byte_but c))) (own (range c c)) (runs c k s))
    (further (to_left (range c c) (bytes_then c k) (star (byte_but c)))
    (in_chain (chain_of (range c c) (bytes_then c k)) (star (byte_but c)) (bytes_then c (suc k)) (star (byte_but c)) (in_right (byte_but c) (chain_of (range c c) (bytes_then c k)) (own (chain_of (range c c) (bytes_then c k)))) (own (star (byte_but c))))))

-- other bytes stand anywhere before the mark
others_then : (c k : ℕ) → Within (star (byte_but c)) (star (bytes_then c (suc k)))
others_then c k = stars (further (in_left (byte_but c) (chain_of (range c c) (bytes_then c k)) (own (byte_but c))) (once (bytes_then c (suc k))))

up_to_within : (c k : ℕ) → Seen c → Within (text_up_to c (suc k)) (bytes_up_to c (suc k))
up_to_within c k s =
    in_chain (star (run_then c (suc k))) (chain_of (word (times c (suc k))) (chain_of (star (range c c)) (range 62 62))) (star (bytes_then c (suc k))) (chain_of (word (times c (suc k))) (chain_of (star (range c c)) (range 62 62)))
    (stars (further (runs c (suc k) s) (more (bytes_then c (suc k)) (star (byte_but c)) (once (bytes_then c (suc k))) (others_then c k))))
    (own (chain_of (word (times c (suc k))) (chain_of (star (range c c)) (range 62 62))))

seen : (c : ℕ) → Seen c
seen c = record {
  others = character_in (λ d. not (d == c)) (λ d. not (d == c)) (λ d. not (d == c)) (λ d h. second (is_character d) (not (d == c)) h);
  last = character_in (λ d. not (d == c || d == 62)) (λ d. not (d == c || d == 62)) (λ d. not (d == c)) (λ d h. second (is_character d) (not (d == c || d == 62)) h);
}

pub sections_within : Within section_form coarse_section
unfolding section_form
sections_within = in_chain (word (codes "<![CDATA[")) (text_up_to 93 2) (word (codes "<![CDATA[")) (bytes_up_to 93 2) (own (word (codes "<![CDATA["))) (up_to_within 93 1 (seen 93))

-- Instructions.

letter_named : (w c : ℕ) → (let z : ℕ = to_ascii_lowercase w in nat_lt 96 z && nat_lt z 123) ≡ true → is_letter w c ≡ true → begins_name c ≡ true
letter_named w c l h = grind (arith, nat_tests)

abbrev Names : Expr
Names = star (ascii in_name)

some_names : Within (chain_of (ascii in_name) Names) Names
some_names = more (ascii in_name) Names (once (ascii in_name)) (own Names)

behind_nothing : Within (not_behind []) Names
behind_nothing = some_names

behind_letter : (w : ℕ) (ws : List ℕ) → (let z : ℕ = to_ascii_lowercase w in nat_lt 96 z && nat_lt z 123) ≡ true → Within (not_behind ws) Names → Within (not_behind (w ∷ ws)) Names
behind_letter w ws l f =
    both empty (either_of (chain_of (ascii (λ c. in_name c && not (is_letter w c))) Names) (chain_of (ascii (is_letter w)) (not_behind ws))) (never (ascii in_name))
    (both (chain_of (ascii (λ c. in_name c && not (is_letter w c))) Names) (chain_of (ascii (is_letter w)) (not_behind ws))
    (more (ascii (λ c. in_name c && not (is_letter w c))) Names (further (in_ascii (λ c. in_name c && not (is_letter w c)) in_name (λ c h. (and_parts (in_name c) (not (is_letter w c)) h).0)) (once (ascii in_name))) (own Names))
    (more (ascii (is_letter w)) (not_behind ws) (further (in_ascii (is_letter w) in_name (λ c h. begins_in c (letter_named w c l h))) (once (ascii in_name))) f))

targets_within : Within target_form name_form
targets_within =
    both (chain_of (ascii (λ c. begins_name c && not (is_letter 120 c))) Names) (chain_of (ascii (is_letter 120)) (not_behind (codes "ml")))
    (in_chain (ascii (λ c. begins_name c && not (is_letter 120 c))) Names (ascii begins_name) Names (in_ascii (λ c. begins_name c && not (is_letter 120 c)) begins_name (λ c h. (and_parts (begins_name c) (not (is_letter 120 c)) h).0)) (own Names))
    (in_chain (ascii (is_letter 120)) (not_behind (codes "ml")) (ascii begins_name) Names (in_ascii (is_letter 120) begins_name (λ c h. letter_named 120 c refl h))
    (behind_letter 109 (codes "l") refl (behind_letter 108 [] refl behind_nothing)))

-- what stands behind a target
abbrev Ends : Expr
Ends = either_of (word (codes "?>")) (chain_of (ascii is_blank) (bytes_up_to 63 1))

pub instructions_within : Within instruction_form coarse_instruction
unfolding instruction_form
instructions_within =
    in_chain (word (codes "<?")) (chain_of target_form (either_of (word (codes "?>")) (chain_of (ascii is_blank) (text_up_to 63 1)))) (word (codes "<?")) (chain_of name_form Ends) (own (word (codes "<?")))
    (in_chain target_form (either_of (word (codes "?>")) (chain_of (ascii is_blank) (text_up_to 63 1))) name_form Ends targets_within
    (both (word (codes "?>")) (chain_of (ascii is_blank) (text_up_to 63 1)) (in_left (word (codes "?>")) (chain_of (ascii is_blank) (bytes_up_to 63 1)) (own (word (codes "?>"))))
    (in_right (word (codes "?>")) (chain_of (ascii is_blank) (bytes_up_to 63 1)) (in_chain (ascii is_blank) (text_up_to 63 1) (ascii is_blank) (bytes_up_to 63 1) (own (ascii is_blank)) (up_to_within 63 0 (seen 63))))))

-- The XML declaration.

-- bytes but `?` stand anywhere before the mark
no_question : {e : Expr} → Within e (star (byte_but 63)) → Within e (star (bytes_then 63 1))
no_question f = further f (others_then 63 0)

closed : Within (word (codes "?>")) (bytes_up_to 63 1)
closed =
    none_before (bytes_then 63 1) (chain_of (word (times 63 1)) (chain_of (star (range 63 63)) (range 62 62)))
    (in_chain (range 63 63) (range 62 62) (range 63 63) (chain_of (star (range 63 63)) (range 62 62)) (own (range 63 63)) (none_before (range 63 63) (range 62 62) (own (range 62 62))))

abbrev Optional : Expr
Optional = either_of empty (either_of (chain_of encoding_form (either_of empty standalone_form)) standalone_form)

-- the version, behind its first byte of white space
abbrev Version : Expr
Version = chain_of blanks (chain_of (word (codes "version")) (chain_of blanks (chain_of (word (codes "=")) (chain_of blanks (quoted (λ q. word (codes "1.0")))))))

version_first : Within version_form (chain_of (ascii is_blank) Version)
version_first = to_right (ascii is_blank) blanks (chain_of (word (codes "version")) (chain_of blanks (chain_of (word (codes "=")) (chain_of blanks (quoted (λ q. word (codes "1.0")))))))

-- a byte is no `?`
abbrev no_ask : ℕ → Bool
no_ask d = not (d == 63)

blanks_in : Within blanks (star (byte_of no_ask))
blanks_in = stars (ascii_in no_ask is_blank other)
  where
    other : (c : ℕ) → is_blank c ≡ true → no_ask c ≡ true
    other c h = grind (arith, nat_tests)

gap_in : Within gap (star (byte_of no_ask))
gap_in = more (ascii is_blank) blanks (further (once (ascii is_blank)) blanks_in) blanks_in

quoted_in : (between : ℕ → Expr) → ((q : ℕ) → Within (between q) (star (byte_of no_ask))) → Within (quoted between) (star (byte_of no_ask))
quoted_in between f = both (by 34) (by 39) (one 34 refl) (one 39 refl)
  where
    by : ℕ → Expr
    by q = chain_of (range q q) (chain_of (between q) (range q q))

    one : (q : ℕ) → are_in no_ask (q ∷ []) ≡ true → Within (chain_of (range q q) (chain_of (between q) (range q q))) (star (byte_of no_ask))
    one q h = more (range q q) (chain_of (between q) (range q q)) (word_in no_ask (q ∷ []) h) (more (between q) (range q q) (f q) (word_in no_ask (q ∷ []) h))

-- what stands in an attribute behind its first white space
equals_in : (name : List ℕ) (between : ℕ → Expr) → are_in no_ask name ≡ true → ((q : ℕ) → Within (between q) (star (byte_of no_ask)))
    → Within (chain_of (word name) (chain_of blanks (chain_of (word (codes "=")) (chain_of blanks (quoted between))))) (star (byte_of no_ask))
equals_in name between h f =
    more (word name) (chain_of blanks (chain_of (word (codes "=")) (chain_of blanks (quoted between)))) (word_in no_ask name h)
    (more blanks (chain_of (word (codes "=")) (chain_of blanks (quoted between))) blanks_in
    (more (word (codes "=")) (chain_of blanks (quoted between)) (word_in no_ask (codes "=") refl) (more blanks (quoted between) blanks_in (quoted_in between f))))

version_in : Within Version (star (byte_of no_ask))
version_in =
    more blanks (chain_of (word (codes "version")) (chain_of blanks (chain_of (word (codes "=")) (chain_of blanks (quoted (λ q. word (codes "1.0"))))))) blanks_in
    (equals_in (codes "version") (λ q. word (codes "1.0")) refl (λ q. word_in no_ask (codes "1.0") refl))

any_case_in : (w : List ℕ) → list_all (λ c. not (is_letter c 63)) w ≡ true → Within (any_case w) (star (byte_of no_ask))
any_case_in [] h = never (byte_of no_ask)
any_case_in (c ∷ w) h =
    let p = and_parts (not (is_letter c 63)) (list_all (λ c. not (is_letter c 63)) w) h in
    more (ascii (is_letter c)) (any_case w) (ascii_in no_ask (is_letter c) (λ d m. other d m p.0)) (any_case_in w p.1)
  where
    other : (d : ℕ) → is_letter c d ≡ true → not (is_letter c 63) ≡ true → no_ask d ≡ true
    other d m n = not_from_false (d == 63) (ne_eqb d 63 (λ e. both_ways (is_letter c 63) (ap (is_letter c) (sym e) ∙ m) (not-true (is_letter c 63) n)))
      where
        both_ways : (b : Bool) → b ≡ true → b ≡ false → ⊥
        both_ways b t f = cc

attribute_in : (name : List ℕ) (between : ℕ → Expr) → are_in no_ask name ≡ true → ((q : ℕ) → Within (between q) (star (byte_of no_ask))) → Within (attribute_of name between) (star (byte_of no_ask))
attribute_in name between h f = more gap (chain_of (word name) (chain_of blanks (chain_of (word (codes "=")) (chain_of blanks (quoted between))))) gap_in (equals_in name between h f)

encoding_in : Within encoding_form (star (byte_of no_ask))
encoding_in = attribute_in (codes "encoding") (λ q. any_case (codes "UTF-8")) refl (λ q. any_case_in (codes "UTF-8") refl)

standalone_in : Within standalone_form (star (byte_of no_ask))
standalone_in =
    attribute_in (codes "standalone") (λ q. either_of (word (codes "yes")) (word (codes "no"))) refl
    (λ q. both (word (codes "yes")) (word (codes "no")) (word_in no_ask (codes "yes") refl) (word_in no_ask (codes "no") refl))

optional_in : Within Optional (star (byte_of no_ask))
optional_in =
    both empty (either_of (chain_of encoding_form (either_of empty standalone_form)) standalone_form) (never (byte_of no_ask))
    (both (chain_of encoding_form (either_of empty standalone_form)) standalone_form
    (more encoding_form (either_of empty standalone_form) encoding_in (both empty standalone_form (never (byte_of no_ask)) standalone_in)) standalone_in)

abbrev Later : Expr
Later = chain_of Optional (chain_of blanks (word (codes "?>")))

behind_version : Within (chain_of Version Later) (bytes_up_to 63 1)
behind_version =
    before Version Later (bytes_then 63 1) (chain_of (word (times 63 1)) (chain_of (star (range 63 63)) (range 62 62))) (no_question version_in)
    (before Optional (chain_of blanks (word (codes "?>"))) (bytes_then 63 1) (chain_of (word (times 63 1)) (chain_of (star (range 63 63)) (range 62 62))) (no_question optional_in)
    (before blanks (word (codes "?>")) (bytes_then 63 1) (chain_of (word (times 63 1)) (chain_of (star (range 63 63)) (range 62 62))) (no_question blanks_in) closed))

body_within : Within (chain_of version_form Later) (chain_of (ascii is_blank) (bytes_up_to 63 1))
body_within =
    further (in_chain version_form Later (chain_of (ascii is_blank) Version) Later version_first (own Later))
    (further (to_right (ascii is_blank) Version Later) (in_chain (ascii is_blank) (chain_of Version Later) (ascii is_blank) (bytes_up_to 63 1) (own (ascii is_blank)) behind_version))

pub declarations_within : Within declaration_form coarse_instruction
unfolding declaration_form
declarations_within =
    further (word_apart (codes "<?") (codes "xml") (chain_of version_form Later))
    (in_chain (word (codes "<?")) (chain_of (word (codes "xml")) (chain_of version_form Later)) (word (codes "<?")) (chain_of name_form Ends) (own (word (codes "<?")))
    (in_chain (word (codes "xml")) (chain_of version_form Later) name_form Ends (of_word (codes "xml") name_form (named (codes "xml") refl))
    (further body_within (in_right (word (codes "?>")) (chain_of (ascii is_blank) (bytes_up_to 63 1)) (own (chain_of (ascii is_blank) (bytes_up_to 63 1)))))))

-- Document type declarations.

abbrev literal : ℕ → Expr
literal q = star (byte_but q)

-- what may stand in a document type declaration
abbrev Part : Expr
Part = either_of (ascii (λ c. in_name c || is_blank c)) (quoted literal)

part_of_ascii : (t : ℕ → Bool) → ((c : ℕ) → t c ≡ true → (in_name c || is_blank c) ≡ true) → Within (ascii t) (star Part)
part_of_ascii t f = further (further (in_ascii t (λ c. in_name c || is_blank c) f) (in_left (ascii (λ c. in_name c || is_blank c)) (quoted literal) (own (ascii (λ c. in_name c || is_blank c))))) (once Part)

part_of_quotes : (between : ℕ → Expr) → Within (between 34) (literal 34) → Within (between 39) (literal 39) → Within (quoted between) (star Part)
part_of_quotes between f g = further (further (quotes between literal f g) (in_right (ascii (λ c. in_name c || is_blank c)) (quoted literal) (own (quoted literal)))) (once Part)

named_part : (c : ℕ) → in_name c ≡ true → (in_name c || is_blank c) ≡ true
named_part c h = or_left (in_name c) (is_blank c) h

blank_part : (c : ℕ) → is_blank c ≡ true → (in_name c || is_blank c) ≡ true
blank_part c h = or_right (in_name c) (is_blank c) h

blanks_part : Within blanks (star Part)
blanks_part = stars (part_of_ascii is_blank blank_part)

gap_part : Within gap (star Part)
gap_part = more (ascii is_blank) blanks (part_of_ascii is_blank blank_part) blanks_part

name_part : Within name_form (star Part)
name_part = more (ascii begins_name) (star (ascii in_name)) (part_of_ascii begins_name (λ c h. named_part c (begins_in c h))) (stars (part_of_ascii in_name named_part))

word_part : (w : List ℕ) → Matches name_form w → Within (word w) (star Part)
word_part w d = further (of_word w name_form d) name_part

system_part : Within system_literal (star Part)
system_part = part_of_quotes (λ q. star (other_than q)) (one 34) (one 39)
  where
    one : (q : ℕ) → Within (star (other_than q)) (literal q)
    one q = stars (characters_in (λ d. not (d == q)) (λ d. not (d == q)) (λ d h. second (is_character d) (not (d == q)) h))

public_part : Within public_literal (star Part)
public_part = part_of_quotes (λ q. star (ascii (λ c. in_public_identifier c && not (c == q)))) (one 34) (one 39)
  where
    one : (q : ℕ) → Within (star (ascii (λ c. in_public_identifier c && not (c == q)))) (literal q)
    one q = stars (ascii_in (λ d. not (d == q)) (λ c. in_public_identifier c && not (c == q)) (λ c h. second (in_public_identifier c) (not (c == q)) h))

strict_part : Within strict_literal (star Part)
strict_part =
    part_of_quotes (λ q. word (codes "-//W3C//DTD XHTML 1.0 Strict//EN")) (word_in (λ d. not (d == 34)) (codes "-//W3C//DTD XHTML 1.0 Strict//EN") refl)
    (word_in (λ d. not (d == 39)) (codes "-//W3C//DTD XHTML 1.0 Strict//EN") refl)

public_form_part : (e : Expr) → Within e (star Part) → Within (public_form e) (star Part)
public_form_part e f =
    more gap (chain_of (word (codes "PUBLIC")) (chain_of gap (chain_of e (chain_of gap system_literal)))) gap_part
    (more (word (codes "PUBLIC")) (chain_of gap (chain_of e (chain_of gap system_literal))) (word_part (codes "PUBLIC") (named (codes "PUBLIC") refl))
    (more gap (chain_of e (chain_of gap system_literal)) gap_part (more e (chain_of gap system_literal) f (more gap system_literal gap_part system_part))))

system_form_part : Within system_form (star Part)
system_form_part =
    more gap (chain_of (word (codes "SYSTEM")) (chain_of gap system_literal)) gap_part
    (more (word (codes "SYSTEM")) (chain_of gap system_literal) (word_part (codes "SYSTEM") (named (codes "SYSTEM") refl)) (more gap system_literal gap_part system_part))

identifier_part : (rule : DoctypeRule) → Within (identifier_form rule) (star Part)
identifier_part Strict = public_form_part strict_literal strict_part
identifier_part Free = both empty (either_of system_form (public_form public_literal)) (never Part) (both system_form (public_form public_literal) system_form_part (public_form_part public_literal public_part))

pub doctypes_within : (rule : DoctypeRule) → Within (doctype_form rule) coarse_doctype
unfolding doctype_form
doctypes_within rule =
    in_chain (word (codes "<!DOCTYPE")) (chain_of gap (chain_of (word (codes "html")) (chain_of (identifier_form rule) (chain_of blanks (word (codes ">")))))) (word (codes "<!DOCTYPE")) (chain_of (star Part) (word (codes ">")))
    (own (word (codes "<!DOCTYPE")))
    (before gap (chain_of (word (codes "html")) (chain_of (identifier_form rule) (chain_of blanks (word (codes ">"))))) Part (word (codes ">")) gap_part
    (before (word (codes "html")) (chain_of (identifier_form rule) (chain_of blanks (word (codes ">")))) Part (word (codes ">")) (word_part (codes "html") (named (codes "html") refl))
    (before (identifier_form rule) (chain_of blanks (word (codes ">"))) Part (word (codes ">")) (identifier_part rule)
    (before blanks (word (codes ">")) Part (word (codes ">")) blanks_part (none_before Part (word (codes ">")) (own (word (codes ">"))))))))

-- Characters.

character_within : Within (character_of (λ c. not (c == 60 || c == 38))) (star text_byte)
character_within = characters_in (λ c. not (c == 60 || c == 38)) (λ c. not (c == 60 || c == 38)) (λ c h. second (is_character c) (not (c == 60 || c == 38)) h)

-- a character that is no `<` and no `&` is bytes of text
pub plain_within : (c : ℕ) → is_plain c ≡ true → Matches (star text_byte) (encode_utf8_all (c ∷ []))
plain_within c h =
    character_within.goes (encode_utf8_all (c ∷ []))
    ((spells_character (λ c. not (c == 60 || c == 38)) beyond).made (c ∷ []) (record { character = c; passes = h; is = refl }))
  where
    beyond : (c : ℕ) → 128 ≤ c → not (c == 60 || c == 38) ≡ true
    beyond c l = grind (arith, nat_tests)

-- The pieces all together.

abbrev From7 : Expr
From7 = either_of coarse_instruction coarse_doctype

abbrev From6 : Expr
From6 = either_of coarse_section From7

abbrev From5 : Expr
From5 = either_of coarse_comment From6

abbrev From4 : Expr
From4 = either_of coarse_end_tag From5

abbrev From3 : Expr
From3 = either_of coarse_tag From4

abbrev From2 : Expr
From2 = either_of coarse_reference From3

marked : {e : Expr} → Within e From4 → Within e coarse_form
unfolding coarse_form
marked f = in_right text_byte From2 (in_right coarse_reference From3 (in_right coarse_tag From4 f))

remarked : {e : Expr} → Within e From6 → Within e coarse_form
remarked f = marked (in_right coarse_end_tag From5 (in_right coarse_comment From6 f))

pub comments_coarse : Within comment_form coarse_form
comments_coarse = marked (in_right coarse_end_tag From5 (in_left coarse_comment From6 comments_within))

pub sections_coarse : Within section_form coarse_form
sections_coarse = remarked (in_left coarse_section From7 sections_within)

pub instructions_coarse : Within instruction_form coarse_form
instructions_coarse = remarked (in_right coarse_section From7 (in_left coarse_instruction coarse_doctype instructions_within))

pub declarations_coarse : Within declaration_form coarse_form
declarations_coarse = remarked (in_right coarse_section From7 (in_left coarse_instruction coarse_doctype declarations_within))

pub doctypes_coarse : (rule : DoctypeRule) → Within (doctype_form rule) coarse_form
doctypes_coarse rule = remarked (in_right coarse_section From7 (in_right coarse_instruction coarse_doctype (doctypes_within rule)))

pub tags_coarse : Within coarse_tag coarse_form
unfolding coarse_form
tags_coarse = in_right text_byte From2 (in_right coarse_reference From3 (in_left coarse_tag From4 (own coarse_tag)))

pub end_tags_coarse : Within coarse_end_tag coarse_form
end_tags_coarse = marked (in_left coarse_end_tag From5 (own coarse_end_tag))

pub references_coarse : Within coarse_reference coarse_form
unfolding coarse_form
references_coarse = in_right text_byte From2 (in_left coarse_reference From3 (own coarse_reference))

pub text_coarse : Within (star text_byte) (star coarse_form)
unfolding coarse_form
text_coarse = stars (further (in_left text_byte From2 (own text_byte)) (once coarse_form))

pub lawful_are_coarse : LawfulAreCoarse
lawful_are_coarse = record {
  comments = comments_coarse.goes;
  sections = sections_coarse.goes;
  instructions = instructions_coarse.goes;
  declarations = declarations_coarse.goes;
  doctypes = λ rule. (doctypes_coarse rule).goes;
  characters = λ c h. text_coarse.goes (encode_utf8_all (c ∷ [])) (plain_within c h);
}
