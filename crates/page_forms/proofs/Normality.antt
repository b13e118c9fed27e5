-- Forms are in normal form.
use Rattle.std.proofs.Common.{◌≡◌, ℕ, zero, suc, ◌≤◌, Bool, true, false, List, [], ◌∷◌, Option, Some, None, refl, sym, ap, subst, arith}
use Rattle.std.specs.Prelude.{nat_le, nat_lt, nat_eq, not, ◌==◌, ◌&&◌, ◌||◌, if◌then◌else◌, codes}
use Rattle.std.proofs.lemmas.Bool.{and_from, le-leb}
use Rattle.std.specs.Str.{encode_utf8_all}
use Rattle.std.specs.Char.{is_ascii_digit, is_ascii_hexdigit, digit_value}
use Rattle.text_base.specs.declared.page_token.PageToken.TheVariants as token
use Rattle.xml_text.specs.Characters.{is_blank, is_character}
use Rattle.xml_text.specs.Names.{begins_name, in_name, in_public_identifier, is_name, is_name_token}
use Rattle.dtd_model.specs.declared.dtd.DoctypeRule.{DoctypeRule}
use Rattle.dtd_model.specs.declared.dtd.DoctypeRule.TheVariants.{Strict, Free}
use Rattle.dtd_model.specs.References.{entity, known_entities}
use Rattle.dtd_model.specs.Table.{Kind, cdata, id, idref, idrefs, nmtoken, nmtokens, one_of, Presence, implied, required, with_default, fixed, Declared, Rule, Table}
use Rattle.derivatives.specs.Expressions.{Expr, nothing, empty, range, chain, either, star, among, Members, none, member, Matches, is_left, is_right}
use Rattle.derivatives.specs.Derivatives.{chain_of, either_of, among_of, when, is_full, are_full, Normal, fails, lives}
use Rattle.derivatives.proofs.Living.{makes_normal}
use Rattle.derivatives.proofs.NormalForms.{either_made}
use Rattle.page_model.specs.Places.{Place, at_beginning, behind_mark, behind}
use Rattle.page_forms.specs.Declarations.{any_case, encoding_form, standalone_form, declaration_form}
use Rattle.page_forms.specs.Doctypes.{system_literal, public_form, identifier_form, doctype_form}
use Rattle.page_forms.specs.Forms.{Form, giving, elements_forms, early_forms, leaf_forms, forms}
use Rattle.page_forms.specs.Laws.{AreNormal, FormsAreNormal}
use Rattle.page_forms.specs.Quotes.{quoted, attribute_of}
use Rattle.page_forms.specs.References.{Rows, equal_to, inside, as_many, at_least, at_most, from_to, one_of_rows, decimal_rows, hexadecimal_rows, reference_form, decimal_form, hexadecimal_form}
use Rattle.page_forms.specs.Remarks.{run_then, times, text_up_to, is_letter, not_behind, comment_form, section_form, instruction_form}
use Rattle.page_forms.specs.Simple.{text_form, is_text, beyond_but_mark, end_tag_form}
use Rattle.page_forms.specs.Tags.{one_word, some_words, token_form, value_character, kind_form, presence_form, value_form, attribute_form, attribute_members, any_order, tag_form, start_tag_form, empty_tag_form}
use Rattle.byte_forms.specs.Ranges.{ranges_below}
use Rattle.byte_forms.proofs.ByteLemmas.{IsWide}
use Rattle.page_forms.specs.Words.{word, one_of_words, ascii, beyond_ascii, character_of, other_than, blanks, gap, name_form}
use Rattle.page_forms.proofs.Classes.{spells_ascii}
use Rattle.page_forms.proofs.Instructions.{question}
use Rattle.page_forms.proofs.NameForms.{spells_gap, spells_name}
use Rattle.page_forms.proofs.Picking.{AreMembers, no_members, left_out, one_more, StandFor, are_members, is_something}
use Rattle.page_forms.proofs.ReferenceForms.{spells_reference}
use Rattle.page_forms.proofs.Sections.{bracket}
use Rattle.page_forms.proofs.Spelling.{spells_chain}
use Rattle.page_forms.proofs.UpTo.{IsMark, spells_run}
use Rattle.page_forms.proofs.ValueForms.{spells_token}

chained : {x y : Expr} → Normal x → Normal y → Normal (chain_of x y)
chained {x} {y} n m = makes_normal.chained x y n m

both : {x y : Expr} → Normal x → Normal y → Normal (either_of x y)
both {x} {y} n m = makes_normal.either x y n m

not_empty : (c : ℕ) (cs : List ℕ) → c ∷ cs ≡ [] → ⊥
not_empty c cs e = cc

-- what matches some text is full
full_by : {e : Expr} {w : List ℕ} → Normal e → Matches e w → is_full e ≡ true
full_by fails d = elim d [ ]
full_by (lives h) d = h

any_number : {e : Expr} {w : List ℕ} → Normal e → Matches e w → Normal (star e)
any_number {e} n d = lives {e = star e} (full_by n d)

word_normal : (bs : List ℕ) → Normal (word bs)
word_normal [] = lives {e = empty} refl
word_normal (b ∷ bs) = chained (lives {e = range b b} (le-leb b b (omega arith))) (word_normal bs)

words_normal : (test : List ℕ → Bool) (ws : List (List ℕ)) → Normal (one_of_words test ws)
words_normal test [] = fails
words_normal test (w ∷ ws) = at (test w) (words_normal test ws)
  where
    at : (b : Bool) → Normal (one_of_words test ws) → Normal (if b then either_of (word w) (one_of_words test ws) else one_of_words test ws)
    at true n = both (word_normal w) n
    at false n = n

range_normal : (low high : ℕ) → low ≤ high → Normal (range low high)
range_normal low high l = lives {e = range low high} (le-leb low high l)

ranges_normal : (test : ℕ → Bool) (n : ℕ) (o : Option ℕ) (e : Expr) → IsWide n o → Normal e → Normal (ranges_below test n o e)
ranges_normal test zero None e l m = m
ranges_normal test zero (Some last) e l m = both (range_normal zero last l) m
ranges_normal test (suc n) None e l m = at (test n) (ranges_normal test n (Some n) e (omega arith) m) (ranges_normal test n None e tt m)
  where
    at : (b : Bool) → Normal (ranges_below test n (Some n) e) → Normal (ranges_below test n None e) → Normal (if b then ranges_below test n (Some n) e else ranges_below test n None e)
    at true f g = f
    at false f g = g
ranges_normal test (suc n) (Some last) e l m =
    at (test n) (ranges_normal test n (Some last) e (omega (arith, l)) m) (ranges_normal test n None (either_of (range (suc n) last) e) tt (both (range_normal (suc n) last l) m))
  where
    at : (b : Bool) → Normal (ranges_below test n (Some last) e) → Normal (ranges_below test n None (either_of (range (suc n) last) e))
        → Normal (if b then ranges_below test n (Some last) e else ranges_below test n None (either_of (range (suc n) last) e))
    at true f g = f
    at false f g = g

ascii_normal : (test : ℕ → Bool) → Normal (ascii test)
unfolding ascii
ascii_normal test = ranges_normal test 128 None nothing tt fails

beyond_normal : Normal beyond_ascii
unfolding beyond_ascii
beyond_normal = lives {e = beyond_ascii} refl

but_mark_normal : Normal beyond_but_mark
unfolding beyond_but_mark
but_mark_normal = lives {e = beyond_but_mark} refl

character_normal : (test : ℕ → Bool) → Normal (character_of test)
character_normal test = both (ascii_normal (λ c. is_character c && test c)) beyond_normal

-- a byte of ASCII that passes is matched
ascii_match : (test : ℕ → Bool) (c : ℕ) → (nat_lt c 128 && test c) ≡ true → Matches (ascii test) (encode_utf8_all (c ∷ []))
ascii_match test c h = (spells_ascii test).made (c ∷ []) (record { character = c; passes = h; is = refl })

-- and so is a space by a class of characters
character_match : (test : ℕ → Bool) → (nat_lt 32 128 && (is_character 32 && test 32)) ≡ true → Matches (character_of test) (encode_utf8_all (32 ∷ []))
character_match test h = either_made (ascii (λ c. is_character c && test c)) beyond_ascii (is_left (ascii_match (λ c. is_character c && test c) 32 h))

blanks_normal : Normal blanks
blanks_normal = any_number (ascii_normal is_blank) (ascii_match is_blank 32 refl)

gap_normal : Normal gap
gap_normal = chained (ascii_normal is_blank) blanks_normal

rest_normal : Normal (star (ascii in_name))
rest_normal = any_number (ascii_normal in_name) (ascii_match in_name 97 refl)

name_normal : Normal name_form
name_normal = chained (ascii_normal begins_name) rest_normal

token_normal : Normal token_form
token_normal = chained (ascii_normal in_name) rest_normal

-- white space and `a`
spaced_name : Matches (chain_of gap name_form) (encode_utf8_all (codes " a"))
spaced_name = (spells_chain spells_gap spells_name).made (codes " a") (record { first = codes " "; second = codes "a"; begins = record { some = λ e. not_empty 32 [] e; blank = refl }; goes_on = refl; is = refl })

spaced_token : Matches (chain_of gap token_form) (encode_utf8_all (codes " a"))
spaced_token = (spells_chain spells_gap spells_token).made (codes " a") (record { first = codes " "; second = codes "a"; begins = record { some = λ e. not_empty 32 [] e; blank = refl }; goes_on = refl; is = refl })

more_names : Normal (star (chain_of gap name_form))
more_names = any_number (chained gap_normal name_normal) spaced_name

more_tokens : Normal (star (chain_of gap token_form))
more_tokens = any_number (chained gap_normal token_normal) spaced_token

-- Remarks.

same_normal : (c : ℕ) → Normal (star (range c c))
same_normal c = lives {e = star (range c c)} (le-leb c c (omega arith))

other_normal : (c : ℕ) → Normal (other_than c)
other_normal c = character_normal (λ d. not (d == c))

comment_normal : Normal comment_form
unfolding comment_form
comment_normal =
    chained (word_normal (codes "<!--"))
    (chained
    (any_number (both (other_normal 45) (chained (range_normal 45 45 (omega arith)) (other_normal 45)))
    (either_made (other_than 45) (chain_of (range 45 45) (other_than 45)) (is_left (character_match (λ d. not (d == 45)) refl))))
    (word_normal (codes "-->")))

run_normal : (c n : ℕ) → Normal (run_then c n)
run_normal c zero = chained (same_normal c) (character_normal (λ d. not (d == c || d == 62)))
run_normal c (suc n) = both (other_normal c) (chained (range_normal c c (omega arith)) (run_normal c n))

-- a space alone is a run
space_run : (c : ℕ) → IsMark c → nat_eq c 32 ≡ false → (n : ℕ) → Matches (run_then c n) (encode_utf8_all (32 ∷ []))
space_run c m h n = (spells_run c m n).made (32 ∷ []) (record { count = 0; last = 32; is = refl; character = refl; other = h; no_end = λ l. refl })

up_to_normal : (c : ℕ) → IsMark c → nat_eq c 32 ≡ false → (n : ℕ) → Normal (text_up_to c n)
up_to_normal c m h n =
    chained (any_number (run_normal c n) (space_run c m h n)) (chained (word_normal (times c n)) (chained (same_normal c) (range_normal 62 62 (omega arith))))

section_normal : Normal section_form
unfolding section_form
section_normal = chained (word_normal (codes "<![CDATA[")) (up_to_normal 93 bracket refl 2)

behind_normal : (ws : List ℕ) → Normal (not_behind ws)
behind_normal [] = chained (ascii_normal in_name) rest_normal
behind_normal (w ∷ ws) =
    both (lives {e = empty} refl) (both (chained (ascii_normal (λ c. in_name c && not (is_letter w c))) rest_normal) (chained (ascii_normal (is_letter w)) (behind_normal ws)))

instruction_normal : Normal instruction_form
unfolding instruction_form
instruction_normal =
    chained (word_normal (codes "<?"))
    (chained (both (chained (ascii_normal (λ c. begins_name c && not (is_letter 120 c))) rest_normal) (chained (ascii_normal (is_letter 120)) (behind_normal (codes "ml"))))
    (both (word_normal (codes "?>")) (chained (ascii_normal is_blank) (up_to_normal 63 question refl 1))))

-- Numbers.

many_normal : (is_digit : ℕ → Bool) (ds : List ℕ) → Normal (as_many is_digit ds)
many_normal is_digit [] = lives {e = empty} refl
many_normal is_digit (d ∷ ds) = chained (ascii_normal is_digit) (many_normal is_digit ds)

least_normal : (is_digit : ℕ → Bool) (ds : List ℕ) → Normal (at_least is_digit ds)
least_normal is_digit [] = lives {e = empty} refl
least_normal is_digit (d ∷ ds) =
    both (chained (ascii_normal (λ c. is_digit c && digit_value c == digit_value d)) (least_normal is_digit ds))
    (chained (ascii_normal (λ c. is_digit c && nat_lt (digit_value d) (digit_value c))) (many_normal is_digit ds))

most_normal : (is_digit : ℕ → Bool) (ds : List ℕ) → Normal (at_most is_digit ds)
most_normal is_digit [] = lives {e = empty} refl
most_normal is_digit (d ∷ ds) =
    both (chained (ascii_normal (λ c. is_digit c && digit_value c == digit_value d)) (most_normal is_digit ds))
    (chained (ascii_normal (λ c. is_digit c && nat_lt (digit_value c) (digit_value d))) (many_normal is_digit ds))

from_to_normal : (is_digit : ℕ → Bool) (ds es : List ℕ) → Normal (from_to is_digit ds es)
from_to_normal is_digit [] es = lives {e = empty} refl
from_to_normal is_digit (d ∷ ds) [] = fails
from_to_normal is_digit (d ∷ ds) (e ∷ es) = at (digit_value d == digit_value e) (from_to_normal is_digit ds es)
  where
    one : (d : ℕ) → Normal (equal_to is_digit d)
    one d = ascii_normal (λ c. is_digit c && digit_value c == digit_value d)

    at : (b : Bool) → Normal (from_to is_digit ds es) → Normal (if b then chain_of (equal_to is_digit d) (from_to is_digit ds es) else either_of (chain_of (equal_to is_digit d) (at_least is_digit ds))
        (either_of (chain_of (inside is_digit d e) (as_many is_digit ds)) (chain_of (equal_to is_digit e) (at_most is_digit es))))
    at true n = chained (one d) n
    at false n =
        both (chained (one d) (least_normal is_digit ds))
        (both (chained (ascii_normal (λ c. is_digit c && (nat_lt (digit_value d) (digit_value c) && nat_lt (digit_value c) (digit_value e)))) (many_normal is_digit ds)) (chained (one e) (most_normal is_digit es)))

rows_normal : (is_digit : ℕ → Bool) (rows : Rows) → Normal (one_of_rows is_digit rows)
rows_normal is_digit [] = fails
rows_normal is_digit (row ∷ rows) = both (from_to_normal is_digit row.0 row.1) (rows_normal is_digit rows)

decimal_normal : Normal decimal_form
unfolding decimal_form
decimal_normal = chained (same_normal 48) (rows_normal is_ascii_digit decimal_rows)

hexadecimal_normal : Normal hexadecimal_form
unfolding hexadecimal_form
hexadecimal_normal = chained (same_normal 48) (rows_normal is_ascii_hexdigit hexadecimal_rows)

-- Texts in quotes.

quoted_normal : (between : ℕ → Expr) → Normal (between 34) → Normal (between 39) → Normal (quoted between)
quoted_normal between n m =
    both (chained (word_normal (34 ∷ [])) (chained n (word_normal (34 ∷ [])))) (chained (word_normal (39 ∷ [])) (chained m (word_normal (39 ∷ []))))

attribute_of_normal : (name : List ℕ) (between : ℕ → Expr) → Normal (between 34) → Normal (between 39) → Normal (attribute_of name between)
attribute_of_normal name between n m =
    chained gap_normal (chained (word_normal name) (chained blanks_normal (chained (word_normal (codes "=")) (chained blanks_normal (quoted_normal between n m)))))

any_case_normal : (ws : List ℕ) → Normal (any_case ws)
any_case_normal [] = lives {e = empty} refl
any_case_normal (w ∷ ws) = chained (ascii_normal (is_letter w)) (any_case_normal ws)

declaration_normal : Normal declaration_form
unfolding declaration_form
declaration_normal =
    chained (word_normal (codes "<?xml"))
    (chained (attribute_of_normal (codes "version") (λ q. word (codes "1.0")) (word_normal (codes "1.0")) (word_normal (codes "1.0")))
    (chained (both (lives {e = empty} refl) (both (chained encoding (both (lives {e = empty} refl) alone)) alone)) (chained blanks_normal (word_normal (codes "?>")))))
  where
    encoding : Normal encoding_form
    encoding = attribute_of_normal (codes "encoding") (λ q. any_case (codes "UTF-8")) (any_case_normal (codes "UTF-8")) (any_case_normal (codes "UTF-8"))

    alone : Normal standalone_form
    alone =
        let n = both (word_normal (codes "yes")) (word_normal (codes "no")) in
        attribute_of_normal (codes "standalone") (λ q. either_of (word (codes "yes")) (word (codes "no"))) n n

any_other : (q : ℕ) → (nat_lt 32 128 && (is_character 32 && not (32 == q))) ≡ true → Normal (star (other_than q))
any_other q h = any_number (other_normal q) (character_match (λ d. not (d == q)) h)

system_normal : Normal system_literal
system_normal = quoted_normal (λ q. star (other_than q)) (any_other 34 refl) (any_other 39 refl)

public_any : (q : ℕ) → (nat_lt 32 128 && (in_public_identifier 32 && not (32 == q))) ≡ true → Normal (star (ascii (λ c. in_public_identifier c && not (c == q))))
public_any q h = any_number (ascii_normal (λ c. in_public_identifier c && not (c == q))) (ascii_match (λ c. in_public_identifier c && not (c == q)) 32 h)

public_normal : {e : Expr} → Normal e → Normal (public_form e)
public_normal n = chained gap_normal (chained (word_normal (codes "PUBLIC")) (chained gap_normal (chained n (chained gap_normal system_normal))))

identifier_normal : (rule : DoctypeRule) → Normal (identifier_form rule)
identifier_normal Strict =
    let n = word_normal (codes "-//W3C//DTD XHTML 1.0 Strict//EN") in public_normal (quoted_normal (λ q. word (codes "-//W3C//DTD XHTML 1.0 Strict//EN")) n n)
identifier_normal Free =
    both (lives {e = empty} refl)
    (both (chained gap_normal (chained (word_normal (codes "SYSTEM")) (chained gap_normal system_normal)))
    (public_normal (quoted_normal (λ q. star (ascii (λ c. in_public_identifier c && not (c == q)))) (public_any 34 refl) (public_any 39 refl))))

doctype_normal : (rule : DoctypeRule) → Normal (doctype_form rule)
unfolding doctype_form
doctype_normal rule =
    chained (word_normal (codes "<!DOCTYPE")) (chained gap_normal (chained (word_normal (codes "html")) (chained (identifier_normal rule) (chained blanks_normal (word_normal (codes ">"))))))

text_normal : (place : Place) → Normal (text_form place)
text_normal at_beginning = both (ascii_normal (λ c. is_character c && is_text at_beginning c)) but_mark_normal
text_normal behind_mark = character_normal (is_text behind_mark)
text_normal (behind k) = character_normal (is_text (behind k))

end_normal : (name : List ℕ) → Normal (end_tag_form name)
end_normal name = chained (word_normal (codes "</")) (chained (word_normal name) (chained blanks_normal (word_normal (codes ">"))))

-- References, values and attributes.

reference_normal : (entities : List (List ℕ)) → Normal (reference_form entities)
unfolding reference_form
reference_normal entities =
    chained (word_normal (codes "&"))
    (chained
    (both (chained (word_normal (codes "#")) (both decimal_normal (chained (word_normal (codes "x")) hexadecimal_normal))) (both (words_normal is_name known_entities) (words_normal is_name entities)))
    (word_normal (codes ";")))

-- `&amp;` is a reference by each definition
some_reference : (entities : List (List ℕ)) → Matches (reference_form entities) (encode_utf8_all (codes "&amp;"))
some_reference entities = (spells_reference entities).made (codes "&amp;") (record { to = entity (codes "amp"); lawful = refl; known = refl; is = refl })

one_normal : {e : Expr} → Normal e → Normal (one_word e)
one_normal n = chained blanks_normal (chained n blanks_normal)

some_normal : {e : Expr} → Normal e → Normal (star (chain_of gap e)) → Normal (some_words e)
some_normal n m = chained blanks_normal (chained n (chained m blanks_normal))

kind_normal : (entities : List (List ℕ)) (k : Kind) (q : ℕ) → Normal (kind_form entities k q)
kind_normal entities cdata q =
    any_number (both (character_normal _) (reference_normal entities)) (either_made (value_character q) (reference_form entities) (is_right (some_reference entities)))
kind_normal entities id q = one_normal name_normal
kind_normal entities idref q = one_normal name_normal
kind_normal entities idrefs q = some_normal name_normal more_names
kind_normal entities nmtoken q = one_normal token_normal
kind_normal entities nmtokens q = some_normal token_normal more_tokens
kind_normal entities (one_of tokens) q = one_normal (words_normal is_name_token tokens)

when_normal : (t : Bool) {e : Expr} → Normal e → Normal (when t e)
when_normal true n = n
when_normal false n = fails

presence_normal : (entities : List (List ℕ)) (k : Kind) (p : Presence) (q : ℕ) → Normal (presence_form entities k p q)
presence_normal entities k implied q = kind_normal entities k q
presence_normal entities k required q = kind_normal entities k q
presence_normal entities k with_default q = kind_normal entities k q
presence_normal entities k (fixed wanted) q = when_normal _ (word_normal wanted)

value_normal : (entities : List (List ℕ)) (d : Declared) (q : ℕ) → Normal (value_form entities d q)
unfolding value_form
value_normal entities d q = presence_normal entities d.kind d.presence q

attribute_normal : (entities : List (List ℕ)) (d : Declared) → Normal (attribute_form entities d)
unfolding attribute_form
attribute_normal entities d =
    when_normal (is_name d.name) (attribute_of_normal d.name (value_form entities d) (value_normal entities d 34) (value_normal entities d 39))

-- Tags.

pub something_full : {e : Expr} → Normal e → is_something e ≡ true → is_full e ≡ true
something_full fails h = cc
something_full (lives f) h = f

members_full : {entities : List (List ℕ)} {tag : List ℕ} {ds : List Declared} {ms : Members} → AreMembers entities tag ds ms → are_full ms ≡ true
members_full no_members = refl
members_full (left_out p q m) = members_full m
members_full {entities} (one_more {d = d} {e = x} {ms = ms} e b i m) = and_from (is_full x) (are_full ms) (something_full (subst Normal (sym e) (attribute_normal entities d)) i) (members_full m)

order_normal : (entities : List (List ℕ)) (tag : List ℕ) (ds : List Declared) (o : Option Members) → StandFor entities tag ds o → Normal (any_order o)
order_normal entities tag ds None k = fails
order_normal entities tag ds (Some ms) m = makes_normal.among ms (members_full m)

tag_normal : (closer : List ℕ) (entities : List (List ℕ)) (rule : Rule) → Normal (tag_form closer entities rule)
tag_normal closer entities rule =
    chained (word_normal (codes "<"))
    (chained (word_normal rule.name)
    (chained (order_normal entities rule.name rule.attributes (attribute_members entities rule.name rule.attributes) (are_members entities rule.name rule.attributes)) (chained blanks_normal (word_normal closer))))

start_normal : (entities : List (List ℕ)) (rule : Rule) → Normal (start_tag_form entities rule)
unfolding start_tag_form
start_normal entities rule = tag_normal (codes ">") entities rule

empty_normal : (entities : List (List ℕ)) (rule : Rule) → Normal (empty_tag_form entities rule)
unfolding empty_tag_form
empty_normal entities rule = tag_normal (codes "/>") entities rule

elements_normal : (entities : List (List ℕ)) (n : ℕ) (rules : List Rule) → AreNormal (elements_forms entities n rules)
elements_normal entities n [] = tt
elements_normal entities n (rule ∷ rules) = (start_normal entities rule, (empty_normal entities rule, (end_normal rule.name, elements_normal entities (suc n) rules)))

leaves_normal : (entities : List (List ℕ)) (place : Place) (others : List Form) → AreNormal others → AreNormal (leaf_forms entities place others)
leaves_normal entities place others n =
    (ascii_normal is_blank, (word_normal (codes "]"), (text_normal place, (reference_normal entities, (section_normal, (comment_normal, (instruction_normal, n)))))))

early_normal : (place : Place) (others : List Form) → AreNormal others → AreNormal (early_forms place others)
early_normal at_beginning others n = (word_normal (0xEF ∷ 0xBB ∷ 0xBF ∷ []), (declaration_normal, n))
early_normal behind_mark others n = (declaration_normal, n)
early_normal (behind k) others n = n

pub forms_are_normal : FormsAreNormal
unfolding forms
forms_are_normal table place =
    let others : List Form = giving (doctype_form table.doctype) (token.Doctype ∷ []) ∷ elements_forms table.entities 0 table.elements in
    early_normal place (leaf_forms table.entities place others) (leaves_normal table.entities place others (doctype_normal table.doctype, elements_normal table.entities 0 table.elements))
