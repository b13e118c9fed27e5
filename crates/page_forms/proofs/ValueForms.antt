-- Values of attributes, as they are declared.
use Rattle.std.proofs.Common.{◌≡◌, ◌⊎◌, inl, inr, ℕ, Bool, true, false, List, [], ◌∷◌, ◌++◌, refl, sym, ◌∙◌, ap, subst, arith}
use Rattle.std.specs.Prelude.{◌==◌, ◌&&◌, ◌||◌, bytes_eq, if◌then◌else◌}
use Rattle.std.specs.Char.{IsScalar}
use Rattle.std.specs.List.{list_all, list_any}
use Rattle.std.specs.Str.{chars, encode_utf8_all, all_scalars}
use Rattle.std.proofs.Math.Utf8.{scalar}
use Rattle.std.proofs.lemmas.Bool.{and_parts, and_from, or_cases}
use Rattle.std.proofs.lemmas.Bool.Decides.{nat_tests}
use Rattle.std.proofs.lemmas.Str.{chars-encodes}
use Rattle.xml_text.specs.Characters.{is_blank, is_character}
use Rattle.xml_text.specs.Names.{begins_name, in_name, is_name, is_name_token}
use Rattle.dtd_model.specs.Lawful.{is_lawful_kind}
use Rattle.dtd_model.specs.References.{Reference, is_reference, is_known}
use Rattle.dtd_model.specs.Table.{Kind, cdata, id, idref, idrefs, nmtoken, nmtokens, one_of, Presence, implied, required, with_default, fixed, Declared}
use Rattle.derivatives.specs.Expressions.{Expr, Matches}
use Rattle.derivatives.specs.Derivatives.{when}
use Rattle.derivatives.proofs.NormalForms.{when_shown}
use Rattle.page_model.specs.Attributes.{put_before, words_of, is_one_word, are_words, has_kind, has_fixed}
use Rattle.page_model.specs.Parts.{may_be_quoted, refers_by, is_quote, begins_blank}
use Rattle.page_model.proofs.Names.{same_bytes, equal_bytes}
use Rattle.page_forms.specs.Tags.{one_word, some_words, token_form, kind_form, presence_form, value_form, is_value, is_fixed_value}
use Rattle.page_forms.specs.Words.{word, one_of_words, name_form}
use Rattle.page_forms.proofs.NameForms.{FirstAnd, spells_first_and, spells_in_name, spells_name, begins_in}
use Rattle.page_forms.proofs.Spelling.{Spells, Spelled, spells_as, word_shown, word_made}
use Rattle.page_forms.proofs.ValueTexts.{IsValue, value_is, is_value_of, spells_value, plain_refers, all_in}
use Rattle.page_forms.proofs.ValueWords.{TellsWords, is_mark, spells_one_word, spells_some_words}
use Rattle.page_forms.proofs.WordForms.{IsWordOf, spells_words, name_ascii, token_ascii}

-- Names and name tokens are words.

name_mark : (c : ℕ) → in_name c ≡ true → is_mark c ≡ true
name_mark c h = ap (λ (x : Bool). if x then false else true) (no_blank c h)
  where
    no_blank : (c : ℕ) → in_name c ≡ true → is_blank c ≡ false
    no_blank c h = grind (arith, nat_tests)

no : false ≡ true → ⊥
no e = cc

name_all : (w : List ℕ) → is_name w ≡ true → list_all in_name w ≡ true
name_all [] h = refl
name_all (c ∷ w) h = let p = and_parts (begins_name c) (list_all in_name w) h in and_from (in_name c) (list_all in_name w) (begins_in c p.0) p.1

token_all : (w : List ℕ) → is_name_token w ≡ true → list_all in_name w ≡ true
token_all [] h = refl
token_all (c ∷ w) h = h

names_tell : TellsWords is_name
names_tell = record { some = no; marks = λ w h. all_in in_name is_mark name_mark w (name_all w h) }

tokens_tell : TellsWords is_name_token
tokens_tell = record { some = no; marks = λ w h. all_in in_name is_mark name_mark w (token_all w h) }

-- A text whose words are of characters of names holds these and white space.

abbrev pub named : ℕ → Bool
named c = in_name c || is_blank c

pub name_named : (c : ℕ) → in_name c ≡ true → named c ≡ true
name_named c h = grind (arith, nat_tests)

blank_named : (c : ℕ) → is_blank c ≡ true → named c ≡ true
blank_named c h = grind (arith, nat_tests)

abbrev AllNames : List (List ℕ) → Type 0
AllNames ws = list_all (list_all in_name) ws ≡ true

put_names : (c : ℕ) (b : Bool) (ws : List (List ℕ)) → AllNames (put_before c b ws) → (in_name c ≡ true) × AllNames ws
put_names c true ws h =
    let p = and_parts (list_all in_name (c ∷ [])) (list_all (list_all in_name) ws) h in ((and_parts (in_name c) true p.0).0, p.1)
put_names c false [] h = ((and_parts (in_name c) true (and_parts (list_all in_name (c ∷ [])) true h).0).0, refl)
put_names c false (w ∷ ws) h =
    let p = and_parts (list_all in_name (c ∷ w)) (list_all (list_all in_name) ws) h in
    let q = and_parts (in_name c) (list_all in_name w) p.0 in
    (q.0, and_from (list_all in_name w) (list_all (list_all in_name) ws) q.1 p.1)

names_only : (cs : List ℕ) → AllNames (words_of cs) → list_all named cs ≡ true
names_only [] h = refl
names_only (c ∷ cs) h = at (is_blank c) refl h (λ g. names_only cs g)
  where
    put : (in_name c ≡ true) × AllNames (words_of cs) → (AllNames (words_of cs) → list_all named cs ≡ true) → list_all named (c ∷ cs) ≡ true
    put p f = and_from (named c) (list_all named cs) (name_named c p.0) (f p.1)

    at : (x : Bool) → is_blank c ≡ x → AllNames (if x then words_of cs else put_before c (begins_blank cs) (words_of cs)) → (AllNames (words_of cs) → list_all named cs ≡ true) → list_all named (c ∷ cs) ≡ true
    at true e h f = and_from (named c) (list_all named cs) (blank_named c e) (f h)
    at false e h f = put (put_names c (begins_blank cs) (words_of cs) h) f

one_all : (test : List ℕ → Bool) → ((w : List ℕ) → test w ≡ true → list_all in_name w ≡ true) → (ws : List (List ℕ)) → is_one_word test ws ≡ true → AllNames ws
one_all test f [] h = refl
one_all test f (w ∷ []) h = and_from (list_all in_name w) true (f w h) refl
one_all test f (w ∷ v ∷ ws) h = absurd (no h)

each_all : (test : List ℕ → Bool) → ((w : List ℕ) → test w ≡ true → list_all in_name w ≡ true) → (ws : List (List ℕ)) → list_all test ws ≡ true → AllNames ws
each_all test f [] h = refl
each_all test f (w ∷ ws) h = let p = and_parts (test w) (list_all test ws) h in and_from (list_all in_name w) (list_all (list_all in_name) ws) (f w p.0) (each_all test f ws p.1)

some_all : (test : List ℕ → Bool) → ((w : List ℕ) → test w ≡ true → list_all in_name w ≡ true) → (ws : List (List ℕ)) → are_words test ws ≡ true → AllNames ws
some_all test f [] h = refl
some_all test f (w ∷ ws) h = each_all test f (w ∷ ws) h

pub named_quoted : (q : ℕ) → is_quote q ≡ true → (c : ℕ) → named c ≡ true → may_be_quoted q c ≡ true
named_quoted q h c e = grind (arith, nat_tests)

named_plain : (c : ℕ) → named c ≡ true → (c == 38) ≡ false
named_plain c h = grind (arith, nat_tests)

pub refers_none : (test : Reference → Bool) (cs : List ℕ) → list_all named cs ≡ true → refers_by test cs ≡ true
refers_none test [] h = refl
refers_none test (c ∷ cs) h = let p = and_parts (named c) (list_all named cs) h in plain_refers test c cs (named_plain c p.0) ∙ refers_none test cs p.1

words_value : (entities : List (List ℕ)) (q : ℕ) → is_quote q ≡ true → (cs : List ℕ) → AllNames (words_of cs) → IsValue entities q cs
words_value entities q h cs a =
    let n = names_only cs a in
    record { quoted = all_in named (may_be_quoted q) (named_quoted q h) cs n; refers = refers_none is_reference cs n; known = refers_none (is_known entities) cs n }

-- Values by types.

pub record IsKindOf (entities : List (List ℕ)) (k : Kind) (q : ℕ) (cs : List ℕ) : Type 0 where
  pub value : IsValue entities q cs
  pub kind : has_kind k cs ≡ true

pub spells_token : Spells token_form (λ cs. is_name_token cs ≡ true)
spells_token = spells_as (spells_first_and spells_in_name spells_in_name) into from
  where
    into : (cs : List ℕ) → FirstAnd in_name in_name cs → is_name_token cs ≡ true
    into cs f = subst (λ (z : List ℕ). is_name_token z ≡ true) f.is (and_from (in_name f.head) (list_all in_name f.tail) f.head_passes f.tail_passes)

    from : (cs : List ℕ) → is_name_token cs ≡ true → FirstAnd in_name in_name cs
    from [] h = absurd (no h)
    from (c ∷ cs) h = let p = and_parts (in_name c) (list_all in_name cs) h in record { head = c; tail = cs; head_passes = p.0; tail_passes = p.1; is = refl }

-- one of the tokens
abbrev is_token : List (List ℕ) → List ℕ → Bool
is_token tokens w = is_name_token w && list_any (bytes_eq w) tokens

token_tells : (tokens : List (List ℕ)) → TellsWords (is_token tokens)
token_tells tokens = record { some = no; marks = λ w h. all_in in_name is_mark name_mark w (token_all w (and_parts (is_name_token w) (list_any (bytes_eq w) tokens) h).0) }

token_of : (tokens : List (List ℕ)) → list_all is_name_token tokens ≡ true → (w : List ℕ) → list_any (bytes_eq w) tokens ≡ true → is_name_token w ≡ true
token_of [] h w e = absurd (no e)
token_of (t ∷ tokens) h w e = at (or_cases (bytes_eq w t) (list_any (bytes_eq w) tokens) e) (λ g. token_of tokens p.1 w g)
  where
    p : (is_name_token t ≡ true) × (list_all is_name_token tokens ≡ true)
    p = and_parts (is_name_token t) (list_all is_name_token tokens) h

    at : (bytes_eq w t ≡ true) ⊎ (list_any (bytes_eq w) tokens ≡ true) → (list_any (bytes_eq w) tokens ≡ true → is_name_token w ≡ true) → is_name_token w ≡ true
    at (inl g) f = ap is_name_token (same_bytes w t g) ∙ p.0
    at (inr g) f = f g

one_as : (test other : List ℕ → Bool) → ((w : List ℕ) → test w ≡ true → other w ≡ true) → (ws : List (List ℕ)) → is_one_word test ws ≡ true → is_one_word other ws ≡ true
one_as test other f [] h = h
one_as test other f (w ∷ []) h = f w h
one_as test other f (w ∷ v ∷ ws) h = h

spells_choice : (tokens : List (List ℕ)) → list_all is_name_token tokens ≡ true → Spells (one_word (one_of_words is_name_token tokens)) (λ cs. is_one_word (is_token tokens) (words_of cs) ≡ true)
spells_choice tokens h = spells_one_word (is_token tokens) (token_tells tokens) (spells_as (spells_words is_name_token token_ascii tokens) into from)
  where
    into : (cs : List ℕ) → IsWordOf is_name_token tokens cs → is_token tokens cs ≡ true
    into cs i = and_from (is_name_token cs) (list_any (bytes_eq cs) tokens) i.passes i.among

    from : (cs : List ℕ) → is_token tokens cs ≡ true → IsWordOf is_name_token tokens cs
    from cs e = let p = and_parts (is_name_token cs) (list_any (bytes_eq cs) tokens) e in record { passes = p.0; among = p.1 }

pub spells_kind : (entities : List (List ℕ)) (k : Kind) → is_lawful_kind k ≡ true → (q : ℕ) → is_quote q ≡ true → Spells (kind_form entities k q) (IsKindOf entities k q)
spells_kind entities cdata l q h = spells_as (spells_value entities q h) (λ cs v. record { value = v; kind = refl }) (λ cs i. i.value)
spells_kind entities id l q h = spells_as (spells_one_word is_name names_tell spells_name) (λ cs e. record { value = words_value entities q h cs (one_all is_name name_all (words_of cs) e); kind = e }) (λ cs i. i.kind)
spells_kind entities idref l q h = spells_as (spells_one_word is_name names_tell spells_name) (λ cs e. record { value = words_value entities q h cs (one_all is_name name_all (words_of cs) e); kind = e }) (λ cs i. i.kind)
spells_kind entities idrefs l q h = spells_as (spells_some_words is_name names_tell spells_name) (λ cs e. record { value = words_value entities q h cs (some_all is_name name_all (words_of cs) e); kind = e }) (λ cs i. i.kind)
spells_kind entities nmtoken l q h = spells_as (spells_one_word is_name_token tokens_tell spells_token) (λ cs e. record { value = words_value entities q h cs (one_all is_name_token token_all (words_of cs) e); kind = e }) (λ cs i. i.kind)
spells_kind entities nmtokens l q h = spells_as (spells_some_words is_name_token tokens_tell spells_token) (λ cs e. record { value = words_value entities q h cs (some_all is_name_token token_all (words_of cs) e); kind = e }) (λ cs i. i.kind)
spells_kind entities (one_of tokens) l q h = spells_as (spells_choice tokens l) into from
  where
    own : (w : List ℕ) → is_token tokens w ≡ true → list_all in_name w ≡ true
    own w e = token_all w (and_parts (is_name_token w) (list_any (bytes_eq w) tokens) e).0

    among : (w : List ℕ) → is_token tokens w ≡ true → list_any (bytes_eq w) tokens ≡ true
    among w e = (and_parts (is_name_token w) (list_any (bytes_eq w) tokens) e).1

    back : (w : List ℕ) → list_any (bytes_eq w) tokens ≡ true → is_token tokens w ≡ true
    back w e = and_from (is_name_token w) (list_any (bytes_eq w) tokens) (token_of tokens l w e) e

    into : (cs : List ℕ) → is_one_word (is_token tokens) (words_of cs) ≡ true → IsKindOf entities (one_of tokens) q cs
    into cs e = record { value = words_value entities q h cs (one_all (is_token tokens) own (words_of cs) e); kind = one_as (is_token tokens) (λ w. list_any (bytes_eq w) tokens) among (words_of cs) e }

    from : (cs : List ℕ) → IsKindOf entities (one_of tokens) q cs → is_one_word (is_token tokens) (words_of cs) ≡ true
    from cs i = one_as (λ w. list_any (bytes_eq w) tokens) (is_token tokens) back (words_of cs) i.kind

-- Values by declarations.

pub record IsPresent (entities : List (List ℕ)) (k : Kind) (p : Presence) (q : ℕ) (cs : List ℕ) : Type 0 where
  pub value : IsValue entities q cs
  pub kind : has_kind k cs ≡ true
  pub fixed : has_fixed p cs ≡ true

scalars : (q : ℕ) (cs : List ℕ) → list_all (may_be_quoted q) cs ≡ true → all_scalars cs ≡ true
scalars q [] h = refl
scalars q (c ∷ cs) h =
    let p = and_parts (may_be_quoted q c) (list_all (may_be_quoted q) cs) h in
    and_from (scalar c) (all_scalars cs) (is_scalar c (first (is_character c) _ p.0)) (scalars q cs p.1)
  where
    is_scalar : (c : ℕ) → is_character c ≡ true → IsScalar c
    is_scalar c h = grind arith

    first : (a b : Bool) → (a && b) ≡ true → a ≡ true
    first a b h = (and_parts a b h).0

when_made : (t : Bool) {e : Expr} {w : List ℕ} → t ≡ true → Matches e w → Matches (when t e) w
when_made true h d = d
when_made false h d = cc

spells_fixed : (entities : List (List ℕ)) (k : Kind) (q : ℕ) (wanted : List ℕ) → Spells (when (is_fixed_value entities k q wanted) (word wanted)) (IsPresent entities k (fixed wanted) q)
spells_fixed entities k q wanted = record { shown = λ w d. shown_at w (when_shown (is_fixed_value entities k q wanted) d); made = λ cs p. made_at cs p }
  where
    parts : (cs : List ℕ) → (bytes_eq (encode_utf8_all cs) wanted && (is_value entities q cs && has_kind k cs)) ≡ true → (bytes_eq (encode_utf8_all cs) wanted ≡ true) × (is_value entities q cs ≡ true) × (has_kind k cs ≡ true)
    parts cs h =
        let p = and_parts (bytes_eq (encode_utf8_all cs) wanted) (is_value entities q cs && has_kind k cs) h in
        let r = and_parts (is_value entities q cs) (has_kind k cs) p.1 in
        (p.0, r.0, r.1)

    shown_at : (w : List ℕ) → (is_fixed_value entities k q wanted ≡ true) × Matches (word wanted) w → Spelled (IsPresent entities k (fixed wanted) q) w
    shown_at w d =
        let p = parts (chars wanted) d.0 in
        let e = same_bytes (encode_utf8_all (chars wanted)) wanted p.0 in
        record {
          characters = chars wanted;
          are = record { value = is_value_of entities q (chars wanted) p.1; kind = p.2; fixed = equal_bytes wanted (encode_utf8_all (chars wanted)) (sym e) };
          is = e ∙ sym (word_shown wanted d.1);
        }

    made_at : (cs : List ℕ) → IsPresent entities k (fixed wanted) q cs → Matches (when (is_fixed_value entities k q wanted) (word wanted)) (encode_utf8_all cs)
    made_at cs p =
        let e = same_bytes wanted (encode_utf8_all cs) p.fixed in
        let back : cs ≡ chars wanted = sym (ap chars e ∙ chars-encodes cs (scalars q cs p.value.quoted)) in
        let holds : (bytes_eq (encode_utf8_all cs) wanted && (is_value entities q cs && has_kind k cs)) ≡ true =
        and_from (bytes_eq (encode_utf8_all cs) wanted) (is_value entities q cs && has_kind k cs) (equal_bytes (encode_utf8_all cs) wanted (sym e))
        (and_from (is_value entities q cs) (has_kind k cs) (value_is entities q cs p.value) p.kind) in
        subst (λ (z : List ℕ). Matches (when (is_fixed_value entities k q wanted) (word wanted)) z) e
        (when_made (is_fixed_value entities k q wanted)
        (subst (λ (z : List ℕ). (bytes_eq (encode_utf8_all z) wanted && (is_value entities q z && has_kind k z)) ≡ true) back holds) (word_made wanted))

spells_presence : (entities : List (List ℕ)) (k : Kind) → is_lawful_kind k ≡ true → (p : Presence) (q : ℕ) → is_quote q ≡ true → Spells (presence_form entities k p q) (IsPresent entities k p q)
spells_presence entities k l implied q h = spells_as (spells_kind entities k l q h) (λ cs i. record { value = i.value; kind = i.kind; fixed = refl }) (λ cs i. record { value = i.value; kind = i.kind })
spells_presence entities k l required q h = spells_as (spells_kind entities k l q h) (λ cs i. record { value = i.value; kind = i.kind; fixed = refl }) (λ cs i. record { value = i.value; kind = i.kind })
spells_presence entities k l with_default q h = spells_as (spells_kind entities k l q h) (λ cs i. record { value = i.value; kind = i.kind; fixed = refl }) (λ cs i. record { value = i.value; kind = i.kind })
spells_presence entities k l (fixed wanted) q h = spells_fixed entities k q wanted

pub spells_declared : (entities : List (List ℕ)) (d : Declared) → is_lawful_kind d.kind ≡ true → (q : ℕ) → is_quote q ≡ true → Spells (value_form entities d q) (IsPresent entities d.kind d.presence q)
unfolding value_form
spells_declared entities d l q h = spells_presence entities d.kind l d.presence q h
