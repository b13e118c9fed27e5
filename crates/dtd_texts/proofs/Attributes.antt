-- The attributes that declarations say are lawful.
use Rattle.std.proofs.Common.{◌≡◌, ◌∙◌, ℕ, zero, suc, ◌+◌, Bool, true, false, ◌&&◌, ◌||◌, ◌==◌, if◌then◌else◌, List, [], ◌∷◌, ◌++◌, take, Option, Some, None, codes, refl, add-one}
use Rattle.std.specs.Prelude.{pred}
use Rattle.std.specs.List.{list_all, prefix_len}
use Rattle.std.proofs.Math.Nat.{add_comm}
use Rattle.std.proofs.lemmas.List.Folds.{list_all-append}
use Rattle.xml_text.specs.Characters.{is_blank}
use Rattle.xml_text.specs.Names.{is_name, is_name_token, in_name}
use Rattle.dtd_model.specs.Table.{Kind, Presence, implied, required, with_default, fixed, Declared}
use Rattle.dtd_model.specs.Lawful.{is_lawful_kind}
use Rattle.dtd_texts.specs.Heads.{same, is_attribute_value, is_quote}
use Rattle.dtd_texts.specs.Tokens.{Token, gap, word, literal, opening, closing, bar, comma, question, star, plus, hash, percent, equals, other, tokens, tokens_behind, token_at, token_length, sign_of, first_word, next_word}
use Rattle.dtd_texts.specs.Went.{leads, refused, left_out, all_steps}
use Rattle.dtd_texts.specs.AttributeLists as spec
use Rattle.dtd_texts.specs.AttributeLists.{Stage, between, at_name, behind_name, at_kind, at_token, behind_token, behind_kind, at_default, at_word, behind_fixed, at_fixed}
use Rattle.dtd_texts.specs.Lawful.{are_lawful}
use Rattle.dtd_texts.proofs.Holdings.{WentTo, went_on, went_if, AreAll, steps_keep, both}

-- The words of a text are name tokens.

abbrev pub IsToken : Token → Type 0
IsToken gap = Unit {0}
IsToken (word w) = is_name_token w ≡ true
IsToken (literal v) = Unit {0}
IsToken opening = Unit {0}
IsToken closing = Unit {0}
IsToken bar = Unit {0}
IsToken comma = Unit {0}
IsToken question = Unit {0}
IsToken star = Unit {0}
IsToken plus = Unit {0}
IsToken hash = Unit {0}
IsToken percent = Unit {0}
IsToken equals = Unit {0}
IsToken other = Unit {0}

token_if : (b : Bool) (x y : Token) → IsToken x → IsToken y → IsToken (if b then x else y)
token_if true x y h k = h
token_if false x y h k = k

-- a byte more
front_more : {X : Type 0} (x : X) (xs : List X) (n : ℕ) → take (1 + n) (x ∷ xs) ≡ x ∷ take n xs
front_more x xs n = rw (add_comm 1 n) (rw add-one refl)

run_passes : (p : ℕ → Bool) (xs : List ℕ) → list_all p (take (prefix_len p xs) xs) ≡ true
run_passes p [] = refl
run_passes p (x ∷ xs) = decide (p x) refl (run_passes p xs)
  where
    decide : (v : Bool) → p x ≡ v → list_all p (take (prefix_len p xs) xs) ≡ true → list_all p (take (prefix_len p (x ∷ xs)) (x ∷ xs)) ≡ true
    decide true e more = rw e (rw (front_more x xs (prefix_len p xs)) (rw e more))
    decide false e more = rw e refl

word_is : (b : ℕ) (bytes : List ℕ) → in_name b ≡ true → is_name_token (take (prefix_len in_name (b ∷ bytes)) (b ∷ bytes)) ≡ true
word_is b bytes e = rw e (rw (front_more b bytes (prefix_len in_name bytes)) (both e (run_passes in_name bytes)))

sign_is : (b : ℕ) → IsToken (sign_of b)
sign_is b =
    token_if (b == 40) _ _ tt (token_if (b == 41) _ _ tt (token_if (b == 124) _ _ tt (token_if (b == 44) _ _ tt
    (token_if (b == 63) _ _ tt (token_if (b == 42) _ _ tt (token_if (b == 43) _ _ tt
    (token_if (b == 35) _ _ tt (token_if (b == 37) _ _ tt (token_if (b == 61) equals other tt tt)))))))))

word_if : (b : ℕ) (bytes : List ℕ) (x : Bool) (y : Token) → in_name b ≡ x → IsToken y → IsToken (if x then word (take (prefix_len in_name (b ∷ bytes)) (b ∷ bytes)) else y)
word_if b bytes true y e h = word_is b bytes e
word_if b bytes false y e h = h

token_is : (b : ℕ) (bytes : List ℕ) → IsToken (token_at b bytes)
unfolding token_at
token_is b bytes = token_if (is_blank b) gap _ tt (word_if b bytes (in_name b) _ refl (token_if (is_quote b) _ (sign_of b) tt (sign_is b)))

tokens_are : (passed : ℕ) (bytes : List ℕ) → AreAll IsToken (tokens_behind passed bytes)
unfolding tokens_behind
tokens_are passed [] = tt
tokens_are zero (b ∷ bytes) = (token_is b bytes, tokens_are (pred (token_length b bytes)) bytes)
tokens_are (suc passed) (b ∷ bytes) = tokens_are passed bytes

pub text_tokens : (text : List ℕ) → AreAll IsToken (tokens text)
text_tokens text = tokens_are 0 text

-- what stands at the head, and tokens behind it
abbrev pub RestIs : Option (List ℕ × List Token) → Type 0
RestIs None = Unit {0}
RestIs (Some found) = AreAll IsToken found.1

pub first_rest : (ts : List Token) → AreAll IsToken ts → RestIs (first_word ts)
first_rest [] h = tt
first_rest (gap ∷ ts) h = tt
first_rest ((word w) ∷ ts) h = h.1
first_rest ((literal v) ∷ ts) h = tt
first_rest (opening ∷ ts) h = tt
first_rest (closing ∷ ts) h = tt
first_rest (bar ∷ ts) h = tt
first_rest (comma ∷ ts) h = tt
first_rest (question ∷ ts) h = tt
first_rest (star ∷ ts) h = tt
first_rest (plus ∷ ts) h = tt
first_rest (hash ∷ ts) h = tt
first_rest (percent ∷ ts) h = tt
first_rest (equals ∷ ts) h = tt
first_rest (other ∷ ts) h = tt

pub next_rest : (ts : List Token) → AreAll IsToken ts → RestIs (next_word ts)
next_rest [] h = tt
next_rest (gap ∷ ts) h = first_rest ts h.1
next_rest ((word w) ∷ ts) h = tt
next_rest ((literal v) ∷ ts) h = tt
next_rest (opening ∷ ts) h = tt
next_rest (closing ∷ ts) h = tt
next_rest (bar ∷ ts) h = tt
next_rest (comma ∷ ts) h = tt
next_rest (question ∷ ts) h = tt
next_rest (star ∷ ts) h = tt
next_rest (plus ∷ ts) h = tt
next_rest (hash ∷ ts) h = tt
next_rest (percent ∷ ts) h = tt
next_rest (equals ∷ ts) h = tt
next_rest (other ∷ ts) h = tt

-- What the stages keep.

abbrev StageIs : Stage → Type 0
StageIs (between ds) = are_lawful ds
StageIs (at_name ds) = are_lawful ds
StageIs (behind_name ds n) = are_lawful ds × (is_name n ≡ true)
StageIs (at_kind ds n) = are_lawful ds × (is_name n ≡ true)
StageIs (at_token ds n tokens) = are_lawful ds × (is_name n ≡ true) × (list_all is_name_token tokens ≡ true)
StageIs (behind_token ds n tokens) = are_lawful ds × (is_name n ≡ true) × (list_all is_name_token tokens ≡ true)
StageIs (behind_kind ds n kind) = are_lawful ds × (is_name n ≡ true) × (is_lawful_kind kind ≡ true)
StageIs (at_default ds n kind) = are_lawful ds × (is_name n ≡ true) × (is_lawful_kind kind ≡ true)
StageIs (at_word ds n kind) = are_lawful ds × (is_name n ≡ true) × (is_lawful_kind kind ≡ true)
StageIs (behind_fixed ds n kind) = are_lawful ds × (is_name n ≡ true) × (is_lawful_kind kind ≡ true)
StageIs (at_fixed ds n kind) = are_lawful ds × (is_name n ≡ true) × (is_lawful_kind kind ≡ true)

more_is : (ds : List Declared) (n : List ℕ) (kind : Kind) (presence : Presence) → are_lawful ds × (is_name n ≡ true) × (is_lawful_kind kind ≡ true) → StageIs (spec.with_attribute ds n kind presence)
more_is ds n kind presence h =
    list_all-append (λ (d : Declared). is_name d.name && is_lawful_kind d.kind) ds (record { name = n; kind = kind; presence = presence } ∷ []) ∙ both h.0 (both (both h.1 h.2) refl)

tokens_more : (tokens : List (List ℕ)) (w : List ℕ) → list_all is_name_token tokens ≡ true → is_name_token w ≡ true → list_all is_name_token (tokens ++ w ∷ []) ≡ true
tokens_more tokens w h e = list_all-append is_name_token tokens (w ∷ []) ∙ both h (both e refl)

kind_is : (w : List ℕ) → WentTo (λ kind. is_lawful_kind kind ≡ true) (spec.kind_named w)
unfolding spec.kind_named
kind_is w =
    went_if _ (same w (codes "CDATA")) _ _ (record { is = refl }) (went_if _ (same w (codes "ID")) _ _ (record { is = refl }) (went_if _ (same w (codes "IDREF")) _ _ (record { is = refl })
    (went_if _ (same w (codes "IDREFS")) _ _ (record { is = refl }) (went_if _ (same w (codes "NMTOKEN")) _ _ (record { is = refl }) (went_if _ (same w (codes "NMTOKENS")) _ _ (record { is = refl })
    (went_if _ (same w (codes "ENTITY") || same w (codes "ENTITIES") || same w (codes "NOTATION")) left_out refused (record { is = tt }) (record { is = tt })))))))

between_keeps : (ds : List Declared) (t : Token) → are_lawful ds → WentTo StageIs (spec.between_step ds t)
between_keeps ds gap h = record { is = h }
between_keeps ds (word w) h = record { is = tt }
between_keeps ds (literal v) h = record { is = tt }
between_keeps ds opening h = record { is = tt }
between_keeps ds closing h = record { is = tt }
between_keeps ds bar h = record { is = tt }
between_keeps ds comma h = record { is = tt }
between_keeps ds question h = record { is = tt }
between_keeps ds star h = record { is = tt }
between_keeps ds plus h = record { is = tt }
between_keeps ds hash h = record { is = tt }
between_keeps ds percent h = record { is = tt }
between_keeps ds equals h = record { is = tt }
between_keeps ds other h = record { is = tt }

named_if : (ds : List Declared) (w : List ℕ) (x : Bool) → is_name w ≡ x → are_lawful ds → WentTo StageIs (if x then leads (behind_name ds w) else refused)
named_if ds w true e h = record { is = (h, e) }
named_if ds w false e h = record { is = tt }

name_keeps : (ds : List Declared) (t : Token) → are_lawful ds → WentTo StageIs (spec.name_step ds t)
name_keeps ds gap h = record { is = tt }
name_keeps ds (word w) h = named_if ds w (is_name w) refl h
name_keeps ds (literal v) h = record { is = tt }
name_keeps ds opening h = record { is = tt }
name_keeps ds closing h = record { is = tt }
name_keeps ds bar h = record { is = tt }
name_keeps ds comma h = record { is = tt }
name_keeps ds question h = record { is = tt }
name_keeps ds star h = record { is = tt }
name_keeps ds plus h = record { is = tt }
name_keeps ds hash h = record { is = tt }
name_keeps ds percent h = record { is = tt }
name_keeps ds equals h = record { is = tt }
name_keeps ds other h = record { is = tt }

behind_name_keeps : (ds : List Declared) (n : List ℕ) (t : Token) → are_lawful ds × (is_name n ≡ true) → WentTo StageIs (spec.behind_name_step ds n t)
behind_name_keeps ds n gap h = record { is = h }
behind_name_keeps ds n (word w) h = record { is = tt }
behind_name_keeps ds n (literal v) h = record { is = tt }
behind_name_keeps ds n opening h = record { is = tt }
behind_name_keeps ds n closing h = record { is = tt }
behind_name_keeps ds n bar h = record { is = tt }
behind_name_keeps ds n comma h = record { is = tt }
behind_name_keeps ds n question h = record { is = tt }
behind_name_keeps ds n star h = record { is = tt }
behind_name_keeps ds n plus h = record { is = tt }
behind_name_keeps ds n hash h = record { is = tt }
behind_name_keeps ds n percent h = record { is = tt }
behind_name_keeps ds n equals h = record { is = tt }
behind_name_keeps ds n other h = record { is = tt }

kind_keeps : (ds : List Declared) (n : List ℕ) (t : Token) → are_lawful ds × (is_name n ≡ true) → WentTo StageIs (spec.kind_step ds n t)
kind_keeps ds n gap h = record { is = tt }
kind_keeps ds n (word w) h = went_on _ StageIs (spec.kind_named w) _ (kind_is w) (λ kind e. record { is = (h.0, h.1, e) })
kind_keeps ds n (literal v) h = record { is = tt }
kind_keeps ds n opening h = record { is = (h.0, h.1, refl) }
kind_keeps ds n closing h = record { is = tt }
kind_keeps ds n bar h = record { is = tt }
kind_keeps ds n comma h = record { is = tt }
kind_keeps ds n question h = record { is = tt }
kind_keeps ds n star h = record { is = tt }
kind_keeps ds n plus h = record { is = tt }
kind_keeps ds n hash h = record { is = tt }
kind_keeps ds n percent h = record { is = tt }
kind_keeps ds n equals h = record { is = tt }
kind_keeps ds n other h = record { is = tt }

token_keeps : (ds : List Declared) (n : List ℕ) (tokens : List (List ℕ)) (t : Token) → are_lawful ds × (is_name n ≡ true) × (list_all is_name_token tokens ≡ true) → IsToken t → WentTo StageIs (spec.token_step ds n tokens t)
token_keeps ds n tokens gap h is = record { is = h }
token_keeps ds n tokens (word w) h is = record { is = (h.0, h.1, tokens_more tokens w h.2 is) }
token_keeps ds n tokens (literal v) h is = record { is = tt }
token_keeps ds n tokens opening h is = record { is = tt }
token_keeps ds n tokens closing h is = record { is = tt }
token_keeps ds n tokens bar h is = record { is = tt }
token_keeps ds n tokens comma h is = record { is = tt }
token_keeps ds n tokens question h is = record { is = tt }
token_keeps ds n tokens star h is = record { is = tt }
token_keeps ds n tokens plus h is = record { is = tt }
token_keeps ds n tokens hash h is = record { is = tt }
token_keeps ds n tokens percent h is = record { is = tt }
token_keeps ds n tokens equals h is = record { is = tt }
token_keeps ds n tokens other h is = record { is = tt }

behind_token_keeps : (ds : List Declared) (n : List ℕ) (tokens : List (List ℕ)) (t : Token) → are_lawful ds × (is_name n ≡ true) × (list_all is_name_token tokens ≡ true) → WentTo StageIs (spec.behind_token_step ds n tokens t)
behind_token_keeps ds n tokens gap h = record { is = h }
behind_token_keeps ds n tokens (word w) h = record { is = tt }
behind_token_keeps ds n tokens (literal v) h = record { is = tt }
behind_token_keeps ds n tokens opening h = record { is = tt }
behind_token_keeps ds n tokens closing h = record { is = h }
behind_token_keeps ds n tokens bar h = record { is = h }
behind_token_keeps ds n tokens comma h = record { is = tt }
behind_token_keeps ds n tokens question h = record { is = tt }
behind_token_keeps ds n tokens star h = record { is = tt }
behind_token_keeps ds n tokens plus h = record { is = tt }
behind_token_keeps ds n tokens hash h = record { is = tt }
behind_token_keeps ds n tokens percent h = record { is = tt }
behind_token_keeps ds n tokens equals h = record { is = tt }
behind_token_keeps ds n tokens other h = record { is = tt }

behind_kind_keeps : (ds : List Declared) (n : List ℕ) (kind : Kind) (t : Token) → are_lawful ds × (is_name n ≡ true) × (is_lawful_kind kind ≡ true) → WentTo StageIs (spec.behind_kind_step ds n kind t)
behind_kind_keeps ds n kind gap h = record { is = h }
behind_kind_keeps ds n kind (word w) h = record { is = tt }
behind_kind_keeps ds n kind (literal v) h = record { is = tt }
behind_kind_keeps ds n kind opening h = record { is = tt }
behind_kind_keeps ds n kind closing h = record { is = tt }
behind_kind_keeps ds n kind bar h = record { is = tt }
behind_kind_keeps ds n kind comma h = record { is = tt }
behind_kind_keeps ds n kind question h = record { is = tt }
behind_kind_keeps ds n kind star h = record { is = tt }
behind_kind_keeps ds n kind plus h = record { is = tt }
behind_kind_keeps ds n kind hash h = record { is = tt }
behind_kind_keeps ds n kind percent h = record { is = tt }
behind_kind_keeps ds n kind equals h = record { is = tt }
behind_kind_keeps ds n kind other h = record { is = tt }

default_keeps : (ds : List Declared) (n : List ℕ) (kind : Kind) (t : Token) → are_lawful ds × (is_name n ≡ true) × (is_lawful_kind kind ≡ true) → WentTo StageIs (spec.default_step ds n kind t)
default_keeps ds n kind gap h = record { is = tt }
default_keeps ds n kind (word w) h = record { is = tt }
default_keeps ds n kind (literal v) h = went_if _ (is_attribute_value v) _ refused (record { is = more_is ds n kind with_default h }) (record { is = tt })
default_keeps ds n kind opening h = record { is = tt }
default_keeps ds n kind closing h = record { is = tt }
default_keeps ds n kind bar h = record { is = tt }
default_keeps ds n kind comma h = record { is = tt }
default_keeps ds n kind question h = record { is = tt }
default_keeps ds n kind star h = record { is = tt }
default_keeps ds n kind plus h = record { is = tt }
default_keeps ds n kind hash h = record { is = h }
default_keeps ds n kind percent h = record { is = tt }
default_keeps ds n kind equals h = record { is = tt }
default_keeps ds n kind other h = record { is = tt }

word_keeps : (ds : List Declared) (n : List ℕ) (kind : Kind) (t : Token) → are_lawful ds × (is_name n ≡ true) × (is_lawful_kind kind ≡ true) → WentTo StageIs (spec.word_step ds n kind t)
word_keeps ds n kind gap h = record { is = tt }
word_keeps ds n kind (word w) h = went_if _ (same w (codes "REQUIRED")) _ _ (record { is = more_is ds n kind required h }) (went_if _ (same w (codes "IMPLIED")) _ _ (record { is = more_is ds n kind implied h }) (went_if _ (same w (codes "FIXED")) _ refused (record { is = h }) (record { is = tt })))
word_keeps ds n kind (literal v) h = record { is = tt }
word_keeps ds n kind opening h = record { is = tt }
word_keeps ds n kind closing h = record { is = tt }
word_keeps ds n kind bar h = record { is = tt }
word_keeps ds n kind comma h = record { is = tt }
word_keeps ds n kind question h = record { is = tt }
word_keeps ds n kind star h = record { is = tt }
word_keeps ds n kind plus h = record { is = tt }
word_keeps ds n kind hash h = record { is = tt }
word_keeps ds n kind percent h = record { is = tt }
word_keeps ds n kind equals h = record { is = tt }
word_keeps ds n kind other h = record { is = tt }

behind_fixed_keeps : (ds : List Declared) (n : List ℕ) (kind : Kind) (t : Token) → are_lawful ds × (is_name n ≡ true) × (is_lawful_kind kind ≡ true) → WentTo StageIs (spec.behind_fixed_step ds n kind t)
behind_fixed_keeps ds n kind gap h = record { is = h }
behind_fixed_keeps ds n kind (word w) h = record { is = tt }
behind_fixed_keeps ds n kind (literal v) h = record { is = tt }
behind_fixed_keeps ds n kind opening h = record { is = tt }
behind_fixed_keeps ds n kind closing h = record { is = tt }
behind_fixed_keeps ds n kind bar h = record { is = tt }
behind_fixed_keeps ds n kind comma h = record { is = tt }
behind_fixed_keeps ds n kind question h = record { is = tt }
behind_fixed_keeps ds n kind star h = record { is = tt }
behind_fixed_keeps ds n kind plus h = record { is = tt }
behind_fixed_keeps ds n kind hash h = record { is = tt }
behind_fixed_keeps ds n kind percent h = record { is = tt }
behind_fixed_keeps ds n kind equals h = record { is = tt }
behind_fixed_keeps ds n kind other h = record { is = tt }

fixed_keeps : (ds : List Declared) (n : List ℕ) (kind : Kind) (t : Token) → are_lawful ds × (is_name n ≡ true) × (is_lawful_kind kind ≡ true) → WentTo StageIs (spec.fixed_step ds n kind t)
fixed_keeps ds n kind gap h = record { is = tt }
fixed_keeps ds n kind (word w) h = record { is = tt }
fixed_keeps ds n kind (literal v) h = went_if _ (is_attribute_value v) _ refused (record { is = more_is ds n kind (fixed v) h }) (record { is = tt })
fixed_keeps ds n kind opening h = record { is = tt }
fixed_keeps ds n kind closing h = record { is = tt }
fixed_keeps ds n kind bar h = record { is = tt }
fixed_keeps ds n kind comma h = record { is = tt }
fixed_keeps ds n kind question h = record { is = tt }
fixed_keeps ds n kind star h = record { is = tt }
fixed_keeps ds n kind plus h = record { is = tt }
fixed_keeps ds n kind hash h = record { is = tt }
fixed_keeps ds n kind percent h = record { is = tt }
fixed_keeps ds n kind equals h = record { is = tt }
fixed_keeps ds n kind other h = record { is = tt }

stage_keeps : (stage : Stage) (t : Token) → StageIs stage → IsToken t → WentTo StageIs (spec.stage_step stage t)
stage_keeps (between ds) t h is = between_keeps ds t h
stage_keeps (at_name ds) t h is = name_keeps ds t h
stage_keeps (behind_name ds n) t h is = behind_name_keeps ds n t h
stage_keeps (at_kind ds n) t h is = kind_keeps ds n t h
stage_keeps (at_token ds n tokens) t h is = token_keeps ds n tokens t h is
stage_keeps (behind_token ds n tokens) t h is = behind_token_keeps ds n tokens t h
stage_keeps (behind_kind ds n kind) t h is = behind_kind_keeps ds n kind t h
stage_keeps (at_default ds n kind) t h is = default_keeps ds n kind t h
stage_keeps (at_word ds n kind) t h is = word_keeps ds n kind t h
stage_keeps (behind_fixed ds n kind) t h is = behind_fixed_keeps ds n kind t h
stage_keeps (at_fixed ds n kind) t h is = fixed_keeps ds n kind t h

stage_ends : (stage : Stage) → StageIs stage → WentTo are_lawful (spec.stage_end stage)
stage_ends (between ds) h = record { is = h }
stage_ends (at_name ds) h = record { is = h }
stage_ends (behind_name ds n) h = record { is = tt }
stage_ends (at_kind ds n) h = record { is = tt }
stage_ends (at_token ds n tokens) h = record { is = tt }
stage_ends (behind_token ds n tokens) h = record { is = tt }
stage_ends (behind_kind ds n kind) h = record { is = tt }
stage_ends (at_default ds n kind) h = record { is = tt }
stage_ends (at_word ds n kind) h = record { is = tt }
stage_ends (behind_fixed ds n kind) h = record { is = tt }
stage_ends (at_fixed ds n kind) h = record { is = tt }

pub attributes_lawful : (ts : List Token) → AreAll IsToken ts → WentTo are_lawful (spec.attributes_of ts)
attributes_lawful ts all = went_on StageIs are_lawful (all_steps spec.stage_step (between []) ts) spec.stage_end (steps_keep StageIs IsToken spec.stage_step stage_keeps (between []) ts refl all) stage_ends
