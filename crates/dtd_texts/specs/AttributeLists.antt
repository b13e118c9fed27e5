-- What stands behind the name in an attribute list declaration (XML 1.0, 3.3). One stage a place, and one function a
-- stage: what a token leads to.
use Rattle.std.specs.Prelude.{ℕ, ◌||◌, if◌then◌else◌, List, [], ◌∷◌, ◌++◌, codes}
use Rattle.xml_text.specs.Names.{is_name}
use Rattle.dtd_model.specs.Table.{Kind, cdata, id, idref, idrefs, nmtoken, nmtokens, one_of, Presence, implied, required, with_default, fixed, Declared}
use Rattle.dtd_texts.specs.Heads.{same, is_attribute_value}
use Rattle.dtd_texts.specs.Tokens.{Token, is_gap, gap, word, literal, opening, closing, bar, hash}
use Rattle.dtd_texts.specs.Went.{Went, leads, refused, left_out, all_steps, then_go}

-- a place behind the name, with the attributes that are whole, in order, and what is known of the one that is being read
pub data Stage : Type 0 where
  -- behind the name of the element or a whole attribute, and behind white space there
  between : List Declared → Stage
  at_name : List Declared → Stage
  -- behind the name of an attribute, and behind white space there
  behind_name : List Declared → List ℕ → Stage
  at_kind : List Declared → List ℕ → Stage
  -- in an enumeration: where a token is due, and behind one
  at_token : List Declared → List ℕ → List (List ℕ) → Stage
  behind_token : List Declared → List ℕ → List (List ℕ) → Stage
  -- behind the type, behind white space there, and behind `#` there
  behind_kind : List Declared → List ℕ → Kind → Stage
  at_default : List Declared → List ℕ → Kind → Stage
  at_word : List Declared → List ℕ → Kind → Stage
  -- behind `#FIXED`, and behind white space there
  behind_fixed : List Declared → List ℕ → Kind → Stage
  at_fixed : List Declared → List ℕ → Kind → Stage

-- with one attribute more
abbrev pub with_attribute : List Declared → List ℕ → Kind → Presence → Stage
with_attribute ds name kind presence = between (ds ++ record { name = name; kind = kind; presence = presence } ∷ [])

-- the types of one word (3.3.1); those of entities and notations are left out
unfoldable pub kind_named : List ℕ → Went Kind
kind_named w =
    if same w (codes "CDATA") then leads cdata
    else if same w (codes "ID") then leads id
    else if same w (codes "IDREF") then leads idref
    else if same w (codes "IDREFS") then leads idrefs
    else if same w (codes "NMTOKEN") then leads nmtoken
    else if same w (codes "NMTOKENS") then leads nmtokens
    else if same w (codes "ENTITY") || same w (codes "ENTITIES") || same w (codes "NOTATION") then left_out
    else refused

-- white space has to come before an attribute's name (3.3, AttDef)
abbrev pub between_step : List Declared → Token → Went Stage
between_step ds t = if is_gap t then leads (at_name ds) else refused

-- more white space cannot stand here: the token is the attribute's name
abbrev pub name_step : List Declared → Token → Went Stage
name_step ds (word w) = if is_name w then leads (behind_name ds w) else refused
name_step ds _ = refused

-- white space has to come between the name and the type
abbrev pub behind_name_step : List Declared → List ℕ → Token → Went Stage
behind_name_step ds n t = if is_gap t then leads (at_kind ds n) else refused

-- the type: one of those that are a word, or `(`, which opens an enumeration (3.3.1, AttType)
abbrev pub kind_step : List Declared → List ℕ → Token → Went Stage
kind_step ds n (word w) = then_go (kind_named w) (λ kind. leads (behind_kind ds n kind))
kind_step ds n opening = leads (at_token ds n [])
kind_step ds n _ = refused

-- in an enumeration, behind `(` or a bar: white space, or one more name token (3.3.1, Enumeration)
abbrev pub token_step : List Declared → List ℕ → List (List ℕ) → Token → Went Stage
token_step ds n tokens gap = leads (at_token ds n tokens)
token_step ds n tokens (word w) = leads (behind_token ds n (tokens ++ w ∷ []))
token_step ds n tokens _ = refused

-- in an enumeration, behind a name token: white space, a bar, or `)`, which ends it
abbrev pub behind_token_step : List Declared → List ℕ → List (List ℕ) → Token → Went Stage
behind_token_step ds n tokens gap = leads (behind_token ds n tokens)
behind_token_step ds n tokens bar = leads (at_token ds n tokens)
behind_token_step ds n tokens closing = leads (behind_kind ds n (one_of tokens))
behind_token_step ds n tokens _ = refused

-- white space has to come between the type and the default
abbrev pub behind_kind_step : List Declared → List ℕ → Kind → Token → Went Stage
behind_kind_step ds n kind t = if is_gap t then leads (at_default ds n kind) else refused

-- the default: `#`, or the value itself (3.3.2, DefaultDecl)
abbrev pub default_step : List Declared → List ℕ → Kind → Token → Went Stage
default_step ds n kind hash = leads (at_word ds n kind)
default_step ds n kind (literal value) = if is_attribute_value value then leads (with_attribute ds n kind with_default) else refused
default_step ds n kind _ = refused

-- behind `#`: `REQUIRED`, `IMPLIED`, or `FIXED`, which wants a value
abbrev pub word_step : List Declared → List ℕ → Kind → Token → Went Stage
word_step ds n kind (word w) =
    if same w (codes "REQUIRED") then leads (with_attribute ds n kind required)
    else if same w (codes "IMPLIED") then leads (with_attribute ds n kind implied)
    else if same w (codes "FIXED") then leads (behind_fixed ds n kind) else refused
word_step ds n kind _ = refused

-- white space has to come between `#FIXED` and the value
abbrev pub behind_fixed_step : List Declared → List ℕ → Kind → Token → Went Stage
behind_fixed_step ds n kind t = if is_gap t then leads (at_fixed ds n kind) else refused

-- the value behind `#FIXED`, which ends the attribute
abbrev pub fixed_step : List Declared → List ℕ → Kind → Token → Went Stage
fixed_step ds n kind (literal value) = if is_attribute_value value then leads (with_attribute ds n kind (fixed value)) else refused
fixed_step ds n kind _ = refused

-- the step of each place
abbrev pub stage_step : Stage → Token → Went Stage
stage_step (between ds) t = between_step ds t
stage_step (at_name ds) t = name_step ds t
stage_step (behind_name ds n) t = behind_name_step ds n t
stage_step (at_kind ds n) t = kind_step ds n t
stage_step (at_token ds n tokens) t = token_step ds n tokens t
stage_step (behind_token ds n tokens) t = behind_token_step ds n tokens t
stage_step (behind_kind ds n kind) t = behind_kind_step ds n kind t
stage_step (at_default ds n kind) t = default_step ds n kind t
stage_step (at_word ds n kind) t = word_step ds n kind t
stage_step (behind_fixed ds n kind) t = behind_fixed_step ds n kind t
stage_step (at_fixed ds n kind) t = fixed_step ds n kind t

-- the tokens may end behind the element's name or a whole attribute, or behind white space there
abbrev pub stage_end : Stage → Went (List Declared)
stage_end (between ds) = leads ds
stage_end (at_name ds) = leads ds
stage_end _ = refused

-- the attributes that the tokens behind the name say
abbrev pub attributes_of : List Token → Went (List Declared)
attributes_of ts = then_go (all_steps stage_step (between []) ts) stage_end
