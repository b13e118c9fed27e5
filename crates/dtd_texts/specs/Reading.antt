-- How a document type definition text is read with its parameter entities replaced.
use Rattle.std.specs.Prelude.{◌≡◌, ℕ, zero, suc, ◌+◌, Bool, false, if◌then◌else◌, List, [], ◌∷◌, ◌++◌, drop, length, Option, Some, None, bytes_eq}
use Rattle.std.specs.Option.{is_some}
use Rattle.std.specs.List.{list_any}
use Rattle.io_edge.specs.Names.{beside}
use Rattle.io_edge.specs.Told.{Content, known, Tells}
use Rattle.dtd_texts.specs.Heads.{same}
use Rattle.dtd_texts.specs.Tokens.{behind_declaration}
use Rattle.dtd_texts.specs.Places.{Place, between, in_comment, behind_target, in_instruction, inside, in_literal, in_value, behind_value, Source, internal, external, Step, goes, declares_parameter, declares_general, declares, leaves_out, refers, refuses, step}

-- a parameter entity that is declared
pub record Parameter : Type 0 where
  pub name : List ℕ
  pub source : Source

-- a declaration of an element, of attributes or of a notation: its text, from `<!` to `>`, with all references replaced, and
-- how many bytes of the replaced text stand before it
pub record Written : Type 0 where
  pub text : List ℕ
  pub at : ℕ

-- What is known behind some of the text: the place, which parameter entities and general entities are declared, the other
-- declarations, how many bytes the replaced text has, how many it had where the reading last stood between declarations,
-- how many references were replaced, how many bytes of byte order marks and text declarations of entities were passed over,
-- and in which file the text stands: by its name as the file of the definition means it, which is empty for that file itself.
pub record State : Type 0 where
  pub place : Place
  pub parameters : List Parameter
  pub generals : List (List ℕ)
  pub written : List Written
  pub length : ℕ
  pub begun : ℕ
  pub references : ℕ
  pub passed : ℕ
  pub file : List ℕ

-- before the first byte: between declarations, with nothing declared and no byte counted
abbrev pub start : State
start = record { place = between; parameters = []; generals = []; written = []; length = 0; begun = 0; references = 0; passed = 0; file = [] }

-- what the parameter entity of this name stands for, if one is declared
abbrev pub source_of : List Parameter → List ℕ → Option Source
source_of [] name = None
source_of (p ∷ ps) name = if same name p.name then Some p.source else source_of ps name

-- What a declaration declares in this file, which is the one in which it ends: a system literal is taken from the folder of
-- the file (4.2.2; there of the file in which the declaration begins, which is the same where it ends in the file).
abbrev pub source_in : List ℕ → Source → Source
source_in file (internal value) = internal value
source_in file (external name) = external (beside file name)

-- the first declaration of a name counts (XML 1.0, 4.2)
abbrev pub with_parameter : List Parameter → List ℕ → Source → List Parameter
with_parameter ps name source = if is_some (source_of ps name) then ps else ps ++ record { name = name; source = source } ∷ []

-- the name is one of these, byte by byte
abbrev pub is_among : List (List ℕ) → List ℕ → Bool
is_among names name = list_any (bytes_eq name) names

-- the names with this one behind them, unless it is one of them
abbrev pub with_name : List (List ℕ) → List ℕ → List (List ℕ)
with_name names name = if is_among names name then names else names ++ name ∷ []

-- each name is told of
abbrev pub IsTold : Content → Type 0
IsTold content = (name : List ℕ) → (file : Option (List ℕ)) × (content name ≡ known file)

-- this is the text of a file, behind its text declaration
pub record Holds (content : Content) (name text : List ℕ) : Type 0 where
  pub whole : List ℕ
  pub told : Tells (content name) (Some whole)
  pub is : behind_declaration whole ≡ text

-- the text that stands in the place of a reference, how many bytes of a byte order mark and a text declaration are passed
-- over before it, and the file in which it stands
pub record Replacement : Type 0 where
  pub text : List ℕ
  pub over : ℕ
  pub file : List ℕ

-- this stands for an entity that is declared as this, where a reference to it stands in this file: a text in the file of the
-- reference, or what the file of the name holds (4.4.5, 4.4.8)
abbrev pub Stands : Content → List ℕ → Option Source → Replacement → Type 0
Stands content here None r = ⊥
Stands content here (Some (internal value)) r = (value ≡ r.text) × (r.over ≡ 0) × (r.file ≡ here)
Stands content here (Some (external name)) r =
    (held : Holds content name r.text) × (length held.whole ≡ r.over + length r.text) × (r.file ≡ name)

-- how many bytes the replaced text had where the reading last stood between declarations: all so far, if it stands there now
abbrev pub begun_at : Place → ℕ → ℕ → ℕ
begun_at between len begun = len
begun_at in_comment len begun = begun
begun_at behind_target len begun = begun
begun_at in_instruction len begun = begun
begun_at (inside text quoted) len begun = begun
begun_at (in_literal text quote) len begun = begun
begun_at (in_value entity quote value depth) len begun = begun
begun_at (behind_value entity value) len begun = begun

-- so many bytes on, and so many references, in this place
abbrev pub moved_to : State → ℕ → ℕ → Place → State
moved_to s n references place = record {
  place = place;
  parameters = s.parameters;
  generals = s.generals;
  written = s.written;
  length = s.length + n;
  begun = begun_at place (s.length + n) s.begun;
  references = s.references + references;
  passed = s.passed;
  file = s.file;
}

-- so many bytes on, in this place; no reference is replaced
abbrev pub on_to : State → ℕ → Place → State
on_to s n place = moved_to s n 0 place

-- A reference is replaced by the text of its entity with a space on each side, in an entity value without (4.4.5 and
-- 4.4.8).

-- behind the beginning of the text of an entity
abbrev pub opened : Place → Place
opened between = between
opened in_comment = in_comment
opened behind_target = in_instruction
opened in_instruction = in_instruction
opened (inside text quoted) = inside (text ++ 32 ∷ []) quoted
opened (in_literal text quote) = in_literal (text ++ 32 ∷ []) quote
opened (in_value entity quote value depth) = in_value entity quote value (suc depth)
opened (behind_value entity value) = behind_value entity value

-- behind its end; where a literal or a value began in it, the space stands in the literal or the value
abbrev pub closed : Place → Place
closed between = between
closed in_comment = in_comment
closed behind_target = in_instruction
closed in_instruction = in_instruction
closed (inside text quoted) = inside (text ++ 32 ∷ []) quoted
closed (in_literal text quote) = in_literal (text ++ 32 ∷ []) quote
closed (in_value entity quote value zero) = in_value entity quote (value ++ 32 ∷ []) zero
closed (in_value entity quote value (suc depth)) = in_value entity quote value depth
closed (behind_value entity value) = behind_value entity value

-- the bytes of the space before the text of an entity, and of that behind it
abbrev pub space_before : Place → ℕ
space_before between = 1
space_before in_comment = 1
space_before behind_target = 1
space_before in_instruction = 1
space_before (inside text quoted) = 1
space_before (in_literal text quote) = 1
space_before (in_value entity quote value depth) = 0
space_before (behind_value entity value) = 1

-- how many bytes of space stand behind the text of an entity that ends in this place: none for one opened in an entity value
abbrev pub space_behind : Place → ℕ
space_behind between = 1
space_behind in_comment = 1
space_behind behind_target = 1
space_behind in_instruction = 1
space_behind (inside text quoted) = 1
space_behind (in_literal text quote) = 1
space_behind (in_value entity quote value zero) = 1
space_behind (in_value entity quote value (suc depth)) = 0
space_behind (behind_value entity value) = 1

-- before the text of an entity: behind the space before it and a text declaration of so many bytes, in this file, with one
-- reference more
abbrev pub enter : State → ℕ → List ℕ → State
enter s over file = record (moved_to s (space_before s.place) 1 (opened s.place)) { passed = s.passed + over; file = file }

-- behind the text of an entity and the space behind it, in this file again
abbrev pub leave : State → List ℕ → State
leave s file = record (moved_to s (space_behind s.place) 0 (closed s.place)) { file = file }

-- so many bytes on to a state; a reference to this entity, of so many bytes; what is left out; or what may not stand there
pub data Move : Type 0 where
  on : ℕ → State → Move
  opens : List ℕ → ℕ → Move
  omits : Move
  stuck : Move

-- behind the `>` of the declaration of a parameter entity
abbrev pub declared_parameter : State → List ℕ → Source → Move
declared_parameter s name source = on 1 (record (on_to s 1 between) { parameters = with_parameter s.parameters name source })

-- what a step does to the state: a declaration is noted, where the first of an entity counts, and the `>` of it is one byte
abbrev pub moved : State → Step → Move
moved s (goes n place) = on n (on_to s n place)
moved s (declares_parameter name source) = declared_parameter s name (source_in s.file source)
moved s (declares_general name) = on 1 (record (on_to s 1 between) { generals = with_name s.generals name })
moved s (declares text) = on 1 (record (on_to s 1 between) { written = s.written ++ record { text = text; at = s.begun } ∷ [] })
moved s (refers name n) = opens name n
moved s leaves_out = omits
moved s refuses = stuck

-- the move at the head of the bytes
abbrev pub move : State → List ℕ → Move
move s bytes = moved s (step s.place bytes)

-- While these entities are open, the text leads from the one state to the other. A reference is read by reading the
-- replacement text of its entity in its place, as though it stood there (4.4.5 and 4.4.8); an entity does not refer to
-- itself, directly or indirectly (4.1, No Recursion).
pub data Reads (content : Content) : List (List ℕ) → State → List ℕ → State → Type 0 where
  at_end : {outer : List (List ℕ)} {s : State} → Reads content outer s [] s
  takes : {outer : List (List ℕ)} {s next last : State} {b n : ℕ} {bytes : List ℕ} →
      move s (b ∷ bytes) ≡ on n next → Reads content outer next (drop n (b ∷ bytes)) last → Reads content outer s (b ∷ bytes) last
  replaces : {outer : List (List ℕ)} {s inner last : State} {b n : ℕ} {bytes name : List ℕ} (r : Replacement) →
      move s (b ∷ bytes) ≡ opens name n → is_among outer name ≡ false → Stands content s.file (source_of s.parameters name) r →
      Reads content (name ∷ outer) (enter s r.over r.file) r.text inner → Reads content outer (leave inner s.file) (drop n (b ∷ bytes)) last →
      Reads content outer s (b ∷ bytes) last
