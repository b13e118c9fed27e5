-- Positions of the reading, with a stack of what is left of each open entity: the form in which the code reads.
use Rattle.std.specs.Prelude.{◌≡◌, ℕ, ◌+◌, ◌<◌, ◌≤◌, List, take, drop, length, map, Option, Some, None}
use Rattle.std.specs.Borrow.{Bor}
use Rattle.dtd_texts.specs.Places.{Place, between, in_comment, behind_target, in_instruction, inside, in_literal, in_value, behind_value, Source, internal, external, Entity}
use Rattle.dtd_texts.specs.Reading.{Parameter, Written, State, Move, on, opens, omits, stuck, move}
use Rattle.dtd_entities.specs.Entities.{entity_by}
use Rattle.dtd_entities.specs.declared.state.Mode.{Mode}
use Rattle.dtd_entities.specs.declared.state.Mode.TheVariants.{Between, InComment, BehindTarget, InInstruction, Inside, InLiteral, InValue, BehindValue}
use Rattle.dtd_entities.specs.declared.state.Source.{Source as CodeSource}
use Rattle.dtd_entities.specs.declared.state.Source.TheVariants.{Internal, External}
use Rattle.dtd_entities.specs.declared.state.Written.{Written as CodeWritten}
use Rattle.dtd_entities.specs.declared.state.Reading.{Reading}
use Rattle.dtd_entities.specs.declared.state.Move.{Move as CodeMove}
use Rattle.dtd_entities.specs.declared.state.Move.TheVariants.{On, Opens, Omits, Stuck}

-- the place, where these are the text of the declaration or the value, its quote, how many entities are open in it, and
-- the entity
abbrev pub place_of : Mode → List ℕ → ℕ → ℕ → Entity → Place
place_of Between text quote depth entity = between
place_of InComment text quote depth entity = in_comment
place_of BehindTarget text quote depth entity = behind_target
place_of InInstruction text quote depth entity = in_instruction
place_of (Inside quoted) text quote depth entity = inside text quoted
place_of InLiteral text quote depth entity = in_literal text quote
place_of InValue text quote depth entity = in_value entity quote text depth
place_of BehindValue text quote depth entity = behind_value entity text

-- the plain form of what an entity stands for
abbrev pub plain_source : CodeSource → Source
plain_source (Internal value) = internal value
plain_source (External name) = external name

-- a source, where one is found
abbrev pub plain_found : Option (Bor CodeSource) → Option Source
plain_found None = None
plain_found (Some s) = Some (plain_source s.now)

-- the plain form of a declared parameter entity
abbrev pub parameter_of : (List ℕ × CodeSource) → Parameter
parameter_of p = record { name = p.0; source = plain_source p.1 }

-- the plain form of a declaration of another kind
abbrev pub written_of : CodeWritten → Written
written_of w = record { text = w.text; at = w.at }

-- the plain form of what is known behind some of the text
abbrev pub state_of : Reading → State
state_of r = record {
  place = place_of r.mode r.text r.quote r.depth (entity_by r.is_parameter r.name);
  parameters = map parameter_of r.parameters.entries;
  generals = r.generals.keys;
  written = map written_of r.written.items;
  length = r.length;
  begun = r.begun;
  references = r.references;
  passed = r.passed;
  file = r.file;
}

-- a move, where this state and these bytes are told
abbrev pub seen : CodeMove → State → List ℕ → Move
seen (On n) s bytes = on n s
seen (Opens n) s bytes = opens (take n (drop 1 bytes)) (2 + n)
seen Omits s bytes = omits
seen Stuck s bytes = stuck

-- a move takes some of the bytes; another changes nothing
abbrev pub IsWithin : CodeMove → State → State → List ℕ → Type 0
IsWithin (On n) old now bytes = (n ≤ length bytes) × (old.length < now.length) × (now.references ≡ old.references)
IsWithin (Opens n) old now bytes = (2 + n ≤ length bytes) × (now ≡ old)
IsWithin Omits old now bytes = now ≡ old
IsWithin Stuck old now bytes = now ≡ old
