-- The general entities that a text declares have names, and none stands twice.
use Rattle.std.proofs.Common.{rules, codes, ◌==◌, ◌≡◌, ◌∙◌, ℕ, zero, suc, Bool, true, false, not, ◌&&◌, ◌||◌, if◌then◌else◌, List, [], ◌∷◌, ◌++◌, Option, Some, None, refl, subst, arith}
use Rattle.std.specs.Prelude.{bytes_eq, nat_lt}
use Rattle.std.specs.Str.{is_utf8}
use Rattle.std.specs.Option.{option_and_then}
use Rattle.std.specs.List.{list_all}
use Rattle.std.proofs.lemmas.List.Folds.{list_any-append, list_all-append}
use Rattle.xml_text.specs.Characters.{is_blank}
use Rattle.xml_text.specs.Names.{is_name, in_public_identifier}
use Rattle.dtd_model.specs.Lawful.{is_distinct, are_names}
use Rattle.dtd_texts.specs.Heads.{is_quote, same, begins, head_is, reference_length, entity_length, character_length, is_plain_value}
use Rattle.dtd_texts.specs.Tokens.{Token, tokens, behind, is_gap, is_percent, first_word, next_word, next_literal, is_end, are_none}
use Rattle.dtd_texts.specs.Places as places
use Rattle.dtd_texts.specs.Places.{Place, between, in_comment, behind_target, in_instruction, inside, in_literal, in_value, behind_value, Entity, parameter, general, Step, goes, declares_parameter, declares_general, declares, leaves_out, refers, refuses, step}
use Rattle.io_edge.specs.Told.{Content}
use Rattle.dtd_texts.specs.Reading.{State, Move, on, opens, omits, stuck, moved, move, is_among, with_name, enter, leave, opened, closed, Reads, at_end, takes, replaces, start}

-- a general entity has a name
abbrev IsNamed : Entity → Type 0
IsNamed (parameter name) = Unit {0}
IsNamed (general name) = is_name name ≡ true

abbrev PlaceIsNamed : Place → Type 0
PlaceIsNamed between = Unit {0}
PlaceIsNamed in_comment = Unit {0}
PlaceIsNamed behind_target = Unit {0}
PlaceIsNamed in_instruction = Unit {0}
PlaceIsNamed (inside text quoted) = Unit {0}
PlaceIsNamed (in_literal text quote) = Unit {0}
PlaceIsNamed (in_value entity quote value depth) = IsNamed entity
PlaceIsNamed (behind_value entity value) = IsNamed entity

abbrev StepNames : Step → Type 0
StepNames (goes n place) = PlaceIsNamed place
StepNames (declares_parameter name source) = Unit {0}
StepNames (declares_general name) = is_name name ≡ true
StepNames (declares text) = Unit {0}
StepNames (refers name n) = Unit {0}
StepNames leaves_out = Unit {0}
StepNames refuses = Unit {0}

record StepIsNamed (x : Step) : Type 0 where
  is : StepNames x

step_if : (b : Bool) (x y : Step) → StepIsNamed x → StepIsNamed y → StepIsNamed (if b then x else y)
step_if true x y h k = h
step_if false x y h k = k

reference_named : (bytes : List ℕ) (x : Step) → StepIsNamed x → StepIsNamed (places.reference_or bytes x)
reference_named bytes x h = step_if (nat_lt 0 (reference_length bytes)) _ x (record { is = tt }) h

abbrev FoundIsNamed : Option (Entity × List Token) → Type 0
FoundIsNamed None = Unit {0}
FoundIsNamed (Some found) = IsNamed found.0

abbrev OptionIsNamed : Option Entity → Type 0
OptionIsNamed None = Unit {0}
OptionIsNamed (Some entity) = IsNamed entity

named_parameter : (o : Option (List ℕ × List Token)) → FoundIsNamed (places.named parameter o)
named_parameter None = tt
named_parameter (Some found) = by (is_name found.0)
  where
    by : (b : Bool) → FoundIsNamed (if b then Some (parameter found.0, found.1) else None)
    by true = tt
    by false = tt

named_general : (o : Option (List ℕ × List Token)) → FoundIsNamed (places.named general o)
named_general None = tt
named_general (Some found) = by (is_name found.0) refl
  where
    by : (b : Bool) → is_name found.0 ≡ b → FoundIsNamed (if b then Some (general found.0, found.1) else None)
    by true e = e
    by false e = tt

from_named : (ts : List Token) → FoundIsNamed (places.entity_from ts)
from_named [] = tt
from_named (t ∷ ts) = by (is_percent t)
  where
    by : (b : Bool) → FoundIsNamed (if b then places.named parameter (next_word ts) else places.named general (first_word (t ∷ ts)))
    by true = named_parameter (next_word ts)
    by false = named_general (first_word (t ∷ ts))

then_named : (o : Option (List Token)) → FoundIsNamed (option_and_then places.entity_from o)
then_named None = tt
then_named (Some ts) = from_named ts

if_named : (o : Option (List ℕ × List Token)) → FoundIsNamed (places.entity_if o)
if_named None = tt
if_named (Some found) = by (same found.0 (codes "ENTITY"))
  where
    by : (b : Bool) → FoundIsNamed (if b then option_and_then places.entity_from (behind is_gap found.1) else None)
    by true = then_named (behind is_gap found.1)
    by false = tt

entity_named : (ts : List Token) → FoundIsNamed (places.entity_of ts)
unfolding places.entity_of
entity_named ts = if_named (first_word ts)

value_named : (o : Option (Entity × List Token)) → FoundIsNamed o → OptionIsNamed (places.value_of o)
value_named None h = tt
value_named (Some found) h = by (is_end found.1 && not (are_none found.1))
  where
    by : (b : Bool) → OptionIsNamed (if b then Some found.0 else None)
    by true = h
    by false = tt

quote_named : (o : Option Entity) (text : List ℕ) (quote : ℕ) → OptionIsNamed o → StepIsNamed (places.quote_by o text quote)
quote_named None text quote h = (record { is = tt })
quote_named (Some entity) text quote h = record { is = h }

valued_named : (text : List ℕ) (quoted : Bool) → OptionIsNamed (places.valued_in text quoted)
valued_named text true = tt
valued_named text false = value_named (places.entity_of (tokens text)) (entity_named (tokens text))

outside_named : (name : List ℕ) (o : Option (List ℕ × List Token)) → StepIsNamed (places.outside_of name o)
outside_named name None = (record { is = tt })
outside_named name (Some found) = step_if (is_utf8 found.0 && is_end found.1) _ _ (record { is = tt }) (record { is = tt })

public_named : (name : List ℕ) (o : Option (List ℕ × List Token)) → StepIsNamed (places.public_of name o)
public_named name None = (record { is = tt })
public_named name (Some found) = step_if (list_all in_public_identifier found.0) _ _ (outside_named name _) (record { is = tt })

identified_named : (entity : Entity) (o : Option (List ℕ × List Token)) → StepIsNamed (places.identified entity o)
identified_named (parameter name) None = (record { is = tt })
identified_named (general name) None = (record { is = tt })
identified_named (parameter name) (Some found) = step_if (same found.0 (codes "SYSTEM")) _ _ (outside_named name (next_literal found.1)) (step_if (same found.0 (codes "PUBLIC")) _ refuses (public_named name (next_literal found.1)) (record { is = tt }))
identified_named (general name) (Some found) = step_if (same found.0 (codes "SYSTEM") || same found.0 (codes "PUBLIC")) _ _ (record { is = tt }) (record { is = tt })

external_named : (o : Option (Entity × List Token)) → StepIsNamed (places.external_of o)
external_named None = (record { is = tt })
external_named (Some found) = identified_named found.0 (next_word found.1)

end_named : (text : List ℕ) → StepIsNamed (places.end_step text)
unfolding places.end_step places.external_step
end_named text = step_if (places.is_entity (first_word (tokens text))) _ _ (external_named (places.entity_of (tokens text))) (record { is = tt })

inside_named : (text : List ℕ) (quoted : Bool) (bytes : List ℕ) → StepIsNamed (places.inside_step text quoted bytes)
unfolding places.inside_step places.quote_step
inside_named text quoted [] = (record { is = tt })
inside_named text quoted (b ∷ bytes) =
    step_if (is_quote b) _ _ (quote_named (places.valued_in text quoted) text b (valued_named text quoted)) (step_if (b == 62) _ _ (end_named text) (reference_named (b ∷ bytes) _ (record { is = tt })))

literal_place : (x : Bool) (text : List ℕ) (b quote : ℕ) → PlaceIsNamed (if x then inside (text ++ b ∷ []) true else in_literal (text ++ b ∷ []) quote)
literal_place true text b quote = tt
literal_place false text b quote = tt

literal_named : (text : List ℕ) (quote : ℕ) (bytes : List ℕ) → StepIsNamed (places.literal_step text quote bytes)
unfolding places.literal_step
literal_named text quote [] = (record { is = tt })
literal_named text quote (b ∷ bytes) = record { is = literal_place (b == quote) text b quote }

value_step_named : (entity : Entity) (quote : ℕ) (value : List ℕ) (depth : ℕ) (bytes : List ℕ) → IsNamed entity → StepIsNamed (places.value_step entity quote value depth bytes)
unfolding places.value_step
value_step_named entity quote value depth [] h = (record { is = tt })
value_step_named entity quote value depth (b ∷ bytes) h =
    step_if (b == quote && depth == 0) _ _ (record { is = h }) (step_if (nat_lt 0 (character_length (b ∷ bytes))) _ _ (record { is = h }) (step_if (b == 38) _ _ (step_if (nat_lt 0 (entity_length (b ∷ bytes))) _ _ (record { is = h }) (record { is = tt })) (step_if (b == 37) _ _ (reference_named (b ∷ bytes) _ (record { is = tt })) (record { is = h }))))

declares_named : (entity : Entity) (value : List ℕ) → IsNamed entity → StepIsNamed (places.declares_value entity value)
declares_named (parameter name) value h = (record { is = tt })
declares_named (general name) value h = step_if (is_plain_value value) _ _ (record { is = h }) (record { is = tt })

behind_named : (entity : Entity) (value bytes : List ℕ) → IsNamed entity → StepIsNamed (places.behind_step entity value bytes)
unfolding places.behind_step
behind_named entity value bytes h = step_if (head_is is_blank bytes) _ _ (record { is = h }) (step_if (begins (codes ">") bytes) _ _ (declares_named entity value h) (reference_named bytes _ (record { is = tt })))

between_named : (bytes : List ℕ) → StepIsNamed (places.between_step bytes)
unfolding places.between_step
between_named bytes = step_if (head_is is_blank bytes) _ _ (record { is = tt }) (step_if (begins (codes "<!--") bytes) _ _ (record { is = tt }) (step_if (begins (codes "<![") bytes) _ _ (record { is = tt }) (step_if (begins (codes "<!") bytes) _ _ (record { is = tt }) (step_if (begins (codes "<?") bytes && nat_lt 0 (places.target_length bytes)) _ _ (record { is = tt }) (reference_named bytes _ (record { is = tt }))))))

comment_named : (bytes : List ℕ) → StepIsNamed (places.comment_step bytes)
unfolding places.comment_step
comment_named bytes = step_if (begins (codes "-->") bytes) _ _ (record { is = tt }) (step_if (begins (codes "--") bytes) _ _ (record { is = tt }) (record { is = tt }))

target_named : (bytes : List ℕ) → StepIsNamed (places.target_step bytes)
unfolding places.target_step
target_named bytes = step_if (begins (codes "?>") bytes) _ _ (record { is = tt }) (step_if (head_is is_blank bytes) _ _ (record { is = tt }) (record { is = tt }))

instruction_named : (bytes : List ℕ) → StepIsNamed (places.instruction_step bytes)
unfolding places.instruction_step
instruction_named bytes = step_if (begins (codes "?>") bytes) _ _ (record { is = tt }) (record { is = tt })

step_named : (place : Place) (bytes : List ℕ) → PlaceIsNamed place → StepIsNamed (step place bytes)
step_named between bytes h = between_named bytes
step_named in_comment bytes h = comment_named bytes
step_named behind_target bytes h = target_named bytes
step_named in_instruction bytes h = instruction_named bytes
step_named (inside text quoted) bytes h = inside_named text quoted bytes
step_named (in_literal text quote) bytes h = literal_named text quote bytes
step_named (in_value entity quote value depth) bytes h = value_step_named entity quote value depth bytes h
step_named (behind_value entity value) bytes h = behind_named entity value bytes h

-- A list of names with one more.

both_true : {a b : Bool} → a ≡ true → b ≡ true → (a && b) ≡ true
both_true e f = grind arith

pub bytes_eq_sym : (a b : List ℕ) → bytes_eq a b ≡ bytes_eq b a
bytes_eq_sym a b = search (rules, arith)

pub distinct_more : (names : List (List ℕ)) (name : List ℕ) → is_distinct names ≡ true → is_among names name ≡ false → is_distinct (names ++ name ∷ []) ≡ true
distinct_more [] name d e = refl
distinct_more (x ∷ xs) name d e = grind (arith, list_any-append (bytes_eq x) xs (name ∷ []), bytes_eq_sym x name, distinct_more xs name (grind arith) (grind arith))

names_more : (names : List (List ℕ)) (name : List ℕ) → are_names names ≡ true → is_name name ≡ true → are_names (with_name names name) ≡ true
names_more names name all is = by (is_among names name) refl
  where
    by : (b : Bool) → is_among names name ≡ b → are_names (if b then names else names ++ name ∷ []) ≡ true
    by true e = all
    by false e = both_true (distinct_more names name (grind arith) e) (list_all-append is_name names (name ∷ []) ∙ both_true (grind arith) (both_true is refl))

-- What the reading keeps.

record Keeps (s : State) : Type 0 where
  named : PlaceIsNamed s.place
  names : are_names s.generals ≡ true

abbrev MoveKeeps : Move → Type 0
MoveKeeps (on n next) = Keeps next
MoveKeeps (opens name n) = Unit {0}
MoveKeeps omits = Unit {0}
MoveKeeps stuck = Unit {0}

moved_keeps : (s : State) (x : Step) → Keeps s → StepIsNamed x → MoveKeeps (moved s x)
moved_keeps s (goes n place) k h = record { named = h.is; names = k.names }
moved_keeps s (declares_parameter name source) k h = record { named = tt; names = k.names }
moved_keeps s (declares_general name) k h = record { named = tt; names = names_more s.generals name k.names h.is }
moved_keeps s (declares text) k h = record { named = tt; names = k.names }
moved_keeps s (refers name n) k h = tt
moved_keeps s leaves_out k h = tt
moved_keeps s refuses k h = tt

move_keeps : (s next : State) (n : ℕ) (bytes : List ℕ) → move s bytes ≡ on n next → Keeps s → Keeps next
move_keeps s next n bytes e k = subst MoveKeeps e (moved_keeps s (step s.place bytes) k (step_named s.place bytes k.named))

opened_named : (place : Place) → PlaceIsNamed place → PlaceIsNamed (opened place)
opened_named between h = tt
opened_named in_comment h = tt
opened_named behind_target h = tt
opened_named in_instruction h = tt
opened_named (inside text quoted) h = tt
opened_named (in_literal text quote) h = tt
opened_named (in_value entity quote value depth) h = h
opened_named (behind_value entity value) h = h

closed_named : (place : Place) → PlaceIsNamed place → PlaceIsNamed (closed place)
closed_named between h = tt
closed_named in_comment h = tt
closed_named behind_target h = tt
closed_named in_instruction h = tt
closed_named (inside text quoted) h = tt
closed_named (in_literal text quote) h = tt
closed_named (in_value entity quote value zero) h = h
closed_named (in_value entity quote value (suc depth)) h = h
closed_named (behind_value entity value) h = h

enter_keeps : (s : State) (over : ℕ) (file : List ℕ) → Keeps s → Keeps (enter s over file)
enter_keeps s over file k = record { named = opened_named s.place k.named; names = k.names }

leave_keeps : (s : State) (file : List ℕ) → Keeps s → Keeps (leave s file)
leave_keeps s file k = record { named = closed_named s.place k.named; names = k.names }

reads_keeps : {content : Content} {outer : List (List ℕ)} {s last : State} {bytes : List ℕ} → Reads content outer s bytes last → Keeps s → Keeps last
reads_keeps at_end k = k
reads_keeps (takes {s = s} {next = next} e rest) k = reads_keeps rest (move_keeps s next _ _ e k)
reads_keeps (replaces {s = s} {inner = inner} by e shut is within rest) k =
    reads_keeps rest (leave_keeps inner s.file (reads_keeps within (enter_keeps s by.over by.file k)))

pub entities_named : (content : Content) (file : List ℕ) (last : State) → Reads content [] start file last → are_names last.generals ≡ true
entities_named content file last r = (reads_keeps r (record { named = tt; names = refl })).names
