-- The places of a document type definition text, and what stands at the head of the bytes in each of them (XML 1.0,
-- 2.8). A parameter entity reference is recognised between declarations, within them and within entity values, and
-- nowhere else: not in a comment, an instruction or another literal (4.4).
use Rattle.std.specs.Prelude.{ℕ, ◌+◌, Bool, true, false, not, ◌&&◌, ◌||◌, ◌==◌, nat_lt, if◌then◌else◌, List, [], ◌∷◌, ◌++◌, take, drop, codes, Option, Some, None}
use Rattle.std.specs.Option.{option_and_then}
use Rattle.std.specs.List.{list_all}
use Rattle.std.specs.Char.{encode_utf8}
use Rattle.std.specs.Str.{is_utf8, str_eq_ignore_ascii_case}
use Rattle.xml_text.specs.Characters.{is_blank}
use Rattle.xml_text.specs.Names.{is_name, in_public_identifier}
use Rattle.dtd_texts.specs.Heads.{is_quote, same, begins, head_is, name_length, reference_length, reference_name, entity_length, character_length, character_number, is_plain_value}
use Rattle.dtd_texts.specs.Tokens.{Token, tokens, behind, is_gap, is_percent, first_word, next_word, next_literal, is_end, are_none}

-- what an entity stands for: this text, or the text of this name outside (4.2.1 and 4.2.2)
pub data Source : Type 0 where
  internal : List ℕ → Source
  external : List ℕ → Source

-- the two kinds of entities, each with a name (4.2)
pub data Entity : Type 0 where
  parameter : List ℕ → Entity
  general : List ℕ → Entity

-- a place of the text, with what is to be kept in mind of what stands before it
pub data Place : Type 0 where
  -- between declarations
  between : Place
  in_comment : Place
  -- behind the target of an instruction, and behind white space there
  behind_target : Place
  in_instruction : Place
  -- in a declaration, behind this text of it, and whether a literal stands in it
  inside : List ℕ → Bool → Place
  -- in a literal of a declaration, with the quote that ends it, behind this text of the declaration
  in_literal : List ℕ → ℕ → Place
  -- in the value of this entity: the quote that ends it, the value so far, and how many entities were opened behind
  -- the first quote and are still open
  in_value : Entity → ℕ → List ℕ → ℕ → Place
  -- behind the value of this entity
  behind_value : Entity → List ℕ → Place

-- what stands at the head of the bytes, and where it leads
pub data Step : Type 0 where
  -- so many bytes, and the place behind them
  goes : ℕ → Place → Step
  -- the `>` of the declaration of an entity, and of another declaration with its text
  declares_parameter : List ℕ → Source → Step
  declares_general : List ℕ → Step
  declares : List ℕ → Step
  -- a reference to the entity of this name, of so many bytes
  refers : List ℕ → ℕ → Step
  -- something that this project leaves out
  leaves_out : Step
  -- none of these
  refuses : Step

-- a reference, or else another step
abbrev pub reference_or : List ℕ → Step → Step
reference_or bytes step = if nat_lt 0 (reference_length bytes) then refers (reference_name bytes) (2 + reference_length bytes) else step

-- the target of an instruction may not be `xml`, in any case (2.6, PITarget)
abbrev pub target_length : List ℕ → ℕ
target_length bytes =
    if str_eq_ignore_ascii_case (codes "xml") (take (name_length (drop 2 bytes)) (drop 2 bytes)) then 0 else name_length (drop 2 bytes)

-- between declarations, where no `<!` stands: `<?` and a target, or a parameter entity reference
abbrev pub instruction_or_reference : List ℕ → Step
instruction_or_reference bytes =
    if begins (codes "<?") bytes && nat_lt 0 (target_length bytes) then goes (2 + target_length bytes) behind_target
    else reference_or bytes refuses

-- a comment, a conditional section (which is left out), another declaration, an instruction, white space, or a reference
unfoldable pub between_step : List ℕ → Step
between_step bytes =
    if head_is is_blank bytes then goes 1 between
    else if begins (codes "<!--") bytes then goes 4 in_comment
    else if begins (codes "<![") bytes then leaves_out
    else if begins (codes "<!") bytes then goes 2 (inside [] false)
    else instruction_or_reference bytes

-- a comment ends with `-->`, and no other `--` stands in it (2.5)
unfoldable pub comment_step : List ℕ → Step
comment_step bytes =
    if begins (codes "-->") bytes then goes 3 between
    else if begins (codes "--") bytes then refuses
    else goes 1 in_comment

-- the text of an instruction is apart from its target, and ends with the first `?>` (2.6)
unfoldable pub target_step : List ℕ → Step
target_step bytes =
    if begins (codes "?>") bytes then goes 2 between
    else if head_is is_blank bytes then goes 1 in_instruction
    else refuses

-- the text of an instruction: `?>`, which ends it, or one more byte of it
unfoldable pub instruction_step : List ℕ → Step
instruction_step bytes = if begins (codes "?>") bytes then goes 2 between else goes 1 in_instruction

-- The text of the declaration of an entity is `ENTITY % name ` or `ENTITY name ` up to its value (4.2).

-- the entity of this name, with what stands behind the name
abbrev pub named : (List ℕ → Entity) → Option (List ℕ × List Token) → Option (Entity × List Token)
named make None = None
named make (Some found) = if is_name found.0 then Some (make found.0, found.1) else None

-- the entity by the tokens behind `ENTITY` and white space, and the tokens behind its name; with `%` it is a parameter entity
abbrev pub entity_from : List Token → Option (Entity × List Token)
entity_from [] = None
entity_from (t ∷ ts) = if is_percent t then named parameter (next_word ts) else named general (first_word (t ∷ ts))

-- the same by the first word of the declaration and what stands behind it; None where it is another than `ENTITY`
abbrev pub entity_if : Option (List ℕ × List Token) → Option (Entity × List Token)
entity_if None = None
entity_if (Some found) = if same found.0 (codes "ENTITY") then option_and_then entity_from (behind is_gap found.1) else None

-- the entity that the declaration is of
unfoldable pub entity_of : List Token → Option (Entity × List Token)
entity_of ts = entity_if (first_word ts)

-- the entity whose value comes next
abbrev pub value_of : Option (Entity × List Token) → Option Entity
value_of None = None
value_of (Some found) = if is_end found.1 && not (are_none found.1) then Some found.0 else None

-- a quote begins an entity value behind the name of an entity, and another literal elsewhere
abbrev pub quote_by : Option Entity → List ℕ → ℕ → Step
quote_by None text quote = goes 1 (in_literal (text ++ quote ∷ []) quote)
quote_by (Some entity) text quote = goes 1 (in_value entity quote [] 0)

-- the entity whose value a quote behind this text begins, if it begins one; none where a literal stands in the declaration already
abbrev pub valued_in : List ℕ → Bool → Option Entity
valued_in text true = None
valued_in text false = value_of (entity_of (tokens text))

-- a quote in a declaration, behind this text of it, where a literal stands in it or none does
unfoldable pub quote_step : List ℕ → Bool → ℕ → Step
quote_step text quoted quote = quote_by (valued_in text quoted) text quote

-- A declaration of an entity with its text outside (4.2.2, ExternalID). The system literal is the name of the text, and
-- is UTF-8. General entities outside are left out.

-- the system literal of a parameter entity, which has to end the declaration
abbrev pub outside_of : List ℕ → Option (List ℕ × List Token) → Step
outside_of name None = refuses
outside_of name (Some system) = if is_utf8 system.0 && is_end system.1 then declares_parameter name (external system.0) else refuses

-- the public literal of a parameter entity, of bytes of public identifiers alone (2.3, PubidLiteral), and then its system literal
abbrev pub public_of : List ℕ → Option (List ℕ × List Token) → Step
public_of name None = refuses
public_of name (Some identifier) =
    if list_all in_public_identifier identifier.0 then outside_of name (next_literal identifier.1) else refuses

-- `SYSTEM` or `PUBLIC` behind the entity's name, and what stands behind that; a general entity with either is left out
abbrev pub identified : Entity → Option (List ℕ × List Token) → Step
identified entity None = refuses
identified (parameter name) (Some found) =
    if same found.0 (codes "SYSTEM") then outside_of name (next_literal found.1)
    else if same found.0 (codes "PUBLIC") then public_of name (next_literal found.1) else refuses
identified (general name) (Some found) = if same found.0 (codes "SYSTEM") || same found.0 (codes "PUBLIC") then leaves_out else refuses

-- the declaration of an entity without a value, by its name and the tokens behind it
abbrev pub external_of : Option (Entity × List Token) → Step
external_of None = refuses
external_of (Some found) = identified found.0 (next_word found.1)

-- the same by all tokens of the declaration
unfoldable pub external_step : List Token → Step
external_step ts = external_of (entity_of ts)

-- the end of a declaration, but for entities with a value
abbrev pub is_entity : Option (List ℕ × List Token) → Bool
is_entity None = false
is_entity (Some found) = same found.0 (codes "ENTITY")

-- the `>` of a declaration with this text: that of an entity has to name a text outside, since its value would have been met
unfoldable pub end_step : List ℕ → Step
end_step text = if is_entity (first_word (tokens text)) then external_step (tokens text) else declares text

-- in a declaration outside literals: a quote, `>`, a parameter entity reference, or one more byte of the text
unfoldable pub inside_step : List ℕ → Bool → List ℕ → Step
inside_step text quoted [] = refuses
inside_step text quoted (b ∷ bytes) =
    if is_quote b then quote_step text quoted b
    else if b == 62 then end_step text
    else reference_or (b ∷ bytes) (goes 1 (inside (text ++ b ∷ []) quoted))

-- in a literal of a declaration: its quote, which ends it, or one more byte, `%` and `&` among them
unfoldable pub literal_step : List ℕ → ℕ → List ℕ → Step
literal_step text quote [] = refuses
literal_step text quote (b ∷ bytes) = goes 1 (if b == quote then inside (text ++ b ∷ []) true else in_literal (text ++ b ∷ []) quote)

-- In an entity value: a quote from an entity opened behind the first quote is a character as any other (4.4.5); a
-- character reference is expanded, and a general entity reference stays as it is (4.4.7 and 4.5).
abbrev pub value_else : Entity → ℕ → List ℕ → ℕ → ℕ → List ℕ → Step
value_else entity quote value depth b bytes =
    if b == 38 then (if nat_lt 0 (entity_length bytes) then goes 1 (in_value entity quote (value ++ b ∷ []) depth) else refuses)
    else if b == 37 then reference_or bytes refuses
    else goes 1 (in_value entity quote (value ++ b ∷ []) depth)

-- in an entity value: its quote, which ends it, a character reference, or what else may stand there
unfoldable pub value_step : Entity → ℕ → List ℕ → ℕ → List ℕ → Step
value_step entity quote value depth [] = refuses
value_step entity quote value depth (b ∷ bytes) =
    if b == quote && depth == 0 then goes 1 (behind_value entity value)
    else if nat_lt 0 (character_length (b ∷ bytes))
    then goes (character_length (b ∷ bytes)) (in_value entity quote (value ++ encode_utf8 (character_number (b ∷ bytes))) depth)
    else value_else entity quote value depth b (b ∷ bytes)

-- the value of a general entity that is left out holds `<`, or a reference to another entity
abbrev pub declares_value : Entity → List ℕ → Step
declares_value (parameter name) value = declares_parameter name (internal value)
declares_value (general name) value = if is_plain_value value then declares_general name else leaves_out

-- behind an entity value: white space, `>`, or a parameter entity reference
unfoldable pub behind_step : Entity → List ℕ → List ℕ → Step
behind_step entity value bytes =
    if head_is is_blank bytes then goes 1 (behind_value entity value)
    else if begins (codes ">") bytes then declares_value entity value
    else reference_or bytes refuses

-- what stands at the head
abbrev pub step : Place → List ℕ → Step
step between bytes = between_step bytes
step in_comment bytes = comment_step bytes
step behind_target bytes = target_step bytes
step in_instruction bytes = instruction_step bytes
step (inside text quoted) bytes = inside_step text quoted bytes
step (in_literal text quote) bytes = literal_step text quote bytes
step (in_value entity quote value depth) bytes = value_step entity quote value depth bytes
step (behind_value entity value) bytes = behind_step entity value bytes
