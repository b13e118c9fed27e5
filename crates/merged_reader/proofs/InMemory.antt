-- Numbers that stand for others, in memory as in the definition.
use Rattle.std.proofs.Common.{◌≡◌, Some, None, refl, ap}
use Rattle.page_model.specs.Fronts.{Open, nothing, in_reference, in_opener, in_tag_name, in_tag, at_empty_end, in_end_tag, in_comment, in_section, in_target, behind_target, in_instruction, in_declaration, at_declaration_end, in_doctype}
use Rattle.page_model.specs.OpenTags.{OpenAttribute, between, in_attribute_name, behind_name, behind_equals, in_value}
use Rattle.page_model.specs.OpenValues as plain
use Rattle.open_pieces.specs.Views.{plain_reference, plain_value, plain_attribute, plain_open}
use Rattle.open_pieces.specs.declared.value.OpenReference.{OpenReference}
use Rattle.open_pieces.specs.declared.value.OpenReference.TheVariants.{Entity, Number, Decimal, HexadecimalBegin, Hexadecimal}
use Rattle.open_pieces.specs.declared.value.OpenValue.{OpenValue}
use Rattle.open_pieces.specs.declared.value.OpenValue.TheVariants as value
use Rattle.open_pieces.specs.declared.attribute.OpenAttribute.{OpenAttribute as InMemory}
use Rattle.open_pieces.specs.declared.attribute.OpenAttribute.TheVariants as attribute
use Rattle.open_pieces.specs.declared.open.OpenPiece.{OpenPiece}
use Rattle.open_pieces.specs.declared.open.OpenPiece.TheVariants as piece
use Rattle.state_codes.specs.Codes.{coded_reference, coded_value, coded_attribute, coded_open}
use Rattle.merged_reader.specs.Numbers as numbers
use Rattle.merged_reader.specs.NumbersInMemory as memory

-- what stands for a value in memory

coded_numbers : (r : plain.OpenReference) → memory.merged_reference (coded_reference r) ≡ coded_reference (numbers.merged_reference r)
coded_numbers (plain.in_entity name) = refl
coded_numbers plain.at_number = refl
coded_numbers (plain.in_decimal n) = refl
coded_numbers (plain.in_hexadecimal None) = refl
coded_numbers (plain.in_hexadecimal (Some n)) = refl

coded_values : (v : plain.OpenValue) → memory.merged_value (coded_value v) ≡ coded_value (numbers.merged_value v)
coded_values plain.in_text = refl
coded_values (plain.in_reference r) = ap (λ (g : OpenReference). value.Reference g) (coded_numbers r)
coded_values (plain.in_fixed text) = refl
coded_values (plain.in_choice word spaced) = refl
coded_values (plain.in_words inside one) = refl

coded_attributes : (o : OpenAttribute) → memory.merged_attribute (coded_attribute o) ≡ coded_attribute (numbers.merged_attribute o)
coded_attributes (between spaced) = refl
coded_attributes (in_attribute_name name) = refl
coded_attributes (behind_name name) = refl
coded_attributes (behind_equals name) = refl
coded_attributes (in_value name quote v) = ap (λ (g : OpenValue). attribute.Value name quote g) (coded_values v)

pub coded_merged : (o : Open) → memory.merged_open (coded_open o) ≡ coded_open (numbers.merged_open o)
coded_merged nothing = refl
coded_merged (in_reference r) = ap (λ (g : OpenReference). piece.Reference g) (coded_numbers r)
coded_merged (in_opener begun) = refl
coded_merged (in_tag_name name) = refl
coded_merged (in_tag tag names o) = ap (λ (a : InMemory). piece.Tag tag names a) (coded_attributes o)
coded_merged (at_empty_end name names) = refl
coded_merged (in_end_tag name spaced) = refl
coded_merged (in_comment dashes) = refl
coded_merged (in_section brackets) = refl
coded_merged (in_target None) = refl
coded_merged (in_target (Some target)) = refl
coded_merged behind_target = refl
coded_merged (in_instruction asked) = refl
coded_merged (in_declaration names o) = refl
coded_merged at_declaration_end = refl
coded_merged (in_doctype o) = refl

-- what a value in memory stands for

plain_numbers : (r : OpenReference) → plain_reference (memory.merged_reference r) ≡ numbers.merged_reference (plain_reference r)
plain_numbers (Entity name) = refl
plain_numbers Number = refl
plain_numbers (Decimal n) = refl
plain_numbers HexadecimalBegin = refl
plain_numbers (Hexadecimal n) = refl

plain_values : (v : OpenValue) → plain_value (memory.merged_value v) ≡ numbers.merged_value (plain_value v)
plain_values value.Text = refl
plain_values (value.Reference r) = ap (λ (g : plain.OpenReference). plain.in_reference g) (plain_numbers r)
plain_values (value.Fixed text) = refl
plain_values (value.Choice word spaced) = refl
plain_values (value.Words inside one) = refl

plain_attributes : (o : InMemory) → plain_attribute (memory.merged_attribute o) ≡ numbers.merged_attribute (plain_attribute o)
plain_attributes (attribute.Between spaced) = refl
plain_attributes (attribute.Name name) = refl
plain_attributes (attribute.BehindName name) = refl
plain_attributes (attribute.BehindEquals name) = refl
plain_attributes (attribute.Value name quote v) = ap (λ (g : plain.OpenValue). in_value name quote g) (plain_values v)

pub plain_merged : (o : OpenPiece) → plain_open (memory.merged_open o) ≡ numbers.merged_open (plain_open o)
plain_merged piece.Nothing = refl
plain_merged (piece.Reference r) = ap (λ (g : plain.OpenReference). in_reference g) (plain_numbers r)
plain_merged (piece.Opener begun) = refl
plain_merged (piece.TagName name) = refl
plain_merged (piece.Tag tag names o) = ap (λ (a : OpenAttribute). in_tag tag names a) (plain_attributes o)
plain_merged (piece.EmptyEnd name names) = refl
plain_merged (piece.EndTag name spaced) = refl
plain_merged (piece.Comment dashes) = refl
plain_merged (piece.Section brackets) = refl
plain_merged (piece.Target target) = refl
plain_merged piece.OtherTarget = refl
plain_merged piece.BehindTarget = refl
plain_merged (piece.Instruction asked) = refl
plain_merged (piece.Declaration names o) = refl
plain_merged piece.DeclarationEnd = refl
plain_merged (piece.Doctype o) = refl
