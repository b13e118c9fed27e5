-- Each open piece that passes the test ends.
use Rattle.std.proofs.Common.{◌≡◌, ℕ, Bool, true, false, List, Option, Some, None, [], ◌∷◌, refl, ◌∙◌, ap, arith}
use Rattle.std.specs.Prelude.{if◌then◌else◌, nat_eq}
use Rattle.std.specs.List.{list_all}
use Rattle.std.proofs.lemmas.Bool.{and_parts}
use Rattle.std.proofs.lemmas.Bool.Decides.{nat_tests}
use Rattle.text_base.specs.declared.page_token.PageToken.TheVariants as token
use Rattle.xml_text.specs.Names.{in_name}
use Rattle.dtd_model.specs.Table.{Table}
use Rattle.page_model.specs.Places.{behind}
use Rattle.piece_steps.specs.Insides.{Turn, out, stop, stepped, inside, accepted, accepts}
use Rattle.piece_steps.specs.Readers.{done}
use Rattle.page_model.specs.Fronts.{Open, nothing, in_reference, in_opener, in_tag_name, in_tag, at_empty_end, in_end_tag, in_comment, in_section, in_target, behind_target, in_instruction, in_declaration, at_declaration_end, in_doctype}
use Rattle.page_model.specs.OpenValues.{OpenReference}
use Rattle.page_steps.specs.PageSteps.{OpenMove}
use Rattle.page_steps.specs.ReferenceSteps.{reference_step, reference_good}
use Rattle.page_endings.specs.Laws.{Ends, CharactersEnd}
use Rattle.page_endings.specs.Ending.{open_can_end}
use Rattle.page_endings.specs.Shapes.{IsShaped}
use Rattle.page_endings.proofs.Among.{name_character}
use Rattle.page_endings.proofs.Declarations.{declaration_ends, declaration_end}
use Rattle.page_endings.proofs.Declared.{Lawful, lawful_parts}
use Rattle.page_endings.proofs.Doctypes.{doctype_ends, opener_ends}
use Rattle.page_endings.proofs.Going.{goes, ended}
use Rattle.page_endings.proofs.References.{Referred, reference_ends}
use Rattle.page_endings.proofs.Remarks.{nothing_ends, comment_ends, section_ends, target_ends, behind_target_ends, instruction_ends}
use Rattle.page_endings.proofs.Tags.{tag_ends, empty_ends, tag_name_ends, end_tag_ends}

name_no_semicolon : (c : ℕ) → in_name c ≡ true → nat_eq c 59 ≡ false
name_no_semicolon c h = grind (arith, nat_tests)

module _ (table : Table) where
  -- the rest of a reference, and its `;`
  over_reference : (r : OpenReference) (rest : List ℕ) → list_all in_name rest ≡ true → accepts reference_step (reference_good table.entities) r rest ≡ true → Ends table (in_reference r)
  over_reference r [] h e =
      ended table (in_reference r) 59 refl
      (λ place. (
        behind 0,
        token.Text ∷ [],
        ap (λ (b : Bool). let t : Turn OpenReference = if b then out else stop in let m : OpenMove = inside in_reference (done (behind 0) (token.Text ∷ [])) t in m) e,
      ))
  over_reference r (c ∷ rest) h e = at (reference_step r c) refl e (and_parts (in_name c) (list_all in_name rest) h) (λ g n i. over_reference g rest n i)
    where
      at : (o : Option OpenReference) → reference_step r c ≡ o → accepted o (λ g. accepts reference_step (reference_good table.entities) g rest) ≡ true
          → (in_name c ≡ true) × (list_all in_name rest ≡ true)
          → ((g : OpenReference) → list_all in_name rest ≡ true → accepts reference_step (reference_good table.entities) g rest ≡ true → Ends table (in_reference g)) → Ends table (in_reference r)
      at None i e p ih = cc
      at (Some g) i e p ih =
          goes table (in_reference r) (in_reference g) c (name_character c p.0)
          (λ place. ap (λ (b : Bool). let t : Turn OpenReference = if b then (if reference_good table.entities r then out else stop) else stepped (reference_step r c) in let m : OpenMove = inside in_reference (done (behind 0) (token.Text ∷ [])) t in m) (name_no_semicolon c p.0)
          ∙ ap (λ (o : Option OpenReference). let m : OpenMove = inside in_reference (done (behind 0) (token.Text ∷ [])) (stepped o) in m) i)
          (ih g p.1 e)

  referred : (r : OpenReference) → Referred table.entities r → Ends table (in_reference r)
  referred r f = over_reference r f.rest f.plain f.taken

  pub ends_so : Lawful table → (o : Open) → open_can_end table o ≡ true → IsShaped table o → Ends table o
  ends_so l nothing e s = nothing_ends table
  ends_so l (in_reference r) e s = referred r (reference_ends table.entities r l.entities e)
  ends_so l (in_opener begun) e s = opener_ends table begun s
  ends_so l (in_tag_name front) e s = tag_name_ends table l front e
  ends_so l (in_tag name names o) e s = tag_ends table l name names o s e
  ends_so l (at_empty_end name names) e s = empty_ends table l name names e
  ends_so l (in_end_tag name spaced) e s = end_tag_ends table l name spaced e
  ends_so l (in_comment dashes) e s = comment_ends table dashes
  ends_so l (in_section brackets) e s = section_ends table brackets
  ends_so l (in_target o) e s = target_ends table o
  ends_so l behind_target e s = behind_target_ends table
  ends_so l (in_instruction asked) e s = instruction_ends table asked
  ends_so l (in_declaration names o) e s = declaration_ends table names o s e
  ends_so l at_declaration_end e s = declaration_end table
  ends_so l (in_doctype o) e s = doctype_ends table o s e

pub characters_end : CharactersEnd
characters_end table lawful o e s = ends_so table (lawful_parts table lawful) o e s
