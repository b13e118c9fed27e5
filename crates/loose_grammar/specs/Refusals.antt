-- Why no grammar is made of a program.
use Rattle.std.specs.Prelude.{◌<◌, ℕ, ⊤}
use Rattle.script_meaning.specs.Programs.{PlainProgram}
use Rattle.op_system.specs.declared.system.OpSystem.{OpSystem}
use Rattle.grammar_image.specs.declared.refusal.ImageRefusal.{ImageRefusal}
use Rattle.grammar_image.specs.declared.refusal.ImageRefusal.TheVariants as image
use Rattle.equal_sets.specs.Joined.{IsJoined}
use Rattle.resolving.specs.Drafted.{IsTooLarge}
use Rattle.program_lowering.specs.Short.{HasLongText}
use Rattle.loose_grammar.specs.declared.refusal.GrammarRefusal.{GrammarRefusal}
use Rattle.loose_grammar.specs.declared.refusal.GrammarRefusal.TheVariants as refusal
use Rattle.loose_grammar.specs.declared.refusal.TheConstants.{ITEM_LIMIT}
use Rattle.loose_grammar.specs.Pages.{IsProgramSystem}

-- the image of an operation has at least so many items, in the system that is made of the program, with equal sets as one
pub record HasLargeImage (program : PlainProgram) (items : ℕ) : Type 0 where
  pub system : OpSystem
  pub of_program : IsProgramSystem program system
  pub joined : OpSystem
  pub is_joined : IsJoined system joined
  pub large : IsTooLarge joined items

-- the program is refused, for this reason; want of memory says nothing
abbrev pub IsGrammarRefusal : PlainProgram → GrammarRefusal → Type 0
IsGrammarRefusal program refusal.LongText = HasLongText program
IsGrammarRefusal program (refusal.Items count) = (ITEM_LIMIT < count) × HasLargeImage program count
IsGrammarRefusal program refusal.Memory = ⊤

-- the refusal of a program whose system is refused so
abbrev pub refusal_of : ImageRefusal → GrammarRefusal
refusal_of (image.Large items) = refusal.Items items
refusal_of image.Memory = refusal.Memory
