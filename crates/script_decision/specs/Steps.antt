-- What the private functions say to one another. No public clause cites these.
use Rattle.std.specs.Prelude.{◌<◌, ℕ, Bool, true, false, List, Result, Ok, Err, ⊤}
use Rattle.text_base.specs.declared.letter.Letter.{Letter}
use Rattle.script_meaning.specs.Programs.{PlainProgram}
use Rattle.grammar_image.specs.declared.refusal.ImageRefusal.{ImageRefusal}
use Rattle.grammar_image.specs.declared.refusal.ImageRefusal.TheVariants as image
use Rattle.summary_decision.specs.declared.verdict.Verdict.{Verdict}
use Rattle.summary_decision.specs.declared.verdict.Verdict.TheVariants as verdict
use Rattle.script_decision.specs.declared.answer.Answer.{Answer}
use Rattle.loose_grammar.specs.declared.refusal.TheConstants.{ITEM_LIMIT}
use Rattle.dtd_model.specs.Table.{Table}
use Rattle.script_decision.specs.Answers.{HasManyItems}

-- why no image of the pages is made: it has so many items, over the limit; want of memory says nothing
abbrev pub IsItemCause : {S : Type 0} → S → (S → ℕ → S → List Letter → Type 0) → Table → PlainProgram → ImageRefusal → Type 0
IsItemCause first steps table program (image.Large count) = (ITEM_LIMIT < count) × HasManyItems first steps table program count
IsItemCause first steps table program image.Memory = ⊤

-- the answer that a verdict on the pages is
abbrev pub answer_of : Verdict → Answer
answer_of verdict.Yes = Answer.Yes
answer_of (verdict.No derivation) = Answer.No derivation
answer_of (verdict.Pairs count height) = Answer.Pairs count height
answer_of (verdict.Tags count height) = Answer.Tags count height

-- the pages are decided, or there was no memory for it
abbrev pub is_settled : Result Verdict ImageRefusal → Bool
is_settled (Ok verdict.Yes) = true
is_settled (Ok (verdict.No derivation)) = true
is_settled (Ok (verdict.Pairs count height)) = false
is_settled (Ok (verdict.Tags count height)) = false
is_settled (Err (image.Large count)) = false
is_settled (Err image.Memory) = true
