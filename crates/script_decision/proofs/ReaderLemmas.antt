-- What an answer by the machine of the reader says, and that the reader has the tokens of pages.
use Rattle.std.proofs.Common.{ℕ, List}
use Rattle.std.specs.Prelude.{Result, Ok, Err, IfOk}
use Rattle.text_base.specs.declared.letter.Letter.{Letter}
use Rattle.script_meaning.specs.Programs.{PlainProgram}
use Rattle.dtd_model.specs.Table.{Table}
use Rattle.page_decision.specs.declared.goal.Goal.{Goal}
use Rattle.page_decision.specs.PageVerdicts.{IsPageVerdict}
use Rattle.page_decision.proofs.AlongLemmas.{page_verdict_along}
use Rattle.page_forms.specs.Forms.{forms}
use Rattle.form_reader.specs.Laws.{IsLawfulTable}
use Rattle.summary_decision.specs.declared.verdict.Verdict.{Verdict}
use Rattle.summary_decision.specs.declared.verdict.Verdict.TheVariants.{Pairs, Tags}
use Rattle.loose_grammar.specs.Pages.{IsLoosePage}
use Rattle.broken_readers.specs.Laws.{WayStep, WayEnd}
use Rattle.way_reader.specs.Laws.{IsWayReaderOf, PagesAreRead, WholeFormsHaveTexts}
use Rattle.way_reader.specs.PageWays.{ArePageWays}
use Rattle.way_reader.specs.Reader.{starts_at}
use Rattle.way_reader.specs.Ways.{first_state}
use Rattle.way_reader.specs.declared.reader.PieceWays.{PieceWays}
use Rattle.way_reader.specs.declared.way.WayState.{WayState}
use Rattle.script_decision.specs.declared.answer.Answer.{Answer}
use Rattle.script_decision.specs.Answers.{IsAnswerBy, IsDerivationBy, IsPageImage}
use Rattle.script_decision.specs.declared.refusal.CheckRefusal.{CheckRefusal}
use Rattle.script_decision.specs.Decision.{IsAnswerOf, IsReaderImage}

module _ (goal : Goal) (table : Table) (program : PlainProgram) (limit : ℕ) (ways : PieceWays) (are : ArePageWays table ways) where
  abbrev Steps : WayState → ℕ → WayState → List Letter → Type 0
  Steps = WayStep ways.arena (starts_at ways.starts)

  abbrev Ends : WayState → List Letter → Type 0
  Ends = WayEnd ways.arena (starts_at ways.starts)

  abbrev pub IsByReader : Answer → Type 0
  IsByReader answer = IsAnswerBy first_state Steps Ends goal table program limit answer

  -- an image by these ways is one under the reader
  along : (v : Verdict) → IsPageVerdict table (IsLoosePage program) (IsPageImage first_state Steps Ends program) (IsDerivationBy program) goal limit v
      → IsPageVerdict table (IsLoosePage program) (IsReaderImage table program) (IsDerivationBy program) goal limit v
  along v is =
      page_verdict_along table (IsLoosePage program) (IsLoosePage program) (λ page. (λ h. h, λ h. h)) (IsPageImage first_state Steps Ends program) (IsReaderImage table program) (λ image of. (ways, are, of))
      (IsDerivationBy program) (IsDerivationBy program) (λ d page h. h) goal limit v is

  of_reader : (answer : Answer) → IsByReader answer → IsAnswerOf goal table program limit answer
  of_reader Answer.Yes is = is
  of_reader (Answer.No derivation) is = is
  of_reader (Answer.Pairs count height) is = (is.0, along (Pairs count height) is.1)
  of_reader (Answer.Tags count height) is = (is.0, along (Tags count height) is.1)
  of_reader (Answer.Items count) is = (is.0, (ways, are, is.1))

  pub result_of_reader : (result : Result Answer CheckRefusal) → IfOk result IsByReader → IfOk result (IsAnswerOf goal table program limit)
  result_of_reader (Ok answer) is = of_reader answer is
  result_of_reader (Err refusal) is = tt

-- ways that are the forms of a definition's pages have the tokens of each page
pub reads : PagesAreRead → WholeFormsHaveTexts → (table : Table) → IsLawfulTable table → (ways : PieceWays) → ArePageWays table ways → IsWayReaderOf table ways.arena (starts_at ways.starts)
reads read whole table lawful ways are = read table lawful ways.arena (starts_at ways.starts) (whole (forms table) ways.arena (starts_at ways.starts) are)
