-- What the answer for a program says of its loose pages, and why it has none.
use Rattle.std.specs.Prelude.{◌<◌, ℕ, ⊤}
use Rattle.cfg_grammar.specs.declared.grammar.Grammar.{Grammar}
use Rattle.script_meaning.specs.Programs.{PlainProgram}
use Rattle.program_lowering.specs.Short.{HasLongText}
use Rattle.dtd_model.specs.Table.{Table}
use Rattle.content_automata.specs.Decides.{shapes_in}
use Rattle.content_automata.specs.Refusals.{PassLimit}
use Rattle.page_decision.specs.declared.goal.Goal.{Goal}
use Rattle.page_decision.specs.PageVerdicts.{HasManyPairs, HasManyOpenTags}
use Rattle.broken_readers.specs.Laws.{WayStep, WayEnd}
use Rattle.way_reader.specs.PageWays.{ArePageWays}
use Rattle.way_reader.specs.Reader.{starts_at}
use Rattle.way_reader.specs.Ways.{first_state}
use Rattle.way_reader.specs.declared.reader.PieceWays.{PieceWays}
use Rattle.script_decision.specs.declared.answer.Answer.{Answer}
use Rattle.loose_grammar.specs.declared.refusal.TheConstants.{ITEM_LIMIT}
use Rattle.loose_grammar.specs.Pages.{IsLoosePage}
use Rattle.script_decision.specs.Answers as by_machine
use Rattle.script_decision.specs.Answers.{EachIsGood, IsCounterexample}
use Rattle.script_decision.specs.Searches.{IsSearched}
use Rattle.script_decision.specs.declared.refusal.CheckRefusal.{CheckRefusal}
use Rattle.script_decision.specs.declared.refusal.CheckRefusal.TheVariants as refusal

-- an image has at least so many items: that of an operation of the program, or, behind a search for a broken page, that of its loose pages
-- under the reader of the definition's pages, which goes by ways that are the definition's forms
abbrev pub HasManyItems : Table → PlainProgram → ℕ → Type 0
HasManyItems table program count = (ways : PieceWays) × ArePageWays table ways
    × by_machine.HasManyItems first_state (WayStep ways.arena (starts_at ways.starts)) table program count

-- the grammar is an image, under such a reader, of the grammar of loose pages that is made of the program
abbrev pub IsReaderImage : Table → PlainProgram → Grammar → Type 0
IsReaderImage table program image = (ways : PieceWays) × ArePageWays table ways
    × by_machine.IsPageImage first_state (WayStep ways.arena (starts_at ways.starts)) (WayEnd ways.arena (starts_at ways.starts))
    program image

-- yes: each loose page is good; no: a derivation of one that is not; a stated count that is passed, behind a search for a broken page: of
-- sums of the sentences of a nonterminal, of unmatched tags, of items
abbrev pub IsAnswerOf : Goal → Table → PlainProgram → ℕ → Answer → Type 0
IsAnswerOf goal table program limit Answer.Yes = EachIsGood goal table program
IsAnswerOf goal table program limit (Answer.No derivation) = IsCounterexample goal table program derivation
IsAnswerOf goal table program limit (Answer.Pairs count height) =
    IsSearched table program × HasManyPairs table (IsLoosePage program) (IsReaderImage table program) goal limit count height
IsAnswerOf goal table program limit (Answer.Tags count height) =
    IsSearched table program × HasManyOpenTags table (IsLoosePage program) (IsReaderImage table program) goal count height
IsAnswerOf goal table program limit (Answer.Items count) = (ITEM_LIMIT < count) × HasManyItems table program count

-- the content models of the definition pass a limit, by so many: on their states, on their pairs of positions, or on the moves of the states
abbrev pub HasLargeModels : Table → ℕ → Type 0
HasLargeModels table count = PassLimit (shapes_in table) count

-- the program is refused, for this reason; want of memory says nothing
abbrev pub IsCheckRefusal : Table → PlainProgram → CheckRefusal → Type 0
IsCheckRefusal table program (refusal.Limit count) = HasLargeModels table count
IsCheckRefusal table program refusal.LongText = HasLongText program
IsCheckRefusal table program refusal.Memory = ⊤
