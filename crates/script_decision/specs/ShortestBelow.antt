-- What is found of short pages. No public clause cites these.
use Rattle.std.specs.Prelude.{◌≤◌, ◌↔◌, ℕ, List, length, ⊤}
use Rattle.cfg_grammar.specs.declared.symbol.Symbol.TheVariants.{Nt}
use Rattle.cfg_grammar.specs.declared.grammar.Grammar.{Grammar}
use Rattle.dtd_model.specs.Table.{Table}
use Rattle.broken_readers.specs.Laws.{WayStep, WayEnd}
use Rattle.way_reader.specs.Reader.{starts_at}
use Rattle.way_reader.specs.Ways.{first_state}
use Rattle.way_reader.specs.declared.reader.PieceWays.{PieceWays}
use Rattle.fst_core.specs.Outputs.{DerivesText}
use Rattle.page_decision.specs.declared.goal.Goal.{Goal}
use Rattle.page_decision.specs.Goals.{IsGood}
use Rattle.page_decision.specs.Echoes.{IsMachineImage}
use Rattle.page_decision.specs.TextVerdicts.{IsDerivationOf}
use Rattle.script_meaning.specs.Programs.{PlainProgram}
use Rattle.loose_grammar.specs.Pages.{IsLoosePage}
use Rattle.short_sentences.specs.declared.answer.ShortAnswer.{ShortAnswer}
use Rattle.short_page.specs.ShortPages.{IsShortPageAnswer}
use Rattle.script_decision.specs.ShortestAnswers.{IsShownShortest}
use Rattle.script_decision.specs.declared.shortest_below.Below.{Below}
use Rattle.script_decision.specs.declared.shortest_below.Below.TheVariants.{Good, Bad, Open}

-- what is found of the pages of a grammar, by the reader of these ways
abbrev pub IsFound : Goal → Table → PieceWays → Grammar → ℕ → ShortAnswer → Type 0
IsFound goal table ways grammar limit found =
    IsShortPageAnswer table (DerivesText grammar.productions.items (Nt grammar.start))
    (IsMachineImage grammar first_state (WayStep ways.arena (starts_at ways.starts)) (WayEnd ways.arena (starts_at ways.starts)))
    (IsDerivationOf grammar) goal limit found

-- the one grammar derives the texts of at most so many bytes that the other derives
abbrev pub IsCutOf : Grammar → ℕ → Grammar → Type 0
IsCutOf grammar most cut = (text : List ℕ) → DerivesText cut.productions.items (Nt cut.start) text
    ↔ (DerivesText grammar.productions.items (Nt grammar.start) text × (length text ≤ most))

-- each loose page of at most so many bytes is good; what is shown of a shortest one that is not; or nothing
abbrev pub IsBelow : Goal → Table → PlainProgram → ℕ → Below → Type 0
IsBelow goal table program most Good = (page : List ℕ) → IsLoosePage program page → length page ≤ most → IsGood goal table page
IsBelow goal table program most (Bad shown) = IsShownShortest goal table program shown
IsBelow goal table program most Open = ⊤
