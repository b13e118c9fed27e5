-- From an answer on texts by their tokens to an answer on pages.
use Rattle.std.proofs.Common.{◌≡◌, ◌<◌, ℕ, Bool, true, List, subst}
use Rattle.std.specs.Prelude.{All}
use Rattle.text_base.specs.declared.letter.Letter.{Letter}
use Rattle.text_base.specs.declared.page_token.PageToken.{PageToken}
use Rattle.cfg_grammar.specs.declared.grammar.Grammar.{Grammar}
use Rattle.dtd_model.specs.Table.{Table}
use Rattle.derivations.specs.declared.derivation.Derivation.{Derivation}
use Rattle.page_automata.specs.PageAutomaton.{Parts, parts_of, page_automaton}
use Rattle.page_automata.specs.Whole.{is_whole}
use Rattle.tag_sums.specs.Nesting.{nest_of, is_balanced, nest_count}
use Rattle.tag_sums.specs.Sum.{sum_of, tag_count}
use Rattle.segment_summary.specs.declared.segments.Segments.{Segments}
use Rattle.segment_summary.specs.Parts.{parts_in}
use Rattle.page_decision.specs.declared.goal.Goal.{Goal}
use Rattle.page_decision.specs.Goals.{IsGood}
use Rattle.page_decision.specs.Telling.{TellsGood, SumsTellValid, NestsTellNested}
use Rattle.page_decision.specs.Echoes.{PutsTokens}
use Rattle.page_decision.specs.Machines.{IsPageMachine}
use Rattle.page_decision.specs.PageSums.{AreSegmentsOf}
use Rattle.short_sentences.specs.declared.answer.ShortAnswer.{ShortAnswer}
use Rattle.short_sentences.specs.declared.answer.ShortAnswer.TheVariants.{Whole, Shortest, Pairs, Tags}
use Rattle.short_page.specs.ShortTexts.{IsWholeText, AreShorterWhole, IsShortTextAnswer}
use Rattle.short_page.specs.ShortPages.{AreShorterGood, IsShortestBad, IsShortPageAnswer}

module _ (table : Table) (IsPage : List ℕ → Type 0) (Derives : Derivation → List ℕ → Type 0) (fits : (page : List ℕ) → IsPage page → All (λ byte. byte < 256) page)
    {S : Type 0} (first : S) (steps : S → ℕ → S → List Letter → Type 0) (ends : S → List Letter → Type 0) (machine : IsPageMachine table first steps ends) (IsImage : Grammar → Type 0) where
  abbrev Puts : List ℕ → List PageToken → Type 0
  Puts = PutsTokens first steps ends

  module _ {T : Type 0} (goal : Goal) (sum : List PageToken → T) (whole : T → Bool) (tells : TellsGood goal table sum whole) where
    good_by_sum : (page : List ℕ) → IsPage page → IsWholeText IsPage Puts sum whole page → IsGood goal table page
    good_by_sum page is h = (tells page h.has.tokens (machine.tokens page h.has.tokens (fits page is) h.has.has)).0 h.has.sum

    shorter_good : (l : ℕ) → AreShorterWhole IsPage Puts sum whole l → AreShorterGood table IsPage goal l
    shorter_good l all page is less = good_by_sum page is (all page is less)

    shortest_bad : (tags : T → ℕ) (limit : ℕ) (d : Derivation) → IsShortTextAnswer IsPage Puts sum whole IsImage Derives tags limit (Shortest d) → IsShortestBad table IsPage Derives goal d
    shortest_bad tags limit d h = record {
      page = h.text;
      is_page = h.is_text;
      bad = λ good.
          let has = machine.tokens h.text h.not_whole.tokens (fits h.text h.is_text) h.not_whole.has in
          let w : whole (sum h.not_whole.tokens) ≡ true = (tells h.text h.not_whole.tokens has).1 good in
          cc (w, h.not_whole.sum);
      derives = h.derives;
      shortest = λ other is less few. good_by_sum other is (h.shortest other is less few);
    }

  -- by the automaton of the definition
  pub valid_answer : SumsTellValid → (segments : Segments) → AreSegmentsOf table segments → (limit : ℕ) (answer : ShortAnswer)
      → IsShortTextAnswer IsPage Puts (sum_of (page_automaton (parts_in segments))) (is_whole (page_automaton (parts_in segments))) IsImage Derives tag_count limit answer
      → IsShortPageAnswer table IsPage IsImage Derives Goal.Valid limit answer
  valid_answer law segments are limit answer is =
      go answer (subst (λ (p : Parts). IsShortTextAnswer IsPage Puts (sum_of (page_automaton p)) (is_whole (page_automaton p)) IsImage Derives tag_count limit answer) are.parts is)
    where
      go : (answer : ShortAnswer) → IsShortTextAnswer IsPage Puts (sum_of (page_automaton (parts_of table (parts_in segments).states))) (is_whole (page_automaton (parts_of table (parts_in segments).states))) IsImage Derives tag_count limit answer
          → IsShortPageAnswer table IsPage IsImage Derives Goal.Valid limit answer
      go Whole all = λ page is_page. good_by_sum Goal.Valid _ _ (law table (parts_in segments).states are.states) page is_page (all page is_page)
      go (Shortest d) h = shortest_bad Goal.Valid _ _ (law table (parts_in segments).states are.states) tag_count limit d h
      go (Pairs count l) h = (
        (parts_in segments).states,
        are.states,
        record { image = h.image; is_image = h.is_image; over = h.over; sums = h.sums; good_below = shorter_good Goal.Valid _ _ (law table (parts_in segments).states are.states) l h.whole_below },
      )
      go (Tags count l) h = (
        (parts_in segments).states,
        are.states,
        record {
          image = h.image;
          is_image = h.is_image;
          over = h.over;
          nonterminal = h.nonterminal;
          sum = h.sum;
          of_sentence = h.of_sentence;
          tagged = h.tagged;
          good_below = shorter_good Goal.Valid _ _ (law table (parts_in segments).states are.states) l h.whole_below;
        },
      )

  pub nested_answer : NestsTellNested → (limit : ℕ) (answer : ShortAnswer) → IsShortTextAnswer IsPage Puts nest_of is_balanced IsImage Derives nest_count limit answer
      → IsShortPageAnswer table IsPage IsImage Derives Goal.Nested limit answer
  nested_answer law limit Whole all = λ page is_page. good_by_sum Goal.Nested nest_of is_balanced (law table) page is_page (all page is_page)
  nested_answer law limit (Shortest d) h = shortest_bad Goal.Nested nest_of is_balanced (law table) nest_count limit d h
  nested_answer law limit (Pairs count l) h =
      record { image = h.image; is_image = h.is_image; over = h.over; sums = h.sums; good_below = shorter_good Goal.Nested nest_of is_balanced (law table) l h.whole_below }
  nested_answer law limit (Tags count l) h = record {
    image = h.image;
    is_image = h.is_image;
    over = h.over;
    nonterminal = h.nonterminal;
    sum = h.sum;
    of_sentence = h.of_sentence;
    tagged = h.tagged;
    good_below = shorter_good Goal.Nested nest_of is_balanced (law table) l h.whole_below;
  }
