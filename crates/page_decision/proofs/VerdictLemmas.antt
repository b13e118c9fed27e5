-- Answers on the tokens of pages are answers on whether the pages are good.
use Rattle.std.proofs.Common.{◌≡◌, ◌<◌, ◌↔◌, ℕ, Bool, true, List, subst}
use Rattle.std.specs.Prelude.{All}
use Rattle.text_base.specs.declared.letter.Letter.{Letter}
use Rattle.text_base.specs.declared.page_token.PageToken.{PageToken}
use Rattle.cfg_grammar.specs.declared.grammar.Grammar.{Grammar}
use Rattle.dtd_model.specs.Table.{Table}
use Rattle.derivations.specs.declared.derivation.Derivation.{Derivation}
use Rattle.page_model.specs.PageTokens.{PageTokens}
use Rattle.page_automata.specs.PageAutomaton.{Parts, parts_of, page_automaton}
use Rattle.page_automata.specs.Whole.{is_whole}
use Rattle.dyck_balance.specs.declared.summary.Nesting.{Nesting}
use Rattle.tag_sums.specs.Nesting.{nest_of, is_balanced, nest_count}
use Rattle.tag_sums.specs.Sum.{sum_of, tag_count}
use Rattle.segment_summary.specs.declared.segments.Segments.{Segments}
use Rattle.segment_summary.specs.Parts.{parts_in}
use Rattle.summary_decision.specs.declared.verdict.Verdict.{Verdict}
use Rattle.summary_decision.specs.declared.verdict.Verdict.TheVariants.{Yes, No, Pairs, Tags}
use Rattle.page_decision.specs.declared.goal.Goal.{Goal}
use Rattle.page_decision.specs.Goals.{IsGood}
use Rattle.page_decision.specs.Telling.{AreStatesOf, TellsGood, SumsTellValid, NestsTellNested}
use Rattle.page_decision.specs.Echoes.{PutsTokens}
use Rattle.page_decision.specs.TextVerdicts.{HasSum, IsNotWhole, IsTextVerdict}
use Rattle.page_decision.proofs.TextAlongLemmas.{verdict_along}
use Rattle.page_decision.specs.Machines.{IsPageMachine, IsBrokenMachine}
use Rattle.page_decision.specs.declared.sums.PageSums.{PageSums}
use Rattle.page_decision.specs.PageSums.{AreSegmentsOf, AreSumsOf}
use Rattle.page_decision.specs.PageVerdicts.{IsBadPage, IsPageVerdict}

-- segments are the sums of one goal alone, and nesting is that of the other
pub only_valid : (P : Goal → Type 0) (table : Table) (goal : Goal) (segments : Segments) → AreSumsOf goal table (PageSums.BySegments segments) → (AreSegmentsOf table segments → P Goal.Valid) → P goal
only_valid P table Goal.Valid segments are make = make are
only_valid P table Goal.Nested segments are make = absurd are

pub only_nested : (P : Goal → Type 0) (table : Table) (goal : Goal) (nesting : Nesting) → AreSumsOf goal table (PageSums.ByNesting nesting) → P Goal.Nested → P goal
only_nested P table Goal.Valid nesting are make = absurd are
only_nested P table Goal.Nested nesting are make = make

itself : (IsPage : List ℕ → Type 0) (page : List ℕ) → IsPage page ↔ IsPage page
itself IsPage page = (λ h. h, λ h. h)

module _ (table : Table) (IsPage : List ℕ → Type 0) (Derives : Derivation → List ℕ → Type 0) where
  module _ {S : Type 0} (goal : Goal) (sum : List PageToken → S) (whole : S → Bool) (tells : TellsGood goal table sum whole) where
    good_by_sum : (page : List ℕ) → HasSum IsPage (PageTokens table) sum whole page true → IsGood goal table page
    good_by_sum page h = (tells page h.tokens h.has).0 h.sum

    bad_by_sum : (d : Derivation) → IsNotWhole IsPage (PageTokens table) sum whole Derives d → IsBadPage table IsPage Derives goal d
    bad_by_sum d h = record {
      page = h.text;
      is_page = h.is_text;
      bad = λ good. let w : whole (sum h.not_whole.tokens) ≡ true = (tells h.text h.not_whole.tokens h.not_whole.has).1 good in cc (w, h.not_whole.sum);
      derives = h.derives;
    }

  module _ (IsImage : Grammar → Type 0) where
    -- by the automaton of the definition
    of_sums : SumsTellValid → (parts : Parts) → AreStatesOf table parts.states → parts ≡ parts_of table parts.states → (limit : ℕ) (v : Verdict)
        → IsTextVerdict IsPage (PageTokens table) (sum_of (page_automaton parts)) (is_whole (page_automaton parts)) IsImage Derives tag_count limit v → IsPageVerdict table IsPage IsImage Derives Goal.Valid limit v
    of_sums law parts states same limit v is = go v (subst (λ (p : Parts). IsTextVerdict IsPage (PageTokens table) (sum_of (page_automaton p)) (is_whole (page_automaton p)) IsImage Derives tag_count limit v) same is)
      where
        go : (v : Verdict) → IsTextVerdict IsPage (PageTokens table) (sum_of (page_automaton (parts_of table parts.states))) (is_whole (page_automaton (parts_of table parts.states))) IsImage Derives tag_count limit v
            → IsPageVerdict table IsPage IsImage Derives Goal.Valid limit v
        go Yes all = λ page is_page. good_by_sum Goal.Valid _ _ (law table parts.states states) page (all page is_page)
        go (No d) h = bad_by_sum Goal.Valid _ _ (law table parts.states states) d h
        go (Pairs count height) h = (parts.states, states, h)
        go (Tags count height) h = (parts.states, states, h)

    of_nests : NestsTellNested → (limit : ℕ) (v : Verdict) → IsTextVerdict IsPage (PageTokens table) nest_of is_balanced IsImage Derives nest_count limit v → IsPageVerdict table IsPage IsImage Derives Goal.Nested limit v
    of_nests law limit Yes all = λ page is_page. good_by_sum Goal.Nested nest_of is_balanced (law table) page (all page is_page)
    of_nests law limit (No d) h = bad_by_sum Goal.Nested nest_of is_balanced (law table) d h
    of_nests law limit (Pairs count height) h = h
    of_nests law limit (Tags count height) h = h

  module _ (fits : (page : List ℕ) → IsPage page → All (λ byte. byte < 256) page) {S : Type 0} (first : S) (steps : S → ℕ → S → List Letter → Type 0) (ends : S → List Letter → Type 0) where
    has_tokens : IsPageMachine table first steps ends → (page : List ℕ) (tokens : List PageToken) → IsPage page → PutsTokens first steps ends page tokens → PageTokens table page tokens
    has_tokens machine page tokens is puts = machine.tokens page tokens (fits page is) puts

    pub valid_verdict : SumsTellValid → IsPageMachine table first steps ends → (segments : Segments) → AreSegmentsOf table segments → (IsImage : Grammar → Type 0) (limit : ℕ) (v : Verdict)
        → IsTextVerdict IsPage (PutsTokens first steps ends) (sum_of (page_automaton (parts_in segments))) (is_whole (page_automaton (parts_in segments))) IsImage Derives tag_count limit v
        → IsPageVerdict table IsPage IsImage Derives Goal.Valid limit v
    valid_verdict law machine segments are IsImage limit v h =
        of_sums IsImage law (parts_in segments) are.states are.parts limit v
        (verdict_along IsPage IsPage (PutsTokens first steps ends) (PageTokens table) (itself IsPage) (has_tokens machine) (sum_of (page_automaton (parts_in segments))) (is_whole (page_automaton (parts_in segments)))
        IsImage IsImage (λ image is. is) Derives tag_count limit v h)

    pub nested_verdict : NestsTellNested → IsPageMachine table first steps ends → (IsImage : Grammar → Type 0) (limit : ℕ) (v : Verdict)
        → IsTextVerdict IsPage (PutsTokens first steps ends) nest_of is_balanced IsImage Derives nest_count limit v → IsPageVerdict table IsPage IsImage Derives Goal.Nested limit v
    nested_verdict law machine IsImage limit v h =
        of_nests IsImage law limit v (verdict_along IsPage IsPage (PutsTokens first steps ends) (PageTokens table) (itself IsPage) (has_tokens machine) nest_of is_balanced
        IsImage IsImage (λ image is. is) Derives nest_count limit v h)

    -- what the machine of broken pages finds is bad
    pub broken_is_bad : IsBrokenMachine table first steps ends → (goal : Goal) (d : Derivation) → IsNotWhole IsPage (PutsTokens first steps ends) nest_of is_balanced Derives d → IsBadPage table IsPage Derives goal d
    broken_is_bad machine goal d h = record {
      page = h.text;
      is_page = h.is_text;
      bad = machine.broken h.text h.not_whole.tokens (fits h.text h.is_text) h.not_whole.has h.not_whole.sum goal;
      derives = h.derives;
    }
