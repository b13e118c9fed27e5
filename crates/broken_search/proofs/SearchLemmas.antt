-- What is found is broken, and nothing that is broken is missed.
use Rattle.std.specs.Prelude.{◌≤◌, ◌<◌, ℕ, List, All, Option, Some, None, IfSome, IfNone}
use Rattle.std.proofs.Common.{sym, ◌∙◌, true≢false}
use Rattle.cfg_grammar.specs.declared.grammar.Grammar.{Grammar}
use Rattle.derivations.specs.declared.derivation.Derivation.{Derivation}
use Rattle.dtd_model.specs.Table.{Table}
use Rattle.page_model.specs.Broken.{Broken}
use Rattle.tag_sums.specs.Nesting.{nest_of, is_balanced, nest_count}
use Rattle.page_decision.specs.TextVerdicts.{IsNotWhole, NoneFound}
use Rattle.page_decision.specs.Machines.{PutsNoTags}
use Rattle.page_decision.proofs.FoundLemmas.{all_nested}
use Rattle.derivatives.specs.declared.arena.Arena.{Arena}
use Rattle.page_model.specs.Places.{Place}
use Rattle.grammar_image.specs.declared.refusal.ImageRefusal.{ImageRefusal}
use Rattle.grammar_image.specs.declared.refusal.ImageRefusal.TheVariants.{Large, Memory}
use Rattle.grammar_image.specs.Refusals.{IsCause}
use Rattle.way_reader.specs.declared.way.Way.{Way}
use Rattle.way_reader.specs.Laws.{HaveTexts}
use Rattle.way_reader.specs.Ways.{first_state}
use Rattle.broken_forms.specs.LooseForms.{loose_forms}
use Rattle.broken_readers.specs.Laws.{WayStep, WayPuts, LooseMissesNone}
use Rattle.broken_readers.specs.Starts.{AreLooseWays}
use Rattle.broken_search.specs.Found.{IsBrokenPage, IsSearchCause}

pub if_some : {A : Type 0} (P Q : A → Type 0) (o : Option A) → ((a : A) → P a → Q a) → IfSome o P → IfSome o Q
if_some P Q (Some a) go h = go a h
if_some P Q None go h = tt

pub if_none : {A P Q : Type 0} (o : Option A) → (P → Q) → IfNone o P → IfNone o Q
if_none (Some a) go h = tt
if_none None go h = go h

module _ (misses : LooseMissesNone) (table : Table) (a : Arena) (starts : Place → List Way) (texts : HaveTexts (loose_forms table) a starts) (IsPage : List ℕ → Type 0)
    (fits : (page : List ℕ) → IsPage page → All (λ byte. byte < 256) page) (Derives : Derivation → List ℕ → Type 0) where
  pub is_broken : (d : Derivation) → IsNotWhole IsPage (WayPuts a starts) nest_of is_balanced Derives d → IsBrokenPage table IsPage Derives d
  is_broken d h = record {
    page = h.text;
    is_page = h.is_text;
    broken = (misses table a starts texts h.text h.not_whole.tokens (fits h.text h.is_text) h.not_whole.has).0 h.not_whole.sum;
    derives = h.derives;
  }

  pub none_broken : PutsNoTags IsPage (WayPuts a starts) → (IsImage : Grammar → Type 0) (limit : ℕ) → 2 ≤ limit
      → NoneFound IsPage (WayPuts a starts) nest_of is_balanced IsImage nest_count limit → (page : List ℕ) → IsPage page → Broken table page → ⊥
  none_broken no_tags IsImage limit two none page is broken =
      let h = all_nested IsPage (WayPuts a starts) no_tags IsImage limit two none page is in
      true≢false (sym h.sum ∙ (misses table a starts texts page h.tokens (fits page is) h.has).1 broken)

-- a cause of the image is one of the search
pub search_cause : (table : Table) (grammar : Grammar) (items : ℕ) (a : Arena) (starts : Place → List Way) → AreLooseWays table a starts → (refusal : ImageRefusal)
    → IsCause grammar.productions.items (WayStep a starts) grammar.start first_state items refusal → IsSearchCause table grammar items refusal
search_cause table grammar items a starts ways (Large count) c = (a, starts, ways, c)
search_cause table grammar items a starts ways Memory c = tt
