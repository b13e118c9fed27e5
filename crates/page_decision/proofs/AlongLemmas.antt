-- An answer on pages is one on the same pages said otherwise, and over wider images.
use Rattle.std.proofs.Common.{◌↔◌, ℕ, List}
use Rattle.text_base.specs.declared.page_token.PageToken.{PageToken}
use Rattle.cfg_grammar.specs.declared.grammar.Grammar.{Grammar}
use Rattle.derivations.specs.declared.derivation.Derivation.{Derivation}
use Rattle.dtd_model.specs.Table.{Table}
use Rattle.page_model.specs.PageTokens.{PageTokens}
use Rattle.summary_decision.specs.declared.verdict.Verdict.{Verdict}
use Rattle.summary_decision.specs.declared.verdict.Verdict.TheVariants.{Yes, No, Pairs, Tags}
use Rattle.page_decision.specs.declared.goal.Goal.{Goal}
use Rattle.page_decision.proofs.TextAlongLemmas.{sums_along, tags_along}
use Rattle.page_decision.specs.PageVerdicts.{HasManyPairs, HasManyOpenTags, IsPageVerdict}

module _ (table : Table) (IsPage Other : List ℕ → Type 0) (same : (page : List ℕ) → IsPage page ↔ Other page)
    (IsImage Wider : Grammar → Type 0) (of_image : (image : Grammar) → IsImage image → Wider image) where
  as_it_is : (page : List ℕ) (tokens : List PageToken) → IsPage page → PageTokens table page tokens → PageTokens table page tokens
  as_it_is page tokens is has = has

  pairs_along : (goal : Goal) (limit count height : ℕ) → HasManyPairs table IsPage IsImage goal limit count height → HasManyPairs table Other Wider goal limit count height
  pairs_along Goal.Valid limit count height (states, are, many) =
      (states, are, sums_along IsPage Other (PageTokens table) (PageTokens table) same as_it_is _ _ IsImage Wider of_image limit count height many)
  pairs_along Goal.Nested limit count height many = sums_along IsPage Other (PageTokens table) (PageTokens table) same as_it_is _ _ IsImage Wider of_image limit count height many

  open_tags_along : (goal : Goal) (count height : ℕ) → HasManyOpenTags table IsPage IsImage goal count height → HasManyOpenTags table Other Wider goal count height
  open_tags_along Goal.Valid count height (states, are, many) =
      (states, are, tags_along IsPage Other (PageTokens table) (PageTokens table) same as_it_is _ _ IsImage Wider of_image _ count height many)
  open_tags_along Goal.Nested count height many = tags_along IsPage Other (PageTokens table) (PageTokens table) same as_it_is _ _ IsImage Wider of_image _ count height many

  pub page_verdict_along : (Derives Leads : Derivation → List ℕ → Type 0) → ((d : Derivation) (page : List ℕ) → Derives d page → Leads d page) → (goal : Goal) (limit : ℕ) (v : Verdict)
      → IsPageVerdict table IsPage IsImage Derives goal limit v → IsPageVerdict table Other Wider Leads goal limit v
  page_verdict_along Derives Leads leads goal limit Yes all = λ page is. all page ((same page).1 is)
  page_verdict_along Derives Leads leads goal limit (No d) h = record { page = h.page; is_page = (same h.page).0 h.is_page; bad = h.bad; derives = leads d h.page h.derives }
  page_verdict_along Derives Leads leads goal limit (Pairs count height) h = pairs_along goal limit count height h
  page_verdict_along Derives Leads leads goal limit (Tags count height) h = open_tags_along goal count height h
