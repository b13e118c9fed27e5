-- Machines that read pages.
use Rattle.std.specs.Prelude.{◌≡◌, ◌<◌, ℕ, Bool, true, false, List, All}
use Rattle.std.specs.List.{list_all}
use Rattle.text_base.specs.declared.letter.Letter.{Letter}
use Rattle.text_base.specs.declared.page_token.PageToken.{PageToken}
use Rattle.text_base.specs.declared.page_token.PageToken.TheVariants as token
use Rattle.dtd_model.specs.Table.{Table}
use Rattle.page_model.specs.PageTokens.{PageTokens}
use Rattle.tag_sums.specs.Nesting.{nest_of, is_balanced}
use Rattle.page_decision.specs.declared.goal.Goal.{Goal}
use Rattle.page_decision.specs.Goals.{IsGood}
use Rattle.page_decision.specs.Echoes.{IsEchoing, PutsTokens}

module _ {S : Type 0} (table : Table) (first : S) (steps : S → ℕ → S → List Letter → Type 0) (ends : S → List Letter → Type 0) where
  -- the machine copies each page of bytes and puts its tokens between its bytes
  pub record IsPageMachine : Type 0 where
    pub echoing : IsEchoing first steps ends
    pub tokens : (page : List ℕ) (tokens : List PageToken) → All (λ byte. byte < 256) page → PutsTokens first steps ends page tokens
        → PageTokens table page tokens

  -- the machine copies each page, and where the tokens that it puts between the bytes are not nested, the page is good by no goal
  pub record IsBrokenMachine : Type 0 where
    pub echoing : IsEchoing first steps ends
    pub broken : (page : List ℕ) (tokens : List PageToken) → All (λ byte. byte < 256) page → PutsTokens first steps ends page tokens
        → is_balanced (nest_of tokens) ≡ false → (goal : Goal) → IsGood goal table page → ⊥

-- the token is no tag
abbrev pub is_no_tag : PageToken → Bool
is_no_tag (token.Start e) = false
is_no_tag (token.End e) = false
is_no_tag t = true

-- no tags are among the tokens of a page
abbrev pub PutsNoTags : (List ℕ → Type 0) → (List ℕ → List PageToken → Type 0) → Type 0
PutsNoTags IsPage HasTokens = (page : List ℕ) (tokens : List PageToken) → IsPage page → HasTokens page tokens
    → list_all is_no_tag tokens ≡ true
