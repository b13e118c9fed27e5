-- When tokens are those of a valid page, without a word on bytes: they are the flat list of a tree (XML 1.0, 2.8 and 3).
use Rattle.std.specs.Prelude.{◌≡◌, ℕ, Bool, true, ◌&&◌, List, [], ◌∷◌, length, Option, Some, None, codes, slice_get}
use Rattle.text_base.specs.declared.page_token.PageToken.{PageToken}
use Rattle.text_base.specs.declared.page_token.PageToken.TheVariants as token
use Rattle.dtd_model.specs.declared.dtd.DoctypeRule.{DoctypeRule}
use Rattle.dtd_model.specs.declared.dtd.DoctypeRule.TheVariants.{Strict, Free}
use Rattle.dtd_model.specs.Table.{Rule, Table}
use Rattle.dtd_model.specs.Matches.{matches}
use Rattle.page_model.specs.PageTokens.{sort_token}
use Rattle.page_model.specs.Valid.{Sort, is_between, may_hold, place_of}

-- trees beside one another: what is no element, and elements with the trees in them; an element is its place
pub data Trees : Type 0 where
  no_trees : Trees
  single : Sort → Trees → Trees
  tree : ℕ → Trees → Trees → Trees

-- the tokens of the trees in turn, with what stands in an element between its start and its end, and those behind them
abbrev pub trees_then : Trees → List PageToken → List PageToken
trees_then no_trees behind = behind
trees_then (single sort more) behind = sort_token sort ∷ trees_then more behind
trees_then (tree e inside more) behind =
    token.Start (record { 0 = e }) ∷ trees_then inside (token.End (record { 0 = e }) ∷ trees_then more behind)

-- the elements among the trees, but for those inside others
abbrev pub roots : Trees → List ℕ
roots no_trees = []
roots (single sort more) = roots more
roots (tree e inside more) = e ∷ roots more

-- what is no element among the trees, but for what is inside elements, passes the test
abbrev pub singles_pass : (Sort → Bool) → Trees → Bool
singles_pass may no_trees = true
singles_pass may (single sort more) = may sort && singles_pass may more
singles_pass may (tree e inside more) = singles_pass may more

-- the element is declared, and what it holds is as declared
pub record TreeFits (table : Table) (e : ℕ) (inside : Trees) : Type 0 where
  pub rule : Rule
  pub declared : slice_get table.elements e ≡ Some rule
  pub held : singles_pass (may_hold rule.holding) inside ≡ true
  pub elements : matches (length table.elements) rule.holding (roots inside) ≡ true

-- each element among the trees fits, and each inside it
abbrev pub TreesFit : Table → Trees → Type 0
TreesFit table no_trees = Unit {0}
TreesFit table (single sort more) = TreesFit table more
TreesFit table (tree e inside more) = TreeFits table e inside × TreesFit table inside × TreesFit table more

-- what may stand before the root and its neighbours: trees and a document type declaration, or neither
abbrev pub prolog_then : Option Trees → List PageToken → List PageToken
prolog_then None behind = behind
prolog_then (Some trees) behind = trees_then trees (token.Doctype ∷ behind)

-- no element and no text stands before the declaration, which a definition may demand
abbrev pub PrologFits : DoctypeRule → Option Trees → Type 0
PrologFits Free None = Unit {0}
PrologFits Strict None = ⊥
PrologFits rule (Some trees) = (roots trees ≡ []) × (singles_pass is_between trees ≡ true)

-- the tokens are those of a prolog as the definition asks and of trees with one root, `html`, where each element holds what is declared
pub record TokenTree (table : Table) (tokens : List PageToken) : Type 0 where
  pub before : Option Trees
  pub trees : Trees
  pub flat : prolog_then before (trees_then trees []) ≡ tokens
  pub prolog : PrologFits table.doctype before
  -- one element `html`, with only white space, comments and instructions round it
  pub root : roots trees ≡ place_of table.elements (codes "html") ∷ []
  pub around : singles_pass is_between trees ≡ true
  pub fits : TreesFit table trees
