-- From the nodes of a page to the trees of its tokens.
use Rattle.std.proofs.Common.{◌≡◌, ℕ, Bool, ◌&&◌, List, ◌∷◌, map, refl, ◌∙◌, ap, length}
use Rattle.text_base.specs.declared.page_token.PageToken.{PageToken}
use Rattle.text_base.specs.declared.page_token.PageToken.TheVariants as token
use Rattle.dtd_model.specs.Matches.{matches}
use Rattle.dtd_model.specs.Table.{Table}
use Rattle.page_model.specs.Nodes.{Nodes, no_nodes, other, element, empty_element, nodes_then}
use Rattle.page_model.specs.PageTokens.{tokens_then, sort_token, element_of}
use Rattle.page_model.specs.Pieces.{Piece}
use Rattle.page_model.specs.TokenTree.{Trees, no_trees, single, tree, trees_then, roots, singles_pass, TreeFits, TreesFit}
use Rattle.page_model.specs.Valid.{Sort, sort_of, may_hold, place_of, element_names, are_held, ElementFits, NodesFit}
use Rattle.page_model.proofs.Names.{found_at}

abbrev pub trees_of : Table → Nodes → Trees
trees_of table no_nodes = no_trees
trees_of table (other l more) = single (sort_of l) (trees_of table more)
trees_of table (element tag inside space more) = tree (place_of table.elements tag.name) (trees_of table inside) (trees_of table more)
trees_of table (empty_element tag more) = tree (place_of table.elements tag.name) no_trees (trees_of table more)

pub tokens_of_nodes : (table : Table) (nodes : Nodes) (ps : List Piece) (behind : List PageToken) → tokens_then table (nodes_then nodes ps) behind ≡ trees_then (trees_of table nodes) (tokens_then table ps behind)
tokens_of_nodes table no_nodes ps behind = refl
tokens_of_nodes table (other l more) ps behind = ap (λ (ts : List PageToken). sort_token (sort_of l) ∷ ts) (tokens_of_nodes table more ps behind)
tokens_of_nodes table (element tag inside space more) ps behind =
    ap (λ (ts : List PageToken). token.Start (element_of table tag.name) ∷ ts) (tokens_of_nodes table inside _ behind
    ∙ ap (λ (ts : List PageToken). trees_then (trees_of table inside) (token.End (element_of table tag.name) ∷ ts)) (tokens_of_nodes table more ps behind))
tokens_of_nodes table (empty_element tag more) ps behind =
    ap (λ (ts : List PageToken). token.Start (element_of table tag.name) ∷ token.End (element_of table tag.name) ∷ ts) (tokens_of_nodes table more ps behind)

pub roots_of_nodes : (table : Table) (nodes : Nodes) → roots (trees_of table nodes) ≡ map (place_of table.elements) (element_names nodes)
roots_of_nodes table no_nodes = refl
roots_of_nodes table (other l more) = roots_of_nodes table more
roots_of_nodes table (element tag inside space more) = ap (λ (es : List ℕ). place_of table.elements tag.name ∷ es) (roots_of_nodes table more)
roots_of_nodes table (empty_element tag more) = ap (λ (es : List ℕ). place_of table.elements tag.name ∷ es) (roots_of_nodes table more)

pub singles_of_nodes : (table : Table) (may : Sort → Bool) (nodes : Nodes) → singles_pass may (trees_of table nodes) ≡ are_held may nodes
singles_of_nodes table may no_nodes = refl
singles_of_nodes table may (other l more) = ap (λ (b : Bool). may (sort_of l) && b) (singles_of_nodes table may more)
singles_of_nodes table may (element tag inside space more) = singles_of_nodes table may more
singles_of_nodes table may (empty_element tag more) = singles_of_nodes table may more

tree_fits : (table : Table) (name : List ℕ) (inside : Nodes) → ElementFits table name inside → TreeFits table (place_of table.elements name) (trees_of table inside)
tree_fits table name inside fits = record {
  rule = fits.rule;
  declared = (found_at table.elements name fits.rule fits.declared).0;
  held = singles_of_nodes table (may_hold fits.rule.holding) inside ∙ fits.held;
  elements = ap (matches (length table.elements) fits.rule.holding) (roots_of_nodes table inside) ∙ fits.elements;
}

pub trees_fit : (table : Table) (nodes : Nodes) → NodesFit table nodes → TreesFit table (trees_of table nodes)
trees_fit table no_nodes fits = tt
trees_fit table (other l more) fits = trees_fit table more fits
trees_fit table (element tag inside space more) fits = (tree_fits table tag.name inside fits.0, trees_fit table inside fits.1, trees_fit table more fits.2)
trees_fit table (empty_element tag more) fits = (tree_fits table tag.name no_nodes fits.0, tt, trees_fit table more fits.1)
