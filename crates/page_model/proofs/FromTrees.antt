-- From the trees of the tokens of pieces to the nodes of a page.
use Rattle.std.proofs.Common.{◌≡◌, ℕ, Bool, true, false, ◌&&◌, List, [], ◌∷◌, map, Option, Some, None, refl, sym, ◌∙◌, ap, length, subst}
use Rattle.std.specs.List.{list_all}
use Rattle.std.proofs.lemmas.Bool.{and_parts}
use Rattle.text_base.specs.declared.page_token.PageToken.{PageToken}
use Rattle.text_base.specs.declared.page_token.PageToken.TheVariants as token
use Rattle.text_base.specs.declared.numbers.Elem.{Elem}
use Rattle.dtd_model.specs.Matches.{matches}
use Rattle.dtd_model.specs.Table.{Rule, Table}
use Rattle.page_model.specs.Attributes.{find_rule, fits_rule, tag_fits, is_allowed}
use Rattle.page_model.specs.Nodes.{Nodes, no_nodes, other, element, empty_element, nodes_then}
use Rattle.page_model.specs.PageTokens.{tokens_then, sort_token, element_of}
use Rattle.page_model.specs.Parts.{Tag}
use Rattle.page_model.specs.Pieces.{Piece, mark, declaration, doctype, start_tag, empty_tag, end_tag, leaf}
use Rattle.page_model.specs.TokenTree.{Trees, no_trees, single, tree, trees_then, TreeFits, TreesFit}
use Rattle.page_model.specs.Valid.{Sort, blank, text, remark, sort_of, may_hold, place_of, element_names, ElementFits, NodesFit}
use Rattle.page_model.proofs.Names.{found_at, one_place}
use Rattle.page_model.proofs.ToTrees.{trees_of, roots_of_nodes, singles_of_nodes}

-- neither the byte order mark nor an XML declaration
abbrev pub is_inner : Piece → Bool
is_inner mark = false
is_inner (declaration d) = false
is_inner (doctype d) = true
is_inner (start_tag tag) = true
is_inner (empty_tag tag) = true
is_inner (end_tag name space) = true
is_inner (leaf l) = true

abbrev pub passes : Table → Piece → Bool
passes table p = is_inner p && is_allowed table p

abbrev pub pass : Table → List Piece → Type 0
pass table ps = list_all (passes table) ps ≡ true

rest_passes : (table : Table) (p : Piece) (ps : List Piece) → pass table (p ∷ ps) → pass table ps
rest_passes table p ps h = (and_parts (passes table p) (list_all (passes table) ps) h).1

first_passes : (table : Table) (p : Piece) (ps : List Piece) → pass table (p ∷ ps) → (is_inner p ≡ true) × (is_allowed table p ≡ true)
first_passes table p ps h = and_parts (is_inner p) (is_allowed table p) (and_parts (passes table p) (list_all (passes table) ps) h).0

declared_by : (entities : List (List ℕ)) (o : Option Rule) (tag : Tag) → fits_rule entities o tag ≡ true → (r : Rule) × (o ≡ Some r)
declared_by entities None tag h = cc
declared_by entities (Some r) tag h = (r, refl)

pub tag_declared : (table : Table) (tag : Tag) → tag_fits table tag ≡ true → (r : Rule) × (find_rule table.elements tag.name ≡ Some r)
tag_declared table tag h = declared_by table.entities (find_rule table.elements tag.name) tag h

same_sort : (a b : Sort) → sort_token a ≡ sort_token b → a ≡ b
same_sort blank blank e = refl
same_sort blank text e = cc
same_sort blank remark e = cc
same_sort text blank e = cc
same_sort text text e = refl
same_sort text remark e = cc
same_sort remark blank e = cc
same_sort remark text e = cc
same_sort remark remark e = refl

-- the pieces begin with nodes whose trees are these, and the rest has the tokens behind
pub record Built (table : Table) (trees : Trees) (ps : List Piece) (behind : List PageToken) : Type 0 where
  pub nodes : Nodes
  pub rest : List Piece
  pub is : ps ≡ nodes_then nodes rest
  pub tokens : tokens_then table rest [] ≡ behind
  pub trees_are : trees_of table nodes ≡ trees
  pub rest_pass : pass table rest

not_end : (e : Elem) (inside : Trees) (ts us : List PageToken) → token.End e ∷ us ≡ trees_then inside ts → inside ≡ no_trees
not_end e no_trees ts us h = refl
not_end e (single blank more) ts us h = cc
not_end e (single text more) ts us h = cc
not_end e (single remark more) ts us h = cc
not_end e (tree f inside more) ts us h = cc

no_sort_doctype : (sort : Sort) → token.Doctype ≡ sort_token sort → ⊥
no_sort_doctype blank e = cc
no_sort_doctype text e = cc
no_sort_doctype remark e = cc

no_sort_start : (sort : Sort) (f : Elem) → token.Start f ≡ sort_token sort → ⊥
no_sort_start blank f e = cc
no_sort_start text f e = cc
no_sort_start remark f e = cc

no_sort_end : (sort : Sort) (f : Elem) → token.End f ≡ sort_token sort → ⊥
no_sort_end blank f e = cc
no_sort_end text f e = cc
no_sort_end remark f e = cc

heads : (a b : PageToken) (xs ys : List PageToken) → a ∷ xs ≡ b ∷ ys → (a ≡ b) × (xs ≡ ys)
heads a b xs ys e = let h : a ≡ b = cc in let t : xs ≡ ys = cc in (h, t)

-- a leaf that gives the token of this sort
single_built : (table : Table) (sort : Sort) (more : Trees) (ps : List Piece) (behind : List PageToken) → pass table ps → tokens_then table ps [] ≡ sort_token sort ∷ trees_then more behind
    → ((qs : List Piece) → pass table qs → tokens_then table qs [] ≡ trees_then more behind → Built table more qs behind) → Built table (single sort more) ps behind
single_built table sort more [] behind h e ih = cc
single_built table sort more (mark ∷ ps) behind h e ih = let f : false ≡ true = (first_passes table mark ps h).0 in cc
single_built table sort more (declaration d ∷ ps) behind h e ih = let f : false ≡ true = (first_passes table (declaration d) ps h).0 in cc
single_built table sort more (doctype d ∷ ps) behind h e ih = absurd (no_sort_doctype sort (heads _ _ _ _ e).0)
single_built table sort more (start_tag tag ∷ ps) behind h e ih = absurd (no_sort_start sort _ (heads _ _ _ _ e).0)
single_built table sort more (empty_tag tag ∷ ps) behind h e ih = absurd (no_sort_start sort _ (heads _ _ _ _ e).0)
single_built table sort more (end_tag name space ∷ ps) behind h e ih = absurd (no_sort_end sort _ (heads _ _ _ _ e).0)
single_built table sort more (leaf l ∷ ps) behind h e ih =
    let b = ih ps (rest_passes table (leaf l) ps h) (heads _ _ _ _ e).1 in
    record {
      nodes = other l b.nodes;
      rest = b.rest;
      is = ap (λ (qs : List Piece). leaf l ∷ qs) b.is;
      tokens = b.tokens;
      trees_are = ap (λ (t : Trees). single (sort_of l) t) b.trees_are ∙ ap (λ (s : Sort). single s more) (same_sort (sort_of l) sort (heads _ _ _ _ e).0);
      rest_pass = b.rest_pass;
    }

start_is : (a b : ℕ) → token.Start (record { 0 = a }) ≡ token.Start (record { 0 = b }) → a ≡ b
start_is a b e = let x : Elem = record { 0 = a } in let y : Elem = record { 0 = b } in let r : x ≡ y = cc in ap (λ (x : Elem). x.0) r

end_is : (a b : ℕ) → token.End (record { 0 = a }) ≡ token.End (record { 0 = b }) → a ≡ b
end_is a b e = let x : Elem = record { 0 = a } in let y : Elem = record { 0 = b } in let r : x ≡ y = cc in ap (λ (x : Elem). x.0) r

-- an element behind its start tag
tree_built : (table : Table) (tag : Tag) (inside more : Trees) (ps : List Piece) (behind : List PageToken) → (r : Rule) → find_rule table.elements tag.name ≡ Some r
    → Built table inside ps (token.End (element_of table tag.name) ∷ trees_then more behind)
    → ((qs : List Piece) → pass table qs → tokens_then table qs [] ≡ trees_then more behind → Built table more qs behind) → Built table (tree (place_of table.elements tag.name) inside more) (start_tag tag ∷ ps) behind
tree_built table tag inside more ps behind r declared first ih = at first.rest first.is first.tokens first.rest_pass
  where
    at : (rest : List Piece) → ps ≡ nodes_then first.nodes rest → tokens_then table rest [] ≡ token.End (element_of table tag.name) ∷ trees_then more behind → pass table rest → Built table (tree (place_of table.elements tag.name) inside more) (start_tag tag ∷ ps) behind
    at [] is e h = cc
    at (mark ∷ rest) is e h = let f : false ≡ true = (first_passes table mark rest h).0 in cc
    at (declaration d ∷ rest) is e h = let f : false ≡ true = (first_passes table (declaration d) rest h).0 in cc
    at (doctype d ∷ rest) is e h = cc
    at (start_tag t ∷ rest) is e h = cc
    at (empty_tag t ∷ rest) is e h = cc
    at (leaf l ∷ rest) is e h = absurd (no_sort_end (sort_of l) _ (sym (heads _ _ _ _ e).0))
    at (end_tag name space ∷ rest) is e h =
        let same : name ≡ tag.name = one_place table.elements tag.name name r declared (sym (end_is _ _ (heads _ _ _ _ e).0)) in
        let b = ih rest (rest_passes table (end_tag name space) rest h) (heads _ _ _ _ e).1 in
        record {
          nodes = element tag first.nodes space b.nodes;
          rest = b.rest;
          is = ap (λ (qs : List Piece). start_tag tag ∷ qs) (is ∙ ap (λ (n : List ℕ). nodes_then first.nodes (end_tag n space ∷ rest)) same ∙ ap (λ (qs : List Piece). nodes_then first.nodes (end_tag tag.name space ∷ qs)) b.is);
          tokens = b.tokens;
          trees_are = ap (λ (t : Trees). tree (place_of table.elements tag.name) t (trees_of table b.nodes)) first.trees_are ∙ ap (λ (t : Trees). tree (place_of table.elements tag.name) inside t) b.trees_are;
          rest_pass = b.rest_pass;
        }

-- an element that is one tag
empty_built : (table : Table) (tag : Tag) (inside more : Trees) (ps : List Piece) (behind : List PageToken) → pass table ps
    → token.End (element_of table tag.name) ∷ tokens_then table ps [] ≡ trees_then inside (token.End (element_of table tag.name) ∷ trees_then more behind)
    → ((qs : List Piece) → pass table qs → tokens_then table qs [] ≡ trees_then more behind → Built table more qs behind) → Built table (tree (place_of table.elements tag.name) inside more) (empty_tag tag ∷ ps) behind
empty_built table tag inside more ps behind h e ih =
    let none : inside ≡ no_trees = not_end _ inside _ _ e in
    let f : token.End (element_of table tag.name) ∷ tokens_then table ps [] ≡ token.End (element_of table tag.name) ∷ trees_then more behind = e ∙ ap (λ (t : Trees). trees_then t (token.End (element_of table tag.name) ∷ trees_then more behind)) none in
    let b = ih ps h (heads _ _ _ _ f).1 in
    record {
      nodes = empty_element tag b.nodes;
      rest = b.rest;
      is = ap (λ (qs : List Piece). empty_tag tag ∷ qs) b.is;
      tokens = b.tokens;
      trees_are = ap (λ (t : Trees). tree (place_of table.elements tag.name) t (trees_of table b.nodes)) (sym none) ∙ ap (λ (t : Trees). tree (place_of table.elements tag.name) inside t) b.trees_are;
      rest_pass = b.rest_pass;
    }

pub built : (table : Table) (trees : Trees) (ps : List Piece) (behind : List PageToken) → pass table ps → tokens_then table ps [] ≡ trees_then trees behind → Built table trees ps behind
built table no_trees ps behind h e = record { nodes = no_nodes; rest = ps; is = refl; tokens = e; trees_are = refl; rest_pass = h }
built table (single sort more) ps behind h e = single_built table sort more ps behind h e (λ qs g f. built table more qs behind g f)
built table (tree n inside more) ps behind h e = at ps h e (λ qs g f. built table inside qs _ g f) (λ qs g f. built table more qs behind g f)
  where
    named : (tag : Tag) (m : ℕ) (qs : List Piece) → place_of table.elements tag.name ≡ m → Built table (tree (place_of table.elements tag.name) inside more) qs behind → Built table (tree m inside more) qs behind
    named tag m qs e b = subst (λ (m : ℕ). Built table (tree m inside more) qs behind) e b

    at : (ps : List Piece) → pass table ps → tokens_then table ps [] ≡ token.Start (record { 0 = n }) ∷ trees_then inside (token.End (record { 0 = n }) ∷ trees_then more behind)
        → ((qs : List Piece) → pass table qs → tokens_then table qs [] ≡ trees_then inside (token.End (record { 0 = n }) ∷ trees_then more behind) → Built table inside qs (token.End (record { 0 = n }) ∷ trees_then more behind))
        → ((qs : List Piece) → pass table qs → tokens_then table qs [] ≡ trees_then more behind → Built table more qs behind) → Built table (tree n inside more) ps behind
    at [] h e first later = cc
    at (mark ∷ ps) h e first later = let f : false ≡ true = (first_passes table mark ps h).0 in cc
    at (declaration d ∷ ps) h e first later = let f : false ≡ true = (first_passes table (declaration d) ps h).0 in cc
    at (doctype d ∷ ps) h e first later = cc
    at (end_tag name space ∷ ps) h e first later = cc
    at (leaf l ∷ ps) h e first later = absurd (no_sort_start (sort_of l) _ (sym (heads _ _ _ _ e).0))
    at (start_tag tag ∷ ps) h e first later =
        let r = tag_declared table tag (first_passes table (start_tag tag) ps h).1 in
        let n_is : place_of table.elements tag.name ≡ n = start_is _ _ (heads _ _ _ _ e).0 in
        let b = first ps (rest_passes table (start_tag tag) ps h) (heads _ _ _ _ e).1 in
        let c = subst (λ (m : ℕ). Built table inside ps (token.End (record { 0 = m }) ∷ trees_then more behind)) (sym n_is) b in
        named tag n (start_tag tag ∷ ps) n_is (tree_built table tag inside more ps behind r.0 r.1 c later)
    at (empty_tag tag ∷ ps) h e first later =
        let n_is : place_of table.elements tag.name ≡ n = start_is _ _ (heads _ _ _ _ e).0 in
        let f = subst (λ (m : ℕ). token.End (element_of table tag.name) ∷ tokens_then table ps [] ≡ trees_then inside (token.End (record { 0 = m }) ∷ trees_then more behind)) (sym n_is) (heads _ _ _ _ e).1 in
        named tag n (empty_tag tag ∷ ps) n_is (empty_built table tag inside more ps behind (rest_passes table (empty_tag tag) ps h) f later)

-- Then the nodes fit where the trees do.

element_fits : (table : Table) (name : List ℕ) (inside : Nodes) → ((r : Rule) × (find_rule table.elements name ≡ Some r)) → TreeFits table (place_of table.elements name) (trees_of table inside) → ElementFits table name inside
element_fits table name inside d fits =
    let at_place = (found_at table.elements name d.0 d.1).0 in
    let same : fits.rule ≡ d.0 = cc in
    record {
      rule = fits.rule;
      declared = d.1 ∙ ap (λ (r : Rule). Some r) (sym same);
      held = sym (singles_of_nodes table (may_hold fits.rule.holding) inside) ∙ fits.held;
      elements = ap (matches (length table.elements) fits.rule.holding) (sym (roots_of_nodes table inside)) ∙ fits.elements;
    }

-- the rest of the pieces behind nodes passes
pub behind_nodes : (table : Table) (nodes : Nodes) (ps : List Piece) → pass table (nodes_then nodes ps) → pass table ps
behind_nodes table no_nodes ps h = h
behind_nodes table (other l more) ps h = behind_nodes table more ps (rest_passes table (leaf l) (nodes_then more ps) h)
behind_nodes table (element tag inside space more) ps h =
    behind_nodes table more ps (rest_passes table (end_tag tag.name space) (nodes_then more ps) (behind_nodes table inside (end_tag tag.name space ∷ nodes_then more ps) (rest_passes table (start_tag tag) (nodes_then inside (end_tag tag.name space ∷ nodes_then more ps)) h)))
behind_nodes table (empty_element tag more) ps h = behind_nodes table more ps (rest_passes table (empty_tag tag) (nodes_then more ps) h)

pub nodes_fit : (table : Table) (nodes : Nodes) (ps : List Piece) → pass table (nodes_then nodes ps) → TreesFit table (trees_of table nodes) → NodesFit table nodes
nodes_fit table no_nodes ps h fits = tt
nodes_fit table (other l more) ps h fits = nodes_fit table more ps (rest_passes table (leaf l) (nodes_then more ps) h) fits
nodes_fit table (element tag inside space more) ps h fits =
    let inner = rest_passes table (start_tag tag) (nodes_then inside (end_tag tag.name space ∷ nodes_then more ps)) h in (
      element_fits table tag.name inside (tag_declared table tag (first_passes table (start_tag tag) (nodes_then inside (end_tag tag.name space ∷ nodes_then more ps)) h).1) fits.0,
      nodes_fit table inside (end_tag tag.name space ∷ nodes_then more ps) inner fits.1,
      nodes_fit table more ps (rest_passes table (end_tag tag.name space) (nodes_then more ps) (behind_nodes table inside (end_tag tag.name space ∷ nodes_then more ps) inner)) fits.2,
    )
nodes_fit table (empty_element tag more) ps h fits = (
  element_fits table tag.name no_nodes (tag_declared table tag (first_passes table (empty_tag tag) (nodes_then more ps) h).1) fits.0,
  nodes_fit table more ps (rest_passes table (empty_tag tag) (nodes_then more ps) h) fits.2,
)

-- each element among the nodes is declared
abbrev pub AreNamed : Table → List (List ℕ) → Type 0
AreNamed table [] = Unit {0}
AreNamed table (name ∷ names) = ((r : Rule) × (find_rule table.elements name ≡ Some r)) × AreNamed table names

pub names_declared : (table : Table) (nodes : Nodes) (ps : List Piece) → pass table (nodes_then nodes ps) → AreNamed table (element_names nodes)
names_declared table no_nodes ps h = tt
names_declared table (other l more) ps h = names_declared table more ps (rest_passes table (leaf l) (nodes_then more ps) h)
names_declared table (element tag inside space more) ps h = (
  tag_declared table tag (first_passes table (start_tag tag) (nodes_then inside (end_tag tag.name space ∷ nodes_then more ps)) h).1,
  names_declared table more ps (rest_passes table (end_tag tag.name space) (nodes_then more ps) (behind_nodes table inside (end_tag tag.name space ∷ nodes_then more ps) (rest_passes table (start_tag tag) (nodes_then inside (end_tag tag.name space ∷ nodes_then more ps)) h))),
)
names_declared table (empty_element tag more) ps h = (tag_declared table tag (first_passes table (empty_tag tag) (nodes_then more ps) h).1, names_declared table more ps (rest_passes table (empty_tag tag) (nodes_then more ps) h))

pub no_names : (f : List ℕ → ℕ) (names : List (List ℕ)) → map f names ≡ [] → names ≡ []
no_names f [] e = refl
no_names f (n ∷ names) e = cc

-- one place is that of one name
pub one_name : (table : Table) (names : List (List ℕ)) (name : List ℕ) → AreNamed table names → map (place_of table.elements) names ≡ place_of table.elements name ∷ [] → names ≡ name ∷ []
one_name table [] name d e = cc
one_name table (n ∷ m ∷ names) name d e = cc
one_name table (n ∷ []) name d e =
    let p : place_of table.elements n ≡ place_of table.elements name = cc in
    ap (λ (x : List ℕ). x ∷ []) (sym (one_place table.elements n name d.0.0 d.0.1 p))
