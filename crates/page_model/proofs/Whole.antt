-- A page is valid exactly where it is spelled by lawful pieces whose tokens are those of a tree.
use Rattle.std.proofs.Common.{◌≡◌, ◌↔◌, ℕ, Bool, true, false, List, [], ◌∷◌, map, Option, Some, None, refl, sym, ◌∙◌, ap, subst, codes}
use Rattle.std.specs.List.{list_all}
use Rattle.std.specs.Prelude.{if◌then◌else◌}
use Rattle.std.specs.Str.{encode_utf8_all}
use Rattle.std.proofs.lemmas.Bool.{and_parts, and_from}
use Rattle.text_base.specs.declared.page_token.PageToken.{PageToken}
use Rattle.text_base.specs.declared.page_token.PageToken.TheVariants as token
use Rattle.dtd_model.specs.declared.dtd.DoctypeRule.{DoctypeRule}
use Rattle.dtd_model.specs.declared.dtd.DoctypeRule.TheVariants.{Strict, Free}
use Rattle.dtd_model.specs.Table.{Table}
use Rattle.xml_text.specs.Characters.{is_blank}
use Rattle.page_model.specs.Attributes.{is_allowed}
use Rattle.page_model.specs.Nodes.{Nodes, nodes_then, Prolog, no_doctype, with_doctype, prolog_then, mark_then, declared_then, Page, pieces_of}
use Rattle.page_model.specs.PageTokens.{AreLawful, tokens_then, sort_token}
use Rattle.page_model.specs.Parts.{Leaf, character, reference, section, comment, instruction}
use Rattle.page_model.specs.Pieces.{Piece, mark, declaration, doctype, start_tag, empty_tag, end_tag, leaf, pieces_then, ArePieces, after, behind_leaf}
use Rattle.page_model.specs.Places.{Place, at_beginning, behind_mark, behind, is_early}
use Rattle.page_model.specs.Prolog.{Declaration, Doctype}
use Rattle.page_model.specs.TokenTree.{Trees, trees_then, roots, singles_pass, TokenTree}
use Rattle.page_model.specs.TokenTree as flat
use Rattle.page_model.specs.Valid.{blank, text, is_between, place_of, element_names, PrologFits, IsRoot, NodesFit, Valid}
use Rattle.page_model.specs.Laws.{GoodPieces}
use Rattle.page_model.proofs.Encoding.{encoded_once}
use Rattle.page_model.proofs.ToTrees.{trees_of, tokens_of_nodes, roots_of_nodes, singles_of_nodes, trees_fit}
use Rattle.page_model.proofs.FromTrees.{is_inner, passes, pass, Built, built, nodes_fit, names_declared, no_names, one_name}

-- Lawful pieces are pieces that the definition allows.

pub lawful_from : (table : Table) (place : Place) (ps : List Piece) → ArePieces place ps → list_all (is_allowed table) ps ≡ true → AreLawful table place ps
lawful_from table place [] are all = tt
lawful_from table place (p ∷ ps) are all =
    let a = and_parts (is_allowed table p) (list_all (is_allowed table) ps) all in
    (record { is = are.0; allowed = a.0 }, lawful_from table (after place p) ps are.1 a.1)

pub pieces_from : (table : Table) (place : Place) (ps : List Piece) → AreLawful table place ps → ArePieces place ps
pieces_from table place [] l = tt
pieces_from table place (p ∷ ps) l = (l.0.is, pieces_from table (after place p) ps l.1)

pub allowed_from : (table : Table) (place : Place) (ps : List Piece) → AreLawful table place ps → list_all (is_allowed table) ps ≡ true
allowed_from table place [] l = refl
allowed_from table place (p ∷ ps) l = and_from (is_allowed table p) (list_all (is_allowed table) ps) l.0.allowed (allowed_from table (after place p) ps l.1)

-- From a page to the tree of its tokens.

before_of : Table → Prolog → Option Trees
before_of table no_doctype = None
before_of table (with_doctype nodes d) = Some (trees_of table nodes)

prolog_tokens : (table : Table) (prolog : Prolog) (ps : List Piece) → tokens_then table (prolog_then prolog ps) [] ≡ flat.prolog_then (before_of table prolog) (tokens_then table ps [])
unfolding before_of
prolog_tokens table no_doctype ps = refl
prolog_tokens table (with_doctype nodes d) ps = tokens_of_nodes table nodes (doctype d ∷ ps) []

start_tokens : (table : Table) (m : Bool) (d : Option Declaration) (ps : List Piece) → tokens_then table (mark_then m (declared_then d ps)) [] ≡ tokens_then table ps []
start_tokens table true None ps = refl
start_tokens table true (Some d) ps = refl
start_tokens table false None ps = refl
start_tokens table false (Some d) ps = refl

prolog_fits : (table : Table) (rule : DoctypeRule) (prolog : Prolog) → PrologFits rule prolog → flat.PrologFits rule (before_of table prolog)
unfolding before_of
prolog_fits table Free no_doctype fits = tt
prolog_fits table Strict no_doctype fits = fits
prolog_fits table Free (with_doctype nodes d) fits = (roots_of_nodes table nodes ∙ ap (map (place_of table.elements)) fits.0, singles_of_nodes table is_between nodes ∙ fits.1)
prolog_fits table Strict (with_doctype nodes d) fits = (roots_of_nodes table nodes ∙ ap (map (place_of table.elements)) fits.0, singles_of_nodes table is_between nodes ∙ fits.1)

pub page_tree : (table : Table) (page : Page) → PrologFits table.doctype page.prolog → IsRoot page.nodes → (let ns = page.nodes in flat.TreesFit table (trees_of table ns)) → TokenTree table (tokens_then table (pieces_of page) [])
page_tree table page prolog root fits = record {
  before = before_of table page.prolog;
  trees = trees_of table page.nodes;
  flat = sym (start_tokens table page.mark page.declaration _ ∙ prolog_tokens table page.prolog (nodes_then page.nodes [])
      ∙ ap (flat.prolog_then (before_of table page.prolog)) (tokens_of_nodes table page.nodes [] []));
  prolog = prolog_fits table table.doctype page.prolog prolog;
  root = roots_of_nodes table page.nodes ∙ ap (map (place_of table.elements)) root.root;
  around = singles_of_nodes table is_between page.nodes ∙ root.around;
  fits = fits;
}

pub valid_good : (table : Table) (cs : List ℕ) → Valid table (encode_utf8_all cs) → GoodPieces table cs
valid_good table cs v = record {
  pieces = pieces_of v.page;
  lawful = lawful_from table at_beginning (pieces_of v.page) v.spells.pieces v.allowed;
  spelled = encoded_once _ cs v.spells.spelled;
  tree = page_tree table v.page v.prolog v.root (trees_fit table v.page.nodes v.fits);
}

-- Behind the first pieces stand neither the byte order mark nor an XML declaration.

late_leaf : (place : Place) (l : Leaf) → is_early (behind_leaf place l) ≡ false
late_leaf place (character c) = refl
late_leaf place (reference r) = refl
late_leaf place (section chars) = refl
late_leaf place (comment chars) = refl
late_leaf place (instruction target chars) = refl

inner_from : (table : Table) (place : Place) (ps : List Piece) → is_early place ≡ false → AreLawful table place ps → list_all is_inner ps ≡ true
inner_from table place [] late l = refl
inner_from table place (mark ∷ ps) late l = let e : true ≡ false = sym (ap is_early l.0.is) ∙ late in cc
inner_from table place (declaration d ∷ ps) late l = let e : true ≡ false = sym l.0.is.0 ∙ late in cc
inner_from table place (doctype d ∷ ps) late l = inner_from table (behind 0) ps refl l.1
inner_from table place (start_tag tag ∷ ps) late l = inner_from table (behind 0) ps refl l.1
inner_from table place (empty_tag tag ∷ ps) late l = inner_from table (behind 0) ps refl l.1
inner_from table place (end_tag name space ∷ ps) late l = inner_from table (behind 0) ps refl l.1
inner_from table place (leaf x ∷ ps) late l = inner_from table (behind_leaf place x) ps (late_leaf place x) l.1

-- the pieces are those of the beginning of a page, and others
pub record Begun (ps : List Piece) : Type 0 where
  pub mark : Bool
  pub declaration : Option Declaration
  pub rest : List Piece
  pub is : ps ≡ mark_then mark (declared_then declaration rest)
  pub inner : list_all is_inner rest ≡ true

behind_the_mark : (table : Table) (ps : List Piece) → AreLawful table behind_mark ps → (d : Option Declaration) × (rest : List Piece) × (ps ≡ declared_then d rest) × (list_all is_inner rest ≡ true)
behind_the_mark table [] l = (None, [], refl, refl)
behind_the_mark table (mark ∷ ps) l = let e : behind_mark ≡ at_beginning = l.0.is in cc
behind_the_mark table (declaration d ∷ ps) l = (Some d, ps, refl, inner_from table (behind 0) ps refl l.1)
behind_the_mark table (doctype d ∷ ps) l = (None, doctype d ∷ ps, refl, inner_from table (behind 0) ps refl l.1)
behind_the_mark table (start_tag tag ∷ ps) l = (None, start_tag tag ∷ ps, refl, inner_from table (behind 0) ps refl l.1)
behind_the_mark table (empty_tag tag ∷ ps) l = (None, empty_tag tag ∷ ps, refl, inner_from table (behind 0) ps refl l.1)
behind_the_mark table (end_tag name space ∷ ps) l = (None, end_tag name space ∷ ps, refl, inner_from table (behind 0) ps refl l.1)
behind_the_mark table (leaf x ∷ ps) l = (None, leaf x ∷ ps, refl, inner_from table (behind_leaf behind_mark x) ps (late_leaf behind_mark x) l.1)

begun_with : (ps rest : List Piece) → ps ≡ rest → list_all is_inner rest ≡ true → Begun ps
begun_with ps rest e inner = record { mark = false; declaration = None; rest = rest; is = e; inner = inner }

pub begun : (table : Table) (ps : List Piece) → AreLawful table at_beginning ps → Begun ps
begun table [] l = begun_with [] [] refl refl
begun table (mark ∷ ps) l =
    let b = behind_the_mark table ps l.1 in
    record { mark = true; declaration = b.0; rest = b.1; is = ap (λ (qs : List Piece). mark ∷ qs) b.2; inner = b.3 }
begun table (declaration d ∷ ps) l = record { mark = false; declaration = Some d; rest = ps; is = refl; inner = inner_from table (behind 0) ps refl l.1 }
begun table (doctype d ∷ ps) l = begun_with _ (doctype d ∷ ps) refl (inner_from table (behind 0) ps refl l.1)
begun table (start_tag tag ∷ ps) l = begun_with _ (start_tag tag ∷ ps) refl (inner_from table (behind 0) ps refl l.1)
begun table (empty_tag tag ∷ ps) l = begun_with _ (empty_tag tag ∷ ps) refl (inner_from table (behind 0) ps refl l.1)
begun table (end_tag name space ∷ ps) l = begun_with _ (end_tag name space ∷ ps) refl (inner_from table (behind 0) ps refl l.1)
begun table (leaf x ∷ ps) l = begun_with _ (leaf x ∷ ps) refl (inner_from table (behind_leaf at_beginning x) ps (late_leaf at_beginning x) l.1)

both_pass : (table : Table) (ps : List Piece) → list_all is_inner ps ≡ true → list_all (is_allowed table) ps ≡ true → pass table ps
both_pass table [] i a = refl
both_pass table (p ∷ ps) i a =
    let x = and_parts (is_inner p) (list_all is_inner ps) i in
    let y = and_parts (is_allowed table p) (list_all (is_allowed table) ps) a in
    and_from (passes table p) (list_all (passes table) ps) (and_from (is_inner p) (is_allowed table p) x.0 y.0) (both_pass table ps x.1 y.1)

allowed_rest : (table : Table) (m : Bool) (d : Option Declaration) (ps : List Piece) → list_all (is_allowed table) (mark_then m (declared_then d ps)) ≡ true → list_all (is_allowed table) ps ≡ true
allowed_rest table true None ps h = h
allowed_rest table true (Some d) ps h = h
allowed_rest table false None ps h = h
allowed_rest table false (Some d) ps h = h

-- From the tree of the tokens to a page.

no_tokens : (table : Table) (ps : List Piece) → pass table ps → tokens_then table ps [] ≡ [] → ps ≡ []
no_tokens table [] h e = refl
no_tokens table (mark ∷ ps) h e = cc
no_tokens table (declaration d ∷ ps) h e = cc
no_tokens table (doctype d ∷ ps) h e = cc
no_tokens table (start_tag tag ∷ ps) h e = cc
no_tokens table (empty_tag tag ∷ ps) h e = cc
no_tokens table (end_tag name space ∷ ps) h e = cc
no_tokens table (leaf l ∷ ps) h e = cc

-- the pieces are those of a prolog and of nodes
pub record Parsed (table : Table) (ps : List Piece) : Type 0 where
  pub prolog : Prolog
  pub nodes : Nodes
  pub is : ps ≡ prolog_then prolog (nodes_then nodes [])
  pub prolog_fits : PrologFits table.doctype prolog
  pub root : IsRoot nodes
  pub fits : NodesFit table nodes

root_of : (table : Table) (nodes : Nodes) (trees : Trees) → pass table (nodes_then nodes []) → trees_of table nodes ≡ trees → roots trees ≡ place_of table.elements (codes "html") ∷ [] → singles_pass is_between trees ≡ true → IsRoot nodes
root_of table nodes trees h e root around = record {
  root = one_name table (element_names nodes) (codes "html") (names_declared table nodes [] h) (sym (roots_of_nodes table nodes) ∙ ap roots e ∙ root);
  around = sym (singles_of_nodes table is_between nodes) ∙ ap (singles_pass is_between) e ∙ around;
}

-- nodes up to the end of the page
record Ended (table : Table) (ps : List Piece) : Type 0 where
  pub nodes : Nodes
  pub is : ps ≡ nodes_then nodes []
  pub root : IsRoot nodes
  pub fits : NodesFit table nodes

ended : (table : Table) (ps : List Piece) (trees : Trees) → pass table ps → tokens_then table ps [] ≡ trees_then trees [] → roots trees ≡ place_of table.elements (codes "html") ∷ [] → singles_pass is_between trees ≡ true → flat.TreesFit table trees → Ended table ps
ended table ps trees h e root around fits =
    let b = built table trees ps [] h e in
    let none : b.rest ≡ [] = no_tokens table b.rest b.rest_pass b.tokens in
    let is : ps ≡ nodes_then b.nodes [] = b.is ∙ ap (nodes_then b.nodes) none in
    let whole : pass table (nodes_then b.nodes []) = subst (pass table) is h in
    record {
      nodes = b.nodes;
      is = is;
      root = root_of table b.nodes trees whole b.trees_are root around;
      fits = nodes_fit table b.nodes [] whole (subst (flat.TreesFit table) (sym b.trees_are) fits);
    }

fits_without : (rule : DoctypeRule) → flat.PrologFits rule None → PrologFits rule no_doctype
fits_without Free h = h
fits_without Strict h = h

fits_with : (table : Table) (rule : DoctypeRule) (trees : Trees) (nodes : Nodes) (d : Doctype) → trees_of table nodes ≡ trees → flat.PrologFits rule (Some trees) → PrologFits rule (with_doctype nodes d)
fits_with table Free trees nodes d e h = (no_names (place_of table.elements) (element_names nodes) (sym (roots_of_nodes table nodes) ∙ ap roots e ∙ h.0), sym (singles_of_nodes table is_between nodes) ∙ ap (singles_pass is_between) e ∙ h.1)
fits_with table Strict trees nodes d e h = (no_names (place_of table.elements) (element_names nodes) (sym (roots_of_nodes table nodes) ∙ ap roots e ∙ h.0), sym (singles_of_nodes table is_between nodes) ∙ ap (singles_pass is_between) e ∙ h.1)

-- the tokens of a leaf are no document type declaration
no_doctype_token : (table : Table) (l : Leaf) (ps : List Piece) (ts : List PageToken) → tokens_then table (leaf l ∷ ps) [] ≡ token.Doctype ∷ ts → ⊥
no_doctype_token table (character c) ps ts e = at (is_blank c) e
  where
    at : (b : Bool) → sort_token (if b then blank else text) ∷ tokens_then table ps [] ≡ token.Doctype ∷ ts → ⊥
    at true e = cc
    at false e = cc
no_doctype_token table (reference r) ps ts e = cc
no_doctype_token table (section chars) ps ts e = cc
no_doctype_token table (comment chars) ps ts e = cc
no_doctype_token table (instruction target chars) ps ts e = cc

tail_pass : (table : Table) (p : Piece) (ps : List Piece) → pass table (p ∷ ps) → pass table ps
tail_pass table p ps h = (and_parts (passes table p) (list_all (passes table) ps) h).1

with_type : (table : Table) (ps : List Piece) (before trees : Trees) → pass table ps → tokens_then table ps [] ≡ trees_then before (token.Doctype ∷ trees_then trees []) → flat.PrologFits table.doctype (Some before)
    → roots trees ≡ place_of table.elements (codes "html") ∷ [] → singles_pass is_between trees ≡ true → flat.TreesFit table trees → Parsed table ps
with_type table ps before trees h e prolog root around fits = at b.rest b.is b.tokens b.rest_pass
  where
    b : Built table before ps (token.Doctype ∷ trees_then trees [])
    b = built table before ps (token.Doctype ∷ trees_then trees []) h e

    at : (rest : List Piece) → ps ≡ nodes_then b.nodes rest → tokens_then table rest [] ≡ token.Doctype ∷ trees_then trees [] → pass table rest → Parsed table ps
    at [] is e g = cc
    at (mark ∷ rest) is e g = let f : false ≡ true = (and_parts (is_inner mark) (is_allowed table mark) (and_parts (passes table mark) (list_all (passes table) rest) g).0).0 in cc
    at (declaration d ∷ rest) is e g = let f : false ≡ true = (and_parts (is_inner (declaration d)) (is_allowed table (declaration d)) (and_parts (passes table (declaration d)) (list_all (passes table) rest) g).0).0 in cc
    at (start_tag tag ∷ rest) is e g = cc
    at (empty_tag tag ∷ rest) is e g = cc
    at (end_tag name space ∷ rest) is e g = cc
    at (leaf l ∷ rest) is e g = absurd (no_doctype_token table l rest _ e)
    at (doctype d ∷ rest) is e g =
        let f : tokens_then table rest [] ≡ trees_then trees [] = cc in
        let c = ended table rest trees (tail_pass table (doctype d) rest g) f root around fits in
        record {
          prolog = with_doctype b.nodes d;
          nodes = c.nodes;
          is = is ∙ ap (λ (qs : List Piece). nodes_then b.nodes (doctype d ∷ qs)) c.is;
          prolog_fits = fits_with table table.doctype before b.nodes d b.trees_are prolog;
          root = c.root;
          fits = c.fits;
        }

parsed : (table : Table) (ps : List Piece) → pass table ps → TokenTree table (tokens_then table ps []) → Parsed table ps
parsed table ps h t = at t.before t.flat t.prolog
  where
    at : (before : Option Trees) → flat.prolog_then before (trees_then t.trees []) ≡ tokens_then table ps [] → flat.PrologFits table.doctype before → Parsed table ps
    at None e prolog =
        let c = ended table ps t.trees h (sym e) t.root t.around t.fits in
        record { prolog = no_doctype; nodes = c.nodes; is = c.is; prolog_fits = fits_without table.doctype prolog; root = c.root; fits = c.fits }
    at (Some before) e prolog = with_type table ps before t.trees h (sym e) prolog t.root t.around t.fits

page_from : (table : Table) (cs : List ℕ) (ps : List Piece) → AreLawful table at_beginning ps → pieces_then ps [] ≡ cs → (b : Begun ps) → Parsed table b.rest → Valid table (encode_utf8_all cs)
page_from table cs ps l spelled b d =
    let page : Page = record { mark = b.mark; declaration = b.declaration; prolog = d.prolog; nodes = d.nodes } in
    let is : ps ≡ pieces_of page = b.is ∙ ap (λ (qs : List Piece). mark_then b.mark (declared_then b.declaration qs)) d.is in
    record {
      page = page;
      spells = record {
        pieces = subst (ArePieces at_beginning) is (pieces_from table at_beginning ps l);
        spelled = ap encode_utf8_all (ap (λ (qs : List Piece). pieces_then qs []) (sym is) ∙ spelled);
      };
      allowed = subst (λ (qs : List Piece). list_all (is_allowed table) qs ≡ true) is (allowed_from table at_beginning ps l);
      prolog = d.prolog_fits;
      root = d.root;
      fits = d.fits;
    }

pub good_valid : (table : Table) (cs : List ℕ) → GoodPieces table cs → Valid table (encode_utf8_all cs)
good_valid table cs g =
    let b = begun table g.pieces g.lawful in
    let allowed = subst (λ (qs : List Piece). list_all (is_allowed table) qs ≡ true) b.is (allowed_from table at_beginning g.pieces g.lawful) in
    let h = both_pass table b.rest b.inner (allowed_rest table b.mark b.declaration b.rest allowed) in
    let same : tokens_then table g.pieces [] ≡ tokens_then table b.rest [] = ap (λ (qs : List Piece). tokens_then table qs []) b.is ∙ start_tokens table b.mark b.declaration b.rest in
    page_from table cs g.pieces g.lawful g.spelled b (parsed table b.rest h (subst (TokenTree table) same g.tree))

pub valid_by_pieces : (table : Table) (cs : List ℕ) → Valid table (encode_utf8_all cs) ↔ GoodPieces table cs
valid_by_pieces table cs = (valid_good table cs, good_valid table cs)
