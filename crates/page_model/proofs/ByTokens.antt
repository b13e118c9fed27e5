-- A page is valid exactly where its tokens are those of a tree.
use Rattle.std.proofs.Common.{◌≡◌, ◌↔◌, ℕ, Bool, true, false, ◌||◌, List, [], ◌∷◌, ◌++◌, Option, Some, None, refl, sym, ◌∙◌, ap, subst, append_assoc}
use Rattle.std.specs.Str.{encode_utf8_all}
use Rattle.std.specs.Char.{encode_utf8}
use Rattle.text_base.specs.declared.page_token.PageToken.{PageToken}
use Rattle.text_base.specs.declared.page_token.PageToken.TheVariants as token
use Rattle.dtd_model.specs.Table.{Table}
use Rattle.page_model.specs.Nodes.{pieces_of}
use Rattle.page_model.specs.PageTokens.{bytes_then, NoPiece, left_tokens, tokens_then, sort_token, PageTokens}
use Rattle.page_model.specs.Pieces.{Piece, mark, declaration, doctype, start_tag, empty_tag, end_tag, leaf, piece_then, pieces_then}
use Rattle.page_model.specs.Places.{Place, at_beginning}
use Rattle.page_model.specs.TokenTree.{Trees, no_trees, single, tree, trees_then, prolog_then, TokenTree}
use Rattle.page_model.specs.Valid.{Sort, blank, text, remark, sort_of, Valid}
use Rattle.page_model.specs.Laws.{GoodPieces}
use Rattle.page_model.proofs.Appended.{bytes_are}
use Rattle.page_model.proofs.Encoding.{some_bytes}
use Rattle.page_model.proofs.Once.{some_character, tokens_once}
use Rattle.page_model.proofs.Whole.{valid_good, good_valid}

-- no piece begins an empty text
empty_bytes : (table : Table) (place : Place) → NoPiece table place []
empty_bytes table place p rest h e = at (piece_then p []) refl e
  where
    at : (cs : List ℕ) → piece_then p [] ≡ cs → encode_utf8_all cs ++ rest ≡ [] → ⊥
    at [] s q = some_character place p [] h.is s
    at (c ∷ cs) s q = some_bytes c (encode_utf8_all cs ++ rest) (sym (append_assoc (encode_utf8 c) (encode_utf8_all cs) rest) ∙ q)

is_bad : PageToken → Bool
is_bad token.Bad = true
is_bad token.Doctype = false
is_bad (token.Start e) = false
is_bad (token.End e) = false
is_bad token.Blank = false
is_bad token.Text = false
is_bad token.Misc = false

has_bad : List PageToken → Bool
has_bad [] = false
has_bad (t ∷ ts) = is_bad t || has_bad ts

sort_good : (sort : Sort) (ts : List PageToken) → has_bad (sort_token sort ∷ ts) ≡ has_bad ts
unfolding has_bad is_bad
sort_good blank ts = refl
sort_good text ts = refl
sort_good remark ts = refl

trees_good : (trees : Trees) (ts : List PageToken) → has_bad (trees_then trees ts) ≡ has_bad ts
unfolding has_bad is_bad
trees_good no_trees ts = refl
trees_good (single sort more) ts = sort_good sort (trees_then more ts) ∙ trees_good more ts
trees_good (tree e inside more) ts = trees_good inside _ ∙ trees_good more ts

flat_good : (before : Option Trees) (trees : Trees) → has_bad (prolog_then before (trees_then trees [])) ≡ false
unfolding has_bad is_bad
flat_good None trees = trees_good trees []
flat_good (Some before) trees = trees_good before _ ∙ trees_good trees []

rest_bad : (table : Table) (ps : List Piece) (b : ℕ) (bytes : List ℕ) → has_bad (tokens_then table ps (left_tokens (b ∷ bytes))) ≡ true
unfolding has_bad is_bad
rest_bad table [] b bytes = refl
rest_bad table (mark ∷ ps) b bytes = rest_bad table ps b bytes
rest_bad table (declaration d ∷ ps) b bytes = rest_bad table ps b bytes
rest_bad table (doctype d ∷ ps) b bytes = rest_bad table ps b bytes
rest_bad table (start_tag tag ∷ ps) b bytes = rest_bad table ps b bytes
rest_bad table (empty_tag tag ∷ ps) b bytes = rest_bad table ps b bytes
rest_bad table (end_tag name space ∷ ps) b bytes = rest_bad table ps b bytes
rest_bad table (leaf l ∷ ps) b bytes = sort_good (sort_of l) (tokens_then table ps (left_tokens (b ∷ bytes))) ∙ rest_bad table ps b bytes

no_rest : (table : Table) (ps : List Piece) (rest : List ℕ) → has_bad (tokens_then table ps (left_tokens rest)) ≡ false → rest ≡ []
no_rest table ps [] h = refl
no_rest table ps (b ∷ bytes) h = let e : true ≡ false = sym (rest_bad table ps b bytes) ∙ h in cc

good_tokens : (table : Table) (cs : List ℕ) (tokens : List PageToken) → PageTokens table (encode_utf8_all cs) tokens → GoodPieces table cs → TokenTree table tokens
good_tokens table cs tokens t g =
    let bytes = bytes_are g.pieces ∙ ap encode_utf8_all g.spelled in
    let same = tokens_once table at_beginning t.pieces g.pieces t.rest [] t.lawful g.lawful t.none (empty_bytes table _) (t.spelled ∙ sym bytes) in
    subst (TokenTree table) (sym same ∙ t.are) g.tree

tree_valid : (table : Table) (bytes : List ℕ) (tokens : List PageToken) → PageTokens table bytes tokens → TokenTree table tokens → Valid table bytes
tree_valid table bytes tokens t g =
    let none : t.rest ≡ [] = no_rest table t.pieces t.rest (ap has_bad (t.are ∙ sym g.flat) ∙ flat_good g.before g.trees) in
    let spelled : encode_utf8_all (pieces_then t.pieces []) ≡ bytes = sym (bytes_are t.pieces) ∙ ap (bytes_then t.pieces) (sym none) ∙ t.spelled in
    let same : tokens ≡ tokens_then table t.pieces [] = sym t.are ∙ ap (λ (w : List ℕ). tokens_then table t.pieces (left_tokens w)) none in
    subst (Valid table) spelled (good_valid table (pieces_then t.pieces []) (record { pieces = t.pieces; lawful = t.lawful; spelled = refl; tree = subst (TokenTree table) same g }))

pub valid_by_tokens : (table : Table) (bytes : List ℕ) (tokens : List PageToken) → PageTokens table bytes tokens → Valid table bytes ↔ TokenTree table tokens
valid_by_tokens table bytes tokens t = (
  λ v.
      let cs = pieces_then (pieces_of v.page) [] in
      good_tokens table cs tokens (subst (λ (w : List ℕ). PageTokens table w tokens) (sym v.spells.spelled) t) (valid_good table cs (subst (Valid table) (sym v.spells.spelled) v)),
  tree_valid table bytes tokens t,
)
