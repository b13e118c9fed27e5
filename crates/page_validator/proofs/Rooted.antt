-- The tokens of a whole page that the machine accepts.
use Rattle.std.proofs.Common.{◌≡◌, ℕ, Bool, true, false, ◌&&◌, List, [], ◌∷◌, Option, Some, None, refl, sym, ◌∙◌, ap, length, codes}
use Rattle.std.specs.Prelude.{if◌then◌else◌, nat_eq, nat_lt}
use Rattle.std.proofs.lemmas.Bool.{and_from, eqb-true}
use Rattle.text_base.specs.declared.page_token.PageToken.{PageToken}
use Rattle.text_base.specs.declared.page_token.PageToken.TheVariants as token
use Rattle.dtd_model.specs.declared.dtd.DoctypeRule.{DoctypeRule}
use Rattle.dtd_model.specs.declared.dtd.DoctypeRule.TheVariants.{Strict, Free}
use Rattle.dtd_model.specs.Table.{Table}
use Rattle.content_automata.specs.Decides.{Decides}
use Rattle.content_automata.specs.Tables.{first_at}
use Rattle.content_automata.specs.Tables as automata
use Rattle.page_model.specs.PageTokens.{sort_token}
use Rattle.page_model.specs.TokenTree.{Trees, no_trees, tree, trees_then, roots, singles_pass, TreesFit, PrologFits, TokenTree}
use Rattle.page_model.specs.TokenTree as tokens
use Rattle.page_model.specs.Valid.{Sort, blank, remark, is_between, place_of}
use Rattle.page_validator.specs.Machine.{Stage, before_type, behind_type, root_begun, State, may_begin, and_on, accepts}
use Rattle.page_validator.proofs.Accepted.{within, closed_tree, accepted, no_fits}

-- trees with one root, `html`
pub record Rooted (d : Table) (ts : List PageToken) : Type 0 where
  pub trees : Trees
  pub flat : trees_then trees [] ≡ ts
  pub root : roots trees ≡ place_of d.elements (codes "html") ∷ []
  pub around : singles_pass is_between trees ≡ true
  pub fits : TreesFit d trees

put_before : (d : Table) (sort : Sort) (ts : List PageToken) → is_between sort ≡ true → Rooted d ts → Rooted d (sort_token sort ∷ ts)
put_before d sort ts may r = record {
  trees = tokens.single sort r.trees;
  flat = ap (λ (us : List PageToken). sort_token sort ∷ us) r.flat;
  root = r.root;
  around = and_from (is_between sort) (singles_pass is_between r.trees) may r.around;
  fits = r.fits;
}

-- the root, from its start tag on
rooted_from : (d : Table) (t : automata.Table) → Decides d t → (e : ℕ) (ts : List PageToken) → nat_lt e (length d.elements) ≡ true → nat_eq e (place_of d.elements (codes "html")) ≡ true → accepts d t (root_begun, (e, first_at t e) ∷ []) ts ≡ true → Rooted d (token.Start (record { 0 = e }) ∷ ts)
rooted_from d t decides e ts l same h =
    let w = within d e l in
    let c = accepted d t decides ts ((e, first_at t e) ∷ []) h in
    let b = c.6 in
    record {
      trees = tree e c.0 b.0;
      flat = ap (λ (us : List PageToken). token.Start (record { 0 = e }) ∷ us) (ap (λ (us : List PageToken). trees_then c.0 (token.End (record { 0 = e }) ∷ us)) (sym b.1) ∙ sym c.2);
      root = ap (λ (es : List ℕ). e ∷ es) b.2 ∙ ap (λ (x : ℕ). x ∷ []) (eqb-true e (place_of d.elements (codes "html")) same);
      around = b.3;
      fits = (closed_tree d t decides e w.0 w.1 c.0 c.3 c.4 c.5, c.3, no_fits d b.0 b.2);
    }

abbrev start_at : Table → automata.Table → Stage → ℕ → List PageToken → Bool → Bool → Bool
start_at d t stage e ts m b = and_on (if b then (if m && nat_eq e (place_of d.elements (codes "html")) then (let z : State = (root_begun, (e, first_at t e) ∷ []) in Some z) else None) else None) (λ next. accepts d t next ts)

started : (d : Table) (t : automata.Table) → Decides d t → (stage : Stage) (e : ℕ) (ts : List PageToken) → start_at d t stage e ts (may_begin d.doctype stage) (nat_lt e (length d.elements)) ≡ true → (may_begin d.doctype stage ≡ true) × Rooted d (token.Start (record { 0 = e }) ∷ ts)
started d t decides stage e ts h = go (may_begin d.doctype stage) refl (nat_lt e (length d.elements)) refl (nat_eq e (place_of d.elements (codes "html"))) refl h
  where
    go : (m : Bool) → may_begin d.doctype stage ≡ m → (b : Bool) → nat_lt e (length d.elements) ≡ b → (x : Bool) → nat_eq e (place_of d.elements (codes "html")) ≡ x
        → and_on (if b then (if m && x then (let z : State = (root_begun, (e, first_at t e) ∷ []) in Some z) else None) else None) (λ next. accepts d t next ts) ≡ true → (may_begin d.doctype stage ≡ true) × Rooted d (token.Start (record { 0 = e }) ∷ ts)
    go true f true g true k a = (f, rooted_from d t decides e ts g k a)
    go true f true g false k a = cc
    go true f false g x k a = cc
    go false f true g x k a = cc
    go false f false g x k a = cc

passed : (d : Table) (t : automata.Table) (stage : Stage) (sort : Sort) (ts : List PageToken) → and_on (if is_between sort then (let s : State = (stage, []) in Some s) else None) (λ next. accepts d t next ts) ≡ true → (is_between sort ≡ true) × (accepts d t (stage, []) ts ≡ true)
passed d t stage sort ts h = go (is_between sort) refl h
  where
    go : (b : Bool) → is_between sort ≡ b → and_on (if b then (let s : State = (stage, []) in Some s) else None) (λ next. accepts d t next ts) ≡ true → (is_between sort ≡ true) × (accepts d t (stage, []) ts ≡ true)
    go true e g = (e, g)
    go false e g = cc

rooted : (d : Table) (t : automata.Table) → Decides d t → (ts : List PageToken) → accepts d t (behind_type, []) ts ≡ true → Rooted d ts
rooted d t decides [] h = cc
rooted d t decides (token.Doctype ∷ ts) h = cc
rooted d t decides (token.Start e ∷ ts) h = (started d t decides behind_type e.0 ts h).1
rooted d t decides (token.End e ∷ ts) h = cc
rooted d t decides (token.Blank ∷ ts) h = let p = passed d t behind_type blank ts h in put_before d blank ts p.0 (rooted d t decides ts p.1)
rooted d t decides (token.Text ∷ ts) h = cc
rooted d t decides (token.Misc ∷ ts) h = let p = passed d t behind_type remark ts h in put_before d remark ts p.0 (rooted d t decides ts p.1)
rooted d t decides (token.Bad ∷ ts) h = cc

free_fits : (r : DoctypeRule) → may_begin r before_type ≡ true → PrologFits r None
free_fits Free h = tt
free_fits Strict h = cc

some_fits : (r : DoctypeRule) (f : Trees) → roots f ≡ [] → singles_pass is_between f ≡ true → PrologFits r (Some f)
some_fits Free f a b = (a, b)
some_fits Strict f a b = (a, b)

fits_roots : (r : DoctypeRule) (f : Trees) → PrologFits r (Some f) → (roots f ≡ []) × (singles_pass is_between f ≡ true)
fits_roots Free f h = h
fits_roots Strict f h = h

put_first : (d : Table) (sort : Sort) (ts : List PageToken) → is_between sort ≡ true → TokenTree d ts → TokenTree d (sort_token sort ∷ ts)
put_first d sort ts may r = go r.before r.flat r.prolog
  where
    go : (b : Option Trees) → tokens.prolog_then b (trees_then r.trees []) ≡ ts → PrologFits d.doctype b → TokenTree d (sort_token sort ∷ ts)
    go None flat fits = record {
      before = None;
      trees = tokens.single sort r.trees;
      flat = ap (λ (us : List PageToken). sort_token sort ∷ us) flat;
      prolog = fits;
      root = r.root;
      around = and_from (is_between sort) (singles_pass is_between r.trees) may r.around;
      fits = r.fits;
    }
    go (Some f) flat fits =
        let p = fits_roots d.doctype f fits in
        record {
          before = Some (tokens.single sort f);
          trees = r.trees;
          flat = ap (λ (us : List PageToken). sort_token sort ∷ us) flat;
          prolog = some_fits d.doctype (tokens.single sort f) p.0 (and_from (is_between sort) (singles_pass is_between f) may p.1);
          root = r.root;
          around = r.around;
          fits = r.fits;
        }

pub whole : (d : Table) (t : automata.Table) → Decides d t → (ts : List PageToken) → accepts d t (before_type, []) ts ≡ true → TokenTree d ts
whole d t decides [] h = cc
whole d t decides (token.Doctype ∷ ts) h =
    let r = rooted d t decides ts h in
    record { before = Some no_trees; trees = r.trees; flat = ap (λ (us : List PageToken). token.Doctype ∷ us) r.flat; prolog = some_fits d.doctype no_trees refl refl; root = r.root; around = r.around; fits = r.fits }
whole d t decides (token.Start e ∷ ts) h =
    let s = started d t decides before_type e.0 ts h in
    let r = s.1 in
    record { before = None; trees = r.trees; flat = r.flat; prolog = free_fits d.doctype s.0; root = r.root; around = r.around; fits = r.fits }
whole d t decides (token.End e ∷ ts) h = cc
whole d t decides (token.Blank ∷ ts) h = let p = passed d t before_type blank ts h in put_first d blank ts p.0 (whole d t decides ts p.1)
whole d t decides (token.Text ∷ ts) h = cc
whole d t decides (token.Misc ∷ ts) h = let p = passed d t before_type remark ts h in put_first d remark ts p.0 (whole d t decides ts p.1)
whole d t decides (token.Bad ∷ ts) h = cc
