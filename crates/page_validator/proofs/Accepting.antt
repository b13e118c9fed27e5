-- The machine accepts the flat list of a tree.
use Rattle.std.proofs.Common.{◌≡◌, ℕ, Bool, true, ◌&&◌, List, [], ◌∷◌, Option, Some, None, refl, sym, ◌∙◌, ap, length, codes, slice_get}
use Rattle.std.specs.Prelude.{if◌then◌else◌, nat_eq, nat_lt}
use Rattle.std.proofs.lemmas.Bool.{and_parts, and_from, eq-eqb, lt-ltb}
use Rattle.std.proofs.lemmas.Option.{slice_get_within}
use Rattle.text_base.specs.declared.page_token.PageToken.{PageToken}
use Rattle.text_base.specs.declared.page_token.PageToken.TheVariants as token
use Rattle.dtd_model.specs.declared.dtd.DoctypeRule.{DoctypeRule}
use Rattle.dtd_model.specs.declared.dtd.DoctypeRule.TheVariants.{Strict, Free}
use Rattle.dtd_model.specs.Table.{Rule, Table, Holding}
use Rattle.content_automata.specs.Decides.{Decides}
use Rattle.content_automata.specs.Shapes.{then_some}
use Rattle.content_automata.specs.Tables.{first_at, next_at, ends_at, ends, run}
use Rattle.content_automata.specs.Tables as automata
use Rattle.page_model.specs.PageTokens.{sort_token}
use Rattle.page_model.specs.TokenTree.{Trees, no_trees, tree, trees_then, roots, singles_pass, TreesFit, PrologFits, TokenTree}
use Rattle.page_model.specs.TokenTree as tokens
use Rattle.page_model.specs.Valid.{Sort, blank, text, remark, is_between, may_hold, place_of}
use Rattle.page_validator.specs.Machine.{Stage, before_type, behind_type, root_begun, Open, State, may_begin, holding_at, with_child, may_stand, single, and_on, accepts}
use Rattle.page_validator.proofs.Accepted.{are_elements, holding_is}

declared : (d : Table) (e : ℕ) (r : Rule) → slice_get d.elements e ≡ Some r → nat_lt e (length d.elements) ≡ true
declared d e r h = lt-ltb e (length d.elements) (slice_get_within d.elements e r h)

-- a token of this sort leaves the state
single_step : (d : Table) (t : automata.Table) (state : State) (sort : Sort) (ts : List PageToken) → may_stand d state.1 sort ≡ true → accepts d t state (sort_token sort ∷ ts) ≡ accepts d t state ts
single_step d t state blank ts h = ap (λ (b : Bool). and_on (if b then Some state else None) (λ next. accepts d t next ts)) h
single_step d t state text ts h = ap (λ (b : Bool). and_on (if b then Some state else None) (λ next. accepts d t next ts)) h
single_step d t state remark ts h = ap (λ (b : Bool). and_on (if b then Some state else None) (λ next. accepts d t next ts)) h

-- a run that comes to a state has gone through the first child
came_by : (t : automata.Table) (s n m : ℕ) (es : List ℕ) → run t s (n ∷ es) ≡ Some m → (k : ℕ) × (next_at t s n ≡ Some k) × (run t k es ≡ Some m)
came_by t s n m es h = at (next_at t s n) refl h
  where
    at : (o : Option ℕ) → next_at t s n ≡ o → then_some o (λ (next : ℕ). run t next es) ≡ Some m → (k : ℕ) × (next_at t s n ≡ Some k) × (run t k es ≡ Some m)
    at None e g = cc
    at (Some k) e g = (k, e, g)

ended_by : (t : automata.Table) (o : Option ℕ) → ends t o ≡ true → (m : ℕ) × (o ≡ Some m) × (ends_at t m ≡ true)
ended_by t None h = cc
ended_by t (Some m) h = (m, refl, h)

-- what an element holds, up to its end tag
pub held : (d : Table) (t : automata.Table) → Decides d t → (f : Trees) (e s m : ℕ) (outer : List Open) (ts : List PageToken) → TreesFit d f → singles_pass (may_hold (holding_at d e)) f ≡ true → run t s (roots f) ≡ Some m
    → accepts d t (root_begun, (e, s) ∷ outer) (trees_then f ts) ≡ accepts d t (root_begun, (e, m) ∷ outer) ts
held d t decides no_trees e s m outer ts fits may h = let q : s ≡ m = cc in ap (λ (x : ℕ). accepts d t (root_begun, (e, x) ∷ outer) ts) q
held d t decides (tokens.single sort more) e s m outer ts fits may h =
    let p = and_parts (may_hold (holding_at d e) sort) (singles_pass (may_hold (holding_at d e)) more) may in
    single_step d t (root_begun, (e, s) ∷ outer) sort (trees_then more ts) p.0 ∙ held d t decides more e s m outer ts fits p.1 h
held d t decides (tree n inside more) e s m outer ts fits may h =
    let c = came_by t s n m (roots more) h in
    let fit = fits.0 in
    let end = ended_by t (run t (first_at t n) (roots inside)) (decides n fit.rule fit.declared (roots inside) (are_elements d inside fits.1) ∙ fit.elements) in
    let in_holding = ap (λ (x : Holding). singles_pass (may_hold x) inside) (holding_is d n fit.rule fit.declared) ∙ fit.held in
    let ending = token.End (record { 0 = n }) ∷ trees_then more ts in
    ap (λ (b : Bool). and_on (if b then with_child root_begun n (first_at t n) e outer (next_at t s n) else None) (λ next. accepts d t next (trees_then inside ending))) (declared d n fit.rule fit.declared)
    ∙ ap (λ (o : Option ℕ). and_on (with_child root_begun n (first_at t n) e outer o) (λ next. accepts d t next (trees_then inside ending))) c.1
    ∙ held d t decides inside n (first_at t n) end.0 ((e, c.0) ∷ outer) ending fits.1 in_holding end.1
    ∙ ap (λ (b : Bool). and_on (if b then (let z : State = (root_begun, (e, c.0) ∷ outer) in Some z) else None) (λ next. accepts d t next (trees_then more ts))) (and_from (nat_eq n n) (ends_at t end.0) (eq-eqb n n refl) end.2)
    ∙ held d t decides more e c.0 m outer ts fits.2 may c.2

-- behind the root stand no elements
behind_root : (d : Table) (t : automata.Table) (f : Trees) → roots f ≡ [] → singles_pass is_between f ≡ true → accepts d t (root_begun, []) (trees_then f []) ≡ true
behind_root d t no_trees h may = refl
behind_root d t (tokens.single sort more) h may =
    let p = and_parts (is_between sort) (singles_pass is_between more) may in
    single_step d t (root_begun, []) sort (trees_then more []) p.0 ∙ behind_root d t more h p.1
behind_root d t (tree n inside more) h may = cc

-- the root and what stands round it
rooted : (d : Table) (t : automata.Table) → Decides d t → (stage : Stage) (f : Trees) → may_begin d.doctype stage ≡ true → roots f ≡ place_of d.elements (codes "html") ∷ [] → singles_pass is_between f ≡ true → TreesFit d f → accepts d t (stage, []) (trees_then f []) ≡ true
rooted d t decides stage no_trees b root may fits = cc
rooted d t decides stage (tokens.single sort more) b root may fits =
    let p = and_parts (is_between sort) (singles_pass is_between more) may in
    single_step d t (stage, []) sort (trees_then more []) p.0 ∙ rooted d t decides stage more b root p.1 fits
rooted d t decides stage (tree n inside more) b root may fits =
    let html : n ≡ place_of d.elements (codes "html") = cc in
    let none : roots more ≡ [] = cc in
    let fit = fits.0 in
    let end = ended_by t (run t (first_at t n) (roots inside)) (decides n fit.rule fit.declared (roots inside) (are_elements d inside fits.1) ∙ fit.elements) in
    let in_holding = ap (λ (x : Holding). singles_pass (may_hold x) inside) (holding_is d n fit.rule fit.declared) ∙ fit.held in
    let ending = token.End (record { 0 = n }) ∷ trees_then more [] in
    let at_html : (may_begin d.doctype stage && nat_eq n (place_of d.elements (codes "html"))) ≡ true = and_from (may_begin d.doctype stage) (nat_eq n (place_of d.elements (codes "html"))) b (eq-eqb n (place_of d.elements (codes "html")) html) in
    ap (λ (x : Bool). and_on (if x then (if may_begin d.doctype stage && nat_eq n (place_of d.elements (codes "html")) then (let z : State = (root_begun, (n, first_at t n) ∷ []) in Some z) else None) else None) (λ next. accepts d t next (trees_then inside ending))) (declared d n fit.rule fit.declared)
    ∙ ap (λ (x : Bool). and_on (if x then (let z : State = (root_begun, (n, first_at t n) ∷ []) in Some z) else None) (λ next. accepts d t next (trees_then inside ending))) at_html
    ∙ held d t decides inside n (first_at t n) end.0 [] ending fits.1 in_holding end.1
    ∙ ap (λ (x : Bool). and_on (if x then (let z : State = (root_begun, []) in Some z) else None) (λ next. accepts d t next (trees_then more []))) (and_from (nat_eq n n) (ends_at t end.0) (eq-eqb n n refl) end.2)
    ∙ behind_root d t more none may

-- before the document type declaration
before : (d : Table) (t : automata.Table) (f : Trees) (ts : List PageToken) → roots f ≡ [] → singles_pass is_between f ≡ true → accepts d t (before_type, []) (trees_then f (token.Doctype ∷ ts)) ≡ accepts d t (behind_type, []) ts
before d t no_trees ts h may = refl
before d t (tokens.single sort more) ts h may =
    let p = and_parts (is_between sort) (singles_pass is_between more) may in
    single_step d t (before_type, []) sort (trees_then more (token.Doctype ∷ ts)) p.0 ∙ before d t more ts h p.1
before d t (tree n inside more) ts h may = cc

free : (r : DoctypeRule) → PrologFits r None → may_begin r before_type ≡ true
free Free h = refl
free Strict h = absurd h

typed_begins : (r : DoctypeRule) → may_begin r behind_type ≡ true
typed_begins Free = refl
typed_begins Strict = refl

fits_roots : (r : DoctypeRule) (f : Trees) → PrologFits r (Some f) → (roots f ≡ []) × (singles_pass is_between f ≡ true)
fits_roots Free f h = h
fits_roots Strict f h = h

pub accepting : (d : Table) (t : automata.Table) → Decides d t → (ts : List PageToken) → TokenTree d ts → accepts d t (before_type, []) ts ≡ true
accepting d t decides ts r = at r.before r.flat r.prolog
  where
    at : (b : Option Trees) → tokens.prolog_then b (trees_then r.trees []) ≡ ts → PrologFits d.doctype b → accepts d t (before_type, []) ts ≡ true
    at None flat fits = ap (accepts d t (before_type, [])) (sym flat) ∙ rooted d t decides before_type r.trees (free d.doctype fits) r.root r.around r.fits
    at (Some f) flat fits =
        let p = fits_roots d.doctype f fits in
        ap (accepts d t (before_type, [])) (sym flat) ∙ before d t f (trees_then r.trees []) p.0 p.1 ∙ rooted d t decides behind_type r.trees (typed_begins d.doctype) r.root r.around r.fits
