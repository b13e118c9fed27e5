-- What the machine accepts is the flat list of a tree.
use Rattle.std.proofs.Common.{◌≡◌, ℕ, ◌<◌, Bool, true, false, ◌&&◌, List, [], ◌∷◌, Option, Some, None, refl, sym, ◌∙◌, ap, subst, length, codes, slice_get, zero, suc, arith}
use Rattle.std.specs.Prelude.{if◌then◌else◌, nat_eq, nat_lt, slice_index_or}
use Rattle.std.proofs.lemmas.Bool.{and_from, eqb-true, ltb-true}
use Rattle.std.proofs.lemmas.Option.{slice_get_within}
use Rattle.text_base.specs.declared.page_token.PageToken.{PageToken}
use Rattle.text_base.specs.declared.page_token.PageToken.TheVariants as token
use Rattle.dtd_model.specs.declared.dtd.DoctypeRule.{DoctypeRule}
use Rattle.dtd_model.specs.declared.dtd.DoctypeRule.TheVariants.{Strict, Free}
use Rattle.dtd_model.specs.Table.{Rule, Table, Holding}
use Rattle.content_automata.specs.Decides.{Decides}
use Rattle.content_automata.specs.Shapes.{then_some}
use Rattle.content_automata.specs.Tables.{first_at, next_at, ends_at, ends, run, AreElements}
use Rattle.content_automata.specs.Tables as automata
use Rattle.page_model.specs.PageTokens.{sort_token}
use Rattle.page_model.specs.TokenTree.{Trees, no_trees, tree, trees_then, roots, singles_pass, TreeFits, TreesFit}
use Rattle.page_model.specs.TokenTree as tokens
use Rattle.page_model.specs.Valid.{Sort, blank, text, remark, is_between, may_hold, place_of}
use Rattle.page_validator.specs.Machine.{root_begun, Open, State, may_begin, holding_at, holding_of, with_child, may_stand, step, and_on, accepts}

-- each open element is closed in turn, and then the page ends
abbrev pub Closes : Table → automata.Table → List Open → List PageToken → Type 0
Closes d t [] ts = (f : Trees) × (ts ≡ trees_then f []) × (roots f ≡ []) × (singles_pass is_between f ≡ true)
Closes d t (o ∷ outer) ts = (f : Trees) × (more : List PageToken) × (ts ≡ trees_then f (token.End (record { 0 = o.0 }) ∷ more)) × TreesFit d f × (singles_pass (may_hold (holding_at d o.0)) f ≡ true) × (ends t (run t o.1 (roots f)) ≡ true) × Closes d t outer more

-- the machine goes on only where a step does
pub stepped : (o : Option State) (next : State → Bool) → and_on o next ≡ true → (s : State) × (o ≡ Some s) × (next s ≡ true)
stepped None next h = cc
stepped (Some s) next h = (s, refl, h)

taken : (b : Bool) (s z : State) → (if b then Some s else None) ≡ Some z → (b ≡ true) × (s ≡ z)
taken true s z e = let q : s ≡ z = cc in (refl, q)
taken false s z e = cc

pub within : (d : Table) (e : ℕ) → nat_lt e (length d.elements) ≡ true → (r : Rule) × (slice_get d.elements e ≡ Some r)
within d e h = at d.elements e (ltb-true e (length d.elements) h)
  where
    at : (rs : List Rule) (e : ℕ) → e < length rs → (r : Rule) × (slice_get rs e ≡ Some r)
    at [] e l = absurd (omega arith)
    at (r ∷ rs) zero l = (r, refl)
    at (r ∷ rs) (suc e) l = at rs e (omega arith)

pub cons_elements : (count n : ℕ) (es : List ℕ) → n < count → AreElements count es → AreElements count (n ∷ es)
cons_elements count n es lt h e c = at c.0 c.1 c.2
  where
    at : (k : ℕ) → k < length (n ∷ es) → slice_index_or (n ∷ es) k e ≡ e → e < count
    at zero l is = subst (λ (x : ℕ). x < count) is lt
    at (suc k) l is = h e (k, omega arith, is)

pub are_elements : (d : Table) (f : Trees) → TreesFit d f → AreElements (length d.elements) (roots f)
are_elements d no_trees h e c = absurd (omega (arith, c.1))
are_elements d (tokens.single sort more) h e c = are_elements d more h e c
are_elements d (tree n inside more) h e c = cons_elements (length d.elements) n (roots more) (slice_get_within d.elements n h.0.rule h.0.declared) (are_elements d more h.2) e c

pub holding_is : (d : Table) (e : ℕ) (r : Rule) → slice_get d.elements e ≡ Some r → holding_at d e ≡ r.holding
holding_is d e r h = ap holding_of h

-- a child that goes on, and those behind it
run_child : (t : automata.Table) (s n e : ℕ) (es : List ℕ) → next_at t s e ≡ Some n → run t s (e ∷ es) ≡ run t n es
run_child t s n e es h = ap (λ (o : Option ℕ). then_some o (λ (next : ℕ). run t next es)) h

-- The tokens of one step.

put_single : (d : Table) (t : automata.Table) (outer : List Open) (sort : Sort) (ts : List PageToken) → may_stand d outer sort ≡ true → Closes d t outer ts → Closes d t outer (sort_token sort ∷ ts)
put_single d t [] sort ts may c =
    (tokens.single sort c.0, ap (λ (us : List PageToken). sort_token sort ∷ us) c.1, c.2, and_from (is_between sort) (singles_pass is_between c.0) may c.3)
put_single d t (o ∷ outer) sort ts may c =
    (tokens.single sort c.0, c.1, ap (λ (us : List PageToken). sort_token sort ∷ us) c.2, c.3, and_from (may_hold (holding_at d o.0) sort) (singles_pass (may_hold (holding_at d o.0)) c.0) may c.4, c.5, c.6)

-- an element that is closed is a tree
pub closed_tree : (d : Table) (t : automata.Table) → Decides d t → (e : ℕ) (r : Rule) → slice_get d.elements e ≡ Some r → (f : Trees) → TreesFit d f → singles_pass (may_hold (holding_at d e)) f ≡ true → ends t (run t (first_at t e) (roots f)) ≡ true → TreeFits d e f
closed_tree d t decides e r h f fits held end = record {
  rule = r;
  declared = h;
  held = ap (λ (x : Holding). singles_pass (may_hold x) f) (sym (holding_is d e r h)) ∙ held;
  elements = sym (decides e r h (roots f) (are_elements d f fits)) ∙ end;
}

put_tree : (d : Table) (t : automata.Table) → Decides d t → (e f s n : ℕ) (r : Rule) (outer : List Open) (ts : List PageToken) → slice_get d.elements e ≡ Some r → next_at t s e ≡ Some n
    → Closes d t ((e, first_at t e) ∷ (f, n) ∷ outer) ts → Closes d t ((f, s) ∷ outer) (token.Start (record { 0 = e }) ∷ ts)
put_tree d t decides e f s n r outer ts h next c =
    let b = c.6 in
    let fits = closed_tree d t decides e r h c.0 c.3 c.4 c.5 in (
      tree e c.0 b.0,
      b.1,
      ap (λ (us : List PageToken). token.Start (record { 0 = e }) ∷ us) (c.2 ∙ ap (λ (us : List PageToken). trees_then c.0 (token.End (record { 0 = e }) ∷ us)) b.2),
      (fits, c.3, b.3),
      b.4,
      ap (ends t) (run_child t s n e (roots b.0) next) ∙ b.5,
      b.6,
    )

pub accepted : (d : Table) (t : automata.Table) → Decides d t → (ts : List PageToken) (outer : List Open) → accepts d t (root_begun, outer) ts ≡ true → Closes d t outer ts
accepted d t decides [] [] h = (no_trees, refl, refl, refl)
accepted d t decides [] (o ∷ outer) h = cc
accepted d t decides (tok ∷ ts) outer h = at tok outer h (λ o g. accepted d t decides ts o g)
  where
    singled : (sort : Sort) (outer : List Open) → and_on (if may_stand d outer sort then (let s : State = (root_begun, outer) in Some s) else None) (λ next. accepts d t next ts) ≡ true → ((o : List Open) → accepts d t (root_begun, o) ts ≡ true → Closes d t o ts) → Closes d t outer (sort_token sort ∷ ts)
    singled sort outer h ih = go (may_stand d outer sort) refl h
      where
        go : (b : Bool) → may_stand d outer sort ≡ b → and_on (if b then (let s : State = (root_begun, outer) in Some s) else None) (λ next. accepts d t next ts) ≡ true → Closes d t outer (sort_token sort ∷ ts)
        go true m g = put_single d t outer sort ts m (ih outer g)
        go false m g = cc

    start_in : (e f s : ℕ) (outer : List Open) → and_on (if nat_lt e (length d.elements) then with_child root_begun e (first_at t e) f outer (next_at t s e) else None) (λ next. accepts d t next ts) ≡ true → ((o : List Open) → accepts d t (root_begun, o) ts ≡ true → Closes d t o ts) → Closes d t ((f, s) ∷ outer) (token.Start (record { 0 = e }) ∷ ts)
    start_in e f s outer h ih = go (nat_lt e (length d.elements)) refl (next_at t s e) refl h
      where
        go : (b : Bool) → nat_lt e (length d.elements) ≡ b → (n : Option ℕ) → next_at t s e ≡ n → and_on (if b then with_child root_begun e (first_at t e) f outer n else None) (λ next. accepts d t next ts) ≡ true → Closes d t ((f, s) ∷ outer) (token.Start (record { 0 = e }) ∷ ts)
        go true l None n g = cc
        go true l (Some n) m g = let w = within d e l in put_tree d t decides e f s n w.0 outer ts w.1 m (ih ((e, first_at t e) ∷ (f, n) ∷ outer) g)
        go false l n m g = cc

    end_in : (e f s : ℕ) (outer : List Open) → and_on (if nat_eq f e && ends_at t s then (let z : State = (root_begun, outer) in Some z) else None) (λ next. accepts d t next ts) ≡ true → ((o : List Open) → accepts d t (root_begun, o) ts ≡ true → Closes d t o ts) → Closes d t ((f, s) ∷ outer) (token.End (record { 0 = e }) ∷ ts)
    end_in e f s outer h ih = go (nat_eq f e) refl (ends_at t s) refl h
      where
        go : (b : Bool) → nat_eq f e ≡ b → (x : Bool) → ends_at t s ≡ x → and_on (if b && x then (let z : State = (root_begun, outer) in Some z) else None) (λ next. accepts d t next ts) ≡ true → Closes d t ((f, s) ∷ outer) (token.End (record { 0 = e }) ∷ ts)
        go true same true end g = (no_trees, ts, ap (λ (x : ℕ). token.End (record { 0 = x }) ∷ ts) (sym (eqb-true f e same)), tt, refl, end, ih outer g)
        go true same false end g = cc
        go false same x end g = cc

    at : (tok : PageToken) (outer : List Open) → accepts d t (root_begun, outer) (tok ∷ ts) ≡ true → ((o : List Open) → accepts d t (root_begun, o) ts ≡ true → Closes d t o ts) → Closes d t outer (tok ∷ ts)
    at token.Doctype outer h ih = cc
    at (token.Start e) [] h ih = nothing (nat_lt e.0 (length d.elements)) (may_begin d.doctype root_begun) (never d.doctype) h
      where
        never : (r : DoctypeRule) → may_begin r root_begun ≡ false
        never Free = refl
        never Strict = refl

        nothing : (b m : Bool) → m ≡ false → and_on (if b then (if m && nat_eq e.0 (place_of d.elements (codes "html")) then (let z : State = (root_begun, (e.0, first_at t e.0) ∷ []) in Some z) else None) else None) (λ next. accepts d t next ts) ≡ true → Closes d t [] (token.Start e ∷ ts)
        nothing true true f g = cc
        nothing true false f g = cc
        nothing false m f g = cc
    at (token.Start e) (o ∷ outer) h ih = start_in e.0 o.0 o.1 outer h ih
    at (token.End e) [] h ih = cc
    at (token.End e) (o ∷ outer) h ih = end_in e.0 o.0 o.1 outer h ih
    at token.Blank outer h ih = singled blank outer h ih
    at token.Text outer h ih = singled text outer h ih
    at token.Misc outer h ih = singled remark outer h ih
    at token.Bad outer h ih = cc

-- trees without roots fit
pub no_fits : (d : Table) (f : Trees) → roots f ≡ [] → TreesFit d f
no_fits d no_trees h = tt
no_fits d (tokens.single sort more) h = no_fits d more h
no_fits d (tree n inside more) h = cc
