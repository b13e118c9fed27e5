-- Pages by the automaton of a definition, and trees that are as declared.
use Rattle.std.proofs.Common.{◌≡◌, ℕ, zero, suc, ◌<◌, inl, inr, Bool, true, false, ◌&&◌, List, [], ◌∷◌, ◌++◌, length, Contains, refl, sym, ◌∙◌, ap, subst, arith, Option, Some, None, slice_get, nat_eq, map}
use Rattle.std.specs.Prelude.{if◌then◌else◌, nat_lt}
use Rattle.std.specs.Cmp.{unsigned_Decides, first_so, second_so}
use Rattle.std.proofs.lemmas.List.Elements.{Contains-append_cases, Contains-append_right}
use Rattle.std.proofs.lemmas.Option.{slice_get_within}
use Rattle.text_base.specs.declared.page_token.PageToken.{PageToken}
use Rattle.text_base.specs.declared.page_token.PageToken.TheVariants.{Blank, Text, Misc}
use Rattle.dtd_model.specs.Table.{Rule, Table, Holding, nothing, anything, text_and, children}
use Rattle.page_model.specs.Valid.{Sort, may_hold}
use Rattle.page_model.specs.Valid as sort
use Rattle.page_model.specs.PageTokens.{sort_token}
use Rattle.page_model.specs.TokenTree.{Trees, no_trees, single, tree, trees_then, roots, singles_pass, TreeFits, TreesFit}
use Rattle.content_automata.specs.Shapes.{then_some}
use Rattle.content_automata.specs.Tables.{Table as States, AreElements, run, ends, first_at, next_at, ends_at, owner_at}
use Rattle.content_automata.specs.Decides.{Decides, HasOwners}
use Rattle.tag_sums.specs.Labels.{Label, child, other, Mark, blank, text, misc, doctype, token_of}
use Rattle.tag_sums.specs.Automaton.{Automaton, and_then, along, Holds}
use Rattle.tag_sums.specs.Trees.{Nodes, no_nodes, mark, element, start_tag, end_tag, tokens_of, labels_of, AreValid}
use Rattle.page_automata.specs.PageAutomaton.{Parts, parts_of, besides_of, may_stand, kept, element_keeps, sort_step, inner_step, page_step, page_automaton}
use Rattle.page_automata.specs.declared.besides.Besides.{Besides}
use Rattle.page_automata.proofs.StepLemmas.{lt_true, lt_from, some_same, if_option, inner_at, init_leads, closes_leads, inner_leads}

joins : {X : Type 0} (xs ys zs : List X) → (xs ++ ys) ++ zs ≡ xs ++ (ys ++ zs)
joins [] ys zs = refl
joins (x ∷ xs) ys zs = ap (λ l. x ∷ l) (joins xs ys zs)

and_then_gives : {A B : Type 0} (o : Option A) (f : A → Option B) (b : B) → and_then o f ≡ Some b → (a : A) × (o ≡ Some a) × (f a ≡ Some b)
and_then_gives None f b e = cc
and_then_gives (Some a) f b e = (a, refl, e)

then_some_gives : {A B : Type 0} (o : Option A) (f : A → Option B) (b : B) → then_some o f ≡ Some b → (a : A) × (o ≡ Some a) × (f a ≡ Some b)
then_some_gives None f b e = cc
then_some_gives (Some a) f b e = (a, refl, e)

none_in : {X : Type 0} (x : X) → Contains [] x → ⊥
none_in x c = absurd (omega (arith, c.1))

only_in : {X : Type 0} (x y : X) → Contains (x ∷ []) y → x ≡ y
only_in x y (zero, l, e) = e
only_in x y (suc k, l, e) = absurd (omega (arith, l))

elements_cons : (count e : ℕ) (es : List ℕ) → e < count → AreElements count es → AreElements count (e ∷ es)
elements_cons count e es h k x c = elim (Contains-append_cases (e ∷ []) es x c) [
  | inl d ↦ subst (λ (y : ℕ). y < count) (only_in e x d) h
  | inr d ↦ k x d
]

-- what is no element, but for a document type declaration
abbrev pub trees_of : Nodes → Trees
trees_of no_nodes = no_trees
trees_of (mark blank rest) = single sort.blank (trees_of rest)
trees_of (mark text rest) = single sort.text (trees_of rest)
trees_of (mark misc rest) = single sort.remark (trees_of rest)
trees_of (mark doctype rest) = trees_of rest
trees_of (element e inside rest) = tree e (trees_of inside) (trees_of rest)

-- no document type declaration stands among the nodes, and none inside elements
abbrev pub HasNone : Nodes → Type 0
HasNone no_nodes = Unit {0}
HasNone (mark blank rest) = HasNone rest
HasNone (mark text rest) = HasNone rest
HasNone (mark misc rest) = HasNone rest
HasNone (mark doctype rest) = ⊥
HasNone (element e inside rest) = HasNone rest

abbrev pub HasNoneWithin : Nodes → Type 0
HasNoneWithin no_nodes = Unit {0}
HasNoneWithin (mark m rest) = HasNoneWithin rest
HasNoneWithin (element e inside rest) = HasNone inside × HasNoneWithin inside × HasNoneWithin rest

pub flat : (f : Nodes) (ts : List PageToken) → HasNone f → HasNoneWithin f → tokens_of f ++ ts ≡ trees_then (trees_of f) ts
flat no_nodes ts h k = refl
flat (mark blank rest) ts h k = ap (λ (l : List PageToken). Blank ∷ l) (flat rest ts h k)
flat (mark text rest) ts h k = ap (λ (l : List PageToken). Text ∷ l) (flat rest ts h k)
flat (mark misc rest) ts h k = ap (λ (l : List PageToken). Misc ∷ l) (flat rest ts h k)
flat (mark doctype rest) ts h k = absurd h
flat (element e inside rest) ts h k =
    ap (λ (l : List PageToken). start_tag e ∷ l)
    (joins (tokens_of inside) (end_tag e ∷ tokens_of rest) ts
    ∙ flat inside (end_tag e ∷ (tokens_of rest ++ ts)) k.0 k.1
    ∙ ap (λ (l : List PageToken). trees_then (trees_of inside) (end_tag e ∷ l)) (flat rest ts h k.2))

-- the nodes of trees, and others behind them
abbrev pub sort_mark : Sort → Mark
sort_mark sort.blank = blank
sort_mark sort.text = text
sort_mark sort.remark = misc

abbrev pub nodes_then : Trees → Nodes → Nodes
nodes_then no_trees behind = behind
nodes_then (single s more) behind = mark (sort_mark s) (nodes_then more behind)
nodes_then (tree e inside more) behind = element e (nodes_then inside no_nodes) (nodes_then more behind)

sort_tokens : (s : Sort) → token_of (sort_mark s) ≡ sort_token s
sort_tokens sort.blank = refl
sort_tokens sort.text = refl
sort_tokens sort.remark = refl

pub spelled : (f : Trees) (behind : Nodes) (ts : List PageToken) → tokens_of (nodes_then f behind) ++ ts ≡ trees_then f (tokens_of behind ++ ts)
spelled no_trees behind ts = refl
spelled (single s more) behind ts =
    ap (λ (t : PageToken). t ∷ (tokens_of (nodes_then more behind) ++ ts)) (sort_tokens s)
    ∙ ap (λ (l : List PageToken). sort_token s ∷ l) (spelled more behind ts)
spelled (tree e inside more) behind ts =
    ap (λ (l : List PageToken). start_tag e ∷ l)
    (joins (tokens_of (nodes_then inside no_nodes)) (end_tag e ∷ tokens_of (nodes_then more behind)) ts
    ∙ spelled inside no_nodes (end_tag e ∷ (tokens_of (nodes_then more behind) ++ ts))
    ∙ ap (λ (l : List PageToken). trees_then inside (end_tag e ∷ l)) (spelled more behind ts))

count_same : (rules : List Rule) → length (map (λ (r : Rule). besides_of r.holding) rules) ≡ length rules
count_same [] = refl
count_same (r ∷ rules) = let e = count_same rules in omega (arith, e)

besides_at : (rules : List Rule) (e : ℕ) (r : Rule) → slice_get rules e ≡ Some r → slice_get (map (λ (x : Rule). besides_of x.holding) rules) e ≡ Some (besides_of r.holding)
besides_at [] e r h = cc
besides_at (x ∷ rules) zero r h = let same : x ≡ r = cc in ap (λ (y : Rule). Some (besides_of y.holding)) same
besides_at (x ∷ rules) (suc e) r h = besides_at rules e r h

holds_same : (h : Holding) (s : Sort) → may_stand (besides_of h) s ≡ may_hold h s
holds_same nothing s = refl
holds_same anything s = refl
holds_same (text_and es) s = refl
holds_same (children m) s = refl

pub own_parts : (table : Table) (t : States) → HasOwners (length table.elements) t → HasOwners (length (parts_of table t).besides) t
own_parts table t own = subst (λ (n : ℕ). HasOwners n t) (sym (count_same table.elements)) own

module _ (table : Table) (t : States) (own : HasOwners (length table.elements) t) where
  abbrev p : Parts
  p = parts_of table t

  abbrev pa : Automaton
  pa = page_automaton (parts_of table t)

  pub own_p : HasOwners (length (parts_of table t).besides) t
  own_p = own_parts table t own

  lt_count : (e : ℕ) → nat_lt e (length (parts_of table t).besides) ≡ nat_lt e (length table.elements)
  lt_count e = ap (nat_lt e) (count_same table.elements)

  abbrev count : ℕ
  count = length table.elements

  abbrev IsOf : Rule → ℕ → Type 0
  IsOf rule q = slice_get table.elements (owner_at t q) ≡ Some rule

  -- what a walk through the states of one element says of the nodes
  abbrev Walked : Rule → Nodes → ℕ → ℕ → Type 0
  Walked rule f q r = HasNone f × (singles_pass (may_hold rule.holding) (trees_of f) ≡ true) × (run t q (roots (trees_of f)) ≡ Some r) × AreElements count (roots (trees_of f))

  keeps_as : (rule : Rule) (s : Sort) (q : ℕ) → IsOf rule q → element_keeps (slice_get p.besides (owner_at t q)) s ≡ may_hold rule.holding s
  keeps_as rule s q of = ap (λ (o : Option Besides). element_keeps o s) (besides_at table.elements (owner_at t q) rule of) ∙ holds_same rule.holding s

  mark_walk : (rule : Rule) (s : Sort) (l : Label) (ls : List Label) (q r : ℕ) → q < length t.1 → IsOf rule q → inner_step p q l ≡ sort_step p q s → along pa q (l ∷ ls) ≡ Some r → (may_hold rule.holding s ≡ true) × (along pa q ls ≡ Some r)
  mark_walk rule s l ls q r h of step e =
      let g = and_then_gives (page_step p q l) (λ x. along pa x ls) r e in
      let k = if_option (element_keeps (slice_get p.besides (owner_at t q)) s) (Some q) g.0 (sym step ∙ sym (inner_at p q l h) ∙ g.1) in
      (sym (keeps_as rule s q of) ∙ k.0, subst (λ (x : ℕ). along pa x ls ≡ Some r) (sym (some_same q g.0 k.1)) g.2)

  both : (a b : Bool) → a ≡ true → b ≡ true → (a && b) ≡ true
  both true b h k = k
  both false b h k = cc

  pub walked : (rule : Rule) (f : Nodes) (q r : ℕ) → q < length t.1 → IsOf rule q → along pa q (labels_of f) ≡ Some r → Walked rule f q r
  walked rule no_nodes q r h of e = (tt, refl, e, λ x c. absurd (none_in x c))
  walked rule (mark blank rest) q r h of e =
      let k = mark_walk rule sort.blank (other blank) (labels_of rest) q r h of refl e in
      let w = walked rule rest q r h of k.1 in
      (w.0, both (may_hold rule.holding sort.blank) (singles_pass (may_hold rule.holding) (trees_of rest)) k.0 w.1, w.2, w.3)
  walked rule (mark text rest) q r h of e =
      let k = mark_walk rule sort.text (other text) (labels_of rest) q r h of refl e in
      let w = walked rule rest q r h of k.1 in
      (w.0, both (may_hold rule.holding sort.text) (singles_pass (may_hold rule.holding) (trees_of rest)) k.0 w.1, w.2, w.3)
  walked rule (mark misc rest) q r h of e =
      let k = mark_walk rule sort.remark (other misc) (labels_of rest) q r h of refl e in
      let w = walked rule rest q r h of k.1 in
      (w.0, both (may_hold rule.holding sort.remark) (singles_pass (may_hold rule.holding) (trees_of rest)) k.0 w.1, w.2, w.3)
  walked rule (mark doctype rest) q r h of e =
      let g = and_then_gives (page_step p q (other doctype)) (λ x. along pa x (labels_of rest)) r e in
      let f : None ≡ Some g.0 = sym (inner_at p q (other doctype) h) ∙ g.1 in
      cc
  walked rule (element d inside rest) q r h of e =
      let g = and_then_gives (page_step p q (child d)) (λ x. along pa x (labels_of rest)) r e in
      let step = sym (inner_at p q (child d) h) ∙ g.1 in
      let k = if_option (nat_lt d (length p.besides)) (next_at t q d) g.0 step in
      let to = inner_leads p own_p q g.0 (child d) h step in
      let w = walked rule rest g.0 r to.0 (ap (slice_get table.elements) to.1 ∙ of) g.2 in (
        w.0,
        w.1,
        ap (λ (o : Option ℕ). then_some o (λ (x : ℕ). run t x (roots (trees_of rest)))) k.1 ∙ w.2,
        elements_cons count d (roots (trees_of rest)) (lt_from d count (sym (lt_count d) ∙ k.0)) w.3,
      )

  at_some : {X : Type 0} (xs : List X) (n : ℕ) → n < length xs → (x : X) × (slice_get xs n ≡ Some x)
  at_some [] n h = absurd (omega (arith, h))
  at_some (x ∷ xs) zero h = (x, refl)
  at_some (x ∷ xs) (suc n) h = at_some xs n (omega (arith, h))

  run_own : (es : List ℕ) (q r : ℕ) → q < length t.1 → run t q es ≡ Some r → (r < length t.1) × (owner_at t r ≡ owner_at t q)
  run_own [] q r h e = subst (λ (x : ℕ). (x < length t.1) × (owner_at t x ≡ owner_at t q)) (some_same q r e) (h, refl)
  run_own (d ∷ es) q r h e =
      let g = then_some_gives (next_at t q d) (λ (x : ℕ). run t x es) r e in
      let w = run_own es g.0 r (own.next_below q g.0 d g.1) g.2 in
      (w.0, w.1 ∙ own.next_own q g.0 d g.1)

  ends_some : (o : Option ℕ) → ends t o ≡ true → (r : ℕ) × (o ≡ Some r) × (ends_at t r ≡ true)
  ends_some None e = cc
  ends_some (Some r) e = (r, refl, e)

  module _ (decides : Decides table t) where
    -- nodes that are valid are trees that fit
    fits_element : (d : ℕ) (inside : Nodes) → Holds pa d (labels_of inside) → HasNone inside × TreeFits table d (trees_of inside)
    fits_element d inside v =
        let q = init_leads p own_p d v.0 v.2 in
        let r = closes_leads p own_p d v.1 v.4 in
        let i = if_option (nat_lt d (length p.besides)) (Some (first_at t d)) v.0 v.2 in
        let rule = at_some table.elements d (lt_from d count (sym (lt_count d) ∙ i.0)) in
        let w = walked rule.0 inside v.0 v.1 q.0 (ap (slice_get table.elements) q.1 ∙ rule.1) v.3 in
        let same = some_same (first_at t d) v.0 i.1 in (
          w.0,
          record {
            rule = rule.0;
            declared = rule.1;
            held = w.1;
            elements =
                sym (decides d rule.0 rule.1 (roots (trees_of inside)) w.3)
                ∙ ap (λ (x : ℕ). ends t (run t x (roots (trees_of inside)))) same
                ∙ ap (ends t) w.2 ∙ r.2;
          },
        )

    pub valid_fits : (f : Nodes) → AreValid pa f → HasNoneWithin f × TreesFit table (trees_of f)
    valid_fits no_nodes v = (tt, tt)
    valid_fits (mark blank rest) v = valid_fits rest v
    valid_fits (mark text rest) v = valid_fits rest v
    valid_fits (mark misc rest) v = valid_fits rest v
    valid_fits (mark doctype rest) v = valid_fits rest v
    valid_fits (element d inside rest) v =
        let here = fits_element d inside v.0 in
        let within = valid_fits inside v.1 in
        let behind = valid_fits rest v.2 in
        ((here.0, within.0, behind.0), (here.1, within.1, behind.1))

    -- trees that fit are nodes that are valid
    kept_true : (rule : Rule) (s : Sort) (q : ℕ) → IsOf rule q → may_hold rule.holding s ≡ true → sort_step p q s ≡ Some q
    kept_true rule s q of h = ap (λ (b : Bool). kept b q) (keeps_as rule s q of ∙ h)

    by_sort : (s : Sort) (q : ℕ) → inner_step p q (other (sort_mark s)) ≡ sort_step p q s
    by_sort sort.blank q = refl
    by_sort sort.text q = refl
    by_sort sort.remark q = refl

    stepped : (rule : Rule) (f : Trees) (behind : Nodes) (q r : ℕ) → q < length t.1 → IsOf rule q → singles_pass (may_hold rule.holding) f ≡ true → run t q (roots f) ≡ Some r → AreElements count (roots f) → along pa q (labels_of (nodes_then f behind)) ≡ along pa r (labels_of behind)
    stepped rule no_trees behind q r h of s e b = ap (λ (x : ℕ). along pa x (labels_of behind)) (some_same q r e)
    stepped rule (single one more) behind q r h of s e b =
        ap (λ (o : Option ℕ). and_then o (λ (x : ℕ). along pa x (labels_of (nodes_then more behind))))
        (inner_at p q (other (sort_mark one)) h ∙ by_sort one q
        ∙ kept_true rule one q of (first_so (may_hold rule.holding one) (singles_pass (may_hold rule.holding) more) s))
        ∙ stepped rule more behind q r h of (second_so (may_hold rule.holding one) (singles_pass (may_hold rule.holding) more) s) e b
    stepped rule (tree d inside more) behind q r h of s e b =
        let g = then_some_gives (next_at t q d) (λ (x : ℕ). run t x (roots more)) r e in
        let below = b d (0, omega arith, refl) in
        ap (λ (o : Option ℕ). and_then o (λ (x : ℕ). along pa x (labels_of (nodes_then more behind))))
        (inner_at p q (child d) h ∙ ap (λ (x : Bool). if x then next_at t q d else None) (lt_count d ∙ lt_true d count below) ∙ g.1)
        ∙ stepped rule more behind g.0 r (own.next_below q g.0 d g.1) (ap (slice_get table.elements) (own.next_own q g.0 d g.1) ∙ of) s g.2 (λ x c. b x (Contains-append_right (d ∷ []) (roots more) x c))

    roots_declared : (f : Trees) → TreesFit table f → AreElements count (roots f)
    roots_declared no_trees h x c = absurd (none_in x c)
    roots_declared (single s more) h x c = roots_declared more h x c
    roots_declared (tree d inside more) h x c = elements_cons count d (roots more) (slice_get_within table.elements d h.0.rule h.0.declared) (roots_declared more h.2) x c

    holds_element : (d : ℕ) (inside : Trees) → TreeFits table d inside → AreElements count (roots inside) → Holds pa d (labels_of (nodes_then inside no_nodes))
    holds_element d inside fit below =
        let small = slice_get_within table.elements d fit.rule fit.declared in
        let first = own.first_below d small in
        let last = ends_some (run t (first_at t d) (roots inside)) (decides d fit.rule fit.declared (roots inside) below ∙ fit.elements) in
        let stay = run_own (roots inside) (first_at t d) last.0 first last.1 in
        let owner = stay.1 ∙ own.first_own d small in (
          first_at t d,
          last.0,
          ap (λ (x : Bool). if x then Some (first_at t d) else None) (lt_count d ∙ lt_true d count small),
          stepped fit.rule inside no_nodes (first_at t d) last.0 first (ap (slice_get table.elements) (own.first_own d small) ∙ fit.declared) fit.held last.1 below,
          both (nat_lt last.0 (length t.1)) (nat_eq (owner_at t last.0) d && ends_at t last.0) (lt_true last.0 (length t.1) stay.0)
              (both (nat_eq (owner_at t last.0) d) (ends_at t last.0) ((unsigned_Decides (owner_at t last.0) d).1 owner) last.2),
        )

    pub fits_valid : (f : Trees) (behind : Nodes) → TreesFit table f → AreValid pa behind → AreValid pa (nodes_then f behind)
    fits_valid no_trees behind h v = v
    fits_valid (single s more) behind h v = fits_valid more behind h v
    fits_valid (tree d inside more) behind h v =
        (holds_element d inside h.0 (roots_declared inside h.1), fits_valid inside no_nodes h.1 tt, fits_valid more behind h.2 v)
