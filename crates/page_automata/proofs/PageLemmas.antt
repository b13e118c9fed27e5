-- The states of the page itself.
use Rattle.std.proofs.Common.{◌≡◌, ◌↔◌, ℕ, ◌+◌, ◌⊎◌, inl, inr, Bool, true, false, ◌&&◌, List, [], ◌∷◌, length, refl, sym, ◌∙◌, ap, arith, Option, Some, None, nat_eq, append-nil}
use Rattle.std.specs.Prelude.{if◌then◌else◌}
use Rattle.std.specs.Cmp.{unsigned_Decides, first_so, second_so}
use Rattle.text_base.specs.declared.page_token.PageToken.{PageToken}
use Rattle.text_base.specs.declared.page_token.PageToken.TheVariants.{Doctype, Blank, Misc}
use Rattle.dtd_model.specs.declared.dtd.DoctypeRule.{DoctypeRule}
use Rattle.dtd_model.specs.declared.dtd.DoctypeRule.TheVariants.{Strict, Free}
use Rattle.dtd_model.specs.Table.{Table}
use Rattle.page_model.specs.Valid.{Sort, is_between}
use Rattle.page_model.specs.Valid as sort
use Rattle.page_model.specs.TokenTree.{Trees, no_trees, single, tree, trees_then, roots, singles_pass, TreesFit, prolog_then, PrologFits, TokenTree}
use Rattle.content_automata.specs.Tables.{Table as States}
use Rattle.content_automata.specs.Decides.{Decides, HasOwners}
use Rattle.tag_sums.specs.Labels.{Label, child, other, Mark, blank, text, misc, doctype}
use Rattle.tag_sums.specs.Automaton.{Automaton, and_then, along}
use Rattle.tag_sums.specs.Trees.{Nodes, no_nodes, mark, element, tokens_of, labels_of, AreValid, IsPage}
use Rattle.page_automata.specs.PageAutomaton.{Parts, parts_of, root_of, is_free, mark_step, start_step, page_step, page_automaton}
use Rattle.page_automata.proofs.StepLemmas.{eq_same, some_same, start_at, doctype_at, done_at}
use Rattle.page_automata.proofs.TreeLemmas.{trees_of, HasNone, flat, sort_mark, nodes_then, spelled, valid_fits, fits_valid}

module _ (table : Table) (t : States) where
  abbrev p : Parts
  p = parts_of table t

  abbrev pa : Automaton
  pa = page_automaton (parts_of table t)

  abbrev root : ℕ
  root = root_of table

  -- a walk that begins with a known step
  begun : (q : ℕ) (l : Label) (ls : List Label) (o : Option ℕ) (r : ℕ) → page_step p q l ≡ o → along pa q (l ∷ ls) ≡ Some r → and_then o (λ (x : ℕ). along pa x ls) ≡ Some r
  begun q l ls o r s e = sym (ap (λ (x : Option ℕ). and_then x (λ (y : ℕ). along pa y ls)) s) ∙ e

  abbrev IsBetween : Nodes → Type 0
  IsBetween f = singles_pass is_between (trees_of f) ≡ true

  pub done_walk : (f : Nodes) (r : ℕ) → along pa (length t.1 + 2) (labels_of f) ≡ Some r → HasNone f × (roots (trees_of f) ≡ []) × IsBetween f
  done_walk no_nodes r e = (tt, refl, refl)
  done_walk (mark blank rest) r e = done_walk rest r (begun (length t.1 + 2) (other blank) (labels_of rest) _ r (done_at p (other blank)) e)
  done_walk (mark text rest) r e = let f = begun (length t.1 + 2) (other text) (labels_of rest) None r (done_at p (other text)) e in cc
  done_walk (mark misc rest) r e = done_walk rest r (begun (length t.1 + 2) (other misc) (labels_of rest) _ r (done_at p (other misc)) e)
  done_walk (mark doctype rest) r e = let f = begun (length t.1 + 2) (other doctype) (labels_of rest) None r (done_at p (other doctype)) e in cc
  done_walk (element d inside rest) r e = let f = begun (length t.1 + 2) (child d) (labels_of rest) None r (done_at p (child d)) e in cc

  abbrev HasRoot : Nodes → Type 0
  HasRoot f = HasNone f × (roots (trees_of f) ≡ root ∷ []) × IsBetween f

  -- an element that leads behind the root is the root
  root_walk : (d : ℕ) (inside rest : Nodes) (b : Bool) → (b ≡ true → d ≡ root) → and_then (if b then Some (length t.1 + 2) else None) (λ (x : ℕ). along pa x (labels_of rest)) ≡ Some (length t.1 + 2) → HasRoot (element d inside rest)
  root_walk d inside rest true is e =
      let w = done_walk rest (length t.1 + 2) e in
      (w.0, ap (λ (l : List ℕ). d ∷ l) w.1 ∙ ap (λ (x : ℕ). x ∷ []) (is refl), w.2)
  root_walk d inside rest false is e = cc

  pub doctype_walk : (f : Nodes) → along pa (length t.1 + 1) (labels_of f) ≡ Some (length t.1 + 2) → HasRoot f
  doctype_walk no_nodes e = absurd (omega (arith, some_same (length t.1 + 1) (length t.1 + 2) e))
  doctype_walk (mark blank rest) e = doctype_walk rest (begun (length t.1 + 1) (other blank) (labels_of rest) _ _ (doctype_at p (other blank)) e)
  doctype_walk (mark text rest) e = let f = begun (length t.1 + 1) (other text) (labels_of rest) None (length t.1 + 2) (doctype_at p (other text)) e in cc
  doctype_walk (mark misc rest) e = doctype_walk rest (begun (length t.1 + 1) (other misc) (labels_of rest) _ _ (doctype_at p (other misc)) e)
  doctype_walk (mark doctype rest) e = let f = begun (length t.1 + 1) (other doctype) (labels_of rest) None (length t.1 + 2) (doctype_at p (other doctype)) e in cc
  doctype_walk (element d inside rest) e =
      root_walk d inside rest (nat_eq d root) (λ h. (unsigned_Decides d root).0 h) (begun (length t.1 + 1) (child d) (labels_of rest) _ _ (doctype_at p (child d)) e)

  -- what leads from before all to behind the root: a root alone, or marks, a declaration and then a root
  pub record Split (f : Nodes) : Type 0 where
    pub before : Trees
    pub rest : Nodes
    pub no_roots : roots before ≡ []
    pub between : singles_pass is_between before ≡ true
    pub tokens : tokens_of f ≡ trees_then before (Doctype ∷ tokens_of rest)
    pub valid : AreValid pa rest
    pub leads : along pa (length t.1 + 1) (labels_of rest) ≡ Some (length t.1 + 2)

  abbrev Starts : Nodes → Type 0
  Starts f = ((is_free table.doctype ≡ true) × HasRoot f) ⊎ Split f

  split_blank : (f : Nodes) → Starts f → Starts (mark blank f)
  split_blank f (inl k) = inl k
  split_blank f (inr k) = inr (record { before = single sort.blank k.before; rest = k.rest; no_roots = k.no_roots; between = k.between; tokens = ap (λ (l : List PageToken). Blank ∷ l) k.tokens; valid = k.valid; leads = k.leads })

  split_misc : (f : Nodes) → Starts f → Starts (mark misc f)
  split_misc f (inl k) = inl k
  split_misc f (inr k) = inr (record { before = single sort.remark k.before; rest = k.rest; no_roots = k.no_roots; between = k.between; tokens = ap (λ (l : List PageToken). Misc ∷ l) k.tokens; valid = k.valid; leads = k.leads })

  pub start_walk : (f : Nodes) → AreValid pa f → along pa (length t.1) (labels_of f) ≡ Some (length t.1 + 2) → Starts f
  start_walk no_nodes v e = absurd (omega (arith, some_same (length t.1) (length t.1 + 2) e))
  start_walk (mark blank rest) v e = split_blank rest (start_walk rest v (begun (length t.1) (other blank) (labels_of rest) _ _ (start_at p (other blank)) e))
  start_walk (mark text rest) v e = let f = begun (length t.1) (other text) (labels_of rest) None (length t.1 + 2) (start_at p (other text)) e in cc
  start_walk (mark misc rest) v e = split_misc rest (start_walk rest v (begun (length t.1) (other misc) (labels_of rest) _ _ (start_at p (other misc)) e))
  start_walk (mark doctype rest) v e = inr (record { before = no_trees; rest = rest; no_roots = refl; between = refl; tokens = refl; valid = v; leads = begun (length t.1) (other doctype) (labels_of rest) _ _ (start_at p (other doctype)) e })
  start_walk (element d inside rest) v e =
      let f = begun (length t.1) (child d) (labels_of rest) _ _ (start_at p (child d)) e in
      inl (
        free (is_free table.doctype && nat_eq d root) (λ h. first_so (is_free table.doctype) (nat_eq d root) h) f,
        root_walk d inside rest (is_free table.doctype && nat_eq d root) (λ h. (unsigned_Decides d root).0 (second_so (is_free table.doctype) (nat_eq d root) h)) f,
      )
    where
      free : (b : Bool) → (b ≡ true → is_free table.doctype ≡ true) → and_then (if b then Some (length t.1 + 2) else None) (λ (x : ℕ). along pa x (labels_of rest)) ≡ Some (length t.1 + 2) → is_free table.doctype ≡ true
      free true h e = h refl
      free false h e = cc

  -- and back
  sort_keeps : (q : ℕ) → ((m : Mark) → page_step p q (other m) ≡ mark_step q m) → (s : Sort) → is_between s ≡ true → page_step p q (other (sort_mark s)) ≡ Some q
  sort_keeps q keeps sort.blank h = keeps blank
  sort_keeps q keeps sort.text h = cc
  sort_keeps q keeps sort.remark h = keeps misc

  -- marks keep a state, and the root leads on
  around : (q : ℕ) → ((s : Sort) → is_between s ≡ true → page_step p q (other (sort_mark s)) ≡ Some q) → (f : Trees) (behind : Nodes) → roots f ≡ [] → singles_pass is_between f ≡ true → along pa q (labels_of (nodes_then f behind)) ≡ along pa q (labels_of behind)
  around q keeps no_trees behind h s = refl
  around q keeps (single one more) behind h s =
      ap (λ (o : Option ℕ). and_then o (λ (x : ℕ). along pa x (labels_of (nodes_then more behind)))) (keeps one (first_so (is_between one) (singles_pass is_between more) s))
      ∙ around q keeps more behind h (second_so (is_between one) (singles_pass is_between more) s)
  around q keeps (tree d inside more) behind h s = cc

  rooted : (q : ℕ) → ((s : Sort) → is_between s ≡ true → page_step p q (other (sort_mark s)) ≡ Some q) → page_step p q (child root) ≡ Some (length t.1 + 2) → (f : Trees) → roots f ≡ root ∷ [] → singles_pass is_between f ≡ true → along pa q (labels_of (nodes_then f no_nodes)) ≡ Some (length t.1 + 2)
  rooted q keeps step no_trees h s = cc
  rooted q keeps step (single one more) h s =
      ap (λ (o : Option ℕ). and_then o (λ (x : ℕ). along pa x (labels_of (nodes_then more no_nodes)))) (keeps one (first_so (is_between one) (singles_pass is_between more) s))
      ∙ rooted q keeps step more h (second_so (is_between one) (singles_pass is_between more) s)
  rooted q keeps step (tree d inside more) h s =
      let heads : d ≡ root = cc in
      let tails : roots more ≡ [] = cc in
      ap (λ (o : Option ℕ). and_then o (λ (x : ℕ). along pa x (labels_of (nodes_then more no_nodes)))) (ap (λ (x : ℕ). page_step p q (child x)) heads ∙ step)
      ∙ around (length t.1 + 2) (sort_keeps (length t.1 + 2) (λ m. done_at p (other m))) more no_nodes tails s

  start_keeps : (m : Mark) → page_step p (length t.1) (other m) ≡ start_step p (length t.1) (other m)
  start_keeps m = start_at p (other m)

  start_sorts : (s : Sort) → is_between s ≡ true → page_step p (length t.1) (other (sort_mark s)) ≡ Some (length t.1)
  start_sorts sort.blank h = start_at p (other blank)
  start_sorts sort.text h = cc
  start_sorts sort.remark h = start_at p (other misc)

  doctype_sorts : (s : Sort) → is_between s ≡ true → page_step p (length t.1 + 1) (other (sort_mark s)) ≡ Some (length t.1 + 1)
  doctype_sorts = sort_keeps (length t.1 + 1) (λ m. doctype_at p (other m))

  doctype_root : page_step p (length t.1 + 1) (child root) ≡ Some (length t.1 + 2)
  doctype_root = doctype_at p (child root) ∙ ap (λ (b : Bool). if b then Some (length t.1 + 2) else None) (eq_same root)

  start_root : is_free table.doctype ≡ true → page_step p (length t.1) (child root) ≡ Some (length t.1 + 2)
  start_root h =
      start_at p (child root)
      ∙ ap (λ (b : Bool). if b && nat_eq root root then Some (length t.1 + 2) else None) h
      ∙ ap (λ (b : Bool). if b then Some (length t.1 + 2) else None) (eq_same root)

  free_fits : (d : DoctypeRule) → is_free d ≡ true → PrologFits d None
  free_fits Free h = tt
  free_fits Strict h = cc

  fits_free : (d : DoctypeRule) → PrologFits d None → is_free d ≡ true
  fits_free Free h = refl
  fits_free Strict h = absurd h

  some_fits : (d : DoctypeRule) (f : Trees) → roots f ≡ [] → singles_pass is_between f ≡ true → PrologFits d (Some f)
  some_fits Free f h k = (h, k)
  some_fits Strict f h k = (h, k)

  fits_some : (d : DoctypeRule) (f : Trees) → PrologFits d (Some f) → (roots f ≡ []) × (singles_pass is_between f ≡ true)
  fits_some Free f h = h
  fits_some Strict f h = h

  module _ (decides : Decides table t) (own : HasOwners (length table.elements) t) where
    flat_all : (f : Nodes) → HasNone f → AreValid pa f → trees_then (trees_of f) [] ≡ tokens_of f
    flat_all f h v = sym (flat f [] h (valid_fits table t own decides f v).0) ∙ append-nil (tokens_of f)

    tree_of : (ts : List PageToken) (f : Nodes) → tokens_of f ≡ ts → AreValid pa f → Starts f → TokenTree table ts
    tree_of ts f e v (inl k) = record {
      before = None;
      trees = trees_of f;
      flat = flat_all f k.1.0 v ∙ e;
      prolog = free_fits table.doctype k.0;
      root = k.1.1;
      around = k.1.2;
      fits = (valid_fits table t own decides f v).1;
    }
    tree_of ts f e v (inr k) =
        let w = doctype_walk k.rest k.leads in
        record {
          before = Some k.before;
          trees = trees_of k.rest;
          flat = ap (λ (l : List PageToken). trees_then k.before (Doctype ∷ l)) (flat_all k.rest w.0 k.valid) ∙ sym k.tokens ∙ e;
          prolog = some_fits table.doctype k.before k.no_roots k.between;
          root = w.1;
          around = w.2;
          fits = (valid_fits table t own decides k.rest k.valid).1;
        }

    spelled_all : (f : Trees) (behind : Nodes) → tokens_of (nodes_then f behind) ≡ trees_then f (tokens_of behind)
    spelled_all f behind =
        sym (append-nil (tokens_of (nodes_then f behind))) ∙ spelled f behind [] ∙ ap (trees_then f) (append-nil (tokens_of behind))

    marks_valid : (f : Trees) (behind : Nodes) → roots f ≡ [] → AreValid pa behind → AreValid pa (nodes_then f behind)
    marks_valid no_trees behind h v = v
    marks_valid (single s more) behind h v = marks_valid more behind h v
    marks_valid (tree d inside more) behind h v = cc

    page_of : (ts : List PageToken) (before : Option Trees) (f : Trees) → prolog_then before (trees_then f []) ≡ ts → PrologFits table.doctype before → roots f ≡ root ∷ [] → singles_pass is_between f ≡ true → TreesFit table f → IsPage pa ts
    page_of ts None f e w h s k = (
      nodes_then f no_nodes,
      spelled_all f no_nodes ∙ e,
      fits_valid table t own decides f no_nodes k tt,
      rooted (length t.1) start_sorts (start_root (fits_free table.doctype w)) f h s,
    )
    page_of ts (Some b) f e w h s k =
        let q = fits_some table.doctype b w in (
          nodes_then b (mark doctype (nodes_then f no_nodes)),
          spelled_all b (mark doctype (nodes_then f no_nodes)) ∙ ap (λ (l : List PageToken). trees_then b (Doctype ∷ l)) (spelled_all f no_nodes) ∙ e,
          marks_valid b (mark doctype (nodes_then f no_nodes)) q.0 (fits_valid table t own decides f no_nodes k tt),
          around (length t.1) start_sorts b (mark doctype (nodes_then f no_nodes)) q.0 q.1
              ∙ ap (λ (o : Option ℕ). and_then o (λ (x : ℕ). along pa x (labels_of (nodes_then f no_nodes)))) (start_at p (other doctype))
              ∙ rooted (length t.1 + 1) doctype_sorts doctype_root f h s,
        )

    pub page_is_tree : (ts : List PageToken) → IsPage pa ts ↔ TokenTree table ts
    page_is_tree ts = (
      λ w. tree_of ts w.0 w.1 w.2 (start_walk w.0 w.2 w.3),
      λ k. page_of ts k.before k.trees k.flat k.prolog k.root k.around k.fits,
    )
