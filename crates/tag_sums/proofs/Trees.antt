-- A sum is whole exactly where the tokens are those of a tree.
use Rattle.std.proofs.Common.{◌≡◌, ◌↔◌, ℕ, ◌<◌, Bool, true, false, List, [], ◌∷◌, ◌++◌, Option, Some, None, refl, sym, ◌∙◌, ap, subst}
use Rattle.std.specs.Prelude.{if◌then◌else◌}
use Rattle.tag_sums.specs.Automaton.{Automaton, IsAutomaton, and_then, along}
use Rattle.tag_sums.specs.Trees.{Nodes, start_tag, end_tag, tokens_of, labels_of, AreValid, IsPage, no_nodes, mark, element}
use Rattle.text_base.specs.declared.page_token.PageToken.{PageToken}
use Rattle.text_base.specs.declared.page_token.PageToken.TheVariants.{Doctype, Start, End, Blank, Text, Misc, Bad}
use Rattle.tag_sums.specs.Labels.{Mark, Label, child, other, blank, text, misc, doctype, token_of as mark_token}
use Rattle.tag_sums.specs.Sum.{Sum, target, has, some_move, some_state, moved, meet, compose, by_state, by_label, with_label, opening, of_token, sum_of, IsWhole, broken, reduced}
use Rattle.tag_sums.specs.Fits.{AreStates}
use Rattle.tag_sums.proofs.Tables.{target_empty, has_empty}
use Rattle.tag_sums.proofs.Associativity.{assoc, joins}
use Rattle.tag_sums.proofs.Units.{target_by_state, has_by_state}

-- a stack of open elements' states is a sum with nothing under it
abbrev pub stack : ℕ → List ℕ → Sum
stack q qs = reduced [] [] (q ∷ qs)

and_then_gives : {A B : Type 0} (o : Option A) (f : A → Option B) (b : B) → and_then o f ≡ Some b → (a : A) × (o ≡ Some a) × (f a ≡ Some b)
and_then_gives None f b e = cc
and_then_gives (Some a) f b e = (a, refl, e)

-- what one token does to a stack
push_if : (q : ℕ) (qs : List ℕ) (m : List (Option ℕ)) (b : Bool) → some_move m ≡ b → compose (stack q qs) (if b then reduced [] m [] else broken) ≡ moved [] [] [] qs (target m q)
push_if q qs m true e = refl
push_if q qs m false e = ap (λ (o : Option ℕ). moved [] [] [] qs o) (sym (target_empty m q e))

with_mark : (c : Automaton) (m : Mark) → of_token c (mark_token m) ≡ with_label c (other m)
with_mark c blank = refl
with_mark c text = refl
with_mark c misc = refl
with_mark c doctype = refl

at_plain : (c : Automaton) (m : Mark) (q : ℕ) (qs : List ℕ) → q < c.count → compose (stack q qs) (of_token c (mark_token m)) ≡ moved [] [] [] qs (c.step q (other m))
at_plain c m q qs h =
    ap (compose (stack q qs)) (with_mark c m)
    ∙ push_if q qs (by_label c (other m)) (some_move (by_label c (other m))) refl
    ∙ ap (λ (o : Option ℕ). moved [] [] [] qs o) (target_by_state c (λ r. c.step r (other m)) q h)

abbrev pushed : Option ℕ → List ℕ → Sum
pushed None qs = broken
pushed (Some p) qs = stack p qs

at_opening : (c : Automaton) (o : Option ℕ) (q : ℕ) (qs : List ℕ) → q < c.count → compose (stack q qs) (opening c o) ≡ pushed o (q ∷ qs)
at_opening c None q qs h = refl
at_opening c (Some p) q qs h = ap (λ (o : Option ℕ). moved [] [] (p ∷ []) qs o) (target_by_state c Some q h)

at_start : (c : Automaton) (e q : ℕ) (qs : List ℕ) → q < c.count → compose (stack q qs) (of_token c (start_tag e)) ≡ pushed (c.init e) (q ∷ qs)
at_start c e q qs h = at_opening c (c.init e) q qs h

abbrev popped : Automaton → ℕ → List ℕ → Sum
popped c e [] = broken
popped c e (p ∷ qs) = moved [] [] [] qs (c.step p (child e))

shut_stack : (s : List Bool) (m : List (Option ℕ)) (q : ℕ) (qs : List ℕ) (a b : Bool) → some_state s ≡ a → some_move m ≡ b → compose (stack q qs) (if a then (if b then reduced (s ∷ []) m [] else broken) else broken) ≡ (if has s q then meet [] [] qs [] m [] else broken)
shut_stack s m q qs true true e f = refl
shut_stack s m q qs false b e f = ap (λ (x : Bool). if x then meet [] [] qs [] m [] else broken) (sym (has_empty s q e))
shut_stack s m q [] true false e f = if_same (has s q)
  where
    if_same : (x : Bool) → broken ≡ (if x then broken else broken)
    if_same true = refl
    if_same false = refl
shut_stack s m q (p ∷ qs) true false e f = dead (has s q) (target m p) (target_empty m p f)
  where
    dead : (x : Bool) (o : Option ℕ) → o ≡ None → broken ≡ (if x then moved [] [] [] qs o else broken)
    dead true o g = rw g refl
    dead false o g = refl

at_end : (c : Automaton) (e q : ℕ) (qs : List ℕ) → AreStates c.count (q ∷ qs) → compose (stack q qs) (of_token c (end_tag e)) ≡ (if c.closes e q then popped c e qs else broken)
at_end c e q [] h =
    shut_stack (by_state c (c.closes e)) (by_label c (child e)) q [] (some_state (by_state c (c.closes e))) (some_move (by_label c (child e))) refl refl
    ∙ ap (λ (x : Bool). if x then broken else broken) (has_by_state c (c.closes e) q h.0)
at_end c e q (p ∷ qs) h =
    shut_stack (by_state c (c.closes e)) (by_label c (child e)) q (p ∷ qs) (some_state (by_state c (c.closes e))) (some_move (by_label c (child e))) refl refl
    ∙ ap (λ (x : Bool). if x then moved [] [] [] qs (target (by_label c (child e)) p) else broken) (has_by_state c (c.closes e) q h.0)
    ∙ ap (λ (o : Option ℕ). if c.closes e q then moved [] [] [] qs o else broken) (target_by_state c (λ r. c.step r (child e)) p h.1.0)

-- what closes the elements of a stack one by one, up to the page
abbrev Closes : Automaton → ℕ → List ℕ → List PageToken → Type 0
Closes c q [] ts = (f : Nodes) × (tokens_of f ≡ ts) × AreValid c f × (along c q (labels_of f) ≡ Some c.page_done)
Closes c q (p ∷ qs) ts =
    (f : Nodes) × (rest : List PageToken) × (e : ℕ) × (r : ℕ) × (p' : ℕ) × (tokens_of f ++ end_tag e ∷ rest ≡ ts) × AreValid c f × (along c q (labels_of f) ≡ Some r) × (c.closes e r ≡ true) × (c.step p (child e) ≡ Some p') × Closes c p' qs rest

owner_along : (c : Automaton) → IsAutomaton c → (ls : List Label) (q r : ℕ) → along c q ls ≡ Some r → c.owner r ≡ c.owner q
owner_along c h [] q r e =
    let f : q ≡ r = cc in
    ap c.owner (sym f)
owner_along c h (l ∷ ls) q r e =
    let g = and_then_gives (c.step q l) (λ x. along c x ls) r e in
    owner_along c h ls g.0 r g.2 ∙ h.step_own q g.0 l g.1

mark_more : (c : Automaton) (m : Mark) (q r : ℕ) (qs : List ℕ) (ts : List PageToken) → c.step q (other m) ≡ Some r → Closes c r qs ts → Closes c q qs (mark_token m ∷ ts)
mark_more c m q r [] ts e k = (mark m k.0, ap (λ (l : List PageToken). mark_token m ∷ l) k.1, k.2, ap (λ (o : Option ℕ). and_then o (λ x. along c x (labels_of k.0))) e ∙ k.3)
mark_more c m q r (p ∷ qs) ts e k =
    (mark m k.0, k.1, k.2, k.3, k.4, ap (λ (l : List PageToken). mark_token m ∷ l) k.5, k.6, ap (λ (o : Option ℕ). and_then o (λ x. along c x (labels_of k.0))) e ∙ k.7, k.8, k.9, k.10)

element_more : (c : Automaton) → IsAutomaton c → (e b q : ℕ) (qs : List ℕ) (ts : List PageToken) → c.init e ≡ Some b → Closes c b (q ∷ qs) ts → Closes c q qs (start_tag e ∷ ts)
element_more c h e b q [] ts i k =
    let same : k.2 ≡ e = sym (h.closes_own k.2 k.3 k.8) ∙ owner_along c h (labels_of k.0) b k.3 k.7 ∙ h.init_own e b i in
    let closes = subst (λ (x : ℕ). c.closes x k.3 ≡ true) same k.8 in
    let steps = subst (λ (x : ℕ). c.step q (child x) ≡ Some k.4) same k.9 in
    let spelled = subst (λ (x : ℕ). tokens_of k.0 ++ end_tag x ∷ k.1 ≡ ts) same k.5 in
    let g = k.10 in (
      element e k.0 g.0,
      ap (λ (l : List PageToken). start_tag e ∷ (tokens_of k.0 ++ end_tag e ∷ l)) g.1 ∙ ap (λ (l : List PageToken). start_tag e ∷ l) spelled,
      ((b, k.3, i, k.7, closes), k.6, g.2),
      ap (λ (o : Option ℕ). and_then o (λ x. along c x (labels_of g.0))) steps ∙ g.3,
    )
element_more c h e b q (p ∷ qs) ts i k =
    let same : k.2 ≡ e = sym (h.closes_own k.2 k.3 k.8) ∙ owner_along c h (labels_of k.0) b k.3 k.7 ∙ h.init_own e b i in
    let closes = subst (λ (x : ℕ). c.closes x k.3 ≡ true) same k.8 in
    let steps = subst (λ (x : ℕ). c.step q (child x) ≡ Some k.4) same k.9 in
    let spelled = subst (λ (x : ℕ). tokens_of k.0 ++ end_tag x ∷ k.1 ≡ ts) same k.5 in
    let g = k.10 in (
      element e k.0 g.0,
      g.1,
      g.2,
      g.3,
      g.4,
      ap (λ (l : List PageToken). start_tag e ∷ l) (joins (tokens_of k.0) (end_tag e ∷ tokens_of g.0) (end_tag g.2 ∷ g.1))
          ∙ ap (λ (l : List PageToken). start_tag e ∷ (tokens_of k.0 ++ end_tag e ∷ l)) g.5 ∙ ap (λ (l : List PageToken). start_tag e ∷ l) spelled,
      ((b, k.3, i, k.7, closes), k.6, g.6),
      ap (λ (o : Option ℕ). and_then o (λ x. along c x (labels_of g.0))) steps ∙ g.7,
      g.8,
      g.9,
      g.10,
    )

-- a stack that the tokens close is closed by a tree
module _ (c : Automaton) (h : IsAutomaton c) where
  abbrev IsClosed : Sum → Type 0
  IsClosed s = s ≡ stack c.page_done []

  plain_case : (m : Mark) (q : ℕ) (qs : List ℕ) (ts : List PageToken) (o : Option ℕ) → c.step q (other m) ≡ o → IsClosed (compose (moved [] [] [] qs o) (sum_of c ts)) → ((r : ℕ) → r < c.count → IsClosed (compose (stack r qs) (sum_of c ts)) → Closes c r qs ts) → Closes c q qs (mark_token m ∷ ts)
  plain_case m q qs ts None e k ih = cc
  plain_case m q qs ts (Some r) e k ih = mark_more c m q r qs ts e (ih r (h.step_below q r (other m) e) k)

  end_step : (e q p : ℕ) (qs : List ℕ) (ts : List PageToken) (o : Option ℕ) → c.closes e q ≡ true → c.step p (child e) ≡ o → IsClosed (compose (moved [] [] [] qs o) (sum_of c ts)) → ((r : ℕ) → r < c.count → IsClosed (compose (stack r qs) (sum_of c ts)) → Closes c r qs ts) → Closes c q (p ∷ qs) (end_tag e ∷ ts)
  end_step e q p qs ts None f g k ih = cc
  end_step e q p qs ts (Some r) f g k ih = (no_nodes, ts, e, q, r, refl, tt, refl, f, g, ih r (h.step_below p r (child e) g) k)

  end_case : (e q : ℕ) (qs : List ℕ) (ts : List PageToken) (b : Bool) → c.closes e q ≡ b → IsClosed (compose (if b then popped c e qs else broken) (sum_of c ts)) → ((r : ℕ) (rs : List ℕ) → AreStates c.count (r ∷ rs) → IsClosed (compose (stack r rs) (sum_of c ts)) → Closes c r rs ts) → AreStates c.count qs → Closes c q qs (end_tag e ∷ ts)
  end_case e q qs ts false f k ih l = cc
  end_case e q [] ts true f k ih l = cc
  end_case e q (p ∷ qs) ts true f k ih l = end_step e q p qs ts (c.step p (child e)) f refl k (λ r i. ih r qs (i, l.1))

  start_case : (e q : ℕ) (qs : List ℕ) (ts : List PageToken) (o : Option ℕ) → c.init e ≡ o → IsClosed (compose (pushed o (q ∷ qs)) (sum_of c ts)) → ((b : ℕ) → b < c.count → IsClosed (compose (stack b (q ∷ qs)) (sum_of c ts)) → Closes c b (q ∷ qs) ts) → Closes c q qs (start_tag e ∷ ts)
  start_case e q qs ts None f k ih = cc
  start_case e q qs ts (Some b) f k ih = element_more c h e b q qs ts f (ih b (h.init_below e b f) k)

  at_last : (q : ℕ) (qs : List ℕ) → stack q qs ≡ stack c.page_done [] → Closes c q qs []
  at_last q [] e = (no_nodes, refl, tt, cc)
  at_last q (p ∷ qs) e = cc

  mark_arm : (m : Mark) (q : ℕ) (qs : List ℕ) (ts : List PageToken) → AreStates c.count (q ∷ qs) → IsClosed (compose (stack q qs) (compose (of_token c (mark_token m)) (sum_of c ts))) → ((r : ℕ) → r < c.count → IsClosed (compose (stack r qs) (sum_of c ts)) → Closes c r qs ts) → Closes c q qs (mark_token m ∷ ts)
  mark_arm m q qs ts l k ih =
      plain_case m q qs ts (c.step q (other m)) refl
      (ap (λ (s : Sum). compose s (sum_of c ts)) (sym (at_plain c m q qs l.0)) ∙ assoc (stack q qs) (of_token c (mark_token m)) (sum_of c ts) ∙ k)
      ih

  pub closed_by_tree : (ts : List PageToken) (q : ℕ) (qs : List ℕ) → AreStates c.count (q ∷ qs) → IsClosed (compose (stack q qs) (sum_of c ts)) → Closes c q qs ts
  closed_by_tree [] q qs l k = at_last q qs (sym (ap (λ (o : Option ℕ). moved [] [] [] qs o) (target_by_state c Some q l.0)) ∙ k)
  closed_by_tree (Start e ∷ ts) q qs l k =
      start_case e.0 q qs ts (c.init e.0) refl
      (ap (λ (s : Sum). compose s (sum_of c ts)) (sym (at_start c e.0 q qs l.0)) ∙ assoc (stack q qs) (of_token c (start_tag e.0)) (sum_of c ts) ∙ k)
      (λ b i j. closed_by_tree ts b (q ∷ qs) (i, l) j)
  closed_by_tree (End e ∷ ts) q qs l k =
      end_case e.0 q qs ts (c.closes e.0 q) refl
      (ap (λ (s : Sum). compose s (sum_of c ts)) (sym (at_end c e.0 q qs l)) ∙ assoc (stack q qs) (of_token c (end_tag e.0)) (sum_of c ts) ∙ k)
      (λ r rs i j. closed_by_tree ts r rs i j) l.1
  closed_by_tree (Doctype ∷ ts) q qs l k = mark_arm doctype q qs ts l k (λ r i j. closed_by_tree ts r qs (i, l.1) j)
  closed_by_tree (Blank ∷ ts) q qs l k = mark_arm blank q qs ts l k (λ r i j. closed_by_tree ts r qs (i, l.1) j)
  closed_by_tree (Text ∷ ts) q qs l k = mark_arm text q qs ts l k (λ r i j. closed_by_tree ts r qs (i, l.1) j)
  closed_by_tree (Misc ∷ ts) q qs l k = mark_arm misc q qs ts l k (λ r i j. closed_by_tree ts r qs (i, l.1) j)
  closed_by_tree (Bad ∷ ts) q qs l k = cc

  along_below : (ls : List Label) (q r : ℕ) → q < c.count → along c q ls ≡ Some r → r < c.count
  along_below [] q r i e =
      let f : q ≡ r = cc in
      subst (λ (x : ℕ). x < c.count) f i
  along_below (l ∷ ls) q r i e =
      let g = and_then_gives (c.step q l) (λ x. along c x ls) r e in
      along_below ls g.0 r (h.step_below q g.0 l g.1) g.2

  -- a tree takes a stack's innermost state along its labels
  pub tree_leads : (f : Nodes) (q r : ℕ) (qs : List ℕ) (ts : List PageToken) → AreStates c.count (q ∷ qs) → AreValid c f → along c q (labels_of f) ≡ Some r → compose (stack q qs) (sum_of c (tokens_of f ++ ts)) ≡ compose (stack r qs) (sum_of c ts)
  tree_leads no_nodes q r qs ts l v e =
      let f : q ≡ r = cc in
      ap (λ (x : ℕ). compose (stack x qs) (sum_of c ts)) f
  tree_leads (mark m rest) q r qs ts l v e =
      let g = and_then_gives (c.step q (other m)) (λ x. along c x (labels_of rest)) r e in
      sym (assoc (stack q qs) (of_token c (mark_token m)) (sum_of c (tokens_of rest ++ ts)))
      ∙ ap (λ (s : Sum). compose s (sum_of c (tokens_of rest ++ ts))) (at_plain c m q qs l.0 ∙ ap (λ (o : Option ℕ). moved [] [] [] qs o) g.1)
      ∙ tree_leads rest g.0 r qs ts (h.step_below q g.0 (other m) g.1, l.1) v g.2
  tree_leads (element e kids rest) q r qs ts l v f =
      let g = and_then_gives (c.step q (child e)) (λ x. along c x (labels_of rest)) r f in
      let more = tokens_of rest ++ ts in
      sym (assoc (stack q qs) (of_token c (start_tag e)) (sum_of c ((tokens_of kids ++ end_tag e ∷ tokens_of rest) ++ ts)))
      ∙ ap (λ (s : Sum). compose s (sum_of c ((tokens_of kids ++ end_tag e ∷ tokens_of rest) ++ ts))) (at_start c e q qs l.0 ∙ ap (λ (o : Option ℕ). pushed o (q ∷ qs)) v.0.2)
      ∙ ap (λ (x : List PageToken). compose (stack v.0.0 (q ∷ qs)) (sum_of c x)) (joins (tokens_of kids) (end_tag e ∷ tokens_of rest) ts)
      ∙ tree_leads kids v.0.0 v.0.1 (q ∷ qs) (end_tag e ∷ more) (h.init_below e v.0.0 v.0.2, l) v.1 v.0.3
      ∙ sym (assoc (stack v.0.1 (q ∷ qs)) (of_token c (end_tag e)) (sum_of c more))
      ∙ ap (λ (s : Sum). compose s (sum_of c more))
      (at_end c e v.0.1 (q ∷ qs) (along_below (labels_of kids) v.0.0 v.0.1 (h.init_below e v.0.0 v.0.2) v.0.3, l)
      ∙ ap (λ (b : Bool). if b then popped c e (q ∷ qs) else broken) v.0.4
      ∙ ap (λ (o : Option ℕ). moved [] [] [] qs o) g.1)
      ∙ tree_leads rest g.0 r qs ts (h.step_below q g.0 (child e) g.1, l.1) v.2 g.2

  whole_moved : (m : List (Option ℕ)) (os : List ℕ) (o : Option ℕ) → target m c.page_start ≡ o → IsClosed (moved [] [] os [] o) → IsWhole c (reduced [] m os)
  whole_moved m os None e k = cc
  whole_moved m [] (Some q) e k =
      let f : Some q ≡ Some c.page_done = cc in
      (m, refl, e ∙ f)
  whole_moved m (x ∷ []) (Some q) e k = cc
  whole_moved m (x ∷ y ∷ os) (Some q) e k = cc

  whole_from : (s : Sum) → IsClosed (compose (stack c.page_start []) s) → IsWhole c s
  whole_from broken k = cc
  whole_from (reduced [] m os) k = whole_moved m os (target m c.page_start) refl k
  whole_from (reduced (s ∷ []) m os) k = shut (has s c.page_start) k
    where
      shut : (b : Bool) → IsClosed (if b then broken else broken) → IsWhole c (reduced (s ∷ []) m os)
      shut true e = cc
      shut false e = cc
  whole_from (reduced (s ∷ t ∷ cs) m os) k = shut (has s c.page_start) k
    where
      shut : (b : Bool) → IsClosed (if b then broken else broken) → IsWhole c (reduced (s ∷ t ∷ cs) m os)
      shut true e = cc
      shut false e = cc

  whole_to : (s : Sum) → IsWhole c s → IsClosed (compose (stack c.page_start []) s)
  whole_to s w = ap (compose (stack c.page_start [])) w.1 ∙ ap (λ (o : Option ℕ). moved [] [] [] [] o) w.2

  pub whole_tree : (ts : List PageToken) → IsWhole c (sum_of c ts) ↔ IsPage c ts
  whole_tree ts = (
    λ w. closed_by_tree ts c.page_start [] (h.start_below, tt) (whole_to (sum_of c ts) w),
    λ t. whole_from (sum_of c ts)
        (ap (λ (l : List PageToken). compose (stack c.page_start []) (sum_of c l)) (sym t.1 ∙ sym (append_end (tokens_of t.0)))
        ∙ tree_leads t.0 c.page_start c.page_done [] [] (h.start_below, tt) t.2 t.3
        ∙ ap (λ (o : Option ℕ). moved [] [] [] [] o) (target_by_state c Some c.page_done (along_below (labels_of t.0) c.page_start c.page_done h.start_below t.3))),
  )
    where
      append_end : (l : List PageToken) → l ++ [] ≡ l
      append_end [] = refl
      append_end (x ∷ l) = ap (λ r. x ∷ r) (append_end l)
