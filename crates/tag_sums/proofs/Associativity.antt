-- Composition is associative.
use Rattle.std.proofs.Common.{◌≡◌, ℕ, Bool, true, false, List, [], ◌∷◌, ◌++◌, Option, Some, None, refl, sym, ◌∙◌, ap}
use Rattle.std.specs.Prelude.{if◌then◌else◌}
use Rattle.tag_sums.specs.Sum.{Sum, target, has, follow, admits, after, preimage, some_move, some_state, joined, moved, meet, compose, broken, reduced}
use Rattle.tag_sums.proofs.Tables.{target_after, has_preimage, target_empty, has_empty, after_after, preimage_after, after_empty_first, after_empty_second, preimage_empty_first, preimage_empty_second}

pub joins : {X : Type 0} (xs ys zs : List X) → (xs ++ ys) ++ zs ≡ xs ++ (ys ++ zs)
joins [] ys zs = refl
joins (x ∷ xs) ys zs = ap (λ l. x ∷ l) (joins xs ys zs)

if_same : {X : Type 0} (b : Bool) (x : X) → (if b then x else x) ≡ x
if_same true x = refl
if_same false x = refl

abbrev prepend : List (List Bool) → Sum → Sum
prepend cs broken = broken
prepend cs (reduced c m o) = reduced (cs ++ c) m o

prepend_if : (xs : List (List Bool)) (b : Bool) (s : Sum) → (if b then prepend xs s else broken) ≡ prepend xs (if b then s else broken)
prepend_if xs true s = refl
prepend_if xs false s = refl

prepend_moved : (xs ca : List (List Bool)) (m : List (Option ℕ)) (inner outer : List ℕ) (o : Option ℕ) → moved (xs ++ ca) m inner outer o ≡ prepend xs (moved ca m inner outer o)
prepend_moved xs ca m inner outer None = refl
prepend_moved xs ca m inner outer (Some q) = refl

meet_prepend : (xs ca : List (List Bool)) (ma : List (Option ℕ)) (oa : List ℕ) (cb : List (List Bool)) (mb : List (Option ℕ)) (ob : List ℕ) → meet (xs ++ ca) ma oa cb mb ob ≡ prepend xs (meet ca ma oa cb mb ob)
meet_prepend xs ca ma [] [] mb ob = prepend_if xs (some_move (after ma mb)) (reduced ca (after ma mb) ob)
meet_prepend xs ca ma [] (s ∷ cb) mb ob =
    ap (λ (l : List (List Bool)). if some_state (preimage ma s) then reduced l mb ob else broken) (joins xs ca (preimage ma s ∷ cb))
    ∙ prepend_if xs (some_state (preimage ma s)) (reduced (ca ++ preimage ma s ∷ cb) mb ob)
meet_prepend xs ca ma (q ∷ oa) [] mb ob = prepend_moved xs ca ma ob oa (target mb q)
meet_prepend xs ca ma (q ∷ oa) (s ∷ cb) mb ob =
    ap (λ (t : Sum). if has s q then t else broken) (meet_prepend xs ca ma oa cb mb ob)
    ∙ prepend_if xs (has s q) (meet ca ma oa cb mb ob)

compose_if : (a t : Sum) (b : Bool) → compose a broken ≡ broken → compose a (if b then t else broken) ≡ (if b then compose a t else broken)
compose_if a t true e = refl
compose_if a t false e = e

if_compose : (a t : Sum) (b : Bool) → compose (if b then a else broken) t ≡ (if b then compose a t else broken)
if_compose a t true = refl
if_compose a t false = refl

under_opener : (ca : List (List Bool)) (ma : List (Option ℕ)) (q : ℕ) (oa : List ℕ) (s : List Bool) (t : Sum) → compose (reduced ca ma (q ∷ oa)) (prepend (s ∷ []) t) ≡ (if has s q then compose (reduced ca ma oa) t else broken)
under_opener ca ma q oa s broken = sym (if_same (has s q) broken)
under_opener ca ma q oa s (reduced c m o) = refl

under_middle : (ca : List (List Bool)) (ma : List (Option ℕ)) (s : List Bool) (t : Sum) → compose (reduced ca ma []) (prepend (s ∷ []) t) ≡ (if some_state (preimage ma s) then prepend (ca ++ preimage ma s ∷ []) t else broken)
under_middle ca ma s broken = sym (if_same (some_state (preimage ma s)) broken)
under_middle ca ma s (reduced c m o) = ap (λ (l : List (List Bool)). if some_state (preimage ma s) then reduced l m o else broken) (sym (joins ca (preimage ma s ∷ []) c))

-- an opener of the first over the middle of the second
module _ (ca : List (List Bool)) (ma : List (Option ℕ)) (q : ℕ) (oa : List ℕ) (mb mc : List (Option ℕ)) (oc : List ℕ) where
  moved_inner : (p : ℕ) (ps : List ℕ) (d : List Bool) (ds : List (List Bool)) (o : Option ℕ) → compose (moved ca ma (p ∷ ps) oa o) (reduced (d ∷ ds) mc oc) ≡ (if has d p then compose (moved ca ma ps oa o) (reduced ds mc oc) else broken)
  moved_inner p ps d ds None = sym (if_same (has d p) broken)
  moved_inner p ps d ds (Some r) = refl

  both : (p : ℕ) (ps : List ℕ) (o r : Option ℕ) → r ≡ target mc p → o ≡ target mb q → compose (moved ca ma (p ∷ ps) oa o) (reduced [] mc oc) ≡ compose (reduced ca ma (q ∷ oa)) (moved [] mb oc ps r)
  both p ps None None e f = refl
  both p ps None (Some y) e f = ap (λ (o : Option ℕ). moved ca ma (oc ++ y ∷ ps) oa o) f
  both p ps (Some x) None e f = ap (λ (o : Option ℕ). moved ca ma oc (ps ++ x ∷ oa) o) (sym e)
  both p ps (Some x) (Some y) e f =
      ap (λ (o : Option ℕ). moved ca ma oc (ps ++ x ∷ oa) o) (sym e)
      ∙ ap (λ (l : List ℕ). reduced ca ma l) (sym (joins oc (y ∷ ps) (x ∷ oa)))
      ∙ ap (λ (o : Option ℕ). moved ca ma (oc ++ y ∷ ps) oa o) f

  moved_alone : (o : Option ℕ) → compose (moved ca ma [] oa o) (reduced [] mc oc) ≡ moved ca ma oc oa (follow mc o)
  moved_alone None = refl
  moved_alone (Some x) = refl

  moved_joined : (m : List (Option ℕ)) (b : Bool) → some_move m ≡ b → compose (reduced ca ma (q ∷ oa)) (if b then reduced [] m oc else broken) ≡ moved ca ma oc oa (target m q)
  moved_joined m true e = refl
  moved_joined m false e = ap (λ (o : Option ℕ). moved ca ma oc oa o) (sym (target_empty m q e))

  moved_closed : (d : List Bool) (ds : List (List Bool)) (o : Option ℕ) → compose (moved ca ma [] oa o) (reduced (d ∷ ds) mc oc) ≡ (if admits d o then meet ca ma oa ds mc oc else broken)
  moved_closed d ds None = refl
  moved_closed d ds (Some x) = refl

  closed_joined : (s : List Bool) (ds : List (List Bool)) (b : Bool) → some_state s ≡ b → compose (reduced ca ma (q ∷ oa)) (if b then reduced (s ∷ ds) mc oc else broken) ≡ (if has s q then meet ca ma oa ds mc oc else broken)
  closed_joined s ds true e = refl
  closed_joined s ds false e = ap (λ (b : Bool). if b then meet ca ma oa ds mc oc else broken) (sym (has_empty s q e))

  at_opener : (ob : List ℕ) (cs : List (List Bool)) → compose (moved ca ma ob oa (target mb q)) (reduced cs mc oc) ≡ compose (reduced ca ma (q ∷ oa)) (meet [] mb ob cs mc oc)
  at_opener [] [] =
      moved_alone (target mb q)
      ∙ ap (λ (o : Option ℕ). moved ca ma oc oa o) (sym (target_after mb mc q))
      ∙ sym (moved_joined (after mb mc) (some_move (after mb mc)) refl)
  at_opener [] (d ∷ ds) =
      moved_closed d ds (target mb q)
      ∙ ap (λ (b : Bool). if b then meet ca ma oa ds mc oc else broken) (sym (has_preimage mb d q))
      ∙ sym (closed_joined (preimage mb d) ds (some_state (preimage mb d)) refl)
  at_opener (p ∷ ps) [] = both p ps (target mb q) (target mc p) refl refl
  at_opener (p ∷ ps) (d ∷ ds) =
      moved_inner p ps d ds (target mb q)
      ∙ ap (λ (t : Sum). if has d p then t else broken) (at_opener ps ds)
      ∙ sym (compose_if (reduced ca ma (q ∷ oa)) (meet [] mb ps ds mc oc) (has d p) refl)

-- the middle of the first before the middle of the second
module _ (ca : List (List Bool)) (ma mb mc : List (Option ℕ)) (oc : List ℕ) where
  swap : (x y : Bool) (s : Sum) → (if x then (if y then s else broken) else broken) ≡ (if y then (if x then s else broken) else broken)
  swap true true s = refl
  swap true false s = refl
  swap false true s = refl
  swap false false s = refl

  joined_moved : (ps : List ℕ) (b : Bool) (r : Option ℕ) → some_move (after ma mb) ≡ b → (if b then moved ca (after ma mb) oc ps r else broken) ≡ compose (reduced ca ma []) (moved [] mb oc ps r)
  joined_moved ps true None e = refl
  joined_moved ps false None e = refl
  joined_moved ps true (Some y) e = ap (λ (b : Bool). if b then reduced ca (after ma mb) (oc ++ y ∷ ps) else broken) (sym e)
  joined_moved ps false (Some y) e = ap (λ (b : Bool). if b then reduced ca (after ma mb) (oc ++ y ∷ ps) else broken) (sym e)

  joined_after : (f s : List (Option ℕ)) (b : Bool) → some_move f ≡ b → (if b then joined ca (after f s) oc else broken) ≡ joined ca (after f s) oc
  joined_after f s true e = refl
  joined_after f s false e = ap (λ (b : Bool). if b then reduced ca (after f s) oc else broken) (sym (after_empty_first f s e))

  after_joined : (f s : List (Option ℕ)) (b : Bool) → some_move s ≡ b → (if b then joined ca (after f s) oc else broken) ≡ joined ca (after f s) oc
  after_joined f s true e = refl
  after_joined f s false e = ap (λ (b : Bool). if b then reduced ca (after f s) oc else broken) (sym (after_empty_second f s e))

  abbrev shut : List Bool → List (List Bool) → Sum
  shut s ds = if some_state s then reduced (ca ++ s ∷ ds) mc oc else broken

  shut_first : (f : List (Option ℕ)) (d : List Bool) (ds : List (List Bool)) (b : Bool) → some_move f ≡ b → (if b then shut (preimage f d) ds else broken) ≡ shut (preimage f d) ds
  shut_first f d ds true e = refl
  shut_first f d ds false e = ap (λ (b : Bool). if b then reduced (ca ++ preimage f d ∷ ds) mc oc else broken) (sym (preimage_empty_first f d e))

  shut_second : (f : List (Option ℕ)) (s : List Bool) (ds : List (List Bool)) (b : Bool) → some_state s ≡ b → (if b then shut (preimage f s) ds else broken) ≡ shut (preimage f s) ds
  shut_second f s ds true e = refl
  shut_second f s ds false e = ap (λ (b : Bool). if b then reduced (ca ++ preimage f s ∷ ds) mc oc else broken) (sym (preimage_empty_second f s e))

  at_middle : (ob : List ℕ) (cs : List (List Bool)) → compose (joined ca (after ma mb) ob) (reduced cs mc oc) ≡ compose (reduced ca ma []) (meet [] mb ob cs mc oc)
  at_middle [] [] =
      if_compose (reduced ca (after ma mb) []) (reduced [] mc oc) (some_move (after ma mb))
      ∙ joined_after (after ma mb) mc (some_move (after ma mb)) refl
      ∙ ap (λ (m : List (Option ℕ)). joined ca m oc) (after_after ma mb mc)
      ∙ sym (after_joined ma (after mb mc) (some_move (after mb mc)) refl)
      ∙ sym (compose_if (reduced ca ma []) (reduced [] (after mb mc) oc) (some_move (after mb mc)) refl)
  at_middle [] (d ∷ ds) =
      if_compose (reduced ca (after ma mb) []) (reduced (d ∷ ds) mc oc) (some_move (after ma mb))
      ∙ shut_first (after ma mb) d ds (some_move (after ma mb)) refl
      ∙ ap (λ (s : List Bool). shut s ds) (preimage_after ma mb d)
      ∙ sym (shut_second ma (preimage mb d) ds (some_state (preimage mb d)) refl)
      ∙ sym (compose_if (reduced ca ma []) (reduced (preimage mb d ∷ ds) mc oc) (some_state (preimage mb d)) refl)
  at_middle (p ∷ ps) [] =
      if_compose (reduced ca (after ma mb) (p ∷ ps)) (reduced [] mc oc) (some_move (after ma mb))
      ∙ joined_moved ps (some_move (after ma mb)) (target mc p) refl
  at_middle (p ∷ ps) (d ∷ ds) =
      if_compose (reduced ca (after ma mb) (p ∷ ps)) (reduced (d ∷ ds) mc oc) (some_move (after ma mb))
      ∙ swap (some_move (after ma mb)) (has d p) (meet ca (after ma mb) ps ds mc oc)
      ∙ ap (λ (t : Sum). if has d p then t else broken) (sym (if_compose (reduced ca (after ma mb) ps) (reduced ds mc oc) (some_move (after ma mb))) ∙ at_middle ps ds)
      ∙ sym (compose_if (reduced ca ma []) (meet [] mb ps ds mc oc) (has d p) refl)

assoc_live : (ca : List (List Bool)) (ma : List (Option ℕ)) (oa : List ℕ) (cb : List (List Bool)) (mb : List (Option ℕ)) (ob : List ℕ) (cs : List (List Bool)) (mc : List (Option ℕ)) (oc : List ℕ) → compose (meet ca ma oa cb mb ob) (reduced cs mc oc) ≡ compose (reduced ca ma oa) (meet cb mb ob cs mc oc)
assoc_live ca ma [] [] mb ob cs mc oc = at_middle ca ma mb mc oc ob cs
assoc_live ca ma [] (s ∷ cb) mb ob cs mc oc =
    if_compose (reduced (ca ++ preimage ma s ∷ cb) mb ob) (reduced cs mc oc) (some_state (preimage ma s))
    ∙ ap (λ (l : List (List Bool)). if some_state (preimage ma s) then meet l mb ob cs mc oc else broken) (sym (joins ca (preimage ma s ∷ []) cb))
    ∙ ap (λ (t : Sum). if some_state (preimage ma s) then t else broken) (meet_prepend (ca ++ preimage ma s ∷ []) cb mb ob cs mc oc)
    ∙ sym (under_middle ca ma s (meet cb mb ob cs mc oc))
    ∙ ap (λ (t : Sum). compose (reduced ca ma []) t) (sym (meet_prepend (s ∷ []) cb mb ob cs mc oc))
assoc_live ca ma (q ∷ oa) [] mb ob cs mc oc = at_opener ca ma q oa mb mc oc ob cs
assoc_live ca ma (q ∷ oa) (s ∷ cb) mb ob cs mc oc =
    if_compose (meet ca ma oa cb mb ob) (reduced cs mc oc) (has s q)
    ∙ ap (λ (t : Sum). if has s q then t else broken) (assoc_live ca ma oa cb mb ob cs mc oc)
    ∙ sym (under_opener ca ma q oa s (meet cb mb ob cs mc oc))
    ∙ ap (λ (t : Sum). compose (reduced ca ma (q ∷ oa)) t) (sym (meet_prepend (s ∷ []) cb mb ob cs mc oc))

compose_broken : (a : Sum) → compose a broken ≡ broken
compose_broken broken = refl
compose_broken (reduced c m o) = refl

pub assoc : (a b c : Sum) → compose (compose a b) c ≡ compose a (compose b c)
assoc broken b c = refl
assoc (reduced ca ma oa) broken c = refl
assoc (reduced ca ma oa) (reduced cb mb ob) broken = compose_broken (meet ca ma oa cb mb ob)
assoc (reduced ca ma oa) (reduced cb mb ob) (reduced cs mc oc) = assoc_live ca ma oa cb mb ob cs mc oc
