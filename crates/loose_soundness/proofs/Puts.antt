-- Writes at the end of a path.
use Rattle.std.proofs.Common.{◌≡◌, ℕ, ℤ, Bool, true, false, if◌then◌else◌, nat_le, List, [], ◌∷◌, Option, Some, None, Result, Ok, Err, refl, sym, ap, subst, ◌∙◌}
use Rattle.std.specs.Prelude.{All, Contains, map}
use Rattle.std.proofs.lemmas.List.Elements.{All-head, All-tail, All-nil, All-cons}
use Rattle.string_functions.proofs.Members.{Contains-head, Contains-later}
use Rattle.plain_values.specs.Plain.{Plain, PlainKey, Pairs, int_key, null, flag, int, text, array, empty, keys, depth}
use Rattle.plain_values.specs.Keys.{key_of, same_key, are_distinct}
use Rattle.plain_values.specs.Members.{put_pair, key_after, largest_key}
use Rattle.plain_values.specs.Members as members
use Rattle.plain_values.specs.Outcome.{go_on}
use Rattle.plain_values.specs.Paths.{Step, step_of, path_of, container, named_key, put_back, change_member, change_in, put_in, no_deeper, write}
use Rattle.plain_values.specs.Text.{text_of}
use Rattle.plain_values.specs.Walks.{value_of_key}
use Rattle.plain_values.specs.Lawful.{HasValues, PairsHaveValues}
use Rattle.plain_values.specs.declared.fault.Fault.{Fault}
use Rattle.plain_values.specs.declared.fault.Fault.TheVariants.{Long}
use Rattle.script_meaning.specs.Expressions.{assigned}
use Rattle.flow_code.specs.Points.{PlainFlow, PlainKeyRef, PlainSource, put_source}
use Rattle.flow_code.specs.Lawful.{IsMaybeKey}
use Rattle.flow_code.specs.Runs.{Slots, key_value, maybe_key_value}
use Rattle.loose_sets.specs.Reaching.{at_point}
use Rattle.loose_sets.specs.Keys.{told_keys}
use Rattle.loose_sets.specs.declared.name.Aspect.TheVariants.{Own, Member, Others, Keys}
use Rattle.loose_sets.specs.declared.name.Half.TheVariants as half
use Rattle.loose_soundness.proofs.Names.{use_of, all_of}
use Rattle.loose_sets.specs.Table.{SetsTo}
use Rattle.loose_soundness.proofs.SourceRows as sources
use Rattle.loose_soundness.proofs.SourceRows.{IsSourceRow}
use Rattle.function_laws.specs.Parts.{IsMaybeValue}
use Rattle.function_laws.proofs.Arrays.{next_key, path_steps, write_value, member_has}
use Rattle.loose_soundness.proofs.Covers.{Texts, OwnIn, InsideIn, AllIn, KeysIn, KeysInAll, MembersIn, Covers, place, own_wider, inside_wider, keys_wider, all_keys_wider, covers_own, covers_keys, members_put, but_for, keys_put, all_put, member_inside, member_inside_all, member_keys}
use Rattle.loose_soundness.proofs.Lying.{HasIn, SaysIn, Def, DefYes, Use, UseYes, Lies, UseLies, by_place, by_place_told, all_inside, of_source}
use Rattle.loose_soundness.proofs.Simple.{yes_in, from_in, from_yes}
use Rattle.loose_soundness.proofs.Keys.{Resolved, may_be_it, may_be_none, not_exactly, KeyLies, key_text}
use Rattle.loose_soundness.proofs.Items.{key_ref_value}

-- a step comes of a written key
pub data StepOf (f : Slots) : Option PlainKeyRef → Step → Type 0 where
  step_key : (k : PlainKeyRef) (c : PlainKey) → key_of (key_value f k) ≡ Ok c → StepOf f (Some k) (Some c)
  step_next : StepOf f None None

step_comes : (f : Slots) (k : Option PlainKeyRef) (s : Step) → step_of (maybe_key_value f k) ≡ Ok s → StepOf f k s
step_comes f None s e = let is : s ≡ None = cc in subst (StepOf f None) (sym is) step_next
step_comes f (Some k) s e = by (key_of (key_value f k)) refl e
  where
    by : (r : Result PlainKey Fault) → key_of (key_value f k) ≡ r → go_on r (λ k. Ok (Some k)) ≡ Ok s → StepOf f (Some k) s
    by (Err fault) i g = cc
    by (Ok c) i g = let is : s ≡ Some c = cc in subst (StepOf f (Some k)) (sym is) (step_key k c i)

-- the steps of a path, each of its written key
pub data StepsOf (f : Slots) : List (Option PlainKeyRef) → List Step → Type 0 where
  none : StepsOf f [] []
  more : (k : Option PlainKeyRef) (ks : List (Option PlainKeyRef)) (s : Step) (ss : List Step) → StepOf f k s → StepsOf f ks ss → StepsOf f (k ∷ ks) (s ∷ ss)

path_comes : (f : Slots) (ks : List (Option PlainKeyRef)) (path : List Step) → path_of (map (maybe_key_value f) ks) ≡ Ok path → StepsOf f ks path
path_comes f [] path e = let is : path ≡ [] = cc in subst (StepsOf f []) (sym is) none
path_comes f (k ∷ ks) path e = by (λ rest. path_comes f ks rest) (step_of (maybe_key_value f k)) refl e
  where
    by_rest : ((rest : List Step) → path_of (map (maybe_key_value f) ks) ≡ Ok rest → StepsOf f ks rest) → (s : Step) → step_of (maybe_key_value f k) ≡ Ok s
        → (r : Result (List Step) Fault) → path_of (map (maybe_key_value f) ks) ≡ r → go_on r (λ rest. Ok (s ∷ rest)) ≡ Ok path → StepsOf f (k ∷ ks) path
    by_rest next s i (Err fault) j g = cc
    by_rest next s i (Ok rest) j g = let is : path ≡ s ∷ rest = cc in subst (StepsOf f (k ∷ ks)) (sym is) (more k ks s rest (step_comes f k s i) (next rest j))

    by : ((rest : List Step) → path_of (map (maybe_key_value f) ks) ≡ Ok rest → StepsOf f ks rest)
        → (r : Result Step Fault) → step_of (maybe_key_value f k) ≡ r → go_on r (λ first. go_on (path_of (map (maybe_key_value f) ks)) (λ rest. Ok (first ∷ rest))) ≡ Ok path → StepsOf f (k ∷ ks) path
    by next (Err fault) i g = cc
    by next (Ok s) i g = by_rest next s i (path_of (map (maybe_key_value f) ks)) refl g

-- the key that a step names in an array
named_resolves : (f : Slots) (k : Option PlainKeyRef) (s : Step) (ps : Pairs) (c : PlainKey) → StepOf f k s → PairsHaveValues ps → named_key s (key_after (largest_key ps)) ≡ Some c → Resolved f k c
named_resolves f (Some k) (Some d) ps c (step_key _ _ e) h n = let is : c ≡ d = cc in subst (Resolved f (Some k)) (sym is) (Resolved.by_key k d e)
named_resolves f None (Some d) ps c i h n = elim i [ ]
named_resolves f (Some k) None ps c i h n = elim i [ ]
named_resolves f None None ps c step_next h n = by (key_after (largest_key ps)) refl n
  where
    by : (o : Option ℤ) → key_after (largest_key ps) ≡ o → named_key None o ≡ Some c → Resolved f None c
    by None i g = cc
    by (Some z) i g = let is : c ≡ int_key z = cc in subst (Resolved f None) (sym is) (Resolved.by_next z (next_key ps z h i))

-- a write, as a pair put under the key that its first step names
record Put (f : Slots) (k : Option PlainKeyRef) (change : Plain → Result Plain Fault) (old u : Plain) : Type 0 where
  pairs : Pairs
  inside : container old ≡ Ok pairs
  key : PlainKey
  resolved : PairsHaveValues pairs → Resolved f k key
  changed : Plain
  change_is : change (members.member pairs key) ≡ Ok changed
  is : u ≡ array (put_pair pairs key changed)

put_is : (f : Slots) (k : Option PlainKeyRef) (s : Step) (change : Plain → Result Plain Fault) (old u : Plain) → StepOf f k s → change_in change s (container old) ≡ Ok u → Put f k change old u
put_is f k s change old u h e = by_container (container old) refl e
  where
    by_change : (ps : Pairs) → container old ≡ Ok ps → (c : PlainKey) → named_key s (key_after (largest_key ps)) ≡ Some c → (r : Result Plain Fault) → change (members.member ps c) ≡ r → put_back ps c r ≡ Ok u → Put f k change old u
    by_change ps i c n (Err fault) j g = cc
    by_change ps i c n (Ok v) j g = record { pairs = ps; inside = i; key = c; resolved = λ pv. named_resolves f k s ps c h pv n; changed = v; change_is = j; is = cc }

    by_key' : (ps : Pairs) → container old ≡ Ok ps → (o : Option PlainKey) → named_key s (key_after (largest_key ps)) ≡ o → change_member change ps o ≡ Ok u → Put f k change old u
    by_key' ps i None n g = cc
    by_key' ps i (Some c) n g = by_change ps i c n (change (members.member ps c)) refl g

    by_container : (r : Result Pairs Fault) → container old ≡ r → change_in change s r ≡ Ok u → Put f k change old u
    by_container (Err fault) i g = cc
    by_container (Ok ps) i g = by_key' ps i (named_key s (key_after (largest_key ps))) refl g

-- the pairs of what is written into: its Own, or none
record Container (flow : PlainFlow) (x p : ℕ) (ps : Pairs) : Type 0 where
  members_of : MembersIn (told_keys flow) (Use flow x p) (UseYes flow x p) ps
  keys_are : KeysInAll (Use flow x p Keys) ps
  distinct : are_distinct (keys ps) ≡ true
  values : PairsHaveValues ps

contained : (flow : PlainFlow) (x p : ℕ) (old : Plain) (ps : Pairs) → UseLies flow x p old → container old ≡ Ok ps → Container flow x p ps
contained flow x p null ps h e = let is : ps ≡ empty = cc in subst (Container flow x p) (sym is) (record { members_of = tt; keys_are = tt; distinct = refl; values = tt })
contained flow x p (flag b) ps h e = cc
contained flow x p (int z) ps h e = cc
contained flow x p (text t) ps h e = cc
contained flow x p (array qs) ps h e =
    let is : ps ≡ qs = cc in
    subst (Container flow x p) (sym is) (record { members_of = h.covers.1; keys_are = h.covers.2; distinct = ((h.value).parts).0; values = ((h.value).parts).1 })

-- a write below the first key leaves an array, whose members and keys are old ones, the new value with its Own, and arrays
deep_own : (f : Slots) (T : Texts) (A : Type 0) (k : Option PlainKeyRef) (ks : List (Option PlainKeyRef)) (path : List Step) (new old u : Plain) → A → StepsOf f (k ∷ ks) path → put_in path new old ≡ Ok u → OwnIn T A u
deep_own f T A k ks path new old u a (more _ _ s ss h rest) e = let q = put_is f k s (put_in ss new) old u h e in subst (OwnIn T A) (sym q.is) a

deep_inside : (f : Slots) (T : Texts) (A : Type 0) (ks : List (Option PlainKeyRef)) (path : List Step) (new old u : Plain) → A → OwnIn T A new → InsideIn T A new → InsideIn T A old → StepsOf f ks path → put_in path new old ≡ Ok u → (OwnIn T A u × InsideIn T A u)
deep_inside f T A [] path new old u a o i j none e = let is : u ≡ new = cc in (subst (OwnIn T A) (sym is) o, subst (InsideIn T A) (sym is) i)
deep_inside f T A (k ∷ ks) path new old u a o i j (more _ _ s ss h rest) e =
    let q = put_is f k s (put_in ss new) old u h e in
    let inner = deep_inside f T A ks ss new (members.member q.pairs q.key) q.changed a o i (member_inside_all T A q.key q.pairs (old_inside old q.pairs j q.inside)) rest q.change_is in
    (subst (OwnIn T A) (sym q.is) a, subst (InsideIn T A) (sym q.is) (all_put T A q.key q.changed q.pairs inner.0 inner.1 (old_inside old q.pairs j q.inside)))
  where
    old_inside : (old : Plain) (ps : Pairs) → InsideIn T A old → container old ≡ Ok ps → AllIn T A ps
    old_inside null ps j e = let is : ps ≡ empty = cc in subst (AllIn T A) (sym is) tt
    old_inside (flag b) ps j e = cc
    old_inside (int z) ps j e = cc
    old_inside (text t) ps j e = cc
    old_inside (array qs) ps j e = let is : ps ≡ qs = cc in subst (AllIn T A) (sym is) j

-- the keys of a path are texts of a set
abbrev AreKeys : Slots → Texts → List (Option PlainKeyRef) → Type 0
AreKeys f K ks = (k : Option PlainKeyRef) (c : PlainKey) → Contains ks k → Resolved f k c → K (text_of (value_of_key c))

deep_keys : (f : Slots) (K : Texts) (ks : List (Option PlainKeyRef)) (path : List Step) (new old u : Plain) → AreKeys f K ks → KeysIn K new → KeysIn K old → HasValues old → StepsOf f ks path → put_in path new old ≡ Ok u → KeysIn K u
deep_keys f K [] path new old u a i j v none e = let is : u ≡ new = cc in subst (KeysIn K) (sym is) i
deep_keys f K (k ∷ ks) path new old u a i j v (more _ _ s ss h rest) e =
    let q = put_is f k s (put_in ss new) old u h e in
    let ps = old_pairs old q.pairs j v q.inside in
    let inner = deep_keys f K ks ss new (members.member q.pairs q.key) q.changed (λ k' c i'. a k' c (Contains-later k ks k' i')) i (member_keys K q.key q.pairs ps.0) (member_has q.pairs q.key ps.1) rest q.change_is in
    subst (KeysIn K) (sym q.is) (keys_put K q.key q.changed q.pairs (a k q.key (Contains-head k ks) (q.resolved ps.1)) inner ps.0)
  where
    old_pairs : (old : Plain) (ps : Pairs) → KeysIn K old → HasValues old → container old ≡ Ok ps → KeysInAll K ps × PairsHaveValues ps
    old_pairs null ps j v e = let is : ps ≡ empty = cc in subst (λ ps. KeysInAll K ps × PairsHaveValues ps) (sym is) (tt, tt)
    old_pairs (flag b) ps j v e = cc
    old_pairs (int z) ps j v e = cc
    old_pairs (text t) ps j v e = cc
    old_pairs (array qs) ps j v e = let is : ps ≡ qs = cc in subst (λ ps. KeysInAll K ps × PairsHaveValues ps) (sym is) (j, v.1)

module _ (flow : PlainFlow) (p : ℕ) (f : Slots) (x v : ℕ) where
  abbrev told : List PlainKey
  told = told_keys flow

  module _ (k : Option PlainKeyRef) (ks : List (Option PlainKeyRef)) (st : SetsTo flow p (put_source x (k ∷ ks) v)) where
    abbrev s : PlainSource
    s = put_source x (k ∷ ks) v

    old_other : (w : List ℕ) → Use flow x p (Others half.Text) w → Def flow (at_point p) (Others half.Text) w
    old_other = from_in flow p s (Others half.Text) (use_of (Others half.Text) x p) st (sources.put_old x v k ks half.Text)

    old_other_yes : UseYes flow x p (Others half.Array) → DefYes flow (at_point p) (Others half.Array)
    old_other_yes = from_yes flow p s (Others half.Array) (use_of (Others half.Array) x p) st (sources.put_old x v k ks half.Array)

    old_keys : (ps : Pairs) → KeysInAll (Use flow x p Keys) ps → KeysInAll (Def flow (at_point p) Keys) ps
    old_keys ps h = all_keys_wider (Use flow x p Keys) (Def flow (at_point p) Keys) (from_in flow p s Keys (use_of Keys x p) st (sources.put_old_key x v k ks)) ps h

    old_key : (u : Plain) → KeysIn (Use flow x p Keys) u → KeysIn (Def flow (at_point p) Keys) u
    old_key u h = keys_wider (Use flow x p Keys) (Def flow (at_point p) Keys) (from_in flow p s Keys (use_of Keys x p) st (sources.put_old_key x v k ks)) u h

    new_inside : UseLies flow v p (f v) → InsideIn (Def flow (at_point p) (Others half.Text)) (DefYes flow (at_point p) (Others half.Array)) (f v)
    new_inside h = inside_wider (HasIn flow (all_of half.Text v p)) (Def flow (at_point p) (Others half.Text)) (SaysIn flow (all_of half.Array v p)) (DefYes flow (at_point p) (Others half.Array))
        (from_in flow p s (Others half.Text) (all_of half.Text v p) st (sources.put_deep x v k ks half.Text))
        (from_yes flow p s (Others half.Array) (all_of half.Array v p) st (sources.put_deep x v k ks half.Array)) (f v) (all_inside flow v p (f v) h.covers)

    new_keys : UseLies flow v p (f v) → KeysIn (Def flow (at_point p) Keys) (f v)
    new_keys h = keys_wider (Use flow v p Keys) (Def flow (at_point p) Keys) (from_in flow p s Keys (use_of Keys v p) st (sources.put_deep_key x v k ks)) (f v)
        (covers_keys told (Use flow v p) (UseYes flow v p) (f v) h.covers)

    path_keys : ((j : Option PlainKeyRef) → Contains (k ∷ ks) j → KeyLies flow p f j) → AreKeys f (Def flow (at_point p) Keys) (k ∷ ks)
    path_keys h j c i r = key_text flow p f j c (λ g t. of_source flow p s Keys g st (sources.put_key x v k ks j g i t)) (h j i) r

  -- under one key
  module _ (k : Option PlainKeyRef) (st : SetsTo flow p (put_source x (k ∷ []) v)) where
    abbrev one : PlainSource
    one = put_source x (k ∷ []) v

    kept_text : (c : PlainKey) → Resolved f k c → (j : PlainKey) → same_key j c ≡ false → (w : List ℕ) → Use flow x p (place told j half.Text) w → Def flow (at_point p) (place told j half.Text) w
    kept_text c r j n = by_place flow j half.Text (λ a. (w : List ℕ) → Use flow x p a w → Def flow (at_point p) a w)
        (λ i t. from_in flow p one (Member i half.Text) (use_of (Member i half.Text) x p) st (sources.put_kept x v k i half.Text t (not_exactly f k c j r n)))
        (old_other k [] st)

    kept_yes : (c : PlainKey) → Resolved f k c → (j : PlainKey) → same_key j c ≡ false → UseYes flow x p (place told j half.Array) → DefYes flow (at_point p) (place told j half.Array)
    kept_yes c r j n = by_place flow j half.Array (λ a. UseYes flow x p a → DefYes flow (at_point p) a)
        (λ i t. from_yes flow p one (Member i half.Array) (use_of (Member i half.Array) x p) st (sources.put_kept x v k i half.Array t (not_exactly f k c j r n)))
        (old_other_yes k [] st)

    new_own : (c : PlainKey) → Resolved f k c → UseLies flow v p (f v) → OwnIn (Def flow (at_point p) (place told c half.Text)) (DefYes flow (at_point p) (place told c half.Array)) (f v)
    new_own c r h = own_wider (Use flow v p (Own half.Text)) (Def flow (at_point p) (place told c half.Text)) (UseYes flow v p (Own half.Array)) (DefYes flow (at_point p) (place told c half.Array))
        (by_place_told flow c half.Text (λ b. (w : List ℕ) → Use flow v p (Own half.Text) w → Def flow (at_point p) b w)
        (λ i t. from_in flow p one (Member i half.Text) (use_of (Own half.Text) v p) st (sources.put_new x v k i half.Text t (may_be_it f k c r)))
        (λ n. from_in flow p one (Others half.Text) (use_of (Own half.Text) v p) st (sources.put_other x v k half.Text (may_be_none f k c told r n))))
        (by_place_told flow c half.Array (λ b. UseYes flow v p (Own half.Array) → DefYes flow (at_point p) b)
        (λ i t. from_yes flow p one (Member i half.Array) (use_of (Own half.Array) v p) st (sources.put_new x v k i half.Array t (may_be_it f k c r)))
        (λ n. from_yes flow p one (Others half.Array) (use_of (Own half.Array) v p) st (sources.put_other x v k half.Array (may_be_none f k c told r n))))
        (f v) (covers_own told (Use flow v p) (UseYes flow v p) (f v) h.covers)

    put_one : (s : Step) (u : Plain) → StepOf f k s → ((j : Option PlainKeyRef) → Contains (k ∷ []) j → KeyLies flow p f j) → UseLies flow x p (f x) → UseLies flow v p (f v)
        → change_in (put_in [] (f v)) s (container (f x)) ≡ Ok u → Covers told (Def flow (at_point p)) (DefYes flow (at_point p)) u
    put_one s u h kl hx hv e =
        let q = put_is f k s (put_in [] (f v)) (f x) u h e in
        let c = contained flow x p (f x) q.pairs hx q.inside in
        let r = q.resolved c.values in
        let is : q.changed ≡ f v = same_value q.changed q.change_is in
        subst (Covers told (Def flow (at_point p)) (DefYes flow (at_point p))) (sym (q.is ∙ ap (λ new. array (put_pair q.pairs q.key new)) is)) (
          yes_in flow p one (Own half.Array) st (sources.put_array x v k []),
          members_put told (Def flow (at_point p)) (DefYes flow (at_point p)) q.key (f v) q.pairs c.distinct (new_own q.key r hv) (new_inside k [] st hv)
              (but_for q.key told (Use flow x p) (Def flow (at_point p)) (UseYes flow x p) (DefYes flow (at_point p)) (kept_text q.key r) (kept_yes q.key r) (old_other k [] st) (old_other_yes k [] st) q.pairs c.members_of),
          keys_put (Def flow (at_point p) Keys) q.key (f v) q.pairs (path_keys k [] st kl k q.key (Contains-head k []) r) (new_keys k [] st hv) (old_keys k [] st q.pairs c.keys_are),
        )
      where
        same_value : (new : Plain) → put_in [] (f v) (members.member (put_is f k s (put_in [] (f v)) (f x) u h e).pairs (put_is f k s (put_in [] (f v)) (f x) u h e).key) ≡ Ok new → new ≡ f v
        same_value new i = cc

  -- under more keys
  module _ (k j : Option PlainKeyRef) (ks : List (Option PlainKeyRef)) (st : SetsTo flow p (put_source x (k ∷ j ∷ ks) v)) where
    abbrev deep : PlainSource
    deep = put_source x (k ∷ j ∷ ks) v

    stays_text : (i : PlainKey) (w : List ℕ) → Use flow x p (place told i half.Text) w → Def flow (at_point p) (place told i half.Text) w
    stays_text i = by_place flow i half.Text (λ a. (w : List ℕ) → Use flow x p a w → Def flow (at_point p) a w)
        (λ n t. from_in flow p deep (Member n half.Text) (use_of (Member n half.Text) x p) st (sources.put_member x v k j ks n half.Text)) (old_other k (j ∷ ks) st)

    stays_yes : (i : PlainKey) → UseYes flow x p (place told i half.Array) → DefYes flow (at_point p) (place told i half.Array)
    stays_yes i = by_place flow i half.Array (λ a. UseYes flow x p a → DefYes flow (at_point p) a)
        (λ n t. from_yes flow p deep (Member n half.Array) (use_of (Member n half.Array) x p) st (sources.put_member x v k j ks n half.Array)) (old_other_yes k (j ∷ ks) st)

    within_yes : DefYes flow (at_point p) (Others half.Array)
    within_yes = yes_in flow p deep (Others half.Array) st (sources.put_within_array x v k j ks)

    array_there : (c : PlainKey) → Resolved f k c → DefYes flow (at_point p) (place told c half.Array)
    array_there c r = by_place flow c half.Array (λ a. DefYes flow (at_point p) a)
        (λ i t. yes_in flow p deep (Member i half.Array) st (sources.put_member_array x v k j ks i t (may_be_it f k c r))) within_yes

    within_own : UseLies flow v p (f v) → OwnIn (Def flow (at_point p) (Others half.Text)) (DefYes flow (at_point p) (Others half.Array)) (f v)
    within_own h = own_wider (Use flow v p (Own half.Text)) (Def flow (at_point p) (Others half.Text)) (UseYes flow v p (Own half.Array)) (DefYes flow (at_point p) (Others half.Array))
        (from_in flow p deep (Others half.Text) (use_of (Own half.Text) v p) st (sources.put_within x v k j ks half.Text))
        (from_yes flow p deep (Others half.Array) (use_of (Own half.Array) v p) st (sources.put_within x v k j ks half.Array))
        (f v) (covers_own told (Use flow v p) (UseYes flow v p) (f v) h.covers)

    put_more : (s : Step) (ss : List Step) (u : Plain) → StepOf f k s → StepsOf f (j ∷ ks) ss → ((i : Option PlainKeyRef) → Contains (k ∷ j ∷ ks) i → KeyLies flow p f i) → UseLies flow x p (f x) → UseLies flow v p (f v)
        → change_in (put_in ss (f v)) s (container (f x)) ≡ Ok u → Covers told (Def flow (at_point p)) (DefYes flow (at_point p)) u
    put_more s ss u h rest kl hx hv e =
        let q = put_is f k s (put_in ss (f v)) (f x) u h e in
        let c = contained flow x p (f x) q.pairs hx q.inside in
        let r = q.resolved c.values in
        let T = Def flow (at_point p) (Others half.Text) in
        let A = DefYes flow (at_point p) (Others half.Array) in
        let old = members.member q.pairs q.key in
        let inner = deep_inside f T A (j ∷ ks) ss (f v) old q.changed within_yes (within_own hv) (new_inside k (j ∷ ks) st hv)
        (inside_wider (Use flow x p (Others half.Text)) T (UseYes flow x p (Others half.Array)) A (old_other k (j ∷ ks) st) (old_other_yes k (j ∷ ks) st) old (member_inside told (Use flow x p) (UseYes flow x p) q.key q.pairs c.members_of)) rest q.change_is in
        let K = Def flow (at_point p) Keys in
        let keys_in = deep_keys f K (j ∷ ks) ss (f v) old q.changed (λ i d has. path_keys k (j ∷ ks) st kl i d (Contains-later k (j ∷ ks) i has)) (new_keys k (j ∷ ks) st hv)
        (old_key k (j ∷ ks) st old (member_keys (Use flow x p Keys) q.key q.pairs c.keys_are)) (member_has q.pairs q.key c.values) rest q.change_is in
        subst (Covers told (Def flow (at_point p)) (DefYes flow (at_point p))) (sym q.is) (
          yes_in flow p deep (Own half.Array) st (sources.put_array x v k (j ∷ ks)),
          members_put told (Def flow (at_point p)) (DefYes flow (at_point p)) q.key q.changed q.pairs c.distinct
              (deep_own f (Def flow (at_point p) (place told q.key half.Text)) (DefYes flow (at_point p) (place told q.key half.Array)) j ks ss (f v) old q.changed (array_there q.key r) rest q.change_is) inner.1
              (but_for q.key told (Use flow x p) (Def flow (at_point p)) (UseYes flow x p) (DefYes flow (at_point p)) (λ i n. stays_text i) (λ i n. stays_yes i) (old_other k (j ∷ ks) st) (old_other_yes k (j ∷ ks) st) q.pairs c.members_of),
          keys_put K q.key q.changed q.pairs (path_keys k (j ∷ ks) st kl k q.key (Contains-head k (j ∷ ks)) r) keys_in (old_keys k (j ∷ ks) st q.pairs c.keys_are),
        )

  -- a write of either kind
  put_any : (k : Option PlainKeyRef) (ks : List (Option PlainKeyRef)) (path : List Step) (u : Plain) → SetsTo flow p (put_source x (k ∷ ks) v) → StepsOf f (k ∷ ks) path → ((i : Option PlainKeyRef) → Contains (k ∷ ks) i → KeyLies flow p f i)
      → UseLies flow x p (f x) → UseLies flow v p (f v) → put_in path (f v) (f x) ≡ Ok u → Covers told (Def flow (at_point p)) (DefYes flow (at_point p)) u
  put_any k [] path u st (more _ _ s _ h none) kl hx hv e = put_one k st s u h kl hx hv e
  put_any k (j ∷ ks) path u st (more _ _ s ss h rest) kl hx hv e = put_more k j ks st s ss u h rest kl hx hv e

  written_is : (path : List Step) (u : Plain) → write path (f v) (f x) ≡ Ok u → put_in path (f v) (f x) ≡ Ok u
  written_is path u e = by (put_in path (f v) (f x)) e
    where
      by_depth : (w : Plain) (b : Bool) → (if b then Ok w else Err Long) ≡ Ok u → w ≡ u
      by_depth w true g = cc
      by_depth w false g = cc

      by : (r : Result Plain Fault) → no_deeper r ≡ Ok u → r ≡ Ok u
      by (Err fault) g = cc
      by (Ok w) g = ap (λ (w : Plain). Ok w) (by_depth w (nat_le (depth w) 1000) g)

  pub put_lies : (k : Option PlainKeyRef) (ks : List (Option PlainKeyRef)) (u : Plain) → SetsTo flow p (put_source x (k ∷ ks) v) → All IsMaybeKey (k ∷ ks) → ((i : Option PlainKeyRef) → Contains (k ∷ ks) i → KeyLies flow p f i)
      → UseLies flow x p (f x) → UseLies flow v p (f v) → assigned (map (maybe_key_value f) (k ∷ ks)) (f v) (f x) ≡ Ok u → Lies flow (at_point p) u
  unfolding assigned
  put_lies k ks u st lits kl hx hv e = by (path_of (map (maybe_key_value f) (k ∷ ks))) refl e
    where
      are_values : (js : List (Option PlainKeyRef)) → All IsMaybeKey js → ((i : Option PlainKeyRef) → Contains js i → KeyLies flow p f i) → All IsMaybeValue (map (maybe_key_value f) js)
      are_values [] h i = All-nil IsMaybeValue
      are_values (None ∷ js) h i = All-cons IsMaybeValue None (map (maybe_key_value f) js) tt (are_values js (All-tail IsMaybeKey None js h) (λ k' c. i k' (Contains-later None js k' c)))
      are_values (Some k' ∷ js) h i =
          All-cons IsMaybeValue (Some (key_value f k')) (map (maybe_key_value f) js) (key_ref_value flow p f k' (All-head IsMaybeKey (Some k') js h) (i (Some k') (Contains-head (Some k') js)))
          (are_values js (All-tail IsMaybeKey (Some k') js h) (λ k'' c. i k'' (Contains-later (Some k') js k'' c)))

      by : (r : Result (List Step) Fault) → path_of (map (maybe_key_value f) (k ∷ ks)) ≡ r → go_on r (λ path. write path (f v) (f x)) ≡ Ok u → Lies flow (at_point p) u
      by (Err fault) i g = cc
      by (Ok path) i g = record {
        covers = put_any k ks path u st (path_comes f (k ∷ ks) path i) kl hx hv (written_is path u g);
        value = write_value path (f v) (f x) u (path_steps (map (maybe_key_value f) (k ∷ ks)) path (are_values (k ∷ ks) lits kl) i) (hv.value).parts (hx.value).parts g;
      }
