-- Code of array literals, whose items are put in one by one, and of joins, does what they do; and paths that have a key at each place.
use Rattle.std.proofs.Common.{◌≡◌, ℕ, suc, ◌+◌, List, [], ◌∷◌, ◌++◌, length, length-append, Some, None, Option, refl, sym, ap, ap₂, ◌∙◌, subst, arith, map, Result, Ok, Err}
use Rattle.std.specs.Prelude.{flat_map, ℤ}
use Rattle.php_syntax.specs.Trees.{MaybeExpr, no_expr, some_expr, PlainExprs, no_exprs, more_exprs, PlainItems, no_items, more_items, PlainPath, no_keys, more_keys}
use Rattle.plain_values.specs.Plain.{Plain, PlainKey, Pairs, null, flag, int, text, array, empty}
use Rattle.plain_values.specs.Text.{text_of}
use Rattle.plain_values.specs.Keys.{key_of}
use Rattle.plain_values.specs.Members.{push_at, put, within_length, key_after, largest_key}
use Rattle.plain_values.specs.Joins.{join_of}
use Rattle.plain_values.specs.Outcome.{go_on}
use Rattle.plain_values.specs.Paths.{named_key, change_member, put_in, no_deeper, write, add_item, add_items, literal_of}
use Rattle.plain_values.specs.declared.fault.Fault.{Fault}
use Rattle.script_meaning.specs.Requests.{PlainRequest}
use Rattle.script_meaning.specs.Runs.{State, Run, Going, Over, ◌then_do◌, result_of}
use Rattle.script_meaning.specs.Expressions.{Environment, value, values, maybe_value, items_in, subscripts, assigned}
use Rattle.flow_code.specs.Points.{PlainKeyRef, PlainSource, array_source, put_source, concat_source}
use Rattle.flow_code.specs.Code.{Code, computed, computed_with}
use Rattle.flow_code.specs.Expressions.{Scope, join_code, Begun, no_item, one_item, number_of}
use Rattle.flow_code.specs.Runs.{Slots, Frame, set_slot, maybe_key_value, item_value, source_value, concatenated}
use Rattle.flow_runs.specs.Keyed.{HasKeys}
use Rattle.flow_runs.proofs.Ends.{World, Meets, meets_same, after, here, set_comes, set_stuck, then_same}
use Rattle.flow_runs.proofs.Has.{has_front, has_back, last_long}
use Rattle.flow_runs.proofs.Frames.{slot_same, slot_other, kept_join, kept_temporary, shows_temporary}
use Rattle.flow_runs.proofs.Codes.{at_slot, Does, bind_did, does_same, does_left, does_both, does_known_computed}
use Rattle.flow_runs.proofs.Writes.{KeyValues, AllKeyed, result_then}
use Rattle.flow_runs.proofs.Calls.{read_slots, does_source, does_literal}

-- an array so far, and its items
abbrev pub Made : Type 0
Made = Plain × List (Option Plain × Plain)

abbrev pub read_item : Slots → Option PlainKeyRef × ℕ → Option Plain × Plain
read_item f item = item_value f item

abbrev pub read_begun : Slots → Begun → Made
read_begun f b = (f b.0, map (item_value f) b.1)

then_assoc : {U V W : Type 0} (r : Run U) (go : U → State → Run V) (on : V → State → Run W) → ((r then_do go) then_do on) ≡ (r then_do λ u s. (go u s then_do on))
unfolding ◌then_do◌
then_assoc (Going u s) go on = refl
then_assoc (Over end w) go on = refl

map_last : {A B : Type 0} (f : A → B) (xs : List A) (x : A) → map f (xs ++ x ∷ []) ≡ map f xs ++ f x ∷ []
map_last f [] x = refl
map_last f (y ∷ xs) x = ap (λ l. f y ∷ l) (map_last f xs x)

-- an item is put in as a write under one key
next_put : (ps : Pairs) (new : Plain) (o : Option ℤ) → no_deeper (change_member (put_in [] new) ps (named_key None o)) ≡ push_at ps o new
next_put ps new None = refl
next_put ps new (Some z) = refl

key_put : (made new : Plain) (r : Result PlainKey Fault) → go_on (go_on (go_on r (λ k. Ok (Some k))) (λ first. go_on (Ok []) (λ rest. Ok (first ∷ rest)))) (λ path. write path new made) ≡ go_on r (λ k. put made k new)
key_put made new (Err fault) = refl
key_put null new (Ok k) = refl
key_put (flag b) new (Ok k) = refl
key_put (int z) new (Ok k) = refl
key_put (text t) new (Ok k) = refl
key_put (array ps) new (Ok k) = refl

item_put : (made new : Plain) (key : Option Plain) → assigned (key ∷ []) new made ≡ add_item made key new
unfolding assigned
item_put made new (Some key) = key_put made new (key_of key)
item_put null new None = next_put empty new (key_after (largest_key empty))
item_put (flag b) new None = refl
item_put (int z) new None = refl
item_put (text t) new None = refl
item_put (array ps) new None = next_put ps new (key_after (largest_key ps))

items_last : (vs : List (Option Plain × Plain)) (made : Plain) (item : Option Plain × Plain) → add_items (vs ++ item ∷ []) made ≡ go_on (add_items vs made) (λ m. add_item m item.0 item.1)
items_last [] made item = by_added (add_item made item.0 item.1)
  where
    by_added : (r : Result Plain Fault) → go_on r (add_items []) ≡ r
    by_added (Ok v) = refl
    by_added (Err fault) = refl
items_last (v ∷ vs) made item = by_added (add_item made v.0 v.1) (λ m. items_last vs m item)
  where
    by_added : (r : Result Plain Fault) → ((m : Plain) → add_items (vs ++ item ∷ []) m ≡ go_on (add_items vs m) (λ m. add_item m item.0 item.1)) → go_on r (add_items (vs ++ item ∷ [])) ≡ go_on (go_on r (add_items vs)) (λ m. add_item m item.0 item.1)
    by_added (Ok m) h = h m
    by_added (Err fault) h = refl

-- items one by one, with what they were
unfoldable pub items_made : Environment → PlainItems → Made → State → Run Made
items_made w no_items begun s = Going begun s
items_made w (more_items k e is) begun s =
    (maybe_value w k s then_do λ key s. (value w e s then_do λ new s. Going (key, new) s)) then_do λ item s.
    (result_of (add_item begun.0 item.0 item.1) s then_do λ made s. items_made w is (made, begun.1 ++ item ∷ []) s)

abbrev without_items : Made → Plain
without_items b = b.0

items_forget : (w : Environment) (is : PlainItems) (begun : Made) (s : State) → (items_made w is begun s then_do λ b s. Going (without_items b) s) ≡ items_in w is begun.0 s
unfolding items_made value ◌then_do◌
items_forget w no_items begun s = refl
items_forget w (more_items k e is) begun s =
    then_assoc (maybe_value w k s then_do λ key s. (value w e s then_do λ new s. Going (key, new) s)) _ _
    ∙ then_assoc (maybe_value w k s) _ _
    ∙ then_same (maybe_value w k s) _ _ (λ key s.
    then_assoc (value w e s) _ _
    ∙ then_same (value w e s) _ _ (λ new s.
    then_assoc (result_of (add_item begun.0 key new) s) _ _
    ∙ then_same (result_of (add_item begun.0 key new) s) _ _ (λ made s. items_forget w is (made, begun.1 ++ (key, new) ∷ []) s)))

-- a result that a run goes on with
record Went_on {A B : Type 0} (r : Run A) (go : A → State → Run B) (b : B) (t : State) : Type 0 where
  v : A
  s : State
  is : r ≡ Going v s
  goes : go v s ≡ Going b t

over_going : {B : Type 0} (b : B) (t : State) (r : Run B) (end : _) (w : List ℕ) → r ≡ Over end w → r ≡ Going b t → ⊥
over_going b t r end w e h = cc

went_on : {A B : Type 0} (r : Run A) (go : A → State → Run B) (b : B) (t : State) → (r then_do go) ≡ Going b t → Went_on r go b t
unfolding ◌then_do◌
went_on (Going v s) go b t h = record { v = v; s = s; is = refl; goes = h }
went_on (Over end w) go b t h = absurd (over_going b t (Over end w) end w refl h)

abbrev made_in : {A : Type 0} → A → Run A → A
made_in d (Going v s) = v
made_in d (Over end w) = d

result_ok : {A : Type 0} (r : Result A Fault) (s t : State) (v : A) → result_of r s ≡ Going v t → r ≡ Ok v
unfolding result_of
result_ok (Ok u) s t v h = ap (λ r. Ok (made_in u r)) h
result_ok (Err fault) s t v h = absurd (over_going v t (Over _ s.printed) _ s.printed refl h)

abbrev IsMade : Made → Type 0
IsMade b = literal_of b.1 ≡ Ok b.0

items_known : (w : Environment) (is : PlainItems) (begun : Made) (s t : State) (b : Made) → IsMade begun → items_made w is begun s ≡ Going b t → IsMade b
unfolding items_made
items_known w no_items begun s t b known h = subst IsMade (ap (made_in begun) h) known
items_known w (more_items k e is) begun s t b known h =
    let one = went_on (maybe_value w k s then_do λ key s. (value w e s then_do λ new s. Going (key, new) s)) _ b t h in
    let two = went_on (result_of (add_item begun.0 (one.v).0 (one.v).1) one.s) _ b t one.goes in
    items_known w is (two.v, begun.1 ++ one.v ∷ []) two.s t b (items_last begun.1 (array empty) one.v ∙ ap (λ r. go_on r (λ m. add_item m (one.v).0 (one.v).1)) known ∙ result_ok (add_item begun.0 (one.v).0 (one.v).1) one.s two.s two.v two.is) two.goes

abbrev Two : Type 0
Two = Made × (Option Plain × Plain)

abbrev TwoCode : Type 0
TwoCode = Begun × (Option PlainKeyRef × ℕ)

abbrev read_two : Slots → TwoCode → Two
read_two f p = (read_begun f p.0, item_value f p.1)

abbrev added_to : Two → Result Plain Fault
added_to p = add_item (p.0).0 (p.1).0 (p.1).1

abbrev with_added : Two → Plain → Made
with_added p made = (made, (p.0).1 ++ p.1 ∷ [])

two_put : (r : PlainRequest) (f : Slots) (x : TwoCode) → Meets (source_value r f (put_source (x.0).0 ((x.1).0 ∷ []) (x.1).1)) (added_to (read_two f x))
unfolding source_value
two_put r f x = meets_same _ _ (item_put (f (x.0).0) (f (x.1).1) (maybe_key_value f (x.1).0))

two_read : (f : Slots) (x : TwoCode) (y : ℕ) → read_begun f (y, (x.0).1 ++ x.1 ∷ []) ≡ with_added (read_two f x) (f y)
two_read f x y = ap (λ (l : List (Option Plain × Plain)). (let b : Made = (f y, l) in b)) (map_last (item_value f) (x.0).1 x.1)

begin_value : (r : PlainRequest) (f : Frame) → source_value r f.slots (array_source []) ≡ Ok (array empty)
unfolding source_value
begin_value r f = refl

array_value : (r : PlainRequest) (f : Slots) (x : Begun) → IsMade (read_begun f x) → source_value r f (array_source x.1) ≡ Ok (f x.0)
unfolding source_value
array_value r f x known = known

pub item_first : (run : State → Run Made) (env : Environment) (k : MaybeExpr) (e : _) (is : PlainItems) (s : State) → (((run s then_do λ b s. ((maybe_value env k s then_do λ key s. (value env e s then_do λ new s. Going (key, new) s)) then_do λ i s. (let p : Two = (b, i) in Going p s))) then_do λ p s. (result_of (added_to p) s then_do λ made s. Going (with_added p made) s)) then_do items_made env is) ≡ (run s then_do items_made env (more_items k e is))
unfolding items_made ◌then_do◌
item_first run env k e is s =
    let item : State → Run (Option Plain × Plain) = λ s. (maybe_value env k s then_do λ key s. (value env e s then_do λ new s. Going (key, new) s)) in
    then_assoc (run s then_do λ b s. (item s then_do λ i s. (let p : Two = (b, i) in Going p s))) _ _
    ∙ then_assoc (run s) _ _
    ∙ then_same (run s) _ _ (λ b s. then_assoc (item s) _ _ ∙ then_same (item s) _ _ (λ i s. then_assoc (result_of (add_item b.0 i.0 i.1) s) _ _))

module _ {m : World} {w : Scope} where
  does_with : {A V B W : Type 0} {a : Code A} {ra : Slots → A → V} {run : State → Run V} (rb : Slots → B → W) (source : A → PlainSource) (op : V → Result Plain Fault) (join : A → ℕ → B) (make : V → Plain → W) → ((f : Slots) (x : A) → Meets (source_value m.request f (source x)) (op (ra f x))) → ((f : Slots) (x : A) (y : ℕ) → rb f (join x y) ≡ make (ra f x) (f y)) → Does m w A V a ra run → Does m w B W (computed_with a source join) rb (λ s. run s then_do λ v s. (result_of (op v) s then_do λ u s. Going (make v u) s))
  does_with {a} {ra} rb source op join make h k d = record {
    long = λ p t. last_long _ _ a.size (d.long p t);
    reads = λ t f g e. k f (a.gives t) (t + a.slots) ∙ ap₂ make (d.reads t f g (λ y ge lt. e y ge (omega (arith, lt)))) (e (t + a.slots) (omega arith) (omega arith)) ∙ sym (k g (a.gives t) (t + a.slots));
    follows = λ p t f s has le shows.
        let at = (has_back m.flow p a.size _ _ (d.long p t) has).0 in
        bind_did _ (d.follows p t f s (has_front m.flow p _ _ has) le shows) (λ s1 g1 v gives1 shows1 kept1.
        let meets : Meets (source_value m.request g1.slots (source (a.gives t))) (op v) = subst (λ v. Meets (source_value m.request g1.slots (source (a.gives t))) (op v)) gives1 (h g1.slots (a.gives t)) in
        let y = t + a.slots in
        result_then (op v) s1 _ (λ fault e. set_stuck m _ _ _ _ g1 at (subst (Meets (source_value m.request g1.slots (source (a.gives t)))) e meets)) (λ u e.
        let g2 = set_slot g1 y u in
        after (set_comes m _ _ _ _ g1 u s1.printed at (subst (Meets (source_value m.request g1.slots (source (a.gives t)))) e meets))
        (here (record {
          at = omega arith;
          gives = k g2.slots (a.gives t) y ∙ ap₂ make (d.reads t g2.slots g1.slots (λ z ge lt. slot_other g1 y u z (λ is. omega (arith, is, lt))) ∙ gives1) (slot_same g1 y u);
          shows = shows_temporary w s1 y u g1 (omega (arith, le)) shows1;
          kept = kept_join kept1 (kept_temporary w t y u g1 (omega arith)) (omega arith) (omega arith);
        }))));
  }

  pub does_one_item : {begun : Code Begun} {item : Code (Option PlainKeyRef × ℕ)} {run : State → Run Made} {run_item : State → Run (Option Plain × Plain)} → Does m w Begun Made begun read_begun run → Does m w (Option PlainKeyRef × ℕ) (Option Plain × Plain) item read_item run_item → Does m w Begun Made (one_item begun item) read_begun (λ s. (run s then_do λ b s. (run_item s then_do λ i s. (let p : Two = (b, i) in Going p s))) then_do λ p s. (result_of (added_to p) s then_do λ made s. Going (with_added p made) s))
  does_one_item d e =
      does_with read_begun (λ two. put_source (two.0).0 ((two.1).0 ∷ []) (two.1).1) added_to (λ two x. (x, (two.0).1 ++ two.1 ∷ [])) with_added (two_put m.request) two_read
      (does_both read_two (λ made one. (made, one)) (λ made one. (made, one)) (λ f x y. refl) d e)

  pub does_no_item : Does m w Begun Made no_item read_begun (λ s. Going (array empty, []) s)
  unfolding ◌then_do◌
  does_no_item = does_left read_begun (λ x. (x, [])) (λ v. (v, [])) (λ f x. refl) (does_source (array_source []) (λ s. array empty) (λ s f shows. begin_value m.request f))

  pub does_array : {items : Code Begun} (env : Environment) (is : PlainItems) → Does m w Begun Made items read_begun (λ s. Going (array empty, []) s then_do items_made env is) → Does m w ℕ Plain (computed items (λ made. array_source made.1)) at_slot (items_in env is (array empty))
  unfolding ◌then_do◌ result_of
  does_array env is d =
      does_same _ _ (λ s. items_forget env is (array empty, []) s)
      (does_known_computed IsMade (λ made. array_source made.1) (λ b. Ok (without_items b)) (λ s t b h. items_known env is (array empty, []) s t b refl h) (array_value m.request) d)

-- a text alone is joined with the empty text
abbrev Several : List Plain → Type 0
Several vs = length vs ≡ 1 → ⊥

one_ne : (n : ℕ) → suc (suc n) ≡ 1 → ⊥
one_ne n e = omega (arith, e)

several_value : (vs : List Plain) → Several vs → concatenated vs ≡ join_of vs
unfolding concatenated
several_value [] h = refl
several_value (v ∷ []) h = absurd (h refl)
several_value (v ∷ a ∷ vs) h = refl

lone_text : (vs : List Plain) → flat_map text_of (vs ++ text [] ∷ []) ≡ flat_map text_of vs
lone_text [] = refl
lone_text (v ∷ vs) = ap (λ t. text_of v ++ t) (lone_text vs)

values_count : (w : Environment) (es : PlainExprs) (s t : State) (vs : List Plain) → values w es s ≡ Going vs t → length vs ≡ number_of es
unfolding value number_of
values_count w no_exprs s t vs h = sym (ap (λ r. length (made_in [] r)) h)
values_count w (more_exprs e es) s t vs h =
    let one = went_on (value w e s) _ vs t h in
    let two = went_on (values w es one.s) _ vs t one.goes in
    sym (ap (λ r. length (made_in (one.v ∷ two.v) r)) two.goes) ∙ (let k = values_count w es one.s two.s two.v two.is in omega (arith, k))

join_meets : (r : PlainRequest) (f : Slots) (xs : List ℕ) → Several (map f xs) → Meets (source_value r f (concat_source xs)) (join_of (map f xs))
unfolding source_value
join_meets r f xs h = meets_same _ _ (several_value (map f xs) h)

module _ {m : World} {w : Scope} where
  pub does_join : {parts : Code (List ℕ)} (env : Environment) (es : PlainExprs) → Does m w (List ℕ) (List Plain) parts read_slots (values env es) → Does m w ℕ Plain (join_code es parts) at_slot (λ s. values env es s then_do λ vs s. result_of (join_of vs) s)
  unfolding join_code number_of ◌then_do◌
  does_join env no_exprs d = does_known_computed Several concat_source join_of (λ s t vs h e. let k = values_count env no_exprs s t vs h in omega (arith, e, k)) (join_meets m.request) d
  does_join env (more_exprs e no_exprs) d =
      does_same _ _ (λ s. then_assoc (values env (more_exprs e no_exprs) s) _ _ ∙ then_same (values env (more_exprs e no_exprs) s) _ _ (λ vs s. ap (λ t. result_of (within_length t) s) (lone_text vs)))
      (does_known_computed Several concat_source join_of
      (λ s t vs h k.
      let one = went_on (values env (more_exprs e no_exprs) s) _ vs t h in
      let n = values_count env (more_exprs e no_exprs) s one.s one.v one.is in
      let long : length (one.v ++ text [] ∷ []) ≡ length vs = ap (λ r. length (made_in (one.v ++ text [] ∷ []) r)) one.goes in
      omega (arith, k, n, long, length-append one.v (text [] ∷ [])))
      (join_meets m.request)
      (does_both read_slots (λ xs x. xs ++ x ∷ []) (λ vs v. vs ++ v ∷ []) (λ f xs x. map_last f xs x) d (does_literal (text []))))
  does_join env (more_exprs a (more_exprs b es)) d = does_known_computed Several concat_source join_of (λ s t vs h e. let k = values_count env (more_exprs a (more_exprs b es)) s t vs h in omega (arith, e, k)) (join_meets m.request) d

-- a path that has a key at each place
pub keys_known : (w : Environment) (path : PlainPath) (s t : State) (ks : KeyValues) → HasKeys path → subscripts w path s ≡ Going ks t → AllKeyed ks
unfolding value HasKeys
keys_known w no_keys s t ks keyed h = subst AllKeyed (ap (made_in []) h) tt
keys_known w (more_keys no_expr rest) s t ks keyed h = absurd keyed
keys_known w (more_keys (some_expr k) rest) s t ks keyed h =
    let one = went_on (value w k s then_do λ v s. Going (Some v) s) _ ks t h in
    let first = went_on (value w k s) _ one.v one.s one.is in
    let two = went_on (subscripts w rest one.s) _ ks t one.goes in
    let key : Some first.v ≡ one.v = ap (made_in (Some first.v)) first.goes in
    let all : (one.v ∷ two.v) ≡ ks = ap (made_in (one.v ∷ two.v)) two.goes in
    subst AllKeyed all (subst (λ o. AllKeyed (o ∷ two.v)) key (keys_known w rest one.s two.s two.v keyed two.is))
