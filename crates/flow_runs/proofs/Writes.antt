-- Code that writes variables does what a write does.
use Rattle.std.proofs.Common.{◌≡◌, ℕ, ◌+◌, ◌<◌, ◌≤◌, List, [], ◌∷◌, ◌++◌, length, length-append, Some, None, Option, refl, sym, ap, ap₂, ◌∙◌, subst, arith, Bool, true, false, not, map, Result, Ok, Err, append-nil}
use Rattle.std.specs.Prelude.{if◌then◌else◌, flat_map}
use Rattle.php_syntax.specs.declared.tree.UpdateSign.{UpdateSign}
use Rattle.php_syntax.specs.declared.tree.UpdateSign.TheVariants as update
use Rattle.plain_values.specs.Plain.{Plain, PlainKey, null, flag, int, text, array}
use Rattle.plain_values.specs.Text.{truth, text_of}
use Rattle.plain_values.specs.Walks.{is_null}
use Rattle.plain_values.specs.Keys.{key_of}
use Rattle.plain_values.specs.Members.{get, within_length}
use Rattle.plain_values.specs.Outcome.{go_on}
use Rattle.plain_values.specs.Paths.{Step, subscript_of, path_of, read}
use Rattle.plain_values.specs.declared.fault.Fault.{Fault}
use Rattle.script_meaning.specs.Requests.{PlainRequest}
use Rattle.script_meaning.specs.Runs.{State, Run, Going, ◌then_do◌, result_of, with_variable, value_in}
use Rattle.script_meaning.specs.Expressions.{assigned, updated, stepped, arithmetic}
use Rattle.flow_code.specs.Points.{PlainKeyRef, copy_source, number_source, set_point}
use Rattle.flow_code.specs.Variables.{Name}
use Rattle.flow_code.specs.Code.{Code}
use Rattle.flow_code.specs.Expressions.{Scope, variable, written, stored, member_at, members_along, old_value, updating, updated_at, filled, step_work, step_code}
use Rattle.flow_code.specs.Runs.{Slots, Frame, set_slot, key_value, maybe_key_value, source_value, worked, concatenated}
use Rattle.flow_runs.proofs.Ends.{World, Post, Follows, Comes, Stuck, after, here, set_comes, comes_same, comes_then, comes_stuck, set_stuck, ok_same}
use Rattle.flow_runs.proofs.Has.{HasAt, has_front, has_back, mid_long, last_long}
use Rattle.flow_runs.proofs.Names.{Has}
use Rattle.flow_runs.proofs.Frames.{slot_same, slot_other, slot_walks, Kept, is_variable, kept_join, kept_temporary, kept_variable, shows_temporary, shows_variable}
use Rattle.flow_runs.proofs.Codes.{at_slot, Does, bind_did, bind_known, does_both, did_set, sets, branches_not, as_present, as_copy}

abbrev pub Keys : Type 0
Keys = List (Option PlainKeyRef)

abbrev pub KeyValues : Type 0
KeyValues = List (Option Plain)

abbrev pub read_keys : Slots → Keys → KeyValues
read_keys f ks = map (maybe_key_value f) ks

-- a path, and the slot of a value
abbrev pub read_write : Slots → Keys × ℕ → KeyValues × Plain
read_write f p = (map (maybe_key_value f) p.0, f p.1)

pub written_value : (r : PlainRequest) (f : Slots) (x : ℕ) (ks : Keys) (v : ℕ) → source_value r f (written x ks v) ≡ assigned (read_keys f ks) (f v) (f x)
unfolding source_value assigned
written_value r f x [] v = refl
written_value r f x (k ∷ ks) v = refl

abbrev pub paired : {U V : Type 0} → (State → Run U) → (State → Run V) → State → Run (U × V)
paired run_a run_b s = run_a s then_do λ u s. (run_b s then_do λ v s. Going (u, v) s)

-- the new value of an update, beside its path
abbrev pub with_new : UpdateSign → (State → Run ((List (Option Plain) × Plain) × Plain)) → State → Run (List (Option Plain) × Plain)
with_new sign run s = run s then_do λ kv s. (result_of (updated sign (kv.0).1 kv.1) s then_do λ new s. Going ((kv.0).0, new) s)

-- a value written at the end of a path
abbrev pub with_write : Name → (State → Run (List (Option Plain) × Plain)) → State → Run Plain
with_write x run s = run s then_do λ kv s. (result_of (assigned kv.0 kv.1 (value_in s.variables x)) s then_do λ whole s. Going kv.1 (with_variable s x whole))

ok_err : {A : Type 0} (fault : Fault) (v : A) → Err fault ≡ Ok v → ⊥
ok_err fault v e = cc

module _ {m : World} where
  pub result_then : {A B : Type 0} {c p : ℕ} {f : Frame} {n : ℕ} {out : List ℕ} {Q : Post B} (res : Result A Fault) (s : State) (go : A → State → Run B) → ((fault : Fault) → res ≡ Err fault → Stuck m p f) → ((v : A) → res ≡ Ok v → Follows m c B p f n out (go v s) Q) → Follows m c B p f n out (result_of res s then_do go) Q
  unfolding result_of ◌then_do◌
  result_then (Ok v) s go stuck h = h v refl
  result_then (Err fault) s go stuck h = record { is = stuck fault refl }

-- a source whose value is a fault
pub no_value : (value : Result Plain Fault) (fault : Fault) → value ≡ Err fault → (v : Plain) → value ≡ Ok v → ⊥
no_value value fault e v is = ok_err fault v (sym e ∙ is)

-- the old value at the end of a path
abbrev pub old_at : KeyValues → Plain → Result Plain Fault
old_at ks v = go_on (path_of ks) (λ path. read path v)

-- a member along a path; `[]` has none
abbrev Member : Option Plain → Plain → Plain → Type 0
Member None v mid = mid ≡ null
Member (Some key) v mid = subscript_of v key ≡ Ok mid

record Step_along (k : Option Plain) (ks : KeyValues) (v res : Plain) : Type 0 where
  mid : Plain
  member : Member k v mid
  rest : old_at ks mid ≡ Ok res

along_none : (ks : KeyValues) (v res : Plain) (b : Result (List Step) Fault) → path_of ks ≡ b → go_on (go_on b (λ rest. Ok (None ∷ rest))) (λ path. read path v) ≡ Ok res → Step_along None ks v res
along_none ks v res (Err fault) e h = absurd (ok_err fault res h)
along_none ks null res (Ok rest) e h = record { mid = null; member = refl; rest = ap (λ b. go_on b (λ path. read path null)) e ∙ h }
along_none ks (flag b) res (Ok rest) e h = record { mid = null; member = refl; rest = ap (λ b. go_on b (λ path. read path null)) e ∙ h }
along_none ks (int z) res (Ok rest) e h = record { mid = null; member = refl; rest = ap (λ b. go_on b (λ path. read path null)) e ∙ h }
along_none ks (text t) res (Ok rest) e h = absurd (ok_err _ res h)
along_none ks (array ps) res (Ok rest) e h = record { mid = null; member = refl; rest = ap (λ b. go_on b (λ path. read path null)) e ∙ h }

along_member : (key : Plain) (ks : KeyValues) (v res : Plain) (rest : List Step) (c : Result Plain Fault) → subscript_of v key ≡ c → path_of ks ≡ Ok rest → go_on c (read rest) ≡ Ok res → Step_along (Some key) ks v res
along_member key ks v res rest (Ok mid) e ek h = record { mid = mid; member = e; rest = ap (λ b. go_on b (λ path. read path mid)) ek ∙ h }
along_member key ks v res rest (Err fault) e ek h = absurd (ok_err fault res h)

along_some : (key : Plain) (ks : KeyValues) (v res : Plain) (a : Result PlainKey Fault) (b : Result (List Step) Fault) → key_of key ≡ a → path_of ks ≡ b → go_on (go_on (go_on a (λ k. Ok (Some k))) (λ first. go_on b (λ rest. Ok (first ∷ rest)))) (λ path. read path v) ≡ Ok res → Step_along (Some key) ks v res
along_some key ks v res (Err fault) b ea eb h = absurd (ok_err fault res h)
along_some key ks v res (Ok k) (Err fault) ea eb h = absurd (ok_err fault res h)
along_some key ks v res (Ok k) (Ok rest) ea eb h = along_member key ks v res rest (get v k) (ap (λ a. go_on a (get v)) ea) eb h

along : (k : Option Plain) (ks : KeyValues) (v res : Plain) → old_at (k ∷ ks) v ≡ Ok res → Step_along k ks v res
along None ks v res h = along_none ks v res (path_of ks) refl h
along (Some key) ks v res h = along_some key ks v res (key_of key) (path_of ks) refl refl h

member_value : (r : PlainRequest) (f : Slots) (y : ℕ) (k : Option PlainKeyRef) (v mid : Plain) → f y ≡ v → Member (maybe_key_value f k) v mid → source_value r f (member_at y k) ≡ Ok mid
unfolding source_value
member_value r f y None v mid e h = ap Ok (sym h)
member_value r f y (Some k) v mid e h = ap (λ v. subscript_of v (key_value f k)) e ∙ h

pub members_long : (x : ℕ) (ks : Keys) (p t : ℕ) → length (members_along x ks p t) ≡ length ks
unfolding members_along
members_long x [] p t = refl
members_long x (k ∷ ks) p t = let e = members_long t ks (p + 1) (t + 1) in omega (arith, e)

abbrev behind_first : KeyValues → KeyValues
behind_first [] = []
behind_first (k ∷ ks) = ks

abbrev first_key : KeyValues → Option Plain
first_key [] = None
first_key (k ∷ ks) = k

-- the frame behind the members
record Members (m : World) (p q last t : ℕ) (f : Frame) (out : List ℕ) (res : Plain) : Type 0 where
  frame : Frame
  comes : Comes m 0 p f out q frame out
  gives : frame.slots last ≡ res
  slots' : (z : ℕ) → z < t → frame.slots z ≡ f.slots z
  walks' : (z : ℕ) → z < t → frame.walks z ≡ f.walks z

module _ {m : World} where
  members : (ks : Keys) (kvs : KeyValues) (hi y p : ℕ) (f0 : Slots) (f : Frame) (v res : Plain) (out : List ℕ) → HasAt m.flow p (members_along y ks p (y + 1)) → ((g : Slots) → ((z : ℕ) → z < hi → g z ≡ f0 z) → read_keys g ks ≡ kvs) → ((z : ℕ) → z < hi → f.slots z ≡ f0 z) → hi ≤ y → f.slots y ≡ v → old_at kvs v ≡ Ok res → Members m p (p + length ks) (y + length ks) (y + 1) f out res
  unfolding members_along
  members [] kvs hi y p f0 f v res out has keys same le is h =
      let none : [] ≡ kvs = keys f.slots same in
      let last : y ≡ y + 0 = omega arith in
      let to : p ≡ p + 0 = omega arith in
      record {
        frame = f;
        comes = subst (λ q. Comes m 0 p f out q f out) to (comes_same p f out);
        gives = subst (λ y. f.slots y ≡ res) last (is ∙ ok_same v res (old_at [] v) refl (ap (λ ks. old_at ks v) none ∙ h));
        slots' = λ z lt. refl;
        walks' = λ z lt. refl;
      }
  members (k ∷ ks) kvs hi y p f0 f v res out has keys same le is h =
      let e : (maybe_key_value f.slots k ∷ read_keys f.slots ks) ≡ kvs = keys f.slots same in
      let st = along (maybe_key_value f.slots k) (read_keys f.slots ks) v res (ap (λ ks. old_at ks v) e ∙ h) in
      let f1 = set_slot f (y + 1) st.mid in
      let rest = members ks (read_keys f.slots ks) hi (y + 1) (p + 1) f0 f1 st.mid res out has.1 (λ g same'. ap behind_first (keys g same' ∙ sym e)) (λ z lt. slot_other f (y + 1) st.mid z (λ is. omega (arith, is, lt, le)) ∙ same z lt) (omega (arith, le)) (slot_same f (y + 1) st.mid) st.rest in
      let to : p + 1 + length ks ≡ p + length (k ∷ ks) = omega arith in
      let last : y + 1 + length ks ≡ y + length (k ∷ ks) = omega arith in
      record {
        frame = rest.frame;
        comes = comes_then (set_comes m p (y + 1) (p + 1) (member_at y k) f st.mid out has.0 (member_value m.request f.slots y k v st.mid is st.member)) (subst (λ q. Comes m 0 (p + 1) f1 out q rest.frame out) to rest.comes);
        gives = subst (λ y. rest.frame.slots y ≡ res) last rest.gives;
        slots' = λ z lt. rest.slots' z (omega (arith, lt)) ∙ slot_other f (y + 1) st.mid z (λ is. omega (arith, is, lt));
        walks' = λ z lt. rest.walks' z (omega (arith, lt)) ∙ slot_walks f (y + 1) st.mid z (λ is. omega (arith, is, lt));
      }

-- a path has a key at each place
abbrev pub AllKeyed : KeyValues → Type 0
AllKeyed [] = Unit {0}
AllKeyed (None ∷ ks) = ⊥
AllKeyed (Some key ∷ ks) = AllKeyed ks

-- there is a fault in place of a value
abbrev Faults : Result Plain Fault → Type 0
Faults r = (fault : Fault) × (r ≡ Err fault)

fault_along : (key : Plain) (ks : KeyValues) (v mid : Plain) (fault : Fault) (a : Result PlainKey Fault) (b : Result (List Step) Fault) → key_of key ≡ a → path_of ks ≡ b → go_on a (get v) ≡ Ok mid → go_on (go_on (go_on a (λ k. Ok (Some k))) (λ first. go_on b (λ rest. Ok (first ∷ rest)))) (λ path. read path v) ≡ Err fault → Faults (go_on b (λ path. read path mid))
fault_along key ks v mid fault (Err e) b ea eb h k = absurd (ok_err e mid h)
fault_along key ks v mid fault (Ok k) (Err e) ea eb h l = (e, refl)
fault_along key ks v mid fault (Ok k) (Ok rest) ea eb h l = (fault, ap (λ r. go_on r (read rest)) (sym h) ∙ l)

none_some : (v : Plain) → None ≡ Some v → ⊥
none_some v e = cc

key_same : (u v : Plain) → Some u ≡ Some v → u ≡ v
key_same u v e = cc

member_fault : (r : PlainRequest) (f : Slots) (y : ℕ) (k : Option PlainKeyRef) (v key : Plain) (fault : Fault) → f y ≡ v → maybe_key_value f k ≡ Some key → subscript_of v key ≡ Err fault → source_value r f (member_at y k) ≡ Err fault
unfolding source_value
member_fault r f y None v key fault is e h = absurd (none_some key e)
member_fault r f y (Some k) v key fault is e h = ap₂ subscript_of is (key_same (key_value f k) key e) ∙ h

module _ (m : World) where
  members_stuck : (ks : Keys) (kvs : KeyValues) (hi y p : ℕ) (f0 : Slots) (f : Frame) (v : Plain) (fault : Fault) → AllKeyed kvs → HasAt m.flow p (members_along y ks p (y + 1)) → ((g : Slots) → ((z : ℕ) → z < hi → g z ≡ f0 z) → read_keys g ks ≡ kvs) → ((z : ℕ) → z < hi → f.slots z ≡ f0 z) → hi ≤ y → f.slots y ≡ v → old_at kvs v ≡ Err fault → Stuck m p f
  unfolding members_along
  members_stuck [] kvs hi y p f0 f v fault keyed has keys same le is h = absurd (ok_err fault v (sym (ap (λ ks. old_at ks v) (keys f.slots same) ∙ h)))
  members_stuck (k ∷ ks) kvs hi y p f0 f v fault keyed has keys same le is h =
      let e : (maybe_key_value f.slots k ∷ read_keys f.slots ks) ≡ kvs = keys f.slots same in
      by_key (maybe_key_value f.slots k) refl (subst AllKeyed (sym e) keyed) (ap (λ ks. old_at ks v) e ∙ h)
      (λ mid at rest_keyed other. members_stuck ks (read_keys f.slots ks) hi (y + 1) (p + 1) f0 (set_slot f (y + 1) mid) mid other rest_keyed has.1 (λ g same'. ap behind_first (keys g same' ∙ sym e)) (λ z lt. slot_other f (y + 1) mid z (λ is. omega (arith, is, lt, le)) ∙ same z lt) (omega (arith, le)) (slot_same f (y + 1) mid))
    where
      by_member : (key : Plain) → maybe_key_value f.slots k ≡ Some key → AllKeyed (read_keys f.slots ks) → old_at (Some key ∷ read_keys f.slots ks) v ≡ Err fault → ((mid : Plain) → source_value m.request f.slots (member_at y k) ≡ Ok mid → AllKeyed (read_keys f.slots ks) → (other : Fault) → old_at (read_keys f.slots ks) mid ≡ Err other → Stuck m (p + 1) (set_slot f (y + 1) mid)) → (r : Result Plain Fault) → subscript_of v key ≡ r → Stuck m p f
      by_member key eo rest_keyed hk next (Err other) er = set_stuck m p (y + 1) (p + 1) (member_at y k) f has.0 (no_value _ other (member_fault m.request f.slots y k v key other is eo er))
      by_member key eo rest_keyed hk next (Ok mid) er =
          let at = member_value m.request f.slots y k v mid is (subst (λ o. Member o v mid) (sym eo) er) in
          let other = fault_along key (read_keys f.slots ks) v mid fault (key_of key) (path_of (read_keys f.slots ks)) refl refl er hk in
          comes_stuck (set_comes m p (y + 1) (p + 1) (member_at y k) f mid [] has.0 at) (next mid at rest_keyed other.0 other.1)

      by_key : (o : Option Plain) → maybe_key_value f.slots k ≡ o → AllKeyed (maybe_key_value f.slots k ∷ read_keys f.slots ks) → old_at (maybe_key_value f.slots k ∷ read_keys f.slots ks) v ≡ Err fault → ((mid : Plain) → source_value m.request f.slots (member_at y k) ≡ Ok mid → AllKeyed (read_keys f.slots ks) → (other : Fault) → old_at (read_keys f.slots ks) mid ≡ Err other → Stuck m (p + 1) (set_slot f (y + 1) mid)) → Stuck m p f
      by_key None eo keyed hk next = absurd (subst (λ o. AllKeyed (o ∷ read_keys f.slots ks)) eo keyed)
      by_key (Some key) eo keyed hk next = by_member key eo (subst (λ o. AllKeyed (o ∷ read_keys f.slots ks)) eo keyed) (ap (λ o. old_at (o ∷ read_keys f.slots ks) v) (sym eo) ∙ hk) next (subscript_of v key) refl

module _ {m : World} {w : Scope} where
  pub does_stored : {a : Code (Keys × ℕ)} {run : State → Run (KeyValues × Plain)} (x : Name) → Has w.names x → Does m w (Keys × ℕ) (KeyValues × Plain) a read_write run → Does m w ℕ Plain (stored (variable w x) a) at_slot (with_write x run)
  does_stored {a} x hx d = record {
    long = λ p t. last_long _ _ a.size (d.long p t);
    reads = λ t f g k. ap (λ (p : KeyValues × Plain). p.1) (d.reads t f g k);
    follows = λ p t f s has le shows.
        let at = (has_back m.flow p a.size _ _ (d.long p t) has).0 in
        bind_did _ (d.follows p t f s (has_front m.flow p _ _ has) le shows) (λ s1 g1 kv gives1 shows1 kept1.
        let value' = written_value m.request g1.slots (variable w x) (a.gives t).0 (a.gives t).1 ∙ ap₂ (λ (kv : KeyValues × Plain) old. assigned kv.0 kv.1 old) gives1 (shows1 x hx) in
        result_then (assigned kv.0 kv.1 (value_in s1.variables x)) s1 _ (λ fault e. set_stuck m _ _ _ _ g1 at (no_value _ fault (value' ∙ e))) (λ whole e.
        let below = is_variable w x hx in
        let g2 = set_slot g1 (variable w x) whole in
        after (set_comes m _ _ _ _ g1 whole s1.printed at (value' ∙ e))
        (here (record {
          at = omega arith;
          gives = ap (λ (p : KeyValues × Plain). p.1) (d.reads t g2.slots g1.slots (λ y ge lt. slot_other g1 (variable w x) whole y (λ is. omega (arith, is, ge, le, below))) ∙ gives1);
          shows = shows_variable w s1 x whole g1 hx shows1;
          kept = kept_join kept1 (kept_variable w t x whole g1 hx) (omega arith) (omega arith);
        }))));
  }

  pub does_old : {path : Code Keys} {run : State → Run KeyValues} (x : Name) (n : ℕ) → Has w.names x → ((t : ℕ) → length (path.gives t) ≡ n) → ((s t : State) (ks : KeyValues) → run s ≡ Going ks t → m.strict ≡ true → AllKeyed ks) → Does m w Keys KeyValues path read_keys run → Does m w (Keys × ℕ) (KeyValues × Plain) (old_value (variable w x) n path) read_write (λ s. run s then_do λ ks s. (result_of (old_at ks (value_in s.variables x)) s then_do λ old s. Going (ks, old) s))
  does_old {path} {run} x n hx count keyed d = record {
    long = λ p t. mid_long _ _ _ path.size n _ (d.long p t) (members_long (t + path.slots) (path.gives t) (p + path.size + 1) (t + path.slots + 1) ∙ count t) refl;
    reads = λ t f g k. ap₂ (λ (ks : KeyValues) (v : Plain). (ks, v)) (d.reads t f g (λ y ge lt. k y ge (omega (arith, lt)))) (k (t + path.slots + n) (omega arith) (omega arith));
    follows = λ p t f s has le shows.
        let h = has_back m.flow p path.size _ _ (d.long p t) has in
        bind_known (λ ks. m.strict ≡ true → AllKeyed ks) _ (λ ks s1. keyed s s1 ks) (d.follows p t f s (has_front m.flow p _ _ has) le shows) (λ s1 g1 ks gives1 shows1 kept1 all_keyed.
        let y = t + path.slots in
        let v = value_in s1.variables x in
        let g2 = set_slot g1 y v in
        let keys : (g : Slots) → ((z : ℕ) → z < y → g z ≡ g1.slots z) → read_keys g (path.gives t) ≡ ks = λ g same. d.reads t g g1.slots (λ z ge lt. same z lt) ∙ gives1 in
        let copied = set_comes m _ _ _ _ g1 v s1.printed h.0 (as_copy m.request g1.slots _ v (shows1 x hx)) in
        result_then (old_at ks (value_in s1.variables x)) s1 _
        (λ fault e. comes_stuck copied (λ strict. members_stuck m (path.gives t) ks y y (p + path.size + 1) g1.slots g2 v fault (all_keyed strict) h.1 keys (λ z lt. slot_other g1 y v z (λ is. omega (arith, is, lt))) (omega arith) (slot_same g1 y v) e strict))
        (λ old e.
        let ms = members {m = m} (path.gives t) ks y y (p + path.size + 1) g1.slots g2 v old s1.printed h.1 keys (λ z lt. slot_other g1 y v z (λ is. omega (arith, is, lt))) (omega arith) (slot_same g1 y v) e in
        let c = count t in
        let kept2 : Kept w t g1 ms.frame = record { slots' = λ z ge lt. ms.slots' z (omega (arith, lt)) ∙ slot_other g1 y v z (λ is. omega (arith, is, lt)); walks' = λ z ge lt. ms.walks' z (omega (arith, lt)) ∙ slot_walks g1 y v z (λ is. omega (arith, is, lt)) } in
        after copied
        (after ms.comes
        (here (record {
          at = omega (arith, c);
          gives = ap₂ (λ (ks : KeyValues) (v : Plain). (ks, v)) (keys ms.frame.slots (λ z lt. ms.slots' z (omega (arith, lt)) ∙ slot_other g1 y v z (λ is. omega (arith, is, lt)))) (ap (λ n. ms.frame.slots (y + n)) (sym c) ∙ ms.gives);
          shows = λ z hz. let lt = is_variable w z hz in ms.slots' (variable w z) (omega (arith, lt, le)) ∙ shows_temporary w s1 y v g1 (omega (arith, le)) shows1 z hz;
          kept = kept_join kept1 kept2 (omega arith) (omega arith);
        })))));
  }

join_two : (a b : Plain) → flat_map text_of (a ∷ b ∷ []) ≡ text_of a ++ text_of b
join_two a b = ap (λ t. text_of a ++ t) (append-nil (text_of b))

updating_value : (r : PlainRequest) (f : Slots) (sign : UpdateSign) (x y : ℕ) → source_value r f (updating sign x y) ≡ updated sign (f x) (f y)
unfolding source_value updating updated worked concatenated arithmetic
updating_value r f update.Join x y = ap within_length (join_two (f x) (f y))
updating_value r f update.Add x y = refl
updating_value r f update.Sub x y = refl
updating_value r f update.Mul x y = refl
updating_value r f update.Rem x y = refl
updating_value r f update.Coalesce x y = refl

-- the new value of an update beside its path
abbrev beside : UpdateSign → Code ((Keys × ℕ) × ℕ) → Code (Keys × ℕ)
beside sign parts = record {
  size = parts.size + 1;
  slots = parts.slots + 1;
  points = λ p t. parts.points p t ++ set_point (t + parts.slots) (updating sign ((parts.gives t).0).1 (parts.gives t).1) (p + parts.size + 1) ∷ [];
  gives = λ t. (((parts.gives t).0).0, t + parts.slots);
}

abbrev pub read_update : Slots → (Keys × ℕ) × ℕ → (KeyValues × Plain) × Plain
read_update f p = (read_write f p.0, f p.1)

module _ {m : World} {w : Scope} where
  does_beside : {parts : Code ((Keys × ℕ) × ℕ)} {run : State → Run ((KeyValues × Plain) × Plain)} (sign : UpdateSign) → Does m w ((Keys × ℕ) × ℕ) ((KeyValues × Plain) × Plain) parts read_update run → Does m w (Keys × ℕ) (KeyValues × Plain) (beside sign parts) read_write (with_new sign run)
  does_beside {parts} sign d = record {
    long = λ p t. last_long _ _ parts.size (d.long p t);
    reads = λ t f g k. ap₂ (λ (ks : KeyValues) (v : Plain). (ks, v)) (ap (λ (p : (KeyValues × Plain) × Plain). (p.0).0) (d.reads t f g (λ y ge lt. k y ge (omega (arith, lt))))) (k (t + parts.slots) (omega arith) (omega arith));
    follows = λ p t f s has le shows.
        let at = (has_back m.flow p parts.size _ _ (d.long p t) has).0 in
        bind_did _ (d.follows p t f s (has_front m.flow p _ _ has) le shows) (λ s1 g1 kv gives1 shows1 kept1.
        let value' = updating_value m.request g1.slots sign ((parts.gives t).0).1 (parts.gives t).1 ∙ ap (λ (kv : (KeyValues × Plain) × Plain). updated sign (kv.0).1 kv.1) gives1 in
        result_then (updated sign (kv.0).1 kv.1) s1 _ (λ fault e. set_stuck m _ _ _ _ g1 at (no_value _ fault (value' ∙ e))) (λ new e.
        let y = t + parts.slots in
        let g2 = set_slot g1 y new in
        after (set_comes m _ _ _ _ g1 new s1.printed at (value' ∙ e))
        (here (record {
          at = omega arith;
          gives = ap₂ (λ (ks : KeyValues) (v : Plain). (ks, v)) (ap (λ (p : (KeyValues × Plain) × Plain). (p.0).0) (d.reads t g2.slots g1.slots (λ z ge lt. slot_other g1 y new z (λ is. omega (arith, is, lt))) ∙ gives1)) (slot_same g1 y new);
          shows = shows_temporary w s1 y new g1 (omega (arith, le)) shows1;
          kept = kept_join kept1 (kept_temporary w t y new g1 (omega arith)) (omega arith) (omega arith);
        }))));
  }

  pub does_updated : {old : Code (Keys × ℕ)} {right : Code ℕ} {run : State → Run (KeyValues × Plain)} {run_right : State → Run Plain} (sign : UpdateSign) (x : Name) → Has w.names x → Does m w (Keys × ℕ) (KeyValues × Plain) old read_write run → Does m w ℕ Plain right at_slot run_right → Does m w ℕ Plain (updated_at sign (variable w x) old right) at_slot (with_write x (with_new sign (paired run run_right)))
  does_updated sign x hx d e = does_stored x hx (does_beside sign (does_both read_update (λ a b. (a, b)) (λ u v. (u, v)) (λ f x y. refl) d e))

  pub does_filled : {a : Code (Keys × ℕ)} {b : Code ℕ} {run : State → Run (KeyValues × Plain)} {run_b : State → Run Plain} (x : Name) → Has w.names x → Does m w (Keys × ℕ) (KeyValues × Plain) a read_write run → Does m w ℕ Plain b at_slot run_b → Does m w ℕ Plain (filled (variable w x) a b) at_slot (λ s. run s then_do λ kv s. (if is_null kv.1 then (run_b s then_do λ v s. (result_of (assigned kv.0 v (value_in s.variables x)) s then_do λ whole s. Going v (with_variable s x whole))) else Going kv.1 s))
  does_filled {a} {b} x hx d e = record {
    long = λ p t. mid_long _ _ _ a.size (b.size + 4) _ (d.long p t) (omega (arith, length-append (b.points (p + a.size + 1 + 1 + 1) (t + a.slots + 1)) (set_point (t + a.slots + 1 + b.slots) (copy_source (b.gives (t + a.slots + 1))) (p + a.size + 1 + 1 + 1 + b.size + 1) ∷ set_point (variable w x) (written (variable w x) (a.gives t).0 (t + a.slots + 1 + b.slots)) (p + a.size + 1 + 1 + 1 + b.size + 1 + 1) ∷ []), e.long (p + a.size + 1 + 1 + 1) (t + a.slots + 1))) (omega arith);
    reads = λ t f g k. k (t + a.slots + 1 + b.slots) (omega arith) (omega arith);
    follows = λ p t f s has le shows.
        let left = p + a.size + 1 + 1 in
        let test = t + a.slots in
        let h1 = has_back m.flow p a.size _ _ (d.long p t) has in
        let h2 = h1.1.1 in
        let h3 = has_back m.flow (left + 1) b.size _ _ (e.long (left + 1) (test + 1)) h2.1 in
        bind_did _ (d.follows p t f s (has_front m.flow p _ _ has) le shows) (λ s1 g1 kv gives1 shows1 kept1.
        let there : Plain = flag (not (is_null kv.1)) in
        let g2 = set_slot g1 test there in
        let shows2 = shows_temporary w s1 test there g1 (omega (arith, le)) shows1 in
        let kept2' : Kept w t g1 g2 = kept_temporary w t test there g1 (omega arith) in
        let kept2 = kept_join kept1 kept2' (omega arith) (omega arith) in
        let same = d.reads t g2.slots g1.slots (λ y ge lt. slot_other g1 test there y (λ is. omega (arith, is, lt))) ∙ gives1 in
        after (set_comes m _ _ _ _ g1 there s1.printed h1.0 (as_present m.request g1.slots _ kv.1 (ap (λ (p : KeyValues × Plain). p.1) gives1)))
        (branches_not (is_null kv.1) h1.1.0 (ap truth (slot_same g1 test there))
        (λ empty. bind_did _ (e.follows (left + 1) (test + 1) g2 s1 (has_front m.flow _ _ _ h2.1) (omega (arith, le)) shows2) (λ s3 g3 v gives3 shows3 kept3.
        let y = test + 1 + b.slots in
        let g4 = set_slot g3 y v in
        let shows4 = shows_temporary w s3 y v g3 (omega (arith, le)) shows3 in
        let kept3' : Kept w t g1 g3 = kept_join kept2' kept3 (omega arith) (omega arith) in
        let kept34 : Kept w t f g3 = kept_join kept1 kept3' (omega arith) (omega arith) in
        let kept4 : Kept w t f g4 = kept_join kept34 (kept_temporary w t y v g3 (omega arith)) (omega arith) (omega arith) in
        let keys = d.reads t g4.slots g2.slots (λ z ge lt. slot_other g3 y v z (λ is. omega (arith, is, lt)) ∙ kept3.slots' z (omega (arith, ge, le)) (omega (arith, lt))) ∙ same in
        after (set_comes m _ _ _ _ g3 v s3.printed h3.0 (as_copy m.request g3.slots _ v gives3))
        (let value' = written_value m.request g4.slots (variable w x) (a.gives t).0 y ∙ ap₂ (λ (ks : KeyValues) (uv : Plain × Plain). assigned ks uv.0 uv.1) (ap (λ (p : KeyValues × Plain). p.0) keys) (ap₂ (λ (u v : Plain). (u, v)) (slot_same g3 y v) (shows4 x hx)) in
        result_then (assigned kv.0 v (value_in s3.variables x)) s3 _ (λ fault ew. set_stuck m _ _ _ _ g4 h3.1.0 (no_value _ fault (value' ∙ ew))) (λ whole ew.
        let below = is_variable w x hx in
        after (set_comes m _ _ _ _ g4 whole s3.printed h3.1.0 (value' ∙ ew))
        (here (record {
          at = omega arith;
          gives = slot_other g4 (variable w x) whole y (λ is. omega (arith, is, below, le)) ∙ slot_same g3 y v;
          shows = shows_variable w s3 x whole g4 hx shows4;
          kept = kept_join kept4 (kept_variable w t x whole g4 hx) (omega arith) (omega arith);
        }))))))
        (λ given. sets s1 h2.0 (as_copy m.request g2.slots _ kv.1 (ap (λ (p : KeyValues × Plain). p.1) same)) (did_set _ _ _ s1 g2 refl (omega arith) (omega arith) le shows2 kept2))));
  }

step_value : (r : PlainRequest) (f : Slots) (up : Bool) (x : ℕ) → source_value r f (number_source (step_work up) (x ∷ [])) ≡ stepped up (f x)
unfolding source_value worked stepped
step_value r f true x = refl
step_value r f false x = refl

module _ {m : World} {w : Scope} where
  pub does_step : (x : Name) (up before : Bool) → Has w.names x → Does m w ℕ Plain (step_code (variable w x) up before) at_slot (λ s. result_of (stepped up (value_in s.variables x)) s then_do λ new s. Going (if before then new else value_in s.variables x) (with_variable s x new))
  unfolding step_code
  does_step x up true hx = record {
    long = λ p t. refl;
    reads = λ t f g k. k t (omega arith) (omega arith);
    follows = λ p t f s has le shows.
        let value' = step_value m.request f.slots up (variable w x) ∙ ap (stepped up) (shows x hx) in
        result_then (stepped up (value_in s.variables x)) s _ (λ fault e. set_stuck m _ _ _ _ f has.0 (no_value _ fault (value' ∙ e))) (λ new e.
        let below = is_variable w x hx in
        let f1 = set_slot f (variable w x) new in
        let shows1 = shows_variable w s x new f hx shows in
        let kept1 : Kept w t f f1 = kept_variable w t x new f hx in
        after (set_comes m _ _ _ _ f new s.printed has.0 (value' ∙ e))
        (sets (with_variable s x new) has.1.0 (as_copy m.request f1.slots _ new (slot_same f (variable w x) new))
        (did_set t _ new (with_variable s x new) f1 refl (omega arith) (omega arith) le shows1 kept1)));
  }
  does_step x up false hx = record {
    long = λ p t. refl;
    reads = λ t f g k. k t (omega arith) (omega arith);
    follows = λ p t f s has le shows.
        let below = is_variable w x hx in
        let old = value_in s.variables x in
        let f1 = set_slot f t old in
        let shows1 = shows_temporary w s t old f le shows in
        let kept1 : Kept w t f f1 = kept_temporary w t t old f (omega arith) in
        let value' = step_value m.request f1.slots up (variable w x) ∙ ap (stepped up) (shows1 x hx) in
        after (set_comes m _ _ _ _ f old s.printed has.0 (as_copy m.request f.slots _ old (shows x hx)))
        (result_then (stepped up (value_in s.variables x)) s _ (λ fault e. set_stuck m _ _ _ _ f1 has.1.0 (no_value _ fault (value' ∙ e))) (λ new e.
        after (set_comes m _ _ _ _ f1 new s.printed has.1.0 (value' ∙ e))
        (here (record {
          at = omega arith;
          gives = slot_other f1 (variable w x) new t (λ is. omega (arith, is, below, le)) ∙ slot_same f t old;
          shows = shows_variable w s x new f1 hx shows1;
          kept = kept_join kept1 (kept_variable w t x new f1 hx) (omega arith) (omega arith);
        }))));
  }
