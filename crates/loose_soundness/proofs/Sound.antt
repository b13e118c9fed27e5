-- Whatever a run of points prints up to the end of a function lies in the set of what is printed from there.
use Rattle.std.proofs.Common.{inl, inr, ◌≡◌, ℕ, suc, Bool, true, false, if◌then◌else◌, nat_eq, List, [], ◌∷◌, length, Option, Some, None, Ok, refl, sym, subst, ◌∙◌, arith}
use Rattle.std.specs.Prelude.{⊤, All, Contains, slice_get, map, flat_map}
use Rattle.std.proofs.lemmas.Bool.{eqb-true, eq-eqb, false≢true}
use Rattle.std.proofs.lemmas.List.Elements.{All-nil, All-head, All-tail, All-cons, All-contains, Contains-append_left, Contains-append_right}
use Rattle.string_functions.proofs.Members.{Contains-nil, Contains-cons_cases, Contains-head, Contains-later}
use Rattle.plain_values.specs.Plain.{Plain, null, text, array}
use Rattle.plain_values.specs.Text.{text_of, truth}
use Rattle.plain_values.specs.Walks.{value_of_key, walked}
use Rattle.plain_values.specs.Lawful.{IsValue}
use Rattle.script_meaning.specs.Requests.{PlainRequest, Admitted}
use Rattle.flow_code.specs.Points.{PlainKeyRef, int_ref, text_ref, read_ref, PlainSource, literal_source, copy_source, super_source, member_source, array_source, put_source, concat_source, repeat_source, implode_source, explode_source, apply_source, number_source, truth_source, PlainPoint, set_point, call_point, print_point, echo_point, branch_point, jump_point, begin_point, next_point, key_point, value_point, return_point, quit_point, PlainFlowFunction, PlainFlow, point_at, function_at}
use Rattle.flow_code.specs.Lawful.{key_slots, maybe_key_slots, item_slots, source_reads, reads, sets, nexts, IsOwnSlot, IsOwnPoint, SourceFits, IsFlow, IsItemKey, IsSplittingOf}
use Rattle.flow_code.specs.Runs.{Slots, Frame, set_slot, set_walk, source_value, arguments_in, fresh, FlowEnd, returned, exited, RunsFrom, FlatRun, given}
use Rattle.flow_code.specs.Runs as runs
use Rattle.least_sets.specs.Sets.{In}
use Rattle.loose_sets.specs.Reaching.{at_point, at_entry, Reaches}
use Rattle.loose_sets.specs.Keys.{told_keys}
use Rattle.loose_sets.specs.declared.name.Aspect.TheVariants.{Own}
use Rattle.loose_sets.specs.declared.name.Half.TheVariants as half
use Rattle.loose_sets.specs.declared.name.Leaving.{Leaving}
use Rattle.loose_sets.specs.declared.name.Leaving.TheVariants.{Return, Exit}
use Rattle.loose_sets.specs.declared.name.SetName.TheVariants.{Out, Result}
use Rattle.loose_soundness.proofs.Names.{set_of, use_of, shown_at}
use Rattle.loose_sets.specs.Table.{SetsTo}
use Rattle.loose_sets.specs.Functions.{IsArgument}
use Rattle.loose_soundness.proofs.Rows.{PrintsNothing}
use Rattle.loose_soundness.proofs.Rows as rows
use Rattle.loose_sets.specs.Loose.{Loose}
use Rattle.function_laws.proofs.Functions.{exploded_value}
use Rattle.builtin_meaning.specs.declared.builtin.Builtin.{Builtin}
use Rattle.builtin_meaning.specs.declared.builtin.Builtin.TheVariants as builtin
use Rattle.builtin_meaning.specs.Values.{builtin_value}
use Rattle.op_system.specs.declared.op.Op.{Op}
use Rattle.flow_code.specs.Lawful as lawful
use Rattle.function_laws.proofs.Texts.{null_value}
use Rattle.loose_soundness.proofs.Covers.{Covers, covers_wider}
use Rattle.loose_soundness.proofs.Lying.{HasIn, SaysIn, Lies, UseLies, same_in, same_yes}
use Rattle.loose_soundness.proofs.Simple.{literal_lies, copy_lies, super_lies, member_lies}
use Rattle.loose_soundness.proofs.Items as items
use Rattle.loose_soundness.proofs.Keys.{KeyLies}
use Rattle.loose_soundness.proofs.Puts.{put_lies}
use Rattle.loose_soundness.proofs.Texts.{shown_in, concat_lies, repeat_lies, implode_lies, number_lies, truth_lies}
use Rattle.loose_soundness.proofs.Operations.{apply_lies, explode_lies}
use Rattle.loose_soundness.proofs.Places.{function_fits, point_fits}
use Rattle.loose_soundness.proofs.Steps.{FrameHolds, no_walk_lies, read_lies, same_frame, set_frame, walk_frame, moved_frame, begin_lies, rest_begins, key_lies, value_lies}

all_of : {X : Type 0} (P : X → Type 0) (xs : List X) → ((x : X) → Contains xs x → P x) → All P xs
all_of P [] h = All-nil P
all_of P (x ∷ xs) h = All-cons P x xs (h x (Contains-head x xs)) (all_of P xs (λ y i. h y (Contains-later x xs y i)))

in_flat : {X Y : Type 0} (f : X → List Y) (xs : List X) (x : X) (y : Y) → Contains xs x → Contains (f x) y → Contains (flat_map f xs) y
in_flat f [] x y i j = Contains-nil x i
in_flat f (z ∷ xs) x y i j =
    elim (Contains-cons_cases z xs x i) [
      | inl is ↦ Contains-append_left (f z) (flat_map f xs) y (subst (λ x. Contains (f x) y) (sym is) j)
      | inr later ↦ Contains-append_right (f z) (flat_map f xs) y (in_flat f xs x y later j)
    ]

split_value : {flow : PlainFlow} {p : ℕ} (f : Slots) (o : Op) (from : ℕ) (g : Builtin) (args : List ℕ) (u : Plain) → IsSplittingOf o from g args → UseLies flow from p (f from) → builtin_value g (given o (map f args)) ≡ Ok u → IsValue u
unfolding given
split_value f _ _ _ _ u (lawful.piece sep a x) h e = exploded_value (text sep) (f x) u (h.value).parts e
split_value f _ _ _ _ u (lawful.part a x) h e = exploded_value (f a) (f x) u (h.value).parts e

-- the value of a source lies in its sets
module _ (flow : PlainFlow) (r : PlainRequest) (admitted : Admitted r) (p : ℕ) (f : Slots) where
  key_of_slot : (k : Option PlainKeyRef) → ((x : ℕ) → Contains (maybe_key_slots k) x → UseLies flow x p (f x)) → KeyLies flow p f k
  key_of_slot None h = tt
  key_of_slot (Some (int_ref z)) h = tt
  key_of_slot (Some (text_ref t)) h = tt
  key_of_slot (Some (read_ref y)) h = h y (Contains-head y [])

  source_lies : (s : PlainSource) (u : Plain) → SetsTo flow p s → SourceFits s → ((x : ℕ) → Contains (source_reads s) x → UseLies flow x p (f x)) → source_value r f s ≡ Ok u → Lies flow (at_point p) u
  unfolding source_value source_reads
  source_lies (literal_source v) u st fits h e = let is : u ≡ v = cc in subst (Lies flow (at_point p)) (sym is) (literal_lies flow p v st fits)
  source_lies (copy_source x) u st fits h e = let is : u ≡ f x = cc in subst (Lies flow (at_point p)) (sym is) (copy_lies flow p x (f x) st (h x (Contains-head x [])))
  source_lies (super_source name) u st fits h e = let is : u ≡ array _ = cc in subst (Lies flow (at_point p)) (sym is) (super_lies flow p r admitted name st)
  source_lies (member_source x k) u st fits h e = member_lies flow p f x k u st (h x (Contains-head x (key_slots k))) e
  source_lies (array_source its) u st fits h e =
      items.literal_lies flow p f its st u
      (all_of (items.ItemLies flow p f) its (λ item i. record {
        key = key_of_slot item.0 (λ x j. h x (in_flat item_slots its item x i (Contains-append_left (maybe_key_slots item.0) (item.1 ∷ []) x j)));
        literal = All-contains IsItemKey its item fits i;
        value = h item.1 (in_flat item_slots its item item.1 i (Contains-append_right (maybe_key_slots item.0) (item.1 ∷ []) item.1 (Contains-head item.1 [])));
      })) e
  source_lies (put_source x [] v) u st fits h e = absurd (fits.0 refl)
  source_lies (put_source x (k ∷ ks) v) u st fits h e =
      put_lies flow p f x v k ks u st fits.1
      (λ i j. key_of_slot i (λ y m. h y (Contains-later x _ y (Contains-append_left (flat_map maybe_key_slots (k ∷ ks)) (v ∷ []) y (in_flat maybe_key_slots (k ∷ ks) i y j m)))))
      (h x (Contains-head x _)) (h v (Contains-later x _ v (Contains-append_right (flat_map maybe_key_slots (k ∷ ks)) (v ∷ []) v (Contains-head v [])))) e
  source_lies (concat_source xs) u st fits h e = concat_lies flow p f xs u st (all_of (λ x. UseLies flow x p (f x)) xs h) e
  source_lies (repeat_source from g args) u st fits h e =
      let n = fits.1.0 in
      let st' : SetsTo flow p (repeat_source from builtin.StrRepeat (from ∷ n ∷ [])) = subst (λ g. SetsTo flow p (repeat_source from g (from ∷ n ∷ []))) fits.0 (subst (λ args. SetsTo flow p (repeat_source from g args)) fits.1.1 st) in
      let e' : builtin_value builtin.StrRepeat (f from ∷ f n ∷ []) ≡ Ok u = subst (λ g. builtin_value g (f from ∷ f n ∷ []) ≡ Ok u) fits.0 (subst (λ args. builtin_value g (map f args) ≡ Ok u) fits.1.1 e) in
      repeat_lies flow p f from n u st' (h from (Contains-head from args)) e'
  source_lies (implode_source sep from g args) u st fits h e =
      let st' : SetsTo flow p (implode_source sep from builtin.Implode (sep ∷ from ∷ [])) = subst (λ g. SetsTo flow p (implode_source sep from g (sep ∷ from ∷ []))) fits.0 (subst (λ args. SetsTo flow p (implode_source sep from g args)) fits.1 st) in
      let e' : builtin_value builtin.Implode (f sep ∷ f from ∷ []) ≡ Ok u = subst (λ g. builtin_value g (f sep ∷ f from ∷ []) ≡ Ok u) fits.0 (subst (λ args. builtin_value g (map f args) ≡ Ok u) fits.1 e) in
      implode_lies flow p f sep from u st' (h sep (Contains-head sep (from ∷ args))) (h from (Contains-later sep (from ∷ args) from (Contains-head from args))) e'
  source_lies (explode_source o from g args) u st fits h e = explode_lies flow p f o from g args u st fits h (split_value f o from g args u fits (h from (Contains-head from args)) e) e
  source_lies (apply_source o from g args) u st fits h e = apply_lies flow p f o from g args u st fits h e
  source_lies (number_source sign args) u st fits h e = number_lies flow p f sign args u st fits (all_of (λ x. UseLies flow x p (f x)) args h) e
  source_lies (truth_source sign args) u st fits h e = truth_lies flow p f sign args u st fits e

-- the results of a function
pub record ResultLies (flow : PlainFlow) (n : ℕ) (v : Plain) : Type 0 where
  pub covers : Covers (told_keys flow) (λ a w. HasIn flow (Result a n) w) (λ a. SaysIn flow (Result a n)) v
  pub value : IsValue v

abbrev EndLies : PlainFlow → ℕ → FlowEnd → Type 0
EndLies flow n (returned v) = ResultLies flow n v
EndLies flow n exited = ⊤

abbrev pub leaving : FlowEnd → Leaving
leaving (returned v) = Return
leaving exited = Exit

pub record Sound (flow : PlainFlow) (n p : ℕ) (w : List ℕ) (end : FlowEnd) : Type 0 where
  pub printed : HasIn flow (Out p (leaving end)) w
  pub result : EndLies flow n end

-- what a function is entered with
module _ (flow : PlainFlow) (p n x next : ℕ) (args : List ℕ) (g : PlainFlowFunction) (at : point_at flow p ≡ Some (call_point x n args next)) (is : function_at flow n ≡ Some g) (f : Slots) where
  argument_lies : (y arg : ℕ) → IsArgument g.params_of args y arg → UseLies flow arg p (f arg) → Lies flow (at_entry n y) (f arg)
  argument_lies y arg i h = record {
    covers = covers_wider (told_keys flow) _ _ _ _
        (λ a w j. same_in flow (set_of a (at_entry n y)) (use_of a arg p) w (rows.parameter a p x n next y arg args g at is i) j)
        (λ a j. same_yes flow (set_of a (at_entry n y)) (use_of a arg p) (rows.parameter a p x n next y arg args g at is i) j) (f arg) h.covers;
    value = h.value;
  }

  null_lies : (y : ℕ) → IsOwnSlot g y → (Contains g.params_of y → ⊥) → Lies flow (at_entry n y) null
  null_lies y o gone = record { covers = In.text (set_of (Own half.Text) (at_entry n y)) [] (rows.null_slot n y g is o gone); value = null_value }

  entered : (xs ys : List ℕ) (y : ℕ) → IsOwnSlot g y → ((i z a : ℕ) → slice_get xs i ≡ Some z → slice_get ys i ≡ Some a → IsArgument g.params_of args z a) → length ys ≡ length xs → All (λ a. UseLies flow a p (f a)) ys
      → (Contains g.params_of y → Contains xs y) → Lies flow (at_entry n y) (arguments_in xs (map f ys) y)
  unfolding arguments_in
  entered [] ys y o sub len h gone = null_lies y o (λ c. Contains-nil y (gone c))
  entered (z ∷ xs) [] y o sub len h gone = absurd (omega (arith, len))
  entered (z ∷ xs) (a ∷ ys) y o sub len h gone =
      by (nat_eq y z) refl (λ no'. entered xs ys y o (λ i u b j k. sub (suc i) u b j k) (omega (arith, len)) (All-tail (λ a. UseLies flow a p (f a)) a ys h) no')
    where
      by : (b : Bool) → nat_eq y z ≡ b → ((Contains g.params_of y → Contains xs y) → Lies flow (at_entry n y) (arguments_in xs (map f ys) y)) → Lies flow (at_entry n y) (if b then f a else arguments_in xs (map f ys) y)
      by true e rest = argument_lies y a (subst (λ y. IsArgument g.params_of args y a) (sym (eqb-true y z e)) (sub 0 z a refl refl)) (All-head (λ a. UseLies flow a p (f a)) a ys h)
      by false e rest = rest (λ c. elim (Contains-cons_cases z xs y (gone c)) [
        | inl same ↦ let bad : nat_eq y z ≡ true = eq-eqb y z (sym same) in absurd (false≢true (sym e ∙ bad))
        | inr later ↦ later
      ])

  pub entry_frame : length args ≡ length g.params_of → All (λ a. UseLies flow a p (f a)) args → FrameHolds flow g g.entry_of (fresh (arguments_in g.params_of (map f args)))
  unfolding fresh
  entry_frame len h y o = record {
    definition = at_entry n y;
    reaches = Reaches.entered n y g is o;
    lies = entered g.params_of args y o (λ i z a j k. (i, j, k)) len h (λ c. c);
    walk = no_walk_lies flow (at_entry n y);
  }

-- the result of a call lies in the sets of the call
call_lies : (flow : PlainFlow) (p x n next : ℕ) (args : List ℕ) (v : Plain) → point_at flow p ≡ Some (call_point x n args next) → ResultLies flow n v → Lies flow (at_point p) v
call_lies flow p x n next args v at h = record {
  covers = covers_wider (told_keys flow) _ _ _ _
      (λ a w i. same_in flow (set_of a (at_point p)) (Result a n) w (rows.result a p x n next args at) i)
      (λ a i. same_yes flow (set_of a (at_point p)) (Result a n) (rows.result a p x n next args at) i) v h.covers;
  value = h.value;
}

-- what is returned lies in the results of the function
return_lies : (flow : PlainFlow) (n p x : ℕ) (g : PlainFlowFunction) (v : Plain) → function_at flow n ≡ Some g → IsOwnPoint g p → point_at flow p ≡ Some (return_point x) → UseLies flow x p v → ResultLies flow n v
return_lies flow n p x g v is o at h = record {
  covers = covers_wider (told_keys flow) _ _ _ _
      (λ a w i. same_in flow (Result a n) (use_of a x p) w (rows.returned a n p x g is o at) i)
      (λ a i. same_yes flow (Result a n) (use_of a x p) (rows.returned a n p x g is o at) i) v h.covers;
  value = h.value;
}

either_way : (a b : ℕ) (t : Bool) → Contains (a ∷ b ∷ []) (if t then a else b)
either_way a b true = Contains-head a (b ∷ [])
either_way a b false = Contains-later a (b ∷ []) b (Contains-head b [])

some_same : {A : Type 0} {o : Option A} {x y : A} → o ≡ Some x → o ≡ Some y → x ≡ y
some_same h e = cc

module _ (flow : PlainFlow) (r : PlainRequest) (lawful' : IsFlow flow) (admitted : Admitted r) where
  -- a point that prints nothing
  silent : (n p q : ℕ) (i : PlainPoint) (w : List ℕ) (end : FlowEnd) → point_at flow p ≡ Some i → PrintsNothing i → Contains (nexts i) q → Sound flow n q w end → Sound flow n p w end
  silent n p q i w end at no' goes h = record { printed = same_in flow (Out p (leaving end)) (Out q (leaving end)) w (rows.at_silent p q i (leaving end) at no' goes) h.printed; result = h.result }

  pub sound : (room p : ℕ) (f : Frame) (w : List ℕ) (end : FlowEnd) → RunsFrom flow r room p f w end → (n : ℕ) (g : PlainFlowFunction) → function_at flow n ≡ Some g → IsOwnPoint g p → FrameHolds flow g p f → Sound flow n p w end
  unfolding reads sets nexts
  sound _ _ _ _ _ (runs.set room p x next s f v w end at e rest) n g is o h =
      let i = set_point x s next in
      let fit = point_fits flow n p g i lawful' is o at in
      let lies = source_lies flow r admitted p f.slots s v (x, next, at) fit.parts (read_lies flow g p f (source_reads s) h fit.reads_own) e in
      let goes = Contains-head next [] in
      silent n p next i w end at tt goes (sound room next (set_slot f x v) w end rest n g is (All-contains (IsOwnPoint g) (next ∷ []) next fit.stays goes) (set_frame flow g p next i at goes f x v refl lies h))
  sound _ _ _ _ _ (runs.call room p x k next args g' f v u w end at is' inner rest) n g is o h =
      let i = call_point x k args next in
      let fit = point_fits flow n p g i lawful' is o at in
      let goes = Contains-head next [] in
      let same : fit.parts.0 ≡ g' = some_same (fit.parts.1) is' in
      let len : length args ≡ length g'.params_of = subst (λ g'. length args ≡ length g'.params_of) same fit.parts.2 in
      let known = all_of (λ a. UseLies flow a p (f.slots a)) args (read_lies flow g p f args h fit.reads_own) in
      let whole = sound room g'.entry_of (fresh (arguments_in g'.params_of (map f.slots args))) u (returned v) inner k g' is' (function_fits flow k g' lawful' is').entry (entry_frame flow p k x next args g' at is' f.slots len known) in
      let after = sound (suc room) next (set_slot f x v) w end rest n g is (All-contains (IsOwnPoint g) (next ∷ []) next fit.stays goes)
      (set_frame flow g p next i at goes f x v refl (call_lies flow p x k next args v at whole.result) h) in
      record {
        printed = In.join (Out p (leaving end)) (Out g'.entry_of Return) (Out next (leaving end)) u w (rows.at_call p x k next args g' (leaving end) at is') whole.printed after.printed;
        result = after.result;
      }
  sound _ _ _ _ _ (runs.call_exits room p x k next args g' f w at is' inner) n g is o h =
      let i = call_point x k args next in
      let fit = point_fits flow n p g i lawful' is o at in
      let same : fit.parts.0 ≡ g' = some_same (fit.parts.1) is' in
      let len : length args ≡ length g'.params_of = subst (λ g'. length args ≡ length g'.params_of) same fit.parts.2 in
      let known = all_of (λ a. UseLies flow a p (f.slots a)) args (read_lies flow g p f args h fit.reads_own) in
      let whole = sound room g'.entry_of (fresh (arguments_in g'.params_of (map f.slots args))) w exited inner k g' is' (function_fits flow k g' lawful' is').entry (entry_frame flow p k x next args g' at is' f.slots len known) in
      record { printed = same_in flow (Out p Exit) (Out g'.entry_of Exit) w (rows.at_call_exit p x k next args g' at is') whole.printed; result = tt }
  sound _ _ _ _ _ (runs.print room p next bytes f w end at rest) n g is o h =
      let i = print_point bytes next in
      let fit = point_fits flow n p g i lawful' is o at in
      let goes = Contains-head next [] in
      let after = sound room next f w end rest n g is (All-contains (IsOwnPoint g) (next ∷ []) next fit.stays goes) (same_frame flow g p next i at goes f refl h) in
      record { printed = In.before (Out p (leaving end)) (Out next (leaving end)) bytes w (rows.at_print p next bytes (leaving end) at) after.printed; result = after.result }
  sound _ _ _ _ _ (runs.echo room p x next f w end at rest) n g is o h =
      let i = echo_point x next in
      let fit = point_fits flow n p g i lawful' is o at in
      let goes = Contains-head next [] in
      let after = sound room next f w end rest n g is (All-contains (IsOwnPoint g) (next ∷ []) next fit.stays goes) (same_frame flow g p next i at goes f refl h) in
      record {
        printed = In.join (Out p (leaving end)) (shown_at x p) (Out next (leaving end)) (text_of (f.slots x)) w (rows.at_echo p x next (leaving end) at)
            (shown_in flow x p (f.slots x) (read_lies flow g p f (x ∷ []) h fit.reads_own x (Contains-head x []))) after.printed;
        result = after.result;
      }
  sound _ _ _ _ _ (runs.branch room p x a b f w end at rest) n g is o h =
      let i = branch_point x a b in
      let q = if truth (f.slots x) then a else b in
      let fit = point_fits flow n p g i lawful' is o at in
      let goes = either_way a b (truth (f.slots x)) in
      silent n p q i w end at tt goes (sound room q f w end rest n g is (All-contains (IsOwnPoint g) (a ∷ b ∷ []) q fit.stays goes) (same_frame flow g p q i at goes f refl h))
  sound _ _ _ _ _ (runs.jump room p next f w end at rest) n g is o h =
      let i = jump_point next in
      let fit = point_fits flow n p g i lawful' is o at in
      let goes = Contains-head next [] in
      silent n p next i w end at tt goes (sound room next f w end rest n g is (All-contains (IsOwnPoint g) (next ∷ []) next fit.stays goes) (same_frame flow g p next i at goes f refl h))
  sound _ _ _ _ _ (runs.each_begin room p x from next f w end at rest) n g is o h =
      let i = begin_point x from next in
      let fit = point_fits flow n p g i lawful' is o at in
      let goes = Contains-head next [] in
      let lies = begin_lies flow p x from next (f.slots from) at (read_lies flow g p f (from ∷ []) h fit.reads_own from (Contains-head from [])) in
      silent n p next i w end at tt goes
      (sound room next (set_walk (set_slot f x (f.slots from)) x (record { now = None; rest = walked (f.slots from) })) w end rest n g is (All-contains (IsOwnPoint g) (next ∷ []) next fit.stays goes)
      (walk_frame flow g p next i at goes f x (f.slots from) (record { now = None; rest = walked (f.slots from) }) refl lies (record { now = λ k v e. cc; rest = rest_begins flow (at_point p) (f.slots from) lies }) h))
  sound _ _ _ _ _ (runs.each_more room p x more done k v left f w end at e rest) n g is o h =
      let i = next_point x more done in
      let fit = point_fits flow n p g i lawful' is o at in
      let goes = Contains-head more (done ∷ []) in
      silent n p more i w end at tt goes
      (sound room more (set_walk f x (record { now = Some (k, v); rest = left })) w end rest n g is (All-contains (IsOwnPoint g) (more ∷ done ∷ []) more fit.stays goes) (moved_frame flow g p more i at goes f x k v left refl e h))
  sound _ _ _ _ _ (runs.each_done room p x more done f w end at e rest) n g is o h =
      let i = next_point x more done in
      let fit = point_fits flow n p g i lawful' is o at in
      let goes = Contains-later more (done ∷ []) done (Contains-head done []) in
      silent n p done i w end at tt goes (sound room done f w end rest n g is (All-contains (IsOwnPoint g) (more ∷ done ∷ []) done fit.stays goes) (same_frame flow g p done i at goes f refl h))
  sound _ _ _ _ _ (runs.key_of room p x from next k v f w end at now rest) n g is o h =
      let i = key_point x from next in
      let fit = point_fits flow n p g i lawful' is o at in
      let goes = Contains-head next [] in
      let slot = h from (All-contains (IsOwnSlot g) (from ∷ []) from fit.reads_own (Contains-head from [])) in
      let lies = key_lies flow p x from next k v slot.definition slot.reaches (slot.walk.now k v now) at in
      silent n p next i w end at tt goes (sound room next (set_slot f x (value_of_key k)) w end rest n g is (All-contains (IsOwnPoint g) (next ∷ []) next fit.stays goes) (set_frame flow g p next i at goes f x (value_of_key k) refl lies h))
  sound _ _ _ _ _ (runs.value_of room p x from next k v f w end at now rest) n g is o h =
      let i = value_point x from next in
      let fit = point_fits flow n p g i lawful' is o at in
      let goes = Contains-head next [] in
      let slot = h from (All-contains (IsOwnSlot g) (from ∷ []) from fit.reads_own (Contains-head from [])) in
      let lies = value_lies flow p x from next k v slot.definition slot.reaches (slot.walk.now k v now) at in
      silent n p next i w end at tt goes (sound room next (set_slot f x v) w end rest n g is (All-contains (IsOwnPoint g) (next ∷ []) next fit.stays goes) (set_frame flow g p next i at goes f x v refl lies h))
  sound _ _ _ _ _ (runs.return room p x f at) n g is o h =
      let fit = point_fits flow n p g (return_point x) lawful' is o at in
      record {
        printed = In.text (Out p Return) [] (rows.at_return p x at);
        result = return_lies flow n p x g (f.slots x) is o at (read_lies flow g p f (x ∷ []) h fit.reads_own x (Contains-head x []));
      }
  sound _ _ _ _ _ (runs.quit room p f at) n g is o h = record { printed = In.text (Out p Exit) [] (rows.at_quit p at); result = tt }
  sound _ _ _ _ _ (runs.quit_with room p x f t at e) n g is o h =
      let fit = point_fits flow n p g (quit_point (Some x)) lawful' is o at in
      let lies : UseLies flow x p (text t) = subst (UseLies flow x p) e (read_lies flow g p f (x ∷ []) h fit.reads_own x (Contains-head x [])) in
      record { printed = same_in flow (Out p Exit) (use_of (Own half.Text) x p) t (rows.at_quit_with p x at) lies.covers; result = tt }

-- a run of the whole program
pub ended_runs : (flow : PlainFlow) (r : PlainRequest) (printed : List ℕ) → IsFlow flow → Admitted r → FlatRun flow r printed → Loose flow printed
unfolding fresh
ended_runs flow r printed h admitted run =
    let fits = function_fits flow 0 run.main h run.is_main in
    let whole = sound flow r h admitted 256 run.main.entry_of (fresh (λ x. null)) printed run.end run.runs 0 run.main run.is_main fits.entry (λ x o. record {
      definition = at_entry 0 x;
      reaches = Reaches.entered 0 x run.main run.is_main o;
      lies = record { covers = In.text (set_of (Own half.Text) (at_entry 0 x)) [] (rows.null_slot 0 x run.main run.is_main o (no_params flow run.main h run.is_main x)); value = null_value };
      walk = no_walk_lies flow (at_entry 0 x);
    }) in
    record { main = run.main; is_main = run.is_main; end = leaving run.end; printed = whole.printed }
  where
    no_params : (flow : PlainFlow) (g : PlainFlowFunction) → IsFlow flow → function_at flow 0 ≡ Some g → (x : ℕ) → Contains g.params_of x → ⊥
    no_params flow g h e x c =
        let same : h.main ≡ g = some_same h.is_main e in
        let none : g.params_of ≡ [] = subst (λ g. g.params_of ≡ []) same h.no_params in
        Contains-nil x (subst (λ ps. Contains ps x) none c)
