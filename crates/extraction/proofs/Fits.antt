-- How many forms the list of a set has, and how many bytes stand in them.
use Rattle.std.proofs.Common.{◌≡◌, ◌≤◌, ◌+◌, ◌*◌, ℕ, suc, Bool, true, false, List, [], ◌∷◌, ◌++◌, Option, Some, None, refl, subst, arith, slice_get, length, map}
use Rattle.std.specs.Prelude.{flat_map, codes, nat_eq, not}
use Rattle.std.specs.List.{sum_by}
use Rattle.std.proofs.lemmas.List.{length-append}
use Rattle.std.proofs.lemmas.List.Sums.{sum_by-cons, sum_by-append}
use Rattle.plain_values.specs.Plain.{PlainKey}
use Rattle.op_system.specs.declared.op.Op.{Op}
use Rattle.op_system.specs.declared.op.Op.TheVariants as op
use Rattle.flow_code.specs.Points.{PlainKeyRef, int_ref, text_ref, read_ref, PlainSource, literal_source, copy_source, super_source, member_source, array_source, put_source, concat_source, repeat_source, implode_source, explode_source, apply_source, number_source, truth_source, PlainPoint, set_point, call_point, print_point, echo_point, branch_point, jump_point, begin_point, next_point, key_point, value_point, return_point, quit_point, PlainFlowFunction}
use Rattle.flow_code.specs.Lawful.{nexts}
use Rattle.least_sets.specs.Forms.{Form, text_form, same_form, join_form, integer_form}
use Rattle.plain_values.specs.Text.{text_of}
use Rattle.system_writing.specs.Forms.{text_bytes}
use Rattle.extraction.specs.Numbered.{bytes_of}
use Rattle.loose_sets.specs.declared.name.Half.{Half}
use Rattle.loose_sets.specs.declared.name.Half.TheVariants.{Text, Array}
use Rattle.loose_sets.specs.declared.name.Aspect.{Aspect}
use Rattle.loose_sets.specs.declared.name.Aspect.TheVariants.{Own, Member, Others, Keys}
use Rattle.loose_sets.specs.declared.name.SetVersion.{SetVersion}
use Rattle.loose_sets.specs.declared.name.Leaving.{Leaving}
use Rattle.loose_sets.specs.declared.name.Leaving.TheVariants.{Return, Exit}
use Rattle.loose_sets.specs.declared.name.SetName.{SetName}
use Rattle.loose_sets.specs.declared.name.SetName.TheVariants.{Value, Output, Joined, Out}
use Rattle.loose_sets.specs.Uses.{At, used, all_used, where_so, may_be_at}
use Rattle.loose_sets.specs.Arrays.{Forms, array_own, null_own, member_forms, key_forms, item_under, item_elsewhere, item_keys, array_forms, is_exactly_at, put_under, put_elsewhere, deep_under, deep_elsewhere, put_keys, put_forms}
use Rattle.loose_sets.specs.Sources.{is_own_text, texts_alone, copies, pieces, request_own, super_forms, output_own, explode_forms, source_forms}
use Rattle.loose_sets.specs.Points.{value_forms, walk_forms, source_at, joined_slots, replaced_by, operation_of, input_used, input_forms, output_forms, joined_from_place, joined_forms, piece_forms, further_forms, any_further_forms}
use Rattle.loose_sets.specs.Printed.{on_return, on_exit, quit_form, call_forms, out_forms}
use Rattle.loose_sets.specs.Members.{told_members, members_forms, shown_forms, link_form, link_forms}
use Rattle.loose_sets.specs.Functions.{used_pair, used_pairs, entry_forms}
use Rattle.extraction.specs.Sizes.{key_bytes, item_bytes, source_bytes, point_bytes, source_parts, point_parts}
use Rattle.extraction.proofs.Sums.{sum_none}
use Rattle.extraction.proofs.Universe.{joined_count}

-- at most so many forms, with so many bytes
abbrev pub Fits : ℕ → ℕ → Forms → Type 0
Fits l d forms = (length forms ≤ l) × (bytes_of forms ≤ d)

fits_append : (l d m e : ℕ) (xs ys : Forms) → Fits l d xs → Fits m e ys → Fits (l + m) (d + e) (xs ++ ys)
fits_append l d m e xs ys h k = (let a = length-append xs ys in omega (arith, a, h.0, k.0), let a = sum_by-append (λ (f : Form SetName). text_bytes f) xs ys in omega (arith, a, h.1, k.1))

fits_cons : (l d e : ℕ) (f : Form SetName) (xs : Forms) → text_bytes f ≤ e → Fits l d xs → Fits (suc l) (d + e) (f ∷ xs)
fits_cons l d e f xs b h = (omega (arith, h.0), let a = sum_by-cons (λ (f : Form SetName). text_bytes f) f xs in omega (arith, a, b, h.1))

fits_where : (l d : ℕ) (b : Bool) (xs : Forms) → Fits l d xs → Fits l d (where_so b xs)
unfolding where_so
fits_where l d true xs h = h
fits_where l d false xs h = (omega arith, omega arith)

-- so many forms for each member, with bytes by each, and so many more
fits_flat : {A : Type 0} (l e : ℕ) (d : A → ℕ) (f : A → Forms) (xs : List A) → ((x : A) → Fits l (d x + e) (f x)) → Fits (l * length xs) (sum_by d xs + e * length xs) (flat_map f xs)
fits_flat l e d f [] h = (omega arith, omega arith)
fits_flat l e d f (x ∷ xs) h =
    let a = fits_append l (d x + e) (l * length xs) (sum_by d xs + e * length xs) (f x) (flat_map f xs) (h x) (fits_flat l e d f xs h) in
    let b = sum_by-cons d x xs in
    (more_length l (length xs) _ a.0, more_bytes (d x) e (sum_by d xs) (length xs) _ _ b a.1)
  where
    more_length : (l n k : ℕ) → k ≤ l + l * n → k ≤ l * suc n
    more_length l n k h = let a = times l n in omega arith
      where
        times : (l n : ℕ) → l * suc n ≡ l + l * n
        times l n = grind arith

    more_bytes : (d e s n all k : ℕ) → all ≡ d + s → k ≤ (d + e) + (s + e * n) → k ≤ all + e * suc n
    more_bytes d e s n all k a h = let b = times e n in omega arith
      where
        times : (l n : ℕ) → l * suc n ≡ l + l * n
        times l n = grind arith

-- one form for each member, without bytes
fits_map : {A : Type 0} (f : A → Form SetName) (xs : List A) → ((x : A) → text_bytes (f x) ≡ 0) → Fits (length xs) 0 (map f xs)
fits_map f [] none = (omega arith, omega arith)
fits_map f (x ∷ xs) none =
    let a = fits_map f xs none in
    let b = sum_by-cons (λ (f : Form SetName). text_bytes f) (f x) (map f xs) in
    let c = none x in
    (omega (arith, a.0), omega (arith, a.1, b, c))

-- arrays
own_fits : (h : Half) → Fits 1 0 (array_own h)
unfolding array_own
own_fits Text = (omega arith, omega arith)
own_fits Array = (omega arith, omega arith)

member_fits : (told : List PlainKey) (at : At) (p x : ℕ) (k : PlainKeyRef) (b : Aspect) → Fits 2 0 (member_forms told at p x k b)
unfolding member_forms null_own
member_fits told at p x k (Own Text) = (omega arith, omega arith)
member_fits told at p x k (Own Array) = (omega arith, omega arith)
member_fits told at p x k (Member i h) = (omega arith, omega arith)
member_fits told at p x k (Others h) = (omega arith, omega arith)
member_fits told at p x k Keys = (omega arith, omega arith)

key_fits : (at : At) (p : ℕ) (k : Option PlainKeyRef) → Fits 2 (key_bytes k + 1) (key_forms at p k)
unfolding key_forms key_bytes
key_fits at p (Some (int_ref z)) = (omega arith, omega arith)
key_fits at p (Some (text_ref t)) = (omega arith, omega arith)
key_fits at p (Some (read_ref x)) = (omega arith, omega arith)
key_fits at p None = (omega arith, omega arith)

under_fits : (told : List PlainKey) (at : At) (p i : ℕ) (h : Half) (item : Option PlainKeyRef × ℕ) → Fits 1 0 (item_under told at p i h item)
unfolding item_under
under_fits told at p i h item = fits_where 1 0 _ (used at p (Own h) item.1 ∷ []) (omega arith, omega arith)

elsewhere_fits : (told : List PlainKey) (at : At) (p : ℕ) (h : Half) (item : Option PlainKeyRef × ℕ) → Fits 2 0 (item_elsewhere told at p h item)
unfolding item_elsewhere
elsewhere_fits told at p h item = fits_append 1 0 1 0 _ (all_used at p h item.1 ∷ []) (fits_where 1 0 _ (used at p (Own h) item.1 ∷ []) (omega arith, omega arith)) (omega arith, omega arith)

item_keys_fits : (at : At) (p : ℕ) (item : Option PlainKeyRef × ℕ) → Fits 3 (item_bytes item + 1) (item_keys at p item)
unfolding item_keys
item_keys_fits at p item = let w = fits_cons 2 (key_bytes item.0 + 1) 0 (used at p Keys item.1) (key_forms at p item.0) (omega arith) (key_fits at p item.0) in (omega (arith, w.0), omega (arith, w.1))

array_fits : (told : List PlainKey) (at : At) (p : ℕ) (items : List (Option PlainKeyRef × ℕ)) (b : Aspect) → Fits (4 + 3 * length items) (1 + length items + sum_by item_bytes items) (array_forms told at p items b)
unfolding array_forms
array_fits told at p items (Own h) = (let w = own_fits h in omega (arith, w.0), let w = own_fits h in omega (arith, w.1))
array_fits told at p items (Member i h) =
    let w = fits_flat 1 0 (λ (z : Option PlainKeyRef × ℕ). 0) (item_under told at p i h) items (under_fits told at p i h) in
    let n = sum_none (λ (z : Option PlainKeyRef × ℕ). 0) items (λ z. refl) in
    (omega (arith, w.0), omega (arith, w.1, n))
array_fits told at p items (Others h) =
    let w = fits_flat 2 0 (λ (z : Option PlainKeyRef × ℕ). 0) (item_elsewhere told at p h) items (elsewhere_fits told at p h) in
    let n = sum_none (λ (z : Option PlainKeyRef × ℕ). 0) items (λ z. refl) in
    (omega (arith, w.0), omega (arith, w.1, n))
array_fits told at p items Keys = let w = fits_flat 3 1 item_bytes (item_keys at p) items (item_keys_fits at p) in (omega (arith, w.0), omega (arith, w.1))

-- writes
put_under_fits : (told : List PlainKey) (at : At) (p x : ℕ) (k : Option PlainKeyRef) (v i : ℕ) (h : Half) → Fits 2 0 (put_under told at p x k v i h)
unfolding put_under
put_under_fits told at p x k v i h =
    let kept = not (is_exactly_at told k i) in
    let may = may_be_at told k i in
    fits_append 1 0 1 0 (where_so kept (used at p (Member i h) x ∷ [])) (where_so may (used at p (Own h) v ∷ [])) (fits_where 1 0 kept (used at p (Member i h) x ∷ []) (omega arith, omega arith))
    (fits_where 1 0 may (used at p (Own h) v ∷ []) (omega arith, omega arith))

put_elsewhere_fits : (told : List PlainKey) (at : At) (p x : ℕ) (k : Option PlainKeyRef) (v : ℕ) (h : Half) → Fits 3 0 (put_elsewhere told at p x k v h)
unfolding put_elsewhere
put_elsewhere_fits told at p x k v h = fits_append 2 0 1 0 (used at p (Others h) x ∷ all_used at p h v ∷ []) _ (omega arith, omega arith) (fits_where 1 0 _ (used at p (Own h) v ∷ []) (omega arith, omega arith))

deep_under_fits : (told : List PlainKey) (at : At) (p x : ℕ) (k : Option PlainKeyRef) (i : ℕ) (h : Half) → Fits 2 0 (deep_under told at p x k i h)
unfolding deep_under
deep_under_fits told at p x k i h = fits_append 1 0 1 0 (used at p (Member i h) x ∷ []) _ (omega arith, omega arith) (fits_where 1 0 _ (array_own h) (own_fits h))

deep_elsewhere_fits : (at : At) (p x v : ℕ) (h : Half) → Fits 4 0 (deep_elsewhere at p x v h)
unfolding deep_elsewhere
deep_elsewhere_fits at p x v h = fits_append 3 0 1 0 (used at p (Others h) x ∷ all_used at p h v ∷ used at p (Own h) v ∷ []) (array_own h) (omega arith, omega arith) (own_fits h)

put_keys_fits : (at : At) (p x : ℕ) (path : List (Option PlainKeyRef)) (v : ℕ) → Fits (4 + 3 * length path) (1 + length path + sum_by key_bytes path) (put_keys at p x path v)
unfolding put_keys
put_keys_fits at p x path v =
    let w = fits_append 2 0 (2 * length path) (sum_by key_bytes path + 1 * length path) (used at p Keys x ∷ used at p Keys v ∷ []) (flat_map (key_forms at p) path) (omega arith, omega arith) (fits_flat 2 1 key_bytes (key_forms at p) path (key_fits at p)) in
    (omega (arith, w.0), omega (arith, w.1))

put_fits : (told : List PlainKey) (at : At) (p x : ℕ) (path : List (Option PlainKeyRef)) (v : ℕ) (b : Aspect) → Fits (4 + 3 * length path) (1 + length path + sum_by key_bytes path) (put_forms told at p x path v b)
unfolding put_forms
put_fits told at p x [] v b = (omega arith, omega arith)
put_fits told at p x (k ∷ ks) v (Own h) = (let w = own_fits h in omega (arith, w.0), let w = own_fits h in omega (arith, w.1))
put_fits told at p x (k ∷ []) v (Member i h) = (let w = put_under_fits told at p x k v i h in omega (arith, w.0), let w = put_under_fits told at p x k v i h in omega (arith, w.1))
put_fits told at p x (k ∷ j ∷ ks) v (Member i h) = (let w = deep_under_fits told at p x k i h in omega (arith, w.0), let w = deep_under_fits told at p x k i h in omega (arith, w.1))
put_fits told at p x (k ∷ []) v (Others h) = (let w = put_elsewhere_fits told at p x k v h in omega (arith, w.0), let w = put_elsewhere_fits told at p x k v h in omega (arith, w.1))
put_fits told at p x (k ∷ j ∷ ks) v (Others h) = (let w = deep_elsewhere_fits at p x v h in omega (arith, w.0), let w = deep_elsewhere_fits at p x v h in omega (arith, w.1))
put_fits told at p x (k ∷ ks) v Keys = put_keys_fits at p x (k ∷ ks) v

-- sources
request_fits : (b : Aspect) → Fits 1 0 (super_forms b)
unfolding super_forms array_own request_own
request_fits (Own Text) = (omega arith, omega arith)
request_fits (Own Array) = (omega arith, omega arith)
request_fits (Member i Text) = (omega arith, omega arith)
request_fits (Member i Array) = (omega arith, omega arith)
request_fits (Others Text) = (omega arith, omega arith)
request_fits (Others Array) = (omega arith, omega arith)
request_fits Keys = (omega arith, omega arith)

output_own_fits : (p : ℕ) (h : Half) → Fits 1 0 (output_own p h)
unfolding output_own
output_own_fits p Text = (omega arith, omega arith)
output_own_fits p Array = (omega arith, omega arith)

explode_fits : (told : List PlainKey) (p : ℕ) (b : Aspect) → Fits 1 0 (explode_forms told p b)
unfolding explode_forms
explode_fits told p (Own h) = own_fits h
explode_fits told p (Member i h) = fits_where 1 0 _ (output_own p h) (output_own_fits p h)
explode_fits told p (Others h) = output_own_fits p h
explode_fits told p Keys = (omega arith, omega arith)

alone_fits : (l d : ℕ) (forms : Forms) (b : Aspect) → Fits l d forms → Fits l d (texts_alone forms b)
alone_fits l d forms b h = fits_where l d (is_own_text b) forms h

pub source_fits : (told : List PlainKey) (at : At) (p : ℕ) (s : PlainSource) (b : Aspect) → Fits (4 + 3 * source_parts s) (1 + source_parts s + source_bytes s) (source_forms told at p s b)
unfolding source_forms source_parts source_bytes
source_fits told at p (literal_source v) b = let w = alone_fits 1 (length (text_of v)) (text_form (text_of v) ∷ []) b (omega arith, omega arith) in (omega (arith, w.0), omega (arith, w.1))
source_fits told at p (copy_source x) b = (omega arith, omega arith)
source_fits told at p (super_source s) b = (let w = request_fits b in omega (arith, w.0), let w = request_fits b in omega (arith, w.1))
source_fits told at p (member_source x k) b = (let w = member_fits told at p x k b in omega (arith, w.0), let w = member_fits told at p x k b in omega (arith, w.1))
source_fits told at p (array_source items) b = array_fits told at p items b
source_fits told at p (put_source x path v) b = put_fits told at p x path v b
source_fits told at p (concat_source xs) b = let w = alone_fits 1 0 (same_form (Joined p 0) ∷ []) b (omega arith, omega arith) in (omega (arith, w.0), omega (arith, w.1))
source_fits told at p (repeat_source from f args) b = let w = alone_fits 2 0 (copies at p from) b (omega arith, omega arith) in (omega (arith, w.0), omega (arith, w.1))
source_fits told at p (implode_source sep from f args) b = let w = alone_fits 2 0 (pieces p) b (omega arith, omega arith) in (omega (arith, w.0), omega (arith, w.1))
source_fits told at p (explode_source operation from f args) b = (let w = explode_fits told p b in omega (arith, w.0), let w = explode_fits told p b in omega (arith, w.1))
source_fits told at p (apply_source operation from f args) b = let w = alone_fits 1 0 (same_form (Output p) ∷ []) b (omega arith, omega arith) in (omega (arith, w.0), omega (arith, w.1))
source_fits told at p (number_source work args) b = let w = alone_fits 1 0 (integer_form ∷ []) b (omega arith, omega arith) in (omega (arith, w.0), omega (arith, w.1))
source_fits told at p (truth_source work args) b = let w = alone_fits 2 1 (text_form (codes "1") ∷ text_form [] ∷ []) b (omega arith, omega arith) in (omega (arith, w.0), omega (arith, w.1))

walk_fits : (at : At) (p from : ℕ) (b : Aspect) → Fits 1 0 (walk_forms at p from b)
unfolding walk_forms
walk_fits at p from (Own h) = (omega arith, omega arith)
walk_fits at p from (Member i h) = (omega arith, omega arith)
walk_fits at p from (Others h) = (omega arith, omega arith)
walk_fits at p from Keys = (omega arith, omega arith)

pub value_fits : (told : List PlainKey) (at : At) (p : ℕ) (k : PlainPoint) (b : Aspect) → Fits (4 + 3 * point_parts k) (1 + point_parts k + point_bytes k) (value_forms told at p k b)
unfolding value_forms point_parts point_bytes
value_fits told at p (set_point x source next) b = source_fits told at p source b
value_fits told at p (call_point x n args next) b = (omega arith, omega arith)
value_fits told at p (print_point bytes next) b = (omega arith, omega arith)
value_fits told at p (echo_point x next) b = (omega arith, omega arith)
value_fits told at p (branch_point x y z) b = (omega arith, omega arith)
value_fits told at p (jump_point next) b = (omega arith, omega arith)
value_fits told at p (begin_point x from next) b = (omega arith, omega arith)
value_fits told at p (next_point x more done) b = (omega arith, omega arith)
value_fits told at p (key_point x from next) b = let w = alone_fits 1 0 (used at p Keys from ∷ []) b (omega arith, omega arith) in (omega (arith, w.0), omega (arith, w.1))
value_fits told at p (value_point x from next) b = (let w = walk_fits at p from b in omega (arith, w.0), let w = walk_fits at p from b in omega (arith, w.1))
value_fits told at p (return_point x) b = (omega arith, omega arith)
value_fits told at p (quit_point x) b = (omega arith, omega arith)

-- the work of a point
replaced_few : (operation : Op) (args : List ℕ) → length (replaced_by operation args) ≤ 1
unfolding replaced_by
replaced_few op.Any (a ∷ b ∷ c ∷ []) = omega arith
replaced_few _ _ = omega arith

work_few : (s : Option PlainSource) (work : Op × List ℕ) → operation_of s ≡ Some work → length work.1 ≤ 2
unfolding operation_of
work_few (Some (apply_source operation from f args)) work e =
    let same : (operation, from ∷ replaced_by operation args) ≡ work = cc in
    subst (λ (w : Op × List ℕ). length w.1 ≤ 2) same (let a = replaced_few operation args in omega arith)
work_few (Some (explode_source operation from f args)) work e =
    let same : (operation, from ∷ []) ≡ work = cc in
    subst (λ (w : Op × List ℕ). length w.1 ≤ 2) same (omega arith)
work_few _ work e = absurd (cc)

pub input_fits : (at : At) (p : ℕ) (s : Option PlainSource) → Fits 2 0 (input_forms at p (operation_of s))
unfolding input_forms
input_fits at p s = by (operation_of s) refl
  where
    by : (o : Option (Op × List ℕ)) → operation_of s ≡ o → Fits 2 0 (input_forms at p o)
    by None e = (omega arith, omega arith)
    by (Some work) e = let w = fits_map (input_used at p) work.1 (λ x. refl) in let few = work_few s work e in (omega (arith, w.0, few), w.1)

pub output_fits : (p : ℕ) (o : Option (Op × List ℕ)) → Fits 1 0 (output_forms p o)
unfolding output_forms
output_fits p None = (omega arith, omega arith)
output_fits p (Some work) = (omega arith, omega arith)

pub joined_fits : (at : At) (p : ℕ) (o : Option (List ℕ)) (i : ℕ) → Fits 1 0 (joined_forms at p o i)
unfolding joined_forms
joined_fits at p None i = (omega arith, omega arith)
joined_fits at p (Some xs) i = by (slice_get xs i)
  where
    by : (o : Option ℕ) → Fits 1 0 (joined_from_place at p i (length xs) o)
    by None = fits_where 1 0 (nat_eq i (length xs)) (text_form [] ∷ []) (omega arith, omega arith)
    by (Some x) = (omega arith, omega arith)

pub piece_fits : (at : At) (p : ℕ) (o : Option (ℕ × ℕ)) → Fits 2 5 (piece_forms at p o)
unfolding piece_forms
piece_fits at p None = (omega arith, omega arith)
piece_fits at p (Some slots) = (omega arith, omega arith)

pub further_fits : (at : At) (p : ℕ) (o : Option (ℕ × ℕ)) → Fits 1 0 (further_forms at p o)
unfolding further_forms
further_fits at p None = (omega arith, omega arith)
further_fits at p (Some slots) = (omega arith, omega arith)

pub any_further_fits : (p : ℕ) (o : Option (ℕ × ℕ)) → Fits 2 0 (any_further_forms p o)
unfolding any_further_forms
any_further_fits p None = (omega arith, omega arith)
any_further_fits p (Some slots) = (omega arith, omega arith)

-- what is printed
return_fits : (end : Leaving) → Fits 1 0 (on_return end)
unfolding on_return
return_fits Return = (omega arith, omega arith)
return_fits Exit = (omega arith, omega arith)

exit_fits : (form : Form SetName) (end : Leaving) → text_bytes form ≡ 0 → Fits 1 0 (on_exit form end)
unfolding on_exit
exit_fits form Return none = (omega arith, omega arith)
exit_fits form Exit none = (omega arith, omega arith)

quit_none : (at : At) (p : ℕ) (x : Option ℕ) → text_bytes (quit_form at p x) ≡ 0
quit_none at p None = refl
quit_none at p (Some x) = refl

call_fits : (next : ℕ) (end : Leaving) (g : Option PlainFlowFunction) → Fits 2 0 (call_forms next end g)
call_fits next end None = (omega arith, omega arith)
call_fits next end (Some g) =
    fits_cons 1 0 0 (join_form (Out g.entry_of Return) (Out next end)) (on_exit (same_form (Out g.entry_of Exit)) end) (omega arith) (exit_fits (same_form (Out g.entry_of Exit)) end refl)

pub out_fits : (fs : List PlainFlowFunction) (at : At) (p : ℕ) (k : PlainPoint) (end : Leaving) → Fits 2 (point_bytes k) (out_forms fs at p k end)
unfolding out_forms point_bytes nexts
out_fits fs at p (call_point x n args next) end = call_fits next end (slice_get fs n)
out_fits fs at p (print_point bytes next) end = (omega arith, omega arith)
out_fits fs at p (echo_point x next) end = (omega arith, omega arith)
out_fits fs at p (return_point x) end = (let w = return_fits end in omega (arith, w.0), let w = return_fits end in omega (arith, w.1))
out_fits fs at p (quit_point x) end = (let w = exit_fits (quit_form at p x) end (quit_none at p x) in omega (arith, w.0), let w = exit_fits (quit_form at p x) end (quit_none at p x) in omega (arith, w.1))
out_fits fs at p (set_point x source next) end = (omega arith, omega arith)
out_fits fs at p (branch_point x y z) end = (omega arith, omega arith)
out_fits fs at p (jump_point next) end = (omega arith, omega arith)
out_fits fs at p (begin_point x from next) end = (omega arith, omega arith)
out_fits fs at p (next_point x more done) end = (omega arith, omega arith)
out_fits fs at p (key_point x from next) end = (omega arith, omega arith)
out_fits fs at p (value_point x from next) end = (omega arith, omega arith)

-- versions and functions
told_fits : (n : ℕ) (told : List PlainKey) (h : Half) (v : SetVersion) → Fits (length told) 0 (told_members n told h v)
unfolding told_members
told_fits n [] h v = (omega arith, omega arith)
told_fits n (k ∷ ks) h v =
    let a = fits_cons (length ks) 0 0 (same_form (Value (Member n h) v)) (told_members (suc n) ks h v) (omega arith) (told_fits (suc n) ks h v) in
    (a.0, let b = a.1 in omega arith)

pub members_fits : (told : List PlainKey) (h : Half) (v : SetVersion) → Fits (length told + 1) 0 (members_forms told h v)
unfolding members_forms
members_fits told h v =
    let a = fits_cons (length told) 0 0 (same_form (Value (Others h) v)) (told_members 0 told h v) (omega arith) (told_fits 0 told h v) in
    (let b = a.0 in omega arith, let b = a.1 in omega arith)

pub shown_fits : (v : SetVersion) → Fits 2 5 (shown_forms v)
unfolding shown_forms
shown_fits v = (omega arith, omega arith)

pub links_fits : (links : List SetVersion) (b : Aspect) → Fits (length links) 0 (link_forms links b)
links_fits links b = fits_map (link_form b) links (λ v. refl)

pub pairs_fits : (at : At) (pairs : List (ℕ × ℕ)) (b : Aspect) → Fits (length pairs) 0 (used_pairs at pairs b)
pairs_fits at pairs b = fits_map (used_pair at b) pairs (λ pair. refl)

pub entry_fits : (at : At) (pairs : List (ℕ × ℕ)) (is_null : Bool) (b : Aspect) → Fits (length pairs + 1) 0 (entry_forms at pairs is_null b)
entry_fits at pairs is_null b = fits_append (length pairs) 0 1 0 (used_pairs at pairs b) (where_so is_null (texts_alone (text_form [] ∷ []) b)) (pairs_fits at pairs b) (fits_where 1 0 is_null (texts_alone (text_form [] ∷ []) b) (alone_fits 1 0 (text_form [] ∷ []) b (omega arith, omega arith)))

-- a point joins no more values than it has parts
pub joined_few : (k : PlainPoint) → joined_count (Some k) ≤ point_parts k
unfolding source_at joined_slots point_parts source_parts
joined_few (set_point x source next) = by source
  where
    by : (s : PlainSource) → joined_count (Some (set_point x s next)) ≤ source_parts s
    by (concat_source xs) = omega arith
    by _ = omega arith
joined_few _ = omega arith
