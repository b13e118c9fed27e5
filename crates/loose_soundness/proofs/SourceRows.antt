-- The rows of what a slot is set to, one by one.
use Rattle.std.proofs.Common.{◌≡◌, ℕ, ℤ, Bool, true, false, List, [], ◌∷◌, Option, Some, None, sym, subst, ap, slice_get}
use Rattle.std.specs.Prelude.{Contains, codes, flat_map, not}
use Rattle.std.specs.Fmt.{signed_decimal}
use Rattle.std.proofs.lemmas.List.Elements.{Contains-append_left, Contains-append_right}
use Rattle.string_functions.proofs.Members.{Contains-head, Contains-later}
use Rattle.useful_nonterminals.proofs.RuleLemmas.{flat_map_has}
use Rattle.plain_values.specs.Plain.{Plain, PlainKey}
use Rattle.plain_values.specs.Text.{text_of}
use Rattle.php_syntax.specs.declared.tree.SuperName.{SuperName}
use Rattle.builtin_meaning.specs.declared.builtin.Builtin.{Builtin}
use Rattle.op_system.specs.declared.op.Op.{Op}
use Rattle.flow_code.specs.declared.source.Work.{Work}
use Rattle.flow_code.specs.Points.{PlainKeyRef, int_ref, text_ref, read_ref, PlainSource, literal_source, copy_source, super_source, member_source, array_source, put_source, concat_source, repeat_source, implode_source, explode_source, apply_source, number_source, truth_source, PlainFlow}
use Rattle.least_sets.specs.Forms.{Form, text_form, same_form, join_form, request_form, integer_form, yes_form}
use Rattle.loose_sets.specs.Keys.{told_keys, may_be, may_be_other, is_exactly, is_integer_key}
use Rattle.loose_sets.specs.Uses.{where_so, of_told, may_be_at, member_name}
use Rattle.loose_sets.specs.Arrays.{array_own, null_own, member_forms, key_forms, item_under, item_elsewhere, item_keys, array_forms, is_exactly_at, put_under, put_elsewhere, deep_under, deep_elsewhere, put_keys, put_forms}
use Rattle.loose_sets.specs.Sources.{request_own, output_own, explode_forms, source_forms}
use Rattle.loose_sets.specs.Table.{each_use}
use Rattle.loose_sets.specs.declared.name.Half.{Half}
use Rattle.loose_sets.specs.declared.name.Half.TheVariants as half
use Rattle.loose_sets.specs.declared.name.Aspect.{Aspect}
use Rattle.loose_sets.specs.declared.name.Aspect.TheVariants.{Own, Member, Others, Keys}
use Rattle.loose_sets.specs.declared.name.SetVersion.TheVariants.{Point}
use Rattle.loose_sets.specs.declared.name.SetName.{SetName}
use Rattle.loose_sets.specs.declared.name.SetName.TheVariants.{Value, Output, Joined, Piece, FurtherPieces}
use Rattle.loose_sets.proofs.Lists.{where_has}
use Rattle.loose_sets.proofs.Returned.{it_alone}
use Rattle.loose_soundness.proofs.Names.{use_of, all_of, deeper}

-- the form is one of those that a slot has by an aspect, where it is set to the source
pub record IsSourceRow (flow : PlainFlow) (p : ℕ) (s : PlainSource) (b : Aspect) (f : Form SetName) : Type 0 where
  pub has : Contains (source_forms (told_keys flow) each_use p s b) f

-- the form is one of the texts of a key
pub record IsKeyText (p : ℕ) (k : Option PlainKeyRef) (f : Form SetName) : Type 0 where
  pub has : Contains (key_forms each_use p k) f

pub of_integer : {p : ℕ} (z : ℤ) → IsKeyText p (Some (int_ref z)) (text_form (signed_decimal z))
unfolding key_forms
of_integer z = record { has = it_alone (text_form (signed_decimal z)) }

pub of_text : {p : ℕ} (t : List ℕ) → IsKeyText p (Some (text_ref t)) (text_form t)
unfolding key_forms
of_text t = record { has = it_alone (text_form t) }

pub of_value : {p : ℕ} (x : ℕ) → IsKeyText p (Some (read_ref x)) (same_form (use_of (Own half.Text) x p))
unfolding key_forms
of_value {p} x = record { has = Contains-head (same_form (use_of (Own half.Text) x p)) (text_form (codes "0") ∷ []) }

pub of_false : {p : ℕ} (x : ℕ) → IsKeyText p (Some (read_ref x)) (text_form (codes "0"))
unfolding key_forms
of_false {p} x = record { has = Contains-later (same_form (use_of (Own half.Text) x p)) (text_form (codes "0") ∷ []) (text_form (codes "0")) (it_alone (text_form (codes "0"))) }

pub of_next : {p : ℕ} → IsKeyText p None integer_form
unfolding key_forms
of_next = record { has = it_alone integer_form }

-- a test of the key of a number
told_so : (told : List PlainKey) (test : PlainKey → Bool) (i : ℕ) (c : PlainKey) (b : Bool) → slice_get told i ≡ Some c → test c ≡ b → of_told test (slice_get told i) ≡ b
unfolding of_told
told_so told test i c b there is = subst (λ (o : Option PlainKey). of_told test o ≡ b) (sym there) is

module _ {flow : PlainFlow} {p : ℕ} where
  pub literal : (v : Plain) → IsSourceRow flow p (literal_source v) (Own half.Text) (text_form (text_of v))
  unfolding source_forms
  literal v = record { has = it_alone (text_form (text_of v)) }

  pub copy : (x : ℕ) (b : Aspect) → IsSourceRow flow p (copy_source x) b (same_form (use_of b x p))
  unfolding source_forms
  copy x b = record { has = it_alone (same_form (use_of b x p)) }

  pub super_array : (name : SuperName) → IsSourceRow flow p (super_source name) (Own half.Array) yes_form
  unfolding source_forms array_own
  super_array name = record { has = it_alone yes_form }

  pub super_member_text : (name : SuperName) (i : ℕ) → IsSourceRow flow p (super_source name) (Member i half.Text) request_form
  unfolding source_forms request_own
  super_member_text name i = record { has = it_alone request_form }

  pub super_member_array : (name : SuperName) (i : ℕ) → IsSourceRow flow p (super_source name) (Member i half.Array) yes_form
  unfolding source_forms request_own
  super_member_array name i = record { has = it_alone yes_form }

  pub super_other_text : (name : SuperName) → IsSourceRow flow p (super_source name) (Others half.Text) request_form
  unfolding source_forms request_own
  super_other_text name = record { has = it_alone request_form }

  pub super_other_array : (name : SuperName) → IsSourceRow flow p (super_source name) (Others half.Array) yes_form
  unfolding source_forms request_own
  super_other_array name = record { has = it_alone yes_form }

  pub super_key : (name : SuperName) → IsSourceRow flow p (super_source name) Keys request_form
  unfolding source_forms
  super_key name = record { has = it_alone request_form }

  pub member_own : (x : ℕ) (k : PlainKeyRef) (h : Half) → IsSourceRow flow p (member_source x k) (Own h) (same_form (member_name (told_keys flow) each_use p h k x))
  unfolding source_forms member_forms
  member_own x k h = record { has = Contains-head (same_form (member_name (told_keys flow) each_use p h k x)) (null_own h) }

  pub member_null : (x : ℕ) (k : PlainKeyRef) → IsSourceRow flow p (member_source x k) (Own half.Text) (text_form [])
  unfolding source_forms member_forms null_own
  member_null x k = record { has = Contains-later (same_form (member_name (told_keys flow) each_use p half.Text k x)) (text_form [] ∷ []) (text_form []) (it_alone (text_form [])) }

  pub member_deep : (x : ℕ) (k : PlainKeyRef) (a b : Aspect) → deeper a ≡ Some b → IsSourceRow flow p (member_source x k) a (same_form (use_of b x p))
  unfolding source_forms member_forms
  member_deep x k (Own h) b e = absurd (cc)
  member_deep x k (Member i h) b e =
      let same : Others h ≡ b = cc in
      record { has = subst (λ (z : Aspect). Contains (same_form (use_of (Others h) x p) ∷ []) (same_form (use_of z x p))) same (it_alone (same_form (use_of (Others h) x p))) }
  member_deep x k (Others h) b e =
      let same : Others h ≡ b = cc in
      record { has = subst (λ (z : Aspect). Contains (same_form (use_of (Others h) x p) ∷ []) (same_form (use_of z x p))) same (it_alone (same_form (use_of (Others h) x p))) }
  member_deep x k Keys b e =
      let same : Keys ≡ b = cc in
      record { has = subst (λ (z : Aspect). Contains (same_form (use_of Keys x p) ∷ []) (same_form (use_of z x p))) same (it_alone (same_form (use_of Keys x p))) }

  -- array literals
  pub array_array : (items : List (Option PlainKeyRef × ℕ)) → IsSourceRow flow p (array_source items) (Own half.Array) yes_form
  unfolding source_forms array_forms array_own
  array_array items = record { has = it_alone yes_form }

  pub array_member : (items : List (Option PlainKeyRef × ℕ)) (k : Option PlainKeyRef) (v i : ℕ) (h : Half) {c : PlainKey} → Contains items (k, v) → slice_get (told_keys flow) i ≡ Some c → may_be k c ≡ true
      → IsSourceRow flow p (array_source items) (Member i h) (same_form (use_of (Own h) v p))
  unfolding source_forms array_forms item_under may_be_at
  array_member items k v i h {c} has there may = record {
    has = flat_map_has (item_under (told_keys flow) each_use p i h) items (k, v) (same_form (use_of (Own h) v p)) has
        (where_has (may_be_at (told_keys flow) k i) (same_form (use_of (Own h) v p) ∷ []) (same_form (use_of (Own h) v p)) (told_so (told_keys flow) (may_be k) i c true there may) (it_alone (same_form (use_of (Own h) v p))));
  }

  pub array_other : (items : List (Option PlainKeyRef × ℕ)) (k : Option PlainKeyRef) (v : ℕ) (h : Half) → Contains items (k, v) → may_be_other k (told_keys flow) ≡ true
      → IsSourceRow flow p (array_source items) (Others h) (same_form (use_of (Own h) v p))
  unfolding source_forms array_forms item_elsewhere
  array_other items k v h has may = record {
    has = flat_map_has (item_elsewhere (told_keys flow) each_use p h) items (k, v) (same_form (use_of (Own h) v p)) has
        (Contains-append_left (where_so (may_be_other k (told_keys flow)) (same_form (use_of (Own h) v p) ∷ [])) (same_form (all_of h v p) ∷ []) (same_form (use_of (Own h) v p))
        (where_has (may_be_other k (told_keys flow)) (same_form (use_of (Own h) v p) ∷ []) (same_form (use_of (Own h) v p)) may (it_alone (same_form (use_of (Own h) v p)))));
  }

  pub array_deep : (items : List (Option PlainKeyRef × ℕ)) (k : Option PlainKeyRef) (v : ℕ) (h : Half) → Contains items (k, v) → IsSourceRow flow p (array_source items) (Others h) (same_form (all_of h v p))
  unfolding source_forms array_forms item_elsewhere
  array_deep items k v h has = record {
    has = flat_map_has (item_elsewhere (told_keys flow) each_use p h) items (k, v) (same_form (all_of h v p)) has
        (Contains-append_right (where_so (may_be_other k (told_keys flow)) (same_form (use_of (Own h) v p) ∷ [])) (same_form (all_of h v p) ∷ []) (same_form (all_of h v p)) (it_alone (same_form (all_of h v p))));
  }

  pub array_deep_key : (items : List (Option PlainKeyRef × ℕ)) (k : Option PlainKeyRef) (v : ℕ) → Contains items (k, v) → IsSourceRow flow p (array_source items) Keys (same_form (use_of Keys v p))
  unfolding source_forms array_forms item_keys
  array_deep_key items k v has = record { has = flat_map_has (item_keys each_use p) items (k, v) (same_form (use_of Keys v p)) has (Contains-head (same_form (use_of Keys v p)) (key_forms each_use p k)) }

  pub array_key : (items : List (Option PlainKeyRef × ℕ)) (k : Option PlainKeyRef) (v : ℕ) (f : Form SetName) → Contains items (k, v) → IsKeyText p k f → IsSourceRow flow p (array_source items) Keys f
  unfolding source_forms array_forms item_keys
  array_key items k v f has text = record { has = flat_map_has (item_keys each_use p) items (k, v) f has (Contains-later (same_form (use_of Keys v p)) (key_forms each_use p k) f text.has) }

  -- writes
  pub put_array : (x v : ℕ) (k : Option PlainKeyRef) (ks : List (Option PlainKeyRef)) → IsSourceRow flow p (put_source x (k ∷ ks) v) (Own half.Array) yes_form
  unfolding source_forms put_forms array_own
  put_array x v k [] = record { has = it_alone yes_form }
  put_array x v k (j ∷ ks) = record { has = it_alone yes_form }

  pub put_old : (x v : ℕ) (k : Option PlainKeyRef) (ks : List (Option PlainKeyRef)) (h : Half) → IsSourceRow flow p (put_source x (k ∷ ks) v) (Others h) (same_form (use_of (Others h) x p))
  unfolding source_forms put_forms put_elsewhere deep_elsewhere
  put_old x v k [] h = record { has = Contains-head (same_form (use_of (Others h) x p)) (same_form (all_of h v p) ∷ where_so (may_be_other k (told_keys flow)) (same_form (use_of (Own h) v p) ∷ [])) }
  put_old x v k (j ∷ ks) h = record { has = Contains-head (same_form (use_of (Others h) x p)) (same_form (all_of h v p) ∷ same_form (use_of (Own h) v p) ∷ array_own h) }

  pub put_deep : (x v : ℕ) (k : Option PlainKeyRef) (ks : List (Option PlainKeyRef)) (h : Half) → IsSourceRow flow p (put_source x (k ∷ ks) v) (Others h) (same_form (all_of h v p))
  unfolding source_forms put_forms put_elsewhere deep_elsewhere
  put_deep x v k [] h = record {
    has = Contains-later (same_form (use_of (Others h) x p)) (same_form (all_of h v p) ∷ where_so (may_be_other k (told_keys flow)) (same_form (use_of (Own h) v p) ∷ [])) (same_form (all_of h v p))
        (Contains-head (same_form (all_of h v p)) (where_so (may_be_other k (told_keys flow)) (same_form (use_of (Own h) v p) ∷ [])));
  }
  put_deep x v k (j ∷ ks) h = record {
    has = Contains-later (same_form (use_of (Others h) x p)) (same_form (all_of h v p) ∷ same_form (use_of (Own h) v p) ∷ array_own h) (same_form (all_of h v p))
        (Contains-head (same_form (all_of h v p)) (same_form (use_of (Own h) v p) ∷ array_own h));
  }

  -- the keys of a write
  key_row : (x v : ℕ) (k : Option PlainKeyRef) (ks : List (Option PlainKeyRef)) (f : Form SetName) → Contains (put_keys each_use p x (k ∷ ks) v) f → IsSourceRow flow p (put_source x (k ∷ ks) v) Keys f
  unfolding source_forms put_forms
  key_row x v k [] f has = record { has = has }
  key_row x v k (j ∷ ks) f has = record { has = has }

  pub put_old_key : (x v : ℕ) (k : Option PlainKeyRef) (ks : List (Option PlainKeyRef)) → IsSourceRow flow p (put_source x (k ∷ ks) v) Keys (same_form (use_of Keys x p))
  unfolding put_keys
  put_old_key x v k ks = key_row x v k ks (same_form (use_of Keys x p)) (Contains-head (same_form (use_of Keys x p)) (same_form (use_of Keys v p) ∷ flat_map (key_forms each_use p) (k ∷ ks)))

  pub put_deep_key : (x v : ℕ) (k : Option PlainKeyRef) (ks : List (Option PlainKeyRef)) → IsSourceRow flow p (put_source x (k ∷ ks) v) Keys (same_form (use_of Keys v p))
  unfolding put_keys
  put_deep_key x v k ks = key_row x v k ks (same_form (use_of Keys v p))
      (Contains-later (same_form (use_of Keys x p)) (same_form (use_of Keys v p) ∷ flat_map (key_forms each_use p) (k ∷ ks)) (same_form (use_of Keys v p)) (Contains-head (same_form (use_of Keys v p)) (flat_map (key_forms each_use p) (k ∷ ks))))

  pub put_key : (x v : ℕ) (k : Option PlainKeyRef) (ks : List (Option PlainKeyRef)) (j : Option PlainKeyRef) (f : Form SetName) → Contains (k ∷ ks) j → IsKeyText p j f → IsSourceRow flow p (put_source x (k ∷ ks) v) Keys f
  unfolding put_keys
  put_key x v k ks j f has text = key_row x v k ks f
      (Contains-later (same_form (use_of Keys x p)) (same_form (use_of Keys v p) ∷ flat_map (key_forms each_use p) (k ∷ ks)) f
      (Contains-later (same_form (use_of Keys v p)) (flat_map (key_forms each_use p) (k ∷ ks)) f (flat_map_has (key_forms each_use p) (k ∷ ks) j f has text.has)))

  -- a write under one key
  pub put_kept : (x v : ℕ) (k : Option PlainKeyRef) (i : ℕ) (h : Half) {c : PlainKey} → slice_get (told_keys flow) i ≡ Some c → is_exactly k c ≡ false → IsSourceRow flow p (put_source x (k ∷ []) v) (Member i h) (same_form (use_of (Member i h) x p))
  unfolding source_forms put_forms put_under is_exactly_at
  put_kept x v k i h {c} there isnt = record {
    has = Contains-append_left (where_so (not (is_exactly_at (told_keys flow) k i)) (same_form (use_of (Member i h) x p) ∷ [])) (where_so (may_be_at (told_keys flow) k i) (same_form (use_of (Own h) v p) ∷ [])) (same_form (use_of (Member i h) x p))
        (where_has (not (is_exactly_at (told_keys flow) k i)) (same_form (use_of (Member i h) x p) ∷ []) (same_form (use_of (Member i h) x p)) (ap not (told_so (told_keys flow) (is_exactly k) i c false there isnt)) (it_alone (same_form (use_of (Member i h) x p))));
  }

  pub put_new : (x v : ℕ) (k : Option PlainKeyRef) (i : ℕ) (h : Half) {c : PlainKey} → slice_get (told_keys flow) i ≡ Some c → may_be k c ≡ true → IsSourceRow flow p (put_source x (k ∷ []) v) (Member i h) (same_form (use_of (Own h) v p))
  unfolding source_forms put_forms put_under may_be_at
  put_new x v k i h {c} there may = record {
    has = Contains-append_right (where_so (not (is_exactly_at (told_keys flow) k i)) (same_form (use_of (Member i h) x p) ∷ [])) (where_so (may_be_at (told_keys flow) k i) (same_form (use_of (Own h) v p) ∷ [])) (same_form (use_of (Own h) v p))
        (where_has (may_be_at (told_keys flow) k i) (same_form (use_of (Own h) v p) ∷ []) (same_form (use_of (Own h) v p)) (told_so (told_keys flow) (may_be k) i c true there may) (it_alone (same_form (use_of (Own h) v p))));
  }

  pub put_other : (x v : ℕ) (k : Option PlainKeyRef) (h : Half) → may_be_other k (told_keys flow) ≡ true → IsSourceRow flow p (put_source x (k ∷ []) v) (Others h) (same_form (use_of (Own h) v p))
  unfolding source_forms put_forms put_elsewhere
  put_other x v k h may = record {
    has = Contains-later (same_form (use_of (Others h) x p)) (same_form (all_of h v p) ∷ where_so (may_be_other k (told_keys flow)) (same_form (use_of (Own h) v p) ∷ [])) (same_form (use_of (Own h) v p))
        (Contains-later (same_form (all_of h v p)) (where_so (may_be_other k (told_keys flow)) (same_form (use_of (Own h) v p) ∷ [])) (same_form (use_of (Own h) v p))
        (where_has (may_be_other k (told_keys flow)) (same_form (use_of (Own h) v p) ∷ []) (same_form (use_of (Own h) v p)) may (it_alone (same_form (use_of (Own h) v p)))));
  }

  -- under more keys
  pub put_member : (x v : ℕ) (k j : Option PlainKeyRef) (ks : List (Option PlainKeyRef)) (i : ℕ) (h : Half) → IsSourceRow flow p (put_source x (k ∷ j ∷ ks) v) (Member i h) (same_form (use_of (Member i h) x p))
  unfolding source_forms put_forms deep_under
  put_member x v k j ks i h = record { has = Contains-head (same_form (use_of (Member i h) x p)) (where_so (may_be_at (told_keys flow) k i) (array_own h)) }

  pub put_member_array : (x v : ℕ) (k j : Option PlainKeyRef) (ks : List (Option PlainKeyRef)) (i : ℕ) {c : PlainKey} → slice_get (told_keys flow) i ≡ Some c → may_be k c ≡ true → IsSourceRow flow p (put_source x (k ∷ j ∷ ks) v) (Member i half.Array) yes_form
  unfolding source_forms put_forms deep_under may_be_at array_own
  put_member_array x v k j ks i {c} there may = record {
    has = Contains-later (same_form (use_of (Member i half.Array) x p)) (where_so (may_be_at (told_keys flow) k i) (array_own half.Array)) yes_form
        (where_has (may_be_at (told_keys flow) k i) (yes_form ∷ []) yes_form (told_so (told_keys flow) (may_be k) i c true there may) (it_alone yes_form));
  }

  pub put_within : (x v : ℕ) (k j : Option PlainKeyRef) (ks : List (Option PlainKeyRef)) (h : Half) → IsSourceRow flow p (put_source x (k ∷ j ∷ ks) v) (Others h) (same_form (use_of (Own h) v p))
  unfolding source_forms put_forms deep_elsewhere
  put_within x v k j ks h = record {
    has = Contains-later (same_form (use_of (Others h) x p)) (same_form (all_of h v p) ∷ same_form (use_of (Own h) v p) ∷ array_own h) (same_form (use_of (Own h) v p))
        (Contains-later (same_form (all_of h v p)) (same_form (use_of (Own h) v p) ∷ array_own h) (same_form (use_of (Own h) v p)) (Contains-head (same_form (use_of (Own h) v p)) (array_own h)));
  }

  pub put_within_array : (x v : ℕ) (k j : Option PlainKeyRef) (ks : List (Option PlainKeyRef)) → IsSourceRow flow p (put_source x (k ∷ j ∷ ks) v) (Others half.Array) yes_form
  unfolding source_forms put_forms deep_elsewhere array_own
  put_within_array x v k j ks = record {
    has = Contains-later (same_form (use_of (Others half.Array) x p)) (same_form (all_of half.Array v p) ∷ same_form (use_of (Own half.Array) v p) ∷ yes_form ∷ []) yes_form
        (Contains-later (same_form (all_of half.Array v p)) (same_form (use_of (Own half.Array) v p) ∷ yes_form ∷ []) yes_form
        (Contains-later (same_form (use_of (Own half.Array) v p)) (yes_form ∷ []) yes_form (it_alone yes_form)));
  }

  -- what is worked out of values
  pub concat : (xs : List ℕ) → IsSourceRow flow p (concat_source xs) (Own half.Text) (same_form (Joined p 0))
  unfolding source_forms
  concat xs = record { has = it_alone (same_form (Joined p 0)) }

  pub repeat_none : (from : ℕ) (f : Builtin) (args : List ℕ) → IsSourceRow flow p (repeat_source from f args) (Own half.Text) (text_form [])
  unfolding source_forms
  repeat_none from f args = record { has = Contains-head (text_form []) (join_form (use_of (Own half.Text) from p) (Value (Own half.Text) (Point p)) ∷ []) }

  pub repeat_more : (from : ℕ) (f : Builtin) (args : List ℕ) → IsSourceRow flow p (repeat_source from f args) (Own half.Text) (join_form (use_of (Own half.Text) from p) (Value (Own half.Text) (Point p)))
  unfolding source_forms
  repeat_more from f args = record {
    has = Contains-later (text_form []) (join_form (use_of (Own half.Text) from p) (Value (Own half.Text) (Point p)) ∷ []) (join_form (use_of (Own half.Text) from p) (Value (Own half.Text) (Point p)))
        (it_alone (join_form (use_of (Own half.Text) from p) (Value (Own half.Text) (Point p))));
  }

  pub implode_none : (sep from : ℕ) (f : Builtin) (args : List ℕ) → IsSourceRow flow p (implode_source sep from f args) (Own half.Text) (text_form [])
  unfolding source_forms
  implode_none sep from f args = record { has = Contains-head (text_form []) (join_form (Piece p) (FurtherPieces p) ∷ []) }

  pub implode_more : (sep from : ℕ) (f : Builtin) (args : List ℕ) → IsSourceRow flow p (implode_source sep from f args) (Own half.Text) (join_form (Piece p) (FurtherPieces p))
  unfolding source_forms
  implode_more sep from f args = record { has = Contains-later (text_form []) (join_form (Piece p) (FurtherPieces p) ∷ []) (join_form (Piece p) (FurtherPieces p)) (it_alone (join_form (Piece p) (FurtherPieces p))) }

  pub explode_array : (operation : Op) (from : ℕ) (f : Builtin) (args : List ℕ) → IsSourceRow flow p (explode_source operation from f args) (Own half.Array) yes_form
  unfolding source_forms explode_forms array_own
  explode_array operation from f args = record { has = it_alone yes_form }

  pub explode_member : (operation : Op) (from : ℕ) (f : Builtin) (args : List ℕ) (i : ℕ) {c : PlainKey} → slice_get (told_keys flow) i ≡ Some c → is_integer_key c ≡ true → IsSourceRow flow p (explode_source operation from f args) (Member i half.Text) (same_form (Output p))
  unfolding source_forms explode_forms output_own
  explode_member operation from f args i {c} there is = record {
    has = where_has (of_told is_integer_key (slice_get (told_keys flow) i)) (same_form (Output p) ∷ []) (same_form (Output p)) (told_so (told_keys flow) is_integer_key i c true there is) (it_alone (same_form (Output p)));
  }

  pub explode_other : (operation : Op) (from : ℕ) (f : Builtin) (args : List ℕ) → IsSourceRow flow p (explode_source operation from f args) (Others half.Text) (same_form (Output p))
  unfolding source_forms explode_forms output_own
  explode_other operation from f args = record { has = it_alone (same_form (Output p)) }

  pub explode_key : (operation : Op) (from : ℕ) (f : Builtin) (args : List ℕ) → IsSourceRow flow p (explode_source operation from f args) Keys integer_form
  unfolding source_forms explode_forms
  explode_key operation from f args = record { has = it_alone integer_form }

  pub apply : (operation : Op) (from : ℕ) (f : Builtin) (args : List ℕ) → IsSourceRow flow p (apply_source operation from f args) (Own half.Text) (same_form (Output p))
  unfolding source_forms
  apply operation from f args = record { has = it_alone (same_form (Output p)) }

  pub number : (work : Work) (args : List ℕ) → IsSourceRow flow p (number_source work args) (Own half.Text) integer_form
  unfolding source_forms
  number work args = record { has = it_alone integer_form }

  pub truth_true : (work : Work) (args : List ℕ) → IsSourceRow flow p (truth_source work args) (Own half.Text) (text_form (codes "1"))
  unfolding source_forms
  truth_true work args = record { has = Contains-head (text_form (codes "1")) (text_form [] ∷ []) }

  pub truth_false : (work : Work) (args : List ℕ) → IsSourceRow flow p (truth_source work args) (Own half.Text) (text_form [])
  unfolding source_forms
  truth_false work args = record { has = Contains-later (text_form (codes "1")) (text_form [] ∷ []) (text_form []) (it_alone (text_form [])) }
