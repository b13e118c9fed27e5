-- The table at two uses of slots: what holds of the sets of each slot that is read, and of each set that no use names, holds of all sets that
-- the rows name, one by one.
use Rattle.std.proofs.Common.{◌≡◌, ◌≤◌, ◌+◌, ℕ, zero, suc, Bool, true, false, List, [], ◌∷◌, Option, Some, None, refl, sym, subst, arith, slice_get, length, map}
use Rattle.std.specs.Prelude.{⊤, Contains, codes, flat_map, nat_eq, not}
use Rattle.std.specs.List.{AllZip}
use Rattle.std.proofs.lemmas.Option.{slice_get_within}
use Rattle.string_functions.proofs.Members.{Contains-head, Contains-later}
use Rattle.plain_values.specs.Plain.{PlainKey}
use Rattle.plain_values.specs.Text.{text_of}
use Rattle.op_system.specs.declared.op.Op.{Op}
use Rattle.flow_code.specs.Points.{PlainKeyRef, int_ref, text_ref, read_ref, PlainSource, literal_source, copy_source, super_source, member_source, array_source, put_source, concat_source, repeat_source, implode_source, explode_source, apply_source, number_source, truth_source, PlainPoint, set_point, call_point, print_point, echo_point, branch_point, jump_point, begin_point, next_point, key_point, value_point, return_point, quit_point, PlainFlowFunction, PlainFlow, point_at, function_at}
use Rattle.flow_code.specs.Lawful.{reads, source_reads, nexts, key_slots}
use Rattle.least_sets.specs.Forms.{Form, text_form, same_form, join_form, before_form, request_form, integer_form, apply_form, yes_form, where_form}
use Rattle.least_sets.specs.Simulations.{Alike}
use Rattle.loose_sets.specs.Keys.{told_keys, literal_key, may_be_other, is_integer_key}
use Rattle.loose_sets.specs.Exact.{ReadsSlot}
use Rattle.loose_sets.specs.Uses.{At, used, all_used, where_so, of_told, may_be_at, in_member, member_under, member_name}
use Rattle.loose_sets.specs.Arrays.{Forms, array_own, null_own, member_forms, key_forms, item_under, item_elsewhere, item_keys, array_forms, is_exactly_at, put_under, put_elsewhere, deep_under, deep_elsewhere, put_keys, put_forms}
use Rattle.loose_sets.specs.Sources.{is_own_text, request_own, super_forms, output_own, explode_forms, source_forms}
use Rattle.loose_sets.specs.Points.{walk_forms, value_forms, source_at, joined_slots, imploded_slots, operation_of, joined_from_place, joined_forms, piece_forms, further_forms, any_further_forms, input_used, input_forms, output_forms}
use Rattle.loose_sets.specs.Printed.{onward, on_return, on_exit, quit_form, call_forms, out_forms}
use Rattle.loose_sets.specs.Members.{told_members, members_forms, shown_forms}
use Rattle.loose_sets.specs.Functions.{returned_of, returned_by, handed_to, is_null_slot, used_pair, used_pairs, entry_forms}
use Rattle.loose_sets.specs.Table.{SetsTo, point_of, forms_from, forms_there, forms_beside, forms}
use Rattle.loose_sets.specs.declared.name.Half.{Half}
use Rattle.loose_sets.specs.declared.name.Half.TheVariants as half
use Rattle.loose_sets.specs.declared.name.Aspect.{Aspect}
use Rattle.loose_sets.specs.declared.name.Aspect.TheVariants.{Own, Member, Others, Keys}
use Rattle.loose_sets.specs.declared.name.Leaving.{Leaving}
use Rattle.loose_sets.specs.declared.name.Leaving.TheVariants.{Return, Exit}
use Rattle.loose_sets.specs.declared.name.SetVersion.{SetVersion}
use Rattle.loose_sets.specs.declared.name.SetVersion.TheVariants.{Point, Entry, Join}
use Rattle.loose_sets.specs.declared.name.SetName.{SetName}
use Rattle.loose_sets.specs.declared.name.SetName.TheVariants.{Value, Members, Shown, Result, Input, Output, Joined, Piece, FurtherPiece, FurtherPieces, Out}
use Rattle.loose_sets.proofs.Lists.{from_place, zip_append, zip_where, zip_flat_map, zip_map}
use Rattle.loose_sets.proofs.Placed.{Placed, placed}
use Rattle.loose_sets.proofs.Sourced.{joined_is, Implodes, imploded_is, item_value, item_key, put_old, put_value, put_key, by_source, by_point, sets_there, operands}
use Rattle.loose_sets.proofs.Returned.{none_in, returned_law}
use Rattle.loose_sets.proofs.Handed.{handed_pairs}

-- the form is what an operation puts out
abbrev pub is_applied : {N : Type 0} → Form N → Bool
is_applied (text_form w) = false
is_applied (same_form a) = false
is_applied (join_form a b) = false
is_applied (before_form w a) = false
is_applied request_form = false
is_applied integer_form = false
is_applied (apply_form op a) = true
is_applied yes_form = false
is_applied (where_form w a) = false

-- there is the point
abbrev pub IsPoint : PlainFlow → ℕ → Type 0
IsPoint flow p = (k : PlainPoint) × (point_at flow p ≡ Some k)

-- some point calls the function
pub record IsCalled (flow : PlainFlow) (n : ℕ) : Type 0 where
  pub point : ℕ
  pub slot : ℕ
  pub args : List ℕ
  pub next : ℕ
  pub call : point_at flow point ≡ Some (call_point slot n args next)

-- a function is entered at the point, or some point leads there
pub data IsTarget (flow : PlainFlow) : ℕ → Type 0 where
  by_entry : (n : ℕ) (g : PlainFlowFunction) → function_at flow n ≡ Some g → IsTarget flow g.entry_of
  by_edge : (p q : ℕ) (k : PlainPoint) → point_at flow p ≡ Some k → Contains (nexts k) q → IsTarget flow q

-- of sets that no use names: what they belong to is there, and their aspects are known
abbrev pub IsFixed : PlainFlow → (Aspect → Type 0) → SetName → Type 0
IsFixed flow Known (Value b (Point p)) = Known b × IsPoint flow p
IsFixed flow Known (Value b (Entry f x)) = ⊥
IsFixed flow Known (Value b (Join p x)) = ⊥
IsFixed flow Known (Members h v) = ⊥
IsFixed flow Known (Shown v) = ⊥
IsFixed flow Known (Result b n) = Known b × IsCalled flow n
IsFixed flow Known (Input p) = IsPoint flow p
IsFixed flow Known (Output p) = IsPoint flow p
IsFixed flow Known (Joined p i) = (xs : List ℕ) × SetsTo flow p (concat_source xs) × (i ≤ length xs)
IsFixed flow Known (Piece p) = IsPoint flow p
IsFixed flow Known (FurtherPiece p) = IsPoint flow p
IsFixed flow Known (FurtherPieces p) = IsPoint flow p
IsFixed flow Known (Out q l) = IsTarget flow q

-- the aspects that each row may name are known
pub record Knows (flow : PlainFlow) (Known : Aspect → Type 0) : Type 0 where
  pub own : (h : Half) → Known (Own h)
  pub member : (i : ℕ) (h : Half) (c : PlainKey) → slice_get (told_keys flow) i ≡ Some c → Known (Member i h)
  pub others : (h : Half) → Known (Others h)
  pub keys : Known Keys

-- the aspect of a set that no version names is known
abbrev pub IsKnown : (Aspect → Type 0) → SetName → Type 0
IsKnown Known (Value b v) = Known b
IsKnown Known (Members h v) = ⊤
IsKnown Known (Shown v) = ⊤
IsKnown Known (Result b n) = Known b
IsKnown Known (Input p) = ⊤
IsKnown Known (Output p) = ⊤
IsKnown Known (Joined p i) = ⊤
IsKnown Known (Piece p) = ⊤
IsKnown Known (FurtherPiece p) = ⊤
IsKnown Known (FurtherPieces p) = ⊤
IsKnown Known (Out q l) = ⊤

-- the relation holds of what is used of each slot that is read, and of each set that no use names
pub record Carries (flow : PlainFlow) (Known : Aspect → Type 0) (at other : At) (H : SetName → SetName → Type 0) : Type 0 where
  pub used : (b : Aspect) (p x : ℕ) → Known b → ReadsSlot flow p x → H (Value b (at p x)) (Value b (other p x))
  pub members : (h : Half) (p x : ℕ) → ReadsSlot flow p x → H (Members h (at p x)) (Members h (other p x))
  pub shown : (p x : ℕ) → ReadsSlot flow p x → H (Shown (at p x)) (Shown (other p x))
  pub fixed : (n : SetName) → IsFixed flow Known n → H n n

module _ (flow : PlainFlow) (Known : Aspect → Type 0) (knows : Knows flow Known) (at other : At) (H : SetName → SetName → Type 0) where
  -- the forms are alike, and no outputs of an operation
  abbrev pub A : Form SetName → Form SetName → Type 0
  A f g = Alike H f g × (is_applied f ≡ false)

  abbrev pub AreAlike : Forms → Forms → Type 0
  AreAlike xs ys = AllZip A xs ys

  text : (w : List ℕ) → A (text_form w) (text_form w)
  text w = (Alike.text w, refl)

  same : (a b : SetName) → H a b → A (same_form a) (same_form b)
  same a b h = (Alike.same a b h, refl)

  join : (a b d e : SetName) → H a b → H d e → A (join_form a d) (join_form b e)
  join a b d e h i = (Alike.join a d b e h i, refl)

  before : (w : List ℕ) (a b : SetName) → H a b → A (before_form w a) (before_form w b)
  before w a b h = (Alike.before w a b h, refl)

  where_yes : (w : List ℕ) (a b : SetName) → H a b → A (where_form w a) (where_form w b)
  where_yes w a b h = (Alike.where_yes w a b h, refl)

  asked : A request_form request_form
  asked = (Alike.asked, refl)

  integer : A integer_form integer_form
  integer = (Alike.integer, refl)

  yes : A yes_form yes_form
  yes = (Alike.yes, refl)

  -- all members of a version, and what is printed of it
  told_list : (n : ℕ) (ks : List PlainKey) (h : Half) (v w : SetVersion) → ((i : ℕ) (c : PlainKey) → slice_get ks i ≡ Some c → H (Value (Member (n + i) h) v) (Value (Member (n + i) h) w)) → AreAlike (told_members n ks h v) (told_members n ks h w)
  unfolding told_members
  told_list n [] h v w each = tt
  told_list n (k ∷ ks) h v w each = (
    same (Value (Member n h) v) (Value (Member n h) w) (subst (λ (i : ℕ). H (Value (Member i h) v) (Value (Member i h) w)) (none n) (each 0 k refl)),
    told_list (suc n) ks h v w (λ i c e. subst (λ (j : ℕ). H (Value (Member j h) v) (Value (Member j h) w)) (next n i) (each (suc i) c e)),
  )
    where
      none : (n : ℕ) → n + 0 ≡ n
      none n = omega arith

      next : (n i : ℕ) → n + suc i ≡ suc n + i
      next n i = omega arith

  pub members_list : (h : Half) (v w : SetVersion) → ((b : Aspect) → Known b → H (Value b v) (Value b w)) → AreAlike (members_forms (told_keys flow) h v) (members_forms (told_keys flow) h w)
  unfolding members_forms
  members_list h v w each = (
    same (Value (Others h) v) (Value (Others h) w) (each (Others h) (knows.others h)),
    told_list 0 (told_keys flow) h v w (λ i c e. each (Member (0 + i) h) (knows.member (0 + i) h c (subst (λ (j : ℕ). slice_get (told_keys flow) j ≡ Some c) (none i) e))),
  )
    where
      none : (i : ℕ) → i ≡ 0 + i
      none i = omega arith

  pub shown_list : (v w : SetVersion) → ((b : Aspect) → Known b → H (Value b v) (Value b w)) → AreAlike (shown_forms v) (shown_forms w)
  unfolding shown_forms
  shown_list v w each = (
    same (Value (Own half.Text) v) (Value (Own half.Text) w) (each (Own half.Text) (knows.own half.Text)),
    (where_yes (codes "Array") (Value (Own half.Array) v) (Value (Own half.Array) w) (each (Own half.Array) (knows.own half.Array)), tt),
  )

  module _ (c : Carries flow Known at other H) where
    abbrev told : List PlainKey
    told = told_keys flow

    used_alike : (p x : ℕ) (b : Aspect) → Known b → ReadsSlot flow p x → A (used at p b x) (used other p b x)
    used_alike p x b k r = same (Value b (at p x)) (Value b (other p x)) (c.used b p x k r)

    own_alike : (p x : ℕ) (h : Half) → ReadsSlot flow p x → A (used at p (Own h) x) (used other p (Own h) x)
    own_alike p x h r = used_alike p x (Own h) (knows.own h) r

    others_alike : (p x : ℕ) (h : Half) → ReadsSlot flow p x → A (used at p (Others h) x) (used other p (Others h) x)
    others_alike p x h r = used_alike p x (Others h) (knows.others h) r

    keys_alike : (p x : ℕ) → ReadsSlot flow p x → A (used at p Keys x) (used other p Keys x)
    keys_alike p x r = used_alike p x Keys knows.keys r

    all_alike : (p x : ℕ) (h : Half) → ReadsSlot flow p x → A (all_used at p h x) (all_used other p h x)
    all_alike p x h r = same (Members h (at p x)) (Members h (other p x)) (c.members h p x r)

    own_list : (h : Half) → AreAlike (array_own h) (array_own h)
    unfolding array_own
    own_list half.Text = tt
    own_list half.Array = (yes, tt)

    -- members
    member_alike : (p x : ℕ) (h : Half) (k : PlainKeyRef) → ReadsSlot flow p x → H (member_name told at p h k x) (member_name told other p h k x)
    unfolding member_name
    member_alike p x h k r = by (literal_key k)
      where
        literal : (key : PlainKey) → Placed 0 key told → H (member_under told h (at p x) (Some key)) (member_under told h (other p x) (Some key))
        literal key (Placed.nowhere isnt none) = subst (λ (o : Option ℕ). H (Value (in_member h o) (at p x)) (Value (in_member h o) (other p x))) (sym isnt) (c.used (Others h) p x (knows.others h) r)
        literal key (Placed.there i j number among is sum) =
            let here : slice_get told j ≡ Some key = subst (λ (z : ℕ). slice_get told z ≡ Some key) (omega (arith, sum)) is in
            subst (λ (o : Option ℕ). H (Value (in_member h o) (at p x)) (Value (in_member h o) (other p x))) (sym number) (c.used (Member j h) p x (knows.member j h key here) r)

        by : (o : Option PlainKey) → H (member_under told h (at p x) o) (member_under told h (other p x) o)
        by None = c.members h p x r
        by (Some key) = literal key (placed 0 key told)

    member_list : (p x : ℕ) (k : PlainKeyRef) (b : Aspect) → ReadsSlot flow p x → AreAlike (member_forms told at p x k b) (member_forms told other p x k b)
    unfolding member_forms null_own
    member_list p x k (Own half.Text) r = (same (member_name told at p half.Text k x) (member_name told other p half.Text k x) (member_alike p x half.Text k r), (text [], tt))
    member_list p x k (Own half.Array) r = (same (member_name told at p half.Array k x) (member_name told other p half.Array k x) (member_alike p x half.Array k r), tt)
    member_list p x k (Member i h) r = (others_alike p x h r, tt)
    member_list p x k (Others h) r = (others_alike p x h r, tt)
    member_list p x k Keys r = (keys_alike p x r, tt)

    -- keys
    key_list : (p : ℕ) (k : Option PlainKeyRef) → ((x : ℕ) → k ≡ Some (read_ref x) → ReadsSlot flow p x) → AreAlike (key_forms at p k) (key_forms other p k)
    unfolding key_forms
    key_list p (Some (int_ref z)) r = (text _, tt)
    key_list p (Some (text_ref t)) r = (text t, tt)
    key_list p (Some (read_ref x)) r = (own_alike p x half.Text (r x refl), (text _, tt))
    key_list p None r = (integer, tt)

    -- array literals
    module _ (p : ℕ) (items : List (Option PlainKeyRef × ℕ)) (set : SetsTo flow p (array_source items)) where
      value_read : (item : Option PlainKeyRef × ℕ) → Contains items item → ReadsSlot flow p item.1
      unfolding source_reads
      value_read item has = by_source flow p (array_source items) item.1 set (item_value items item has)

      key_read : (item : Option PlainKeyRef × ℕ) → Contains items item → (x : ℕ) → item.0 ≡ Some (read_ref x) → ReadsSlot flow p x
      unfolding source_reads
      key_read item has x e = by_source flow p (array_source items) x set (item_key items item x e has)

      array_list : (b : Aspect) → AreAlike (array_forms told at p items b) (array_forms told other p items b)
      unfolding array_forms item_under item_elsewhere item_keys
      array_list (Own h) = own_list h
      array_list (Member i h) = zip_flat_map A (item_under told at p i h) (item_under told other p i h) items
          (λ item has. zip_where A (may_be_at told item.0 i) (used at p (Own h) item.1 ∷ []) (used other p (Own h) item.1 ∷ []) (own_alike p item.1 h (value_read item has), tt))
      array_list (Others h) = zip_flat_map A (item_elsewhere told at p h) (item_elsewhere told other p h) items
          (λ item has. zip_append A (where_so (may_be_other item.0 told) (used at p (Own h) item.1 ∷ [])) (all_used at p h item.1 ∷ []) (where_so (may_be_other item.0 told) (used other p (Own h) item.1 ∷ [])) (all_used other p h item.1 ∷ [])
          (zip_where A (may_be_other item.0 told) (used at p (Own h) item.1 ∷ []) (used other p (Own h) item.1 ∷ []) (own_alike p item.1 h (value_read item has), tt))
          (all_alike p item.1 h (value_read item has), tt))
      array_list Keys = zip_flat_map A (item_keys at p) (item_keys other p) items (λ item has. (keys_alike p item.1 (value_read item has), key_list p item.0 (key_read item has)))

    -- writes
    module _ (p x v : ℕ) (path : List (Option PlainKeyRef)) (set : SetsTo flow p (put_source x path v)) where
      old : ReadsSlot flow p x
      old = by_source flow p (put_source x path v) x set (put_old x v path)

      new : ReadsSlot flow p v
      new = by_source flow p (put_source x path v) v set (put_value x v path)

      keys_list : AreAlike (flat_map (key_forms at p) path) (flat_map (key_forms other p) path)
      keys_list = zip_flat_map A (key_forms at p) (key_forms other p) path (λ k has. key_list p k (λ y e. by_source flow p (put_source x path v) y set (put_key x v y path k e has)))

      written_where : (b : Bool) (h : Half) → AreAlike (where_so b (used at p (Own h) v ∷ [])) (where_so b (used other p (Own h) v ∷ []))
      written_where b h = zip_where A b (used at p (Own h) v ∷ []) (used other p (Own h) v ∷ []) (own_alike p v h new, tt)

      put_own : (b : Aspect) → Known b → AreAlike (put_forms told at p x path v b) (put_forms told other p x path v b)
      unfolding put_forms put_under put_elsewhere deep_under deep_elsewhere put_keys
      put_own b kb = by path refl b kb
        where
          all_keys : (q : List (Option PlainKeyRef)) → path ≡ q → AreAlike (put_keys at p x q v) (put_keys other p x q v)
          all_keys q e = subst (λ (z : List (Option PlainKeyRef)). AreAlike (put_keys at p x z v) (put_keys other p x z v)) e (keys_alike p x old, (keys_alike p v new, keys_list))

          by : (q : List (Option PlainKeyRef)) → path ≡ q → (b : Aspect) → Known b → AreAlike (put_forms told at p x q v b) (put_forms told other p x q v b)
          by [] e b kb = tt
          by (k ∷ []) e (Own h) kb = own_list h
          by (k ∷ j ∷ ks) e (Own h) kb = own_list h
          by (k ∷ []) e (Member i h) kb = zip_append A (where_so (not (is_exactly_at told k i)) (used at p (Member i h) x ∷ [])) (where_so (may_be_at told k i) (used at p (Own h) v ∷ [])) (where_so (not (is_exactly_at told k i)) (used other p (Member i h) x ∷ [])) (where_so (may_be_at told k i) (used other p (Own h) v ∷ []))
              (zip_where A (not (is_exactly_at told k i)) (used at p (Member i h) x ∷ []) (used other p (Member i h) x ∷ []) (used_alike p x (Member i h) kb old, tt))
              (written_where (may_be_at told k i) h)
          by (k ∷ j ∷ ks) e (Member i h) kb = (used_alike p x (Member i h) kb old, zip_where A (may_be_at told k i) (array_own h) (array_own h) (own_list h))
          by (k ∷ []) e (Others h) kb = (others_alike p x h old, (all_alike p v h new, written_where (may_be_other k told) h))
          by (k ∷ j ∷ ks) e (Others h) kb = (others_alike p x h old, (all_alike p v h new, (own_alike p v h new, own_list h)))
          by (k ∷ []) e Keys kb = all_keys (k ∷ []) e
          by (k ∷ j ∷ ks) e Keys kb = all_keys (k ∷ j ∷ ks) e

    request_list : (h : Half) → AreAlike (request_own h) (request_own h)
    unfolding request_own
    request_list half.Text = (asked, tt)
    request_list half.Array = (yes, tt)

    super_list : (b : Aspect) → AreAlike (super_forms b) (super_forms b)
    unfolding super_forms
    super_list (Own h) = own_list h
    super_list (Member i h) = request_list h
    super_list (Others h) = request_list h
    super_list Keys = (asked, tt)

    fixed_alike : (n : SetName) → IsFixed flow Known n → A (same_form n) (same_form n)
    fixed_alike n is = same n n (c.fixed n is)

    output_list : (p : ℕ) (h : Half) → IsPoint flow p → AreAlike (output_own p h) (output_own p h)
    unfolding output_own
    output_list p half.Text is = (fixed_alike (Output p) is, tt)
    output_list p half.Array is = tt

    explode_list : (p : ℕ) (b : Aspect) → IsPoint flow p → AreAlike (explode_forms told p b) (explode_forms told p b)
    unfolding explode_forms
    explode_list p (Own h) is = own_list h
    explode_list p (Member i h) is = zip_where A (of_told is_integer_key (slice_get told i)) (output_own p h) (output_own p h) (output_list p h is)
    explode_list p (Others h) is = output_list p h is
    explode_list p Keys is = (integer, tt)

    alone : (b : Aspect) (xs ys : Forms) → AreAlike xs ys → AreAlike (where_so (is_own_text b) xs) (where_so (is_own_text b) ys)
    alone b xs ys h = zip_where A (is_own_text b) xs ys h

    there : (p : ℕ) (s : PlainSource) → SetsTo flow p s → IsPoint flow p
    there p s set = (set_point set.0 s set.1, set.2)

    first_read : (p x : ℕ) (s : PlainSource) → SetsTo flow p s → (more : List ℕ) → source_reads s ≡ x ∷ more → ReadsSlot flow p x
    first_read p x s set more e = by_source flow p s x set (subst (λ (xs : List ℕ). Contains xs x) (sym e) (Contains-head x more))

    source_list : (p : ℕ) (s : PlainSource) (b : Aspect) → SetsTo flow p s → Known b → AreAlike (source_forms told at p s b) (source_forms told other p s b)
    unfolding source_forms source_reads
    source_list p (literal_source v) b set kb = alone b (text_form (text_of v) ∷ []) (text_form (text_of v) ∷ []) (text (text_of v), tt)
    source_list p (copy_source x) b set kb = (used_alike p x b kb (first_read p x (copy_source x) set [] refl), tt)
    source_list p (super_source s) b set kb = super_list b
    source_list p (member_source x k) b set kb = member_list p x k b (first_read p x (member_source x k) set (key_slots k) refl)
    source_list p (array_source items) b set kb = array_list p items set b
    source_list p (put_source x path v) b set kb = put_own p x v path set b kb
    source_list p (concat_source xs) b set kb = alone b (same_form (Joined p 0) ∷ []) (same_form (Joined p 0) ∷ []) (fixed_alike (Joined p 0) (xs, set, omega arith), tt)
    source_list p (repeat_source from f args) b set kb =
        let r = first_read p from (repeat_source from f args) set args refl in
        alone b (text_form [] ∷ join_form (Value (Own half.Text) (at p from)) (Value (Own half.Text) (Point p)) ∷ []) (text_form [] ∷ join_form (Value (Own half.Text) (other p from)) (Value (Own half.Text) (Point p)) ∷ []) (
          text [],
          (join (Value (Own half.Text) (at p from)) (Value (Own half.Text) (other p from)) (Value (Own half.Text) (Point p)) (Value (Own half.Text) (Point p)) (c.used (Own half.Text) p from (knows.own half.Text) r) (c.fixed (Value (Own half.Text) (Point p)) (knows.own half.Text, there p (repeat_source from f args) set)), tt),
        )
    source_list p (implode_source sep from f args) b set kb =
        let is = there p (implode_source sep from f args) set in
        alone b (text_form [] ∷ join_form (Piece p) (FurtherPieces p) ∷ []) (text_form [] ∷ join_form (Piece p) (FurtherPieces p) ∷ [])
        (text [], (join (Piece p) (Piece p) (FurtherPieces p) (FurtherPieces p) (c.fixed (Piece p) is) (c.fixed (FurtherPieces p) is), tt))
    source_list p (explode_source operation from f args) b set kb = explode_list p b (there p (explode_source operation from f args) set)
    source_list p (apply_source operation from f args) b set kb = alone b (same_form (Output p) ∷ []) (same_form (Output p) ∷ []) (fixed_alike (Output p) (there p (apply_source operation from f args) set), tt)
    source_list p (number_source work args) b set kb = alone b (integer_form ∷ []) (integer_form ∷ []) (integer, tt)
    source_list p (truth_source work args) b set kb = alone b (text_form (codes "1") ∷ text_form [] ∷ []) (text_form (codes "1") ∷ text_form [] ∷ []) (text (codes "1"), (text [], tt))

    walk_list : (p from : ℕ) (b : Aspect) → ReadsSlot flow p from → AreAlike (walk_forms at p from b) (walk_forms other p from b)
    unfolding walk_forms
    walk_list p from (Own h) r = (all_alike p from h r, tt)
    walk_list p from (Member i h) r = (others_alike p from h r, tt)
    walk_list p from (Others h) r = (others_alike p from h r, tt)
    walk_list p from Keys r = (keys_alike p from r, tt)

    value_list : (p : ℕ) (k : PlainPoint) (b : Aspect) → point_at flow p ≡ Some k → Known b → AreAlike (value_forms told at p k b) (value_forms told other p k b)
    unfolding value_forms reads
    value_list p (set_point x s next) b e kb = source_list p s b (x, next, e) kb
    value_list p (call_point x n args next) b e kb = (fixed_alike (Result b n) (kb, record { point = p; slot = x; args = args; next = next; call = e }), tt)
    value_list p (begin_point x from next) b e kb = (used_alike p from b kb (by_point flow p from (begin_point x from next) e (Contains-head from [])), tt)
    value_list p (key_point x from next) b e kb = alone b (used at p Keys from ∷ []) (used other p Keys from ∷ []) (keys_alike p from (by_point flow p from (key_point x from next) e (Contains-head from [])), tt)
    value_list p (value_point x from next) b e kb = walk_list p from b (by_point flow p from (value_point x from next) e (Contains-head from []))
    value_list p (print_point bytes next) b e kb = tt
    value_list p (echo_point x next) b e kb = tt
    value_list p (branch_point x l r) b e kb = tt
    value_list p (jump_point next) b e kb = tt
    value_list p (next_point x more done) b e kb = tt
    value_list p (return_point x) b e kb = tt
    value_list p (quit_point x) b e kb = tt

    -- the sets that belong to the work of a point
    input_list : (p : ℕ) (k : PlainPoint) → point_at flow p ≡ Some k → AreAlike (input_forms at p (operation_of (source_at k))) (input_forms other p (operation_of (source_at k)))
    unfolding input_forms
    input_list p k e = by (operation_of (source_at k)) refl
      where
        by : (o : Option (Op × List ℕ)) → operation_of (source_at k) ≡ o → AreAlike (input_forms at p o) (input_forms other p o)
        by None is = tt
        by (Some w) is = zip_map A (input_used at p) (input_used other p) w.1 (λ x has. own_alike p x half.Text (operands flow p k w e is x has))

    joined_list : (p i : ℕ) (k : PlainPoint) → point_at flow p ≡ Some k → AreAlike (joined_forms at p (joined_slots (source_at k)) i) (joined_forms other p (joined_slots (source_at k)) i)
    unfolding joined_forms source_reads
    joined_list p i k e = by (joined_slots (source_at k)) refl
      where
        place : (xs : List ℕ) → SetsTo flow p (concat_source xs) → (o : Option ℕ) → slice_get xs i ≡ o → AreAlike (joined_from_place at p i (length xs) o) (joined_from_place other p i (length xs) o)
        place xs set None is = zip_where A (nat_eq i (length xs)) (text_form [] ∷ []) (text_form [] ∷ []) (text [], tt)
        place xs set (Some x) is =
            let r = by_source flow p (concat_source xs) x set (from_place xs i x is) in
            let w = slice_get_within xs i x is in
            (join (Shown (at p x)) (Shown (other p x)) (Joined p (suc i)) (Joined p (suc i)) (c.shown p x r) (c.fixed (Joined p (suc i)) (xs, set, omega (arith, w))), tt)

        by : (o : Option (List ℕ)) → joined_slots (source_at k) ≡ o → AreAlike (joined_forms at p o i) (joined_forms other p o i)
        by None is = tt
        by (Some xs) is = place xs (sets_there flow p k (concat_source xs) e (joined_is (source_at k) xs is)) (slice_get xs i) refl

    -- of members that are joined: what is read
    module _ (p : ℕ) (k : PlainPoint) (e : point_at flow p ≡ Some k) (w : ℕ × ℕ) (is : imploded_slots (source_at k) ≡ Some w) where
      imploded : (i : Implodes (source_at k) w) → SetsTo flow p (implode_source w.0 w.1 i.function i.args)
      imploded i = sets_there flow p k (implode_source w.0 w.1 i.function i.args) e i.is

      separator : ReadsSlot flow p w.0
      unfolding source_reads
      separator = let i = imploded_is (source_at k) w is in by_source flow p (implode_source w.0 w.1 i.function i.args) w.0 (imploded i) (Contains-head w.0 (w.1 ∷ i.args))

      pieces_read : ReadsSlot flow p w.1
      unfolding source_reads
      pieces_read = let i = imploded_is (source_at k) w is in by_source flow p (implode_source w.0 w.1 i.function i.args) w.1 (imploded i) (Contains-later w.0 (w.1 ∷ i.args) w.1 (Contains-head w.1 i.args))

    piece_list : (p : ℕ) (k : PlainPoint) → point_at flow p ≡ Some k → AreAlike (piece_forms at p (imploded_slots (source_at k))) (piece_forms other p (imploded_slots (source_at k)))
    unfolding piece_forms
    piece_list p k e = by (imploded_slots (source_at k)) refl
      where
        by : (o : Option (ℕ × ℕ)) → imploded_slots (source_at k) ≡ o → AreAlike (piece_forms at p o) (piece_forms other p o)
        by None is = tt
        by (Some w) is =
            let r = pieces_read p k e w is in
            (all_alike p w.1 half.Text r, (where_yes (codes "Array") (Members half.Array (at p w.1)) (Members half.Array (other p w.1)) (c.members half.Array p w.1 r), tt))

    further_list : (p : ℕ) (k : PlainPoint) → point_at flow p ≡ Some k → AreAlike (further_forms at p (imploded_slots (source_at k))) (further_forms other p (imploded_slots (source_at k)))
    unfolding further_forms
    further_list p k e = by (imploded_slots (source_at k)) refl
      where
        by : (o : Option (ℕ × ℕ)) → imploded_slots (source_at k) ≡ o → AreAlike (further_forms at p o) (further_forms other p o)
        by None is = tt
        by (Some w) is =
            (join (Value (Own half.Text) (at p w.0)) (Value (Own half.Text) (other p w.0)) (Piece p) (Piece p) (c.used (Own half.Text) p w.0 (knows.own half.Text) (separator p k e w is)) (c.fixed (Piece p) (k, e)), tt)

    any_further_list : (p : ℕ) (k : PlainPoint) → point_at flow p ≡ Some k → (o : Option (ℕ × ℕ)) → AreAlike (any_further_forms p o) (any_further_forms p o)
    unfolding any_further_forms
    any_further_list p k e None = tt
    any_further_list p k e (Some w) = (text [], (join (FurtherPiece p) (FurtherPiece p) (FurtherPieces p) (FurtherPieces p) (c.fixed (FurtherPiece p) (k, e)) (c.fixed (FurtherPieces p) (k, e)), tt))

    -- what is printed from a point on
    next_out : (p q : ℕ) (k : PlainPoint) (l : Leaving) → point_at flow p ≡ Some k → Contains (nexts k) q → H (Out q l) (Out q l)
    next_out p q k l e has = c.fixed (Out q l) (IsTarget.by_edge p q k e has)

    onward_list : (p : ℕ) (k : PlainPoint) (l : Leaving) → point_at flow p ≡ Some k → AreAlike (map (onward l) (nexts k)) (map (onward l) (nexts k))
    onward_list p k l e = zip_map A (onward l) (onward l) (nexts k) (λ q has. same (Out q l) (Out q l) (next_out p q k l e has))

    return_list : (l : Leaving) → AreAlike (on_return l) (on_return l)
    unfolding on_return
    return_list Return = (text [], tt)
    return_list Exit = tt

    exit_list : (l : Leaving) (f g : Form SetName) → A f g → AreAlike (on_exit f l) (on_exit g l)
    unfolding on_exit
    exit_list Return f g h = tt
    exit_list Exit f g h = (h, tt)

    quit_alike : (p : ℕ) (x : Option ℕ) → point_at flow p ≡ Some (quit_point x) → A (quit_form at p x) (quit_form other p x)
    unfolding reads
    quit_alike p None e = text []
    quit_alike p (Some x) e = own_alike p x half.Text (by_point flow p x (quit_point (Some x)) e (Contains-head x []))

    call_list : (p x n next : ℕ) (args : List ℕ) (l : Leaving) → point_at flow p ≡ Some (call_point x n args next) → (o : Option PlainFlowFunction) → function_at flow n ≡ o → AreAlike (call_forms next l o) (call_forms next l o)
    unfolding nexts
    call_list p x n next args l e None is = tt
    call_list p x n next args l e (Some g) is = (
      join (Out g.entry_of Return) (Out g.entry_of Return) (Out next l) (Out next l) (c.fixed (Out g.entry_of Return) (IsTarget.by_entry n g is)) (next_out p next (call_point x n args next) l e (Contains-head next [])),
      exit_list l (same_form (Out g.entry_of Exit)) (same_form (Out g.entry_of Exit)) (same (Out g.entry_of Exit) (Out g.entry_of Exit) (c.fixed (Out g.entry_of Exit) (IsTarget.by_entry n g is))),
    )

    out_list : (p : ℕ) (k : PlainPoint) (l : Leaving) → point_at flow p ≡ Some k → AreAlike (out_forms flow.functions_of at p k l) (out_forms flow.functions_of other p k l)
    unfolding out_forms nexts reads
    out_list p (set_point x s next) l e = onward_list p (set_point x s next) l e
    out_list p (call_point x n args next) l e = call_list p x n next args l e (function_at flow n) refl
    out_list p (print_point bytes next) l e = (before bytes (Out next l) (Out next l) (next_out p next (print_point bytes next) l e (Contains-head next [])), tt)
    out_list p (echo_point x next) l e = (
      join (Shown (at p x)) (Shown (other p x)) (Out next l) (Out next l) (c.shown p x (by_point flow p x (echo_point x next) e (Contains-head x []))) (next_out p next (echo_point x next) l e (Contains-head next [])),
      tt,
    )
    out_list p (branch_point x a b) l e = onward_list p (branch_point x a b) l e
    out_list p (jump_point next) l e = onward_list p (jump_point next) l e
    out_list p (begin_point x from next) l e = onward_list p (begin_point x from next) l e
    out_list p (next_point x more done) l e = onward_list p (next_point x more done) l e
    out_list p (key_point x from next) l e = onward_list p (key_point x from next) l e
    out_list p (value_point x from next) l e = onward_list p (value_point x from next) l e
    out_list p (return_point x) l e = return_list l
    out_list p (quit_point x) l e = exit_list l (quit_form at p x) (quit_form other p x) (quit_alike p x e)

    -- results of functions, and slots at an entry
    pairs_list : (pairs : List (ℕ × ℕ)) (b : Aspect) → Known b → ((t : ℕ × ℕ) → Contains pairs t → ReadsSlot flow t.0 t.1) → AreAlike (used_pairs at pairs b) (used_pairs other pairs b)
    pairs_list pairs b kb reads_it = zip_map A (used_pair at b) (used_pair other b) pairs (λ t has. used_alike t.0 t.1 b kb (reads_it t has))

    returned_read : (n : ℕ) (t : ℕ × ℕ) → Contains (returned_by flow n) t → ReadsSlot flow t.0 t.1
    unfolding returned_by reads
    returned_read n t has = by (function_at flow n) refl has
      where
        by : (o : Option PlainFlowFunction) → function_at flow n ≡ o → Contains (returned_of flow o) t → ReadsSlot flow t.0 t.1
        by None is has = absurd (none_in t has)
        by (Some g) is has = let r = (returned_law flow n g is t.0 t.1).0 has in by_point flow t.0 t.1 (return_point t.1) r.there (Contains-head t.1 [])

    handed_read : (n y : ℕ) (t : ℕ × ℕ) → Contains (handed_to flow n y) t → ReadsSlot flow t.0 t.1
    unfolding reads
    handed_read n y t has =
        let r = (handed_pairs flow n y t.0 t.1).0 has in
        let i = r.argument in
        by_point flow t.0 t.1 (call_point r.slot n r.args r.next) r.call (from_place r.args i.0 t.1 i.2)

    entry_list : (n y : ℕ) (b : Aspect) → Known b → AreAlike (entry_forms at (handed_to flow n y) (is_null_slot flow n y) b) (entry_forms other (handed_to flow n y) (is_null_slot flow n y) b)
    entry_list n y b kb = zip_append A (used_pairs at (handed_to flow n y) b) (where_so (is_null_slot flow n y) (where_so (is_own_text b) (text_form [] ∷ []))) (used_pairs other (handed_to flow n y) b) (where_so (is_null_slot flow n y) (where_so (is_own_text b) (text_form [] ∷ [])))
        (pairs_list (handed_to flow n y) b kb (handed_read n y))
        (zip_where A (is_null_slot flow n y) (where_so (is_own_text b) (text_form [] ∷ [])) (where_so (is_own_text b) (text_form [] ∷ [])) (alone b (text_form [] ∷ []) (text_form [] ∷ []) (text [], tt)))

    -- the sets that belong to a point, where there is the point
    at_there : (n : SetName) (o : Option PlainPoint) → ((k : PlainPoint) → o ≡ Some k → AreAlike (forms_from told flow.functions_of at n k) (forms_from told flow.functions_of other n k))
        → AreAlike (forms_there (forms_from told flow.functions_of at n) o) (forms_there (forms_from told flow.functions_of other n) o)
    at_there n None each = tt
    at_there n (Some k) each = each k refl

    -- the sets that are no version's, and no outputs
    abbrev pub IsPlain : SetName → Type 0
    IsPlain (Value b (Point p)) = ⊤
    IsPlain (Value b (Entry f x)) = ⊤
    IsPlain (Value b (Join p x)) = ⊤
    IsPlain (Members h v) = ⊥
    IsPlain (Shown v) = ⊥
    IsPlain (Result b n) = ⊤
    IsPlain (Input p) = ⊤
    IsPlain (Output p) = ⊥
    IsPlain (Joined p i) = ⊤
    IsPlain (Piece p) = ⊤
    IsPlain (FurtherPiece p) = ⊤
    IsPlain (FurtherPieces p) = ⊤
    IsPlain (Out q l) = ⊤

    pub carried : (n : SetName) → IsPlain n → IsKnown Known n → AreAlike (forms at flow n) (forms other flow n)
    unfolding point_of forms_from forms_beside
    carried (Value b (Point p)) is kb = at_there (Value b (Point p)) (point_at flow p) (λ k e. value_list p k b e kb)
    carried (Value b (Entry n y)) is kb = entry_list n y b kb
    carried (Value b (Join p x)) is kb = tt
    carried (Members h v) is kb = absurd is
    carried (Shown v) is kb = absurd is
    carried (Result b n) is kb = pairs_list (returned_by flow n) b kb (returned_read n)
    carried (Input p) is kb = at_there (Input p) (point_at flow p) (λ k e. input_list p k e)
    carried (Output p) is kb = absurd is
    carried (Joined p i) is kb = at_there (Joined p i) (point_at flow p) (λ k e. joined_list p i k e)
    carried (Piece p) is kb = at_there (Piece p) (point_at flow p) (λ k e. piece_list p k e)
    carried (FurtherPiece p) is kb = at_there (FurtherPiece p) (point_at flow p) (λ k e. further_list p k e)
    carried (FurtherPieces p) is kb = at_there (FurtherPieces p) (point_at flow p) (λ k e. any_further_list p k e (imploded_slots (source_at k)))
    carried (Out q l) is kb = at_there (Out q l) (point_at flow q) (λ k e. out_list q k l e)

    -- the outputs of the operation at a point, which are on its inputs
    output_by : (p : ℕ) (o : Option (Op × List ℕ)) (f : Form SetName) → IsPoint flow p → Contains (output_forms p o) f → (operation : Op) × (f ≡ apply_form operation (Input p))
    unfolding output_forms
    output_by p None f is has = absurd (none_in f has)
    output_by p (Some w) f is (zero, within, e) = (w.0, sym e)
    output_by p (Some w) f is (suc i, within, e) = absurd (omega (arith, within))
