-- Array literals and writes.
use Rattle.std.proofs.Common.{◌≡◌, ℕ, ℤ, Bool, true, false, if◌then◌else◌, nat_lt, List, [], ◌∷◌, Option, Some, None, Result, Ok, Err, refl, sym, subst, arith}
use Rattle.std.specs.Prelude.{All, Contains, map}
use Rattle.std.proofs.lemmas.List.Elements.{All-head, All-tail}
use Rattle.string_functions.proofs.Members.{Contains-head, Contains-later}
use Rattle.plain_values.specs.Plain.{Plain, PlainKey, Pairs, int_key, array, empty, deepest}
use Rattle.plain_values.specs.Keys.{key_of}
use Rattle.plain_values.specs.Members.{put_pair, within_depth, put, push_at, key_after, largest_key}
use Rattle.plain_values.specs.Outcome.{go_on}
use Rattle.plain_values.specs.Paths.{add_item, add_items, literal_of}
use Rattle.plain_values.specs.Lawful.{IsValue, PairsHaveValues}
use Rattle.plain_values.specs.declared.fault.Fault.{Fault}
use Rattle.plain_values.specs.declared.fault.Fault.TheVariants.{Long}
use Rattle.flow_code.specs.Points.{PlainFlow, PlainKeyRef, int_ref, text_ref, read_ref, PlainSource, array_source}
use Rattle.flow_code.specs.Lawful.{IsItemKey, IsKeyLiteral}
use Rattle.flow_code.specs.Runs.{Slots, key_value, maybe_key_value, item_value}
use Rattle.loose_sets.specs.Reaching.{at_point}
use Rattle.loose_sets.specs.Keys.{told_keys}
use Rattle.loose_sets.specs.declared.name.Aspect.TheVariants.{Own, Member, Others, Keys}
use Rattle.loose_sets.specs.declared.name.Half.TheVariants as half
use Rattle.loose_soundness.proofs.Names.{use_of, all_of}
use Rattle.loose_sets.specs.Table.{SetsTo}
use Rattle.loose_soundness.proofs.SourceRows as sources
use Rattle.loose_soundness.proofs.SourceRows.{IsSourceRow}
use Rattle.function_laws.specs.Parts.{IsItem}
use Rattle.function_laws.proofs.Arrays.{next_key, item_value_is}
use Rattle.function_laws.proofs.Texts.{text_value, number_value}
use Rattle.loose_soundness.proofs.Covers.{KeysInAll, MembersIn, place, own_wider, inside_wider, keys_wider, covers_own, covers_keys, members_put, but_for, keys_put}
use Rattle.loose_soundness.proofs.Lying.{HasIn, SaysIn, Def, DefYes, Use, UseYes, Lies, UseLies, by_place_told, all_inside, of_source}
use Rattle.loose_soundness.proofs.Simple.{yes_in, from_in, from_yes}
use Rattle.loose_soundness.proofs.Keys.{Resolved, by_key, by_next, may_be_it, may_be_none, KeyLies, key_text}

-- a literal key is a value
pub key_ref_value : (flow : PlainFlow) (p : ℕ) (f : Slots) (k : PlainKeyRef) → IsKeyLiteral k → KeyLies flow p f (Some k) → IsValue (key_value f k)
unfolding key_value
key_ref_value flow p f (int_ref z) h i = number_value z h
key_ref_value flow p f (text_ref t) h i = text_value t h
key_ref_value flow p f (read_ref y) h i = i.value

within_is : (ps : Pairs) (u : Plain) → within_depth ps ≡ Ok u → u ≡ array ps
within_is ps u e = by (nat_lt (deepest ps) 1000) e
  where
    by : (b : Bool) → (if b then Ok (array ps) else Err Long) ≡ Ok u → u ≡ array ps
    by true g = cc
    by false g = cc

-- what an item adds to an array: a pair under the key that it comes to
pub record Added (f : Slots) (k : Option PlainKeyRef) (ps : Pairs) (new u : Plain) : Type 0 where
  pub key : PlainKey
  pub resolved : Resolved f k key
  pub is : u ≡ array (put_pair ps key new)

added : (flow : PlainFlow) (p : ℕ) (f : Slots) (k : Option PlainKeyRef) (ps : Pairs) (new u : Plain) → PairsHaveValues ps → add_item (array ps) (maybe_key_value f k) new ≡ Ok u → Added f k ps new u
added flow p f None ps new u h e = by (key_after (largest_key ps)) refl e
  where
    by : (o : Option ℤ) → key_after (largest_key ps) ≡ o → push_at ps o new ≡ Ok u → Added f None ps new u
    by None i g = cc
    by (Some z) i g = record { key = int_key z; resolved = by_next z (next_key ps z h i); is = within_is (put_pair ps (int_key z) new) u g }
added flow p f (Some k) ps new u h e = by (key_of (key_value f k)) refl e
  where
    by : (r : Result PlainKey Fault) → key_of (key_value f k) ≡ r → go_on r (λ k. put (array ps) k new) ≡ Ok u → Added f (Some k) ps new u
    by (Err fault) i g = cc
    by (Ok c) i g = record { key = c; resolved = by_key k c i; is = within_is (put_pair ps c new) u g }

module _ (flow : PlainFlow) (p : ℕ) (f : Slots) where
  -- what is known of an item: its key, and its value
  pub record ItemLies (item : Option PlainKeyRef × ℕ) : Type 0 where
    pub key : KeyLies flow p f item.0
    pub literal : IsItemKey item
    pub value : UseLies flow item.1 p (f item.1)

  -- what the sets of an array literal say of an array that is made so far
  record Made (ps : Pairs) : Type 0 where
    members_of : MembersIn (told_keys flow) (Def flow (at_point p)) (DefYes flow (at_point p)) ps
    keys_are : KeysInAll (Def flow (at_point p) Keys) ps
    value : IsValue (array ps)

  module _ (items : List (Option PlainKeyRef × ℕ)) (st : SetsTo flow p (array_source items)) where
    abbrev s : PlainSource
    s = array_source items

    one_more : (k : Option PlainKeyRef) (v : ℕ) (ps : Pairs) (u : Plain) → Contains items (k, v) → ItemLies (k, v) → Made ps → IsValue u → (a : Added f k ps (f v) u) → Made (put_pair ps a.key (f v))
    one_more k v ps u c h m i a =
        let told = told_keys flow in
        let o = covers_own told (Use flow v p) (UseYes flow v p) (f v) h.value.covers in
        record {
          members_of = members_put told (Def flow (at_point p)) (DefYes flow (at_point p)) a.key (f v) ps ((m.value).parts).0
              (own_wider (Use flow v p (Own half.Text)) (Def flow (at_point p) (place told a.key half.Text)) (UseYes flow v p (Own half.Array)) (DefYes flow (at_point p) (place told a.key half.Array))
              (by_place_told flow a.key half.Text (λ b. (w : List ℕ) → Use flow v p (Own half.Text) w → Def flow (at_point p) b w)
              (λ i t. from_in flow p s (Member i half.Text) (use_of (Own half.Text) v p) st (sources.array_member items k v i half.Text c t (may_be_it f k a.key a.resolved)))
              (λ n. from_in flow p s (Others half.Text) (use_of (Own half.Text) v p) st (sources.array_other items k v half.Text c (may_be_none f k a.key told a.resolved n))))
              (by_place_told flow a.key half.Array (λ b. UseYes flow v p (Own half.Array) → DefYes flow (at_point p) b)
              (λ i t. from_yes flow p s (Member i half.Array) (use_of (Own half.Array) v p) st (sources.array_member items k v i half.Array c t (may_be_it f k a.key a.resolved)))
              (λ n. from_yes flow p s (Others half.Array) (use_of (Own half.Array) v p) st (sources.array_other items k v half.Array c (may_be_none f k a.key told a.resolved n))))
              (f v) o)
              (inside_wider (HasIn flow (all_of half.Text v p)) (Def flow (at_point p) (Others half.Text)) (SaysIn flow (all_of half.Array v p)) (DefYes flow (at_point p) (Others half.Array))
              (from_in flow p s (Others half.Text) (all_of half.Text v p) st (sources.array_deep items k v half.Text c))
              (from_yes flow p s (Others half.Array) (all_of half.Array v p) st (sources.array_deep items k v half.Array c)) (f v) (all_inside flow v p (f v) h.value.covers))
              (but_for a.key told (Def flow (at_point p)) (Def flow (at_point p)) (DefYes flow (at_point p)) (DefYes flow (at_point p)) (λ j n w x. x) (λ j n x. x) (λ w x. x) (λ x. x) ps m.members_of);
          keys_are = keys_put (Def flow (at_point p) Keys) a.key (f v) ps
              (key_text flow p f k a.key (λ g t. of_source flow p s Keys g st (sources.array_key items k v g c t)) h.key a.resolved)
              (keys_wider (Use flow v p Keys) (Def flow (at_point p) Keys) (from_in flow p s Keys (use_of Keys v p) st (sources.array_deep_key items k v c)) (f v)
              (covers_keys told (Use flow v p) (UseYes flow v p) (f v) h.value.covers))
              m.keys_are;
          value = subst IsValue a.is i;
        }

    item_is : (item : Option PlainKeyRef × ℕ) → ItemLies item → IsItem (item_value f item)
    item_is (None, v) h = record { key = tt; value = h.value.value }
    item_is (Some k, v) h = record { key = key_ref_value flow p f k h.literal h.key; value = h.value.value }

    all_items : (rest : List (Option PlainKeyRef × ℕ)) (ps : Pairs) (u : Plain) → ((item : Option PlainKeyRef × ℕ) → Contains rest item → Contains items item) → All ItemLies rest → Made ps
        → add_items (map (item_value f) rest) (array ps) ≡ Ok u → Lies flow (at_point p) u
    all_items [] ps u sub h m e =
        let is : u ≡ array ps = cc in
        subst (Lies flow (at_point p)) (sym is) (record { covers = (yes_in flow p s (Own half.Array) st (sources.array_array items), m.members_of, m.keys_are); value = m.value })
    all_items ((k, v) ∷ rest) ps u sub h m e =
        by (λ qs. all_items rest qs u (λ item i. sub item (Contains-later (k, v) rest item i)) (All-tail ItemLies (k, v) rest h)) (add_item (array ps) (maybe_key_value f k) (f v)) refl e
      where
        by : ((qs : Pairs) → Made qs → add_items (map (item_value f) rest) (array qs) ≡ Ok u → Lies flow (at_point p) u)
            → (r : Result Plain Fault) → add_item (array ps) (maybe_key_value f k) (f v) ≡ r → go_on r (add_items (map (item_value f) rest)) ≡ Ok u → Lies flow (at_point p) u
        by next (Err fault) i g = cc
        by next (Ok made) i g =
            let it : ItemLies (k, v) = All-head ItemLies (k, v) rest h in
            let a = added flow p f k ps (f v) made ((m.value).parts).1 i in
            let val = item_value_is (array ps) (maybe_key_value f k) (f v) made m.value (item_is (k, v) it).key (it.value).value i in
            next (put_pair ps a.key (f v)) (one_more k v ps made (sub (k, v) (Contains-head (k, v) rest)) it m val a)
            (subst (λ made. add_items (map (item_value f) rest) made ≡ Ok u) a.is g)

    pub literal_lies : (u : Plain) → All ItemLies items → literal_of (map (item_value f) items) ≡ Ok u → Lies flow (at_point p) u
    literal_lies u h e = all_items items empty u (λ item i. i) h (record { members_of = tt; keys_are = tt; value = record { parts = (refl, tt); shallow = omega arith } }) e
