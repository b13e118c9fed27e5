-- What a value of a request file makes: arrays of values, which are nested no deeper than the file.
use Rattle.std.proofs.Common.{◌≡◌, ◌≤◌, ℕ, suc, Bool, true, false, ◌&&◌, if◌then◌else◌, nat_lt, List, [], ◌∷◌, ◌++◌, Less, Ok, Err, refl, sym, ap, ◌∙◌, subst, arith, string_bytes, string_cmp, append_assoc}
use Rattle.std.specs.List.{AllByRecursion}
use Rattle.std.specs.List.Sorted.{IsStrictlySortedBy}
use Rattle.std.specs.Map.{keys_of}
use Rattle.std.proofs.lemmas.Bool.{and_parts, lt-ltb}
use Rattle.plain_values.specs.Plain.{Plain, PlainKey, Pairs, array, empty, pair, depth, deepest}
use Rattle.plain_values.specs.Keys.{same_key}
use Rattle.plain_values.specs.Lawful.{IsKey, HasValues}
use Rattle.plain_values.specs.Members.{put_pair, within_depth}
use Rattle.plain_values.specs.declared.fault.Fault.{Fault}
use Rattle.plain_values.specs.declared.fault.Fault.TheVariants.{Long}
use Rattle.serde_json.specs.Data.{Data, boolean, number, string, object, Items, no_items, item, Members, no_members, member, items_depth, members_depth}
use Rattle.serde_json.specs.Data as json
use Rattle.serde_json.specs.View.{view, members_view}
use Rattle.serde_json.proofs.Views.{Entry}
use Rattle.function_laws.proofs.Arrays.{HasPairs, no_pairs, put_has}
use Rattle.request_reading.specs.RequestFile.{name_key, value_of, places_of, members_of, is_member, are_members, fits_text}
use Rattle.request_reading.proofs.KeyLemmas.{name_apart, name_is_key}

-- an array is nested no deeper than the value that it is made of
mutual
  pub shallow : (d : Data) → depth (value_of d) ≤ json.depth d
  shallow json.null = omega arith
  shallow (boolean b) = omega arith
  shallow (number n) = omega arith
  shallow (string s) = omega arith
  shallow (json.array ds) = omega (arith, shallow_items 0 ds)
  shallow (object ms) = omega (arith, shallow_members ms)

  pub shallow_items : (n : ℕ) (ds : Items) → deepest (places_of n ds) ≤ items_depth ds
  shallow_items n no_items = omega arith
  shallow_items n (item d ds) = omega (arith, shallow d, shallow_items (suc n) ds)

  pub shallow_members : (ms : Members) → deepest (members_of ms) ≤ members_depth ms
  shallow_members no_members = omega arith
  shallow_members (member name d ms) = omega (arith, shallow d, shallow_members ms)

pub value_nests : (n : ℕ) (d : Data) (v : Plain) → v ≡ value_of d → json.depth d ≤ n → depth v ≤ n
value_nests n d v e h = subst (λ u. depth u ≤ n) (sym e) (omega (arith, shallow d, h))

-- a put nests an array no deeper than its members
pub deepest_put : (n : ℕ) (ps : Pairs) (k : PlainKey) (v : Plain) → deepest ps ≤ n → depth v ≤ n → deepest (put_pair ps k v) ≤ n
deepest_put n empty k v h g = omega (arith, g)
deepest_put n (pair j u ps) k v h g = by (same_key j k) (deepest_put n ps k v (omega (arith, h)) g)
  where
    by : (b : Bool) → deepest (put_pair ps k v) ≤ n → deepest (if b then pair j v ps else pair j u (put_pair ps k v)) ≤ n
    by true rest = omega (arith, h, g)
    by false rest = omega (arith, h, rest)

pub never_long : (ps : Pairs) (fault : Fault) → deepest ps ≤ 126 → within_depth ps ≡ Err fault → ⊥
never_long ps fault h e = by (nat_lt (deepest ps) 1000) (lt-ltb (deepest ps) 1000 (omega (arith, h))) e
  where
    by : (b : Bool) → b ≡ true → (if b then Ok (array ps) else Err Long) ≡ Err fault → ⊥
    by true t g = cc
    by false t g = cc

pub made_is : (ps qs : Pairs) → within_depth ps ≡ Ok (array qs) → qs ≡ ps
made_is ps qs e = by (nat_lt (deepest ps) 1000) e
  where
    by : (b : Bool) → (if b then Ok (array ps) else Err Long) ≡ Ok (array qs) → qs ≡ ps
    by true g = cc
    by false g = cc

-- the array so far
pub record IsMade (made : Pairs) : Type 0 where
  pub has : HasPairs made
  pub low : deepest made ≤ 126

pub none_made : (made : Pairs) → made ≡ empty → IsMade made
none_made made e = subst IsMade (sym e) (record { has = no_pairs; low = omega arith })

pub put_made : (made : Pairs) (k : PlainKey) (v : Plain) → IsMade made → IsKey k → HasValues v → depth v ≤ 126 → IsMade (put_pair made k v)
put_made made k v m i h g = record { has = put_has made k v m.has i h; low = deepest_put 126 made k v m.low g }

pub made_values : (made : Pairs) → IsMade made → HasValues (array made)
made_values made m = (m.has.distinct, m.has.pairs)

-- the members of an object, of which those of `rest` are still to come
pub record MembersMade (all rest : List Entry) (made : Pairs) : Type 0 where
  pub done : List Entry
  pub split : all ≡ done ++ rest
  pub pairs : made ≡ members_of (members_view done)
  pub is_made : IsMade made
  pub form : are_members (members_view rest) ≡ true
  pub nests : members_depth (members_view rest) ≤ 126

pub members_begin : (all rest : List Entry) (made : Pairs) → made ≡ empty → rest ≡ all → are_members (members_view all) ≡ true → members_depth (members_view all) ≤ 126 → MembersMade all rest made
members_begin all rest made e r f n = record {
  done = [];
  split = sym r;
  pairs = e;
  is_made = none_made made e;
  form = subst (λ es. are_members (members_view es) ≡ true) (sym r) f;
  nests = subst (λ es. members_depth (members_view es) ≤ 126) (sym r) n;
}

-- the next member
pub record IsNext (e : Entry) : Type 0 where
  pub short : fits_text (string_bytes e.0) ≡ true
  pub form : is_member (view e.1) ≡ true
  pub nests : json.depth (view e.1) ≤ 126

pub next_member : (all rest : List Entry) (made : Pairs) (e : Entry) (es : List Entry) → MembersMade all rest made → rest ≡ e ∷ es → IsNext e
next_member all rest made e es m r =
    let form = and_parts (fits_text (string_bytes e.0)) (is_member (view e.1) && are_members (members_view es)) (subst (λ xs. are_members (members_view xs) ≡ true) r m.form) in
    let more = and_parts (is_member (view e.1)) (are_members (members_view es)) form.1 in
    let nests : members_depth (members_view (e ∷ es)) ≤ 126 = subst (λ xs. members_depth (members_view xs) ≤ 126) r m.nests in
    record { short = form.0; form = more.0; nests = omega (arith, nests) }

-- a name behind those before it is put last
put_member : (done : List Entry) (e : Entry) (more : List Entry) → IsStrictlySortedBy string_cmp (keys_of (done ++ e ∷ more)) → put_pair (members_of (members_view done)) (name_key (string_bytes e.0)) (value_of (view e.1)) ≡ members_of (members_view (done ++ e ∷ []))
unfolding IsStrictlySortedBy
put_member [] e more h = refl
put_member (first ∷ done) e more h = by (put_member done e more h.1) (same_key (name_key (string_bytes first.0)) (name_key (string_bytes e.0))) (name_apart (string_bytes first.0) (string_bytes e.0) (before done h.0))
  where
    before : (es : List Entry) → AllByRecursion (λ y. string_cmp first.0 y ≡ Less) (keys_of (es ++ e ∷ more)) → string_cmp first.0 e.0 ≡ Less
    before [] g = g.0
    before (x ∷ es) g = before es g.1

    by : put_pair (members_of (members_view done)) (name_key (string_bytes e.0)) (value_of (view e.1)) ≡ members_of (members_view (done ++ e ∷ [])) → (b : Bool) → b ≡ false → (if b then pair (name_key (string_bytes first.0)) (value_of (view e.1)) (members_of (members_view done)) else pair (name_key (string_bytes first.0)) (value_of (view first.1)) (put_pair (members_of (members_view done)) (name_key (string_bytes e.0)) (value_of (view e.1)))) ≡ pair (name_key (string_bytes first.0)) (value_of (view first.1)) (members_of (members_view (done ++ e ∷ [])))
    by rest true f = cc
    by rest false f = ap (pair (name_key (string_bytes first.0)) (value_of (view first.1))) rest

pub member_more : (all rest : List Entry) (made made' : Pairs) (e : Entry) (es : List Entry) (k : PlainKey) (v : Plain) → IsStrictlySortedBy string_cmp (keys_of all) → MembersMade all rest made → rest ≡ e ∷ es
    → k ≡ name_key (string_bytes e.0) → v ≡ value_of (view e.1) → HasValues v → made' ≡ put_pair made k v → MembersMade all es made'
member_more all rest made made' e es k v sorted m r kis vis has is =
    let next = next_member all rest made e es m r in
    let split : all ≡ m.done ++ e ∷ es = m.split ∙ ap (λ xs. m.done ++ xs) r in
    let form = and_parts (fits_text (string_bytes e.0)) (is_member (view e.1) && are_members (members_view es)) (subst (λ xs. are_members (members_view xs) ≡ true) r m.form) in
    let more = and_parts (is_member (view e.1)) (are_members (members_view es)) form.1 in
    let nests : members_depth (members_view (e ∷ es)) ≤ 126 = subst (λ xs. members_depth (members_view xs) ≤ 126) r m.nests in
    let low : depth v ≤ 126 = subst (λ u. depth u ≤ 126) (sym vis) (omega (arith, shallow (view e.1), next.nests)) in
    record {
      done = m.done ++ e ∷ [];
      split = split ∙ sym (append_assoc m.done (e ∷ []) es);
      pairs = is ∙ ap (λ ps. put_pair ps k v) m.pairs ∙ ap (λ j. put_pair (members_of (members_view m.done)) j v) kis ∙ ap (put_pair (members_of (members_view m.done)) (name_key (string_bytes e.0))) vis
          ∙ put_member m.done e es (subst (λ xs. IsStrictlySortedBy string_cmp (keys_of xs)) split sorted);
      is_made = subst IsMade (sym is) (put_made made k v m.is_made (subst IsKey (sym kis) (name_is_key (string_bytes e.0) next.short)) has low);
      form = more.1;
      nests = omega (arith, nests);
    }
