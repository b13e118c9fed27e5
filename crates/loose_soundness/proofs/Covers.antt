-- When sets cover a value: what is said of a value by its aspects holds of it.
use Rattle.std.proofs.Common.{◌≡◌, ℕ, Bool, true, false, not, ◌&&◌, ◌||◌, if◌then◌else◌, List, [], refl, sym, subst}
use Rattle.std.specs.Prelude.{⊤}
use Rattle.std.specs.List.{list_any}
use Rattle.plain_values.specs.Plain.{Plain, PlainKey, Pairs, null, flag, int, text, array, empty, pair, keys}
use Rattle.plain_values.specs.Keys.{same_key, is_absent, are_distinct}
use Rattle.plain_values.specs.Members.{member, put_pair}
use Rattle.plain_values.specs.Text.{text_of}
use Rattle.plain_values.specs.Walks.{value_of_key}
use Rattle.plain_values.proofs.SameKeys.{same_is}
use Rattle.loose_sets.specs.Uses.{in_member, number_from}
use Rattle.loose_sets.specs.declared.name.Aspect.{Aspect}
use Rattle.loose_sets.specs.declared.name.Aspect.TheVariants.{Own, Others, Keys}
use Rattle.loose_sets.specs.declared.name.Half.{Half}
use Rattle.loose_sets.specs.declared.name.Half.TheVariants as half

-- texts and a yes
abbrev pub Texts : Type 1
Texts = List ℕ → Type 0

-- the value itself: its text where it is no array, and a yes where it is one
abbrev pub OwnIn : Texts → Type 0 → Plain → Type 0
OwnIn T A null = T []
OwnIn T A (flag b) = T (text_of (flag b))
OwnIn T A (int z) = T (text_of (int z))
OwnIn T A (text t) = T t
OwnIn T A (array ps) = A

abbrev mutual
  -- all members of a value, at any depth
  pub InsideIn : Texts → Type 0 → Plain → Type 0
  InsideIn T A null = ⊤
  InsideIn T A (flag b) = ⊤
  InsideIn T A (int z) = ⊤
  InsideIn T A (text t) = ⊤
  InsideIn T A (array ps) = AllIn T A ps

  pub AllIn : Texts → Type 0 → Pairs → Type 0
  AllIn T A empty = ⊤
  AllIn T A (pair k v ps) = OwnIn T A v × InsideIn T A v × AllIn T A ps

abbrev mutual
  -- all keys of a value, at any depth
  pub KeysIn : Texts → Plain → Type 0
  KeysIn K null = ⊤
  KeysIn K (flag b) = ⊤
  KeysIn K (int z) = ⊤
  KeysIn K (text t) = ⊤
  KeysIn K (array ps) = KeysInAll K ps

  pub KeysInAll : Texts → Pairs → Type 0
  KeysInAll K empty = ⊤
  KeysInAll K (pair k v ps) = K (text_of (value_of_key k)) × KeysIn K v × KeysInAll K ps

-- sets of all aspects, as texts and as a yes
abbrev pub Has : Type 1
Has = Aspect → List ℕ → Type 0

abbrev pub Yes : Type 1
Yes = Aspect → Type 0

-- the aspect of a member under a key
abbrev pub place : List PlainKey → PlainKey → Half → Aspect
place told k half = in_member half (number_from 0 k told)

abbrev pub MembersIn : List PlainKey → Has → Yes → Pairs → Type 0
MembersIn told H Y empty = ⊤
MembersIn told H Y (pair k v ps) = OwnIn (H (place told k half.Text)) (Y (place told k half.Array)) v × InsideIn (H (Others half.Text)) (Y (Others half.Array)) v × MembersIn told H Y ps

abbrev pub Covers : List PlainKey → Has → Yes → Plain → Type 0
Covers told H Y null = H (Own half.Text) []
Covers told H Y (flag b) = H (Own half.Text) (text_of (flag b))
Covers told H Y (int z) = H (Own half.Text) (text_of (int z))
Covers told H Y (text t) = H (Own half.Text) t
Covers told H Y (array ps) = Y (Own half.Array) × MembersIn told H Y ps × KeysInAll (H Keys) ps

-- wider sets
pub own_wider : (T U : Texts) (A B : Type 0) → ((w : List ℕ) → T w → U w) → (A → B) → (v : Plain) → OwnIn T A v → OwnIn U B v
own_wider T U A B t a null h = t [] h
own_wider T U A B t a (flag b) h = t _ h
own_wider T U A B t a (int z) h = t _ h
own_wider T U A B t a (text w) h = t w h
own_wider T U A B t a (array ps) h = a h

mutual
  pub inside_wider : (T U : Texts) (A B : Type 0) → ((w : List ℕ) → T w → U w) → (A → B) → (v : Plain) → InsideIn T A v → InsideIn U B v
  inside_wider T U A B t a null h = tt
  inside_wider T U A B t a (flag b) h = tt
  inside_wider T U A B t a (int z) h = tt
  inside_wider T U A B t a (text w) h = tt
  inside_wider T U A B t a (array ps) h = all_wider T U A B t a ps h

  pub all_wider : (T U : Texts) (A B : Type 0) → ((w : List ℕ) → T w → U w) → (A → B) → (ps : Pairs) → AllIn T A ps → AllIn U B ps
  all_wider T U A B t a empty h = tt
  all_wider T U A B t a (pair k v ps) h = (own_wider T U A B t a v h.0, inside_wider T U A B t a v h.1, all_wider T U A B t a ps h.2)

mutual
  pub keys_wider : (K L : Texts) → ((w : List ℕ) → K w → L w) → (v : Plain) → KeysIn K v → KeysIn L v
  keys_wider K L t null h = tt
  keys_wider K L t (flag b) h = tt
  keys_wider K L t (int z) h = tt
  keys_wider K L t (text w) h = tt
  keys_wider K L t (array ps) h = all_keys_wider K L t ps h

  pub all_keys_wider : (K L : Texts) → ((w : List ℕ) → K w → L w) → (ps : Pairs) → KeysInAll K ps → KeysInAll L ps
  all_keys_wider K L t empty h = tt
  all_keys_wider K L t (pair k v ps) h = (t _ h.0, keys_wider K L t v h.1, all_keys_wider K L t ps h.2)

pub members_wider : (told : List PlainKey) (H G : Has) (Y Z : Yes) → ((a : Aspect) (w : List ℕ) → H a w → G a w) → ((a : Aspect) → Y a → Z a) → (ps : Pairs) → MembersIn told H Y ps → MembersIn told G Z ps
members_wider told H G Y Z t a empty h = tt
members_wider told H G Y Z t a (pair k v ps) h =
    (own_wider _ _ _ _ (t (place told k half.Text)) (a (place told k half.Array)) v h.0, inside_wider _ _ _ _ (t (Others half.Text)) (a (Others half.Array)) v h.1, members_wider told H G Y Z t a ps h.2)

pub covers_wider : (told : List PlainKey) (H G : Has) (Y Z : Yes) → ((a : Aspect) (w : List ℕ) → H a w → G a w) → ((a : Aspect) → Y a → Z a) → (v : Plain) → Covers told H Y v → Covers told G Z v
covers_wider told H G Y Z t a null h = t (Own half.Text) [] h
covers_wider told H G Y Z t a (flag b) h = t (Own half.Text) _ h
covers_wider told H G Y Z t a (int z) h = t (Own half.Text) _ h
covers_wider told H G Y Z t a (text w) h = t (Own half.Text) w h
covers_wider told H G Y Z t a (array ps) h = (a (Own half.Array) h.0, members_wider told H G Y Z t a ps h.1, all_keys_wider _ _ (t Keys) ps h.2)

-- what covers a value says of it alone, of its members, and of its keys
pub covers_own : (told : List PlainKey) (H : Has) (Y : Yes) (v : Plain) → Covers told H Y v → OwnIn (H (Own half.Text)) (Y (Own half.Array)) v
covers_own told H Y null h = h
covers_own told H Y (flag b) h = h
covers_own told H Y (int z) h = h
covers_own told H Y (text t) h = h
covers_own told H Y (array ps) h = h.0

pub covers_keys : (told : List PlainKey) (H : Has) (Y : Yes) (v : Plain) → Covers told H Y v → KeysIn (H Keys) v
covers_keys told H Y null h = tt
covers_keys told H Y (flag b) h = tt
covers_keys told H Y (int z) h = tt
covers_keys told H Y (text t) h = tt
covers_keys told H Y (array ps) h = h.2

-- members as members at any depth
pub members_all : (told : List PlainKey) (H : Has) (Y : Yes) (T : Texts) (A : Type 0)
    → ((k : PlainKey) (w : List ℕ) → H (place told k half.Text) w → T w) → ((k : PlainKey) → Y (place told k half.Array) → A)
    → ((w : List ℕ) → H (Others half.Text) w → T w) → (Y (Others half.Array) → A) → (ps : Pairs) → MembersIn told H Y ps → AllIn T A ps
members_all told H Y T A t a u b empty h = tt
members_all told H Y T A t a u b (pair k v ps) h = (own_wider _ _ _ _ (t k) (a k) v h.0, inside_wider _ _ _ _ u b v h.1, members_all told H Y T A t a u b ps h.2)

-- and the reverse, where the texts of the members go under each key
pub all_members : (told : List PlainKey) (H : Has) (Y : Yes) (T : Texts) (A : Type 0)
    → ((k : PlainKey) (w : List ℕ) → T w → H (place told k half.Text) w) → ((k : PlainKey) → A → Y (place told k half.Array))
    → ((w : List ℕ) → T w → H (Others half.Text) w) → (A → Y (Others half.Array)) → (ps : Pairs) → AllIn T A ps → MembersIn told H Y ps
all_members told H Y T A t a u b empty h = tt
all_members told H Y T A t a u b (pair k v ps) h = (own_wider _ _ _ _ (t k) (a k) v h.0, inside_wider _ _ _ _ u b v h.1, all_members told H Y T A t a u b ps h.2)

-- a value whose Own text is in a set and which has no member
pub covers_text : (told : List PlainKey) (H : Has) (Y : Yes) (v : Plain) → OwnIn (H (Own half.Text)) ⊥ v → Covers told H Y v
covers_text told H Y null h = h
covers_text told H Y (flag b) h = h
covers_text told H Y (int z) h = h
covers_text told H Y (text t) h = h
covers_text told H Y (array ps) h = absurd h

-- a value by itself and by its members at any depth
pub covers_deep : (told : List PlainKey) (H : Has) (Y : Yes) (T : Texts) (A : Type 0)
    → ((k : PlainKey) (w : List ℕ) → T w → H (place told k half.Text) w) → ((k : PlainKey) → A → Y (place told k half.Array))
    → ((w : List ℕ) → T w → H (Others half.Text) w) → (A → Y (Others half.Array)) → (v : Plain) → OwnIn (H (Own half.Text)) (Y (Own half.Array)) v → InsideIn T A v → KeysIn (H Keys) v
    → Covers told H Y v
covers_deep told H Y T A t a u b null o i k = o
covers_deep told H Y T A t a u b (flag x) o i k = o
covers_deep told H Y T A t a u b (int z) o i k = o
covers_deep told H Y T A t a u b (text w) o i k = o
covers_deep told H Y T A t a u b (array ps) o i k = (o, all_members told H Y T A t a u b ps i, k)

-- the member of a key
pub member_own : (told : List PlainKey) (H : Has) (Y : Yes) (T : Texts) (A : Type 0) (k : PlainKey) → T []
    → ((w : List ℕ) → H (place told k half.Text) w → T w) → (Y (place told k half.Array) → A) → (ps : Pairs) → MembersIn told H Y ps → OwnIn T A (member ps k)
member_own told H Y T A k n t a empty h = n
member_own told H Y T A k n t a (pair j v ps) h = by (same_key j k) refl (member_own told H Y T A k n t a ps h.2)
  where
    by : (b : Bool) → same_key j k ≡ b → OwnIn T A (member ps k) → OwnIn T A (if b then v else member ps k)
    by true e rest = own_wider _ _ _ _ t a v (subst (λ j. OwnIn (H (place told j half.Text)) (Y (place told j half.Array)) v) (same_is j k e) h.0)
    by false e rest = rest

pub member_inside : (told : List PlainKey) (H : Has) (Y : Yes) (k : PlainKey) (ps : Pairs) → MembersIn told H Y ps → InsideIn (H (Others half.Text)) (Y (Others half.Array)) (member ps k)
member_inside told H Y k empty h = tt
member_inside told H Y k (pair j v ps) h = by (same_key j k) (member_inside told H Y k ps h.2)
  where
    by : (b : Bool) → InsideIn (H (Others half.Text)) (Y (Others half.Array)) (member ps k) → InsideIn (H (Others half.Text)) (Y (Others half.Array)) (if b then v else member ps k)
    by true rest = h.1
    by false rest = rest

pub member_inside_all : (T : Texts) (A : Type 0) (k : PlainKey) (ps : Pairs) → AllIn T A ps → InsideIn T A (member ps k)
member_inside_all T A k empty h = tt
member_inside_all T A k (pair j v ps) h = by (same_key j k) (member_inside_all T A k ps h.2)
  where
    by : (b : Bool) → InsideIn T A (member ps k) → InsideIn T A (if b then v else member ps k)
    by true rest = h.1
    by false rest = rest

pub member_keys : (K : Texts) (k : PlainKey) (ps : Pairs) → KeysInAll K ps → KeysIn K (member ps k)
member_keys K k empty h = tt
member_keys K k (pair j v ps) h = by (same_key j k) (member_keys K k ps h.2)
  where
    by : (b : Bool) → KeysIn K (member ps k) → KeysIn K (if b then v else member ps k)
    by true rest = h.1
    by false rest = rest

-- a put
pub all_put : (T : Texts) (A : Type 0) (k : PlainKey) (v : Plain) (ps : Pairs) → OwnIn T A v → InsideIn T A v → AllIn T A ps → AllIn T A (put_pair ps k v)
all_put T A k v empty o i h = (o, i, tt)
all_put T A k v (pair j u ps) o i h = by (same_key j k) (all_put T A k v ps o i h.2)
  where
    by : (b : Bool) → AllIn T A (put_pair ps k v) → AllIn T A (if b then pair j v ps else pair j u (put_pair ps k v))
    by true rest = (o, i, h.2)
    by false rest = (h.0, h.1, rest)

pub keys_put : (K : Texts) (k : PlainKey) (v : Plain) (ps : Pairs) → K (text_of (value_of_key k)) → KeysIn K v → KeysInAll K ps → KeysInAll K (put_pair ps k v)
keys_put K k v empty t i h = (t, i, tt)
keys_put K k v (pair j u ps) t i h = by (same_key j k) (keys_put K k v ps t i h.2)
  where
    by : (b : Bool) → KeysInAll K (put_pair ps k v) → KeysInAll K (if b then pair j v ps else pair j u (put_pair ps k v))
    by true rest = (h.0, i, h.2)
    by false rest = (h.0, h.1, rest)

-- members but for that under a key
abbrev pub ButFor : PlainKey → List PlainKey → Has → Yes → Pairs → Type 0
ButFor k told H Y empty = ⊤
ButFor k told H Y (pair j v ps) = (same_key j k ≡ false → OwnIn (H (place told j half.Text)) (Y (place told j half.Array)) v) × InsideIn (H (Others half.Text)) (Y (Others half.Array)) v × ButFor k told H Y ps

pub but_for : (k : PlainKey) (told : List PlainKey) (H G : Has) (Y Z : Yes)
    → ((j : PlainKey) → same_key j k ≡ false → (w : List ℕ) → H (place told j half.Text) w → G (place told j half.Text) w) → ((j : PlainKey) → same_key j k ≡ false → Y (place told j half.Array) → Z (place told j half.Array))
    → ((w : List ℕ) → H (Others half.Text) w → G (Others half.Text) w) → (Y (Others half.Array) → Z (Others half.Array)) → (ps : Pairs) → MembersIn told H Y ps → ButFor k told G Z ps
but_for k told H G Y Z t a u b empty h = tt
but_for k told H G Y Z t a u b (pair j v ps) h =
    ((λ e. own_wider _ _ _ _ (t j e) (a j e) v h.0), inside_wider _ _ _ _ u b v h.1, but_for k told H G Y Z t a u b ps h.2)

or_parts : (a b : Bool) → not (a || b) ≡ true → (a ≡ false) × (not b ≡ true)
or_parts true b e = cc
or_parts false b e = (refl, e)

absent_members : (k : PlainKey) (told : List PlainKey) (H : Has) (Y : Yes) (ps : Pairs) → is_absent (keys ps) k ≡ true → ButFor k told H Y ps → MembersIn told H Y ps
absent_members k told H Y empty a h = tt
absent_members k told H Y (pair j v ps) a h =
    let parts = or_parts (same_key j k) (list_any (λ i. same_key i k) (keys ps)) a in
    (h.0 parts.0, h.1, absent_members k told H Y ps parts.1 h.2)

and_parts : (a b : Bool) → (a && b) ≡ true → (a ≡ true) × (b ≡ true)
and_parts true b e = (refl, e)
and_parts false b e = cc

pub members_put : (told : List PlainKey) (H : Has) (Y : Yes) (k : PlainKey) (v : Plain) (ps : Pairs) → are_distinct (keys ps) ≡ true
    → OwnIn (H (place told k half.Text)) (Y (place told k half.Array)) v → InsideIn (H (Others half.Text)) (Y (Others half.Array)) v → ButFor k told H Y ps → MembersIn told H Y (put_pair ps k v)
members_put told H Y k v empty d o i h = (o, i, tt)
members_put told H Y k v (pair j u ps) d o i h = let parts = and_parts (is_absent (keys ps) j) (are_distinct (keys ps)) d in by parts.0 (same_key j k) refl (members_put told H Y k v ps parts.1 o i h.2)
  where
    by : is_absent (keys ps) j ≡ true → (b : Bool) → same_key j k ≡ b → MembersIn told H Y (put_pair ps k v) → MembersIn told H Y (if b then pair j v ps else pair j u (put_pair ps k v))
    by a true e rest =
        let is : j ≡ k = same_is j k e in
        (subst (λ k. OwnIn (H (place told k half.Text)) (Y (place told k half.Array)) v) (sym is) o, i, absent_members k told H Y ps (subst (λ k. is_absent (keys ps) k ≡ true) is a) h.2)
    by a false e rest = (h.0 e, h.1, rest)
