-- What holds of a frame at a point holds at the next one.
use Rattle.std.proofs.Common.{◌≡◌, ◌≢◌, ◌≤◌, ℕ, Bool, true, false, if◌then◌else◌, nat_eq, List, Option, Some, None, refl, sym, ap, subst, ◌∙◌, arith}
use Rattle.std.specs.Prelude.{All, Contains}
use Rattle.std.proofs.lemmas.Bool.{eqb-true, eq-eqb}
use Rattle.std.proofs.lemmas.List.Elements.{All-contains}
use Rattle.plain_values.specs.Plain.{Plain, PlainKey, Pairs, int_key, text_key, null, flag, int, text, array, pair, deepest}
use Rattle.plain_values.specs.Text.{text_of}
use Rattle.plain_values.specs.Walks.{value_of_key, walked}
use Rattle.plain_values.specs.Lawful.{IsKey, IsValue, PairsHaveValues}
use Rattle.flow_code.specs.Points.{PlainPoint, PlainFlowFunction, PlainFlow, begin_point, key_point, value_point, point_at}
use Rattle.flow_code.specs.Lawful.{sets, nexts, IsOwnSlot}
use Rattle.flow_code.specs.Runs.{Walk, no_walk, Frame, set_slot, set_walk}
use Rattle.loose_sets.specs.Reaching.{Definition, at_point, Reaches}
use Rattle.loose_sets.specs.Keys.{told_keys}
use Rattle.loose_sets.specs.declared.name.Aspect.{Aspect}
use Rattle.loose_sets.specs.declared.name.Aspect.TheVariants.{Own, Member, Others, Keys}
use Rattle.loose_sets.specs.declared.name.Half.TheVariants as half
use Rattle.loose_soundness.proofs.Names.{set_of, use_of, all_of}
use Rattle.loose_soundness.proofs.Rows as rows
use Rattle.loose_soundness.proofs.Covers.{OwnIn, InsideIn, KeysIn, KeysInAll, MembersIn, Covers, place, own_wider, keys_wider, covers_wider, covers_deep, inside_wider}
use Rattle.loose_soundness.proofs.Lying.{HasIn, SaysIn, Def, DefYes, Use, UseYes, Lies, UseLies, use_lies, same_in, same_yes, by_place}
use Rattle.function_laws.proofs.Arrays.{key_value}

-- pairs that are left of a walk
pub record RestLies (flow : PlainFlow) (d : Definition) (ps : Pairs) : Type 0 where
  pub members_of : MembersIn (told_keys flow) (Def flow d) (DefYes flow d) ps
  pub keys_are : KeysInAll (Def flow d Keys) ps
  pub values : PairsHaveValues ps
  pub shallow : deepest ps ≤ 999

-- the member where a walk stands
pub record NowLies (flow : PlainFlow) (d : Definition) (k : PlainKey) (v : Plain) : Type 0 where
  pub own_in : OwnIn (Def flow d (place (told_keys flow) k half.Text)) (DefYes flow d (place (told_keys flow) k half.Array)) v
  pub inside : InsideIn (Def flow d (Others half.Text)) (DefYes flow d (Others half.Array)) v
  pub key_in : Def flow d Keys (text_of (value_of_key k))
  pub keys_in : KeysIn (Def flow d Keys) v
  pub key_is : IsKey k
  pub value : IsValue v

pub record WalkLies (flow : PlainFlow) (d : Definition) (w : Walk) : Type 0 where
  pub now : (k : PlainKey) (v : Plain) → w.now ≡ Some (k, v) → NowLies flow d k v
  pub rest : RestLies flow d w.rest

pub no_walk_lies : (flow : PlainFlow) (d : Definition) → WalkLies flow d no_walk
no_walk_lies flow d = record { now = λ k v e. cc; rest = record { members_of = tt; keys_are = tt; values = tt; shallow = omega arith } }

-- what is known of a slot at a point
pub record SlotHolds (flow : PlainFlow) (x p : ℕ) (v : Plain) (w : Walk) : Type 0 where
  pub definition : Definition
  pub reaches : Reaches flow definition x p
  pub lies : Lies flow definition v
  pub walk : WalkLies flow definition w

abbrev pub FrameHolds : PlainFlow → PlainFlowFunction → ℕ → Frame → Type 0
FrameHolds flow g p f = (x : ℕ) → IsOwnSlot g x → SlotHolds flow x p (f.slots x) (f.walks x)

pub slot_lies : (flow : PlainFlow) (x p : ℕ) (v : Plain) (w : Walk) → SlotHolds flow x p v w → UseLies flow x p v
slot_lies flow x p v w h = use_lies flow x p v (record { definition = h.definition; reaches = h.reaches; lies = h.lies })

-- slots that a point reads
pub read_lies : (flow : PlainFlow) (g : PlainFlowFunction) (p : ℕ) (f : Frame) (xs : List ℕ) → FrameHolds flow g p f → All (IsOwnSlot g) xs → (x : ℕ) → Contains xs x → UseLies flow x p (f.slots x)
read_lies flow g p f xs h own_all x c = slot_lies flow x p (f.slots x) (f.walks x) (h x (All-contains (IsOwnSlot g) xs x own_all c))

some_other : (x y : ℕ) (o : Option ℕ) → o ≡ Some x → y ≢ x → o ≢ Some y
some_other x y o e n h = n cc

module _ (flow : PlainFlow) (g : PlainFlowFunction) (p q : ℕ) (i : PlainPoint) (at : point_at flow p ≡ Some i) (goes : Contains (nexts i) q) where
  -- a slot that the point does not set
  onward : (x : ℕ) (v : Plain) (w : Walk) → sets i ≢ Some x → SlotHolds flow x p v w → SlotHolds flow x q v w
  onward x v w n h = record { definition = h.definition; reaches = Reaches.onward h.definition x p q i h.reaches at n goes; lies = h.lies; walk = h.walk }

  pub same_frame : (f : Frame) → sets i ≡ None → FrameHolds flow g p f → FrameHolds flow g q f
  same_frame f none h x o = onward x (f.slots x) (f.walks x) (λ e. let bad : None ≡ Some x = sym none ∙ e in cc) (h x o)

  pub set_frame : (f : Frame) (x : ℕ) (v : Plain) → sets i ≡ Some x → Lies flow (at_point p) v → FrameHolds flow g p f → FrameHolds flow g q (set_slot f x v)
  unfolding set_slot
  set_frame f x v is l h y o = by (nat_eq y x) refl
    where
      by : (b : Bool) → nat_eq y x ≡ b → SlotHolds flow y q (if b then v else f.slots y) (if b then no_walk else f.walks y)
      by true e = record {
        definition = at_point p;
        reaches = subst (λ y. Reaches flow (at_point p) y q) (sym (eqb-true y x e)) (Reaches.behind p x q i at is goes);
        lies = l;
        walk = no_walk_lies flow (at_point p);
      }
      by false e = onward y (f.slots y) (f.walks y) (some_other x y (sets i) is (λ same. let bad : nat_eq y x ≡ true = eq-eqb y x same in cc)) (h y o)

  pub walk_frame : (f : Frame) (x : ℕ) (v : Plain) (w : Walk) → sets i ≡ Some x → Lies flow (at_point p) v → WalkLies flow (at_point p) w → FrameHolds flow g p f → FrameHolds flow g q (set_walk (set_slot f x v) x w)
  unfolding set_slot set_walk
  walk_frame f x v w is l wl h y o = by (nat_eq y x) refl
    where
      by : (b : Bool) → nat_eq y x ≡ b → SlotHolds flow y q (if b then v else f.slots y) (if b then w else if b then no_walk else f.walks y)
      by true e = record {
        definition = at_point p;
        reaches = subst (λ y. Reaches flow (at_point p) y q) (sym (eqb-true y x e)) (Reaches.behind p x q i at is goes);
        lies = l;
        walk = wl;
      }
      by false e = onward y (f.slots y) (f.walks y) (some_other x y (sets i) is (λ same. let bad : nat_eq y x ≡ true = eq-eqb y x same in cc)) (h y o)

  -- a walk that moves on
  pub moved_frame : (f : Frame) (x : ℕ) (k : PlainKey) (v : Plain) (rest : Pairs) → sets i ≡ None → (f.walks x).rest ≡ pair k v rest → FrameHolds flow g p f → FrameHolds flow g q (set_walk f x (record { now = Some (k, v); rest = rest }))
  unfolding set_walk
  moved_frame f x k v rest none is h y o = by (nat_eq y x) refl
    where
      before : SlotHolds flow y q (f.slots y) (f.walks y)
      before = onward y (f.slots y) (f.walks y) (λ e. let bad : None ≡ Some y = sym none ∙ e in cc) (h y o)

      moved : (d : Definition) → y ≡ x → WalkLies flow d (f.walks y) → WalkLies flow d (record { now = Some (k, v); rest = rest })
      moved d e w =
          let r : RestLies flow d (pair k v rest) = subst (RestLies flow d) (ap (λ y. (f.walks y).rest) e ∙ is) w.rest in
          record {
            now = λ j u eq. let both : (k, v) ≡ (j, u) = cc in let kk : k ≡ j = ap (λ (t : PlainKey × Plain). t.0) both in let vv : v ≡ u = ap (λ (t : PlainKey × Plain). t.1) both in subst (λ j. NowLies flow d j u) kk (subst (NowLies flow d k) vv (record {
              own_in = r.members_of.0;
              inside = r.members_of.1;
              key_in = r.keys_are.0;
              keys_in = r.keys_are.1;
              key_is = r.values.0;
              value = record { parts = r.values.1; shallow = omega (arith, r.shallow) };
            }));
            rest = record { members_of = r.members_of.2; keys_are = r.keys_are.2; values = r.values.2; shallow = omega (arith, r.shallow) };
          }

      by : (b : Bool) → nat_eq y x ≡ b → SlotHolds flow y q (f.slots y) (if b then record { now = Some (k, v); rest = rest } else f.walks y)
      by true e = record { definition = before.definition; reaches = before.reaches; lies = before.lies; walk = moved before.definition (eqb-true y x e) before.walk }
      by false e = before

-- a walk begins with a copy
pub begin_lies : (flow : PlainFlow) (p x from next : ℕ) (v : Plain) → point_at flow p ≡ Some (begin_point x from next) → UseLies flow from p v → Lies flow (at_point p) v
begin_lies flow p x from next v at h = record {
  covers = covers_wider (told_keys flow) _ _ _ _
      (λ a w i. same_in flow (set_of a (at_point p)) (use_of a from p) w (rows.walk_copy a p x from next at) i)
      (λ a i. same_yes flow (set_of a (at_point p)) (use_of a from p) (rows.walk_copy a p x from next at) i) v h.covers;
  value = h.value;
}

pub rest_begins : (flow : PlainFlow) (d : Definition) (v : Plain) → Lies flow d v → RestLies flow d (walked v)
rest_begins flow d null h = record { members_of = tt; keys_are = tt; values = tt; shallow = omega arith }
rest_begins flow d (flag b) h = record { members_of = tt; keys_are = tt; values = tt; shallow = omega arith }
rest_begins flow d (int z) h = record { members_of = tt; keys_are = tt; values = tt; shallow = omega arith }
rest_begins flow d (text t) h = record { members_of = tt; keys_are = tt; values = tt; shallow = omega arith }
rest_begins flow d (array ps) h = record { members_of = h.covers.1; keys_are = h.covers.2; values = ((h.value).parts).1; shallow = omega (arith, (h.value).shallow) }

-- the key of a walk, and its value
module _ (flow : PlainFlow) (p x from next : ℕ) (k : PlainKey) (v : Plain) (d : Definition) (reaches : Reaches flow d from p) (now : NowLies flow d k v) where
  used : (a : Aspect) (w : List ℕ) → Def flow d a w → Use flow from p a w
  used a w i = same_in flow (use_of a from p) (set_of a d) w (rows.reaching a d from p reaches) i

  used_yes : (a : Aspect) → DefYes flow d a → UseYes flow from p a
  used_yes a i = same_yes flow (use_of a from p) (set_of a d) (rows.reaching a d from p reaches) i

  pub key_lies : point_at flow p ≡ Some (key_point x from next) → Lies flow (at_point p) (value_of_key k)
  key_lies at = record {
    covers = by k (same_in flow (set_of (Own half.Text) (at_point p)) (use_of Keys from p) (text_of (value_of_key k)) (rows.walk_key p x from next at) (used Keys (text_of (value_of_key k)) now.key_in));
    value = key_value k now.key_is;
  }
    where
      by : (k : PlainKey) → Def flow (at_point p) (Own half.Text) (text_of (value_of_key k)) → Covers (told_keys flow) (Def flow (at_point p)) (DefYes flow (at_point p)) (value_of_key k)
      by (int_key z) h = h
      by (text_key t) h = h

  pub value_lies : point_at flow p ≡ Some (value_point x from next) → Lies flow (at_point p) v
  value_lies at = record {
    covers = covers_deep (told_keys flow) (Def flow (at_point p)) (DefYes flow (at_point p)) (Use flow from p (Others half.Text)) (UseYes flow from p (Others half.Array))
        (λ c. by_place flow c half.Text (λ a. (w : List ℕ) → Use flow from p (Others half.Text) w → Def flow (at_point p) a w)
        (λ n t w i. same_in flow _ _ w (rows.walk_deep (Member n half.Text) (Others half.Text) p x from next at refl) i)
        (λ w i. same_in flow _ _ w (rows.walk_deep (Others half.Text) (Others half.Text) p x from next at refl) i))
        (λ c. by_place flow c half.Array (λ a. UseYes flow from p (Others half.Array) → DefYes flow (at_point p) a)
        (λ n t i. same_yes flow _ _ (rows.walk_deep (Member n half.Array) (Others half.Array) p x from next at refl) i)
        (λ i. same_yes flow _ _ (rows.walk_deep (Others half.Array) (Others half.Array) p x from next at refl) i))
        (λ w i. same_in flow _ _ w (rows.walk_deep (Others half.Text) (Others half.Text) p x from next at refl) i)
        (λ i. same_yes flow _ _ (rows.walk_deep (Others half.Array) (Others half.Array) p x from next at refl) i) v
        (own_wider _ _ _ _
        (λ w i. same_in flow _ (all_of half.Text from p) w (rows.walk_value half.Text p x from next at)
        (by_place flow k half.Text (λ a. Use flow from p a w → HasIn flow (all_of half.Text from p) w)
        (λ n t j. same_in flow _ _ w (rows.all_told half.Text from p n t) j) (λ j. same_in flow _ _ w (rows.all_others half.Text from p) j)
        (used (place (told_keys flow) k half.Text) w i)))
        (λ i. same_yes flow _ (all_of half.Array from p) (rows.walk_value half.Array p x from next at)
        (by_place flow k half.Array (λ a. UseYes flow from p a → SaysIn flow (all_of half.Array from p))
        (λ n t j. same_yes flow _ _ (rows.all_told half.Array from p n t) j) (λ j. same_yes flow _ _ (rows.all_others half.Array from p) j)
        (used_yes (place (told_keys flow) k half.Array) i)))
        v now.own_in)
        (inside_wider _ _ _ _ (used (Others half.Text)) (used_yes (Others half.Array)) v now.inside)
        (keys_wider _ _ (λ w i. same_in flow _ (use_of Keys from p) w (rows.walk_deep Keys Keys p x from next at refl) (used Keys w i)) v now.keys_in);
    value = now.value;
  }
