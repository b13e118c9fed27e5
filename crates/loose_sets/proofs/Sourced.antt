-- What a point sets its slot to, by what is asked of it, and which slots it reads.
use Rattle.std.proofs.Common.{◌≡◌, inl, inr, ℕ, List, [], ◌∷◌, ◌++◌, Option, Some, None, refl, sym, subst, ap}
use Rattle.std.specs.Prelude.{Contains, flat_map}
use Rattle.std.proofs.lemmas.List.Elements.{Contains-append_left, Contains-append_right}
use Rattle.string_functions.proofs.Members.{Contains-nil, Contains-cons_cases, Contains-head, Contains-later}
use Rattle.useful_nonterminals.proofs.RuleLemmas.{flat_map_has}
use Rattle.builtin_meaning.specs.declared.builtin.Builtin.{Builtin}
use Rattle.op_system.specs.declared.op.Op.{Op}
use Rattle.op_system.specs.declared.op.Op.TheVariants as op
use Rattle.flow_code.specs.Points.{PlainKeyRef, read_ref, PlainSource, literal_source, copy_source, super_source, member_source, array_source, put_source, concat_source, repeat_source, implode_source, explode_source, apply_source, number_source, truth_source, PlainPoint, set_point, call_point, print_point, echo_point, branch_point, jump_point, begin_point, next_point, key_point, value_point, return_point, quit_point, PlainFlow, point_at}
use Rattle.flow_code.specs.Lawful.{reads, source_reads, item_slots, maybe_key_slots}
use Rattle.loose_sets.specs.Exact.{ReadsSlot}
use Rattle.loose_sets.specs.Points.{source_at, joined_slots, imploded_slots, replaced_by, operation_of}
use Rattle.loose_sets.specs.Table.{SetsTo}

pub some_same : {A : Type 0} {a b : A} → Some a ≡ Some b → a ≡ b
some_same e = cc

-- a point that has the source sets its slot to it
pub source_is : (i : PlainPoint) (s : PlainSource) → source_at i ≡ Some s → (x : ℕ) × (next : ℕ) × (set_point x s next ≡ i)
unfolding source_at
source_is (set_point x r next) s e = (x, next, ap (λ z. set_point x z next) (sym (some_same e)))
source_is (call_point x n args next) s e = cc
source_is (print_point bytes next) s e = cc
source_is (echo_point x next) s e = cc
source_is (branch_point x l r) s e = cc
source_is (jump_point next) s e = cc
source_is (begin_point x from next) s e = cc
source_is (next_point x more done) s e = cc
source_is (key_point x from next) s e = cc
source_is (value_point x from next) s e = cc
source_is (return_point x) s e = cc
source_is (quit_point x) s e = cc

-- what a source joins, or changes
pub joined_is : (s : Option PlainSource) (w : List ℕ) → joined_slots s ≡ Some w → s ≡ Some (concat_source w)
unfolding joined_slots
joined_is None w e = cc
joined_is (Some (literal_source v)) w e = cc
joined_is (Some (copy_source y)) w e = cc
joined_is (Some (super_source n)) w e = cc
joined_is (Some (member_source y k)) w e = cc
joined_is (Some (array_source items)) w e = cc
joined_is (Some (put_source y path v)) w e = cc
joined_is (Some (concat_source xs)) w e = ap (λ ys. Some (concat_source ys)) (some_same e)
joined_is (Some (repeat_source from f args)) w e = cc
joined_is (Some (implode_source sep from f args)) w e = cc
joined_is (Some (explode_source o from f args)) w e = cc
joined_is (Some (apply_source o from f args)) w e = cc
joined_is (Some (number_source z args)) w e = cc
joined_is (Some (truth_source z args)) w e = cc

pub record Implodes (s : Option PlainSource) (w : ℕ × ℕ) : Type 0 where
  pub function : Builtin
  pub args : List ℕ
  pub is : s ≡ Some (implode_source w.0 w.1 function args)

pub imploded_is : (s : Option PlainSource) (w : ℕ × ℕ) → imploded_slots s ≡ Some w → Implodes s w
unfolding imploded_slots
imploded_is None w e = cc
imploded_is (Some (literal_source v)) w e = cc
imploded_is (Some (copy_source y)) w e = cc
imploded_is (Some (super_source n)) w e = cc
imploded_is (Some (member_source y k)) w e = cc
imploded_is (Some (array_source items)) w e = cc
imploded_is (Some (put_source y path v)) w e = cc
imploded_is (Some (concat_source xs)) w e = cc
imploded_is (Some (repeat_source from f args)) w e = cc
imploded_is (Some (implode_source sep from f args)) w e = record { function = f; args = args; is = ap (λ (t : ℕ × ℕ). Some (implode_source t.0 t.1 f args)) (some_same e) }
imploded_is (Some (explode_source o from f args)) w e = cc
imploded_is (Some (apply_source o from f args)) w e = cc
imploded_is (Some (number_source z args)) w e = cc
imploded_is (Some (truth_source z args)) w e = cc

-- an operation is applied, or cuts a text apart
pub data Operates (s : Option PlainSource) (w : Op × List ℕ) : Type 0 where
  applies : (from : ℕ) (f : Builtin) (args : List ℕ) (o : Op) → s ≡ Some (apply_source o from f args) → (o, from ∷ replaced_by o args) ≡ w → Operates s w
  splits : (from : ℕ) (f : Builtin) (args : List ℕ) (o : Op) → s ≡ Some (explode_source o from f args) → (o, from ∷ []) ≡ w → Operates s w

pub operation_is : (s : Option PlainSource) (w : Op × List ℕ) → operation_of s ≡ Some w → Operates s w
unfolding operation_of
operation_is None w e = cc
operation_is (Some (literal_source v)) w e = cc
operation_is (Some (copy_source y)) w e = cc
operation_is (Some (super_source n)) w e = cc
operation_is (Some (member_source y k)) w e = cc
operation_is (Some (array_source items)) w e = cc
operation_is (Some (put_source y path v)) w e = cc
operation_is (Some (concat_source xs)) w e = cc
operation_is (Some (repeat_source from f args)) w e = cc
operation_is (Some (implode_source sep from f args)) w e = cc
operation_is (Some (explode_source o from f args)) w e = Operates.splits from f args o refl (some_same e)
operation_is (Some (apply_source o from f args)) w e = Operates.applies from f args o refl (some_same e)
operation_is (Some (number_source z args)) w e = cc
operation_is (Some (truth_source z args)) w e = cc

-- beside the text that it changes, an operation reads arguments
replaced_in : (o : Op) (args : List ℕ) (x : ℕ) → Contains (replaced_by o args) x → Contains args x
unfolding replaced_by
replaced_in op.Any (a ∷ b ∷ c ∷ []) x has =
    elim (Contains-cons_cases b [] x has) [
      | inl same ↦ subst (λ z. Contains (a ∷ b ∷ c ∷ []) z) same (Contains-later a (b ∷ c ∷ []) b (Contains-head b (c ∷ [])))
      | inr none ↦ Contains-nil x none
    ]
replaced_in op.Any [] x has = Contains-nil x has
replaced_in op.Any (a ∷ []) x has = Contains-nil x has
replaced_in op.Any (a ∷ b ∷ []) x has = Contains-nil x has
replaced_in op.Any (a ∷ b ∷ c ∷ d ∷ more) x has = Contains-nil x has
replaced_in op.Same args x has = Contains-nil x has
replaced_in op.Html args x has = Contains-nil x has
replaced_in (op.Replace search with) args x has = Contains-nil x has
replaced_in (op.Cut start len) args x has = Contains-nil x has
replaced_in op.Factor args x has = Contains-nil x has
replaced_in op.Lower args x has = Contains-nil x has
replaced_in op.Upper args x has = Contains-nil x has
replaced_in op.First args x has = Contains-nil x has
replaced_in (op.Trim left right) args x has = Contains-nil x has
replaced_in op.Breaks args x has = Contains-nil x has
replaced_in op.Url args x has = Contains-nil x has
replaced_in op.RawUrl args x has = Contains-nil x has
replaced_in op.Slashes args x has = Contains-nil x has
replaced_in (op.Piece sep) args x has = Contains-nil x has

-- the slots of items and of paths
pub item_value : (items : List (Option PlainKeyRef × ℕ)) (item : Option PlainKeyRef × ℕ) → Contains items item → Contains (flat_map item_slots items) item.1
item_value items item has = flat_map_has item_slots items item item.1 has (Contains-append_right (maybe_key_slots item.0) (item.1 ∷ []) item.1 (Contains-head item.1 []))

pub item_key : (items : List (Option PlainKeyRef × ℕ)) (item : Option PlainKeyRef × ℕ) (x : ℕ) → item.0 ≡ Some (read_ref x) → Contains items item → Contains (flat_map item_slots items) x
item_key items item x e has =
    flat_map_has item_slots items item x has
    (Contains-append_left (maybe_key_slots item.0) (item.1 ∷ []) x (subst (λ (o : Option PlainKeyRef). Contains (maybe_key_slots o) x) (sym e) (Contains-head x [])))

path_key : (path : List (Option PlainKeyRef)) (k : Option PlainKeyRef) (x : ℕ) → k ≡ Some (read_ref x) → Contains path k → Contains (flat_map maybe_key_slots path) x
path_key path k x e has = flat_map_has maybe_key_slots path k x has (subst (λ (o : Option PlainKeyRef). Contains (maybe_key_slots o) x) (sym e) (Contains-head x []))

pub put_old : (x v : ℕ) (path : List (Option PlainKeyRef)) → Contains (source_reads (put_source x path v)) x
unfolding source_reads
put_old x v path = Contains-head x (flat_map maybe_key_slots path ++ v ∷ [])

pub put_value : (x v : ℕ) (path : List (Option PlainKeyRef)) → Contains (source_reads (put_source x path v)) v
unfolding source_reads
put_value x v path = Contains-later x (flat_map maybe_key_slots path ++ v ∷ []) v (Contains-append_right (flat_map maybe_key_slots path) (v ∷ []) v (Contains-head v []))

pub put_key : (x v y : ℕ) (path : List (Option PlainKeyRef)) (k : Option PlainKeyRef) → k ≡ Some (read_ref y) → Contains path k → Contains (source_reads (put_source x path v)) y
unfolding source_reads
put_key x v y path k e has =
    Contains-later x (flat_map maybe_key_slots path ++ v ∷ []) y (Contains-append_left (flat_map maybe_key_slots path) (v ∷ []) y (path_key path k y e has))

module _ (flow : PlainFlow) where
  -- what a source reads, or a point
  pub by_source : (p : ℕ) (s : PlainSource) (x : ℕ) → SetsTo flow p s → Contains (source_reads s) x → ReadsSlot flow p x
  unfolding reads
  by_source p s x set has = record { point = set_point set.0 s set.1; there = set.2; it = has }

  pub by_point : (p x : ℕ) (i : PlainPoint) → point_at flow p ≡ Some i → Contains (reads i) x → ReadsSlot flow p x
  by_point p x i there has = record { point = i; there = there; it = has }

  -- where the point is this one
  pub sets_there : (p : ℕ) (k : PlainPoint) (s : PlainSource) → point_at flow p ≡ Some k → source_at k ≡ Some s → SetsTo flow p s
  sets_there p k s e is = let r = source_is k s is in (r.0, r.1, subst (λ (z : PlainPoint). point_at flow p ≡ Some z) (sym r.2) e)

  operated : (p : ℕ) (s : PlainSource) (w : Op × List ℕ) → SetsTo flow p s → Operates (Some s) w → (x : ℕ) → Contains w.1 x → ReadsSlot flow p x
  unfolding source_reads
  operated p s w set (Operates.applies from f args o is same) x has =
      let source : SetsTo flow p (apply_source o from f args) = subst (λ (z : PlainSource). SetsTo flow p z) (some_same is) set in
      let in_list : Contains (from ∷ replaced_by o args) x = subst (λ (z : Op × List ℕ). Contains z.1 x) (sym same) has in
      by_source p (apply_source o from f args) x source (elim (Contains-cons_cases from (replaced_by o args) x in_list) [
        | inl here ↦ subst (λ (z : ℕ). Contains (from ∷ args) z) here (Contains-head from args)
        | inr later ↦ Contains-later from args x (replaced_in o args x later)
      ])
  operated p s w set (Operates.splits from f args o is same) x has =
      let source : SetsTo flow p (explode_source o from f args) = subst (λ (z : PlainSource). SetsTo flow p z) (some_same is) set in
      let in_list : Contains (from ∷ []) x = subst (λ (z : Op × List ℕ). Contains z.1 x) (sym same) has in
      by_source p (explode_source o from f args) x source (elim (Contains-cons_cases from [] x in_list) [
        | inl here ↦ subst (λ (z : ℕ). Contains (from ∷ args) z) here (Contains-head from args)
        | inr none ↦ Contains-nil x none
      ])

  -- the slots that the operation at a point reads
  pub operands : (p : ℕ) (k : PlainPoint) (w : Op × List ℕ) → point_at flow p ≡ Some k → operation_of (source_at k) ≡ Some w → (x : ℕ) → Contains w.1 x → ReadsSlot flow p x
  operands p k w e is = by (source_at k) refl is
    where
      by : (o : Option PlainSource) → source_at k ≡ o → operation_of o ≡ Some w → (x : ℕ) → Contains w.1 x → ReadsSlot flow p x
      by None there d = none (operation_is None w d)
        where
          none : Operates None w → (x : ℕ) → Contains w.1 x → ReadsSlot flow p x
          none (Operates.applies from f args o is same) = absurd (cc)
          none (Operates.splits from f args o is same) = absurd (cc)
      by (Some s) there d = operated p s w (sets_there p k s e there) (operation_is (Some s) w d)
