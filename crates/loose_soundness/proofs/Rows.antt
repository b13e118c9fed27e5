-- The rows of the loose table, one by one.
use Rattle.std.proofs.Common.{◌≡◌, ◌+◌, ℕ, zero, suc, List, [], ◌∷◌, Option, Some, None, refl, sym, subst, arith, slice_get, length, eq-eqb}
use Rattle.std.specs.Prelude.{⊤, Contains, codes, nat_eq}
use Rattle.std.proofs.lemmas.List.Elements.{Contains-append_left, Contains-append_right}
use Rattle.std.proofs.lemmas.Option.{slice_get_past}
use Rattle.string_functions.proofs.Members.{Contains-head, Contains-later}
use Rattle.builtin_meaning.specs.declared.builtin.Builtin.{Builtin}
use Rattle.op_system.specs.declared.op.Op.{Op}
use Rattle.op_system.specs.declared.op.Op.TheVariants as op
use Rattle.flow_code.specs.Points.{PlainSource, concat_source, implode_source, explode_source, apply_source, PlainPoint, set_point, call_point, print_point, echo_point, branch_point, jump_point, begin_point, next_point, key_point, value_point, return_point, quit_point, PlainFlowFunction, PlainFlow, point_at, function_at}
use Rattle.flow_code.specs.Lawful.{nexts, IsOwnSlot, IsOwnPoint}
use Rattle.least_sets.specs.Forms.{Form, text_form, same_form, join_form, before_form, apply_form, where_form}
use Rattle.plain_values.specs.Plain.{PlainKey}
use Rattle.loose_sets.specs.Keys.{told_keys}
use Rattle.loose_sets.specs.Reaching.{Definition, Reaches}
use Rattle.loose_sets.specs.Versions.{of_definition}
use Rattle.loose_sets.specs.Uses.{where_so}
use Rattle.loose_sets.specs.Sources.{is_own_text}
use Rattle.loose_sets.specs.Points.{walk_forms, replaced_by, joined_from_place, input_used}
use Rattle.loose_sets.specs.Printed.{onward, on_exit, call_forms, out_forms}
use Rattle.loose_sets.specs.Members.{told_members, members_forms, shown_forms}
use Rattle.loose_sets.specs.Functions.{IsArgument, returned_of, returned_by, handed_to, is_null_slot, used_pair, used_pairs}
use Rattle.loose_sets.specs.Table.{SetsTo, point_of, forms_from, forms_there, forms_beside, forms_by, RowBy, each_use, Row}
use Rattle.loose_sets.specs.declared.name.Half.{Half}
use Rattle.loose_sets.specs.declared.name.Half.TheVariants as half
use Rattle.loose_sets.specs.declared.name.Aspect.{Aspect}
use Rattle.loose_sets.specs.declared.name.Aspect.TheVariants.{Own, Member, Others, Keys}
use Rattle.loose_sets.specs.declared.name.Leaving.{Leaving}
use Rattle.loose_sets.specs.declared.name.Leaving.TheVariants.{Return, Exit}
use Rattle.loose_sets.specs.declared.name.SetVersion.{SetVersion}
use Rattle.loose_sets.specs.declared.name.SetVersion.TheVariants.{Point, Entry, Join}
use Rattle.loose_sets.specs.declared.name.SetName.{SetName}
use Rattle.loose_sets.specs.declared.name.SetName.TheVariants.{Value, Result, Input, Output, Joined, Piece, FurtherPiece, FurtherPieces, Out}
use Rattle.loose_sets.proofs.Lists.{where_has, map_has}
use Rattle.loose_sets.proofs.Returned.{it_alone, returned_law}
use Rattle.loose_sets.proofs.Handed.{handed_pairs}
use Rattle.loose_sets.proofs.Nulls.{null_is}
use Rattle.loose_soundness.proofs.Names.{set_of, use_of, all_of, shown_at, deeper}
use Rattle.loose_soundness.proofs.SourceRows.{IsSourceRow}

-- the slots whose texts an operation reads: the text that it changes, and for `Any` the replacement too
pub data Reads : Op → ℕ → List ℕ → ℕ → Type 0 where
  subject : (operation : Op) (from : ℕ) (args : List ℕ) → Reads operation from args from
  replacement : (from a b c : ℕ) → Reads op.Any from (a ∷ b ∷ c ∷ []) b

-- the point prints nothing and goes on: either way where it may go two ways
abbrev pub PrintsNothing : PlainPoint → Type 0
PrintsNothing (set_point x source next) = ⊤
PrintsNothing (call_point x n args next) = ⊥
PrintsNothing (print_point bytes next) = ⊥
PrintsNothing (echo_point x next) = ⊥
PrintsNothing (branch_point x a b) = ⊤
PrintsNothing (jump_point next) = ⊤
PrintsNothing (begin_point x from next) = ⊤
PrintsNothing (next_point x more done) = ⊤
PrintsNothing (key_point x from next) = ⊤
PrintsNothing (value_point x from next) = ⊤
PrintsNothing (return_point x) = ⊥
PrintsNothing (quit_point x) = ⊥

-- a form of a set that belongs to a point
from_point : (flow : PlainFlow) (n : SetName) (p : ℕ) (k : PlainPoint) (f : Form SetName) → point_of n ≡ Some p → point_at flow p ≡ Some k
    → Contains (forms_from (told_keys flow) flow.functions_of each_use n k) f → Row flow n f
from_point flow n p k f is there has = RowBy.listed n f
    (subst (λ (o : Option ℕ). Contains (forms_by each_use flow n o) f) (sym is)
    (subst (λ (o : Option PlainPoint). Contains (forms_there (forms_from (told_keys flow) flow.functions_of each_use n) o) f) (sym there) has))

-- the members of a value under the keys that are told apart
told_has : (n : ℕ) (ks : List PlainKey) (h : Half) (v : SetVersion) (i : ℕ) (c : PlainKey) → slice_get ks i ≡ Some c → Contains (told_members n ks h v) (same_form (Value (Member (n + i) h) v))
unfolding told_members
told_has n [] h v i c e = absurd (cc)
told_has n (k ∷ ks) h v zero c e =
    subst (λ (j : ℕ). Contains (told_members n (k ∷ ks) h v) (same_form (Value (Member j h) v))) (none n) (Contains-head (same_form (Value (Member n h) v)) (told_members (suc n) ks h v))
  where
    none : (n : ℕ) → n ≡ n + 0
    none n = omega arith
told_has n (k ∷ ks) h v (suc i) c e =
    subst (λ (j : ℕ). Contains (told_members n (k ∷ ks) h v) (same_form (Value (Member j h) v))) (next n i)
    (Contains-later (same_form (Value (Member n h) v)) (told_members (suc n) ks h v) (same_form (Value (Member (suc n + i) h) v)) (told_has (suc n) ks h v i c e))
  where
    next : (n i : ℕ) → suc n + i ≡ n + suc i
    next n i = omega arith

read_has : (o : Op) (from : ℕ) (args : List ℕ) (x : ℕ) → Reads o from args x → Contains (from ∷ replaced_by o args) x
unfolding replaced_by
read_has _ _ _ _ (Reads.subject o from args) = Contains-head from (replaced_by o args)
read_has _ _ _ _ (Reads.replacement from a b c) = Contains-later from (b ∷ []) b (it_alone b)

deep_has : (b d : Aspect) (p from : ℕ) → deeper b ≡ Some d → Contains (walk_forms each_use p from b) (same_form (use_of d from p))
unfolding walk_forms
deep_has (Own h) d p from e = absurd (cc)
deep_has (Member i h) d p from e = let same : Others h ≡ d = cc in subst (λ (z : Aspect). Contains (same_form (use_of (Others h) from p) ∷ []) (same_form (use_of z from p))) same (it_alone (same_form (use_of (Others h) from p)))
deep_has (Others h) d p from e = let same : Others h ≡ d = cc in subst (λ (z : Aspect). Contains (same_form (use_of (Others h) from p) ∷ []) (same_form (use_of z from p))) same (it_alone (same_form (use_of (Others h) from p)))
deep_has Keys d p from e = let same : Keys ≡ d = cc in subst (λ (z : Aspect). Contains (same_form (use_of Keys from p) ∷ []) (same_form (use_of z from p))) same (it_alone (same_form (use_of Keys from p)))

silent_has : (flow : PlainFlow) (p : ℕ) (i : PlainPoint) (end : Leaving) (q : ℕ) → PrintsNothing i → Contains (nexts i) q → Contains (out_forms flow.functions_of each_use p i end) (same_form (Out q end))
unfolding out_forms
silent_has flow p (set_point x s next) end q goes has = map_has (onward end) (nexts (set_point x s next)) q has
silent_has flow p (call_point x n args next) end q goes has = absurd goes
silent_has flow p (print_point bytes next) end q goes has = absurd goes
silent_has flow p (echo_point x next) end q goes has = absurd goes
silent_has flow p (branch_point x a b) end q goes has = map_has (onward end) (nexts (branch_point x a b)) q has
silent_has flow p (jump_point next) end q goes has = map_has (onward end) (nexts (jump_point next)) q has
silent_has flow p (begin_point x from next) end q goes has = map_has (onward end) (nexts (begin_point x from next)) q has
silent_has flow p (next_point x more done) end q goes has = map_has (onward end) (nexts (next_point x more done)) q has
silent_has flow p (key_point x from next) end q goes has = map_has (onward end) (nexts (key_point x from next)) q has
silent_has flow p (value_point x from next) end q goes has = map_has (onward end) (nexts (value_point x from next)) q has
silent_has flow p (return_point x) end q goes has = absurd goes
silent_has flow p (quit_point x) end q goes has = absurd goes

module _ {flow : PlainFlow} where
  -- at a use each definition counts that reaches it
  pub reaching : (b : Aspect) (d : Definition) (x p : ℕ) → Reaches flow d x p → Row flow (use_of b x p) (same_form (set_of b d))
  reaching b d x p reach = RowBy.joined b p x (of_definition d) (d, refl, reach)

  -- all members, and what is printed
  pub all_others : (h : Half) (x p : ℕ) → Row flow (all_of h x p) (same_form (use_of (Others h) x p))
  unfolding point_of forms_beside members_forms
  all_others h x p = RowBy.listed (all_of h x p) (same_form (use_of (Others h) x p)) (Contains-head (same_form (use_of (Others h) x p)) (told_members 0 (told_keys flow) h (Join p x)))

  pub all_told : (h : Half) (x p i : ℕ) {c : PlainKey} → slice_get (told_keys flow) i ≡ Some c → Row flow (all_of h x p) (same_form (use_of (Member i h) x p))
  unfolding point_of forms_beside members_forms
  all_told h x p i {c} e = RowBy.listed (all_of h x p) (same_form (use_of (Member i h) x p))
      (Contains-later (same_form (use_of (Others h) x p)) (told_members 0 (told_keys flow) h (Join p x)) (same_form (use_of (Member i h) x p))
      (subst (λ (j : ℕ). Contains (told_members 0 (told_keys flow) h (Join p x)) (same_form (use_of (Member j h) x p))) (none i) (told_has 0 (told_keys flow) h (Join p x) i c e)))
    where
      none : (i : ℕ) → 0 + i ≡ i
      none i = omega arith

  pub shown_text : (x p : ℕ) → Row flow (shown_at x p) (same_form (use_of (Own half.Text) x p))
  unfolding point_of forms_beside shown_forms
  shown_text x p = RowBy.listed (shown_at x p) (same_form (use_of (Own half.Text) x p)) (Contains-head (same_form (use_of (Own half.Text) x p)) (where_form (codes "Array") (use_of (Own half.Array) x p) ∷ []))

  pub shown_array : (x p : ℕ) → Row flow (shown_at x p) (where_form (codes "Array") (use_of (Own half.Array) x p))
  unfolding point_of forms_beside shown_forms
  shown_array x p = RowBy.listed (shown_at x p) (where_form (codes "Array") (use_of (Own half.Array) x p))
      (Contains-later (same_form (use_of (Own half.Text) x p)) (where_form (codes "Array") (use_of (Own half.Array) x p) ∷ []) (where_form (codes "Array") (use_of (Own half.Array) x p)) (it_alone (where_form (codes "Array") (use_of (Own half.Array) x p))))

  -- a slot set to a source
  pub source : (p : ℕ) (s : PlainSource) (b : Aspect) (f : Form SetName) → SetsTo flow p s → IsSourceRow flow p s b f → Row flow (Value b (Point p)) f
  unfolding point_of forms_from
  source p s b f set row = from_point flow (Value b (Point p)) p (set_point set.0 s set.1) f refl set.2 row.has

  -- values joined
  pub joined_end : (p : ℕ) (xs : List ℕ) → SetsTo flow p (concat_source xs) → Row flow (Joined p (length xs)) (text_form [])
  unfolding point_of forms_from
  joined_end p xs set = from_point flow (Joined p (length xs)) p (set_point set.0 (concat_source xs) set.1) (text_form []) refl set.2
      (subst (λ (o : Option ℕ). Contains (joined_from_place each_use p (length xs) (length xs) o) (text_form [])) (sym (slice_get_past xs (length xs) (omega arith)))
      (where_has (nat_eq (length xs) (length xs)) (text_form [] ∷ []) (text_form []) (eq-eqb (length xs) (length xs) refl) (it_alone (text_form []))))

  pub joined_more : (p i x : ℕ) (xs : List ℕ) → SetsTo flow p (concat_source xs) → slice_get xs i ≡ Some x → Row flow (Joined p i) (join_form (shown_at x p) (Joined p (suc i)))
  unfolding point_of forms_from
  joined_more p i x xs set e = from_point flow (Joined p i) p (set_point set.0 (concat_source xs) set.1) (join_form (shown_at x p) (Joined p (suc i))) refl set.2
      (subst (λ (o : Option ℕ). Contains (joined_from_place each_use p i (length xs) o) (join_form (shown_at x p) (Joined p (suc i)))) (sym e) (it_alone (join_form (shown_at x p) (Joined p (suc i)))))

  -- members joined
  pub piece_text : (p sep from : ℕ) (f : Builtin) (args : List ℕ) → SetsTo flow p (implode_source sep from f args) → Row flow (Piece p) (same_form (all_of half.Text from p))
  unfolding point_of forms_from
  piece_text p sep from f args set = from_point flow (Piece p) p (set_point set.0 (implode_source sep from f args) set.1) (same_form (all_of half.Text from p)) refl set.2
      (Contains-head (same_form (all_of half.Text from p)) (where_form (codes "Array") (all_of half.Array from p) ∷ []))

  pub piece_array : (p sep from : ℕ) (f : Builtin) (args : List ℕ) → SetsTo flow p (implode_source sep from f args) → Row flow (Piece p) (where_form (codes "Array") (all_of half.Array from p))
  unfolding point_of forms_from
  piece_array p sep from f args set = from_point flow (Piece p) p (set_point set.0 (implode_source sep from f args) set.1) (where_form (codes "Array") (all_of half.Array from p)) refl set.2
      (Contains-later (same_form (all_of half.Text from p)) (where_form (codes "Array") (all_of half.Array from p) ∷ []) (where_form (codes "Array") (all_of half.Array from p)) (it_alone (where_form (codes "Array") (all_of half.Array from p))))

  pub further_piece : (p sep from : ℕ) (f : Builtin) (args : List ℕ) → SetsTo flow p (implode_source sep from f args) → Row flow (FurtherPiece p) (join_form (use_of (Own half.Text) sep p) (Piece p))
  unfolding point_of forms_from
  further_piece p sep from f args set = from_point flow (FurtherPiece p) p (set_point set.0 (implode_source sep from f args) set.1) (join_form (use_of (Own half.Text) sep p) (Piece p)) refl set.2
      (it_alone (join_form (use_of (Own half.Text) sep p) (Piece p)))

  pub further_none : (p sep from : ℕ) (f : Builtin) (args : List ℕ) → SetsTo flow p (implode_source sep from f args) → Row flow (FurtherPieces p) (text_form [])
  unfolding point_of forms_from
  further_none p sep from f args set = from_point flow (FurtherPieces p) p (set_point set.0 (implode_source sep from f args) set.1) (text_form []) refl set.2
      (Contains-head (text_form []) (join_form (FurtherPiece p) (FurtherPieces p) ∷ []))

  pub further_more : (p sep from : ℕ) (f : Builtin) (args : List ℕ) → SetsTo flow p (implode_source sep from f args) → Row flow (FurtherPieces p) (join_form (FurtherPiece p) (FurtherPieces p))
  unfolding point_of forms_from
  further_more p sep from f args set = from_point flow (FurtherPieces p) p (set_point set.0 (implode_source sep from f args) set.1) (join_form (FurtherPiece p) (FurtherPieces p)) refl set.2
      (Contains-later (text_form []) (join_form (FurtherPiece p) (FurtherPieces p) ∷ []) (join_form (FurtherPiece p) (FurtherPieces p)) (it_alone (join_form (FurtherPiece p) (FurtherPieces p))))

  -- operations
  pub applied_input : (p from x : ℕ) (o : Op) (f : Builtin) (args : List ℕ) → SetsTo flow p (apply_source o from f args) → Reads o from args x → Row flow (Input p) (same_form (use_of (Own half.Text) x p))
  unfolding point_of forms_from
  applied_input p from x o f args set reads_it = from_point flow (Input p) p (set_point set.0 (apply_source o from f args) set.1) (same_form (use_of (Own half.Text) x p)) refl set.2
      (map_has (input_used each_use p) (from ∷ replaced_by o args) x (read_has o from args x reads_it))

  pub applied_output : (p from : ℕ) (o : Op) (f : Builtin) (args : List ℕ) → SetsTo flow p (apply_source o from f args) → Row flow (Output p) (apply_form o (Input p))
  unfolding point_of forms_from
  applied_output p from o f args set = from_point flow (Output p) p (set_point set.0 (apply_source o from f args) set.1) (apply_form o (Input p)) refl set.2 (it_alone (apply_form o (Input p)))

  pub split_input : (p from : ℕ) (o : Op) (f : Builtin) (args : List ℕ) → SetsTo flow p (explode_source o from f args) → Row flow (Input p) (same_form (use_of (Own half.Text) from p))
  unfolding point_of forms_from
  split_input p from o f args set = from_point flow (Input p) p (set_point set.0 (explode_source o from f args) set.1) (same_form (use_of (Own half.Text) from p)) refl set.2 (it_alone (same_form (use_of (Own half.Text) from p)))

  pub split_output : (p from : ℕ) (o : Op) (f : Builtin) (args : List ℕ) → SetsTo flow p (explode_source o from f args) → Row flow (Output p) (apply_form o (Input p))
  unfolding point_of forms_from
  split_output p from o f args set = from_point flow (Output p) p (set_point set.0 (explode_source o from f args) set.1) (apply_form o (Input p)) refl set.2 (it_alone (apply_form o (Input p)))

  -- walks
  pub walk_copy : (b : Aspect) (p x from next : ℕ) → point_at flow p ≡ Some (begin_point x from next) → Row flow (Value b (Point p)) (same_form (use_of b from p))
  unfolding point_of forms_from
  walk_copy b p x from next e = from_point flow (Value b (Point p)) p (begin_point x from next) (same_form (use_of b from p)) refl e (it_alone (same_form (use_of b from p)))

  pub walk_key : (p x from next : ℕ) → point_at flow p ≡ Some (key_point x from next) → Row flow (Value (Own half.Text) (Point p)) (same_form (use_of Keys from p))
  unfolding point_of forms_from
  walk_key p x from next e = from_point flow (Value (Own half.Text) (Point p)) p (key_point x from next) (same_form (use_of Keys from p)) refl e (it_alone (same_form (use_of Keys from p)))

  pub walk_value : (h : Half) (p x from next : ℕ) → point_at flow p ≡ Some (value_point x from next) → Row flow (Value (Own h) (Point p)) (same_form (all_of h from p))
  unfolding point_of forms_from
  walk_value h p x from next e = from_point flow (Value (Own h) (Point p)) p (value_point x from next) (same_form (all_of h from p)) refl e (it_alone (same_form (all_of h from p)))

  pub walk_deep : (b d : Aspect) (p x from next : ℕ) → point_at flow p ≡ Some (value_point x from next) → deeper b ≡ Some d → Row flow (Value b (Point p)) (same_form (use_of d from p))
  unfolding point_of forms_from
  walk_deep b d p x from next e deep = from_point flow (Value b (Point p)) p (value_point x from next) (same_form (use_of d from p)) refl e (deep_has b d p from deep)

  -- calls
  pub result : (b : Aspect) (p x n next : ℕ) (args : List ℕ) → point_at flow p ≡ Some (call_point x n args next) → Row flow (Value b (Point p)) (same_form (Result b n))
  unfolding point_of forms_from
  result b p x n next args e = from_point flow (Value b (Point p)) p (call_point x n args next) (same_form (Result b n)) refl e (it_alone (same_form (Result b n)))

  pub returned : (b : Aspect) (n q y : ℕ) (g : PlainFlowFunction) → function_at flow n ≡ Some g → IsOwnPoint g q → point_at flow q ≡ Some (return_point y) → Row flow (Result b n) (same_form (use_of b y q))
  unfolding point_of forms_beside returned_by
  returned b n q y g is own there = RowBy.listed (Result b n) (same_form (use_of b y q))
      (map_has (used_pair each_use b) (returned_of flow (function_at flow n)) (q, y)
      (subst (λ (o : Option PlainFlowFunction). Contains (returned_of flow o) (q, y)) (sym is) ((returned_law flow n g is q y).1 (record { function = g; is = is; inside = own; there = there }))))

  pub parameter : (b : Aspect) (p x n next y arg : ℕ) (args : List ℕ) (g : PlainFlowFunction) → point_at flow p ≡ Some (call_point x n args next) → function_at flow n ≡ Some g → IsArgument g.params_of args y arg
      → Row flow (Value b (Entry n y)) (same_form (use_of b arg p))
  unfolding point_of forms_beside
  parameter b p x n next y arg args g call is argument = RowBy.listed (Value b (Entry n y)) (same_form (use_of b arg p))
      (Contains-append_left (used_pairs each_use (handed_to flow n y) b) (where_so (is_null_slot flow n y) (where_so (is_own_text b) (text_form [] ∷ []))) (same_form (use_of b arg p))
      (map_has (used_pair each_use b) (handed_to flow n y) (p, arg) ((handed_pairs flow n y p arg).1 (record { slot = x; args = args; next = next; function = g; call = call; is = is; argument = argument }))))

  pub null_slot : (n y : ℕ) (g : PlainFlowFunction) → function_at flow n ≡ Some g → IsOwnSlot g y → (Contains g.params_of y → ⊥) → Row flow (Value (Own half.Text) (Entry n y)) (text_form [])
  unfolding point_of forms_beside where_so is_own_text
  null_slot n y g is own gone = RowBy.listed (Value (Own half.Text) (Entry n y)) (text_form [])
      (Contains-append_right (used_pairs each_use (handed_to flow n y) (Own half.Text)) (where_so (is_null_slot flow n y) (text_form [] ∷ [])) (text_form [])
      (where_has (is_null_slot flow n y) (text_form [] ∷ []) (text_form []) (null_is flow n y (record { function = g; is = is; inside = own; no_parameter = gone })) (it_alone (text_form []))))

  -- what is printed from a point on
  pub at_return : (p x : ℕ) → point_at flow p ≡ Some (return_point x) → Row flow (Out p Return) (text_form [])
  unfolding point_of forms_from
  at_return p x e = from_point flow (Out p Return) p (return_point x) (text_form []) refl e (it_alone (text_form []))

  pub at_quit : (p : ℕ) → point_at flow p ≡ Some (quit_point None) → Row flow (Out p Exit) (text_form [])
  unfolding point_of forms_from
  at_quit p e = from_point flow (Out p Exit) p (quit_point None) (text_form []) refl e (it_alone (text_form []))

  pub at_quit_with : (p x : ℕ) → point_at flow p ≡ Some (quit_point (Some x)) → Row flow (Out p Exit) (same_form (use_of (Own half.Text) x p))
  unfolding point_of forms_from
  at_quit_with p x e = from_point flow (Out p Exit) p (quit_point (Some x)) (same_form (use_of (Own half.Text) x p)) refl e (it_alone (same_form (use_of (Own half.Text) x p)))

  pub at_print : (p next : ℕ) (bytes : List ℕ) (end : Leaving) → point_at flow p ≡ Some (print_point bytes next) → Row flow (Out p end) (before_form bytes (Out next end))
  unfolding point_of forms_from
  at_print p next bytes end e = from_point flow (Out p end) p (print_point bytes next) (before_form bytes (Out next end)) refl e (it_alone (before_form bytes (Out next end)))

  pub at_echo : (p x next : ℕ) (end : Leaving) → point_at flow p ≡ Some (echo_point x next) → Row flow (Out p end) (join_form (shown_at x p) (Out next end))
  unfolding point_of forms_from
  at_echo p x next end e = from_point flow (Out p end) p (echo_point x next) (join_form (shown_at x p) (Out next end)) refl e (it_alone (join_form (shown_at x p) (Out next end)))

  pub at_call : (p x n next : ℕ) (args : List ℕ) (g : PlainFlowFunction) (end : Leaving) → point_at flow p ≡ Some (call_point x n args next) → function_at flow n ≡ Some g
      → Row flow (Out p end) (join_form (Out g.entry_of Return) (Out next end))
  unfolding point_of forms_from
  at_call p x n next args g end e is = from_point flow (Out p end) p (call_point x n args next) (join_form (Out g.entry_of Return) (Out next end)) refl e
      (subst (λ (o : Option PlainFlowFunction). Contains (call_forms next end o) (join_form (Out g.entry_of Return) (Out next end))) (sym is)
      (Contains-head (join_form (Out g.entry_of Return) (Out next end)) (on_exit (same_form (Out g.entry_of Exit)) end)))

  pub at_call_exit : (p x n next : ℕ) (args : List ℕ) (g : PlainFlowFunction) → point_at flow p ≡ Some (call_point x n args next) → function_at flow n ≡ Some g → Row flow (Out p Exit) (same_form (Out g.entry_of Exit))
  unfolding point_of forms_from
  at_call_exit p x n next args g e is = from_point flow (Out p Exit) p (call_point x n args next) (same_form (Out g.entry_of Exit)) refl e
      (subst (λ (o : Option PlainFlowFunction). Contains (call_forms next Exit o) (same_form (Out g.entry_of Exit))) (sym is)
      (Contains-later (join_form (Out g.entry_of Return) (Out next Exit)) (same_form (Out g.entry_of Exit) ∷ []) (same_form (Out g.entry_of Exit)) (it_alone (same_form (Out g.entry_of Exit)))))

  pub at_silent : (p q : ℕ) (i : PlainPoint) (end : Leaving) → point_at flow p ≡ Some i → PrintsNothing i → Contains (nexts i) q → Row flow (Out p end) (same_form (Out q end))
  unfolding point_of forms_from
  at_silent p q i end e goes has = from_point flow (Out p end) p i (same_form (Out q end)) refl e (silent_has flow p i end q goes has)
