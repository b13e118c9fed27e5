-- The points of an expression are of their form.
use Rattle.std.proofs.Common.{◌≡◌, ℕ, zero, suc, ◌≤◌, List, [], ◌∷◌, ◌++◌, length, Some, None, Option, refl, arith, Bool, true, drop, flat_map, slice_get}
use Rattle.std.specs.List.{AllByRecursion}
use Rattle.std.proofs.lemmas.List.Elements.{All-from_recursion}
use Rattle.php_syntax.specs.Trees.{PlainExpr, null_expr, flag_expr, int_expr, text_expr, var_expr, super_expr, member_expr, array_expr, join_expr, neg_expr, not_expr, arith_expr, compare_expr, and_expr, or_expr, coalesce_expr, choice_expr, isset_expr, empty_expr, assign_expr, update_expr, step_expr, call_expr, MaybeExpr, no_expr, some_expr, PlainExprs, no_exprs, more_exprs, PlainItems, no_items, more_items, PlainPath, no_keys, more_keys, PlainParam, PlainFunction}
use Rattle.plain_values.specs.Plain.{Plain, null, flag, int, text}
use Rattle.plain_values.specs.Numeric.{is_in_range}
use Rattle.builtin_meaning.specs.declared.builtin.Builtin.{Builtin}
use Rattle.builtin_meaning.specs.Names.{builtin_named}
use Rattle.script_meaning.specs.Programs.{literal_value}
use Rattle.flow_code.specs.declared.source.Work.TheVariants as work
use Rattle.flow_code.specs.Points.{PlainKeyRef, int_ref, text_ref, read_ref, PlainSource, literal_source, copy_source, super_source, member_source, array_source, put_source, concat_source, number_source, truth_source, PlainFlowFunction}
use Rattle.program_expressions.specs.Collected.{collected}
use Rattle.flow_code.specs.Variables.{own_names, Name, names_in, maybe_names, names_in_all, item_names, path_names}
use Rattle.flow_code.specs.Code.{Code, both, computed, from_source}
use Rattle.flow_code.specs.Expressions.{Begun, no_item, one_item, join_code, Scope, variable, function_in, literal, default_code, default_codes, code, codes, maybe_key, path_code, items_code, key_code, call_code, call_own, number_of, length_of_path}
use Rattle.flow_code.specs.Builtins.{builtin_source}
use Rattle.flow_code.specs.Lawful.{key_slots, maybe_key_slots, item_slots, source_reads, IsOwnSlot, IsKeyLiteral, IsItemKey, IsLiteral, arithmetic, comparison, negation, isset, empty}
use Rattle.flow_runs.specs.Fits.{CallFits, ExprFits, MaybeFits, ExprsFit, ItemsFit, PathFits, ParamsFit}
use Rattle.flow_runs.proofs.Names.{HasAll, all_front, all_back}
use Rattle.flow_runs.proofs.Trees.{path_count}
use Rattle.flow_runs.proofs.FitCodes.{AllOwn, SourceIs, all_both, Lies, CodeFits, own_variable, copy_is, fits_known, fits_left, fits_both, fits_computed, fits_with, fits_and, fits_or, fits_first_there, fits_chosen, fits_chosen_itself}
use Rattle.flow_runs.proofs.FitBuiltins.{call_is}
use Rattle.flow_runs.proofs.FitWrites.{KeyIs, KeysAre, WriteIs, keys_more, keys_one, keys_rest, written_is, null_is, SlotsAre, fits_stored, fits_update, fits_step, fits_called}

abbrev KeyRefIs : PlainFlowFunction → PlainKeyRef → Type 0
KeyRefIs g k = AllOwn g (key_slots k) × IsKeyLiteral k

abbrev ItemsAre : PlainFlowFunction → List (Option PlainKeyRef × ℕ) → Type 0
ItemsAre g items = AllOwn g (flat_map item_slots items) × AllByRecursion IsItemKey items

abbrev ItemIs : PlainFlowFunction → Option PlainKeyRef × ℕ → Type 0
ItemIs g item = KeyIs g item.0 × IsOwnSlot g item.1

-- an array so far, and its items
abbrev BegunIs : PlainFlowFunction → Begun → Type 0
BegunIs g b = IsOwnSlot g b.0 × ItemsAre g b.1

abbrev TwoAre : PlainFlowFunction → Begun × (Option PlainKeyRef × ℕ) → Type 0
TwoAre g two = BegunIs g two.0 × ItemIs g two.1

items_more : (g : PlainFlowFunction) (item : Option PlainKeyRef × ℕ) (items : List (Option PlainKeyRef × ℕ)) → ItemIs g item → ItemsAre g items → ItemsAre g (item ∷ items)
items_more g item items h hs = (all_both (IsOwnSlot g) (item_slots item) (flat_map item_slots items) (all_both (IsOwnSlot g) (maybe_key_slots item.0) (item.1 ∷ []) (h.0).0 (h.1, tt)) hs.0, ((h.0).1, hs.1))

items_last : (g : PlainFlowFunction) (item : Option PlainKeyRef × ℕ) (items : List (Option PlainKeyRef × ℕ)) → ItemIs g item → ItemsAre g items → ItemsAre g (items ++ item ∷ [])
items_last g item [] h hs = items_more g item [] h (tt, tt)
items_last g item (first ∷ items) h hs =
    let rest = items_last g item items h (keys_rest g (item_slots first) (flat_map item_slots items) hs.0, (hs.1).1) in
    (all_both (IsOwnSlot g) (item_slots first) (flat_map item_slots (items ++ item ∷ [])) (keys_one g (item_slots first) (flat_map item_slots items) hs.0) rest.0, ((hs.1).0, rest.1))

slots_more : (g : PlainFlowFunction) (n x : ℕ) (xs : List ℕ) → IsOwnSlot g x → SlotsAre g n xs → SlotsAre g (suc n) (x ∷ xs)
slots_more g n x xs h hs = let e = hs.1 in ((h, hs.0), omega (arith, e))

literal_is : (g : PlainFlowFunction) (v : Plain) → IsLiteral v → SourceIs g (literal_source v)
unfolding source_reads
literal_is g v h = (tt, h)

int_is : (z : _) → is_in_range z ≡ true → IsLiteral (int z)
int_is z h = record { parts = h; shallow = omega arith }

text_is : (t : List ℕ) → length t ≤ 16777216 → IsLiteral (text t)
text_is t h = record { parts = h; shallow = omega arith }

flag_is : (b : Bool) → IsLiteral (flag b)
flag_is b = record { parts = tt; shallow = omega arith }

pub null_literal : IsLiteral null
null_literal = record { parts = tt; shallow = omega arith }

params_drop : (n : ℕ) (ps : List PlainParam) → ParamsFit ps → ParamsFit (drop n ps)
params_drop zero ps h = h
params_drop (suc n) [] h = tt
params_drop (suc n) (p ∷ ps) h = params_drop n ps h.1

-- the functions that a scope names are there, with as many parameters, whose defaults fit
pub record Callees (fs : List PlainFlowFunction) (table : List PlainFunction) : Type 0 where
  pub there : (name : Name) (n : ℕ) (f : PlainFunction) → function_in 1 table name ≡ Some (n, f) → (h : PlainFlowFunction) × (slice_get fs n ≡ Some h) × (length h.params_of ≡ length f.params_of)
  pub fit : (name : Name) (n : ℕ) (f : PlainFunction) → function_in 1 table name ≡ Some (n, f) → ParamsFit f.params_of

module _ {fs : List PlainFlowFunction} {g : PlainFlowFunction} {w : Scope} (lies : Lies g w) where
  fits_source : (source : PlainSource) → SourceIs g source → CodeFits fs g w ℕ (from_source source) (IsOwnSlot g)
  fits_source source h = fits_computed lies (λ s. s) (λ s h. h) (fits_known (SourceIs g) source h)

  pub fits_literal : (v : Plain) → IsLiteral v → CodeFits fs g w ℕ (literal v) (IsOwnSlot g)
  fits_literal v h = fits_source (literal_source v) (literal_is g v h)

  neg_fits : {a : Code ℕ} → CodeFits fs g w ℕ a (IsOwnSlot g) → CodeFits fs g w ℕ (computed a (λ x. number_source work.Neg (x ∷ []))) (IsOwnSlot g)
  unfolding source_reads
  neg_fits d = fits_computed lies (λ x. number_source work.Neg (x ∷ [])) (λ x h. ((h, tt), negation x)) d

  default_fits : (e : MaybeExpr) → MaybeFits e → CodeFits fs g w ℕ (default_code e) (IsOwnSlot g)
  unfolding default_code literal_value ExprFits
  default_fits no_expr h = fits_literal null null_literal
  default_fits (some_expr (flag_expr b)) h = fits_literal (flag b) (flag_is b)
  default_fits (some_expr (int_expr z)) h = fits_literal (int z) (int_is z h)
  default_fits (some_expr (text_expr t)) h = fits_literal (text t) (text_is t h)
  default_fits (some_expr (neg_expr (int_expr z))) h = neg_fits (fits_literal (int z) (int_is z h))
  default_fits (some_expr e) h = fits_literal null null_literal

  defaults_fit : (ps : List PlainParam) → ParamsFit ps → CodeFits fs g w (List ℕ) (default_codes ps) (SlotsAre g (length ps))
  unfolding default_codes
  defaults_fit [] h = fits_known (SlotsAre g 0) [] (tt, refl)
  defaults_fit (p ∷ ps) h = fits_both (SlotsAre g (length (p ∷ ps))) (λ x xs. x ∷ xs) (slots_more g (length ps)) (default_fits p.default_of h.0) (defaults_fit ps h.1)

  key_fits : (e : PlainExpr) → ExprFits e → CodeFits fs g w ℕ (code w e) (IsOwnSlot g) → CodeFits fs g w PlainKeyRef (key_code e (code w e)) (KeyRefIs g)
  unfolding code key_code ExprFits
  key_fits (int_expr z) h d = fits_known (KeyRefIs g) (int_ref z) (tt, h)
  key_fits (text_expr t) h d = fits_known (KeyRefIs g) (text_ref t) (tt, h)
  key_fits e h d = fits_left (KeyRefIs g) read_ref (λ x hx. ((hx, tt), tt)) d

  calls_fit : {args : Code (List ℕ)} → Callees fs w.functions → (name : Name) (trees : PlainExprs) (b : Option Builtin) (own : Option (ℕ × PlainFunction)) → builtin_named name ≡ b → function_in 1 w.functions name ≡ own → CallFits name (number_of trees) → CodeFits fs g w (List ℕ) args (SlotsAre g (number_of trees)) → CodeFits fs g w ℕ (call_code b own trees args) (IsOwnSlot g)
  unfolding call_code call_own
  calls_fit callees name trees (Some b) own eb eo arity d = let k = arity b eb in fits_computed lies (builtin_source b trees) (λ xs h. call_is g b trees xs h.1 k.0 k.1 h.0) d
  calls_fit callees name trees None None eb eo arity d = fits_computed lies (λ xs. literal_source null) (λ xs h. null_is g) d
  calls_fit callees name trees None (Some found) eb eo arity d =
      let there = callees.there name found.0 found.1 eo in
      fits_called lies found.0 (number_of trees) (found.1).params_of there.0 there.1 there.2 d (defaults_fit (drop (number_of trees) (found.1).params_of) (params_drop (number_of trees) (found.1).params_of (callees.fit name found.0 found.1 eo)))

  member_fits : {a : Code ℕ} {k : Code PlainKeyRef} → CodeFits fs g w ℕ a (IsOwnSlot g) → CodeFits fs g w PlainKeyRef k (KeyRefIs g) → CodeFits fs g w ℕ (computed (both a k (λ x key. member_source x key)) (λ source. source)) (IsOwnSlot g)
  unfolding source_reads
  member_fits d e = fits_computed lies (λ source. source) (λ s h. h) (fits_both (SourceIs g) (λ x key. member_source x key) (λ x key hx hk. ((hx, hk.0), hk.1)) d e)

  array_fits : {items : Code Begun} → CodeFits fs g w Begun items (BegunIs g) → CodeFits fs g w ℕ (computed items (λ made. array_source made.1)) (IsOwnSlot g)
  unfolding source_reads
  array_fits d = fits_computed lies (λ made. array_source made.1) (λ made h. ((h.1).0, All-from_recursion IsItemKey made.1 (h.1).1)) d

  no_item_fits : CodeFits fs g w Begun no_item (BegunIs g)
  unfolding source_reads
  no_item_fits = fits_left (BegunIs g) (λ x. (x, [])) (λ x h. (h, (tt, tt))) (fits_computed lies (λ s. s) (λ s h. h) (fits_known (SourceIs g) (array_source []) (tt, All-from_recursion IsItemKey [] tt)))

  one_item_fits : {begun : Code Begun} {item : Code (Option PlainKeyRef × ℕ)} → CodeFits fs g w Begun begun (BegunIs g) → CodeFits fs g w (Option PlainKeyRef × ℕ) item (ItemIs g) → CodeFits fs g w Begun (one_item begun item) (BegunIs g)
  unfolding source_reads
  one_item_fits d e =
      fits_with lies (BegunIs g) (λ two. put_source (two.0).0 ((two.1).0 ∷ []) (two.1).1) (λ two x. (x, (two.0).1 ++ two.1 ∷ []))
      (λ two h. written_is g (two.0).0 (two.1).1 ((two.1).0 ∷ []) (keys_more g (two.1).0 [] (h.1).0 (tt, tt)) (h.0).0 (h.1).1)
      (λ two x h own. (own, items_last g two.1 (two.0).1 h.1 (h.0).1))
      (fits_both (TwoAre g) (λ made one. (made, one)) (λ x y hx hy. (hx, hy)) d e)

  join_fits : {parts : Code (List ℕ)} (n : ℕ) (es : PlainExprs) → CodeFits fs g w (List ℕ) parts (SlotsAre g n) → CodeFits fs g w ℕ (join_code es parts) (IsOwnSlot g)
  unfolding source_reads join_code
  join_fits n no_exprs d = fits_computed lies concat_source (λ xs h. (h.0, tt)) d
  join_fits n (more_exprs e no_exprs) d = fits_computed lies concat_source (λ xs h. (h, tt)) (fits_both (AllOwn g) (λ xs x. xs ++ x ∷ []) (λ xs x hs h. all_both (IsOwnSlot g) xs (x ∷ []) hs.0 (h, tt)) d (fits_literal (text []) (text_is [] (omega arith))))
  join_fits n (more_exprs a (more_exprs b es)) d = fits_computed lies concat_source (λ xs h. (h.0, tt)) d

  isset_fits : {parts : Code (List ℕ)} (n : ℕ) → CodeFits fs g w (List ℕ) parts (SlotsAre g n) → CodeFits fs g w ℕ (computed parts (truth_source work.Isset)) (IsOwnSlot g)
  unfolding source_reads
  isset_fits n d = fits_computed lies (truth_source work.Isset) (λ xs h. (h.0, isset xs)) d

  not_fits : {a : Code ℕ} → CodeFits fs g w ℕ a (IsOwnSlot g) → CodeFits fs g w ℕ (computed a (λ x. truth_source work.Not (x ∷ []))) (IsOwnSlot g)
  unfolding source_reads
  not_fits d = fits_computed lies (λ x. truth_source work.Not (x ∷ [])) (λ x h. ((h, tt), negation x)) d

  empty_fits : {a : Code ℕ} → CodeFits fs g w ℕ a (IsOwnSlot g) → CodeFits fs g w ℕ (computed a (λ x. truth_source work.Empty (x ∷ []))) (IsOwnSlot g)
  unfolding source_reads
  empty_fits d = fits_computed lies (λ x. truth_source work.Empty (x ∷ [])) (λ x h. ((h, tt), empty x)) d

  arith_fits : {a b : Code ℕ} (sign : _) → CodeFits fs g w ℕ a (IsOwnSlot g) → CodeFits fs g w ℕ b (IsOwnSlot g) → CodeFits fs g w ℕ (computed (both a b (λ x y. x ∷ y ∷ [])) (number_source (work.Arith sign))) (IsOwnSlot g)
  unfolding source_reads
  arith_fits {a} {b} sign d e = fits_computed lies (λ s. s) (λ s h. h) (fits_both (SourceIs g) (λ x y. number_source (work.Arith sign) (x ∷ y ∷ [])) (λ x y hx hy. ((hx, (hy, tt)), arithmetic sign x y)) d e)

  compare_fits : {a b : Code ℕ} (sign : _) → CodeFits fs g w ℕ a (IsOwnSlot g) → CodeFits fs g w ℕ b (IsOwnSlot g) → CodeFits fs g w ℕ (computed (both a b (λ x y. x ∷ y ∷ [])) (truth_source (work.Compare sign))) (IsOwnSlot g)
  unfolding source_reads
  compare_fits {a} {b} sign d e = fits_computed lies (λ s. s) (λ s h. h) (fits_both (SourceIs g) (λ x y. truth_source (work.Compare sign) (x ∷ y ∷ [])) (λ x y hx hy. ((hx, (hy, tt)), comparison sign x y)) d e)

  super_fits : (name : _) → CodeFits fs g w ℕ (code w (super_expr name)) (IsOwnSlot g)
  unfolding code source_reads
  super_fits name = fits_source (super_source name) (tt, tt)

  module _ (callees : Callees fs w.functions) where
    mutual
      unfolding code collected own_names ExprFits number_of

      pub expr_fits : (e : PlainExpr) → ExprFits e → HasAll w.names (names_in e) → CodeFits fs g w ℕ (code w e) (IsOwnSlot g)
      expr_fits null_expr h n = fits_literal null null_literal
      expr_fits (flag_expr b) h n = fits_literal (flag b) (flag_is b)
      expr_fits (int_expr z) h n = fits_literal (int z) (int_is z h)
      expr_fits (text_expr t) h n = fits_literal (text t) (text_is t h)
      expr_fits (var_expr x) h n = fits_source (copy_source (variable w x)) (copy_is g (variable w x) (own_variable w lies x n.0))
      expr_fits (super_expr name) h n = super_fits name
      expr_fits (member_expr a k) h n = member_fits (expr_fits a h.0 (all_front w.names (names_in a) (names_in k) n)) (key_fits k h.1 (expr_fits k h.1 (all_back w.names (names_in a) (names_in k) n)))
      expr_fits (array_expr items) h n = array_fits (items_fit items h n no_item_fits)
      expr_fits (join_expr parts) h n = join_fits (number_of parts) parts (exprs_fit parts h n)
      expr_fits (neg_expr a) h n = neg_fits (expr_fits a h n)
      expr_fits (not_expr a) h n = not_fits (expr_fits a h n)
      expr_fits (arith_expr sign a b) h n = arith_fits sign (expr_fits a h.0 (all_front w.names (names_in a) (names_in b) n)) (expr_fits b h.1 (all_back w.names (names_in a) (names_in b) n))
      expr_fits (compare_expr sign a b) h n = compare_fits sign (expr_fits a h.0 (all_front w.names (names_in a) (names_in b) n)) (expr_fits b h.1 (all_back w.names (names_in a) (names_in b) n))
      expr_fits (and_expr a b) h n = fits_and lies (expr_fits a h.0 (all_front w.names (names_in a) (names_in b) n)) (expr_fits b h.1 (all_back w.names (names_in a) (names_in b) n))
      expr_fits (or_expr a b) h n = fits_or lies (expr_fits a h.0 (all_front w.names (names_in a) (names_in b) n)) (expr_fits b h.1 (all_back w.names (names_in a) (names_in b) n))
      expr_fits (coalesce_expr a b) h n = fits_first_there lies (expr_fits a h.0 (all_front w.names (names_in a) (names_in b) n)) (expr_fits b h.1 (all_back w.names (names_in a) (names_in b) n))
      expr_fits (choice_expr c no_expr b) h n = fits_chosen_itself lies (expr_fits c h.0 (all_front w.names (names_in c) (names_in b) n)) (expr_fits b h.2 (all_back w.names (names_in c) (names_in b) n))
      expr_fits (choice_expr c (some_expr a) b) h n =
          let k = all_back w.names (names_in c) (names_in a ++ names_in b) n in
          fits_chosen lies (expr_fits c h.0 (all_front w.names (names_in c) (names_in a ++ names_in b) n)) (expr_fits a h.1 (all_front w.names (names_in a) (names_in b) k)) (expr_fits b h.2 (all_back w.names (names_in a) (names_in b) k))
      expr_fits (isset_expr parts) h n = isset_fits (number_of parts) (exprs_fit parts h n)
      expr_fits (empty_expr a) h n = empty_fits (expr_fits a h n)
      expr_fits (assign_expr x path e) h n = fits_stored lies x n.0 (fits_both (WriteIs g) (λ keys v. (keys, v)) (λ keys v hk hv. (hk, hv)) (path_fits path h.0 (all_front w.names (path_names path) (names_in e) n.1)) (expr_fits e h.1 (all_back w.names (path_names path) (names_in e) n.1)))
      expr_fits (update_expr sign x path e) h n = fits_update lies sign x (length_of_path path) n.0 (path_count w path) (path_fits path h.0 (all_front w.names (path_names path) (names_in e) n.1)) (expr_fits e h.1 (all_back w.names (path_names path) (names_in e) n.1))
      expr_fits (step_expr x up' before) h n = fits_step lies x up' before n.0
      expr_fits (call_expr name args) h n = calls_fit callees name args (builtin_named name) (function_in 1 w.functions name) refl refl h.0 (exprs_fit args h.1 n)

      pub exprs_fit : (es : PlainExprs) → ExprsFit es → HasAll w.names (names_in_all es) → CodeFits fs g w (List ℕ) (codes w es) (SlotsAre g (number_of es))
      exprs_fit no_exprs h n = fits_known (SlotsAre g 0) [] (tt, refl)
      exprs_fit (more_exprs e es) h n = fits_both (SlotsAre g (suc (number_of es))) (λ x xs. x ∷ xs) (slots_more g (number_of es)) (expr_fits e h.0 (all_front w.names (names_in e) (names_in_all es) n)) (exprs_fit es h.1 (all_back w.names (names_in e) (names_in_all es) n))

      pub maybe_fits : (e : MaybeExpr) → MaybeFits e → HasAll w.names (maybe_names e) → CodeFits fs g w (Option PlainKeyRef) (maybe_key w e) (KeyIs g)
      maybe_fits no_expr h n = fits_known (KeyIs g) None (tt, tt)
      maybe_fits (some_expr e) h n = fits_left (KeyIs g) Some (λ k hk. hk) (key_fits e h (expr_fits e h n))

      pub path_fits : (ks : PlainPath) → PathFits ks → HasAll w.names (path_names ks) → CodeFits fs g w (List (Option PlainKeyRef)) (path_code w ks) (KeysAre g)
      path_fits no_keys h n = fits_known (KeysAre g) [] (tt, tt)
      path_fits (more_keys k ks) h n = fits_both (KeysAre g) (λ x xs. x ∷ xs) (keys_more g) (maybe_fits k h.0 (all_front w.names (maybe_names k) (path_names ks) n)) (path_fits ks h.1 (all_back w.names (maybe_names k) (path_names ks) n))

      pub items_fit : (is : PlainItems) → ItemsFit is → HasAll w.names (item_names is) → {begun : Code Begun} → CodeFits fs g w Begun begun (BegunIs g) → CodeFits fs g w Begun (items_code w is begun) (BegunIs g)
      items_fit no_items h n d = d
      items_fit (more_items k e is) h n d =
          let rest = all_back w.names (maybe_names k) (names_in e ++ item_names is) n in
          items_fit is h.2 (all_back w.names (names_in e) (item_names is) rest)
          (one_item_fits d (fits_both (ItemIs g) (λ key x. (key, x)) (λ key x hk hx. (hk, hx)) (maybe_fits k h.0 (all_front w.names (maybe_names k) (names_in e ++ item_names is) n)) (expr_fits e h.1 (all_front w.names (names_in e) (item_names is) rest))))
