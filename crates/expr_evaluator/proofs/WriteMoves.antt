-- The moves of writes.
use Rattle.std.proofs.Common.{◌≡◌, ℕ, ◌+◌, List, [], ◌∷◌, ◌++◌, refl, sym, ap, ◌∙◌, subst, arith, Bor, Bool, true, false, append_assoc, ◌⊎◌, inl, inr, length}
use Rattle.std.specs.Prelude.{◌==◌, Option, Result, Ok, Err, if◌then◌else◌}
use Rattle.std.specs.declared.vec.Vec.{Vec}
use Rattle.std.specs.declared.alloc.Global.{Global}
use Rattle.php_syntax.specs.declared.tree.UpdateSign.{UpdateSign}
use Rattle.php_syntax.specs.declared.tree.Expr.{Expr}
use Rattle.plain_values.specs.Plain.{Plain}
use Rattle.plain_values.specs.Paths as paths
use Rattle.plain_values.specs.declared.fault.Fault.{Fault}
use Rattle.plain_values.specs.declared.fault.Fault.TheVariants.{Memory}
use Rattle.php_values.specs.declared.array.Value.{Value}
use Rattle.php_values.specs.declared.key.Key.{Key}
use Rattle.php_values.specs.View.{plain_of, plain_path, plain_step}
use Rattle.plain_values.specs.Outcome.{go_on}
use Rattle.expr_evaluator.proofs.VariableLemmas.{behind_path, path_push}
use Rattle.script_meaning.specs.Runs.{State, Run, Going, value_in, set_in, ◌then_do◌, result_of, with_variable}
use Rattle.script_meaning.specs.Expressions.{assigned, stepped, updated, update_at, is_kept, store}
use Rattle.expr_evaluator.specs.declared.frame.Writing.{Writing}
use Rattle.expr_evaluator.specs.declared.frame.Writing.TheVariants as writing
use Rattle.expr_evaluator.specs.declared.frame.Frame.TheVariants as frame
use Rattle.expr_evaluator.specs.declared.frame.Focus.{Focus}
use Rattle.expr_evaluator.specs.declared.frame.Focus.TheVariants as focus
use Rattle.expr_evaluator.specs.declared.evaluator.Evaluator.{Evaluator}
use Rattle.expr_evaluator.specs.Frames.{world, focused, after_value, keys_done, step_in, assign_in, update_in, plain_maybe, plain_maybes}
use Rattle.expr_evaluator.specs.Cost.{frame_cost, focus_cost, writing_cost}
use Rattle.expr_evaluator.specs.Moves.{Opens, Does, Reads, written, seeing}
use Rattle.expr_evaluator.proofs.Opening.{opened_same, opened_less}

-- a store as one write
store_is : (x : List ℕ) (path : List paths.Step) (new : Plain) (s : State) → store x path new s ≡ (result_of (written path new (value_in s.variables x)) s then_do λ whole t. Going new (with_variable t x whole))
unfolding store result_of ◌then_do◌
store_is x [] new s = refl
store_is x (k ∷ ks) new s = refl

-- a step, a write at subscripts and an update over variables
pub stepped_does : (x : List ℕ) (up before : Bool) (new : Plain) (m m' : Evaluator) (a : Value) → stepped up (value_in m.variables x) ≡ Ok new → m'.frames ≡ m.frames → m'.variables ≡ set_in m.variables x new → plain_of a ≡ (if before then new else value_in m.variables x) → Does (step_in x up before) m (focus.Value a) m'
unfolding focused focus_cost step_in result_of ◌then_do◌
stepped_does x up before new m m' a is fr vs h = record { frames = fr; gives = λ enter w s. rw (is, vs, h) refl; light = omega arith }

pub step_faults : (x : List ℕ) (up before : Bool) (fault : Fault) (m m' : Evaluator) → stepped up (value_in m.variables x) ≡ Err fault → m'.frames ≡ m.frames → Does (step_in x up before) m (focus.Fault fault) m'
unfolding focused focus_cost step_in result_of ◌then_do◌
step_faults x up before fault m m' is fr = record { frames = fr; gives = λ enter w s. rw is refl; light = omega arith }

pub assigned_does : (x : List ℕ) (ks : List (Option Plain)) (v whole : Plain) (m m' : Evaluator) (a : Value) → assigned ks v (value_in m.variables x) ≡ Ok whole → m'.frames ≡ m.frames → m'.variables ≡ set_in m.variables x whole → plain_of a ≡ v → Does (assign_in x ks v) m (focus.Value a) m'
unfolding focused focus_cost assign_in result_of ◌then_do◌
assigned_does x ks v whole m m' a is fr vs h = record { frames = fr; gives = λ enter w s. rw (is, vs, h) refl; light = omega arith }

pub assign_faults : (x : List ℕ) (ks : List (Option Plain)) (v : Plain) (fault : Fault) (m m' : Evaluator) → assigned ks v (value_in m.variables x) ≡ Err fault → m'.frames ≡ m.frames → Does (assign_in x ks v) m (focus.Fault fault) m'
unfolding focused focus_cost assign_in result_of ◌then_do◌
assign_faults x ks v fault m m' is fr = record { frames = fr; gives = λ enter w s. rw is refl; light = omega arith }

pub updated_does : (sign : UpdateSign) (x : List ℕ) (path : List paths.Step) (old v new whole : Plain) (m m' : Evaluator) (a : Value) → updated sign old v ≡ Ok new → written path new (value_in m.variables x) ≡ Ok whole → m'.frames ≡ m.frames → m'.variables ≡ set_in m.variables x whole → plain_of a ≡ new
    → Does (update_in sign x path old v) m (focus.Value a) m'
unfolding focused focus_cost update_in result_of ◌then_do◌
updated_does sign x path old v new whole m m' a is at fr vs h = record { frames = fr; gives = λ enter w s. rw is (sym (store_is x path new (seeing s m.variables) ∙ rw (at, vs, h) refl)); light = omega arith }

pub update_faults : (sign : UpdateSign) (x : List ℕ) (path : List paths.Step) (old v : Plain) (fault : Fault) (m m' : Evaluator) → updated sign old v ≡ Err fault → m'.frames ≡ m.frames → Does (update_in sign x path old v) m (focus.Fault fault) m'
unfolding focused focus_cost update_in result_of ◌then_do◌
update_faults sign x path old v fault m m' is fr = record { frames = fr; gives = λ enter w s. rw is refl; light = omega arith }

pub write_faults : (sign : UpdateSign) (x : List ℕ) (path : List paths.Step) (old v new : Plain) (fault : Fault) (m m' : Evaluator) → updated sign old v ≡ Ok new → written path new (value_in m.variables x) ≡ Err fault → m'.frames ≡ m.frames → Does (update_in sign x path old v) m (focus.Fault fault) m'
unfolding focused focus_cost update_in result_of ◌then_do◌
write_faults sign x path old v new fault m m' is at fr = record { frames = fr; gives = λ enter w s. rw is (sym (store_is x path new (seeing s m.variables) ∙ rw at refl)); light = omega arith }

-- what goes on behind subscripts
pub reads_assign : (x : Bor (List ℕ)) (e : Bor Expr) (ks : Vec (Option Value) Global) (m m' : Evaluator) (f : Focus) → Opens (frame.Assign x ks) e m f m' → Reads (writing.Assign x e) (plain_maybes ks.items) m f m'
unfolding keys_done after_value frame_cost writing_cost
reads_assign x e ks m m' f o = record {
  same = λ r fs enter s. opened_same enter (world r fs enter) _ e m m' f _ s o λ t. refl;
  less = opened_less _ e m m' f _ o (omega arith);
}

module _ (sign : UpdateSign) (x : Bor (List ℕ)) (e : Bor Expr) (ks : List (Option Plain)) (m : Evaluator) where
  pub reads_kept : (path : List paths.Step) (old : Value) → paths.path_of ks ≡ Ok path → paths.read path (value_in m.variables x.now) ≡ Ok (plain_of old) → is_kept sign (plain_of old) ≡ true → Reads (writing.Update sign x e) ks m (focus.Value old) m
  unfolding keys_done update_at result_of ◌then_do◌ focused focus_cost writing_cost
  reads_kept path old is at kept = record { same = λ r fs enter s. rw (is, at, kept) refl; less = omega arith }

  pub reads_old : (path : Vec (Option Key) Global) (old : Value) (m' : Evaluator) (f : Focus) → paths.path_of ks ≡ Ok (plain_path path.items) → paths.read (plain_path path.items) (value_in m.variables x.now) ≡ Ok (plain_of old) → is_kept sign (plain_of old) ≡ false
      → Opens (frame.Update sign x path old) e m f m' → Reads (writing.Update sign x e) ks m f m'
  unfolding keys_done update_at update_in result_of ◌then_do◌ after_value frame_cost writing_cost
  reads_old path old m' f is at kept o = record {
    same = λ r fs enter s. rw (is, at, kept) (opened_same enter (world r fs enter) _ e m m' f _ s o λ t. refl);
    less = opened_less _ e m m' f _ o (omega arith);
  }

  pub path_faults : (fault : Fault) → paths.path_of ks ≡ Err fault → Reads (writing.Update sign x e) ks m (focus.Fault fault) m
  unfolding keys_done result_of ◌then_do◌ focused focus_cost writing_cost
  path_faults fault is = record { same = λ r fs enter s. rw is refl; less = omega arith }

  pub read_faults : (path : List paths.Step) (fault : Fault) → paths.path_of ks ≡ Ok path → paths.read path (value_in m.variables x.now) ≡ Err fault → Reads (writing.Update sign x e) ks m (focus.Fault fault) m
  unfolding keys_done update_at result_of ◌then_do◌ focused focus_cost writing_cost
  read_faults path fault is at = record { same = λ r fs enter s. rw (is, at) refl; less = omega arith }

-- a fault that is next
pub does_fault : (act : State → Run Plain) (m : Evaluator) (f : Focus) (fault : Fault) (m' : Evaluator) → f ≡ focus.Fault fault → Does act m (focus.Fault fault) m' → Does act m f m'
does_fault act m f fault m' e d = subst (λ g. Does act m g m') (sym e) d

pub reads_fault : (sign : UpdateSign) (x : Bor (List ℕ)) (e : Bor Expr) (ks : List (Option Plain)) (m : Evaluator) (f : Focus) (fault : Fault) → f ≡ focus.Fault fault
    → (paths.path_of ks ≡ Err fault) ⊎ ((path : List paths.Step) × (paths.path_of ks ≡ Ok path) × (paths.read path (value_in m.variables x.now) ≡ Err fault)) → Reads (writing.Update sign x e) ks m f m
reads_fault sign x e ks m f fault is (inl h) = subst (λ g. Reads (writing.Update sign x e) ks m g m) (sym is) (path_faults sign x e ks m fault h)
reads_fault sign x e ks m f fault is (inr h) = subst (λ g. Reads (writing.Update sign x e) ks m g m) (sym is) (read_faults sign x e ks m h.0 fault h.1 h.2)

pub reads_as : (p p' : Writing) (xs ys : List (Option Value)) (m : Evaluator) (f : Focus) (m' : Evaluator) → Reads p' (plain_maybes xs) m f m' → p ≡ p' → xs ≡ ys → Reads p (plain_maybes ys) m f m'
reads_as p p' xs ys m f m' h e d = subst (λ q. Reads q (plain_maybes ys) m f m') (sym e) (subst (λ zs. Reads p' (plain_maybes zs) m f m') d h)

pub update_fails : (sign : UpdateSign) (x : List ℕ) (path : List paths.Step) (old v : Plain) (fault : Fault) (m m' : Evaluator) (f : Focus) → f ≡ focus.Fault fault → m'.frames ≡ m.frames
    → (updated sign old v ≡ Err fault) ⊎ ((new : Plain) × (updated sign old v ≡ Ok new) × (written path new (value_in m.variables x) ≡ Err fault)) → Does (update_in sign x path old v) m f m'
update_fails sign x path old v fault m m' f e fr (inl h) = does_fault _ m f fault m' e (update_faults sign x path old v fault m m' h fr)
update_fails sign x path old v fault m m' f e fr (inr h) = does_fault _ m f fault m' e (write_faults sign x path old v h.0 fault m m' h.1 h.2 fr)

-- what was let go does not change what is written
pub written_released : (path : List paths.Step) (old new v : Plain) → paths.Releases path old new → written path v new ≡ written path v old
written_released [] old new v h = refl
written_released (k ∷ ks) old new v h = h v

-- one more step of a path
pub path_on : (made made' : List (Option Key)) (s : Option Key) (v : Option Value) (rest others : List (Option Value)) → rest ≡ v ∷ others → paths.step_of (plain_maybe v) ≡ Ok (plain_step s) → made' ≡ made ++ s ∷ []
    → behind_path (plain_path made) (paths.path_of (plain_maybes rest)) ≡ behind_path (plain_path made') (paths.path_of (plain_maybes others))
path_on made made' s v rest others is h push = rw (is, h, push, path_push made s) (by (paths.path_of (plain_maybes others)))
  where
    by : (r : Result (List paths.Step) Fault) → behind_path (plain_path made) (go_on r (λ more. Ok (plain_step s ∷ more))) ≡ behind_path (plain_path made ++ plain_step s ∷ []) r
    by (Ok more) = ap (λ xs. Ok xs) (sym (append_assoc (plain_path made) (plain_step s ∷ []) more))
    by (Err fault) = refl

pub fault_from : (ks : List (Option Plain)) (v w : Plain) (fault : Fault) → (paths.path_of ks ≡ Err fault) ⊎ ((path : List paths.Step) × (paths.path_of ks ≡ Ok path) × (paths.read path v ≡ Err fault)) → v ≡ w
    → (paths.path_of ks ≡ Err fault) ⊎ ((path : List paths.Step) × (paths.path_of ks ≡ Ok path) × (paths.read path w ≡ Err fault))
fault_from ks v w fault h e = subst (λ u. (paths.path_of ks ≡ Err fault) ⊎ ((path : List paths.Step) × (paths.path_of ks ≡ Ok path) × (paths.read path u ≡ Err fault))) e h

pub write_from : (sign : UpdateSign) (old right : Plain) (path : List paths.Step) (v w : Plain) (fault : Fault) → (updated sign old right ≡ Err fault) ⊎ ((new : Plain) × (updated sign old right ≡ Ok new) × (written path new v ≡ Err fault)) → v ≡ w
    → (updated sign old right ≡ Err fault) ⊎ ((new : Plain) × (updated sign old right ≡ Ok new) × (written path new w ≡ Err fault))
write_from sign old right path v w fault h e = subst (λ u. (updated sign old right ≡ Err fault) ⊎ ((new : Plain) × (updated sign old right ≡ Ok new) × (written path new u ≡ Err fault))) e h

pub assigned_err : (subs : List (Option Value)) (path xs : List (Option Key)) (new old : Plain) (fault : Fault) (b : Bool) → b ≡ (length subs == 0) → b ≡ false → paths.path_of (plain_maybes subs) ≡ Ok (plain_path path) → xs ≡ path
    → (fault ≡ Memory) ⊎ (paths.write (plain_path xs) new old ≡ Err fault) → (fault ≡ Memory) ⊎ (assigned (plain_maybes subs) new old ≡ Err fault)
unfolding assigned
assigned_err [] path xs new old fault b e f is at h = absurd (cc)
assigned_err (s ∷ ss) path xs new old fault b e f is at (inl p) = inl p
assigned_err (s ∷ ss) path xs new old fault b e f is at (inr h) = inr (rw (is, sym at) h)

pub rewritten_err : (r : Result Plain Fault) (new : Plain) (path : List paths.Step) (whole : Plain) (w : Result Plain Fault) (fault : Fault) → r ≡ Ok new → written path new whole ≡ w → (fault ≡ Memory) ⊎ (w ≡ Err fault)
    → (fault ≡ Memory) ⊎ ((r ≡ Err fault) ⊎ ((v : Plain) × (r ≡ Ok v) × (written path v whole ≡ Err fault)))
rewritten_err r new path whole w fault is at (inl p) = inl p
rewritten_err r new path whole w fault is at (inr h) = inr (inr (new, is, at ∙ h))
