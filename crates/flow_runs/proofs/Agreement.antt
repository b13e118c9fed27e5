-- Runs that evaluate all parts first come to the same as those that go on between the parts, where these go on or end.
use Rattle.std.proofs.Common.{◌≡◌, List, [], ◌∷◌, refl, sym, ap, subst, Bool, true, false, not, Result, Ok, Err}
use Rattle.std.specs.Prelude.{if◌then◌else◌}
use Rattle.php_syntax.specs.declared.tree.UpdateSign.{UpdateSign}
use Rattle.php_syntax.specs.declared.tree.UpdateSign.TheVariants as update
use Rattle.plain_values.specs.Plain.{Plain, flag}
use Rattle.plain_values.specs.Walks.{is_null}
use Rattle.plain_values.specs.Outcome.{go_on}
use Rattle.plain_values.specs.Paths.{Step, step_of, path_of, read, write}
use Rattle.plain_values.specs.declared.fault.Fault.{Fault}
use Rattle.script_meaning.specs.Runs.{State, Run, Going, Over, ◌then_do◌, Ended, Faulted, Spent, Deep, result_of, with_variable, value_in}
use Rattle.script_meaning.specs.Expressions.{value, assigned, updated, is_kept, store, update_at}
use Rattle.flow_code.specs.Variables.{Name}
use Rattle.flow_runs.proofs.Ends.{EndsAs}
use Rattle.flow_runs.proofs.Writes.{KeyValues, old_at}

pub ends_self : {A : Type 0} (r : Run A) → EndsAs r r
ends_self (Going v s) = refl
ends_self (Over Ended w) = refl
ends_self (Over (Faulted fault) w) = tt
ends_self (Over Spent w) = refl
ends_self (Over Deep w) = refl

pub ends_same : {A : Type 0} (r r' : Run A) → r' ≡ r → EndsAs r r'
ends_same r r' e = subst (EndsAs r) (sym e) (ends_self r)

second_then : {U V W Z : Type 0} (u : U) (r : Run V) (make : U → V → W) (go : W → State → Run Z) → ((r then_do λ v s. Going (make u v) s) then_do go) ≡ (r then_do λ v s. go (make u v) s)
unfolding ◌then_do◌
second_then u (Going v s) make go = refl
second_then u (Over end w) make go = refl

-- two parts, and what is made of both
pub paired_then : {U V W Z : Type 0} (r : Run U) (rb : State → Run V) (make : U → V → W) (go : W → State → Run Z) → ((r then_do λ u s. (rb s then_do λ v s. Going (make u v) s)) then_do go) ≡ (r then_do λ u s. (rb s then_do λ v s. go (make u v) s))
unfolding ◌then_do◌
paired_then (Going u s) rb make go = second_then u (rb s) make go
paired_then (Over end w) rb make go = refl

pub flagged : (c : Result Bool Fault) (s : State) → result_of (go_on c (λ answer. Ok (flag answer))) s ≡ (result_of c s then_do λ answer s. Going (flag answer) s)
unfolding result_of ◌then_do◌
flagged (Ok b) s = refl
flagged (Err fault) s = refl

-- a write with the path that the subscripts are
not_empty : (first : Result Step Fault) (rest : Result (List Step) Fault) → go_on first (λ a. go_on rest (λ b. Ok (a ∷ b))) ≡ Ok [] → ⊥
not_empty (Ok a) (Ok b) e = cc
not_empty (Ok a) (Err fault) e = cc
not_empty (Err fault) rest e = cc

abbrev couple : {U V : Type 0} → U → V → U × V
couple u v = (u, v)

module _ (x : Name) where
  abbrev Stored : KeyValues → Plain → State → Run Plain
  Stored ks new s = result_of (assigned ks new (value_in s.variables x)) s then_do λ whole s. Going new (with_variable s x whole)

  stores : (ks : KeyValues) (path : List Step) (new : Plain) (s : State) → path_of ks ≡ Ok path → EndsAs (store x path new s) (Stored ks new s)
  unfolding store assigned result_of ◌then_do◌
  stores [] [] new s e = refl
  stores [] (a ∷ path) new s e = absurd cc
  stores (k ∷ ks) [] new s e = absurd (not_empty (step_of k) (path_of ks) e)
  stores (k ∷ ks) (a ∷ path) new s e = ends_same _ _ (ap (λ b. result_of (go_on b (λ path. write path new (value_in s.variables x))) s then_do λ whole s. Going new (with_variable s x whole)) e)

  -- what an update comes to behind its old value
  abbrev Updated : UpdateSign → (State → Run Plain) → Run (KeyValues × Plain) → Run Plain
  Updated sign right r = ((r then_do λ u s. (right s then_do λ v s. Going (couple u v) s)) then_do λ kv s. (result_of (updated sign (kv.0).1 kv.1) s then_do λ new s. Going (couple (kv.0).0 new) s)) then_do λ kv s. Stored kv.0 kv.1 s

  by_new : (ks : KeyValues) (path : List Step) (s : State) → path_of ks ≡ Ok path → (c : Result Plain Fault) → EndsAs (result_of c s then_do λ new s. store x path new s) ((result_of c s then_do λ new s. Going (couple ks new) s) then_do λ kv s. Stored kv.0 kv.1 s)
  unfolding ◌then_do◌ result_of
  by_new ks path s e (Ok new) = stores ks path new s e
  by_new ks path s e (Err fault) = tt

  by_right : (sign : UpdateSign) (ks : KeyValues) (path : List Step) (old : Plain) → path_of ks ≡ Ok path → (r : Run Plain) → EndsAs (r then_do λ v s. (result_of (updated sign old v) s then_do λ new s. store x path new s)) (((r then_do λ v s. Going (couple (couple ks old) v) s) then_do λ kv s. (result_of (updated sign (kv.0).1 kv.1) s then_do λ new s. Going (couple (kv.0).0 new) s)) then_do λ kv s. Stored kv.0 kv.1 s)
  unfolding ◌then_do◌
  by_right sign ks path old e (Going v s) = by_new ks path s e (updated sign old v)
  by_right sign ks path old e (Over end w) = ends_self (Over end w)

  by_old : (sign : UpdateSign) → ((old : Plain) → is_kept sign old ≡ false) → (right : State → Run Plain) (ks : KeyValues) (path : List Step) (s : State) → path_of ks ≡ Ok path → (c : Result Plain Fault) → EndsAs (result_of c s then_do λ old s. (if is_kept sign old then Going old s else (right s then_do λ v s. (result_of (updated sign old v) s then_do λ new s. store x path new s)))) (Updated sign right (result_of c s then_do λ old s. Going (couple ks old) s))
  unfolding ◌then_do◌ result_of
  by_old sign not_kept right ks path s e (Ok old) = subst (λ b. EndsAs (if b then Going old s else (right s then_do λ v s. (result_of (updated sign old v) s then_do λ new s. store x path new s))) (Updated sign right (Going (couple ks old) s))) (sym (not_kept old)) (by_right sign ks path old e (right s))
  by_old sign not_kept right ks path s e (Err fault) = tt

  by_path : (sign : UpdateSign) → ((old : Plain) → is_kept sign old ≡ false) → (right : State → Run Plain) (ks : KeyValues) (s : State) (b : Result (List Step) Fault) → path_of ks ≡ b → EndsAs (result_of b s then_do λ path s. update_at sign x path right s) (Updated sign right (result_of (go_on b (λ path. read path (value_in s.variables x))) s then_do λ old s. Going (couple ks old) s))
  unfolding ◌then_do◌ result_of update_at
  by_path sign not_kept right ks s (Ok path) e = by_old sign not_kept right ks path s e (read path (value_in s.variables x))
  by_path sign not_kept right ks s (Err fault) e = tt

  pub update_agrees : (sign : UpdateSign) → ((old : Plain) → is_kept sign old ≡ false) → (right : State → Run Plain) (r : Run KeyValues) → EndsAs (r then_do λ ks s. (result_of (path_of ks) s then_do λ path s. update_at sign x path right s)) (Updated sign right (r then_do λ ks s. (result_of (old_at ks (value_in s.variables x)) s then_do λ old s. Going (couple ks old) s)))
  unfolding ◌then_do◌
  update_agrees sign not_kept right (Going ks s) = by_path sign not_kept right ks s (path_of ks) refl
  update_agrees sign not_kept right (Over end w) = ends_self (Over end w)

  -- `??=`
  abbrev Filled : (State → Run Plain) → Run (KeyValues × Plain) → Run Plain
  Filled right r = r then_do λ kv s. (if is_null kv.1 then (right s then_do λ v s. (result_of (assigned kv.0 v (value_in s.variables x)) s then_do λ whole s. Going v (with_variable s x whole))) else Going kv.1 s)

  fills_right : (ks : KeyValues) (path : List Step) (old : Plain) → path_of ks ≡ Ok path → (r : Run Plain) → EndsAs (r then_do λ v s. (result_of (updated update.Coalesce old v) s then_do λ new s. store x path new s)) (r then_do λ v s. Stored ks v s)
  unfolding ◌then_do◌ result_of updated
  fills_right ks path old e (Going v s) = stores ks path v s e
  fills_right ks path old e (Over end w) = ends_self (Over end w)

  fills_test : (right : State → Run Plain) (ks : KeyValues) (path : List Step) (old : Plain) (s : State) → path_of ks ≡ Ok path → (b : Bool) → EndsAs (if not b then Going old s else (right s then_do λ v s. (result_of (updated update.Coalesce old v) s then_do λ new s. store x path new s))) (if b then (right s then_do λ v s. Stored ks v s) else Going old s)
  fills_test right ks path old s e true = fills_right ks path old e (right s)
  fills_test right ks path old s e false = refl

  fills_old : (right : State → Run Plain) (ks : KeyValues) (path : List Step) (s : State) → path_of ks ≡ Ok path → (c : Result Plain Fault) → EndsAs (result_of c s then_do λ old s. (if is_kept update.Coalesce old then Going old s else (right s then_do λ v s. (result_of (updated update.Coalesce old v) s then_do λ new s. store x path new s)))) (Filled right (result_of c s then_do λ old s. Going (couple ks old) s))
  unfolding ◌then_do◌ result_of is_kept
  fills_old right ks path s e (Ok old) = fills_test right ks path old s e (is_null old)
  fills_old right ks path s e (Err fault) = tt

  fills_path : (right : State → Run Plain) (ks : KeyValues) (s : State) (b : Result (List Step) Fault) → path_of ks ≡ b → EndsAs (result_of b s then_do λ path s. update_at update.Coalesce x path right s) (Filled right (result_of (go_on b (λ path. read path (value_in s.variables x))) s then_do λ old s. Going (couple ks old) s))
  unfolding ◌then_do◌ result_of update_at
  fills_path right ks s (Ok path) e = fills_old right ks path s e (read path (value_in s.variables x))
  fills_path right ks s (Err fault) e = tt

  pub filled_agrees : (right : State → Run Plain) (r : Run KeyValues) → EndsAs (r then_do λ ks s. (result_of (path_of ks) s then_do λ path s. update_at update.Coalesce x path right s)) (Filled right (r then_do λ ks s. (result_of (old_at ks (value_in s.variables x)) s then_do λ old s. Going (couple ks old) s)))
  unfolding ◌then_do◌
  filled_agrees right (Going ks s) = fills_path right ks s (path_of ks) refl
  filled_agrees right (Over end w) = ends_self (Over end w)
