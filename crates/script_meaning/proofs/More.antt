-- A run and the same run with more units: it comes to the same, but where it was out of units; then it printed no less.
use Rattle.std.proofs.Common.{◌≡◌, ℕ, zero, suc, ◌+◌, ◌≤◌, List, [], ◌∷◌, refl, sym, ap, subst, arith, true, false, Bool}
use Rattle.std.specs.Prelude.{if◌then◌else◌, Result, Ok, Err, Option, Some, None}
use Rattle.plain_values.specs.Plain.{Plain, PlainKey, Pairs, null, flag, int, text, array, empty, pair}
use Rattle.plain_values.specs.declared.fault.Fault.{Fault}
use Rattle.plain_values.specs.Paths.{Step, read, write}
use Rattle.php_syntax.specs.declared.tree.UpdateSign.{UpdateSign}
use Rattle.script_meaning.specs.Runs.{State, Run, Going, Over, Ended, Faulted, Spent, Deep, ◌then_do◌, result_of, unit_at, value_in}
use Rattle.script_meaning.specs.Expressions.{store, update_at, updated, is_kept}
use Rattle.script_meaning.specs.Statements.{Flow, goes_on, breaks, continues, returns, next_after, turn_after, turn, turns, walk, with_pair, exit_with}
use Rattle.script_meaning.proofs.Later.{After, Begins, later_itself, begins_itself, begins_trans, after_then, after_result, after_variable, after_if, after_unit_at, after_later}
use Rattle.script_meaning.proofs.LaterParts.{after_store, after_turn_after, after_turn, after_turns, after_walk, after_pair}

-- the state with d more units
abbrev pub raise : ℕ → State → State
raise d s = record s { left = s.left + d }

-- all that a run printed so far begins with these bytes
abbrev pub Prints : {A : Type 0} → List ℕ → Run A → Type 0
Prints front (Going x s) = Begins s.printed front
Prints front (Over end printed) = Begins printed front

-- a run and one that had d more units
abbrev pub More : {A : Type 0} → ℕ → Run A → Run A → Type 0
More d (Going x s) r = r ≡ Going x (raise d s)
More d (Over Ended printed) r = r ≡ Over Ended printed
More d (Over (Faulted fault) printed) r = r ≡ Over (Faulted fault) printed
More d (Over Spent printed) r = Prints printed r
More d (Over Deep printed) r = r ≡ Over Deep printed

pub prints_after : {A : Type 0} (s : State) (r : Run A) → After s r → Prints s.printed r
prints_after s (Going x t) p = p.printed
prints_after s (Over end printed) p = p

pub prints_then : {A B : Type 0} (front : List ℕ) (r : Run A) (go : A → State → Run B) → Prints front r → ((x : A) (t : State) → After t (go x t)) → Prints front (r then_do go)
unfolding ◌then_do◌
prints_then front (Going x t) go p h = prints_later front t (go x t) p (h x t)
  where
    prints_later : {B : Type 0} (front : List ℕ) (t : State) (r : Run B) → Begins t.printed front → After t r → Prints front r
    prints_later front t (Going x u) p q = begins_trans front t.printed u.printed p q.printed
    prints_later front t (Over end printed) p q = begins_trans front t.printed printed p q
prints_then front (Over end printed) go p h = p

pub more_then : {A B : Type 0} (d : ℕ) (r r' : Run A) (go go' : A → State → Run B) → More d r r' → ((x : A) (s : State) → More d (go x s) (go' x (raise d s))) → ((x : A) (t : State) → After t (go' x t)) → More d (r then_do go) (r' then_do go')
unfolding ◌then_do◌
more_then d (Going x s) r' go go' e h a = subst (λ y. More d (go x s) (y then_do go')) (sym e) (h x s)
more_then d (Over Ended printed) r' go go' e h a = ap (λ y. y then_do go') e
more_then d (Over (Faulted fault) printed) r' go go' e h a = ap (λ y. y then_do go') e
more_then d (Over Spent printed) r' go go' e h a = prints_then printed r' go' e a
more_then d (Over Deep printed) r' go go' e h a = ap (λ y. y then_do go') e

pub more_result : {A : Type 0} (d : ℕ) (r : Result A Fault) (s : State) → More d (result_of r s) (result_of r (raise d s))
unfolding result_of
more_result d (Ok x) s = refl
more_result d (Err fault) s = refl

pub more_if : {A : Type 0} (d : ℕ) (c : Bool) (a a' b b' : Run A) → More d a a' → More d b b' → More d (if c then a else b) (if c then a' else b')
more_if d true a a' b b' p q = p
more_if d false a a' b b' p q = q

more_unit_at : {A : Type 0} (d n : ℕ) (s : State) (go go' : State → Run A) → ((t : State) → More d (go t) (go' (raise d t))) → ((t : State) → After t (go' t)) → n ≤ s.left → More d (unit_at n s go) (unit_at (n + d) (raise d s) go')
unfolding unit_at
more_unit_at d zero s go go' h a le = prints_after (raise d s) (unit_at (zero + d) (raise d s) go') (after_unit_at (zero + d) (raise d s) go' (omega arith) a)
more_unit_at d (suc n) s go go' h a le =
    let e : suc (n + d) ≡ suc n + d = omega arith in
    subst (λ m. More d (go (record s { left = n })) (unit_at m (raise d s) go')) e (h (record s { left = n }))

pub more_unit : {A : Type 0} (d : ℕ) (s : State) (go go' : State → Run A) → ((t : State) → More d (go t) (go' (raise d t))) → ((t : State) → After t (go' t)) → More d (unit_at s.left s go) (unit_at (s.left + d) (raise d s) go')
more_unit d s go go' h a = more_unit_at d s.left s go go' h a (omega arith)

pub more_store : (d : ℕ) (x : List ℕ) (path : List Step) (new : Plain) (s : State) → More d (store x path new s) (store x path new (raise d s))
unfolding store
more_store d x [] new s = refl
more_store d x (k ∷ ks) new s = more_then d _ _ _ _ (more_result d (write (k ∷ ks) new (value_in s.variables x)) s) (λ whole t. refl) (λ whole t. after_variable t x whole)

pub more_update : (d : ℕ) (sign : UpdateSign) (x : List ℕ) (path : List Step) (right right' : State → Run Plain) → ((t : State) → More d (right t) (right' (raise d t))) → ((t : State) → After t (right' t)) → (s : State) → More d (update_at sign x path right s) (update_at sign x path right' (raise d s))
unfolding update_at
more_update d sign x path right right' h a s =
    more_then d _ _ _ _ (more_result d (read path (value_in s.variables x)) s) (λ old t. more_if d (is_kept sign old) _ _ _ _ refl (more_then d _ _ _ _ (h t) (λ v u. more_then d _ _ _ _ (more_result d (updated sign old v) u) (λ new w. more_store d x path new w) (λ new w. after_store x path new w)) (λ v u. after_then u _ _ (after_result (updated sign old v) u) λ new w. after_store x path new w))) (λ old t. after_if t (is_kept sign old) _ _ (later_itself t) (after_then t _ _ (a t) λ v u. after_then u _ _ (after_result (updated sign old v) u) λ new w. after_store x path new w))

pub more_next : (d : ℕ) (flow : Flow) (s : State) (go go' : State → Run Flow) → More d (go s) (go' (raise d s)) → More d (next_after flow s go) (next_after flow (raise d s) go')
unfolding next_after
more_next d goes_on s go go' h = h
more_next d breaks s go go' h = refl
more_next d continues s go go' h = refl
more_next d (returns v) s go go' h = refl

pub more_turn_after : (d : ℕ) (flow : Flow) (s : State) (go go' : State → Run Flow) → More d (go s) (go' (raise d s)) → More d (turn_after flow s go) (turn_after flow (raise d s) go')
unfolding turn_after
more_turn_after d goes_on s go go' h = h
more_turn_after d breaks s go go' h = refl
more_turn_after d continues s go go' h = h
more_turn_after d (returns v) s go go' h = refl

pub more_turn : (d : ℕ) (body body' : State → Run Flow) (s : State) (go go' : State → Run Flow) → ((t : State) → More d (body t) (body' (raise d t))) → ((t : State) → More d (go t) (go' (raise d t))) → ((t : State) → After t (body' t)) → ((t : State) → After t (go' t)) → More d (turn body s go) (turn body' (raise d s) go')
unfolding turn
more_turn d body body' s go go' hb hg ab ag =
    more_unit d s _ _ (λ t. more_then d _ _ _ _ (hb t) (λ flow u. more_turn_after d flow u go go' (hg u)) (λ flow u. after_turn_after flow u go' (ag u))) (λ t. after_then t _ _ (ab t) λ flow u. after_turn_after flow u go' (ag u))

-- a loop's parts with more units come to the same
pub record Parts (d : ℕ) (test test' : State → Run Bool) (body body' : State → Run Flow) (behind behind' : State → Run (List Plain)) : Type 0 where
  pub tests : (t : State) → More d (test t) (test' (raise d t))
  pub bodies : (t : State) → More d (body t) (body' (raise d t))
  pub nexts : (t : State) → More d (behind t) (behind' (raise d t))
  pub after_test : (t : State) → After t (test' t)
  pub after_body : (t : State) → After t (body' t)
  pub after_next : (t : State) → After t (behind' t)

pub more_turns : (d n m : ℕ) → n ≤ m → (test test' : State → Run Bool) (body body' : State → Run Flow) (behind behind' : State → Run (List Plain)) → Parts d test test' body body' behind behind' → (s : State) → More d (turns n test body behind s) (turns m test' body' behind' (raise d s))
unfolding turns
more_turns d zero zero le test test' body body' behind behind' p s =
    more_then d _ _ _ _ (p.tests s) (λ holds t. more_if d holds _ _ _ _ (begins_itself t.printed) refl) (λ holds t. after_if t holds _ _ (begins_itself t.printed) (later_itself t))
more_turns d zero (suc m) le test test' body body' behind behind' p s =
    more_then d _ _ _ _ (p.tests s) (λ holds t. more_if d holds _ _ _ _ (prints_after (raise d t) _ (after_turn body' (raise d t) _ p.after_body (λ u. after_then u _ _ (p.after_next u) λ vs w. after_turns m test' body' behind' p.after_test p.after_body p.after_next w))) refl) (λ holds t. after_if t holds _ _ (after_turn body' t _ p.after_body (λ u. after_then u _ _ (p.after_next u) λ vs w. after_turns m test' body' behind' p.after_test p.after_body p.after_next w)) (later_itself t))
more_turns d (suc n) zero le test test' body body' behind behind' p s = absurd (omega arith)
more_turns d (suc n) (suc m) le test test' body body' behind behind' p s =
    more_then d _ _ _ _ (p.tests s) (λ holds t. more_if d holds _ _ _ _ (more_turn d body body' t _ _ p.bodies (λ u. more_then d _ _ _ _ (p.nexts u) (λ vs w. more_turns d n m (omega arith) test test' body body' behind behind' p w) (λ vs w. after_turns m test' body' behind' p.after_test p.after_body p.after_next w)) p.after_body (λ u. after_then u _ _ (p.after_next u) λ vs w. after_turns m test' body' behind' p.after_test p.after_body p.after_next w)) refl) (λ holds t. after_if t holds _ _ (after_turn body' t _ p.after_body (λ u. after_then u _ _ (p.after_next u) λ vs w. after_turns m test' body' behind' p.after_test p.after_body p.after_next w)) (later_itself t))

raise_pair : (d : ℕ) (key : Option (List ℕ)) (x : List ℕ) (k : PlainKey) (v : Plain) (s : State) → with_pair key x k v (raise d s) ≡ raise d (with_pair key x k v s)
unfolding with_pair
raise_pair d None x k v s = refl
raise_pair d (Some key) x k v s = refl

pub more_walk : (d : ℕ) (ps : Pairs) (key : Option (List ℕ)) (x : List ℕ) (body body' : State → Run Flow) → ((t : State) → More d (body t) (body' (raise d t))) → ((t : State) → After t (body' t)) → (s : State) → More d (walk ps key x body s) (walk ps key x body' (raise d s))
unfolding walk
more_walk d empty key x body body' h a s = refl
more_walk d (pair k v ps) key x body body' h a s =
    more_turn d _ _ s _ _ (λ t. subst (λ u. More d (body (with_pair key x k v t)) (body' u)) (sym (raise_pair d key x k v t)) (h (with_pair key x k v t))) (more_walk d ps key x body body' h a) (λ t. after_later t _ _ (after_pair key x k v t) (a (with_pair key x k v t))) (after_walk ps key x body' a)

pub more_exit : (d : ℕ) (v : Option Plain) (s : State) → More d (exit_with v s) (exit_with v (raise d s))
unfolding exit_with
more_exit d None s = refl
more_exit d (Some null) s = refl
more_exit d (Some (flag b)) s = refl
more_exit d (Some (int z)) s = refl
more_exit d (Some (text t)) s = refl
more_exit d (Some (array ps)) s = refl
