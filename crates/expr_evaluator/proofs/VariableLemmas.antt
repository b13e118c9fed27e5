-- Variables as a map holds them, and written twice.
use Rattle.std.proofs.Common.{◌≡◌, ◌<◌, suc, arith, length, ℕ, List, [], ◌∷◌, ◌++◌, refl, sym, ap, ◌∙◌, subst, Bor, Bool, true, false}
use Rattle.std.specs.Prelude.{if◌then◌else◌, Option, Some, None, Result, Ok, Err, nat_eq, slice_index_or, slice_set}
use Rattle.std.specs.Option.{option_map}
use Rattle.std.specs.Cmp.Lexicographic.{pointwise}
use Rattle.std.specs.Map.{lookup}
use Rattle.indexmap.specs.IndexMap.{insert_entry}
use Rattle.std.proofs.lemmas.Slice.Eq.{bytes_eq-Decides}
use Rattle.plain_values.specs.Plain.{Plain}
use Rattle.plain_values.specs.Paths as paths
use Rattle.plain_values.specs.declared.fault.Fault.{Fault}
use Rattle.php_values.specs.declared.array.Value.{Value}
use Rattle.php_values.specs.declared.key.Key.{Key}
use Rattle.php_values.specs.View.{plain_of, plain_step, plain_path, found_plain}
use Rattle.script_meaning.specs.Runs.{Variables, value_in, set_in}
use Rattle.expr_evaluator.specs.VariablesView.{plain_variables, place}

same_names : (a b : List ℕ) → pointwise nat_eq a b ≡ pointwise nat_eq b a
same_names a b = by (pointwise nat_eq a b) (pointwise nat_eq b a) refl refl
  where
    by : (p q : Bool) → pointwise nat_eq a b ≡ p → pointwise nat_eq b a ≡ q → p ≡ q
    by true true h k = refl
    by false false h k = refl
    by true false h k = sym ((bytes_eq-Decides b a).1 (sym ((bytes_eq-Decides a b).0 h))) ∙ k
    by false true h k = sym h ∙ (bytes_eq-Decides a b).1 (sym ((bytes_eq-Decides b a).0 k))

pub set_again : (vs : Variables) (x : List ℕ) (a b : Plain) → set_in (set_in vs x a) x b ≡ set_in vs x b
set_again [] x a b = rw ((bytes_eq-Decides x x).1 refl) refl
set_again (v ∷ vs) x a b = by (set_again vs x a b) (pointwise nat_eq v.0 x) refl
  where
    by : set_in (set_in vs x a) x b ≡ set_in vs x b → (t : Bool) → pointwise nat_eq v.0 x ≡ t → set_in (set_in (v ∷ vs) x a) x b ≡ set_in (v ∷ vs) x b
    by again true h = rw h (rw ((bytes_eq-Decides x x).1 refl) refl)
    by again false h = rw h (rw h (ap (λ us. v ∷ us) again))

pub value_found : (x : Bor (List ℕ)) (es : List (Bor (List ℕ) × Value)) → found_plain (lookup (λ k. pointwise nat_eq x.now k.now) es) ≡ value_in (plain_variables es) x.now
value_found x [] = refl
value_found x (e ∷ es) = by (value_found x es) (pointwise nat_eq x.now e.0.now) refl
  where
    by : found_plain (lookup (λ k. pointwise nat_eq x.now k.now) es) ≡ value_in (plain_variables es) x.now → (t : Bool) → pointwise nat_eq x.now e.0.now ≡ t
        → found_plain (lookup (λ k. pointwise nat_eq x.now k.now) (e ∷ es)) ≡ value_in (plain_variables (e ∷ es)) x.now
    by more true h = rw (sym (same_names x.now e.0.now)) (rw h refl)
    by more false h = rw (sym (same_names x.now e.0.now)) (rw h more)

pub set_inserted : (x : Bor (List ℕ)) (v : Value) (es : List (Bor (List ℕ) × Value)) → plain_variables (insert_entry (λ a b. pointwise nat_eq a.now b.now) es x v) ≡ set_in (plain_variables es) x.now (plain_of v)
set_inserted x v [] = refl
set_inserted x v (e ∷ es) = by (set_inserted x v es) (pointwise nat_eq x.now e.0.now) refl
  where
    by : plain_variables (insert_entry (λ a b. pointwise nat_eq a.now b.now) es x v) ≡ set_in (plain_variables es) x.now (plain_of v) → (t : Bool) → pointwise nat_eq x.now e.0.now ≡ t
        → plain_variables (insert_entry (λ a b. pointwise nat_eq a.now b.now) (e ∷ es) x v) ≡ set_in (plain_variables (e ∷ es)) x.now (plain_of v)
    by more true h = rw (sym (same_names x.now e.0.now)) (rw h (ap (λ y. (y, plain_of v) ∷ plain_variables es) (sym ((bytes_eq-Decides x.now e.0.now).0 h))))
    by more false h = rw (sym (same_names x.now e.0.now)) (rw h (ap (λ us. (e.0.now, plain_of e.1) ∷ us) more))

-- a path as it is made, step by step
abbrev pub behind_path : List paths.Step → Result (List paths.Step) Fault → Result (List paths.Step) Fault
behind_path made (Ok more) = Ok (made ++ more)
behind_path made (Err fault) = Err fault

pub path_push : (made : List (Option Key)) (s : Option Key) → plain_path (made ++ s ∷ []) ≡ plain_path made ++ plain_step s ∷ []
path_push [] s = refl
path_push (m ∷ made) s = ap (λ xs. plain_step m ∷ xs) (path_push made s)

-- what a variable is, and becomes, by its place among parameters that stand before other variables
abbrev pub Placed : List ℕ → List (Bor (List ℕ) × Value) → Variables → Option ℕ → Type 0
Placed x ps vs None = (value_in (plain_variables ps ++ vs) x ≡ value_in vs x) × ((v : Plain) → set_in (plain_variables ps ++ vs) x v ≡ plain_variables ps ++ set_in vs x v)
Placed x ps vs (Some i) = (i < length ps) × ((d : Bor (List ℕ) × Value) → value_in (plain_variables ps ++ vs) x ≡ plain_of (slice_index_or ps i d).1)
    × ((v : Value) (d : Bor (List ℕ) × Value) → set_in (plain_variables ps ++ vs) x (plain_of v) ≡ plain_variables (slice_set ps i ((slice_index_or ps i d).0, v)) ++ vs)

pub placed : (x : List ℕ) (ps : List (Bor (List ℕ) × Value)) (vs : Variables) → Placed x ps vs (place x ps)
placed x [] vs = (refl, λ v. refl)
placed x (p ∷ ps) vs = by (pointwise nat_eq p.0.now x) (place x ps) refl (placed x ps vs)
  where
    by : (t : Bool) (o : Option ℕ) → pointwise nat_eq p.0.now x ≡ t → Placed x ps vs o → Placed x (p ∷ ps) vs (if t then Some 0 else option_map suc o)
    by true o e h = (omega arith, λ d. rw e refl, λ v d. rw e (ap (λ n. (n, plain_of v) ∷ plain_variables ps ++ vs) (sym ((bytes_eq-Decides p.0.now x).0 e))))
    by false None e h = (rw e h.0, λ v. rw e (ap (λ us. (p.0.now, plain_of p.1) ∷ us) (h.1 v)))
    by false (Some i) e h = (omega (arith, h.0), λ d. rw e (h.1 d), λ v d. rw e (ap (λ us. (p.0.now, plain_of p.1) ∷ us) (h.2 v d)))

pub at_place : (x : List ℕ) (ps : List (Bor (List ℕ) × Value)) (vs : Variables) (o : Option ℕ) → o ≡ place x ps → Placed x ps vs o
at_place x ps vs o h = subst (Placed x ps vs) (sym h) (placed x ps vs)

pub place_as : (x y : List ℕ) (ps qs : List (Bor (List ℕ) × Value)) (o : Option ℕ) → o ≡ place y qs → qs ≡ ps → y ≡ x → o ≡ place x ps
place_as x y ps qs o h e d = h ∙ ap (λ z. place z qs) d ∙ ap (place x) e
