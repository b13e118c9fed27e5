-- Names that are put one by one are each name once.
use Rattle.std.proofs.Common.{◌≡◌, ◌∙◌, ℕ, zero, suc, ◌+◌, ◌<◌, ◌≤◌, List, [], ◌∷◌, ◌++◌, length, map, drop, get_or, refl, sym, ap, arith, append_assoc}
use Rattle.std.proofs.Math.Seq.{drop-cons}
use Rattle.std.proofs.Math.ListN.{drop_of_length-le}
use Rattle.php_syntax.specs.declared.tree.Param.{Param}
use Rattle.std.specs.List.{fold}
use Rattle.php_syntax.specs.Trees.{PlainStmts, params_of_list}
use Rattle.std.specs.Prelude.{Bool, true, false, if◌then◌else◌, bytes_eq, Contains, slice_get, Some}
use Rattle.std.proofs.lemmas.Slice.Eq.{bytes_eq-Decides}
use Rattle.program_expressions.specs.Collected.{itself, stmts_collected}
use Rattle.program_expressions.proofs.CollectedLemmas.{TakesUp, takes_stmts}
use Rattle.flow_code.specs.Variables.{Name, own_names, names_of, name_of_param, without, once}
use Rattle.program_lowering.specs.Added.{has, with_name, put, added}

pub added_none : (known : List Name) → added known [] ≡ known
unfolding added
added_none known = refl

pub added_one : (known : List Name) (x : Name) (xs : List Name) → added known (x ∷ xs) ≡ added (put known x) xs
unfolding added
added_one known x xs = refl

pub added_append : (known xs ys : List Name) → added known (xs ++ ys) ≡ added (added known xs) ys
unfolding added
added_append known [] ys = refl
added_append known (x ∷ xs) ys = added_append (put known x) xs ys

pub ruleset ends = (added_none, added_one, added_append)

-- the names of statements, each where it is new

added_up : TakesUp added
added_up = record { nothing = added_none; one_by_one = added_append }

pub of_stmts : (known : List Name) (ss : PlainStmts) → fold (λ known e. added known (own_names e)) known (stmts_collected itself ss) ≡ added known (names_of ss)
of_stmts known ss = takes_stmts added own_names added_up known ss

-- one more of a row, and its end

further : {all new cur : List Name} (old xs next : List Name) → cur ≡ xs ++ next → new ≡ added old xs → added old cur ≡ all → added new next ≡ all
further {all} {new} {cur} old xs next c push inv =
    ap (λ (k : List Name). added k next) push ∙ sym (added_append old xs next) ∙ ap (λ (l : List Name). added old l) (sym c) ∙ inv

done : {all known rest : List Name} → rest ≡ [] → added known rest ≡ all → known ≡ all
done {all} {known} {rest} e inv = sym (added_none known) ∙ ap (λ (l : List Name). added known l) (sym e) ∙ inv

here : {X : Type 0} (xs : List X) (i : ℕ) (x : X) → i < length xs → x ≡ get_or xs i x → drop i xs ≡ x ∷ drop (i + 1) xs
here xs i x lt is = let e : suc i ≡ i + 1 = omega arith in drop-cons xs i x lt ∙ (λ j. sym is j ∷ drop (e j) xs)

pub params_further : {all new : List Name} (old : List Name) (es : List Param) (i : ℕ) (e : Param) → i < length es → e ≡ get_or es i e → new ≡ put old e.name
    → added old (map name_of_param (params_of_list (drop i es))) ≡ all → added new (map name_of_param (params_of_list (drop (i + 1) es))) ≡ all
unfolding added
params_further old es i e lt is push inv =
    further old (e.name ∷ []) (map name_of_param (params_of_list (drop (i + 1) es))) (ap (λ (l : List Param). map name_of_param (params_of_list l)) (here es i e lt is)) (push ∙ sym (added_one old e.name [] ∙ added_none (put old e.name))) inv

pub params_end : {all known : List Name} (es : List Param) (i : ℕ) → length es ≤ i → added known (map name_of_param (params_of_list (drop i es))) ≡ all → known ≡ all
params_end es i le inv = done (ap (λ (l : List Param). map name_of_param (params_of_list l)) (drop_of_length-le es le)) inv

-- equality of names

eq_of : (x y : Name) → bytes_eq x y ≡ true → x ≡ y
eq_of x y e = (bytes_eq-Decides x y).0 e

is_eq : (x y : Name) → x ≡ y → bytes_eq x y ≡ true
is_eq x y e = (bytes_eq-Decides x y).1 e

flipped : (x y : Name) (b : Bool) → bytes_eq x y ≡ b → bytes_eq y x ≡ b
flipped x y true e = is_eq y x (sym (eq_of x y e))
flipped x y false e = other (bytes_eq y x) refl
  where
    other : (c : Bool) → bytes_eq y x ≡ c → bytes_eq y x ≡ false
    other false h = h
    other true h = absurd (let k : bytes_eq x y ≡ true = is_eq x y (sym (eq_of y x h)) in let z : true ≡ false = sym k ∙ e in cc)

-- `without` and `has` at a name, by the test

without_same : (x y : Name) (ys : List Name) → bytes_eq x y ≡ true → without x (y ∷ ys) ≡ without x ys
unfolding without
without_same x y ys e = ap (λ (b : Bool). if b then without x ys else y ∷ without x ys) e

without_other : (x y : Name) (ys : List Name) → bytes_eq x y ≡ false → without x (y ∷ ys) ≡ y ∷ without x ys
unfolding without
without_other x y ys e = ap (λ (b : Bool). if b then without x ys else y ∷ without x ys) e

has_same : (x y : Name) (ys : List Name) → bytes_eq x y ≡ true → has x (y ∷ ys) ≡ true
unfolding has
has_same x y ys e = ap (λ (b : Bool). if b then true else has x ys) e

has_other : (x y : Name) (ys : List Name) → bytes_eq x y ≡ false → has x (y ∷ ys) ≡ has x ys
unfolding has
has_other x y ys e = ap (λ (b : Bool). if b then true else has x ys) e

without_end : (y x : Name) (xs : List Name) → bytes_eq y x ≡ false → without y (xs ++ x ∷ []) ≡ without y xs ++ x ∷ []
unfolding without
without_end y x [] e = without_other y x [] e
without_end y x (z ∷ zs) e = at (bytes_eq y z) refl (without_end y x zs e)
  where
    at : (b : Bool) → bytes_eq y z ≡ b → without y (zs ++ x ∷ []) ≡ without y zs ++ x ∷ [] → without y ((z ∷ zs) ++ x ∷ []) ≡ without y (z ∷ zs) ++ x ∷ []
    at true h k = without_same y z (zs ++ x ∷ []) h ∙ k ∙ ap (λ (l : List Name). l ++ x ∷ []) (sym (without_same y z zs h))
    at false h k = without_other y z (zs ++ x ∷ []) h ∙ ap (λ (l : List Name). z ∷ l) k ∙ ap (λ (l : List Name). l ++ x ∷ []) (sym (without_other y z zs h))

without_itself : (x : Name) (xs : List Name) → without x (xs ++ x ∷ []) ≡ without x xs
unfolding without
without_itself x [] = without_same x x [] (is_eq x x refl)
without_itself x (z ∷ zs) = at (bytes_eq x z) refl (without_itself x zs)
  where
    at : (b : Bool) → bytes_eq x z ≡ b → without x (zs ++ x ∷ []) ≡ without x zs → without x ((z ∷ zs) ++ x ∷ []) ≡ without x (z ∷ zs)
    at true h k = without_same x z (zs ++ x ∷ []) h ∙ k ∙ sym (without_same x z zs h)
    at false h k = without_other x z (zs ++ x ∷ []) h ∙ ap (λ (l : List Name). z ∷ l) k ∙ sym (without_other x z zs h)

has_without : (y x : Name) (xs : List Name) → bytes_eq x y ≡ false → has x (without y xs) ≡ has x xs
unfolding has without
has_without y x [] e = refl
has_without y x (z ∷ zs) e = at (bytes_eq y z) refl (has_without y x zs e)
  where
    at : (b : Bool) → bytes_eq y z ≡ b → has x (without y zs) ≡ has x zs → has x (without y (z ∷ zs)) ≡ has x (z ∷ zs)
    at true h k =
        let differ : bytes_eq x z ≡ false = ap (λ (n : Name). bytes_eq x n) (sym (eq_of y z h)) ∙ e in
        ap (has x) (without_same y z zs h) ∙ k ∙ sym (has_other x z zs differ)
    at false h k = ap (has x) (without_other y z zs h) ∙ ap (λ (b : Bool). if bytes_eq x z then true else b) k

-- a name at the end of others

with_name_behind : (b : Bool) (y x : Name) (l : List Name) → bytes_eq y x ≡ false → y ∷ without y (with_name b l x) ≡ with_name b (y ∷ without y l) x
with_name_behind true y x l e = refl
with_name_behind false y x l e = ap (λ (m : List Name). y ∷ m) (without_end y x l e)

with_name_itself : (b : Bool) (y : Name) (l : List Name) → y ∷ without y (with_name b l y) ≡ y ∷ without y l
with_name_itself true y l = refl
with_name_itself false y l = ap (λ (m : List Name). y ∷ m) (without_itself y l)

put_behind : (y x : Name) (l : List Name) → y ∷ without y (put l x) ≡ put (y ∷ without y l) x
unfolding put
put_behind y x l = at (bytes_eq x y) refl
  where
    at : (b : Bool) → bytes_eq x y ≡ b → y ∷ without y (put l x) ≡ put (y ∷ without y l) x
    at true h =
        let is : x ≡ y = eq_of x y h in
        ap (λ (n : Name). y ∷ without y (put l n)) is ∙ with_name_itself (has y l) y l
        ∙ sym (ap (λ (b : Bool). with_name b (y ∷ without y l) x) (has_same x y (without y l) h))
    at false h =
        with_name_behind (has x l) y x l (flipped x y false h)
        ∙ ap (λ (b : Bool). with_name b (y ∷ without y l) x) (sym (has_other x y (without y l) h ∙ has_without y x l h))

once_end : (seen : List Name) (x : Name) → once (seen ++ x ∷ []) ≡ put (once seen) x
unfolding once put
once_end [] x = refl
once_end (y ∷ ys) x = ap (λ (l : List Name). y ∷ without y l) (once_end ys x) ∙ put_behind y x (once ys)

pub added_to : (seen xs : List Name) → added (once seen) xs ≡ once (seen ++ xs)
unfolding added
added_to seen [] = ap once (sym (append_none seen))
  where
    append_none : (l : List Name) → l ++ [] ≡ l
    append_none [] = refl
    append_none (x ∷ l) = ap (λ (m : List Name). x ∷ m) (append_none l)
added_to seen (x ∷ xs) = ap (λ (l : List Name). added l xs) (sym (once_end seen x)) ∙ added_to (seen ++ x ∷ []) xs ∙ ap once (append_assoc seen (x ∷ []) xs)

pub added_once : (xs : List Name) → added [] xs ≡ once xs
unfolding once
added_once xs = added_to [] xs

-- a set that was told a name

has_contained : (l : List Name) (x : Name) (n : ℕ) → slice_get l n ≡ Some x → has x l ≡ true
unfolding has
has_contained [] x n h = absurd (cc)
has_contained (y ∷ ys) x zero h = has_same x y ys (is_eq x y (let e : Some y ≡ Some x = h in cc))
has_contained (y ∷ ys) x (suc n) h = at (bytes_eq x y) refl (has_contained ys x n h)
  where
    at : (b : Bool) → bytes_eq x y ≡ b → has x ys ≡ true → has x (y ∷ ys) ≡ true
    at true e k = has_same x y ys e
    at false e k = has_other x y ys e ∙ k

has_not : (l : List Name) (x : Name) → (Contains l x → ⊥) → has x l ≡ false
unfolding has
has_not [] x h = refl
has_not (y ∷ ys) x h = at (bytes_eq x y) refl (has_not ys x (λ c. h (suc c.0, omega (arith, c.1), c.2)))
  where
    at : (b : Bool) → bytes_eq x y ≡ b → has x ys ≡ false → has x (y ∷ ys) ≡ false
    at true e k = absurd (h (zero, omega arith, sym (eq_of x y e)))
    at false e k = has_other x y ys e ∙ k

pub put_there : (l : List Name) (x : Name) (n : ℕ) → slice_get l n ≡ Some x → l ≡ put l x
unfolding put
put_there l x n h = sym (ap (λ (b : Bool). with_name b l x) (has_contained l x n h))

contained : (l : List Name) (x : Name) (n : ℕ) → slice_get l n ≡ Some x → Contains l x
contained [] x n h = absurd (cc)
contained (y ∷ ys) x zero h = (zero, omega arith, let e : Some y ≡ Some x = h in cc)
contained (y ∷ ys) x (suc n) h = let c = contained ys x n h in (suc c.0, omega (arith, c.1), c.2)

-- the answer whether it is new says that it is
pub put_new : (old new : List Name) (x : Name) (n : ℕ) (b : Bool) → (Contains old x → ⊥) → slice_get new n ≡ Some x → new ≡ (if b then old ++ x ∷ [] else old) → new ≡ put old x
unfolding put
put_new old new x n true h at is = is ∙ sym (ap (λ (b : Bool). with_name b old x) (has_not old x h))
put_new old new x n false h at is = absurd (h (contained old x n (ap (λ (l : List Name). slice_get l n) (sym is) ∙ at)))
