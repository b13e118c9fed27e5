-- Rows of expressions, keys and items: what emits the rest emits all.
use Rattle.std.proofs.Common.{◌≡◌, ◌∙◌, ℕ, ◌+◌, ◌≤◌, ◌<◌, List, [], ◌∷◌, ◌++◌, length, map, drop, get_or, refl, sym, ap, subst, arith, append_assoc, length-append}
use Rattle.std.specs.Prelude.{Option}
use Rattle.std.proofs.lemmas.List.{map-append}
use Rattle.text_base.specs.declared.numbers.Slot.{Slot}
use Rattle.php_syntax.specs.declared.tree.Expr.{Expr}
use Rattle.php_syntax.specs.Trees.{plain_expr, exprs_of, items_of, path_of, maybe_of, PlainExpr, text_expr}
use Rattle.flow_code.specs.declared.source.KeyRef.{KeyRef}
use Rattle.flow_code.specs.Points.{PlainKeyRef, text_ref, read_ref, put_source}
use Rattle.flow_code.specs.View.{slot_number, plain_item, plain_maybe_key}
use Rattle.flow_code.specs.Code.{Code, known, left, both}
use Rattle.flow_code.specs.Expressions.{Scope, code, codes, maybe_key, path_code, Begun, the_items, no_item, one_item, items_code, length_of_path, key_code}
use Rattle.flow_lowering.specs.Emits.{Progress, Emits, Sets, place}
use Rattle.flow_lowering.proofs.EmitLemmas.{emits_known, emits_both, emits_left, emits_with}
use Rattle.script_meaning.specs.Literals.{IsNoNumber, IsNoText}
use Rattle.flow_lowering.proofs.FormLemmas.{read_key}
use Rattle.flow_lowering.proofs.RowLemmas.{drop_here, drop_past}

-- one more behind a row
pub pushed : {X Y : Type 0} (f : X → Y) (old new : List X) (x : X) (ys : List Y) → new ≡ old ++ x ∷ [] → map f new ++ ys ≡ map f old ++ f x ∷ ys
pushed {X} {Y} f old new x ys e = ap (λ (l : List X). map f l ++ ys) e ∙ ap (λ (l : List Y). l ++ ys) (map-append f old (x ∷ [])) ∙ append_assoc (map f old) (f x ∷ []) ys

append_none : {X : Type 0} (xs : List X) → xs ++ [] ≡ xs
append_none [] = refl
append_none {X} (x ∷ xs) = ap (λ (l : List X). x ∷ l) (append_none xs)

pub exprs_further : {s0 s1 start : Progress} (w : Scope) (es : List Expr) (i : ℕ) (e : Expr) (old new : List Slot) (x : Slot) → i < length es → e ≡ get_or es i e → new ≡ old ++ x ∷ []
    → Emits s0 s1 (code w (plain_expr e)) x.0
    → ((s : Progress) (ys : List ℕ) → Emits s0 s (codes w (exprs_of (drop i es))) ys → Emits start s (codes w (exprs_of es)) (map slot_number old ++ ys))
    → (s : Progress) (ys : List ℕ) → Emits s1 s (codes w (exprs_of (drop (i + 1) es))) ys → Emits start s (codes w (exprs_of es)) (map slot_number new ++ ys)
unfolding codes
exprs_further {s0} {s1} {start} w es i e old new x lt is push d go s ys k =
    let here : e ∷ drop (i + 1) es ≡ drop i es = sym (drop_here es i e lt is) in
    let one : Emits s0 s (codes w (exprs_of (e ∷ drop (i + 1) es))) (x.0 ∷ ys) = emits_both (λ (y : ℕ) (zs : List ℕ). y ∷ zs) d k in
    subst (λ (l : List ℕ). Emits start s (codes w (exprs_of es)) l) (sym (pushed slot_number old new x ys push))
    (go s (x.0 ∷ ys) (subst (λ (l : List Expr). Emits s0 s (codes w (exprs_of l)) (x.0 ∷ ys)) here one))

pub exprs_end : {s0 start : Progress} (w : Scope) (es : List Expr) (i : ℕ) (slots : List Slot) → length es ≤ i
    → ((s : Progress) (ys : List ℕ) → Emits s0 s (codes w (exprs_of (drop i es))) ys → Emits start s (codes w (exprs_of es)) (map slot_number slots ++ ys))
    → Emits start s0 (codes w (exprs_of es)) (map slot_number slots)
unfolding codes
exprs_end {s0} {start} w es i slots le go =
    let none : Emits s0 s0 (codes w (exprs_of [])) [] = emits_known s0 [] in
    subst (λ (l : List ℕ). Emits start s0 (codes w (exprs_of es)) l) (append_none (map slot_number slots))
    (go s0 [] (subst (λ (l : List Expr). Emits s0 s0 (codes w (exprs_of l)) []) (sym (drop_past es i le)) none))

pub path_further : {s0 s1 start : Progress} (w : Scope) (es : List (Option Expr)) (i : ℕ) (e : Option Expr) (old new : List (Option KeyRef)) (x : Option KeyRef) → i < length es → e ≡ get_or es i e → new ≡ old ++ x ∷ []
    → Emits s0 s1 (maybe_key w (maybe_of e)) (plain_maybe_key x)
    → ((s : Progress) (ys : List (Option PlainKeyRef)) → Emits s0 s (path_code w (path_of (drop i es))) ys → Emits start s (path_code w (path_of es)) (map plain_maybe_key old ++ ys))
    → (s : Progress) (ys : List (Option PlainKeyRef)) → Emits s1 s (path_code w (path_of (drop (i + 1) es))) ys → Emits start s (path_code w (path_of es)) (map plain_maybe_key new ++ ys)
unfolding path_code
path_further {s0} {s1} {start} w es i e old new x lt is push d go s ys k =
    let here : e ∷ drop (i + 1) es ≡ drop i es = sym (drop_here es i e lt is) in
    let one : Emits s0 s (path_code w (path_of (e ∷ drop (i + 1) es))) (plain_maybe_key x ∷ ys) = emits_both (λ (y : Option PlainKeyRef) (zs : List (Option PlainKeyRef)). y ∷ zs) d k in
    subst (λ (l : List (Option PlainKeyRef)). Emits start s (path_code w (path_of es)) l) (sym (pushed plain_maybe_key old new x ys push))
    (go s (plain_maybe_key x ∷ ys) (subst (λ (l : List (Option Expr)). Emits s0 s (path_code w (path_of l)) (plain_maybe_key x ∷ ys)) here one))

pub path_end : {s0 start : Progress} (w : Scope) (es : List (Option Expr)) (i : ℕ) (path : List (Option KeyRef)) → length es ≤ i
    → ((s : Progress) (ys : List (Option PlainKeyRef)) → Emits s0 s (path_code w (path_of (drop i es))) ys → Emits start s (path_code w (path_of es)) (map plain_maybe_key path ++ ys))
    → Emits start s0 (path_code w (path_of es)) (map plain_maybe_key path)
unfolding path_code
path_end {s0} {start} w es i path le go =
    let none : Emits s0 s0 (path_code w (path_of [])) [] = emits_known s0 [] in
    subst (λ (l : List (Option PlainKeyRef)). Emits start s0 (path_code w (path_of es)) l) (append_none (map plain_maybe_key path))
    (go s0 [] (subst (λ (l : List (Option Expr)). Emits s0 s0 (path_code w (path_of l)) []) (sym (drop_past es i le)) none))

-- the code of the items so far, of which one is the next, leaves this
pub record SoFar (w : Scope) (first now : Progress) (array : ℕ) (es : List (Option Expr × Expr)) (i made : ℕ) (items : List (Option PlainKeyRef × ℕ)) : Type 0 where
  pub begun : Code Begun
  pub emits : (start : Progress) → Emits start first no_item (array, []) → Emits start now begun (made, items)
  pub rest : items_code w (items_of (drop i es)) begun ≡ items_code w (items_of es) no_item

pub items_begin : (w : Scope) (first : Progress) (array : ℕ) (es : List (Option Expr × Expr)) → SoFar w first first array es 0 array []
items_begin w first array es = record { begun = no_item; emits = λ start e. e; rest = refl }

pub items_further : {s0 s1 s2 s3 first : Progress} (w : Scope) (array : ℕ) (es : List (Option Expr × Expr)) (i : ℕ) (e : Option Expr × Expr) (old new : List (Option KeyRef × Slot)) (key : Option KeyRef) (x made more : Slot)
    → i < length es → e ≡ get_or es i e → new ≡ old ++ (key, x) ∷ []
    → Emits s0 s1 (maybe_key w (maybe_of e.0)) (plain_maybe_key key) → Emits s1 s2 (code w (plain_expr e.1)) x.0
    → Sets s2 s3 (put_source made.0 (plain_maybe_key key ∷ []) x.0) (place s2 + 1) more.0
    → SoFar w first s0 array es i made.0 (map plain_item old) → SoFar w first s3 array es (i + 1) more.0 (map plain_item new)
unfolding items_code
items_further {s0} {s1} {s2} {s3} {first} w array es i e old new key x made more lt is push d f put so_far =
    let here : e ∷ drop (i + 1) es ≡ drop i es = sym (drop_here es i e lt is) in
    let item : Code (Option PlainKeyRef × ℕ) = both (maybe_key w (maybe_of e.0)) (code w (plain_expr e.1)) (λ (y : Option PlainKeyRef) (z : ℕ). (y, z)) in
    let last : map plain_item new ≡ map plain_item old ++ (plain_maybe_key key, x.0) ∷ [] = ap (map plain_item) push ∙ map-append plain_item old ((key, x) ∷ []) in
    record {
      begun = one_item so_far.begun item;
      emits = λ start k.
          (let one : Emits start s3 (one_item so_far.begun item) (more.0, map plain_item old ++ (plain_maybe_key key, x.0) ∷ []) =
          emits_with (λ (two : Begun × (Option PlainKeyRef × ℕ)). put_source (two.0).0 ((two.1).0 ∷ []) (two.1).1) (λ (two : Begun × (Option PlainKeyRef × ℕ)) (y : ℕ). (let b : Begun = (y, (two.0).1 ++ two.1 ∷ []) in b))
          (emits_both (λ (b : Begun) (one : Option PlainKeyRef × ℕ). (let two : Begun × (Option PlainKeyRef × ℕ) = (b, one) in two)) (so_far.emits start k) (emits_both (λ (y : Option PlainKeyRef) (z : ℕ). (let one : Option PlainKeyRef × ℕ = (y, z) in one)) d f)) put in
          subst (λ (l : List (Option PlainKeyRef × ℕ)). Emits start s3 (one_item so_far.begun item) (more.0, l)) (sym last) one);
      rest = ap (λ (l : List (Option Expr × Expr)). items_code w (items_of l) so_far.begun) here ∙ so_far.rest;
    }

pub items_end : {s0 first : Progress} (w : Scope) (array : ℕ) (es : List (Option Expr × Expr)) (i made : ℕ) (items : List (Option PlainKeyRef × ℕ)) → length es ≤ i → SoFar w first s0 array es i made items
    → (start : Progress) → Emits start first no_item (array, []) → Emits start s0 (left (items_code w (items_of es) no_item) the_items) items
unfolding items_code
items_end {s0} {first} w array es i made items le so_far start k =
    let all : so_far.begun ≡ items_code w (items_of es) no_item = ap (λ (l : List (Option Expr × Expr)). items_code w (items_of l) so_far.begun) (sym (drop_past es i le)) ∙ so_far.rest in
    emits_left the_items (subst (λ (c : Code Begun). Emits start s0 c (made, items)) all (so_far.emits start k))

pub length_of_keys : (ks : List (Option Expr)) → length_of_path (path_of ks) ≡ length ks
unfolding length_of_path
length_of_keys [] = refl
length_of_keys (k ∷ ks) = omega (arith, length_of_keys ks)

pub pushed_length : {X : Type 0} (old new : List X) (x : X) (n : ℕ) → new ≡ old ++ x ∷ [] → length old ≡ n → length new ≡ n + 1
pushed_length {X} old new x n e l = omega (arith, ap length e, length-append old (x ∷ []), l)

-- a key: a text that stands in the script, or a value
pub key_text : (s : Progress) (e : PlainExpr) (a : Code ℕ) (t u : List ℕ) → e ≡ text_expr t → u ≡ t → Emits s s (key_code e a) (text_ref u)
unfolding key_code
key_text s e a t u is us =
    subst (λ (f : PlainExpr). Emits s s (key_code f a) (text_ref u)) (sym is) (subst (λ (v : List ℕ). Emits s s (known (text_ref t)) (text_ref v)) (sym us) (emits_known s (text_ref t)))

pub key_slot : {s0 s1 : Progress} {x : ℕ} (e : PlainExpr) (a : Code ℕ) → IsNoNumber e → IsNoText e → Emits s0 s1 a x → Emits s0 s1 (key_code e a) (read_ref x)
key_slot {s0} {s1} {x} e a g h d = subst (λ (c : Code PlainKeyRef). Emits s0 s1 c (read_ref x)) (sym (read_key e a g h)) (emits_left read_ref d)

-- an expression by its plain form
pub by_form : {s0 s1 : Progress} {x : ℕ} (w : Scope) (e f : PlainExpr) → e ≡ f → Emits s0 s1 (code w f) x → Emits s0 s1 (code w e) x
by_form {s0} {s1} {x} w e f is d = subst (λ (g : PlainExpr). Emits s0 s1 (code w g) x) (sym is) d
