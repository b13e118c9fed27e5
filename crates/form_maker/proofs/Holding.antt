-- What a maker holds goes on to stand for what it stood for, and what each call makes of it.
use Rattle.std.proofs.Common.{◌≡◌, ℕ, Bool, true, List, [], ◌∷◌, ◌++◌, map, refl, sym, ◌∙◌, ap, subst, Result, Ok, Err}
use Rattle.std.proofs.lemmas.List.{map-append}
use Rattle.std.specs.Result.{OnOk, OnErr}
use Rattle.std.specs.Cmp.{first_so, second_so}
use Rattle.std.specs.Prelude.{slice_get}
use Rattle.std.proofs.lemmas.Bool.{and_from}
use Rattle.derivatives.specs.Expressions.{Expr, nothing}
use Rattle.derivatives.specs.Nodes.{is_expr_at}
use Rattle.derivatives.specs.Standing.{expr_at, IsExpr, IsMade, Grows}
use Rattle.derivatives.specs.declared.arena.Arena.{Arena}
use Rattle.derivatives.proofs.NodeLemmas.{expr_stays}
use Rattle.derivatives.proofs.NormalForms.{ap2}
use Rattle.form_maker.specs.Numbers.{are_exprs}
use Rattle.form_maker.specs.Making.{Making, pushed, popped, changed, joined, moved, last_of, others_of}

is_one : Arena → ℕ → Bool
is_one a n = is_expr_at (slice_get a.nodes.keys n)

pub first_is : (a : Arena) (n : ℕ) (ns : List ℕ) → are_exprs a (n ∷ ns) ≡ true → IsExpr a n
first_is a n ns h = first_so (is_expr_at (slice_get a.nodes.keys n)) (are_exprs a ns) h

pub others_are : (a : Arena) (n : ℕ) (ns : List ℕ) → are_exprs a (n ∷ ns) ≡ true → are_exprs a ns ≡ true
others_are a n ns h = second_so (is_expr_at (slice_get a.nodes.keys n)) (are_exprs a ns) h

pub one_more : (a : Arena) (n : ℕ) (ns : List ℕ) → IsExpr a n → are_exprs a ns ≡ true → are_exprs a (n ∷ ns) ≡ true
one_more a n ns h k = and_from (is_expr_at (slice_get a.nodes.keys n)) (are_exprs a ns) h k

pub grown : (old new : Arena) → Grows old new → (ns : List ℕ) → are_exprs old ns ≡ true → are_exprs new ns ≡ true
grown old new g [] h = refl
grown old new g (n ∷ ns) h = one_more new n ns (expr_stays old new g n (first_is old n ns h)).is_expr (grown old new g ns (others_are old n ns h))

pub same : (old new : Arena) → Grows old new → (ns : List ℕ) → are_exprs old ns ≡ true → map (expr_at new) ns ≡ map (expr_at old) ns
same old new g [] h = refl
same old new g (n ∷ ns) h = ap2 (λ (e : Expr) (es : List Expr). e ∷ es) (expr_stays old new g n (first_is old n ns h)).is (same old new g ns (others_are old n ns h))

-- what is held, by the numbers
abbrev pub held : Arena → List ℕ → List ℕ → Making
held a stack kept = record { stack = map (expr_at a) stack; kept = map (expr_at a) kept }

makings : (s t k l : List Expr) → s ≡ t → k ≡ l → (let m : Making = record { stack = s; kept = k } in m ≡ record { stack = t; kept = l })
makings s t k l e f = ap2 (λ (x : List Expr) (y : List Expr). let m : Making = record { stack = x; kept = y } in m) e f

pub push_made : (old new : Arena) (stack kept : List ℕ) (n : ℕ) (e : Expr) → Grows old new → are_exprs old stack ≡ true → are_exprs old kept ≡ true → IsMade new n e
    → held new (n ∷ stack) kept ≡ pushed e (held old stack kept)
push_made old new stack kept n e g h k m =
    makings (expr_at new n ∷ map (expr_at new) stack) (e ∷ map (expr_at old) stack) (map (expr_at new) kept) (map (expr_at old) kept)
    (ap2 (λ (x : Expr) (xs : List Expr). x ∷ xs) m.is (same old new g stack h)) (same old new g kept k)

-- a stack that is another with one number more, or is it still, for want of memory
pub pushed_or_not : {T F : Type 0} (a : Arena) (r : Result T F) (new old : List ℕ) (n : ℕ) → OnOk r (new ≡ n ∷ old) → OnErr r (new ≡ old) → IsExpr a n → are_exprs a old ≡ true → are_exprs a new ≡ true
pushed_or_not a (Ok t) new old n h g is are = subst (λ (ns : List ℕ). are_exprs a ns ≡ true) (sym h) (one_more a n old is are)
pushed_or_not a (Err e) new old n h g is are = subst (λ (ns : List ℕ). are_exprs a ns ≡ true) (sym g) are

-- the numbers behind one that is taken
pub taken_are : (a : Arena) (old rest : List ℕ) (n : ℕ) → old ≡ n ∷ rest → are_exprs a old ≡ true → are_exprs a (n ∷ rest) ≡ true
taken_are a old rest n e h = subst (λ (ns : List ℕ). are_exprs a ns ≡ true) e h

pub rest_are : (a : Arena) (old rest : List ℕ) (n : ℕ) → old ≡ n ∷ rest → are_exprs a old ≡ true → are_exprs a rest ≡ true
rest_are a old rest n e h = others_are a n rest (taken_are a old rest n e h)

pub taken_is : (a : Arena) (old rest : List ℕ) (n : ℕ) → old ≡ n ∷ rest → are_exprs a old ≡ true → IsExpr a n
taken_is a old rest n e h = first_is a n rest (taken_are a old rest n e h)

-- the same, where the stacks are such by equations
pub push_is : (old new : Arena) (stack longer kept : List ℕ) (n : ℕ) (e : Expr) → longer ≡ n ∷ stack → Grows old new → are_exprs old stack ≡ true → are_exprs old kept ≡ true → IsMade new n e
    → held new longer kept ≡ pushed e (held old stack kept)
push_is old new stack longer kept n e s g h k m = ap (λ (ns : List ℕ). held new ns kept) s ∙ push_made old new stack kept n e g h k m

-- what is taken off
pub taken_off : (a : Arena) (stack rest kept : List ℕ) (n : ℕ) → stack ≡ n ∷ rest → held a rest kept ≡ popped (held a stack kept)
taken_off a stack rest kept n e = ap (λ (ns : List ℕ). popped (held a ns kept)) (sym e)

pub last_taken : (a : Arena) (stack rest kept : List ℕ) (n : ℕ) → stack ≡ n ∷ rest → are_exprs a stack ≡ true → IsMade a n (last_of (held a stack kept).stack)
last_taken a stack rest kept n e h = record { is_expr = taken_is a stack rest n e h; is = ap (λ (ns : List ℕ). last_of (held a ns kept).stack) (sym e) }

-- nothing is taken off an empty stack
pub none_taken : (old new : Arena) (stack rest kept : List ℕ) → stack ≡ [] → rest ≡ [] → Grows old new → are_exprs old kept ≡ true → held new rest kept ≡ popped (held old stack kept)
none_taken old new stack rest kept e f g k =
    makings (map (expr_at new) rest) (others_of (map (expr_at old) stack)) (map (expr_at new) kept) (map (expr_at old) kept)
    (ap (map (expr_at new)) f ∙ ap (λ (ns : List ℕ). others_of (map (expr_at old) ns)) (sym e)) (same old new g kept k)

pub none_last : (old new : Arena) (stack kept : List ℕ) (n : ℕ) → stack ≡ [] → IsMade new n nothing → IsMade new n (last_of (held old stack kept).stack)
none_last old new stack kept n e m = record { is_expr = m.is_expr; is = m.is ∙ ap (λ (ns : List ℕ). last_of (map (expr_at old) ns)) (sym e) }

-- one or two that were taken off, and one that is made of them
pub changed_is : (f : Expr → Expr) (mid new : Arena) (rest after kept : List ℕ) (before : Making) (x n : ℕ) → IsMade mid x (last_of before.stack) → held mid rest kept ≡ popped before → after ≡ n ∷ rest → Grows mid new
    → are_exprs mid rest ≡ true → are_exprs mid kept ≡ true → IsMade new n (f (expr_at mid x)) → held new after kept ≡ changed f before
changed_is f mid new rest after kept before x n x_is left s g h k m =
    push_is mid new rest after kept n (f (expr_at mid x)) s g h k m ∙ ap2 (λ (e : Expr) (i : Making). pushed (f e) i) x_is.is left

pub joined_is : (f : Expr → Expr → Expr) (one two new : Arena) (rest after kept : List ℕ) (before between : Making) (y x n : ℕ) → IsMade one y (last_of before.stack) → between ≡ popped before → Grows one two
    → IsMade two x (last_of between.stack) → held two rest kept ≡ popped between → after ≡ n ∷ rest → Grows two new → are_exprs two rest ≡ true → are_exprs two kept ≡ true
    → IsMade new n (f (expr_at two x) (expr_at two y)) → held new after kept ≡ joined f before
joined_is f one two new rest after kept before between y x n y_is was goes x_is left s g h k m =
    push_is two new rest after kept n (f (expr_at two x) (expr_at two y)) s g h k m
    ∙ ap2 (λ (d : Expr) (i : Making). pushed (f d (expr_at two y)) i) (x_is.is ∙ ap (λ (i : Making). last_of i.stack) was) (left ∙ ap popped was)
    ∙ ap (λ (e : Expr). pushed (f (last_of (others_of before.stack)) e) (popped (popped before))) ((expr_stays one two goes y y_is.is_expr).is ∙ y_is.is)

-- one that was taken off is kept
pub moved_is : (mid : Arena) (stack kept after : List ℕ) (before : Making) (x : ℕ) → IsMade mid x (last_of before.stack) → held mid stack kept ≡ popped before → after ≡ kept ++ x ∷ [] → held mid stack after ≡ moved before
moved_is mid stack kept after before x x_is left s =
    ap (λ (ns : List ℕ). held mid stack ns) s
    ∙ ap (λ (es : List Expr). let m : Making = record { stack = map (expr_at mid) stack; kept = es } in m) (map-append (expr_at mid) kept (x ∷ []))
    ∙ ap2 (λ (e : Expr) (i : Making). let m : Making = record { stack = i.stack; kept = i.kept ++ e ∷ [] } in m) x_is.is left

pub empty_are : (a : Arena) (ns : List ℕ) → ns ≡ [] → are_exprs a ns ≡ true
empty_are a ns e = subst (λ (ms : List ℕ). are_exprs a ms ≡ true) (sym e) refl

pub always : {T F : Type 0} (r : Result T F) (P : Type 0) → P → OnOk r P
always (Ok t) P p = p
always (Err e) P p = tt
