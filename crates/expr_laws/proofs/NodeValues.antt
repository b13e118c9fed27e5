-- The value of a node is made of the values of its parts.
use Rattle.std.proofs.Common.{◌≡◌, ◌∙◌, ℕ, suc, ◌+◌, Bool, true, false, refl, ap, arith, add-one, Some, None}
use Rattle.std.specs.Prelude.{Option, if◌then◌else◌, nat_le, max}
use Rattle.std.proofs.lemmas.Bool.Decides.{nat_tests}
use Rattle.php_syntax.specs.Trees.{PlainExpr}
use Rattle.script_grammar.specs.Rules.{is_place}
use Rattle.php_syntax.specs.Height.{height}
use Rattle.expr_machine.specs.Values.{PlainValue, known_value, tall_value, node_value, value_of_tree}

-- which of two numbers the higher one is above
pub high_left : (h k n : ℕ) → nat_le h n ≡ false → nat_le (max h k) n ≡ false
high_left h k n e = grind (arith, nat_tests)

pub high_right : (h k n : ℕ) → nat_le k n ≡ false → nat_le (max h k) n ≡ false
high_right h k n e = grind (arith, nat_tests)

pub both_low : (h k n : ℕ) → nat_le h n ≡ true → nat_le k n ≡ true → nat_le (max h k) n ≡ true
both_low h k n e f = grind (arith, nat_tests)

pub higher : (h m n : ℕ) → m ≡ 1 + h → nat_le h n ≡ false → nat_le m n ≡ false
higher h m n e f = grind (arith, nat_tests)

node_of : (e : PlainExpr) (h m : ℕ) (p q : Bool) → m ≡ suc h → q ≡ p → node_value e h p ≡ (if nat_le m 200 then known_value e m else tall_value q)
node_of e h m p q i j = rw (i, j) (ap (λ k. if nat_le (suc h) 200 then known_value e k else tall_value p) (add-one h))

pub node_is : (e : PlainExpr) (h : ℕ) (p : Bool) → height e ≡ 1 + h → is_place e ≡ p → node_value e h p ≡ value_of_tree e
node_is e h p i j = node_of e h (height e) p (is_place e) (omega (arith, i)) j

pub tall_is : (e : PlainExpr) (p : Bool) → nat_le (height e) 200 ≡ false → is_place e ≡ p → tall_value p ≡ value_of_tree e
tall_is e p i j = rw (i, j) refl

-- a node of one part
pub one_is : (f : PlainValue → PlainValue) (a e : PlainExpr) → ((h : ℕ) → f (known_value a h) ≡ node_value e h false) → f (tall_value (is_place a)) ≡ tall_value false
    → height e ≡ 1 + height a → is_place e ≡ false → f (value_of_tree a) ≡ value_of_tree e
one_is f a e low high i j = go (nat_le (height a) 200) refl
  where
    go : (q : Bool) → nat_le (height a) 200 ≡ q → f (if q then known_value a (height a) else tall_value (is_place a)) ≡ value_of_tree e
    go true k = low (height a) ∙ node_is e (height a) false i j
    go false k = high ∙ tall_is e false (higher (height a) (height e) 200 i k) j

-- a node of two parts
pub two_is : (f : PlainValue → PlainValue → PlainValue) (a b e : PlainExpr) (p : Bool)
    → ((h k : ℕ) → f (known_value a h) (known_value b k) ≡ node_value e (max h k) p)
    → ((v : PlainValue) → f (tall_value (is_place a)) v ≡ tall_value p)
    → ((h : ℕ) → f (known_value a h) (tall_value (is_place b)) ≡ tall_value p)
    → height e ≡ 1 + max (height a) (height b) → is_place e ≡ p → f (value_of_tree a) (value_of_tree b) ≡ value_of_tree e
two_is f a b e p low left right i j = go (nat_le (height a) 200) (nat_le (height b) 200) refl refl
  where
    go : (q r : Bool) → nat_le (height a) 200 ≡ q → nat_le (height b) 200 ≡ r
        → f (if q then known_value a (height a) else tall_value (is_place a)) (if r then known_value b (height b) else tall_value (is_place b)) ≡ value_of_tree e
    go true true k l = low (height a) (height b) ∙ node_is e (max (height a) (height b)) p i j
    go true false k l = right (height a) ∙ tall_is e p (higher (max (height a) (height b)) (height e) 200 i (high_right (height a) (height b) 200 l)) j
    go false r k l = left (if r then known_value b (height b) else tall_value (is_place b)) ∙ tall_is e p (higher (max (height a) (height b)) (height e) 200 i (high_left (height a) (height b) 200 k)) j

-- a node of a row of parts
pub row_is : {R : Type 0} (f : Option (R × ℕ) → PlainValue) (row : R) (h : ℕ) (e : PlainExpr) → f (Some (row, h)) ≡ node_value e h false → f None ≡ tall_value false
    → height e ≡ 1 + h → is_place e ≡ false → f (if nat_le h 200 then Some (row, h) else None) ≡ value_of_tree e
row_is {R = R} f row h e low high i j = go (nat_le h 200) refl
  where
    go : (q : Bool) → nat_le h 200 ≡ q → f (if q then Some (row, h) else None) ≡ value_of_tree e
    go true k = low ∙ node_is e h false i j
    go false k = high ∙ tall_is e false (higher h (height e) 200 i k) j

-- a node of a path and a value
pub target_is : {R : Type 0} (f : Option (R × ℕ) → PlainValue → PlainValue) (path : R) (t : ℕ) (a e : PlainExpr)
    → ((h : ℕ) → f (Some (path, t)) (known_value a h) ≡ node_value e (max (1 + t) h) false)
    → ((v : PlainValue) → f None v ≡ tall_value false)
    → f (Some (path, t)) (tall_value (is_place a)) ≡ tall_value false
    → height e ≡ 1 + max (1 + t) (height a) → is_place e ≡ false → f (if nat_le t 200 then Some (path, t) else None) (value_of_tree a) ≡ value_of_tree e
target_is {R = R} f path t a e low left right i j = go (nat_le t 200) (nat_le (height a) 200) refl refl
  where
    go : (q r : Bool) → nat_le t 200 ≡ q → nat_le (height a) 200 ≡ r
        → f (if q then Some (path, t) else None) (if r then known_value a (height a) else tall_value (is_place a)) ≡ value_of_tree e
    go true true k l = low (height a) ∙ node_is e (max (1 + t) (height a)) false i j
    go true false k l = right ∙ tall_is e false (higher (max (1 + t) (height a)) (height e) 200 i (high_right (1 + t) (height a) 200 l)) j
    go false r k l = left (if r then known_value a (height a) else tall_value (is_place a)) ∙ tall_is e false (higher (max (1 + t) (height a)) (height e) 200 i (high_left (1 + t) (height a) 200 (higher t (1 + t) 200 refl k))) j

-- a node of three parts
pub three_is : (f : PlainValue → PlainValue → PlainValue → PlainValue) (a m b e : PlainExpr)
    → ((h i k : ℕ) → f (known_value a h) (known_value m i) (known_value b k) ≡ node_value e (max h (max i k)) false)
    → ((v w : PlainValue) → f (tall_value (is_place a)) v w ≡ tall_value false)
    → ((h : ℕ) (w : PlainValue) → f (known_value a h) (tall_value (is_place m)) w ≡ tall_value false)
    → ((h i : ℕ) → f (known_value a h) (known_value m i) (tall_value (is_place b)) ≡ tall_value false)
    → height e ≡ 1 + max (height a) (max (height m) (height b)) → is_place e ≡ false → f (value_of_tree a) (value_of_tree m) (value_of_tree b) ≡ value_of_tree e
three_is f a m b e low first second third i j = go (nat_le (height a) 200) (nat_le (height m) 200) (nat_le (height b) 200) refl refl refl
  where
    go : (q r s : Bool) → nat_le (height a) 200 ≡ q → nat_le (height m) 200 ≡ r → nat_le (height b) 200 ≡ s
        → f (if q then known_value a (height a) else tall_value (is_place a)) (if r then known_value m (height m) else tall_value (is_place m)) (if s then known_value b (height b) else tall_value (is_place b)) ≡ value_of_tree e
    go true true true k l o = low (height a) (height m) (height b) ∙ node_is e (max (height a) (max (height m) (height b))) false i j
    go true true false k l o = third (height a) (height m) ∙ tall_is e false (higher (max (height a) (max (height m) (height b))) (height e) 200 i (high_right (height a) (max (height m) (height b)) 200 (high_right (height m) (height b) 200 o))) j
    go true false s k l o = second (height a) (if s then known_value b (height b) else tall_value (is_place b)) ∙ tall_is e false (higher (max (height a) (max (height m) (height b))) (height e) 200 i (high_right (height a) (max (height m) (height b)) 200 (high_left (height m) (height b) 200 l))) j
    go false r s k l o = first (if r then known_value m (height m) else tall_value (is_place m)) (if s then known_value b (height b) else tall_value (is_place b)) ∙ tall_is e false (higher (max (height a) (max (height m) (height b))) (height e) 200 i (high_left (height a) (max (height m) (height b)) 200 k)) j
