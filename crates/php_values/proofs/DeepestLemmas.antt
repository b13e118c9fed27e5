-- How many members are as deep as the deepest, as members come and change.
use Rattle.std.proofs.Common.{◌≡◌, ◌≢◌, ◌<◌, ◌≤◌, ◌+◌, ◌-◌, ℕ, zero, suc, max, Bool, true, false, if◌then◌else◌, nat_eq, List, [], ◌∷◌, ◌++◌, length, get_or, set, refl, sym, ap, ◌∙◌, subst, arith}
use Rattle.std.proofs.lemmas.Bool.{eq-eqb, ne_eqb, eqb-true}
use Rattle.plain_values.specs.Plain.{depth, deepest}
use Rattle.php_values.specs.View.{plain_of, pairs_of}
use Rattle.php_values.specs.Index.{how_many, HasDeepest}
use Rattle.php_values.proofs.Places.{deepest-push, deepest_at, changed_depth}
use Rattle.php_values.specs.declared.key.Key.{Key}
use Rattle.php_values.specs.declared.array.Value.{Value}

abbrev Pair : Type 0
Pair = Key × Value

abbrev depth_in : Pair → ℕ
depth_in x = depth (plain_of x.1)

abbrev one_if : Bool → ℕ
one_if b = if b then 1 else 0

one_there : (a n : ℕ) → a ≡ n → one_if (nat_eq a n) ≡ 1
one_there a n e = ap one_if (eq-eqb a n e)

none_there : (a n : ℕ) → (a ≡ n → ⊥) → one_if (nat_eq a n) ≡ 0
none_there a n e = ap one_if (ne_eqb a n e)

one_at_most : (b : Bool) → one_if b ≤ 1
one_at_most true = omega arith
one_at_most false = omega arith

-- no member is deeper than the deepest
none_deeper : (n : ℕ) (xs : List Pair) → deepest (pairs_of xs) < n → how_many n xs ≡ 0
none_deeper n [] h = refl
none_deeper n (x ∷ xs) h = let first = none_there (depth_in x) n (λ e. absurd (omega (arith, h, e))) in omega (arith, first, none_deeper n xs (omega (arith, h)))

some_so_deep : (n : ℕ) (xs : List Pair) → 0 < how_many n xs → n ≤ deepest (pairs_of xs)
some_so_deep n [] h = absurd (omega (arith, h))
some_so_deep n (x ∷ xs) h = by (nat_eq (depth_in x) n) refl (λ g. some_so_deep n xs g) h
  where
    by : (b : Bool) → nat_eq (depth_in x) n ≡ b → (0 < how_many n xs → n ≤ deepest (pairs_of xs)) → 0 < one_if b + how_many n xs → n ≤ deepest (pairs_of (x ∷ xs))
    by true e rest g = omega (arith, eqb-true (depth_in x) n e)
    by false e rest g = omega (arith, rest (omega (arith, g)))

how_many_le : (n : ℕ) (xs : List Pair) → how_many n xs ≤ length xs
how_many_le n [] = omega arith
how_many_le n (x ∷ xs) = omega (arith, one_at_most (nat_eq (depth_in x) n), how_many_le n xs)

how_many_push : (n : ℕ) (xs : List Pair) (x : Pair) → how_many n (xs ++ x ∷ []) ≡ how_many n xs + one_if (nat_eq (depth_in x) n)
how_many_push n [] x = omega arith
how_many_push n (y ∷ ys) x = omega (arith, how_many_push n ys x)

how_many_set : (n : ℕ) (xs : List Pair) (i : ℕ) (d y : Pair) → i < length xs → how_many n (set xs i y) + one_if (nat_eq (depth_in (get_or xs i d)) n) ≡ how_many n xs + one_if (nat_eq (depth_in y) n)
how_many_set n [] i d y h = absurd (omega (arith, h))
how_many_set n (x ∷ xs) zero d y h = omega arith
how_many_set n (x ∷ xs) (suc i) d y h = omega (arith, how_many_set n xs i d y (omega (arith, h)))

-- one member more
pub deeper_push : (deep many : ℕ) (xs : List Pair) (x : Pair) (n : ℕ) → HasDeepest deep many xs → n ≡ depth_in x → deep < n → HasDeepest n 1 (xs ++ x ∷ [])
deeper_push deep many xs x n h e l = record {
  is_depth = omega (arith, deepest-push xs x, h.is_depth, e, l);
  is_count = let none = none_deeper n xs (omega (arith, h.is_depth, l)) in let one = one_there (depth_in x) n (sym e) in omega (arith, how_many_push n xs x, none, one);
}

pub flatter_push : (deep many : ℕ) (xs : List Pair) (x : Pair) (n : ℕ) → HasDeepest deep many xs → n ≡ depth_in x → n < deep → HasDeepest deep many (xs ++ x ∷ [])
flatter_push deep many xs x n h e l = record {
  is_depth = omega (arith, deepest-push xs x, h.is_depth, e, l);
  is_count = let none = none_there (depth_in x) deep (λ g. absurd (omega (arith, g, e, l))) in omega (arith, how_many_push deep xs x, none, h.is_count);
}

pub equal_push : (deep many : ℕ) (xs : List Pair) (x : Pair) (n : ℕ) → HasDeepest deep many xs → n ≡ depth_in x → n ≡ deep → HasDeepest n (many + 1) (xs ++ x ∷ [])
equal_push deep many xs x n h e l =
    let one = one_there (depth_in x) deep (sym e ∙ l) in
    subst (λ m. HasDeepest m (many + 1) (xs ++ x ∷ [])) (sym l) (record {
      is_depth = omega (arith, deepest-push xs x, h.is_depth, e, l);
      is_count = omega (arith, how_many_push deep xs x, one, h.is_count);
    })

pub few : (deep many : ℕ) (xs : List Pair) → HasDeepest deep many xs → many ≤ length xs
few deep many xs h = omega (arith, how_many_le deep xs, h.is_count)

-- a member that changes
record Changes (deep many : ℕ) (xs : List Pair) (i before after : ℕ) (new : Pair) : Type 0 where
  pub most : deepest (pairs_of (set xs i new)) ≤ max deep after
  pub least : after ≤ deepest (pairs_of (set xs i new))
  pub lost : deep ≤ max (deepest (pairs_of (set xs i new))) before
  pub within : before ≤ deep
  pub counts : (n : ℕ) → how_many n (set xs i new) + one_if (nat_eq before n) ≡ how_many n xs + one_if (nat_eq after n)

changes : (deep many : ℕ) (xs : List Pair) (i before after : ℕ) (old new : Pair) → i < length xs → HasDeepest deep many xs → before ≡ depth_in (get_or xs i old) → after ≡ depth_in new → Changes deep many xs i before after new
changes deep many xs i before after old new l h b a =
    let known = changed_depth xs i old new l in
    let low = deepest_at xs i (suc (deepest (pairs_of xs))) old (omega arith) l in
    record {
      most = omega (arith, known.0, h.is_depth, a);
      least = omega (arith, known.1, a);
      lost = omega (arith, known.2, h.is_depth, b);
      within = omega (arith, low, h.is_depth, b);
      counts = λ n.
          ap (λ k. how_many n (set xs i new) + one_if (nat_eq k n)) b ∙ how_many_set n xs i old new l ∙ ap (λ k. how_many n xs + one_if (nat_eq k n)) (sym a);
    }

pub deeper_set : (deep many : ℕ) (xs : List Pair) (i before after : ℕ) (old new : Pair) → i < length xs → HasDeepest deep many xs → before ≡ depth_in (get_or xs i old) → after ≡ depth_in new → deep < after → HasDeepest after 1 (set xs i new)
deeper_set deep many xs i before after old new l h b a g =
    let c = changes deep many xs i before after old new l h b a in
    let none = none_deeper after xs (omega (arith, h.is_depth, g)) in
    let gone = none_there before after (λ e. absurd (omega (arith, e, c.within, g))) in
    let one = one_there after after refl in
    record {
      is_depth = omega (arith, c.most, c.least, g);
      is_count = omega (arith, c.counts after, none, gone, one);
    }

pub both_set : (deep many : ℕ) (xs : List Pair) (i before after : ℕ) (old new : Pair) → i < length xs → HasDeepest deep many xs → before ≡ depth_in (get_or xs i old) → after ≡ depth_in new → before ≡ deep → after ≡ deep → HasDeepest deep many (set xs i new)
both_set deep many xs i before after old new l h b a g k =
    let c = changes deep many xs i before after old new l h b a in
    let gone = one_there before deep g in
    let one = one_there after deep k in
    record {
      is_depth = omega (arith, c.most, c.least, k);
      is_count = omega (arith, c.counts deep, gone, one, h.is_count);
    }

pub neither_set : (deep many : ℕ) (xs : List Pair) (i before after : ℕ) (old new : Pair) → i < length xs → HasDeepest deep many xs → before ≡ depth_in (get_or xs i old) → after ≡ depth_in new → (before ≢ deep) → after < deep → HasDeepest deep many (set xs i new)
neither_set deep many xs i before after old new l h b a g k =
    let c = changes deep many xs i before after old new l h b a in
    let gone = none_there before deep g in
    let none = none_there after deep (λ e. absurd (omega (arith, e, k))) in
    let low : before < deep = omega (arith, c.within, g) in
    record {
      is_depth = omega (arith, c.most, c.lost, low, k);
      is_count = omega (arith, c.counts deep, gone, none, h.is_count);
    }

pub more_set : (deep many : ℕ) (xs : List Pair) (i before after : ℕ) (old new : Pair) → i < length xs → HasDeepest deep many xs → before ≡ depth_in (get_or xs i old) → after ≡ depth_in new → (before ≢ deep) → after ≡ deep → HasDeepest after (many + 1) (set xs i new)
more_set deep many xs i before after old new l h b a e g =
    let c = changes deep many xs i before after old new l h b a in
    let one = one_there after deep g in
    let gone = none_there before deep e in
    subst (λ m. HasDeepest m (many + 1) (set xs i new)) (sym g) (record {
      is_depth = omega (arith, c.most, c.least, g);
      is_count = omega (arith, c.counts deep, one, gone, h.is_count);
    })

pub fewer_set : (deep many : ℕ) (xs : List Pair) (i before after : ℕ) (old new : Pair) → i < length xs → HasDeepest deep many xs → before ≡ depth_in (get_or xs i old) → after ≡ depth_in new → before ≡ deep → after < deep → 1 < many → HasDeepest deep (many - 1) (set xs i new)
fewer_set deep many xs i before after old new l h b a g k m =
    let c = changes deep many xs i before after old new l h b a in
    let one = one_there before deep g in
    let none = none_there after deep (λ e. absurd (omega (arith, e, k))) in
    let count : how_many deep (set xs i new) + 1 ≡ many = omega (arith, c.counts deep, one, none, h.is_count) in
    record {
      is_depth = omega (arith, c.most, k, some_so_deep deep (set xs i new) (omega (arith, count, m)));
      is_count = omega (arith, count);
    }
