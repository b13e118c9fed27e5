-- Worked texts and near misses.
use Rattle.std.proofs.Common.{◌≡◌, ℕ, true, false, List, [], ◌∷◌, refl, codes, Bool}
use Rattle.derivatives.specs.Expressions.{Expr, nothing, empty, range, chain, either, star, among, none, member, Matches, Joins, at_once, on}
use Rattle.derivatives.specs.Derivatives.{chain_of, may_end, after_all, is_full}
use Rattle.derivatives.specs.Classes.{last_alike}
use Rattle.derivatives.proofs.Ends.{empty_matched, ends_empty}
use Rattle.derivatives.proofs.Living.{is_derivative_by_all}

all_of : (v : List ℕ) → Joins v [] v
all_of [] = at_once
all_of (b ∷ v) = on (all_of v)

-- a text is matched where what is left behind all of it may end
matched : (e : Expr) (w : List ℕ) → may_end (after_all w e) ≡ true → Matches e w
matched e w h = (is_derivative_by_all e w [] w (all_of w)).0 (empty_matched (after_all w e) h)

-- and nowhere else
missed : (e : Expr) (w : List ℕ) → may_end (after_all w e) ≡ false → Matches e w → ⊥
missed e w h d = let t = ends_empty (after_all w e) ((is_derivative_by_all e w [] w (all_of w)).1 d) in both (may_end (after_all w e)) t h
  where
    both : (b : Bool) → b ≡ true → b ≡ false → ⊥
    both b p q = cc

-- Plain expressions.

abbrev a : Expr
a = range 97 97

abbrev b : Expr
b = range 98 98

-- any number of `ab`, and `a` behind them
abbrev pairs : Expr
pairs = chain (star (chain a b)) a

none_of_them : Matches pairs (codes "a")
none_of_them = matched pairs (codes "a") refl

two_of_them : Matches pairs (codes "ababa")
two_of_them = matched pairs (codes "ababa") refl

not_at_an_end : Matches pairs (codes "ab") → ⊥
not_at_an_end = missed pairs (codes "ab") refl

not_twice : after_all (codes "abaa") pairs ≡ nothing
not_twice = refl

-- Members: the first is required, the second is not.

abbrev few : Expr
few = among (member a true (member b false none))

alone : Matches few (codes "a")
alone = matched few (codes "a") refl

in_order : Matches few (codes "ab")
in_order = matched few (codes "ab") refl

turned_round : Matches few (codes "ba")
turned_round = matched few (codes "ba") refl

not_without : Matches few (codes "b") → ⊥
not_without = missed few (codes "b") refl

not_empty : Matches few [] → ⊥
not_empty = missed few [] refl

not_again : after_all (codes "aa") few ≡ nothing
not_again = refl

-- A start tag with three attributes, of which one is required.

-- exactly this text
abbrev spelled : List ℕ → Expr
spelled [] = empty
spelled (x ∷ xs) = chain_of (range x x) (spelled xs)

abbrev blank : Expr
blank = either (range 9 10) (either (range 13 13) (range 32 32))

-- any characters but `"`, `&` and `<`
abbrev value : Expr
value = star (either (range 32 33) (either (range 35 37) (either (range 39 59) (range 61 126))))

-- a name, `=`, and a value in quotes, all behind white space
abbrev attribute : List ℕ → Expr
attribute name = chain blank (chain (star blank) (chain (spelled name) (chain (spelled (codes "=\"")) (chain value (spelled (codes "\""))))))

abbrev tag : Expr
tag =
    chain (spelled (codes "<img"))
    (chain (among (member (attribute (codes "id")) false (member (attribute (codes "class")) false (member (attribute (codes "alt")) true none)))) (chain (star blank) (spelled (codes ">"))))

full : is_full tag ≡ true
full = refl

in_any_order : Matches tag (codes "<img alt=\"a\" id=\"x\" >")
in_any_order = matched tag (codes "<img alt=\"a\" id=\"x\" >") refl

-- an attribute twice fails exactly where its second name begins
once_lives : is_full (after_all (codes "<img id=\"x\" ") tag) ≡ true
once_lives = refl

twice_fails : after_all (codes "<img id=\"x\" i") tag ≡ nothing
twice_fails = refl

-- without the one that is required, the tag fails exactly where it would end
open_lives : is_full (after_all (codes "<img id=\"x\" class=\"\" ") tag) ≡ true
open_lives = refl

closed_fails : after_all (codes "<img id=\"x\" class=\"\" >") tag ≡ nothing
closed_fails = refl

-- Classes.

-- in a value all bytes from `#` to `%` are alike, and `&` is not
in_a_value : last_alike 35 value ≡ 37
in_a_value = refl

-- outside it, the class ends before the next range
before_a_value : last_alike 0 value ≡ 31
before_a_value = refl

-- where the first of a chain is not empty, the second does not count
first_alone : last_alike 0 (chain a b) ≡ 96
first_alone = refl

-- and where it may be, it does
both_count : last_alike 98 (chain (star a) b) ≡ 98
both_count = refl
