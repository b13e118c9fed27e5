-- Nonterminals and page tokens of the productions of both grammars, and how many there are.
use Rattle.std.proofs.Common.{◌≡◌, ◌≤◌, ◌+◌, ◌&&◌, nat_lt, ℕ, Bool, true, false, List, [], ◌∷◌, ◌++◌, length, refl, ◌∙◌, arith, length-append}
use Rattle.std.specs.List.{list_all}
use Rattle.std.proofs.lemmas.Bool.{lt-ltb, ltb-true, and_parts, and_from}
use Rattle.std.proofs.lemmas.List.Folds.{list_all-append}
use Rattle.cfg_grammar.specs.declared.symbol.Symbol.{Symbol}
use Rattle.cfg_grammar.specs.declared.symbol.Symbol.TheVariants.{Range, Token, Nt}
use Rattle.cfg_grammar.specs.declared.production.Right.{Right}
use Rattle.cfg_grammar.specs.declared.production.Right.TheVariants.{Empty, One, Two}
use Rattle.cfg_grammar.specs.declared.production.Production.{Production}
use Rattle.cfg_grammar.specs.Below.{AreBelow, symbol_below, symbols_of, production_below}
use Rattle.cfg_grammar.specs.Tokens.{HaveNoToken, is_no_token, production_without_token}
use Rattle.given_texts.specs.Moved.{moved_symbol, moved_right, moved_production}
use Rattle.given_texts.specs.Kept.{right_kept, if_kept, kept_one, kept}

-- a test of productions, with each symbol's number higher
both_pass : (test : Production → Bool) (xs ys : List Production) → list_all test xs ≡ true → list_all test ys ≡ true → list_all test (xs ++ ys) ≡ true
both_pass test xs ys h k = list_all-append test xs ys ∙ and_from (list_all test xs) (list_all test ys) h k

one_passes : (test : Production → Bool) (b : Bool) (p : Production) → test p ≡ true → list_all test (if_kept b p) ≡ true
one_passes test true p h = and_from (test p) true h refl
one_passes test false p h = refl

kept_pass : (before behind : Production → Bool) (marks : List Bool) (base : ℕ) → ((p : Production) → before p ≡ true → behind (moved_production base p) ≡ true) → (ps : List Production) → list_all before ps ≡ true → list_all behind (kept marks base ps) ≡ true
kept_pass before behind marks base moves [] h = refl
kept_pass before behind marks base moves (p ∷ ps) h =
    let two = and_parts (before p) (list_all before ps) h in
    both_pass behind (kept_one marks base p) (kept marks base ps) (one_passes behind (right_kept marks p.right) (moved_production base p) (moves p two.0)) (kept_pass before behind marks base moves ps two.1)

-- numbers below a count, by a higher count
pub symbol_wider : (n m : ℕ) → n ≤ m → (s : Symbol) → symbol_below n s ≡ true → symbol_below m s ≡ true
symbol_wider n m le (Range r) h = refl
symbol_wider n m le (Token t) h = refl
symbol_wider n m le (Nt a) h = let less = ltb-true a.0 n h in lt-ltb a.0 m (omega (arith, less, le))

symbols_wider : (n m : ℕ) → n ≤ m → (ss : List Symbol) → list_all (symbol_below n) ss ≡ true → list_all (symbol_below m) ss ≡ true
symbols_wider n m le [] h = refl
symbols_wider n m le (s ∷ ss) h =
    let two = and_parts (symbol_below n s) (list_all (symbol_below n) ss) h in
    and_from (symbol_below m s) (list_all (symbol_below m) ss) (symbol_wider n m le s two.0) (symbols_wider n m le ss two.1)

pub wider : (n m : ℕ) → n ≤ m → (ps : List Production) → AreBelow n ps → AreBelow m ps
wider n m le [] h = refl
wider n m le (p ∷ ps) h =
    let two = and_parts (production_below n p) (list_all (production_below n) ps) h in
    let one = and_parts (nat_lt p.left.0 n) (list_all (symbol_below n) (symbols_of p.right)) two.0 in
    let less = ltb-true p.left.0 n one.0 in
    and_from (production_below m p) (list_all (production_below m) ps)
    (and_from (nat_lt p.left.0 m) (list_all (symbol_below m) (symbols_of p.right)) (lt-ltb p.left.0 m (omega (arith, less, le))) (symbols_wider n m le (symbols_of p.right) one.1))
    (wider n m le ps two.1)

-- higher numbers
moved_symbol_below : (base count : ℕ) (s : Symbol) → symbol_below count s ≡ true → symbol_below (base + count) (moved_symbol base s) ≡ true
moved_symbol_below base count (Range r) h = refl
moved_symbol_below base count (Token t) h = refl
moved_symbol_below base count (Nt a) h = let less = ltb-true a.0 count h in lt-ltb (base + a.0) (base + count) (omega (arith, less))

moved_right_below : (base count : ℕ) (r : Right) → list_all (symbol_below count) (symbols_of r) ≡ true → list_all (symbol_below (base + count)) (symbols_of (moved_right base r)) ≡ true
moved_right_below base count Empty h = refl
moved_right_below base count (One a) h =
    and_from (symbol_below (base + count) (moved_symbol base a)) true (moved_symbol_below base count a (and_parts (symbol_below count a) true h).0) refl
moved_right_below base count (Two a b) h =
    let two = and_parts (symbol_below count a) (symbol_below count b && true) h in
    and_from (symbol_below (base + count) (moved_symbol base a)) (symbol_below (base + count) (moved_symbol base b) && true) (moved_symbol_below base count a two.0)
    (and_from (symbol_below (base + count) (moved_symbol base b)) true (moved_symbol_below base count b (and_parts (symbol_below count b) true two.1).0) refl)

moved_below : (base count : ℕ) (p : Production) → production_below count p ≡ true → production_below (base + count) (moved_production base p) ≡ true
moved_below base count p h =
    let two = and_parts (nat_lt p.left.0 count) (list_all (symbol_below count) (symbols_of p.right)) h in
    let less = ltb-true p.left.0 count two.0 in
    and_from (nat_lt (base + p.left.0) (base + count)) (list_all (symbol_below (base + count)) (symbols_of (moved_right base p.right))) (lt-ltb (base + p.left.0) (base + count) (omega (arith, less))) (moved_right_below base count p.right two.1)

pub both_below : (base count : ℕ) (marks : List Bool) (given ps : List Production) → AreBelow base given → AreBelow count ps → AreBelow (base + count) (given ++ kept marks base ps)
both_below base count marks given ps h k =
    both_pass (production_below (base + count)) given (kept marks base ps) (wider base (base + count) (omega arith) given h) (kept_pass (production_below count) (production_below (base + count)) marks base (moved_below base count) ps k)

-- page tokens
moved_symbol_plain : (base : ℕ) (s : Symbol) → is_no_token s ≡ true → is_no_token (moved_symbol base s) ≡ true
moved_symbol_plain base (Range r) h = refl
moved_symbol_plain base (Token t) h = h
moved_symbol_plain base (Nt a) h = refl

moved_right_plain : (base : ℕ) (r : Right) → list_all is_no_token (symbols_of r) ≡ true → list_all is_no_token (symbols_of (moved_right base r)) ≡ true
moved_right_plain base Empty h = refl
moved_right_plain base (One a) h = and_from (is_no_token (moved_symbol base a)) true (moved_symbol_plain base a (and_parts (is_no_token a) true h).0) refl
moved_right_plain base (Two a b) h =
    let two = and_parts (is_no_token a) (is_no_token b && true) h in
    and_from (is_no_token (moved_symbol base a)) (is_no_token (moved_symbol base b) && true) (moved_symbol_plain base a two.0)
    (and_from (is_no_token (moved_symbol base b)) true (moved_symbol_plain base b (and_parts (is_no_token b) true two.1).0) refl)

pub both_plain : (base : ℕ) (marks : List Bool) (given ps : List Production) → HaveNoToken given → HaveNoToken ps → HaveNoToken (given ++ kept marks base ps)
both_plain base marks given ps h k =
    both_pass production_without_token given (kept marks base ps) h (kept_pass production_without_token production_without_token marks base (λ p. moved_right_plain base p.right) ps k)

-- no more than there were
one_few : (b : Bool) (p : Production) → length (if_kept b p) ≤ 1
one_few true p = omega arith
one_few false p = omega arith

kept_few : (marks : List Bool) (base : ℕ) (ps : List Production) → length (kept marks base ps) ≤ length ps
kept_few marks base [] = omega arith
kept_few marks base (p ∷ ps) =
    let a = length-append (kept_one marks base p) (kept marks base ps) in
    let b = one_few (right_kept marks p.right) (moved_production base p) in
    let c = kept_few marks base ps in
    omega (arith, a, b, c)

pub both_few : (marks : List Bool) (base : ℕ) (given ps : List Production) → length (given ++ kept marks base ps) ≤ length given + length ps
both_few marks base given ps = let a = length-append given (kept marks base ps) in let b = kept_few marks base ps in omega (arith, a, b)
