-- What the machine comes to is below the count.
use Rattle.std.proofs.Common.{◌≡◌, ℕ, ◌<◌, zero, suc, Bool, IsTrue, ltb, List, [], ◌∷◌, Some, slice_get, subst, arith}
use Rattle.std.specs.List.{list_all}
use Rattle.std.specs.Cmp.{first_so, second_so}
use Rattle.std.proofs.lemmas.Bool.{ltb-true}
use Rattle.std.proofs.lemmas.Bool.Decides.{nat_tests}
use Rattle.text_base.specs.declared.numbers.Nt as nt
use Rattle.text_base.specs.declared.letter.Letter.{Letter}
use Rattle.cfg_grammar.specs.declared.symbol.Symbol.{Symbol}
use Rattle.cfg_grammar.specs.declared.symbol.Symbol.TheVariants.{Nt}
use Rattle.cfg_grammar.specs.declared.production.Production.{Production}
use Rattle.cfg_grammar.specs.Below.{symbols_of, symbol_below, production_below, AreBelow}
use Rattle.fst_core.specs.Items.{Enters, at_start, by_item}

pub all_at : {X : Type 0} (p : X → Bool) (xs : List X) (n : ℕ) (x : X) → IsTrue (list_all p xs) → slice_get xs n ≡ Some x → IsTrue (p x)
all_at p [] n x h at = cc
all_at {X} p (y ∷ xs) zero x h at = let same : y ≡ x = cc in subst (λ (z : X). IsTrue (p z)) same (first_so (p y) (list_all p xs) h)
all_at p (y ∷ xs) (suc n) x h at = all_at p xs n x (second_so (p y) (list_all p xs) h) at

is_below : (count : ℕ) (a : nt.Nt) → a.0 < count → IsTrue (symbol_below count (Nt a))
is_below count a h = grind (arith, nat_tests)

entered_below : (count : ℕ) (ps : List Production) (steps : ℕ → ℕ → ℕ → List Letter → Type 0) (from : nt.Nt) (first : ℕ) (x : Symbol) (s : ℕ) → AreBelow count ps → from.0 < count → Enters ps steps from first x s → IsTrue (symbol_below count x)
entered_below count ps steps from first x s below h at_start = is_below count from h
entered_below count ps steps from first x s below h (by_item place p u after w symbol placed e r at next) =
    let b = all_at (production_below count) ps place p below placed in
    all_at (symbol_below count) (symbols_of p.right) _ symbol (second_so (ltb p.left.0 count) (list_all (symbol_below count) (symbols_of p.right)) b) next

-- a nonterminal that the machine comes to
pub nonterminal_below : (count : ℕ) (ps : List Production) (steps : ℕ → ℕ → ℕ → List Letter → Type 0) (from : nt.Nt) (first : ℕ) (x : Symbol) (a : nt.Nt) (s : ℕ) → AreBelow count ps → from.0 < count → Enters ps steps from first x s → x ≡ Nt a → a.0 < count
nonterminal_below count ps steps from first x a s below h e is =
    ltb-true a.0 count (subst (λ (y : Symbol). IsTrue (symbol_below count y)) is (entered_below count ps steps from first x s below h e))
