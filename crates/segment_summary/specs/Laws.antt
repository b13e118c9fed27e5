-- The laws of sums, as a summary states them.
use Rattle.std.specs.Prelude.{◌≡◌, true, false, List, ◌++◌, refl}
use Rattle.text_base.specs.declared.page_token.PageToken.{PageToken}
use Rattle.tag_sums.specs.Automaton.{Automaton, IsAutomaton}
use Rattle.tag_sums.specs.Sum.{Sum, broken, reduced, sum_of, compose, is_broken}
use Rattle.tag_sums.proofs.Units.{sum_append}
use Rattle.page_automata.specs.Whole.{is_whole}

-- the sum of a concatenation is the composition of the sums
pub appends : (a : Automaton) → IsAutomaton a → (u v : List PageToken) → sum_of a (u ++ v) ≡ compose (sum_of a u) (sum_of a v)
appends = sum_append

-- a composition is broken where its first sum is
pub broken_first : (a b : Sum) → is_broken a ≡ true → is_broken (compose a b) ≡ true
broken_first broken b h = refl
broken_first (reduced c m o) b h = cc

-- a composition is broken where its second sum is
pub broken_second : (a b : Sum) → is_broken b ≡ true → is_broken (compose a b) ≡ true
broken_second broken b h = refl
broken_second (reduced c m o) broken h = refl
broken_second (reduced c m o) (reduced d n p) h = cc

-- a broken sum is that of no page
pub broken_not_whole : (a : Automaton) (s : Sum) → is_broken s ≡ true → is_whole a s ≡ false
broken_not_whole a broken h = refl
broken_not_whole a (reduced c m o) h = cc
