-- When a sum is whole.
use Rattle.std.proofs.Common.{◌≡◌, ◌↔◌, ℕ, true, List, [], ◌∷◌, Option, Some, None, refl, ◌∙◌, ap, length, nat_eq}
use Rattle.std.specs.Prelude.{IsTrue}
use Rattle.std.specs.Option.{option_eq}
use Rattle.std.specs.Cmp.{unsigned_Decides}
use Rattle.text_base.specs.declared.page_token.PageToken.{PageToken}
use Rattle.dtd_model.specs.Table.{Table}
use Rattle.content_automata.specs.Tables.{Table as States}
use Rattle.content_automata.specs.Decides.{Decides, HasOwners}
use Rattle.page_model.specs.TokenTree.{TokenTree}
use Rattle.tag_sums.specs.Automaton.{Automaton}
use Rattle.tag_sums.specs.Sum.{Sum, broken, reduced, target, sum_of, IsWhole}
use Rattle.tag_sums.proofs.Trees.{whole_tree}
use Rattle.page_automata.specs.PageAutomaton.{parts_of, page_automaton}
use Rattle.page_automata.specs.Whole.{is_whole}
use Rattle.page_automata.proofs.StepLemmas.{lawful}
use Rattle.page_automata.proofs.TreeLemmas.{own_parts}
use Rattle.page_automata.proofs.PageLemmas.{page_is_tree}

some_from : (o : Option ℕ) (d : ℕ) → option_eq nat_eq o (Some d) ≡ true → o ≡ Some d
some_from None d h = cc
some_from (Some x) d h = ap Some ((unsigned_Decides x d).0 h)

some_to : (o : Option ℕ) (d : ℕ) → o ≡ Some d → option_eq nat_eq o (Some d) ≡ true
some_to None d h = cc
some_to (Some x) d h = (unsigned_Decides x d).1 cc

whole_from : (a : Automaton) (s : Sum) → is_whole a s ≡ true → IsWhole a s
whole_from a broken h = cc
whole_from a (reduced [] m []) h = (m, refl, some_from (target m a.page_start) a.page_done h)
whole_from a (reduced [] m (q ∷ os)) h = cc
whole_from a (reduced (s ∷ cs) m os) h = cc

whole_to : (a : Automaton) (s : Sum) → IsWhole a s → is_whole a s ≡ true
whole_to a s w = ap (is_whole a) w.1 ∙ some_to (target w.0 a.page_start) a.page_done w.2

pub whole_is_tree : (table : Table) (t : States) → Decides table t → HasOwners (length table.elements) t → (tokens : List PageToken) → IsTrue (is_whole (page_automaton (parts_of table t)) (sum_of (page_automaton (parts_of table t)) tokens)) ↔ TokenTree table tokens
whole_is_tree table t decides own tokens =
    let tree = page_is_tree table t decides own tokens in
    let whole = whole_tree (page_automaton (parts_of table t)) (lawful (parts_of table t) (own_parts table t own)) tokens in (
      λ h. tree.0 (whole.0 (whole_from (page_automaton (parts_of table t)) (sum_of (page_automaton (parts_of table t)) tokens) h)),
      λ k. whole_to (page_automaton (parts_of table t)) (sum_of (page_automaton (parts_of table t)) tokens) (whole.1 (tree.1 k)),
    )
