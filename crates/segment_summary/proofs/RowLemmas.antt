-- A table grows by one state.
use Rattle.std.proofs.Common.{◌≡◌, ℕ, ◌+◌, List, ◌++◌, ◌∷◌, [], map, ap, sym, ◌∙◌, zero-add}
use Rattle.std.specs.List.{range_with_len}
use Rattle.std.proofs.lemmas.List.FromFn.{map-range_with_len_more}
use Rattle.text_base.specs.declared.page_token.PageToken.{PageToken}
use Rattle.tag_sums.specs.Automaton.{Automaton, IsAutomaton}
use Rattle.tag_sums.specs.Sum.{Sum, of_token, sum_of}
use Rattle.tag_sums.proofs.Units.{one_token}

pub table_more : {X : Type 0} (f : ℕ → X) (k : ℕ) (items new : List X) → items ≡ map f (range_with_len 0 k) → new ≡ items ++ f k ∷ [] → new ≡ map f (range_with_len 0 (k + 1))
table_more f k items new h n = n ∙ ap (λ l. l ++ f k ∷ []) h ∙ sym (map-range_with_len_more f 0 k k (zero-add k))

pub sum_of_one : (a : Automaton) → IsAutomaton a → (t : PageToken) (s : Sum) → s ≡ of_token a t → s ≡ sum_of a (t ∷ [])
sum_of_one a h t s e = e ∙ sym (one_token a h t)
