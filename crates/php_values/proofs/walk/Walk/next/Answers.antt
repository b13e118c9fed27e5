use Rattle.std.proofs.Common.{◌≡◌, ◌+◌, get_or, ◌≤◌, ◌<◌, length, sym, ◌∙◌, ap, arith}
use Rattle.plain_values.specs.Plain.{Pairs, empty, pair}
use Rattle.plain_values.specs.Walks.{behind}
use Rattle.php_values.specs.View.{plain_of, plain_key, pairs_of}
use Rattle.php_values.specs.declared.key.Key.{Key}
use Rattle.php_values.specs.declared.array.Value.{Value}
use Rattle.php_values.proofs.WalkLemmas.{behind_all, behind_next}
use Rattle.php_values.proofs.walk.Walk.next.Goals as goal

pub returns-then-self-pairs-clause-none : goal.returns-then-self-pairs-clause-none
returns-then-self-pairs-clause-none c =
    let over : length c.pairs-pairs.result.now ≤ c.self.inside.at = omega arith in
    let none : c.args.self.now ≡ empty = sym c.self.view_is ∙ ap (behind c.self.inside.at) (sym c.pairs-pairs.ensures.pairs) ∙ behind_all c.pairs-pairs.result.now c.self.inside.at over in
    (none, none)

pub returns-clause-some : goal.returns-clause-some
returns-clause-some c =
    let within : c.self.inside.at < length c.pairs-pairs.result.now = omega arith in
    let at : c.args.self.now ≡ behind c.self.inside.at (pairs_of c.pairs-pairs.result.now) = sym c.self.view_is ∙ ap (behind c.self.inside.at) (sym c.pairs-pairs.ensures.pairs) in
    let key_is : (get_or c.pairs-pairs.result.now c.self.inside.at c.index-pairs-self.result).0 ≡ c.in_ok-key.key = ap (λ (p : Key × Value). p.0) (sym c.index-pairs-self.is) ∙ sym c.in_ok-key.ensures in
    let value_is : (get_or c.pairs-pairs.result.now c.self.inside.at c.index-pairs-self.result).1 ≡ c.in_ok-value.value = ap (λ (p : Key × Value). p.1) (sym c.index-pairs-self.is) ∙ sym c.in_ok-value.ensures in
    at
    ∙ behind_next c.pairs-pairs.result.now c.self.inside.at c.index-pairs-self.result within
    ∙ ap (λ (k : Key). pair (plain_key k) (plain_of (get_or c.pairs-pairs.result.now c.self.inside.at c.index-pairs-self.result).1) (behind (c.self.inside.at + 1) (pairs_of c.pairs-pairs.result.now))) key_is
    ∙ ap (λ (v : Value). pair (plain_key c.in_ok-key.key) (plain_of v) (behind (c.self.inside.at + 1) (pairs_of c.pairs-pairs.result.now))) value_is
    ∙ ap (λ (ps : Pairs). pair (plain_key c.in_ok-key.key) (plain_of c.in_ok-value.value) (behind (c.self.inside.at + 1) ps)) c.pairs-pairs.ensures.pairs
