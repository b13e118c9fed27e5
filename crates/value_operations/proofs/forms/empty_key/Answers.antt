use Rattle.std.proofs.Common.{◌≡◌, List, ℕ, subst}
use Rattle.std.specs.Prelude.{IfOk}
use Rattle.plain_values.specs.Plain.{PlainKey}
use Rattle.plain_values.specs.Keys as keys
use Rattle.plain_values.proofs.CanonicalLemmas.{empty_key}
use Rattle.php_values.specs.View.{plain_key}
use Rattle.value_operations.proofs.forms.empty_key.Goals as goal

pub returns : goal.returns
returns c =
    subst (λ (k : PlainKey). IfOk c.key_of_text.result (λ key. plain_key key ≡ k)) empty_key
    (subst (λ (t : List ℕ). IfOk c.key_of_text.result (λ key. plain_key key ≡ keys.canonical_key t (keys.canonical_integer t))) c.in_ok-text.ensures c.key_of_text.ensures)
