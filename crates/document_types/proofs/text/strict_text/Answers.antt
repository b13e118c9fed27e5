use Rattle.std.proofs.Common.{◌≡◌, ◌∙◌, ◌++◌, ℕ, List, ap}
use Rattle.document_types.specs.Strict.{strict_bytes}
use Rattle.document_types.proofs.text.strict_text.Goals as goal

joined : {a b x y z : List ℕ} → z ≡ a ++ b → a ≡ x → b ≡ y → z ≡ x ++ y
joined {b = b} {x = x} e f g = e ∙ ap (λ (t : List ℕ). t ++ b) f ∙ ap (λ (t : List ℕ). x ++ t) g

pub returns : goal.returns
unfolding strict_bytes
returns c = joined c.in_ok-append.ensures.ok (c.in_ok-text.ensures ∙ c.as_bytes.ensures.value) c.as_bytes-2.ensures.value
