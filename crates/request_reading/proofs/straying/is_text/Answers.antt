use Rattle.std.proofs.Common.{subst, ◌↔◌}
use Rattle.request_reading.proofs.TextLemmas.{text_test}
use Rattle.xml_text.specs.Texts.{IsText}
use Rattle.std.specs.Prelude.{IsTrue}
use Rattle.request_reading.proofs.straying.is_text.Goals as goal

pub returns : goal.returns
returns c = text_test c.is_text.result c.args.text.now (subst (λ t. IsTrue c.is_text.result ↔ IsText t) c.as_bytes.ensures.value c.is_text.ensures)
