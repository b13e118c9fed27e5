use Rattle.std.proofs.Common.{refl, inr}
use Rattle.std.proofs.lemmas.Bool.{false≢true}
use Rattle.serde_json.specs.View.{view}
use Rattle.std.specs.Prelude.{Some}
use Rattle.request_reading.proofs.ParsedLemmas.{parsed-utf8, parsed-refused}
use Rattle.request_reading.proofs.parsing.parse.Goals as goal

pub returns-in-Ok-clause-ok : goal.returns-in-Ok-clause-ok
returns-in-Ok-clause-ok c = parsed-utf8 c.args.file.now (Some (view c.in-Ok.value)) c.in-Ok.ensures.ok.0 c.in-Ok.ensures.ok.1

pub returns-else-is_memory-clause-err : goal.returns-else-is_memory-clause-err
returns-else-is_memory-clause-err c = inr (refl, parsed-refused c.args.file.now (c.in-Err.ensures.err (λ m. false≢true (c.if-is_memory.ensures.1 m))))
