use Rattle.script_decision.specs.Searches.{large_image}
use Rattle.script_decision.proofs.pages.decide_first.Goals as goal

pub returns-in-Err-Large-clause-searched : goal.returns-in-Err-Large-clause-searched
returns-in-Err-Large-clause-searched g c e = large_image c.in-Err-Large.items (rw c.in-Err-Large.field-0-is at c.in-Err-Large.ensures.cause)
