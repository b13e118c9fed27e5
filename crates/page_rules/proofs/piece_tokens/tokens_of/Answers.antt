use Rattle.dtd_model.specs.TableOf.{table_of}
use Rattle.page_rules.proofs.piece_tokens.tokens_of.Goals as goal

pub returns-in-End : goal.returns-in-End
returns-in-End c = rw c.in-End.is (c.end_taken.ensures c.in-End.field-1.now)

pub returns-in-Character : goal.returns-in-Character
returns-in-Character c = rw c.in-Character.is (c.character_taken.ensures (table_of c.args.indexed.now.dtd.now))
