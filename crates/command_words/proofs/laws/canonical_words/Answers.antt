use Rattle.command_words.proofs.Asking.{canonical_taken, canonical_asked, canonical_first}
use Rattle.command_words.proofs.laws.canonical_words.Goals as goal

pub returns-clause-taken : goal.returns-clause-taken
returns-clause-taken c = canonical_taken

pub returns-clause-asked : goal.returns-clause-asked
returns-clause-asked c = canonical_asked

pub returns-clause-first : goal.returns-clause-first
returns-clause-first c = canonical_first
