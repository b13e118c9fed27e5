use Rattle.command_words.proofs.Asks.{same_asked, never_both, canonical_asks}
use Rattle.command_words.proofs.laws.words_ask_once.Goals as goal

pub returns-clause-once : goal.returns-clause-once
returns-clause-once c = same_asked

pub returns-clause-apart : goal.returns-clause-apart
returns-clause-apart c = never_both

pub returns-clause-canonical : goal.returns-clause-canonical
returns-clause-canonical c = canonical_asks
