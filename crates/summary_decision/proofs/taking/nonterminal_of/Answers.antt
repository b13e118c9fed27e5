use Rattle.summary_decision.proofs.TakeLemmas.{entry_pair, entry_there}
use Rattle.summary_decision.proofs.taking.nonterminal_of.Goals as goal

pub unreachable-requires : goal.unreachable-requires
unreachable-requires g c = entry_there c.args.table.now c.requires.numbered c.args.pair c.requires.within c.in_default.ensures.key

pub returns : goal.returns
returns g c = entry_pair c.args.table.now c.requires.numbered c.args.pair c.in-Some.entry.now c.in-Some.ensures.key
