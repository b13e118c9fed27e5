use Rattle.segment_summary.specs.Parts.{automaton_of, is_lawful}
use Rattle.segment_summary.proofs.RowLemmas.{sum_of_one}
use Rattle.segment_summary.proofs.summary.SegmentsSummary.of_token.Goals as goal

pub returns : goal.returns
returns c = sum_of_one (automaton_of c.args.self.now) (is_lawful c.args.self.now) _ _ c.in_ok-sum.ensures
