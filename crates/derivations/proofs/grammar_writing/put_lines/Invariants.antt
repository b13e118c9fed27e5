use Rattle.std.proofs.Common.{◌≡◌, drop}
use Rattle.derivations.specs.Text.{grammar_text}
use Rattle.derivations.proofs.GrammarWriteLemmas.{SoFar}
use Rattle.derivations.proofs.grammar_writing.put_lines.Given as goal

abbrev pub invariant-loop-production : goal.invariant-loop-production
invariant-loop-production g l =
    record {
      so_far : SoFar (g.S.Sink.written l.fn.sink) (g.S.Sink.written l.sink) (grammar_text l.start l.productions) (grammar_text l.start (drop l.production-index l.productions));
      faults : g.S.Sink.faults l.sink ≡ g.S.Sink.faults l.fn.sink;
    }
