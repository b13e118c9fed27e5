use Rattle.std.proofs.Common.{◌≡◌, length, All}
use Rattle.short_sentences.proofs.finding.zeros.Given as goal

abbrev pub invariant-loop : goal.invariant-loop
invariant-loop l = record { len : length l.counts.items ≡ l.counter; zero : All (λ n. n ≡ 0) l.counts.items }
