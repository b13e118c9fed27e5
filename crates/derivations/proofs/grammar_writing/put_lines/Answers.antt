use Rattle.std.proofs.Common.{◌≡◌, ◌∙◌, ◌+◌, ◌++◌, List, ℕ, Err, rules, drop, subst, sym, ap}
use Rattle.std.specs.Prelude.{OnErr}
use Rattle.std.proofs.lemmas.List.{at_drop_more}
use Rattle.std.specs.Io.KnownBytes.{Appends}
use Rattle.io_edge.specs.Taken.{AppendsPrefix}
use Rattle.derivations.specs.Text.{line_text, grammar_text}
use Rattle.derivations.proofs.GrammarWriteLemmas.{part_more, in_part}
use Rattle.derivations.proofs.grammar_writing.put_lines.Goals as goal

pub returns-in_err-put-clause-err : goal.returns-in_err-put-clause-err
returns-in_err-put-clause-err g c =
    let written = g.S.Sink.written in
    let start = c.args.start in
    let ps = c.args.productions.now in
    let i = c.loop-production.production-index in
    let p = c.production-item.result in
    let next : grammar_text start (drop i ps) ≡ line_text start p ++ grammar_text start (drop (i + 1) ps) =
    at_drop_more (grammar_text start) ps i p c.loop-production-test.true ∙ ap (λ q. line_text start q ++ grammar_text start (drop (i + 1) ps)) (sym c.production-item.is) in
    let is : c.from_residual.result ≡ Err c.in_err-put.field-0.0 = search rules in
    subst (λ r. OnErr r (AppendsPrefix (written c.args.sink.now) (written c.put.new.self) (grammar_text start ps))) (sym is)
    (in_part _ (written c.loop-production.sink) _ (grammar_text start ps) (grammar_text start (drop i ps)) (grammar_text start (drop (i + 1) ps)) _ c.loop-production.invariant.so_far
    (subst (λ (v : List ℕ). AppendsPrefix (written c.loop-production.sink) (written c.put.new.self) v) (c.as_slice.ensures.value ∙ c.line_of-line.ensures) c.in_err-put.ensures.err)
    next)

pub loop-production-preserved : goal.loop-production-preserved
loop-production-preserved g c =
    let written = g.S.Sink.written in
    let start = c.args.start in
    let ps = c.args.productions.now in
    let i = c.loop-production.production-index in
    let p = c.production-item.result in
    let next : grammar_text start (drop i ps) ≡ line_text start p ++ grammar_text start (drop (i + 1) ps) =
    at_drop_more (grammar_text start) ps i p c.loop-production-test.true ∙ ap (λ q. line_text start q ++ grammar_text start (drop (i + 1) ps)) (sym c.production-item.is) in
    record {
      so_far = part_more _ (written c.loop-production.sink) _ (grammar_text start ps) (grammar_text start (drop i ps)) (grammar_text start (drop (i + 1) ps)) _ c.loop-production.invariant.so_far
          (subst (λ (v : List ℕ). Appends (written c.loop-production.sink) (written c.put.new.self) v) (c.as_slice.ensures.value ∙ c.line_of-line.ensures) c.in_ok-put.ensures.ok)
          next;
      faults = c.in_ok-put.ensures.unfailed (λ e. cc) ∙ c.loop-production.invariant.faults;
    }
