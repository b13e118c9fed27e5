use Rattle.std.proofs.Common.{◌∙◌, get_or, subst}
use Rattle.page_lexer.specs.Numbered.{IsStep}
use Rattle.page_lexer.proofs.Over.{at_next, is_met}
use Rattle.page_lexer.proofs.numbered.NumberedReader.tokens.Goals as goal

pub loop-byte-preserved : goal.loop-byte-preserved
loop-byte-preserved g c =
    let so = c.loop-byte.invariant in
    let r = c.args.self.now.reader in
    record {
      same = c.step.ensures.reader ∙ so.same;
      keeps = λ n x h. c.step.ensures.keeps n x (so.keeps n x h);
      known = λ n b s k. c.step.ensures.known n b s (so.known n b s k);
      goes = at_next (g.R.ByteReader.next r) (g.R.ByteReader.puts r) (g.R.ByteReader.lasts r) (g.R.ByteReader.first r) c.args.text.now _ _ c.loop-byte.state.0 c.loop-byte.byte-index 0 c.in_ok-step.step
          c.loop-byte.tokens.items c.push_emit.new.tokens.items so.goes c.loop-byte-test.true
          (λ s at. subst (λ (q : _). IsStep (g.R.ByteReader.next q) (g.R.ByteReader.puts q) c.step.new.self.states.keys s (get_or c.args.text.now c.loop-byte.byte-index 0) c.in_ok-step.step) so.same (c.in_ok-step.ensures.step s at)) c.in_ok-push_emit.ensures;
    }

pub end-requires : goal.end-requires
end-requires g c = is_met _ _ _ _ _ _ _ _ _ c.loop-byte.invariant.goes
