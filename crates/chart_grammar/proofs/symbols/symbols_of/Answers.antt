use Rattle.std.proofs.Common.{inl, inr, true, false, ◌∙◌, sym, refl}
use Rattle.std.proofs.lemmas.Bool.{not-false, true≢false}
use Rattle.chart_grammar.proofs.OutLemmas.{symbols_more, symbols_all}
use Rattle.chart_grammar.proofs.symbols.symbols_of.Goals as goal
use Rattle.chart_grammar.proofs.symbols.symbols_of.Goals.{then-is_dependent+else-depends, else-depends-via-then-depends+else-range, else-depends-via-else-depends, else-is_dependent}

pub loop-one-preserved : goal.loop-one-preserved
loop-one-preserved c =
    elim c.if-is_dependent.branch [
      | then-is_dependent+else-depends w ↦
          elim w.else-depends.branch [
            | else-depends-via-then-depends+else-range v ↦
                symbols_more c.args.range c.args.out.now c.loop-one.one-index _ _ c.loop-one.symbols.items c.push.new.self.items c.in-Some.symbol c.loop-one.depends c.if-is_dependent.depends c.loop-one-test.true refl c.loop-one.invariant c.in-Some.ensures.puts c.in_ok-push-in-Some.ensures.items
                (inr (inr v.if-range.false)) (λ f. absurd (true≢false (sym w.depends-is ∙ f)))
            | else-depends-via-else-depends v ↦
                symbols_more c.args.range c.args.out.now c.loop-one.one-index _ _ c.loop-one.symbols.items c.push.new.self.items c.in-Some.symbol c.loop-one.depends c.if-is_dependent.depends c.loop-one-test.true refl c.loop-one.invariant c.in-Some.ensures.puts c.in_ok-push-in-Some.ensures.items
                (inr (inl v.if-depends.false)) (λ f. absurd (true≢false (sym w.depends-is ∙ f)))
          ]
      | else-is_dependent w ↦
          let is = not-false _ (sym c.is_dependent.ensures ∙ w.if-is_dependent.false) in
          symbols_more c.args.range c.args.out.now c.loop-one.one-index _ _ c.loop-one.symbols.items c.push.new.self.items c.in-Some.symbol c.loop-one.depends c.if-is_dependent.depends c.loop-one-test.true refl c.loop-one.invariant c.in-Some.ensures.puts c.in_ok-push-in-Some.ensures.items
          (inl is) (λ f. (sym w.depends-is ∙ f, is))
    ]

pub returns-clause-puts : goal.returns-clause-puts
returns-clause-puts c = symbols_all c.args.range c.args.out.now c.loop-one.one-index c.loop-one.symbols.items c.loop-one.depends c.loop-one-test.false c.loop-one.invariant
