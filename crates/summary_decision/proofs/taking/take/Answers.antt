use Rattle.std.proofs.Common.{◌≡◌, ◌∙◌, ℕ, Some, slice_get, subst, arith}
use Rattle.summary_decision.specs.Tables.{known}
use Rattle.summary_decision.proofs.TakeLemmas.{here_is, pair_below, count_more, chains_more, takes_all}
use Rattle.summary_decision.proofs.taking.take.Goals as goal

pub nonterminal_of-nonterminal-requires : goal.nonterminal_of-nonterminal-requires
nonterminal_of-nonterminal-requires g c = record { numbered = c.requires.up.table.numbered; within = omega (arith, c.count-pair.ensures, c.requires.more, c.requires.up.table.bounded) }

pub sum_of_pair-requires : goal.sum_of_pair-requires
sum_of_pair-requires g c = record { numbered = c.requires.up.table.numbered; within = omega (arith, c.count-pair.ensures, c.requires.more, c.requires.up.table.bounded) }

pub take_side-requires : goal.take_side-requires
take_side-requires g c =
    let q = c.args.question.now in
    let t = c.args.table.now in
    let n = c.count-pair.result in
    let sum : (x : ℕ × g.row.S-Sum.Denot) → slice_get (known t) n ≡ Some x → c.in_ok-sum.sum ≡ x.1 = λ x at. c.in_ok-sum.ensures ∙ c.sum_of_pair.ensures x at in
    let here = here_is (g.S.Summary.sum_of q.summary.now) (g.S.Summary.composed q.summary.now) (g.S.Summary.is_whole q.summary.now) q.grammar.now.productions.items q.grammar.now.start q.grammar.now.count (known t) n (omega (arith, c.count-pair.ensures, c.requires.more, c.requires.up.table.bounded)) c.nonterminal_of-nonterminal.result c.in_ok-sum.sum c.nonterminal_of-nonterminal.ensures sum in
    let below = pair_below (g.S.Summary.sum_of q.summary.now) (g.S.Summary.composed q.summary.now) (g.S.Summary.is_whole q.summary.now) q.grammar.now.productions.items q.grammar.now.start q.grammar.now.count q.grammar.now.below t c.requires.up.table n (c.nonterminal_of-nonterminal.result, c.in_ok-sum.sum) here in
    record {
      table = c.requires.up.table;
      here = here;
      before = omega (arith, c.count-pair.ensures, c.requires.more);
      below = below;
      uses = c.requires.seconds;
      taken = c.requires.up.chains;
      spread = c.requires.up.spread;
      within = c.requires.up.within;
    }

pub push-requires : goal.push-requires
push-requires g c =
    let q = c.args.question.now in
    let t = c.args.table.now in
    let n = c.count-pair.result in
    let sum : (x : ℕ × g.row.S-Sum.Denot) → slice_get (known t) n ≡ Some x → c.in_ok-sum.sum ≡ x.1 = λ x at. c.in_ok-sum.ensures ∙ c.sum_of_pair.ensures x at in
    let here = here_is (g.S.Summary.sum_of q.summary.now) (g.S.Summary.composed q.summary.now) (g.S.Summary.is_whole q.summary.now) q.grammar.now.productions.items q.grammar.now.start q.grammar.now.count (known t) n (omega (arith, c.count-pair.ensures, c.requires.more, c.requires.up.table.bounded)) c.nonterminal_of-nonterminal.result c.in_ok-sum.sum c.nonterminal_of-nonterminal.ensures sum in
    let below = pair_below (g.S.Summary.sum_of q.summary.now) (g.S.Summary.composed q.summary.now) (g.S.Summary.is_whole q.summary.now) q.grammar.now.productions.items q.grammar.now.start q.grammar.now.count q.grammar.now.below t c.requires.up.table n (c.nonterminal_of-nonterminal.result, c.in_ok-sum.sum) here in
    omega (arith, below, c.requires.up.spread)

pub take_side-requires-2 : goal.take_side-requires-2
take_side-requires-2 g c =
    let q = c.args.question.now in
    let t = c.args.table.now in
    let n = c.count-pair.result in
    let sum : (x : ℕ × g.row.S-Sum.Denot) → slice_get (known t) n ≡ Some x → c.in_ok-sum.sum ≡ x.1 = λ x at. c.in_ok-sum.ensures ∙ c.sum_of_pair.ensures x at in
    let here = here_is (g.S.Summary.sum_of q.summary.now) (g.S.Summary.composed q.summary.now) (g.S.Summary.is_whole q.summary.now) q.grammar.now.productions.items q.grammar.now.start q.grammar.now.count (known t) n (omega (arith, c.count-pair.ensures, c.requires.more, c.requires.up.table.bounded)) c.nonterminal_of-nonterminal.result c.in_ok-sum.sum c.nonterminal_of-nonterminal.ensures sum in
    let below = pair_below (g.S.Summary.sum_of q.summary.now) (g.S.Summary.composed q.summary.now) (g.S.Summary.is_whole q.summary.now) q.grammar.now.productions.items q.grammar.now.start q.grammar.now.count q.grammar.now.below t c.requires.up.table n (c.nonterminal_of-nonterminal.result, c.in_ok-sum.sum) here in
    let goes = c.in_ok-take_side.ensures.ok.goes in
    let pushed = c.in_ok-push.ensures in
    let after = record c.args.taken.now { chains = c.push.new.self } in
    let one = count_more (g.S.Summary.sum_of q.summary.now) (g.S.Summary.composed q.summary.now) (g.S.Summary.is_whole q.summary.now) q.grammar.now.productions.items q.grammar.now.start q.grammar.now.count c.args.taken.now after c.nonterminal_of-nonterminal.result pushed.chains (known t) c.requires.up.chains in
    record {
      table = goes.table;
      here = goes.keeps n (c.nonterminal_of-nonterminal.result, c.in_ok-sum.sum) here;
      before = omega (arith, c.count-pair.ensures, c.requires.more, goes.bound);
      below = below;
      uses = c.requires.firsts;
      taken = chains_more (g.S.Summary.sum_of q.summary.now) (g.S.Summary.composed q.summary.now) (g.S.Summary.is_whole q.summary.now) q.grammar.now.productions.items q.grammar.now.start q.grammar.now.count c.args.taken.now after c.nonterminal_of-nonterminal.result pushed.chains t c.take_side.new.table c.in_ok-sum.sum c.requires.up goes (subst (λ (k : ℕ). slice_get (known t) k ≡ Some (c.nonterminal_of-nonterminal.result, c.in_ok-sum.sum)) c.count-pair.ensures here);
      spread = pushed.len ∙ c.requires.up.spread;
      within = omega (arith, c.requires.more, goes.bound, one);
    }

pub returns-clause-ok : goal.returns-clause-ok
returns-clause-ok g c =
    let q = c.args.question.now in
    let t = c.args.table.now in
    let n = c.count-pair.result in
    let sum : (x : ℕ × g.row.S-Sum.Denot) → slice_get (known t) n ≡ Some x → c.in_ok-sum.sum ≡ x.1 = λ x at. c.in_ok-sum.ensures ∙ c.sum_of_pair.ensures x at in
    let here = here_is (g.S.Summary.sum_of q.summary.now) (g.S.Summary.composed q.summary.now) (g.S.Summary.is_whole q.summary.now) q.grammar.now.productions.items q.grammar.now.start q.grammar.now.count (known t) n (omega (arith, c.count-pair.ensures, c.requires.more, c.requires.up.table.bounded)) c.nonterminal_of-nonterminal.result c.in_ok-sum.sum c.nonterminal_of-nonterminal.ensures sum in
    let below = pair_below (g.S.Summary.sum_of q.summary.now) (g.S.Summary.composed q.summary.now) (g.S.Summary.is_whole q.summary.now) q.grammar.now.productions.items q.grammar.now.start q.grammar.now.count q.grammar.now.below t c.requires.up.table n (c.nonterminal_of-nonterminal.result, c.in_ok-sum.sum) here in
    let pushed = c.in_ok-push.ensures in
    let after = record c.args.taken.now { chains = c.push.new.self } in
    takes_all (g.S.Summary.sum_of q.summary.now) (g.S.Summary.composed q.summary.now) (g.S.Summary.is_whole q.summary.now) q.grammar.now.productions.items q.grammar.now.start q.grammar.now.count c.args.taken.now after c.nonterminal_of-nonterminal.result pushed.chains t c.take_side.new.table c.take_side-2.new.table c.in_ok-sum.sum pushed.len c.requires.up c.requires.more
    (subst (λ (k : ℕ). slice_get (known t) k ≡ Some (c.nonterminal_of-nonterminal.result, c.in_ok-sum.sum)) c.count-pair.ensures here) c.in_ok-take_side.ensures.ok c.in_ok-take_side-2.ensures.ok
