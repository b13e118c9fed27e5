use Rattle.std.proofs.Common.{◌↔◌, Bool, List, sym, subst}
use Rattle.text_base.specs.declared.numbers.Nt as nt
use Rattle.useful_nonterminals.specs.Follows.{IsMarked}
use Rattle.useful_nonterminals.specs.Useful.{IsUseful}
use Rattle.summary_decision.proofs.DecideLemmas.{empty_is_table}
use Rattle.summary_decision.proofs.deciding.decide.Goals as goal

pub uses_on-requires : goal.uses_on-requires
uses_on-requires g c = subst (λ (xs : List Bool). (a : nt.Nt) → IsMarked xs a.0 ↔ IsUseful c.args.grammar.now.productions.items c.args.grammar.now.start a) (sym c.as_slice.ensures.value) c.in_ok-useful.ensures.exact

pub uses_on-requires-2 : goal.uses_on-requires-2
uses_on-requires-2 g c = subst (λ (xs : List Bool). (a : nt.Nt) → IsMarked xs a.0 ↔ IsUseful c.args.grammar.now.productions.items c.args.grammar.now.start a) (sym c.as_slice-2.ensures.value) c.in_ok-useful.ensures.exact

pub work-ended-requires-clause-table : goal.work-ended-requires-clause-table
work-ended-requires-clause-table g c =
    let t = c.in_ok-table.ensures in
    empty_is_table (g.S.Summary.sum_of c.args.summary.now) (g.S.Summary.composed c.args.summary.now) (g.S.Summary.is_whole c.args.summary.now) c.args.grammar.now.productions.items c.args.grammar.now.start c.args.grammar.now.count c.in_ok-table.table t.entries t.joins t.joined t.nodes t.len t.zero t.height t.bound

pub work-ended-requires-clause-useful : goal.work-ended-requires-clause-useful
work-ended-requires-clause-useful g c = subst (λ (xs : List Bool). (a : nt.Nt) → IsMarked xs a.0 ↔ IsUseful c.args.grammar.now.productions.items c.args.grammar.now.start a) (sym c.as_slice-3.ensures.value) c.in_ok-useful.ensures.exact
