use Rattle.std.proofs.Common.{◌↔◌, Bool, List, [], sym, subst, arith}
use Rattle.std.proofs.lemmas.List.Elements.{All-nil}
use Rattle.text_base.specs.declared.numbers.Nt as nt
use Rattle.useful_nonterminals.specs.Follows.{IsMarked}
use Rattle.useful_nonterminals.specs.Useful.{IsUseful}
use Rattle.short_sentences.proofs.RunLemmas.{empty_is_table}
use Rattle.short_sentences.proofs.finding.find_shortest.Goals as goal

pub uses_on-requires : goal.uses_on-requires
uses_on-requires g c = subst (λ (xs : List Bool). (a : nt.Nt) → IsMarked xs a.0 ↔ IsUseful c.args.grammar.now.productions.items c.args.grammar.now.start a) (sym c.as_slice.ensures.value) c.in_ok-useful.ensures.exact

pub uses_on-requires-2 : goal.uses_on-requires-2
uses_on-requires-2 g c = subst (λ (xs : List Bool). (a : nt.Nt) → IsMarked xs a.0 ↔ IsUseful c.args.grammar.now.productions.items c.args.grammar.now.start a) (sym c.as_slice-2.ensures.value) c.in_ok-useful.ensures.exact

pub work-ended-requires-clause-table : goal.work-ended-requires-clause-table
work-ended-requires-clause-table g c =
    let t = c.empty_table-table.ensures in
    let k = c.in_ok-taken.ensures in
    empty_is_table (g.S.Summary.sum_of c.args.summary.now) (g.S.Summary.composed c.args.summary.now) (g.S.Summary.is_whole c.args.summary.now) c.args.grammar.now.productions.items c.args.grammar.now.start c.args.grammar.now.count c.empty_table-table.result c.in_ok-taken.taken t.found t.joins t.joined t.drafts k.entries k.nodes k.len k.zero k.first

pub work-ended-requires-clause-useful : goal.work-ended-requires-clause-useful
work-ended-requires-clause-useful g c = subst (λ (xs : List Bool). (a : nt.Nt) → IsMarked xs a.0 ↔ IsUseful c.args.grammar.now.productions.items c.args.grammar.now.start a) (sym c.as_slice-3.ensures.value) c.in_ok-useful.ensures.exact

pub work-ended-requires-clause-chains : goal.work-ended-requires-clause-chains
work-ended-requires-clause-chains g c = c.in_ok-widen.ensures.chains [] (All-nil _) c.new-chains.ensures.chains

pub work-ended-requires-clause-spread : goal.work-ended-requires-clause-spread
work-ended-requires-clause-spread g c = omega (arith, c.in_ok-widen.ensures.len, c.new-chains.ensures.len)
