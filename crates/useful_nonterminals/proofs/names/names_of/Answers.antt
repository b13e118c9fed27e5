use Rattle.std.proofs.Common.{◌∙◌, ◌+◌, ap, length}
use Rattle.useful_nonterminals.proofs.NamingLemmas.{longer, names_more, few_more}
use Rattle.useful_nonterminals.proofs.names.names_of.Goals as goal

pub loop-number-preserved : goal.loop-number-preserved
loop-number-preserved c =
    let was = c.loop-number.invariant in
    record {
      naming = names_more _ _ c.loop-number.number _ _ _ _ c.stays-stays.result c.name.result was.naming was.all c.stays-stays.ensures c.name.ensures c.more-count.ensures c.in_ok-push.ensures.items;
      all = ap (λ ns. length ns) c.in_ok-push.ensures.items ∙ longer c.loop-number.names.items c.name.result ∙ ap (λ n. n + 1) was.all;
      few = few_more c.stays-stays.result c.loop-number.count _ c.loop-number.number was.few c.more-count.ensures;
    }
