use Rattle.useful_nonterminals.proofs.DrawLemmas.{noted_more, listed_more, keeps_push}
use Rattle.useful_nonterminals.proofs.drawing.mark.Goals as goal

pub returns-clause-noted : goal.returns-clause-noted
returns-clause-noted c = noted_more c.args.marks.now.items c.args.order.now.items c.push.new.self.items c.args.n c.requires.below c.requires.noted c.in_ok-push.ensures.items

pub returns-clause-keeps : goal.returns-clause-keeps
returns-clause-keeps c = keeps_push c.args.order.now.items c.push.new.self.items c.args.n c.in_ok-push.ensures.items

pub returns-clause-listed : goal.returns-clause-listed
returns-clause-listed c = listed_more c.args.order.now.items c.push.new.self.items c.args.n c.in_ok-push.ensures.items
