use Rattle.std.proofs.Common.{◌∙◌, sym}
use Rattle.function_rules.proofs.TableLemmas.{take_one}
use Rattle.function_rules.proofs.stubs.take.Goals as goal

pub returns-in_ok-push : goal.returns-in_ok-push
returns-in_ok-push c own table = take_one own c.args.stubs.now.items c.push.new.self.items c.args.function c.in_ok-push.ensures.items (sym (c.is_new.ensures own table) ∙ c.if-is_new.true)
