use Rattle.std.proofs.Common.{◌<◌, length, sym}
use Rattle.std.proofs.lemmas.List.Elements.{All-contains}
use Rattle.std.proofs.lemmas.Result.{on_ok_weaker}
use Rattle.op_bytes.specs.declared.uses.Use.{Use}
use Rattle.op_bytes.proofs.ListLemmas.{contained}
use Rattle.op_bytes.proofs.GrowLemmas.{use_none, use_some}
use Rattle.op_bytes.proofs.passing.pass_use.Goals as goal

pub grow-requires : goal.grow-requires
grow-requires c = All-contains (λ (u : Use). u.to < length c.args.sets.now.items) c.args.uses.now c.in-Some.found c.requires (contained c.args.uses.now c.args.place c.in-Some.found (sym c.in-Some.ensures))

pub returns-in_default : goal.returns-in_default
returns-in_default c = use_none c.args.sets.now.items c.args.order.now.items c.args.uses.now c.args.place c.args.own.now (sym c.in_default.ensures)

pub returns : goal.returns
returns c =
    on_ok_weaker c.grow.result (use_some c.args.sets.now.items c.grow.new.sets.items c.args.order.now.items c.grow.new.order.items c.args.uses.now c.args.place c.args.own.now c.in-Some.found (sym c.in-Some.ensures)) c.grow.ensures
