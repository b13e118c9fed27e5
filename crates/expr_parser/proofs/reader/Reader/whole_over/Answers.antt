use Rattle.std.proofs.Common.{◌∷◌, ap}
use Rattle.expr_machine.specs.Machine as machine
use Rattle.expr_machine.specs.Machine.{Move, moves}
use Rattle.expr_parser.specs.Heads.{terminals_of}
use Rattle.expr_parser.proofs.MovedLemmas.{moved}
use Rattle.expr_parser.proofs.reader.Reader.whole_over.Goals as goal

pub returns-in-Middle : goal.returns-in-Middle
returns-in-Middle c = moved c.middle.result _ _ _ (ap (λ f. machine.whole_move (f ∷ c.args.self.now) (terminals_of c.args.rest.now)) c.in-Middle.is) c.middle.ensures

pub returns-in-Parens : goal.returns-in-Parens
returns-in-Parens c = moved c.parens_end.result _ _ _ (ap (λ f. machine.whole_move (f ∷ c.args.self.now) (terminals_of c.args.rest.now)) c.in-Parens.is) c.parens_end.ensures

pub returns-in-Subscript : goal.returns-in-Subscript
returns-in-Subscript c = moved c.subscript_end.result _ _ _ (ap (λ f. machine.whole_move (f ∷ c.args.self.now) (terminals_of c.args.rest.now)) c.in-Subscript.is) c.subscript_end.ensures

pub returns-in-Key : goal.returns-in-Key
returns-in-Key c = moved c.key_end.result _ _ _ (ap (λ f. machine.whole_move (f ∷ c.args.self.now) (terminals_of c.args.rest.now)) c.in-Key.is) c.key_end.ensures

pub returns-in-Isset : goal.returns-in-Isset
returns-in-Isset c = moved c.isset.result _ _ _ (ap (λ f. machine.whole_move (f ∷ c.args.self.now) (terminals_of c.args.rest.now)) c.in-Isset.is) c.isset.ensures

pub returns-in-Empty : goal.returns-in-Empty
returns-in-Empty c = moved c.empty_end.result _ _ _ (ap (λ f. machine.whole_move (f ∷ c.args.self.now) (terminals_of c.args.rest.now)) c.in-Empty.is) c.empty_end.ensures

pub returns-in-Argument : goal.returns-in-Argument
returns-in-Argument c = moved c.argument.result _ _ _ (ap (λ f. machine.whole_move (f ∷ c.args.self.now) (terminals_of c.args.rest.now)) c.in-Argument.is) c.argument.ensures

pub returns-in-Item : goal.returns-in-Item
returns-in-Item c = moved c.item.result _ _ _ (ap (λ f. machine.whole_move (f ∷ c.args.self.now) (terminals_of c.args.rest.now)) c.in-Item.is) c.item.ensures

pub returns-in-KeyedItem : goal.returns-in-KeyedItem
returns-in-KeyedItem c = moved c.item_end.result _ _ _ (ap (λ f. machine.whole_move (f ∷ c.args.self.now) (terminals_of c.args.rest.now)) c.in-KeyedItem.is) c.item_end.ensures

pub returns-in-Assign : goal.returns-in-Assign
returns-in-Assign c = ap (λ f. machine.whole_move (f ∷ c.args.self.now) (terminals_of c.args.rest.now)) c.in-Assign.is

pub returns-in-Update : goal.returns-in-Update
returns-in-Update c = ap (λ f. machine.whole_move (f ∷ c.args.self.now) (terminals_of c.args.rest.now)) c.in-Update.is

pub returns-in-Prefix : goal.returns-in-Prefix
returns-in-Prefix c = ap (λ f. machine.whole_move (f ∷ c.args.self.now) (terminals_of c.args.rest.now)) c.in-Prefix.is

pub returns-in-Operator : goal.returns-in-Operator
returns-in-Operator c = ap (λ f. machine.whole_move (f ∷ c.args.self.now) (terminals_of c.args.rest.now)) c.in-Operator.is

pub returns-in-Join : goal.returns-in-Join
returns-in-Join c = ap (λ f. machine.whole_move (f ∷ c.args.self.now) (terminals_of c.args.rest.now)) c.in-Join.is

pub returns-in-Coalesce : goal.returns-in-Coalesce
returns-in-Coalesce c = ap (λ f. machine.whole_move (f ∷ c.args.self.now) (terminals_of c.args.rest.now)) c.in-Coalesce.is

pub returns-in-ShortChoice : goal.returns-in-ShortChoice
returns-in-ShortChoice c = ap (λ f. machine.whole_move (f ∷ c.args.self.now) (terminals_of c.args.rest.now)) c.in-ShortChoice.is

pub returns-in-FullChoice : goal.returns-in-FullChoice
returns-in-FullChoice c = ap (λ f. machine.whole_move (f ∷ c.args.self.now) (terminals_of c.args.rest.now)) c.in-FullChoice.is
