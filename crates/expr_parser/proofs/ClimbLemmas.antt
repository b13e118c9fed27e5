-- Past a level of operators that neither the last thing begun nor the next sign is of.
use Rattle.std.proofs.Common.{◌≡◌, ◌≢◌, ◌≤◌, ◌<◌, false, List, [], refl, ap, sym, subst, ◌∙◌, arith}
use Rattle.std.specs.Prelude.{Option, Some, None}
use Rattle.std.specs.Option.{is_some}
use Rattle.script_grammar.specs.declared.operator.Level.{Level}
use Rattle.script_grammar.specs.declared.operator.Level.TheVariants as level
use Rattle.script_grammar.specs.Operators.{level_rank}
use Rattle.script_grammar.specs.Terminals.{Terminal}
use Rattle.expr_machine.specs.declared.frame.Focus.{Focus}
use Rattle.expr_machine.specs.declared.frame.Focus.TheVariants as focus
use Rattle.expr_machine.specs.declared.frame.Frame.{Frame}
use Rattle.expr_machine.specs.Machine.{move, looser, wanted_rank, operator_next, chain_move}
use Rattle.expr_machine.specs.Values.{PlainValue, execute}
use Rattle.expr_machine.specs.Reading.{weight, reads_on, reads_next}
use Rattle.expr_parser.specs.Leads.{Leads}
use Rattle.expr_parser.proofs.FrameLemmas.{level_chain}

looser_reads : ((f : Focus) (fs : List Frame) (ts : List Terminal) (vs : List PlainValue) → reads_on f fs ts vs ≡ reads_next ts vs (move f fs ts)) → (l : Level) (fs : List Frame) (ts : List Terminal) → wanted_rank fs ≢ level_rank l → operator_next l ts ≡ None → (vs : List PlainValue) → reads_on (focus.Operand l) fs ts vs ≡ reads_on (looser l) fs ts vs
unfolding move execute
looser_reads go l fs ts h n vs = go (focus.Operand l) fs ts vs ∙ ap (reads_next ts vs) (level_chain l fs ts h ∙ ap (λ o. chain_move o l fs ts) n)

looser_falls : (l : Level) (fs : List Frame) (ts : List Terminal) → weight (looser l) fs ts ≤ weight (focus.Operand l) fs ts
looser_falls level.Product fs ts = omega arith
looser_falls level.Sum fs ts = omega arith
looser_falls level.Join fs ts = omega arith
looser_falls level.Order fs ts = omega arith
looser_falls level.Equality fs ts = omega arith
looser_falls level.And fs ts = omega arith
looser_falls level.Or fs ts = omega arith

pub leads_here : (f : Focus) (fs : List Frame) (ts : List Terminal) → Leads f f fs ts
leads_here f fs ts = ((λ vs. refl), omega arith)

-- one level further
pub leads_looser : ((f : Focus) (fs : List Frame) (ts : List Terminal) (vs : List PlainValue) → reads_on f fs ts vs ≡ reads_next ts vs (move f fs ts)) → (f : Focus) (l : Level) (g : Focus) (fs : List Frame) (ts : List Terminal) → Leads f (focus.Operand l) fs ts → wanted_rank fs ≢ level_rank l → operator_next l ts ≡ None → g ≡ looser l → Leads f g fs ts
leads_looser go f l g fs ts h w n e =
    let falls = looser_falls l fs ts in
    rw e ((λ vs. h.0 vs ∙ looser_reads go l fs ts w n vs), omega (arith, falls, h.1))

looser_strict : (l : Level) → weight (looser l) [] [] < weight (focus.Operand l) [] []
looser_strict level.Product = omega arith
looser_strict level.Sum = omega arith
looser_strict level.Join = omega arith
looser_strict level.Order = omega arith
looser_strict level.Equality = omega arith
looser_strict level.And = omega arith
looser_strict level.Or = omega arith

pub falls : (l m : Level) → focus.Operand m ≡ looser l → weight (focus.Operand m) [] [] < weight (focus.Operand l) [] []
falls l m e = subst (λ f. weight f [] [] < weight (focus.Operand l) [] []) (sym e) (looser_strict l)

pub none_of : {A : Type 0} (x : Option A) → is_some x ≡ false → x ≡ None
none_of None e = refl
none_of (Some a) e = absurd (cc)
