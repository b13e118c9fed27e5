use Rattle.std.proofs.Common.{◌≡◌, ◌++◌, ◌∷◌, [], Bool, true, false, List, refl, ap, ◌∙◌, inr}
use Rattle.std.specs.Prelude.{if◌then◌else◌}
use Rattle.cfg_grammar.specs.declared.production.Right.{Right}
use Rattle.cfg_grammar.specs.declared.production.Production.{Production}
use Rattle.grammar_chart.proofs.AddingLemmas.{contains_at}
use Rattle.chart_grammar.specs.declared.saying.Said.{Said}
use Rattle.chart_grammar.specs.Saying.{production_of}
use Rattle.chart_grammar.proofs.saying.say.Goals as goal

pub returns : goal.returns
returns c =
    let s : Said = record { left = c.args.left; behind = c.args.behind; front = c.in_ok-front.front } in
    let old : List Said = c.args.outputs.now.said.keys in
    let is : c.in_ok-is_new.is_new ≡ true = c.if-not-is_new.false in
    let keys : c.number.new.keys.keys ≡ old ++ s ∷ [] = c.in_ok-is_new.ensures.keys ∙ ap (λ (b : Bool). if b then old ++ s ∷ [] else old) is in
    let made : ◌≡◌ {A = Production} (record { left = record { 0 = c.args.left }; right = c.right_of_said-right.result }) (production_of s) =
    ap (λ (r : Right). let q : Production = record { left = record { 0 = c.args.left }; right = r } in q) c.right_of_said-right.ensures in
    record {
      said = s;
      is_left = refl;
      is_behind = refl;
      stands = c.in_ok-front.ensures.stands;
      fronts = c.in_ok-front.ensures.keeps;
      adds_fronts = c.in_ok-front.ensures.adds;
      has = contains_at c.number.new.keys.keys c.in_ok-is_new.field-0-0 s c.in_ok-is_new.ensures.number;
      keeps = c.in_ok-is_new.ensures.keeps;
      adds = c.in_ok-is_new.ensures.adds;
      heads = refl;
      wide = refl;
      written = inr (keys, c.in_ok-push.ensures.items ∙ ap (λ (p : Production). c.args.outputs.now.out.items ++ p ∷ []) made);
    }
