-- The names to begin with.
use Rattle.std.proofs.Common.{◌≡◌, zero, suc, List, [], ◌∷◌, ◌++◌, Some, None, refl, sym, subst, ap, ◌∙◌, arith, slice_get, Contains, map}
use Rattle.flow_code.specs.Points.{PlainFlowFunction, PlainFlow, function_at}
use Rattle.flow_code.specs.View.{plain_flow, plain_flow_function}
use Rattle.flow_code.specs.declared.program.FlowFunction.{FlowFunction}
use Rattle.flow_code.specs.declared.program.FlowProgram.{FlowProgram}
use Rattle.loose_sets.specs.declared.name.Leaving.{Leaving}
use Rattle.loose_sets.specs.declared.name.Leaving.TheVariants.{Return, Exit}
use Rattle.loose_sets.specs.declared.name.SetName.{SetName}
use Rattle.loose_sets.specs.declared.name.SetName.TheVariants.{Out}
use Rattle.extraction.specs.Ends.{AreEnds}

none_of : {X : Type 0} (x : X) → Contains [] x → ⊥
none_of x c = let h = c.1 in omega arith

pub no_ends : (flow : PlainFlow) → function_at flow 0 ≡ None → AreEnds flow []
no_ends flow none = record {
  each = λ n c. absurd (none_of n c);
  all = λ main l is. absurd (let both : None ≡ Some main = sym none ∙ is in cc);
  few = omega arith;
}

pub both_ends : (flow : PlainFlow) (main : PlainFlowFunction) → function_at flow 0 ≡ Some main → AreEnds flow (Out main.entry_of Return ∷ Out main.entry_of Exit ∷ [])
both_ends flow main is = record {
  each = λ n c. (main, (by n c).0, is, (by n c).1);
  all = λ other l at.
      let both : Some main ≡ Some other = sym is ∙ at in
      let same : main ≡ other = cc in
      subst (λ (f : PlainFlowFunction). Contains (Out main.entry_of Return ∷ Out main.entry_of Exit ∷ []) (Out f.entry_of l)) same (there l);
  few = omega arith;
}
  where
    by : (n : SetName) → Contains (Out main.entry_of Return ∷ Out main.entry_of Exit ∷ []) n → (l : Leaving) × (n ≡ Out main.entry_of l)
    by n (zero, below, e) = (Return, sym e)
    by n (suc zero, below, e) = (Exit, sym e)
    by n (suc (suc k), below, e) = absurd (omega (arith, below))

    there : (l : Leaving) → Contains (Out main.entry_of Return ∷ Out main.entry_of Exit ∷ []) (Out main.entry_of l)
    there Return = (0, omega arith, refl)
    there Exit = (1, omega arith, refl)

map_first : (fs : List FlowFunction) (main : FlowFunction) → slice_get fs 0 ≡ Some main → slice_get (map plain_flow_function fs) 0 ≡ Some (plain_flow_function main)
map_first [] main e = absurd cc
map_first (f ∷ fs) main e = let same : f ≡ main = cc in ap (λ (g : FlowFunction). Some (plain_flow_function g)) same

-- what is pushed where there is a first function
pub ends_pushed : (flow : FlowProgram) (main : FlowFunction) (none one two : List SetName) → slice_get flow.functions.items 0 ≡ Some main → none ≡ [] → one ≡ none ++ Out main.entry.0 Return ∷ [] → two ≡ one ++ Out main.entry.0 Exit ∷ []
    → AreEnds (plain_flow flow) two
ends_pushed flow main none one two is a b c =
    let all : two ≡ Out main.entry.0 Return ∷ Out main.entry.0 Exit ∷ [] =
    c ∙ ap (λ (xs : List SetName). xs ++ Out main.entry.0 Exit ∷ []) (b ∙ ap (λ (xs : List SetName). xs ++ Out main.entry.0 Return ∷ []) a) in
    subst (λ (xs : List SetName). AreEnds (plain_flow flow) xs) (sym all) (both_ends (plain_flow flow) (plain_flow_function main) (map_first flow.functions.items main is))
