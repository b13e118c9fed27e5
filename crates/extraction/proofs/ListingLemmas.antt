-- The lister of a program lists the sets of the program.
use Rattle.std.proofs.Common.{◌≡◌, ℕ, List, subst, Contains}
use Rattle.flow_code.specs.View.{plain_flow}
use Rattle.flow_code.specs.declared.program.FlowProgram.{FlowProgram}
use Rattle.least_sets.specs.Forms.{Form}
use Rattle.loose_sets.specs.Versions.{linked_in}
use Rattle.ssa_form.specs.Versions.{joins_of}
use Rattle.loose_sets.specs.Used.{IsUsed}
use Rattle.loose_sets.specs.declared.name.Leaving.{Leaving}
use Rattle.loose_sets.specs.declared.name.SetName.{SetName}
use Rattle.loose_sets.specs.declared.name.SetName.TheVariants.{Out}
use Rattle.extraction.specs.Asked.{AreAsked}
use Rattle.extraction.specs.Ends.{IsExactLister}
use Rattle.extraction.specs.declared.tables.FlowTables.{FlowTables}
use Rattle.extraction.specs.Tables.{flow_of, at_in, lists_of, AreTables}
use Rattle.extraction.specs.FlowAsked.{IsAsked}
use Rattle.extraction.proofs.Exact.{exact}
use Rattle.extraction.proofs.Closed.{closed}

-- what is printed from a point on may be asked for
out_asked : (t : FlowTables) → AreTables t → (p : ℕ) (l : Leaving) → IsAsked t (Out p l)
unfolding IsUsed
out_asked t are p l = record { tables = are; used = tt }

lister : (t : FlowTables) → AreTables t → IsExactLister (flow_of t) (IsAsked t) (lists_of t)
lister t are = record {
  versions = t.versions;
  exact = are.exact;
  lister = record {
    exact = λ n a f. exact t are n f;
    start = λ main l is. out_asked t are main.entry_of l;
  };
}

pub is_lister : (flow : FlowProgram) (t : FlowTables) → t.flow.now ≡ flow → AreTables t → IsExactLister (plain_flow flow) (IsAsked t) (lists_of t)
is_lister flow t same are = subst (λ (f : FlowProgram). IsExactLister (plain_flow f) (IsAsked t) (lists_of t)) same (lister t are)

-- each name in the list of a name may be asked for
pub all_asked : (t : FlowTables) (n : SetName) (forms : List (Form SetName)) → IsAsked t n → forms ≡ lists_of t n → AreAsked (IsAsked t) forms
all_asked t n forms a is f k has named =
    let there : Contains (lists_of t n) f = subst (λ (fs : List (Form SetName)). Contains fs f) is has in
    record { tables = a.tables; used = closed (flow_of t) (at_in t) (linked_in (joins_of t.versions)) n f ((exact t a.tables n f).0 there) a.used k named }
