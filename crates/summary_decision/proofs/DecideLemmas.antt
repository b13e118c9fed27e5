-- The beginning and the end of the decision.
use Rattle.std.proofs.Common.{◌≡◌, ℕ, ◌-◌, ◌<◌, ◌≤◌, Bool, List, [], length, Contains, refl, sym, ◌∙◌, ap, subst, arith, None, Some, slice_get}
use Rattle.std.specs.List.{All}
use Rattle.std.proofs.lemmas.List.Elements.{All-contains, All-nil}
use Rattle.std.proofs.lemmas.Option.{slice_get_within, none-some}
use Rattle.text_base.specs.declared.letter.Letter.{Letter}
use Rattle.text_base.specs.declared.page_token.PageToken.{PageToken}
use Rattle.text_base.specs.declared.numbers.Nt as nt
use Rattle.cfg_grammar.specs.declared.symbol.Symbol.{Symbol}
use Rattle.cfg_grammar.specs.declared.symbol.Symbol.TheVariants.{Nt}
use Rattle.cfg_grammar.specs.declared.production.Production.{Production}
use Rattle.cfg_grammar.specs.Derives.{DerivesIn}
use Rattle.derivations.specs.declared.node.Part.{Part}
use Rattle.derivations.specs.declared.node.Part.TheVariants.{Inner}
use Rattle.derivations.specs.declared.node.Node.{Node}
use Rattle.derivations.specs.Stands.{Stands, IsDerivation}
use Rattle.numbered_sets.specs.Chains.{AreChains}
use Rattle.summary_decision.specs.declared.table.Entry.{Entry}
use Rattle.summary_decision.specs.declared.table.Table.{Table}
use Rattle.summary_decision.specs.declared.table.Taken.{Taken}
use Rattle.summary_decision.specs.Closed.{Pair, IsClosed}
use Rattle.summary_decision.specs.Tables.{known, known_of, sums_at, IsTable}
use Rattle.summary_decision.specs.Joints.{first_nonterminals, taken_count}
use Rattle.summary_decision.proofs.ClosedLemmas.{contained}
use Rattle.summary_decision.specs.Beginning.{Begins}
use Rattle.summary_decision.specs.Taking.{AreUp}
use Rattle.summary_decision.proofs.BeginLemmas.{begun_closed}

none_at : {X : Type 0} (xs : List X) (n : ℕ) (x : X) → xs ≡ [] → slice_get xs n ≡ Some x → ⊥
none_at {X} xs n x e h = let f : None ≡ Some x = ap (λ (ys : List X). slice_get ys n) (sym e) ∙ h in none-some x f

none_of : {X : Type 0} (xs : List X) (x : X) → xs ≡ [] → Contains xs x → ⊥
none_of {X} xs x e c = let d : Contains [] x = subst (λ (ys : List X). Contains ys x) e c in absurd (omega (arith, d.1))

pub no_known : {S : Type 0} (t : Table S) → t.entries.keys ≡ [] → known t ≡ []
no_known t e = ap (known_of t.sums.keys) e

-- no derivation is of height 0
no_height : (ps : List Production) (b : Symbol) (w : List Letter) (h : ℕ) → DerivesIn ps b w h → (a : nt.Nt) → b ≡ Nt a → h ≤ 0 → ⊥
no_height ps b w h (DerivesIn.by_range range byte i) a e l = cc
no_height ps b w h (DerivesIn.by_token token) a e l = cc
no_height ps b w h (DerivesIn.by_empty left c) a e l = omega (arith, l)
no_height ps b w h (DerivesIn.by_one left x v j c d) a e l = omega (arith, l)
no_height ps b w h (DerivesIn.by_two left x y u v i j c d f) a e l = omega (arith, l)

module _ {S : Type 0} (sum_of : List PageToken → S) (composed : S → S → S) (whole : S → Bool) (ps : List Production) (start : nt.Nt) (count : ℕ) where
  pub empty_is_table : (t : Table S) → t.entries.keys ≡ [] → t.joins.keys ≡ [] → t.joined.items ≡ [] → t.nodes.nodes.items ≡ [] → length t.counts.items ≡ count → All (λ (n : ℕ). n ≡ 0) t.counts.items → t.height ≡ 0 → t.bound ≡ 0 → IsTable sum_of composed whole ps start count t
  empty_is_table t entries joins joined nodes spread zeros height bound =
      let none = no_known t entries in
      record {
        numbered = subst (λ (es : List Entry). All (λ (entry : Entry). entry.sum < length t.sums.keys) es) (sym entries) (All-nil (λ (entry : Entry). entry.sum < length t.sums.keys));
        joined = record { long = ap length joined ∙ sym (ap length joins); right = λ n r join at here. absurd (none_at t.joins.keys n join joins at) };
        long = ap length nodes ∙ sym (ap length none);
        spread = spread;
        counted = λ a n e. All-contains (λ (n : ℕ). n ≡ 0) t.counts.items n zeros (contained t.counts.items a n e) ∙ sym (ap (λ (l : List (Pair S)). length (sums_at a l)) none);
        different = λ a i j d l m. let k : length (sums_at a (known t)) ≡ 0 = ap (λ (l : List (Pair S)). length (sums_at a l)) none in absurd (omega (arith, m, k));
        bounded = omega (arith, bound);
        raised = omega (arith, height, bound);
        made = λ n x e. absurd (none_at (known t) n x none e);
        early = λ n x l e. absurd (none_at (known t) n x none e);
        whole_at_start = λ s c. absurd (none_of (known t) (start.0, s) none c);
        complete = λ a w h l u d. absurd (no_height ps (Nt a) w h d a refl (omega (arith, l, height)));
      }

  pub up_begun : (old new : Table S) (taken : Taken) → AreChains [] taken.chains.last.items taken.chains.before.items → length taken.chains.last.items ≡ count → Begins sum_of composed whole ps start count old new (λ (k : ℕ). k < length ps) → AreUp sum_of composed whole ps start count new taken
  up_begun old new taken chains spread b =
      let none : taken_count taken ≡ 0 = chains.links.long in
      record {
        table = b.goes.table;
        chains = subst (λ (n : ℕ). AreChains (first_nonterminals (known new) n) taken.chains.last.items taken.chains.before.items) (sym none) chains;
        spread = spread;
        within = omega (arith, none);
        closed = subst (λ (n : ℕ). IsClosed sum_of composed ps start (known new) n) (sym none) (begun_closed sum_of composed whole ps start count old new b);
      }

inner_within : (nodes : List Node) (m n : ℕ) (node : Node) → slice_get nodes m ≡ Some node → Inner m ≡ Inner n → n < length nodes
inner_within nodes m n node at e =
    let same : m ≡ n = cc in
    let w = slice_get_within nodes m node at in
    omega (arith, w, same)

rooted : (ps : List Production) (nodes : List Node) (p : Part) (b : Symbol) (w : List Letter) → Stands ps nodes p b w → (n : ℕ) → p ≡ Inner n → n < length nodes
rooted ps nodes p b w (Stands.by_byte range byte h) n e = cc
rooted ps nodes p b w (Stands.by_token token) n e = cc
rooted ps nodes p b w (Stands.by_empty m node left at f g) n e = inner_within nodes m n node at e
rooted ps nodes p b w (Stands.by_one m node left x q v at f g s) n e = inner_within nodes m n node at e
rooted ps nodes p b w (Stands.by_two m node left x y q r u v at f g s t) n e = inner_within nodes m n node at e

pub is_rooted : (ps : List Production) (nodes : List Node) (start : nt.Nt) (w : List Letter) → IsDerivation ps nodes start w → 0 < length nodes
is_rooted ps nodes start w d = let l = rooted ps nodes (Inner (length nodes - 1)) (Nt start) w d (length nodes - 1) refl in omega (arith, l)
