-- The beginning and the end of the work.
use Rattle.std.proofs.Common.{◌≡◌, ℕ, suc, ◌<◌, Bool, List, [], ◌++◌, length, Contains, sym, ◌∙◌, ap, subst, arith, None, Some, slice_get, true≢false}
use Rattle.std.specs.List.{All}
use Rattle.std.proofs.lemmas.List.Elements.{All-contains, All-nil}
use Rattle.std.proofs.lemmas.Option.{none-some}
use Rattle.text_base.specs.declared.page_token.PageToken.{PageToken}
use Rattle.text_base.specs.declared.numbers.Nt as nt
use Rattle.cfg_grammar.specs.declared.production.Production.{Production}
use Rattle.derivations.specs.declared.node.Part.TheVariants.{Inner}
use Rattle.derivations.specs.declared.node.Node.{Node}
use Rattle.derivations.specs.Lawful.{byte_count}
use Rattle.derivations.specs.Nodes.{part_length}
use Rattle.numbered_sets.specs.Chains.{AreChains}
use Rattle.numbered_sets.specs.declared.chains.Chains.{Chains}
use Rattle.useful_nonterminals.specs.Useful.{IsUseful}
use Rattle.summary_decision.specs.declared.table.Entry.{Entry}
use Rattle.summary_decision.specs.Pairs.{tokens_in, AreWhole}
use Rattle.summary_decision.specs.Closed.{Pair}
use Rattle.summary_decision.specs.Joints.{first_nonterminals}
use Rattle.summary_decision.specs.Tables.{known_of, sums_at}
use Rattle.summary_decision.proofs.ClosedLemmas.{contained}
use Rattle.short_sentences.specs.declared.table.Table.{Table}
use Rattle.short_sentences.specs.declared.taken.Taken.{Taken}
use Rattle.short_sentences.specs.Closed.{IsClosed}
use Rattle.short_sentences.specs.Tables.{found, known, IsReached, IsTable}
use Rattle.short_sentences.specs.Joints.{chained}
use Rattle.short_sentences.specs.Beginning.{Begins}
use Rattle.short_sentences.specs.Taking.{AreUp, AreAllTaken}
use Rattle.short_sentences.proofs.BeginLemmas.{begun_closed}
use Rattle.short_sentences.proofs.SettleLemmas.{complete}

none_at : {X : Type 0} (xs : List X) (n : ℕ) (x : X) → xs ≡ [] → slice_get xs n ≡ Some x → ⊥
none_at {X} xs n x e h = let f : None ≡ Some x = ap (λ (ys : List X). slice_get ys n) (sym e) ∙ h in none-some x f

none_of : {X : Type 0} (xs : List X) (x : X) → xs ≡ [] → Contains xs x → ⊥
none_of {X} xs x e c = let d : Contains [] x = subst (λ (ys : List X). Contains ys x) e c in absurd (omega (arith, d.1))

module _ {S : Type 0} (sum_of : List PageToken → S) (composed : S → S → S) (whole : S → Bool) (ps : List Production) (start : nt.Nt) (count : ℕ) where
  -- where all drafts are taken up, each sentence of the start is whole
  pub all_whole : (appended : (u v : List PageToken) → sum_of (u ++ v) ≡ composed (sum_of u) (sum_of v)) (t : Table S) (taken : Taken) (chains : Chains) → AreUp sum_of composed whole ps start count t taken chains → AreAllTaken t.drafts.items → AreWhole sum_of whole ps start
  all_whole appended t taken chains up all w d =
      let has = complete sum_of composed whole ps start count t t.queue taken chains up appended (suc (byte_count w)) (λ n x e is_open. absurd (true≢false (sym (all n x e) ∙ is_open))) start w (omega arith) (IsUseful.at_start w d) d in
      up.table.up.whole_at_start (sum_of (tokens_in w)) (contained (known t taken) has.0 (start.0, sum_of (tokens_in w)) has.1)

  -- nothing is found and nothing is taken up
  pub empty_is_table : (t : Table S) (taken : Taken) → t.found.keys ≡ [] → t.sums.joins.keys ≡ [] → t.sums.joined.items ≡ [] → t.drafts.items ≡ [] → taken.entries.items ≡ [] → taken.nodes.nodes.items ≡ [] → length taken.counts.items ≡ count → All (λ (n : ℕ). n ≡ 0) taken.counts.items → taken.length ≡ 0 → IsTable sum_of composed whole ps start count t taken
  empty_is_table t taken keys joins joined drafts entries nodes spread zeros first =
      let none : found t ≡ [] = ap (known_of t.sums.numbered.keys) keys in
      let no_known : known t taken ≡ [] = ap (known_of t.sums.numbered.keys) entries in
      record {
        numbered = subst (λ (es : List Entry). All (λ (entry : Entry). entry.sum < length t.sums.numbered.keys) es) (sym keys) (All-nil (λ (entry : Entry). entry.sum < length t.sums.numbered.keys));
        taken_numbered = subst (λ (es : List Entry). All (λ (entry : Entry). entry.sum < length t.sums.numbered.keys) es) (sym entries) (All-nil (λ (entry : Entry). entry.sum < length t.sums.numbered.keys));
        joined = record { long = ap length joined ∙ sym (ap length joins); right = λ n r join at here. absurd (none_at t.sums.joins.keys n join joins at) };
        drafts = record {
          long = ap length drafts ∙ sym (ap length none);
          each = λ n x d a b. absurd (none_at t.drafts.items n d drafts b);
          later = λ n d b is_open. absurd (none_at t.drafts.items n d drafts b);
          taken = λ n x d a b is_up. absurd (none_at t.drafts.items n d drafts b);
          opens = λ n x d a b is_open c. none_at t.drafts.items n d drafts b;
          among = λ x c. absurd (none_of (known t taken) x no_known c);
        };
        queued = λ n d b is_open. absurd (none_at t.drafts.items n d drafts b);
        up = record {
          long = ap length nodes ∙ sym (ap length no_known);
          spread = spread;
          counted = λ a n e. All-contains (λ (n : ℕ). n ≡ 0) taken.counts.items n zeros (contained taken.counts.items a n e) ∙ sym (ap (λ (l : List (Pair S)). length (sums_at a l)) no_known);
          different = λ a i j d l m. let k : length (sums_at a (known t taken)) ≡ 0 = ap (λ (l : List (Pair S)). length (sums_at a l)) no_known in absurd (omega (arith, m, k));
          made = λ n x e. absurd (none_at (known t taken) n x no_known e);
          early = λ n. let e : part_length taken.nodes.nodes.items (Inner n) ≡ 0 = ap (λ (ns : List Node). part_length ns (Inner n)) nodes in omega (arith, e);
          bounded = omega (arith, first);
          whole_at_start = λ s c. absurd (none_of (known t taken) (start.0, s) no_known c);
        };
      }

  pub up_begun : (old new : Table S) (taken : Taken) (chains : Chains) → taken.entries.items ≡ [] → AreChains [] chains.last.items chains.before.items → length chains.last.items ≡ count → Begins sum_of composed whole ps start count taken old new (λ (k : ℕ). k < length ps) → AreUp sum_of composed whole ps start count new taken chains
  up_begun old new taken chains entries are spread b =
      let none : chained chains ≡ 0 = are.links.long in
      record {
        table = b.goes.table;
        are_taken = subst (λ (n : ℕ). AreChains (first_nonterminals (known new taken) n) chains.last.items chains.before.items) (sym none) are;
        spread = spread;
        all = none ∙ sym (ap length entries);
        closed = subst (λ (n : ℕ). IsClosed sum_of composed (IsReached new) ps start (known new taken) taken.nodes.nodes.items n) (sym none)
            (begun_closed sum_of composed whole ps start count taken old new (known new taken) taken.nodes.nodes.items b);
      }
