-- From height to height, until nothing is new.
use Rattle.std.proofs.Common.{◌≡◌, ℕ, ◌+◌, ◌<◌, ◌≤◌, Bool, true, false, if◌then◌else◌, List, ◌++◌, length, refl, ap, subst, arith}
use Rattle.std.specs.Prelude.{nat_lt}
use Rattle.std.proofs.lemmas.Bool.{ltb-true, ltb-false, lt-ltb, le-ltb}
use Rattle.text_base.specs.declared.page_token.PageToken.{PageToken}
use Rattle.text_base.specs.declared.numbers.Nt as nt
use Rattle.cfg_grammar.specs.declared.production.Production.{Production}
use Rattle.useful_nonterminals.specs.Useful.{IsUseful}
use Rattle.summary_decision.specs.declared.table.Table.{Table}
use Rattle.summary_decision.specs.declared.table.Taken.{Taken}
use Rattle.summary_decision.specs.Pairs.{tokens_in, AreWhole}
use Rattle.summary_decision.specs.Closed.{IsClosed, IsComplete}
use Rattle.summary_decision.specs.Tables.{known, IsTable}
use Rattle.summary_decision.specs.Joints.{taken_count}
use Rattle.summary_decision.proofs.ClosedLemmas.{closed_complete, closed_has_all}
use Rattle.summary_decision.proofs.KnownLemmas.{known_length}
use Rattle.summary_decision.proofs.MadeLemmas.{made_on}
use Rattle.summary_decision.specs.Taking.{AreUp}
use Rattle.summary_decision.specs.Running.{raised}

module _ {S : Type 0} (sum_of : List PageToken → S) (composed : S → S → S) (whole : S → Bool) (ps : List Production) (start : nt.Nt) (appended : (u v : List PageToken) → sum_of (u ++ v) ≡ composed (sum_of u) (sum_of v)) (count : ℕ) where
  -- the table one height on
  higher : (t : Table S) (taken : Taken) → AreUp sum_of composed whole ps start count t taken → taken_count taken < length (known t) → t.bound ≤ taken_count taken → IsTable sum_of composed whole ps start count (record t { height = t.height + 1; bound = length t.entries.keys })
  higher t taken up more past =
      let table = up.table in
      let l = known_length t.sums.keys t.entries.keys table.numbered in
      let same : t.bound ≡ taken_count taken = omega (arith, up.within, past) in
      let all : IsComplete sum_of composed ps start (known t) (length (known t)) (t.height + 1) =
      closed_complete sum_of composed appended ps start (known t) (taken_count taken) t.height up.closed (subst (λ (n : ℕ). IsComplete sum_of composed ps start (known t) n t.height) same table.complete) in
      record {
        numbered = table.numbered;
        joined = table.joined;
        long = table.long;
        spread = table.spread;
        counted = table.counted;
        different = table.different;
        bounded = omega (arith, l);
        raised = omega (arith, table.raised, past, more, l);
        made = λ n x e. made_on sum_of composed whole ps start t.nodes.nodes.items t.nodes.nodes.items (t.height + 1) (t.height + 1 + 1) n x (λ k y h. h) (omega arith) (table.made n x e);
        early = λ n x b e. table.made n x e;
        whole_at_start = table.whole_at_start;
        complete = subst (λ (n : ℕ). IsComplete sum_of composed ps start (known t) n (t.height + 1)) l all;
      }

  pub up_raised : (t : Table S) (taken : Taken) → AreUp sum_of composed whole ps start count t taken → taken_count taken < length (known t) → AreUp sum_of composed whole ps start count (raised (taken_count taken) t) taken
  up_raised t taken up more = by_test (nat_lt (taken_count taken) t.bound) refl
    where
      by_test : (b : Bool) → nat_lt (taken_count taken) t.bound ≡ b → AreUp sum_of composed whole ps start count (if b then t else record t { height = t.height + 1; bound = length t.entries.keys }) taken
      by_test true e = up
      by_test false e =
          let past : t.bound ≤ taken_count taken = ltb-false (taken_count taken) t.bound e in
          let l = known_length t.sums.keys t.entries.keys up.table.numbered in
          record { table = higher t taken up more past; chains = up.chains; spread = up.spread; within = omega (arith, more, l); closed = up.closed }

  pub raised_more : (t : Table S) (taken : Taken) → AreUp sum_of composed whole ps start count t taken → taken_count taken < length (known t) → taken_count taken < (raised (taken_count taken) t).bound
  raised_more t taken up more = by_test (nat_lt (taken_count taken) t.bound) refl
    where
      by_test : (b : Bool) → nat_lt (taken_count taken) t.bound ≡ b → taken_count taken < (if b then t else record t { height = t.height + 1; bound = length t.entries.keys }).bound
      by_test true e = ltb-true (taken_count taken) t.bound e
      by_test false e = let l = known_length t.sums.keys t.entries.keys up.table.numbered in omega (arith, more, l)

  -- nothing is new
  pub all_whole : (t : Table S) (taken : Taken) → AreUp sum_of composed whole ps start count t taken → length t.entries.keys ≤ taken_count taken → AreWhole sum_of whole ps start
  all_whole t taken up past w d =
      let l = known_length t.sums.keys t.entries.keys up.table.numbered in
      let same : taken_count taken ≡ length (known t) = omega (arith, l, past, up.within, up.table.bounded) in
      let closed : IsClosed sum_of composed ps start (known t) (length (known t)) = subst (λ (n : ℕ). IsClosed sum_of composed ps start (known t) n) same up.closed in
      up.table.whole_at_start (sum_of (tokens_in w)) (closed_has_all sum_of composed appended ps start (known t) closed start w (IsUseful.at_start w d) d)

pub raised_same : {S : Type 0} (n : ℕ) (t : Table S) → n < t.bound → t ≡ raised n t
raised_same n t l = by_test (nat_lt n t.bound) (lt-ltb n t.bound l)
  where
    by_test : (b : Bool) → b ≡ true → t ≡ (if b then t else record t { height = t.height + 1; bound = length t.entries.keys })
    by_test true e = refl
    by_test false e = cc

pub raised_higher : {S : Type 0} (n end' : ℕ) (t : Table S) → t.bound ≤ n → end' ≡ length t.entries.keys → record t { height = t.height + 1; bound = end' } ≡ raised n t
raised_higher n end' t l same = by_test (nat_lt n t.bound) (le-ltb n t.bound l)
  where
    by_test : (b : Bool) → b ≡ false → record t { height = t.height + 1; bound = end' } ≡ (if b then t else record t { height = t.height + 1; bound = length t.entries.keys })
    by_test true e = cc
    by_test false e = ap (λ (k : ℕ). record t { height = t.height + 1; bound = k }) same
