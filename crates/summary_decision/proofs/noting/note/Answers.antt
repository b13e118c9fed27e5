use Rattle.std.proofs.Common.{◌≡◌, ◌+◌, ℕ, Bool, true, false, if◌then◌else◌, [], ◌∷◌, ◌++◌, set, get_or, refl, ap, subst, arith, length}
use Rattle.std.proofs.lemmas.List.{get_or_read_under}
use Rattle.summary_decision.specs.declared.table.Entry.{Entry}
use Rattle.summary_decision.proofs.KnownLemmas.{noted_numbered, noted_pairs, noted_has, noted_fresh, keeps_longer}
use Rattle.summary_decision.proofs.noting.note.Goals as goal

pub returns-then-not-is_new : goal.returns-then-not-is_new
returns-then-not-is_new g c =
    let e : Entry = record { nonterminal = c.args.left; sum = c.in_ok-sum.sum } in
    let s = c.in_ok-sum.ensures in
    let n = c.in_ok-is_new.ensures in
    let old = c.args.table.now in
    let keys : c.number-2.new.keys.keys ≡ (if false then old.entries.keys ++ e ∷ [] else old.entries.keys) = subst (λ (b : Bool). c.number-2.new.keys.keys ≡ (if b then old.entries.keys ++ e ∷ [] else old.entries.keys)) c.if-not-is_new.true n.keys in
    record {
      numbered = noted_numbered old.sums.keys c.number.new.keys.keys old.entries.keys c.number-2.new.keys.keys e c.args.sum c.requires.numbered s.keeps s.number false keys;
      sums = s.keeps;
      joins = refl;
      joined = refl;
      pairs = noted_pairs old.sums.keys c.number.new.keys.keys old.entries.keys c.number-2.new.keys.keys e c.args.sum c.requires.numbered s.keeps s.number false keys;
      has = noted_has old.sums.keys c.number.new.keys.keys old.entries.keys c.number-2.new.keys.keys e c.args.sum c.requires.numbered s.keeps s.number false _ keys n.number;
      fresh = noted_fresh old.sums.keys c.number.new.keys.keys old.entries.keys c.number-2.new.keys.keys e c.args.sum c.requires.numbered s.keeps s.number false keys c.count-sums.ensures.different c.count-entries.ensures.different;
      nodes = refl;
      counts = refl;
      height = refl;
      bound = refl;
    }

pub overflow_add-index_mut : goal.overflow_add-index_mut
overflow_add-index_mut g c =
    let counts = c.args.table.now.counts in
    let m : c.index_mut.result.now ≡ get_or counts.items c.args.left 0 = get_or_read_under counts.items c.args.left (length counts.items) c.index_mut.result.now 0 c.index_mut.ensures.value c.requires.left refl in
    let l = keeps_longer c.args.table.now.entries.keys c.number-2.new.keys.keys c.in_ok-is_new.ensures.keeps in
    omega (arith, m, l, c.requires.counted, c.count-entries.ensures.length, c.count-entries.ensures.small)

pub returns : goal.returns
returns g c =
    let e : Entry = record { nonterminal = c.args.left; sum = c.in_ok-sum.sum } in
    let s = c.in_ok-sum.ensures in
    let n = c.in_ok-is_new.ensures in
    let old = c.args.table.now in
    let counts = c.args.table.now.counts in
    let keys : c.number-2.new.keys.keys ≡ (if true then old.entries.keys ++ e ∷ [] else old.entries.keys) = subst (λ (b : Bool). c.number-2.new.keys.keys ≡ (if b then old.entries.keys ++ e ∷ [] else old.entries.keys)) c.if-not-is_new.false n.keys in
    let m : c.index_mut.result.now ≡ get_or counts.items c.args.left 0 = get_or_read_under counts.items c.args.left (length counts.items) c.index_mut.result.now 0 c.index_mut.ensures.value c.requires.left refl in
    record {
      numbered = noted_numbered old.sums.keys c.number.new.keys.keys old.entries.keys c.number-2.new.keys.keys e c.args.sum c.requires.numbered s.keeps s.number true keys;
      sums = s.keeps;
      joins = refl;
      joined = refl;
      pairs = noted_pairs old.sums.keys c.number.new.keys.keys old.entries.keys c.number-2.new.keys.keys e c.args.sum c.requires.numbered s.keeps s.number true keys;
      has = noted_has old.sums.keys c.number.new.keys.keys old.entries.keys c.number-2.new.keys.keys e c.args.sum c.requires.numbered s.keeps s.number true _ keys n.number;
      fresh = noted_fresh old.sums.keys c.number.new.keys.keys old.entries.keys c.number-2.new.keys.keys e c.args.sum c.requires.numbered s.keeps s.number true keys c.count-sums.ensures.different c.count-entries.ensures.different;
      nodes = c.in_ok-push.ensures.ok;
      counts = ap (λ (k : ℕ). set counts.items c.args.left (k + 1)) m;
      height = refl;
      bound = refl;
    }
