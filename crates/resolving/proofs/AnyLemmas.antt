-- All texts over some bytes.
use Rattle.std.proofs.Common.{◌≡◌, ◌<◌, ◌≤◌, ◌+◌, ℕ, true, Bool, List, [], ◌∷◌, length, Contains, inl, inr, refl, sym, ◌∙◌, ap, subst, arith}
use Rattle.std.specs.Prelude.{◌⊎◌, nat_lt}
use Rattle.std.proofs.lemmas.Bool.{lt-ltb, cases_lt}
use Rattle.std.proofs.lemmas.List.Elements.{Contains-push_cases, Contains-append_left, Contains-push}
use Rattle.text_base.specs.declared.byte_range.ByteRange.{ByteRange}
use Rattle.text_base.specs.declared.numbers.Nt as nt
use Rattle.text_base.specs.ByteSet.{Has}
use Rattle.cfg_grammar.specs.declared.production.Right.TheVariants.{Empty}
use Rattle.cfg_grammar.specs.declared.production.Production.{Production}
use Rattle.cfg_grammar.specs.Below.{production_below}
use Rattle.resolving.specs.Drafts.{AddsAny, IsAnyProduction, link_of, range_production}
use Rattle.resolving.proofs.LetterLemmas.{both_so}
use Rattle.resolving.specs.declared.draft.Draft.{Draft}
use Rattle.resolving.specs.Draft.{IsIndexed, Puts, Widens}
use Rattle.resolving.proofs.DraftLemmas.{one_longer}
use Rattle.resolving.specs.AnyTexts.{IsRunAt, PutsRuns, PutsFrom, AddsAnyTexts}

-- what one production more keeps, and what it adds
pub kept_by : (old new : Draft) (p q : Production) → Puts old new p → Contains old.productions.items q → Contains new.productions.items q
kept_by old new p q puts c = subst (λ (ps : List Production). Contains ps q) (sym puts.productions) (Contains-append_left old.productions.items (p ∷ []) q c)

pub has_new : (old new : Draft) (p : Production) → Puts old new p → Contains new.productions.items p
has_new old new p puts = subst (λ (ps : List Production). Contains ps p) (sym puts.productions) (Contains-push old.productions.items p)

pub old_or_new : (old new : Draft) (p q : Production) → Puts old new p → Contains new.productions.items q → Contains old.productions.items q ⊎ (p ≡ q)
old_or_new old new p q puts c = Contains-push_cases old.productions.items p q (subst (λ (ps : List Production). Contains ps q) puts.productions c)

-- what is put up to a place, and from there on
pub runs_more : (t : nt.Nt) (set : List Bool) (from at to : ℕ) (old mid new : Draft) → PutsRuns t set from at old mid → PutsRuns t set at to mid new → PutsRuns t set from to old new
runs_more t set from at to old mid new a b = record {
  indexed = b.indexed;
  count = b.count ∙ a.count;
  few = (let k = a.few in let l = b.few in omega arith);
  keeps = λ p c. b.keeps p (a.keeps p c);
  only = λ p c. elim (b.only p c) [ inl o ↦ a.only p o | inr x ↦ inr x ];
  has = λ byte low lt small h. elim (cases_lt byte at) [
    | inl before ↦ (let x = a.has byte low before small h in (x.0, x.1, b.keeps (range_production t x.0) x.2))
    | inr behind ↦ b.has byte behind lt small h
  ];
}

-- behind the last byte there is nothing more to put
pub runs_done : (t : nt.Nt) (set : List Bool) (n : ℕ) (old new : Draft) → 256 ≤ n → n ≤ 257 → PutsRuns t set 0 n old new → PutsRuns t set 0 257 old new
runs_done t set n old new least most r = record {
  indexed = r.indexed;
  count = r.count;
  few = (let l = r.few in omega arith);
  keeps = r.keeps;
  only = r.only;
  has = λ byte low lt small h. r.has byte low (omega arith) small h;
}

-- a byte that is not in the set
pub run_skip : (t : nt.Nt) (set : List Bool) (first : ℕ) (d : Draft) → IsIndexed d → first < 256 → (Has set first → ⊥) → PutsFrom t set first (first + 1) d d
run_skip t set first d indexed small none = record {
  further = omega arith;
  within = omega arith;
  puts = record { indexed = indexed; count = refl; few = omega arith; keeps = λ p c. c; only = λ p c. inl c; has = λ byte low lt tiny h. absurd (none (subst (Has set) (let e : byte ≡ first = omega arith in e) h)) };
}

-- a run of bytes
pub run_put : (t : nt.Nt) (set : List Bool) (first : ℕ) (range : ByteRange) (old new : Draft) → IsRunAt set first range → range.lo ≤ range.hi → range.hi < 256 → Puts old new (range_production t range) → PutsFrom t set first (range.hi + 2) old new
run_put t set first range old new run ordered small puts = record {
  further = (let b = run.begins in omega arith);
  within = omega arith;
  puts = record {
    indexed = puts.indexed;
    count = puts.count;
    few = (let e = one_longer old new (range_production t range) puts in let b = run.begins in omega arith);
    keeps = λ p c. kept_by old new (range_production t range) p puts c;
    only = λ p c. elim (old_or_new old new (range_production t range) p puts c) [
      | inl o ↦ inl o
      | inr e ↦ inr (record { range = range; has = λ byte within. (let w = within.1 in omega arith, run.has byte within); is = sym e })
    ];
    has = λ byte low lt tiny h. elim (cases_lt byte (range.hi + 1)) [
      | inl before ↦ (range, (let b = run.begins in omega arith, omega arith), has_new old new (range_production t range) puts)
      | inr behind ↦ absurd (run.ends (omega arith) (subst (Has set) (let e : byte ≡ range.hi + 1 = omega arith in e) h))
    ];
  };
}

pub stop_below : (n : ℕ) (t : nt.Nt) → t.0 < n → production_below n (record { left = t; right = Empty }) ≡ true
stop_below n t l = both_so (nat_lt t.0 n) true (lt-ltb t.0 n l) refl

-- all are added
pub any_added : (left t : nt.Nt) (set : List Bool) (old a b c new : Draft) → t ≡ record { 0 = length old.chains.last.items } → Widens old a 1 → Puts a b (link_of left t) → Puts b c (record { left = t; right = Empty }) → PutsRuns t set 0 257 c new → AddsAnyTexts left set old new
any_added left t set old a b c new is wide link stop runs = record {
  indexed = runs.indexed;
  count = (let p = runs.count in let q = stop.count in let r = link.count in let w = wide.more in omega arith);
  few = (let l = runs.few in let e = one_longer b c (record { left = t; right = Empty }) stop in let f = one_longer a b (link_of left t) link in let g : length a.productions.items ≡ length old.productions.items = ap length wide.productions in omega arith);
  adds = subst (λ (x : nt.Nt). AddsAny old.productions.items left x set new.productions.items) is adds;
}
  where
    from_b : (p : Production) → Contains b.productions.items p → Contains new.productions.items p
    from_b p h = runs.keeps p (kept_by b c (record { left = t; right = Empty }) p stop h)

    only_b : (p : Production) → Contains b.productions.items p → IsAnyProduction old.productions.items left t set p
    only_b p h = elim (old_or_new a b (link_of left t) p link h) [
      | inl o ↦ IsAnyProduction.before (subst (λ (ps : List Production). Contains ps p) wide.productions o)
      | inr e ↦ IsAnyProduction.links (sym e)
    ]

    only_c : (p : Production) → Contains c.productions.items p → IsAnyProduction old.productions.items left t set p
    only_c p h = elim (old_or_new b c (record { left = t; right = Empty }) p stop h) [
      | inl o ↦ only_b p o
      | inr e ↦ IsAnyProduction.stops (sym e)
    ]

    adds : AddsAny old.productions.items left t set new.productions.items
    adds = record {
      keeps = λ p h. from_b p (kept_by a b (link_of left t) p link (subst (λ (ps : List Production). Contains ps p) (sym wide.productions) h));
      only = λ p h. elim (runs.only p h) [ inl o ↦ only_c p o | inr x ↦ IsAnyProduction.puts x ];
      link = from_b (link_of left t) (has_new a b (link_of left t) link);
      stop = runs.keeps (record { left = t; right = Empty }) (has_new b c (record { left = t; right = Empty }) stop);
      has = λ byte lt h. runs.has byte (omega arith) (omega arith) lt h;
    }
