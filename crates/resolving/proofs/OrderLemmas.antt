-- Rules in the order of their numbers.
use Rattle.std.proofs.Common.{◌≡◌, ◌<◌, ◌≤◌, ◌+◌, ℕ, List, [], ◌∷◌, ◌++◌, length, length-append, get_or, Some, slice_get, Contains, inl, inr, refl, sym, ◌∙◌, ap, subst, arith, map}
use Rattle.std.specs.List.Sorted.{IsNonDecreasingBy, IsPermutation}
use Rattle.std.proofs.lemmas.Bool.{cases_eq, cases_lt}
use Rattle.std.proofs.lemmas.Option.{slice_get_within, slice_get_read, slice_get-get_or, get_or_from_slice_get}
use Rattle.std.proofs.lemmas.List.Elements.{All-nil, All-push, All-contains, Contains-append_left, Contains-push}
use Rattle.std.proofs.lemmas.List.Sorted.{All-permutation, Contains-permutation, length_permutation}
use Rattle.cfg_grammar.specs.declared.production.Production.{Production}
use Rattle.op_system.specs.declared.system.OpRule.{OpRule}
use Rattle.op_system.specs.declared.system.OpSystem.{OpSystem}
use Rattle.resolving.specs.Drafts.{IsDone}
use Rattle.resolving.proofs.LetterLemmas.{placed, contained, none_in, one_of, first_in, later_in}
use Rattle.resolving.proofs.MovedLemmas.{derives_more}
use Rattle.cfg_grammar.specs.declared.symbol.Symbol.TheVariants.{Nt}
use Rattle.text_base.specs.declared.letter.Letter.TheVariants.{OfByte}
use Rattle.resolving.specs.declared.draft.Draft.{Draft}
use Rattle.resolving.proofs.DraftLemmas.{some_is}
use Rattle.resolving.specs.declared.order.Ranked.{Ranked}
use Rattle.resolving.specs.Order.{HasPlace, IsRanked, AreRankedBelow, AreRanked, IsOrder, IsDraftOf, IsDraftedBy, IsDraftedFrom, MayBeAdded, IsReadyFor, AddsRule, AreAdded, AllAdded}
use Rattle.resolving.specs.Drafted.{Added, HasAdded, IsNext, Drafted, IsResolved}
use Rattle.resolving.proofs.DraftedLemmas.{drafted_count, drafted_size}
use Rattle.cfg_grammar.specs.declared.grammar.Grammar.{Grammar}
use Rattle.resolving.proofs.OnceLemmas.{each_once}

pub ranked_none : (s : OpSystem) (numbers : List ℕ) → AreRankedBelow s numbers 0 []
ranked_none s numbers = record { size = refl; each = All-nil (IsRanked s numbers); all = λ place lt. absurd (omega arith) }

pub ranked_more : (s : OpSystem) (numbers : List ℕ) (n : ℕ) (order : List Ranked) (rule : OpRule) (r : Ranked) → slice_get s.ops.items n ≡ Some rule → slice_get numbers rule.left.0 ≡ Some r.number → r.place ≡ n
    → AreRankedBelow s numbers n order → AreRankedBelow s numbers (n + 1) (order ++ r ∷ [])
ranked_more s numbers n order rule r at number is before = record {
  size = (let e = length-append order (r ∷ []) in let b = before.size in omega arith);
  each = All-push (IsRanked s numbers) order r before.each (record { rule = rule; at = ap (slice_get s.ops.items) is ∙ at; number = number });
  all = λ place lt. elim (cases_eq place n) [
    | inl e ↦ (r, Contains-push order r, is ∙ sym e)
    | inr other ↦ (let h = before.all place (omega arith) in (h.0, Contains-append_left order (r ∷ []) h.0 h.1, h.2))
  ];
}

pub ranked_sorted : (s : OpSystem) (numbers : List ℕ) (xs ys : List Ranked) → IsPermutation xs ys → IsNonDecreasingBy (λ (r : Ranked). r.number) ys → AreRanked s numbers xs → IsOrder s numbers ys
ranked_sorted s numbers xs ys moves rises are = record {
  ranked = record {
    size = size;
    each = All-permutation (IsRanked s numbers) xs ys moves are.each;
    all = all;
  };
  once = each_once ys (length s.ops.items) size all;
  rises = rises;
}
  where
    size : length ys ≡ length s.ops.items
    size = length_permutation xs ys moves ∙ are.size

    all : (place : ℕ) → place < length s.ops.items → HasPlace ys place
    all place lt = let h = are.all place lt in (h.0, Contains-permutation xs ys h.0 moves h.1, h.2)

-- where a rule stands in the order
pub record Stands (s : OpSystem) (numbers : List ℕ) (order : List Ranked) (rule : OpRule) : Type 0 where
  pub at : ℕ
  pub ranked : Ranked
  pub found : slice_get order at ≡ Some ranked
  pub is : slice_get s.ops.items ranked.place ≡ Some rule
  pub number : slice_get numbers rule.left.0 ≡ Some ranked.number

module _ (s : OpSystem) (numbers : List ℕ) (order : List Ranked) (are : IsOrder s numbers order) where
  ranked_at : (i : ℕ) (r : Ranked) → slice_get order i ≡ Some r → IsRanked s numbers r
  ranked_at i r found = All-contains (IsRanked s numbers) order r are.ranked.each (contained order i r found)

  pub number_at : (i : ℕ) (r : Ranked) (rule : OpRule) → slice_get order i ≡ Some r → slice_get s.ops.items r.place ≡ Some rule → slice_get numbers rule.left.0 ≡ Some r.number
  number_at i r rule found is =
      let k = ranked_at i r found in
      subst (λ (x : OpRule). slice_get numbers x.left.0 ≡ Some r.number) (some_is _ _ (sym k.at ∙ is)) k.number

  pub stands : (rule : OpRule) → Contains s.ops.items rule → Stands s numbers order rule
  stands rule has =
      let p = placed s.ops.items rule has in
      let h = are.ranked.all p.0 (slice_get_within s.ops.items p.0 rule p.1) in
      let o = placed order h.0 h.1 in
      let is : slice_get s.ops.items h.0.place ≡ Some rule = ap (slice_get s.ops.items) h.2 ∙ p.1 in
      record { at = o.0; ranked = h.0; found = o.1; is = is; number = number_at o.0 h.0 rule o.1 is }

  -- the rule that is read
  pub read_rule : (n : ℕ) (d : Ranked) (rule : OpRule) → rule ≡ get_or s.ops.items (get_or order n d).place rule → n < length order → (slice_get order n ≡ Some (get_or order n d)) × (slice_get s.ops.items (get_or order n d).place ≡ Some rule)
  read_rule n d rule is lt =
      let found = slice_get-get_or order n d lt in
      let k = ranked_at n (get_or order n d) found in
      let at = slice_get_read s.ops.items (length s.ops.items) (get_or order n d).place rule refl (slice_get_within s.ops.items (get_or order n d).place k.rule k.at) is in
      (found, at)

  -- all rules with lower numbers come before
  pub ready_at : (n : ℕ) (r : Ranked) (rule : OpRule) (d : Draft) → slice_get order n ≡ Some r → slice_get s.ops.items r.place ≡ Some rule → AreAdded s order n d → IsReadyFor s numbers d.productions.items rule
  ready_at n r rule d found is added k at other m has number lt =
      let w = stands other has in
      let mine : r.number ≡ k = some_is _ _ (sym (number_at n r rule found is) ∙ at) in
      let its : w.ranked.number ≡ m = some_is _ _ (sym w.number ∙ number) in
      elim (cases_lt w.at n) [
        | inl before ↦ added.done w.at w.ranked other before w.found w.is
        | inr behind ↦
            let within = slice_get_within order w.at w.ranked w.found in
            let up = are.rises n w.at r behind within in
            let x = get_or_from_slice_get order n r r found in
            let y = get_or_from_slice_get order w.at w.ranked r w.found in
            let u : r.number ≤ w.ranked.number = subst (λ (z : Ranked). r.number ≤ z.number) y (subst (λ (z : Ranked). z.number ≤ (get_or order w.at r).number) x up) in
            absurd (omega arith)
      ]

  -- the rule at the next place of the order was not added yet
  pub next_at : (n : ℕ) (r : Ranked) (rule : OpRule) (d : Draft) → slice_get order n ≡ Some r → slice_get s.ops.items r.place ≡ Some rule → (from : IsDraftedFrom s order n d) → IsNext s from.added r.place rule
  next_at n r rule d found is from = record {
    at = is;
    fresh = λ has. (let o = from.only r.place has in let same = are.once o.0 n o.1 r o.3 found o.4 in let lt = o.2 in omega arith);
  }

  pub may_at : (n : ℕ) (r : Ranked) (rule : OpRule) (d : Draft) → slice_get order n ≡ Some r → slice_get s.ops.items r.place ≡ Some rule → AreAdded s order n d → MayBeAdded s rule d
  may_at n r rule d found is added = record { added = added.drafted.added; drafted = added.drafted.drafted; place = r.place; next = next_at n r rule d found is added.drafted }

  pub all_added : (n : ℕ) (d : Draft) → length order ≤ n → AreAdded s order n d → AllAdded s d
  all_added n d all added = record {
    is_draft = added.is_draft;
    added = added.drafted.added;
    drafted = added.drafted.drafted;
    many = (let e = added.drafted.many in let l = added.drafted.within in let z = are.ranked.size in omega arith);
    all = λ place lt. (
        let h = are.ranked.all place lt in
        let o = placed order h.0 h.1 in
        let l = slice_get_within order o.0 h.0 o.1 in
        subst (HasAdded added.drafted.added) h.2 (added.drafted.before o.0 h.0 (omega arith) o.1)
        );
    done = λ rule has.
        let w = stands rule has in
        added.done w.at w.ranked rule (let l = slice_get_within order w.at w.ranked w.found in omega arith) w.found w.is;
  }

-- the grammar of a draft with all operations
pub resolved_of : (s : OpSystem) (g : Grammar) (d : Draft) → AllAdded s d → g.start ≡ s.start → g.count ≡ length d.chains.last.items → g.productions.items ≡ d.productions.items → IsResolved s g
resolved_of s g d all start count productions =
    let drafted : Drafted s g.productions.items g.count all.added = subst (λ (n : ℕ). Drafted s g.productions.items n all.added) (sym count) (subst (λ (ps : List Production). Drafted s ps (length d.chains.last.items) all.added) (sym productions) all.drafted) in record {
      start = start;
      added = all.added;
      drafted = drafted;
      all = all.all;
      many = all.many;
      nonterminals = drafted_count s g.productions.items g.count all.added drafted;
      productions = drafted_size s g.productions.items g.count all.added drafted;
    }

pub done_stays : (s : OpSystem) (ps qs : List Production) (rule : OpRule) → ((p : Production) → Contains ps p → Contains qs p) → IsDone s ps rule → IsDone s qs rule
done_stays s ps qs rule keeps done = record {
  outputs = λ u w text out. derives_more ps qs keeps (Nt rule.left) (map OfByte w) (done.outputs u w text out);
  circular = λ c w all. derives_more ps qs keeps (Nt rule.left) (map OfByte w) (done.circular c w all);
}

pub added_none : (s : OpSystem) (order : List Ranked) (d : Draft) → IsDraftOf s d → IsDraftedBy s d [] → AreAdded s order 0 d
added_none s order d is from_system = record {
  is_draft = is;
  drafted = record { added = []; drafted = from_system; many = refl; within = omega arith; before = λ i r lt found. absurd (omega arith); only = λ place has. absurd (none_in has.0 has.1) };
  done = λ i r rule lt found at. absurd (omega arith);
}

-- one operation more
drafted_more : (s : OpSystem) (order : List Ranked) (n : ℕ) (r : Ranked) (old new : Draft) → slice_get order n ≡ Some r → (from : IsDraftedFrom s order n old) → (a : Added) × (a.place ≡ r.place) × IsDraftedBy s new (a ∷ from.added) → IsDraftedFrom s order (n + 1) new
drafted_more s order n r old new found from step = record {
  added = step.0 ∷ from.added;
  drafted = step.2;
  many = (let e = from.many in omega arith);
  within = (let l = slice_get_within order n r found in omega arith);
  before = λ i q lt at. elim (cases_eq i n) [
    | inl e ↦
        let same : r ≡ q = some_is _ _ (sym found ∙ (ap (slice_get order) (sym e) ∙ at)) in
        (step.0, first_in step.0 from.added, step.1 ∙ ap (λ (x : Ranked). x.place) same)
    | inr not ↦ (let h = from.before i q (omega arith) at in (h.0, later_in step.0 from.added h.0 h.1, h.2))
  ];
  only = λ place has. elim (one_of step.0 from.added has.0 has.1) [
    | inl e ↦ (n, r, omega arith, found, sym step.1 ∙ (ap (λ (x : Added). x.place) e ∙ has.2))
    | inr there ↦ (let o = from.only place (has.0, there, has.2) in (o.0, o.1, (let lt = o.2 in omega arith), o.3, o.4))
  ];
}

pub added_more : (s : OpSystem) (numbers : List ℕ) (order : List Ranked) (are : IsOrder s numbers order) (n : ℕ) (r : Ranked) (rule : OpRule) (old new : Draft) → slice_get order n ≡ Some r → slice_get s.ops.items r.place ≡ Some rule → AreAdded s order n old → AddsRule s rule old new → AreAdded s order (n + 1) new
added_more s numbers order are n r rule old new found is added one = record {
  is_draft = one.draft;
  drafted = drafted_more s order n r old new found added.drafted (one.drafted added.drafted.added r.place added.drafted.drafted (next_at s numbers order are n r rule old found is added.drafted));
  done = λ i q other lt at here. elim (cases_eq i n) [
    | inl e ↦
        let same : r ≡ q = some_is _ _ (sym found ∙ (ap (slice_get order) (sym e) ∙ at)) in
        let rules : rule ≡ other = some_is _ _ (sym is ∙ (ap (λ (x : Ranked). slice_get s.ops.items x.place) same ∙ here)) in
        subst (λ (x : OpRule). IsDone s new.productions.items x) rules one.done
    | inr not ↦ done_stays s old.productions.items new.productions.items other one.keeps (added.done i q other (omega arith) at here)
  ];
}
