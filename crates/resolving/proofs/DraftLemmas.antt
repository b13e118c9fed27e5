-- Drafts in memory.
use Rattle.std.proofs.Common.{◌≡◌, ◌<◌, ◌≤◌, ◌+◌, ℕ, zero, suc, true, List, [], ◌∷◌, ◌++◌, length, Some, slice_get, Contains, inl, inr, refl, sym, ◌∙◌, ap, subst, arith, length-append, append_assoc}
use Rattle.std.specs.Prelude.{◌⊎◌, nat_lt}
use Rattle.std.specs.List.{All}
use Rattle.std.proofs.lemmas.Bool.{lt-ltb}
use Rattle.std.proofs.lemmas.List.Elements.{All-nil, All-cons, Contains-push_cases}
use Rattle.text_base.specs.declared.numbers.Nt as nt
use Rattle.cfg_grammar.specs.declared.production.Production.{Production}
use Rattle.cfg_grammar.specs.Below.{AreBelow, production_below}
use Rattle.numbered_sets.specs.Chains.{AreChains}
use Rattle.grammar_chart.specs.Kept.{lefts_of, AreProductionsOf}
use Rattle.op_system.specs.declared.system.OpSystem.{OpSystem}
use Rattle.resolving.specs.Drafts.{IsDraft, link_of}
use Rattle.resolving.proofs.LetterLemmas.{contained, all_at, all_from, both_so}
use Rattle.resolving.proofs.DraftLawLemmas.{draft_begins, left_below}
use Rattle.resolving.proofs.StepLemmas.{higher}
use Rattle.resolving.specs.declared.draft.Draft.{Draft}
use Rattle.resolving.specs.Draft.{IsIndexed, Puts, PutsAll, Widens, IsOfSystem}
use Rattle.resolving.specs.Drafted.{Drafted}
use Rattle.resolving.specs.Order.{IsDraftOf, IsDraftedBy}

pub some_is : {X : Type 0} (x y : X) → Some x ≡ Some y → x ≡ y
some_is x y e = cc

-- the last of a list
pub at_end : {X : Type 0} (xs : List X) (y : X) → slice_get (xs ++ y ∷ []) (length xs) ≡ Some y
at_end [] y = refl
at_end (x ∷ xs) y = at_end xs y

pub last_or_before : {X : Type 0} (xs : List X) (y : X) (i : ℕ) (x : X) → slice_get (xs ++ y ∷ []) i ≡ Some x → (slice_get xs i ≡ Some x) ⊎ ((i ≡ length xs) × (x ≡ y))
last_or_before [] y zero x h = let e : x ≡ y = cc in inr (refl, e)
last_or_before [] y (suc i) x h = absurd (cc)
last_or_before (z ∷ xs) y zero x h = inl h
last_or_before (z ∷ xs) y (suc i) x h = elim (last_or_before xs y i x h) [ inl b ↦ inl b | inr e ↦ inr (ap (λ (n : ℕ). suc n) e.0, e.1) ]

-- the nonterminals on the left of one production more
lefts_more : (ps : List Production) (p : Production) → lefts_of (ps ++ p ∷ []) ≡ lefts_of ps ++ p.left.0 ∷ []
lefts_more [] p = refl
lefts_more (q ∷ ps) p = ap (λ (ns : List ℕ). q.left.0 ∷ ns) (lefts_more ps p)

lefts_below : (count : ℕ) (ps : List Production) → AreBelow count ps → All (λ (k : ℕ). k < count) (lefts_of ps)
lefts_below count [] below = All-nil (λ (k : ℕ). k < count)
lefts_below count (p ∷ ps) below =
    All-cons (λ (k : ℕ). k < count) p.left.0 (lefts_of ps) (left_below count (p ∷ ps) p below (contained (p ∷ ps) 0 p refl)) (lefts_below count ps (all_from (production_below count) ps (λ q c. all_at (production_below count) (p ∷ ps) q below (behind q c))))
  where
    behind : (q : Production) → Contains ps q → Contains (p ∷ ps) q
    behind q c = (suc c.0, omega (arith, c.1), c.2)

pub below_more : (n : ℕ) (ps : List Production) (p : Production) → AreBelow n ps → production_below n p ≡ true → AreBelow n (ps ++ p ∷ [])
below_more n ps p all one = all_from (production_below n) (ps ++ p ∷ []) (λ q c. elim (Contains-push_cases ps p q c) [
  | inl old ↦ all_at (production_below n) ps q all old
  | inr same ↦ subst (λ (x : Production). production_below n x ≡ true) same one
])

pub below_higher : (n m : ℕ) (ps : List Production) → n ≤ m → AreBelow n ps → AreBelow m ps
below_higher n m ps le all = all_from (production_below m) ps (λ p c. higher n m le p (all_at (production_below n) ps p all c))

pub puts_one : (old new : Draft) (p : Production) → IsIndexed old → production_below (length old.chains.last.items) p ≡ true → new.productions.items ≡ old.productions.items ++ p ∷ [] → length new.chains.last.items ≡ length old.chains.last.items
    → ((keys : List ℕ) → AreChains keys old.chains.last.items old.chains.before.items → AreChains (keys ++ p.left.0 ∷ []) new.chains.last.items new.chains.before.items) → Puts old new p
puts_one old new p indexed below is len more = record {
  indexed = record {
    places = subst (λ (ps : List Production). AreProductionsOf ps new.chains) (sym is)
        (subst (λ (keys : List ℕ). AreChains keys new.chains.last.items new.chains.before.items) (sym (lefts_more old.productions.items p)) (more (lefts_of old.productions.items) indexed.places));
    below = subst (λ (n : ℕ). AreBelow n new.productions.items) (sym len) (subst (λ (ps : List Production). AreBelow (length old.chains.last.items) ps) (sym is) (below_more (length old.chains.last.items) old.productions.items p indexed.below below));
  };
  productions = is;
  count = len;
}

-- so many nonterminals more, without productions
pub widens_by : (old new : Draft) (count : ℕ) → IsIndexed old → new.productions.items ≡ old.productions.items → length new.chains.last.items ≡ length old.chains.last.items + count
    → ((keys : List ℕ) → All (λ k. k < length old.chains.last.items) keys → AreChains keys old.chains.last.items old.chains.before.items → AreChains keys new.chains.last.items new.chains.before.items) → Widens old new count
widens_by old new count indexed same len wider = record {
  indexed = record {
    places = subst (λ (ps : List Production). AreProductionsOf ps new.chains) (sym same) (wider (lefts_of old.productions.items) (lefts_below (length old.chains.last.items) old.productions.items indexed.below) indexed.places);
    below = subst (λ (ps : List Production). AreBelow (length new.chains.last.items) ps) (sym same) (below_higher (length old.chains.last.items) (length new.chains.last.items) old.productions.items (omega (arith, len)) indexed.below);
  };
  productions = same;
  more = len;
}

-- one production more
pub one_longer : (old new : Draft) (p : Production) → Puts old new p → length new.productions.items ≡ length old.productions.items + 1
one_longer old new p puts = ap length puts.productions ∙ length-append old.productions.items (p ∷ [])

pub puts_none : (d : Draft) → IsIndexed d → PutsAll d d []
puts_none d indexed = record { indexed = indexed; productions = sym (after_all d.productions.items); count = refl }
  where
    after_all : {X : Type 0} (xs : List X) → xs ++ [] ≡ xs
    after_all [] = refl
    after_all (x ∷ xs) = ap (λ (ys : List _). x ∷ ys) (after_all xs)

pub puts_more : (old mid new : Draft) (ps qs : List Production) (p : Production) → PutsAll old mid ps → Puts mid new p → qs ≡ ps ++ p ∷ [] → PutsAll old new qs
puts_more old mid new ps qs p before one is = record {
  indexed = one.indexed;
  productions = one.productions ∙ (ap (λ (xs : List Production). xs ++ p ∷ []) before.productions ∙ (append_assoc old.productions.items ps (p ∷ []) ∙ ap (λ (xs : List Production). old.productions.items ++ xs) (sym is)));
  count = one.count ∙ before.count;
}

-- the draft of the system alone
pub begins : (s : OpSystem) (d e : Draft) → length d.chains.last.items ≡ 0 → d.productions.items ≡ [] → Widens d e s.grammar.count → (f : Draft) → PutsAll e f s.grammar.productions.items → IsOfSystem s f
begins s d e len none w f p = record {
  indexed = p.indexed;
  productions = p.productions ∙ ap (λ (xs : List Production). xs ++ s.grammar.productions.items) (w.productions ∙ none);
  count = (let a = p.count in let b = w.more in omega arith);
}

pub draft_of_system : (s : OpSystem) (d : Draft) → IsOfSystem s d → IsDraftOf s d
draft_of_system s d is = record {
  indexed = is.indexed;
  is_draft = subst (λ (n : ℕ). IsDraft s d.productions.items n) (sym is.count) (subst (λ (ps : List Production). IsDraft s ps s.grammar.count) (sym is.productions) (draft_begins s));
}

pub system_drafted : (s : OpSystem) (d : Draft) → IsOfSystem s d → IsDraftedBy s d []
system_drafted s d is = subst (λ (n : ℕ). Drafted s d.productions.items n []) (sym is.count) (subst (λ (ps : List Production). Drafted s ps s.grammar.count []) (sym is.productions) Drafted.begins)

pub link_below : (n : ℕ) (left right : nt.Nt) → left.0 < n → right.0 < n → production_below n (link_of left right) ≡ true
link_below n left right l r = both_so (nat_lt left.0 n) _ (lt-ltb left.0 n l) (both_so (nat_lt right.0 n) true (lt-ltb right.0 n r) refl)
