-- Images that are added.
use Rattle.std.proofs.Common.{◌≡◌, ◌<◌, ◌≤◌, ◌+◌, ℕ, true, false, List, [], ◌∷◌, length, Some, slice_get, Contains, inl, inr, refl, sym, ◌∙◌, ap, subst, arith}
use Rattle.std.specs.Prelude.{nat_lt}
use Rattle.std.specs.List.{list_all}
use Rattle.std.proofs.lemmas.Bool.{ltb-true, lt-ltb, cases_eq}
use Rattle.std.proofs.lemmas.Option.{slice_get_within}
use Rattle.text_base.specs.declared.numbers.Nt as nt
use Rattle.cfg_grammar.specs.declared.symbol.Symbol.{Symbol}
use Rattle.cfg_grammar.specs.declared.symbol.Symbol.TheVariants.{Range, Token, Nt}
use Rattle.cfg_grammar.specs.declared.production.Right.{Right}
use Rattle.cfg_grammar.specs.declared.production.Right.TheVariants.{Empty, One, Two}
use Rattle.cfg_grammar.specs.declared.production.Production.{Production}
use Rattle.cfg_grammar.specs.declared.grammar.Grammar.{Grammar}
use Rattle.cfg_grammar.specs.Below.{symbols_of, symbol_below, production_below, AreBelow}
use Rattle.cfg_grammar.specs.Tokens.{production_without_token}
use Rattle.resolving.specs.Drafts.{AddsImage, IsImageProduction, link_of, moved, moved_symbol, moved_right}
use Rattle.resolving.proofs.LetterLemmas.{first_in, later_in, contained, placed, all_at, first_so, second_so, both_so}
use Rattle.resolving.proofs.DraftLawLemmas.{left_below, right_below}
use Rattle.resolving.specs.declared.draft.Draft.{Draft}
use Rattle.resolving.proofs.DraftLemmas.{some_is, one_longer}
use Rattle.resolving.specs.Draft.{IsIndexed, Puts, Widens}
use Rattle.resolving.specs.Images.{FitsSymbol, FitsProduction, AddsProductions, AddsMoved}
use Rattle.resolving.proofs.AnyLemmas.{kept_by, has_new, old_or_new}

pub one_fits : (base : ℕ) (p : Production) (a : Symbol) → FitsProduction base p → p.right ≡ One a → FitsSymbol base a
one_fits base p a fits is x e = fits.right x (subst (λ (r : Right). Contains (symbols_of r) (Nt x)) (sym is) (subst (λ (y : Symbol). Contains (y ∷ []) (Nt x)) (sym e) (first_in (Nt x) [])))

pub first_fits : (base : ℕ) (p : Production) (a b : Symbol) → FitsProduction base p → p.right ≡ Two a b → FitsSymbol base a
first_fits base p a b fits is x e = fits.right x (subst (λ (r : Right). Contains (symbols_of r) (Nt x)) (sym is) (subst (λ (y : Symbol). Contains (y ∷ b ∷ []) (Nt x)) (sym e) (first_in (Nt x) (b ∷ []))))

pub second_fits : (base : ℕ) (p : Production) (a b : Symbol) → FitsProduction base p → p.right ≡ Two a b → FitsSymbol base b
second_fits base p a b fits is x e = fits.right x (subst (λ (r : Right). Contains (symbols_of r) (Nt x)) (sym is) (subst (λ (y : Symbol). Contains (a ∷ y ∷ []) (Nt x)) (sym e) (later_in a (Nt x ∷ []) (Nt x) (first_in (Nt x) []))))

pub production_fits : (base count : ℕ) (qs : List Production) (q : Production) → AreBelow count qs → Contains qs q → base + count < 18446744073709551616 → FitsProduction base q
production_fits base count qs q below among room = record {
  left = (let l = left_below count qs q below among in omega arith);
  right = λ a on. (let l = right_below count qs q a below among on in omega arith);
}

moved_symbol_below : (base count n : ℕ) → base + count ≤ n → (x : Symbol) → symbol_below count x ≡ true → symbol_below n (moved_symbol base x) ≡ true
moved_symbol_below base count n room (Range r) h = refl
moved_symbol_below base count n room (Token k) h = refl
moved_symbol_below base count n room (Nt a) h = lt-ltb (base + a.0) n (let l = ltb-true a.0 count h in omega arith)

moved_right_below : (base count n : ℕ) → base + count ≤ n → (right : Right) → list_all (symbol_below count) (symbols_of right) ≡ true → list_all (symbol_below n) (symbols_of (moved_right base right)) ≡ true
moved_right_below base count n room Empty h = refl
moved_right_below base count n room (One x) h = both_so (symbol_below n (moved_symbol base x)) true (moved_symbol_below base count n room x (first_so (symbol_below count x) true h)) refl
moved_right_below base count n room (Two x y) h =
    both_so (symbol_below n (moved_symbol base x)) _ (moved_symbol_below base count n room x (first_so (symbol_below count x) _ h))
    (both_so (symbol_below n (moved_symbol base y)) true (moved_symbol_below base count n room y (first_so (symbol_below count y) true (second_so (symbol_below count x) _ h))) refl)

pub moved_below : (base count n : ℕ) (qs : List Production) (q : Production) → AreBelow count qs → Contains qs q → base + count ≤ n → production_below n (moved base q) ≡ true
moved_below base count n qs q below among room =
    let t = all_at (production_below count) qs q below among in
    let l = left_below count qs q below among in
    both_so (nat_lt (base + q.left.0) n) _ (lt-ltb (base + q.left.0) n (omega arith)) (moved_right_below base count n room q.right (second_so (nat_lt q.left.0 count) (list_all (symbol_below count) (symbols_of q.right)) t))

pub moved_none : (base : ℕ) (qs : List Production) (d : Draft) → IsIndexed d → AddsProductions base qs 0 d d
moved_none base qs d indexed = record { indexed = indexed; count = refl; few = omega arith; keeps = λ p c. c; only = λ p c. inl c; has = λ k q lt at plain. absurd (omega arith) }

true_false : true ≡ false → ⊥
true_false e = cc

pub moved_skip : (base : ℕ) (qs : List Production) (n : ℕ) (q : Production) (old mid : Draft) → slice_get qs n ≡ Some q → production_without_token q ≡ false → AddsProductions base qs n old mid → AddsProductions base qs (n + 1) old mid
moved_skip base qs n q old mid at none b = record {
  indexed = b.indexed;
  count = b.count;
  few = (let l = b.few in omega arith);
  keeps = b.keeps;
  only = b.only;
  has = λ k r lt found plain. elim (cases_eq k n) [
    | inl e ↦ absurd (true_false (sym plain ∙ (ap production_without_token (some_is _ _ (sym found ∙ (ap (slice_get qs) e ∙ at))) ∙ none)))
    | inr other ↦ b.has k r (omega arith) found plain
  ];
}

pub moved_more : (base : ℕ) (qs : List Production) (n : ℕ) (q : Production) (old mid new : Draft) → slice_get qs n ≡ Some q → production_without_token q ≡ true → AddsProductions base qs n old mid → Puts mid new (moved base q) → AddsProductions base qs (n + 1) old new
moved_more base qs n q old mid new at plain b one = record {
  indexed = one.indexed;
  count = one.count ∙ b.count;
  few = (let l = b.few in let e = one_longer mid new (moved base q) one in omega arith);
  keeps = λ p c. kept_by mid new (moved base q) p one (b.keeps p c);
  only = λ p c. elim (old_or_new mid new (moved base q) p one c) [
    | inl o ↦ b.only p o
    | inr e ↦ inr (record { from = q; among = contained qs n q at; plain = plain; is = sym e })
  ];
  has = λ k r lt found so. elim (cases_eq k n) [
    | inl e ↦ subst (λ (x : Production). Contains new.productions.items (moved base x)) (some_is _ _ (sym at ∙ (ap (slice_get qs) (sym e) ∙ found))) (has_new mid new (moved base q) one)
    | inr other ↦ kept_by mid new (moved base q) (moved base r) one (b.has k r (omega arith) found so)
  ];
}

pub grammar_added : (left : nt.Nt) (image : Grammar) (base : ℕ) (old a b new : Draft) → base ≡ length old.chains.last.items → Widens old a image.count → Puts a b (link_of left (record { 0 = base + image.start.0 }))
    → AddsProductions base image.productions.items (length image.productions.items) b new → AddsMoved left image old new
grammar_added left image base old a b new is wide link all = record {
  indexed = all.indexed;
  count = (let p = all.count in let r = link.count in let w = wide.more in omega arith);
  few = (let l = all.few in let e = one_longer a b (link_of left (record { 0 = base + image.start.0 })) link in let g : length a.productions.items ≡ length old.productions.items = ap length wide.productions in omega arith);
  adds = subst (λ (n : ℕ). AddsImage old.productions.items left n image new.productions.items) is adds;
}
  where
    only_b : (p : Production) → Contains b.productions.items p → IsImageProduction old.productions.items left base image p
    only_b p h = elim (old_or_new a b (link_of left (record { 0 = base + image.start.0 })) p link h) [
      | inl o ↦ IsImageProduction.before (subst (λ (ps : List Production). Contains ps p) wide.productions o)
      | inr e ↦ IsImageProduction.links (sym e)
    ]

    adds : AddsImage old.productions.items left base image new.productions.items
    adds = record {
      keeps = λ p h. all.keeps p (kept_by a b (link_of left (record { 0 = base + image.start.0 })) p link (subst (λ (ps : List Production). Contains ps p) (sym wide.productions) h));
      only = λ p h. elim (all.only p h) [ inl o ↦ only_b p o | inr m ↦ IsImageProduction.moves m.from m.among m.plain m.is ];
      link = all.keeps (link_of left (record { 0 = base + image.start.0 })) (has_new a b (link_of left (record { 0 = base + image.start.0 })) link);
      has = λ q among plain. (let at = placed image.productions.items q among in all.has at.0 q (slice_get_within image.productions.items at.0 q at.1) at.1 plain);
    }
