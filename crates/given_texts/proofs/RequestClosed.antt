-- The productions of both grammars have exactly the texts that are given, and each symbol on a right side has a text.
use Rattle.std.proofs.Common.{◌≡◌, ◌<◌, ◌+◌, ◌&&◌, ◌↔◌, ℕ, Bool, true, List, [], ◌∷◌, ◌++◌, map, inl, inr, refl, sym, ◌∙◌, ap, subst, arith}
use Rattle.std.specs.Prelude.{Contains}
use Rattle.std.proofs.lemmas.Bool.{lt-ltb, and_parts}
use Rattle.std.proofs.lemmas.List.{map-append}
use Rattle.std.proofs.lemmas.List.Elements.{Contains-append_cases, All-contains}
use Rattle.std.proofs.lemmas.List.Sums.{AllPass-from_list_all}
use Rattle.text_base.specs.declared.numbers.Nt as nt
use Rattle.text_base.specs.declared.letter.Letter.{Letter}
use Rattle.text_base.specs.declared.letter.Letter.TheVariants.{OfByte}
use Rattle.cfg_grammar.specs.declared.symbol.Symbol.{Symbol}
use Rattle.cfg_grammar.specs.declared.symbol.Symbol.TheVariants.{Range, Token, Nt}
use Rattle.cfg_grammar.specs.declared.production.Right.{Right}
use Rattle.cfg_grammar.specs.declared.production.Right.TheVariants.{One, Two}
use Rattle.cfg_grammar.specs.declared.production.Production.{Production}
use Rattle.cfg_grammar.specs.Below.{AreBelow, symbols_of}
use Rattle.cfg_grammar.specs.Tokens.{HaveNoToken, is_no_token, production_without_token}
use Rattle.cfg_grammar.specs.Derives.{Derives}
use Rattle.given_texts.specs.Closed.{Closed, HasText, IsClosed}
use Rattle.useful_nonterminals.specs.Follows.{IsMarked}
use Rattle.useful_nonterminals.specs.Useful.{IsProductive}
use Rattle.given_texts.specs.Kept.{symbol_kept, kept}
use Rattle.given_texts.proofs.Kept.{marked_from, kept_from, moved_among}
use Rattle.given_texts.proofs.Joined.{IsHigh, lowered_symbol}
use Rattle.given_texts.proofs.Joined as joined

without_token : (ps : List Production) (p : Production) → HaveNoToken ps → Contains ps p → production_without_token p ≡ true
without_token ps p plain h = All-contains (λ (z : Production). production_without_token z ≡ true) ps p (AllPass-from_list_all production_without_token ps plain) h

-- a sentence of a grammar without page tokens is a text
plain_text : (ps : List Production) → HaveNoToken ps → (s : Symbol) (w : List Letter) → Derives ps s w → is_no_token s ≡ true → (u : List ℕ) × (w ≡ map OfByte u)
plain_text ps plain _ _ (Derives.by_range r b within) is = (b ∷ [], refl)
plain_text ps plain _ _ (Derives.by_token t) is = absurd (cc)
plain_text ps plain _ _ (Derives.by_empty left has) is = ([], refl)
plain_text ps plain _ w (Derives.by_one left a _ has d) is =
    plain_text ps plain a w d (and_parts (is_no_token a) true (without_token ps (record { left = left; right = One a }) plain has)).0
plain_text ps plain _ _ (Derives.by_two left a b v w has d e) is =
    let two = and_parts (is_no_token a) (is_no_token b && true) (without_token ps (record { left = left; right = Two a b }) plain has) in
    let x = plain_text ps plain a v d two.0 in
    let y = plain_text ps plain b w e (and_parts (is_no_token b) true two.1).0 in
    (x.0 ++ y.0, ap (λ (z : List Letter). z ++ w) x.1 ∙ ap (λ (z : List Letter). map OfByte x.0 ++ z) y.1 ∙ sym (map-append OfByte x.0 y.0))

module _ (base : ℕ) (marks : List Bool) (given : Closed) (asked : List ℕ → Type 0) (is : IsClosed given asked) (below : AreBelow base given.productions) (integer_below : given.integer < base) (ps : List Production) (start : nt.Nt) (plain : HaveNoToken ps)
    (exact : (a : nt.Nt) → IsMarked marks a.0 ↔ IsProductive ps a) where
  abbrev both : List Production
  both = given.productions ++ kept marks base ps

  symbol_text : (s : Symbol) → symbol_kept marks s ≡ true → is_no_token s ≡ true → (u : List ℕ) × HasText ps s u
  symbol_text (Range r) k t = (r.lo ∷ [], Derives.by_range r r.lo (omega arith, r.ordered))
  symbol_text (Token page) k t = absurd (cc)
  symbol_text (Nt a) k t =
      let d = (exact a).0 (marked_from marks a.0 k) in
      let u = plain_text ps plain (Nt a) d.0 d.1 refl in
      (u.0, subst (λ (w : List Letter). Derives ps (Nt a) w) u.1 d.1)

  of_both : (s : Symbol) (p : Production) → Contains (kept marks base ps) p → Contains (symbols_of p.right) s → (w : List ℕ) × HasText both s w
  of_both s p has there =
      let k = kept_from marks base ps p has in
      let t = moved_among base k.source.right s (subst (λ (q : Production). Contains (symbols_of q.right) s) (sym k.is) there) in
      let marked = All-contains (λ (z : Symbol). symbol_kept marks z ≡ true) (symbols_of k.source.right) t.0 (AllPass-from_list_all (symbol_kept marks) (symbols_of k.source.right) k.marked) t.1 in
      let untold = All-contains (λ (z : Symbol). is_no_token z ≡ true) (symbols_of k.source.right) t.0 (AllPass-from_list_all is_no_token (symbols_of k.source.right) (without_token ps k.source plain k.has)) t.1 in
      let u = symbol_text t.0 marked untold in
      (u.0, subst (λ (z : Symbol). HasText both z u.0) t.2 (joined.of_request base marks given.productions ps below exact t.0 (map OfByte u.0) u.1))

  live : (left : nt.Nt) (right : Right) → Contains both (record { left = left; right = right }) → (s : Symbol) → Contains (symbols_of right) s → (w : List ℕ) × HasText both s w
  live left right has s there =
      elim (Contains-append_cases given.productions (kept marks base ps) (record { left = left; right = right }) has) [
        | inl one ↦ let u = is.live left right one s there in (u.0, joined.of_given base marks given.productions ps below exact s (map OfByte u.0) u.1)
        | inr other ↦ of_both s (record { left = left; right = right }) other there
      ]

  high : IsHigh base (Nt (record { 0 = base + start.0 }))
  unfolding IsHigh
  high = omega arith

  pub is_closed : IsClosed (record { productions = both; request = base + start.0; integer = given.integer }) (HasText ps (Nt start))
  unfolding lowered_symbol
  is_closed = record {
    asked = λ w. (
      λ h. joined.of_request base marks given.productions ps below exact (Nt start) (map OfByte w) h,
      λ h. subst (λ (n : ℕ). HasText ps (Nt (record { 0 = n })) w) (omega arith) (joined.to_request base marks given.productions ps below exact (Nt (record { 0 = base + start.0 })) (map OfByte w) h high),
    );
    integers = λ w. (
      λ h. joined.of_given base marks given.productions ps below exact (Nt (record { 0 = given.integer })) (map OfByte w) ((is.integers w).0 h),
      λ h. (is.integers w).1 (joined.to_given base marks given.productions ps below exact (Nt (record { 0 = given.integer })) (map OfByte w) h (lt-ltb given.integer base integer_below)),
    );
    live = live;
  }
