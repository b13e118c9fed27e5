-- Where a machine puts out no tags, the tokens of a sentence have one of two sums, so that no limit is passed.
use Rattle.std.proofs.Common.{◌≡◌, ◌≢◌, ◌⊎◌, inl, inr, ℕ, ◌≤◌, ◌<◌, true, List, [], ◌∷◌, ◌++◌, length, AllPairs, Contains, refl, sym, ◌∙◌, ap, subst, append-nil, append_assoc, arith}
use Rattle.std.specs.List.{list_all}
use Rattle.std.proofs.lemmas.Bool.{and_parts}
use Rattle.std.proofs.lemmas.List.Folds.{list_all-append}
use Rattle.text_base.specs.declared.letter.Letter.{Letter}
use Rattle.text_base.specs.declared.numbers.Nt as nt
use Rattle.text_base.specs.declared.page_token.PageToken.{PageToken}
use Rattle.text_base.specs.declared.page_token.PageToken.TheVariants.{Doctype, Start, End, Blank, Text, Misc, Bad}
use Rattle.cfg_grammar.specs.declared.symbol.Symbol.TheVariants.{Nt}
use Rattle.cfg_grammar.specs.declared.production.Production.{Production}
use Rattle.cfg_grammar.specs.declared.grammar.Grammar.{Grammar}
use Rattle.cfg_grammar.specs.Derives.{Derives, by_one, by_two}
use Rattle.useful_nonterminals.specs.Useful.{IsUseful, at_start, alone, as_first, as_second}
use Rattle.tag_sums.specs.Nesting.{Nest, torn, nest, join, nest_of, is_balanced, nest_count}
use Rattle.summary_decision.specs.Pairs.{tokens_in, IsPair}
use Rattle.summary_decision.proofs.ClosedLemmas.{tokens_append}
use Rattle.summary_decision.proofs.MadeLemmas.{derives_of}
use Rattle.page_decision.specs.Echoes.{EchoTexts}
use Rattle.page_decision.specs.TextVerdicts.{HasManySums, HasManyTags, NoneFound, are_whole, many_sums, many_tags}
use Rattle.page_decision.specs.Machines.{is_no_tag, PutsNoTags}
use Rattle.page_decision.specs.PageVerdicts.{AreAllNested}

-- letters round what a useful nonterminal derives, with which it is a sentence of the start
record Around (ps : List Production) (start a : nt.Nt) : Type 0 where
  before : List Letter
  behind : List Letter
  whole : (w : List Letter) → Derives ps (Nt a) w → Derives ps (Nt start) (before ++ (w ++ behind))

around : (ps : List Production) (start a : nt.Nt) → IsUseful ps start a → Around ps start a
around ps start _ (at_start w d) = record { before = []; behind = []; whole = λ v e. subst (Derives ps (Nt start)) (sym (append-nil v)) e }
around ps start _ (alone left a w useful has d) =
    let r = around ps start left useful in
    record { before = r.before; behind = r.behind; whole = λ v e. r.whole v (by_one left (Nt a) v has e) }
around ps start _ (as_first left a b v w useful has d e) =
    let r = around ps start left useful in
    record {
      before = r.before;
      behind = w ++ r.behind;
      whole = λ u f. subst (λ (x : List Letter). Derives ps (Nt start) (r.before ++ x)) (append_assoc u w r.behind) (r.whole (u ++ w) (by_two left (Nt a) b u w has f e));
    }
around ps start _ (as_second left a b v w useful has d e) =
    let r = around ps start left useful in
    record {
      before = r.before ++ v;
      behind = r.behind;
      whole = λ u f.
          subst (Derives ps (Nt start)) (ap (λ (x : List Letter). r.before ++ x) (append_assoc v u r.behind) ∙ sym (append_assoc r.before v (u ++ r.behind)))
          (r.whole (v ++ u) (by_two left b (Nt a) v u has d f));
    }

-- nothing is unmatched, or a token is bad
IsSmall : Nest → Type 0
IsSmall s = (s ≡ nest [] []) ⊎ (s ≡ torn)

small_more : (n : Nest) → IsSmall n → IsSmall (join (nest [] []) n)
unfolding IsSmall
small_more n (inl e) = inl (ap (λ (m : Nest). join (nest [] []) m) e)
small_more n (inr e) = inr (ap (λ (m : Nest). join (nest [] []) m) e)

small_sum : (ts : List PageToken) → list_all is_no_tag ts ≡ true → IsSmall (nest_of ts)
unfolding IsSmall
small_sum [] h = inl refl
small_sum (Bad ∷ ts) h = inr refl
small_sum (Start e ∷ ts) h = cc
small_sum (End e ∷ ts) h = cc
small_sum (Doctype ∷ ts) h = small_more (nest_of ts) (small_sum ts h)
small_sum (Blank ∷ ts) h = small_more (nest_of ts) (small_sum ts h)
small_sum (Text ∷ ts) h = small_more (nest_of ts) (small_sum ts h)
small_sum (Misc ∷ ts) h = small_more (nest_of ts) (small_sum ts h)

-- no three such sums are different
two_alone : (x y z : Nest) → IsSmall x → IsSmall y → IsSmall z → x ≢ y → x ≢ z → y ≢ z → ⊥
unfolding IsSmall
two_alone x y z (inl a) (inl b) c p q r = p (a ∙ sym b)
two_alone x y z (inl a) (inr b) (inl c) p q r = q (a ∙ sym c)
two_alone x y z (inl a) (inr b) (inr c) p q r = r (b ∙ sym c)
two_alone x y z (inr a) (inl b) (inl c) p q r = r (b ∙ sym c)
two_alone x y z (inr a) (inl b) (inr c) p q r = q (a ∙ sym c)
two_alone x y z (inr a) (inr b) c p q r = p (a ∙ sym b)

few_sums : (sums : List Nest) → 2 < length sums → AllPairs (λ x y. x ≢ y) sums → ((s : Nest) → Contains sums s → IsSmall s) → ⊥
few_sums [] l different small = omega arith
few_sums (x ∷ []) l different small = omega arith
few_sums (x ∷ y ∷ []) l different small = omega arith
few_sums (x ∷ y ∷ z ∷ more) l different small =
    two_alone x y z (small x (0, omega arith, refl)) (small y (1, omega arith, refl)) (small z (2, omega arith, refl))
    (different 0 1 x (omega arith) (omega arith)) (different 0 2 x (omega arith) (omega arith)) (different 1 2 x (omega arith) (omega arith))

small_count : (s : Nest) → IsSmall s → nest_count s ≡ 0
unfolding IsSmall
small_count s (inl e) = ap nest_count e
small_count s (inr e) = ap nest_count e

module _ (IsPage : List ℕ → Type 0) (HasTokens : List ℕ → List PageToken → Type 0) (no_tags : PutsNoTags IsPage HasTokens) where
  -- no tags are among the tokens of what a useful nonterminal derives
  within : (ps : List Production) (start a : nt.Nt) (w : List Letter) → EchoTexts IsPage HasTokens ps start → IsUseful ps start a → Derives ps (Nt a) w → list_all is_no_tag (tokens_in w) ≡ true
  within ps start a w echo useful d =
      let r = around ps start a useful in
      let whole : List Letter = r.before ++ (w ++ r.behind) in
      let is : Derives ps (Nt start) whole = r.whole w d in
      let all : list_all is_no_tag (tokens_in whole) ≡ true = no_tags _ (tokens_in whole) (echo.texts whole is) (echo.tokens whole is) in
      let cut : tokens_in whole ≡ tokens_in r.before ++ (tokens_in w ++ tokens_in r.behind) = tokens_append r.before (w ++ r.behind) ∙ ap (λ (x : List PageToken). tokens_in r.before ++ x) (tokens_append w r.behind) in
      let parts = and_parts (list_all is_no_tag (tokens_in r.before)) (list_all is_no_tag (tokens_in w ++ tokens_in r.behind)) (sym (list_all-append is_no_tag (tokens_in r.before) (tokens_in w ++ tokens_in r.behind)) ∙ sym (ap (list_all is_no_tag) cut) ∙ all) in
      (and_parts (list_all is_no_tag (tokens_in w)) (list_all is_no_tag (tokens_in r.behind)) (sym (list_all-append is_no_tag (tokens_in w) (tokens_in r.behind)) ∙ parts.1)).0

  small_pair : (ps : List Production) (start a : nt.Nt) (k : ℕ) (s : Nest) → EchoTexts IsPage HasTokens ps start → IsPair nest_of ps start k a s → IsSmall s
  small_pair ps start a k s echo pair =
      let (h, l, d) = pair.derived in
      subst IsSmall pair.same (small_sum (tokens_in pair.sentence) (within ps start a pair.sentence echo pair.useful (derives_of ps (Nt a) pair.sentence h d)))

  module _ (IsImage : Grammar → Type 0) where
    no_many : (limit count height : ℕ) → 2 ≤ limit → HasManySums IsPage HasTokens nest_of is_balanced IsImage limit count height → ⊥
    no_many limit count height two h =
        let (a, sums, long, different, each) = h.sums in
        let over = h.over in
        few_sums sums (omega arith) different (λ s c. small_pair h.image.productions.items h.image.start a height s h.echo (each s c))

    no_tagged : (count height : ℕ) → HasManyTags IsPage HasTokens nest_of is_balanced IsImage nest_count count height → ⊥
    no_tagged count height h =
        let none : nest_count h.sum ≡ 0 = small_count h.sum (small_pair h.image.productions.items h.image.start h.nonterminal height h.sum h.echo h.of_sentence) in
        let tagged = h.tagged in
        let over = h.over in
        omega arith

    pub all_nested : (limit : ℕ) → 2 ≤ limit → NoneFound IsPage HasTokens nest_of is_balanced IsImage nest_count limit → AreAllNested IsPage HasTokens
    all_nested limit two (are_whole all) = all
    all_nested limit two (many_sums count height h) = absurd (no_many limit count height two h)
    all_nested limit two (many_tags count height h) = absurd (no_tagged count height h)
