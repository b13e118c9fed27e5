-- Sums of small token lists: a page `a` that holds any number of `b`, with white space between them, and text in `b`
-- alone. States: 0 in a, 1 in b, 2 before the page, 3 behind its root.
use Rattle.std.proofs.Common.{◌≡◌, ℕ, zero, suc, ◌<◌, Bool, [], ◌∷◌, Option, Some, None, refl, sym, ap, subst, arith, true, false}
use Rattle.text_base.specs.declared.page_token.PageToken.TheVariants.{Doctype, Blank, Text, Misc, Bad}
use Rattle.tag_sums.specs.Labels.{Label, child, other, blank, text}
use Rattle.tag_sums.specs.Automaton.{Automaton, IsAutomaton}
use Rattle.tag_sums.specs.Trees.{start_tag, end_tag, IsPage, mark, element, no_nodes}
use Rattle.tag_sums.specs.Sum.{broken, reduced, sum_of, tag_count}
use Rattle.tag_sums.specs.Nesting.{torn, nest, nest_of}

abbrev small_init : ℕ → Option ℕ
small_init zero = Some 0
small_init (suc zero) = Some 1
small_init (suc (suc e)) = None

abbrev small_step : ℕ → Label → Option ℕ
small_step zero (child (suc zero)) = Some 0
small_step zero (other blank) = Some 0
small_step (suc zero) (other text) = Some 1
small_step (suc zero) (other blank) = Some 1
small_step (suc (suc zero)) (child zero) = Some 3
small_step (suc (suc zero)) (other blank) = Some 2
small_step (suc (suc (suc zero))) (other blank) = Some 3
small_step q l = None

abbrev small_closes : ℕ → ℕ → Bool
small_closes zero zero = true
small_closes (suc zero) (suc zero) = true
small_closes e q = false

abbrev small_owner : ℕ → ℕ
small_owner zero = 0
small_owner (suc zero) = 1
small_owner (suc (suc q)) = 2

abbrev small : Automaton
small = record {
  count = 4;
  init = small_init;
  step = small_step;
  closes = small_closes;
  owner = small_owner;
  page_start = 2;
  page_done = 3;
}

-- `<a> <b>t</b></a>` is whole, and it is the page of a tree
whole : sum_of small (start_tag 0 ∷ Blank ∷ start_tag 1 ∷ Text ∷ end_tag 1 ∷ end_tag 0 ∷ []) ≡ reduced [] (None ∷ None ∷ Some 3 ∷ None ∷ []) []
whole = refl

page : IsPage small (start_tag 0 ∷ Blank ∷ start_tag 1 ∷ Text ∷ end_tag 1 ∷ end_tag 0 ∷ [])
page = (element 0 (mark blank (element 1 (mark text no_nodes) no_nodes)) no_nodes, refl, ((0, 0, refl, refl, refl), ((1, 1, refl, refl, refl), tt, tt), tt), refl)

-- no token leaves each state, which is no page
none : sum_of small [] ≡ reduced [] (Some 0 ∷ Some 1 ∷ Some 2 ∷ Some 3 ∷ []) []
none = refl

-- text may not stand in a
bad_text : sum_of small (start_tag 0 ∷ Text ∷ end_tag 0 ∷ []) ≡ broken
bad_text = refl

-- neither may an a
bad_child : sum_of small (start_tag 0 ∷ start_tag 0 ∷ end_tag 0 ∷ end_tag 0 ∷ []) ≡ broken
bad_child = refl

-- nor a comment anywhere, which this automaton never reads
bad_mark : sum_of small (Misc ∷ []) ≡ broken
bad_mark = refl

-- `t</b> <b>t` has a closer whose set is {1}, a middle that leads from 0 to 0, and an opener in state 1
left : sum_of small (Text ∷ end_tag 1 ∷ Blank ∷ start_tag 1 ∷ Text ∷ []) ≡ reduced ((false ∷ true ∷ false ∷ false ∷ []) ∷ []) (Some 0 ∷ None ∷ None ∷ None ∷ []) (1 ∷ [])
left = refl

left_count : tag_count (sum_of small (Text ∷ end_tag 1 ∷ Blank ∷ start_tag 1 ∷ Text ∷ [])) ≡ 2
left_count = refl

-- tags that cross, a tag of an element that is not declared, and bytes that are no markup
crossed : sum_of small (start_tag 0 ∷ start_tag 1 ∷ end_tag 0 ∷ []) ≡ broken
crossed = refl

undeclared : sum_of small (start_tag 2 ∷ end_tag 2 ∷ []) ≡ broken
undeclared = refl

no_markup : sum_of small (start_tag 0 ∷ Bad ∷ []) ≡ broken
no_markup = refl

-- for nesting alone a in a is as good as any
nested : nest_of (start_tag 0 ∷ start_tag 0 ∷ Text ∷ end_tag 0 ∷ end_tag 0 ∷ []) ≡ nest [] []
nested = refl

nested_left : nest_of (end_tag 1 ∷ Doctype ∷ end_tag 0 ∷ start_tag 2 ∷ start_tag 3 ∷ []) ≡ nest (1 ∷ 0 ∷ []) (3 ∷ 2 ∷ [])
nested_left = refl

nested_crossed : nest_of (start_tag 0 ∷ start_tag 1 ∷ end_tag 0 ∷ end_tag 1 ∷ []) ≡ torn
nested_crossed = refl

-- the laws can be met
lawful : IsAutomaton small
lawful =
    record {
      init_below = below;
      step_below = λ q r l h. (steps q r l h).0;
      start_below = omega arith;
      init_own = own;
      step_own = λ q r l h. (steps q r l h).1;
      closes_own = shuts;
    }
  where
    below : (e q : ℕ) → small_init e ≡ Some q → q < 4
    below zero q h = let f : q ≡ 0 = cc in omega (arith, f)
    below (suc zero) q h = let f : q ≡ 1 = cc in omega (arith, f)
    below (suc (suc e)) q h = cc

    to : (q r k : ℕ) → k < 4 → small_owner k ≡ small_owner q → Some k ≡ Some r → (r < 4) × (small_owner r ≡ small_owner q)
    to q r k l o h =
        let f : k ≡ r = cc in
        subst (λ (x : ℕ). (x < 4) × (small_owner x ≡ small_owner q)) f (l, o)

    steps : (q r : ℕ) (l : Label) → small_step q l ≡ Some r → (r < 4) × (small_owner r ≡ small_owner q)
    steps zero r (child zero) h = cc
    steps zero r (child (suc zero)) h = to zero r 0 (omega arith) refl h
    steps zero r (child (suc (suc e))) h = cc
    steps zero r (other blank) h = to zero r 0 (omega arith) refl h
    steps (suc zero) r (other text) h = to (suc zero) r 1 (omega arith) refl h
    steps (suc zero) r (other blank) h = to (suc zero) r 1 (omega arith) refl h
    steps (suc (suc zero)) r (child zero) h = to (suc (suc zero)) r 3 (omega arith) refl h
    steps (suc (suc zero)) r (other blank) h = to (suc (suc zero)) r 2 (omega arith) refl h
    steps (suc (suc (suc zero))) r (other blank) h = to (suc (suc (suc zero))) r 3 (omega arith) refl h
    steps q r l h = cc

    own : (e q : ℕ) → small_init e ≡ Some q → small_owner q ≡ e
    own zero q h = let f : 0 ≡ q = cc in ap small_owner (sym f)
    own (suc zero) q h = let f : 1 ≡ q = cc in ap small_owner (sym f)
    own (suc (suc e)) q h = cc

    shuts : (e q : ℕ) → small_closes e q ≡ true → small_owner q ≡ e
    shuts zero zero h = refl
    shuts (suc zero) (suc zero) h = refl
    shuts e q h = cc
