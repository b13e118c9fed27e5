-- Writing productions one by one.
use Rattle.std.proofs.Common.{◌≡◌, ℕ, ◌+◌, ◌<◌, ◌≤◌, List, [], ◌∷◌, ◌++◌, length, take, take_all, get_or, Contains, sym, subst}
use Rattle.std.specs.List.{All}
use Rattle.std.proofs.lemmas.List.Elements.{All-nil, All-more, All-weaker, Contains-get_or, Contains-push}
use Rattle.cfg_grammar.specs.declared.production.Production.{Production}
use Rattle.numbered_sets.specs.Numbers.{Keeps}
use Rattle.chart_grammar.specs.Written.{WritesOne, WritesFirst, WritesAll}
use Rattle.chart_grammar.proofs.BehindLemmas.{behind_none, behind_same, behind_pushed, behind_both, behind_weaker, behind_keeps}

module _ {A X : Type 0} (Made : List X → A → Production → Type 0) (Has : List X → A → List Production → Type 0) where
  pub writes_none : (xs : List A) (w : List X) (old : List Production) → WritesFirst Made Has xs 0 w w old old
  writes_none xs w old = record { grows = λ n x h. h; puts = behind_none _ old; has = All-nil (λ (a : A). Has w a old) }

  module _ (made : (w v : List X) (a : A) (p : Production) → Keeps w v → Made w a p → Made v a p) (kept : (w v : List X) (a : A) (qs rs : List Production) → Keeps w v → ((p : Production) → Contains qs p → Contains rs p) → Has w a qs → Has v a rs) where
    pub writes_more : (xs : List A) (n : ℕ) (d : A) (w v u : List X) (old mid new : List Production) → n < length xs → WritesFirst Made Has xs n w v old mid → WritesOne Made Has (get_or xs n d) v u mid new → WritesFirst Made Has xs (n + 1) w u old new
    writes_more xs n d w v u old mid new h before one =
        record {
          grows = λ i x k. one.grows i x (before.grows i x k);
          puts = behind_both (λ (p : Production). (a : A) × Contains xs a × Made v a p) (λ (p : Production). (a : A) × Contains xs a × Made u a p) old mid new before.puts
              (λ p f. (f.0, f.1, made v u f.0 p one.grows f.2))
              (behind_weaker (λ (p : Production). Made u (get_or xs n d) p) (λ (p : Production). (a : A) × Contains xs a × Made u a p) mid new (λ p f. (get_or xs n d, Contains-get_or xs n d h, f)) one.puts);
          has = All-more (λ (a : A). Has u a new) xs n d h
              (All-weaker (λ (a : A). Has v a mid) (λ (a : A). Has u a new) (λ a k. kept v u a mid new one.grows (behind_keeps (λ (p : Production). Made u (get_or xs n d) p) mid new one.puts) k) (take n xs) before.has) one.has;
        }

    -- the same where the thing has a name of its own
    pub writes_more_at : (xs : List A) (n : ℕ) (a : A) (w v u : List X) (old mid new : List Production) → n < length xs → a ≡ get_or xs n a → WritesFirst Made Has xs n w v old mid → WritesOne Made Has a v u mid new → WritesFirst Made Has xs (n + 1) w u old new
    writes_more_at xs n a w v u old mid new h is before one =
        writes_more xs n a w v u old mid new h before (subst (λ (x : A). WritesOne Made Has x v u mid new) is one)

  pub writes_all : (xs : List A) (n : ℕ) (w v : List X) (old new : List Production) → length xs ≤ n → WritesFirst Made Has xs n w v old new → WritesAll Made Has xs w v old new
  writes_all xs n w v old new h so =
      record {
        grows = so.grows;
        puts = so.puts;
        has = subst (λ (ys : List A). All (λ (a : A). Has v a new) ys) (take_all n xs h) so.has;
      }

  -- one production is pushed
  pub writes_push : (a : A) (w v : List X) (old new : List Production) (p : Production) → Keeps w v → new ≡ old ++ p ∷ [] → Made v a p → Has v a new → WritesOne Made Has a w v old new
  writes_push a w v old new p grows is m has =
      record {
        grows = grows;
        puts = behind_pushed (λ (x : Production). Made v a x) old new p is m;
        has = has;
      }

  -- nothing is written
  pub writes_nothing : (a : A) (w v : List X) (old new : List Production) → Keeps w v → new ≡ old → Has v a new → WritesOne Made Has a w v old new
  writes_nothing a w v old new grows is has =
      record {
        grows = grows;
        puts = behind_same (λ (x : Production). Made v a x) old new is;
        has = has;
      }

pub pushed_in : (old new : List Production) (p : Production) → new ≡ old ++ p ∷ [] → Contains new p
pushed_in old new p is = subst (λ (xs : List Production). Contains xs p) (sym is) (Contains-push old p)
