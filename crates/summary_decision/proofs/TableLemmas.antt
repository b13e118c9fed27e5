-- What a table keeps as a pair is noted.
use Rattle.std.proofs.Common.{◌≡◌, ◌≢◌, ℕ, zero, suc, ◌+◌, ◌-◌, ◌<◌, ◌≤◌, inl, inr, Bool, true, false, if◌then◌else◌, nat_eq, List, [], ◌∷◌, ◌++◌, length, get_or, set, Contains, refl, sym, ◌∙◌, ap, subst, arith, Some, slice_get, length-append}
use Rattle.std.specs.Cmp.{unsigned_Decides}
use Rattle.std.specs.List.{AllPairs}
use Rattle.std.proofs.lemmas.Bool.{cases_eq}
use Rattle.std.proofs.lemmas.List.{length-set}
use Rattle.std.proofs.lemmas.List.Elements.{Contains-append_cases, Contains-append_right, Contains-push_cases, Contains-get_or}
use Rattle.std.proofs.lemmas.List.Quantifiers.{all_pairs_push}
use Rattle.std.proofs.lemmas.Option.{same_Some, slice_get-get_or}
use Rattle.text_base.specs.declared.letter.Letter.{Letter}
use Rattle.text_base.specs.declared.page_token.PageToken.{PageToken}
use Rattle.text_base.specs.declared.numbers.Nt as nt
use Rattle.cfg_grammar.specs.declared.symbol.Symbol.TheVariants as symbol
use Rattle.cfg_grammar.specs.declared.production.Right.{Right}
use Rattle.cfg_grammar.specs.declared.production.Production.{Production}
use Rattle.derivations.specs.declared.node.Part.TheVariants.{Inner}
use Rattle.derivations.specs.declared.node.Parts.{Parts}
use Rattle.derivations.specs.declared.node.Node.{Node}
use Rattle.derivations.specs.Nodes.{parts_length}
use Rattle.derivations.specs.Stands.{Stands, IsDerivation}
use Rattle.numbered_sets.specs.Numbers.{Keeps}
use Rattle.numbered_sets.proofs.NumberLemmas.{at_front}
use Rattle.numbered_sets.proofs.PlaceLemmas.{slice_get-set_other, slice_get-set_same}
use Rattle.useful_nonterminals.specs.Useful.{IsUseful}
use Rattle.summary_decision.specs.declared.table.Table.{Table}
use Rattle.summary_decision.specs.declared.table.Join.{Join}
use Rattle.summary_decision.specs.Pairs.{tokens_in, HasPairs, AreWholeBelow}
use Rattle.summary_decision.specs.Closed.{Pair, HasSum}
use Rattle.summary_decision.specs.Tables.{known, sums_at, AreNumbered, IsJoin, AreJoins, Supports, IsMade, Makes, IsTable, GoesOn}
use Rattle.summary_decision.specs.Notes.{Notes}
use Rattle.summary_decision.proofs.ClosedLemmas.{contained, placed}
use Rattle.summary_decision.proofs.KnownLemmas.{at_cases, at_before}
use Rattle.summary_decision.proofs.MadeLemmas.{made_on, made_pair, node_supports, derives_of}

only : {X : Type 0} (y x : X) → Contains (y ∷ []) x → y ≡ x
only y x (zero, l, e) = e
only y x (suc n, l, e) = absurd (omega (arith, l))

none_in : {X : Type 0} (x : X) → Contains [] x → ⊥
none_in x c = absurd (omega (arith, c.1))

equal_true : (a b : ℕ) → a ≡ b → nat_eq a b ≡ true
equal_true a b e = (unsigned_Decides a b).1 e

equal_false : (a b : ℕ) → (a ≡ b → ⊥) → nat_eq a b ≡ false
equal_false a b other = by_test (nat_eq a b) refl
  where
    by_test : (t : Bool) → nat_eq a b ≡ t → t ≡ false
    by_test true e = absurd (other ((unsigned_Decides a b).0 e))
    by_test false e = refl

-- the sums of one nonterminal
module _ {S : Type 0} where
  if_push : (b : Bool) (t s : S) (l m : List S) → l ≡ m ++ s ∷ [] → (if b then t ∷ l else l) ≡ (if b then t ∷ m else m) ++ s ∷ []
  if_push true t s l m e = ap (λ (z : List S). t ∷ z) e
  if_push false t s l m e = e

  if_same : (b : Bool) (t : S) (l m : List S) → l ≡ m → (if b then t ∷ l else l) ≡ (if b then t ∷ m else m)
  if_same b t l m e = ap (λ (z : List S). if b then t ∷ z else z) e

  pub sums_at_same : (a : ℕ) (xs : List (Pair S)) (s : S) → sums_at a (xs ++ (a, s) ∷ []) ≡ sums_at a xs ++ s ∷ []
  sums_at_same a [] s = ap (λ (b : Bool). if b then s ∷ [] else []) (equal_true a a refl)
  sums_at_same a (y ∷ ys) s = if_push (nat_eq y.0 a) y.1 s (sums_at a (ys ++ (a, s) ∷ [])) (sums_at a ys) (sums_at_same a ys s)

  pub sums_at_other : (a b : ℕ) (xs : List (Pair S)) (s : S) → (b ≡ a → ⊥) → sums_at a (xs ++ (b, s) ∷ []) ≡ sums_at a xs
  sums_at_other a b [] s other = ap (λ (t : Bool). if t then s ∷ [] else []) (equal_false b a other)
  sums_at_other a b (y ∷ ys) s other = if_same (nat_eq y.0 a) y.1 (sums_at a (ys ++ (b, s) ∷ [])) (sums_at a ys) (sums_at_other a b ys s other)

  pub in_sums : (a : ℕ) (xs : List (Pair S)) (s : S) → Contains (sums_at a xs) s → Contains xs (a, s)
  in_sums a [] s c = absurd (none_in s c)
  in_sums a (y ∷ ys) s c = by_test (nat_eq y.0 a) refl (λ d. in_sums a ys s d) c
    where
      by_test : (b : Bool) → nat_eq y.0 a ≡ b → (Contains (sums_at a ys) s → Contains ys (a, s)) → Contains (if b then y.1 ∷ sums_at a ys else sums_at a ys) s → Contains (y ∷ ys) (a, s)
      by_test false e rest d = Contains-append_right (y ∷ []) ys (a, s) (rest d)
      by_test true e rest d =
          elim (Contains-append_cases (y.1 ∷ []) (sums_at a ys) s d) [
            | inl here ↦
                let one : y.1 ≡ s = only y.1 s here in
                let number : y.0 ≡ a = (unsigned_Decides y.0 a).0 e in
                let same : ◌≡◌ {A = Pair S} y (a, s) = ap (λ (n : ℕ). let p : Pair S = (n, y.1) in p) number ∙ ap (λ (t : S). let p : Pair S = (a, t) in p) one in
                subst (λ (z : Pair S). Contains (y ∷ ys) z) same (0, omega arith, refl)
            | inr later ↦ Contains-append_right (y ∷ []) ys (a, s) (rest later)
          ]

  if_short : (b : Bool) (t : S) (l : List S) (n : ℕ) → length l ≤ n → length (if b then t ∷ l else l) ≤ suc n
  if_short true t l n h = omega (arith, h)
  if_short false t l n h = omega (arith, h)

  pub sums_short : (a : ℕ) (xs : List (Pair S)) → length (sums_at a xs) ≤ length xs
  sums_short a [] = omega arith
  sums_short a (y ∷ ys) = if_short (nat_eq y.0 a) y.1 (sums_at a ys) (length ys) (sums_short a ys)

module _ {S : Type 0} (composed : S → S → S) where
  -- a composition that is noted is that of the sums with these numbers
  pub join_told : (sums : List S) (join : Join) (r : ℕ) (s t : S) → IsJoin composed sums join r → slice_get sums join.first ≡ Some s → slice_get sums join.second ≡ Some t → slice_get sums r ≡ Some (composed s t)
  join_told sums join r s t is first second =
      let one = same_Some is.0 s (sym is.2 ∙ first) in
      let two = same_Some is.1 t (sym is.3 ∙ second) in
      is.4 ∙ ap (λ (x : S). Some (composed x is.1)) one ∙ ap (λ (y : S). Some (composed s y)) two

  -- compositions stay noted as sums are added
  pub joins_kept : (sums more : List S) (joins after : List Join) (joined answers : List ℕ) → Keeps sums more → after ≡ joins → answers ≡ joined → AreJoins composed sums joins joined → AreJoins composed more after answers
  joins_kept sums more joins after joined answers keeps asked told h =
      record {
        long = ap length told ∙ (h.long ∙ sym (ap length asked));
        right = λ n r join at here.
            let k = h.right n r join (subst (λ (l : List Join). slice_get l n ≡ Some join) asked at) (subst (λ (l : List ℕ). slice_get l n ≡ Some r) told here) in
            (k.0, k.1, keeps join.first k.0 k.2, keeps join.second k.1 k.3, keeps r (composed k.0 k.1) k.4);
      }

  -- and one more
  pub joins_more : (sums more : List S) (joins after : List Join) (joined answers : List ℕ) (join : Join) (r : ℕ) → Keeps sums more → after ≡ joins ++ join ∷ [] → answers ≡ joined ++ r ∷ [] → IsJoin composed more join r → AreJoins composed sums joins joined → AreJoins composed more after answers
  joins_more sums more joins after joined answers join r keeps asked told is h =
      let longer = ap length asked ∙ length-append joins (join ∷ []) in
      let more_told = ap length told ∙ length-append joined (r ∷ []) in
      record {
        long = omega (arith, longer, more_told, h.long);
        right = λ n q other at here.
            elim (at_cases joins join n other (subst (λ (l : List Join). slice_get l n ≡ Some other) asked at)) [
              | inl k ↦ elim (at_cases joined r n q (subst (λ (l : List ℕ). slice_get l n ≡ Some q) told here)) [
                | inl i ↦
                    let j = h.right n q other k.1 i.1 in
                    (j.0, j.1, keeps other.first j.0 j.2, keeps other.second j.1 j.3, keeps q (composed j.0 j.1) j.4)
                | inr i ↦ absurd (omega (arith, k.0, i.0, h.long))
              ]
              | inr k ↦ elim (at_cases joined r n q (subst (λ (l : List ℕ). slice_get l n ≡ Some q) told here)) [
                | inl i ↦ absurd (omega (arith, k.0, i.0, h.long))
                | inr i ↦ subst (λ (x : Join). IsJoin composed more x q) k.1 (subst (λ (m : ℕ). IsJoin composed more join m) i.1 is)
              ]
            ];
      }

module _ {S : Type 0} (sum_of : List PageToken → S) (composed : S → S → S) (whole : S → Bool) (ps : List Production) (start : nt.Nt) where
  -- more sums and compositions change nothing else
  pub table_stays : (count : ℕ) (old new : Table S) → IsTable sum_of composed whole ps start count old → AreNumbered new.sums.keys new.entries.keys → AreJoins composed new.sums.keys new.joins.keys new.joined.items → known new ≡ known old → new.nodes.nodes.items ≡ old.nodes.nodes.items → new.counts.items ≡ old.counts.items → new.height ≡ old.height → new.bound ≡ old.bound → GoesOn sum_of composed whole ps start count old new
  table_stays count old new table numbered joined pairs nodes counts height bound =
      record {
        table = record {
          numbered = numbered;
          joined = joined;
          long = ap length nodes ∙ (table.long ∙ sym (ap length pairs));
          spread = ap length counts ∙ table.spread;
          counted = λ a n e. table.counted a n (subst (λ (l : List ℕ). slice_get l a ≡ Some n) counts e) ∙ sym (ap (λ (l : List (Pair S)). length (sums_at a l)) pairs);
          different = λ a. subst (λ (l : List (Pair S)). AllPairs (λ (x y : S). x ≢ y) (sums_at a l)) (sym pairs) (table.different a);
          bounded = omega (arith, table.bounded, bound, ap length pairs);
          raised = omega (arith, table.raised, bound, height);
          made = λ n x e. subst (λ (h : ℕ). IsMade sum_of composed whole ps start new.nodes.nodes.items (h + 1) n x) (sym height)
              (subst (λ (ns : List Node). IsMade sum_of composed whole ps start ns (old.height + 1) n x) (sym nodes) (table.made n x (subst (λ (l : List (Pair S)). slice_get l n ≡ Some x) pairs e)));
          early = λ n x l e. subst (λ (h : ℕ). IsMade sum_of composed whole ps start new.nodes.nodes.items h n x) (sym height)
              (subst (λ (ns : List Node). IsMade sum_of composed whole ps start ns old.height n x) (sym nodes) (table.early n x (omega (arith, l, bound)) (subst (λ (l : List (Pair S)). slice_get l n ≡ Some x) pairs e)));
          whole_at_start = λ t c. table.whole_at_start t (subst (λ (l : List (Pair S)). Contains l (start.0, t)) pairs c);
          complete = λ a w h l u d.
              let has = table.complete a w h (omega (arith, l, height)) u d in
              (has.0, omega (arith, has.1, bound), subst (λ (l : List (Pair S)). slice_get l has.0 ≡ Some (a.0, sum_of (tokens_in w))) (sym pairs) has.2);
        };
        height = height;
        bound = bound;
        keeps = λ n x h. subst (λ (l : List (Pair S)). slice_get l n ≡ Some x) (sym pairs) h;
      }

module _ {S : Type 0} (sum_of : List PageToken → S) (composed : S → S → S) (whole : S → Bool) (ps : List Production) (start : nt.Nt) where
  pub has_sum_on : (xs ys : List (Pair S)) (n : ℕ) (a : nt.Nt) (s : S) → Keeps xs ys → HasSum sum_of composed xs n (symbol.Nt a) s → HasSum sum_of composed ys n (symbol.Nt a) s
  has_sum_on xs ys n a s keeps h = (h.0, h.1, keeps h.0 (a.0, s) h.2)

  -- each sentence of at most the height is whole
  pub whole_below : (count : ℕ) (t : Table S) → IsTable sum_of composed whole ps start count t → AreWholeBelow sum_of whole ps start (t.height + 1)
  whole_below count t table w h l d =
      let has = table.complete start w h (omega (arith, l)) (IsUseful.at_start w (derives_of ps (symbol.Nt start) w h d)) d in
      table.whole_at_start (sum_of (tokens_in w)) (contained (known t) has.0 (start.0, sum_of (tokens_in w)) has.2)

  module _ (appended : (u v : List PageToken) → sum_of (u ++ v) ≡ composed (sum_of u) (sum_of v)) (count : ℕ) (old new : Table S) (table : IsTable sum_of composed whole ps start count old) where
    -- nothing was new
    pub table_old : (place : ℕ) (qs : Parts) (left : ℕ) (s : S) → Notes old new place qs left s false → IsTable sum_of composed whole ps start count new
    table_old place qs left s notes =
        record {
          numbered = notes.numbered;
          joined = joins_kept composed old.sums.keys new.sums.keys old.joins.keys new.joins.keys old.joined.items new.joined.items notes.sums notes.joins notes.joined table.joined;
          long = ap length notes.nodes ∙ (table.long ∙ sym (ap length notes.pairs));
          spread = ap length notes.counts ∙ table.spread;
          counted = λ a n e. table.counted a n (subst (λ (l : List ℕ). slice_get l a ≡ Some n) notes.counts e) ∙ sym (ap (λ (l : List (Pair S)). length (sums_at a l)) notes.pairs);
          different = λ a. subst (λ (l : List (Pair S)). AllPairs (λ (x y : S). x ≢ y) (sums_at a l)) (sym notes.pairs) (table.different a);
          bounded = omega (arith, table.bounded, notes.bound, ap length notes.pairs);
          raised = omega (arith, table.raised, notes.bound, notes.height);
          made = λ n x e. subst (λ (h : ℕ). IsMade sum_of composed whole ps start new.nodes.nodes.items (h + 1) n x) (sym notes.height)
              (subst (λ (ns : List Node). IsMade sum_of composed whole ps start ns (old.height + 1) n x) (sym notes.nodes) (table.made n x (subst (λ (l : List (Pair S)). slice_get l n ≡ Some x) notes.pairs e)));
          early = λ n x l e. subst (λ (h : ℕ). IsMade sum_of composed whole ps start new.nodes.nodes.items h n x) (sym notes.height)
              (subst (λ (ns : List Node). IsMade sum_of composed whole ps start ns old.height n x) (sym notes.nodes) (table.early n x (omega (arith, l, notes.bound)) (subst (λ (l : List (Pair S)). slice_get l n ≡ Some x) notes.pairs e)));
          whole_at_start = λ t c. table.whole_at_start t (subst (λ (l : List (Pair S)). Contains l (start.0, t)) notes.pairs c);
          complete = λ a w h l u d.
              let has = table.complete a w h (omega (arith, l, notes.height)) u d in
              (has.0, omega (arith, has.1, notes.bound), subst (λ (l : List (Pair S)). slice_get l has.0 ≡ Some (a.0, sum_of (tokens_in w))) (sym notes.pairs) has.2);
        }

    -- a pair more
    module _ (place : ℕ) (qs : Parts) (left : nt.Nt) (r : Right) (s : S) (notes : Notes old new place qs left.0 s true) (at : slice_get ps place ≡ Some (record { left = left; right = r })) (useful : IsUseful ps start left) (makes : Makes sum_of composed whole ps start old.nodes.nodes.items old.height r qs s) where
      abbrev node : Node
      node = record { production = place; parts = qs; length = parts_length old.nodes.nodes.items qs }

      keeps_nodes : Keeps old.nodes.nodes.items (old.nodes.nodes.items ++ node ∷ [])
      keeps_nodes n x h = at_front old.nodes.nodes.items node n x h

      keeps_pairs : Keeps (known old) (known old ++ (left.0, s) ∷ [])
      keeps_pairs n x h = at_front (known old) (left.0, s) n x h

      last_supports : Supports sum_of composed whole ps start (old.nodes.nodes.items ++ node ∷ []) (old.height + 1) (Inner (length old.nodes.nodes.items)) (symbol.Nt left) s
      last_supports = node_supports sum_of composed whole ps start appended old.nodes.nodes.items node old.height left r s at makes

      last_made : IsMade sum_of composed whole ps start (old.nodes.nodes.items ++ node ∷ []) (old.height + 1) (length (known old)) (left.0, s)
      last_made = subst (λ (n : ℕ). IsMade sum_of composed whole ps start (old.nodes.nodes.items ++ node ∷ []) (old.height + 1) n (left.0, s)) table.long (record { useful = useful; supports = last_supports })

      made_more : (n : ℕ) (x : Pair S) → slice_get (known old ++ (left.0, s) ∷ []) n ≡ Some x → IsMade sum_of composed whole ps start (old.nodes.nodes.items ++ node ∷ []) (old.height + 1) n x
      made_more n x e =
          elim (at_cases (known old) (left.0, s) n x e) [
            | inl k ↦ made_on sum_of composed whole ps start old.nodes.nodes.items (old.nodes.nodes.items ++ node ∷ []) (old.height + 1) (old.height + 1) n x keeps_nodes (omega arith) (table.made n x k.1)
            | inr k ↦ subst (λ (m : ℕ). IsMade sum_of composed whole ps start (old.nodes.nodes.items ++ node ∷ []) (old.height + 1) m x) (sym k.0)
                (subst (λ (y : Pair S). IsMade sum_of composed whole ps start (old.nodes.nodes.items ++ node ∷ []) (old.height + 1) (length (known old)) y) k.1 last_made)
          ]

      early_more : (n : ℕ) (x : Pair S) → n < old.bound → slice_get (known old ++ (left.0, s) ∷ []) n ≡ Some x → IsMade sum_of composed whole ps start (old.nodes.nodes.items ++ node ∷ []) old.height n x
      early_more n x l e =
          made_on sum_of composed whole ps start old.nodes.nodes.items (old.nodes.nodes.items ++ node ∷ []) old.height old.height n x keeps_nodes (omega arith)
          (table.early n x l (at_before (known old) (known old ++ (left.0, s) ∷ []) n x keeps_pairs (omega (arith, l, table.bounded)) e))

      counted_more : left.0 < length old.counts.items → (a n : ℕ) → slice_get (set old.counts.items left.0 (get_or old.counts.items left.0 0 + 1)) a ≡ Some n → n ≡ length (sums_at a (known old ++ (left.0, s) ∷ []))
      counted_more below a n e =
          elim (cases_eq a left.0) [
            | inl same ↦
                let c = get_or old.counts.items left.0 0 in
                let one : c + 1 ≡ n = same_Some (c + 1) n (sym (slice_get-set_same old.counts.items left.0 (c + 1) below) ∙ (ap (slice_get (set old.counts.items left.0 (c + 1))) (sym same) ∙ e)) in
                let before = table.counted left.0 c (slice_get-get_or old.counts.items left.0 0 below) in
                let longer : length (sums_at left.0 (known old ++ (left.0, s) ∷ [])) ≡ length (sums_at left.0 (known old)) + 1 = ap length (sums_at_same left.0 (known old) s) ∙ length-append (sums_at left.0 (known old)) (s ∷ []) in
                subst (λ (b : ℕ). n ≡ length (sums_at b (known old ++ (left.0, s) ∷ []))) (sym same) (omega (arith, one, before, longer))
            | inr other ↦
                table.counted a n (sym (slice_get-set_other old.counts.items left.0 a (get_or old.counts.items left.0 0 + 1) other) ∙ e)
                ∙ sym (ap length (sums_at_other a left.0 (known old) s (λ k. other (sym k))))
          ]

      different_more : (a : ℕ) → AllPairs (λ (x y : S). x ≢ y) (sums_at a (known old ++ (left.0, s) ∷ []))
      different_more a =
          elim (cases_eq a left.0) [
            | inl same ↦ subst (λ (b : ℕ). AllPairs (λ (x y : S). x ≢ y) (sums_at b (known old ++ (left.0, s) ∷ []))) (sym same)
                (subst (λ (l : List S). AllPairs (λ (x y : S). x ≢ y) l) (sym (sums_at_same left.0 (known old) s))
                (all_pairs_push (λ (x y : S). x ≢ y) (sums_at left.0 (known old)) s (table.different left.0)
                (λ k d l e. notes.fresh refl (in_sums left.0 (known old) s (subst (λ (t : S). Contains (sums_at left.0 (known old)) t) e (Contains-get_or (sums_at left.0 (known old)) k d l))))))
            | inr other ↦ subst (λ (l : List S). AllPairs (λ (x y : S). x ≢ y) l) (sym (sums_at_other a left.0 (known old) s (λ k. other (sym k)))) (table.different a)
          ]

      pair_count : length (known new) ≡ length (known old) + 1
      pair_count = ap length notes.pairs ∙ length-append (known old) ((left.0, s) ∷ [])

      pub new_made : (n : ℕ) (x : Pair S) → slice_get (known new) n ≡ Some x → IsMade sum_of composed whole ps start new.nodes.nodes.items (new.height + 1) n x
      new_made n x e =
          subst (λ (h : ℕ). IsMade sum_of composed whole ps start new.nodes.nodes.items (h + 1) n x) (sym notes.height)
          (subst (λ (ns : List Node). IsMade sum_of composed whole ps start ns (old.height + 1) n x) (sym notes.nodes) (made_more n x (subst (λ (l : List (Pair S)). slice_get l n ≡ Some x) notes.pairs e)))

      pub table_new : left.0 < count → (left.0 ≡ start.0 → whole s ≡ true) → IsTable sum_of composed whole ps start count new
      table_new below is_whole =
          record {
            numbered = notes.numbered;
            joined = joins_kept composed old.sums.keys new.sums.keys old.joins.keys new.joins.keys old.joined.items new.joined.items notes.sums notes.joins notes.joined table.joined;
            long = ap length notes.nodes ∙ (length-append old.nodes.nodes.items (node ∷ []) ∙ (ap (λ (n : ℕ). n + 1) table.long ∙ sym pair_count));
            spread = ap length notes.counts ∙ (length-set old.counts.items left.0 (get_or old.counts.items left.0 0 + 1) ∙ table.spread);
            counted = λ a n e. counted_more (omega (arith, below, table.spread)) a n (subst (λ (l : List ℕ). slice_get l a ≡ Some n) notes.counts e) ∙ sym (ap (λ (l : List (Pair S)). length (sums_at a l)) notes.pairs);
            different = λ a. subst (λ (l : List (Pair S)). AllPairs (λ (x y : S). x ≢ y) (sums_at a l)) (sym notes.pairs) (different_more a);
            bounded = omega (arith, table.bounded, notes.bound, pair_count);
            raised = omega (arith, table.raised, notes.bound, notes.height);
            made = new_made;
            early = λ n x l e. subst (λ (h : ℕ). IsMade sum_of composed whole ps start new.nodes.nodes.items h n x) (sym notes.height)
                (subst (λ (ns : List Node). IsMade sum_of composed whole ps start ns old.height n x) (sym notes.nodes) (early_more n x (omega (arith, l, notes.bound)) (subst (λ (l : List (Pair S)). slice_get l n ≡ Some x) notes.pairs e)));
            whole_at_start = λ t c. elim (Contains-push_cases (known old) (left.0, s) (start.0, t) (subst (λ (l : List (Pair S)). Contains l (start.0, t)) notes.pairs c)) [
              | inl before ↦ table.whole_at_start t before
              | inr last ↦ ap whole (ap (λ (p : Pair S). p.1) (sym last)) ∙ is_whole (ap (λ (p : Pair S). p.0) last)
            ];
            complete = λ a w h l u d.
                let has = table.complete a w h (omega (arith, l, notes.height)) u d in
                (has.0, omega (arith, has.1, notes.bound), subst (λ (l : List (Pair S)). slice_get l has.0 ≡ Some (a.0, sum_of (tokens_in w))) (sym notes.pairs) (keeps_pairs has.0 (a.0, sum_of (tokens_in w)) has.2));
          }

      -- too many sums of the nonterminal
      pub too_many : (n : ℕ) → left.0 < count → slice_get new.counts.items left.0 ≡ Some n → HasPairs sum_of ps start (new.height + 1) n
      too_many n below e = (
        left,
        sums_at left.0 (known new),
        sym (counted_more (omega (arith, below, table.spread)) left.0 n (subst (λ (l : List ℕ). slice_get l left.0 ≡ Some n) notes.counts e) ∙ sym (ap (λ (l : List (Pair S)). length (sums_at left.0 l)) notes.pairs)),
        subst (λ (l : List (Pair S)). AllPairs (λ (x y : S). x ≢ y) (sums_at left.0 l)) (sym notes.pairs) (different_more left.0),
        λ t c.
            let p = placed (known new) (left.0, t) (in_sums left.0 (known new) t c) in
            made_pair sum_of composed whole ps start new.nodes.nodes.items (new.height + 1) p.0 (left.0, t) (new_made p.0 (left.0, t) p.2),
      )

      -- the last node is a derivation of the pair
      pub last_derivation : left.0 ≡ start.0 → (w : List Letter) × IsDerivation ps new.nodes.nodes.items start w × (sum_of (tokens_in w) ≡ s)
      last_derivation same = (
        last_supports.sentence,
        subst (λ (ns : List Node). IsDerivation ps ns start last_supports.sentence) (sym notes.nodes)
            (subst (λ (n : ℕ). Stands ps (old.nodes.nodes.items ++ node ∷ []) (Inner n) (symbol.Nt start) last_supports.sentence) root
            (subst (λ (n : ℕ). Stands ps (old.nodes.nodes.items ++ node ∷ []) (Inner (length old.nodes.nodes.items)) (symbol.Nt (record { 0 = n })) last_supports.sentence) same last_supports.stands)),
        last_supports.same,
      )
        where
          root : length old.nodes.nodes.items ≡ length (old.nodes.nodes.items ++ node ∷ []) - 1
          root = let e = length-append old.nodes.nodes.items (node ∷ []) in omega (arith, e)

    pub goes_new : (place : ℕ) (qs : Parts) (left : ℕ) (s : S) → Notes old new place qs left s true → IsTable sum_of composed whole ps start count new → GoesOn sum_of composed whole ps start count old new
    goes_new place qs left s notes t =
        record { table = t; height = notes.height; bound = notes.bound; keeps = λ n x h. subst (λ (l : List (Pair S)). slice_get l n ≡ Some x) (sym notes.pairs) (at_front (known old) (left, s) n x h) }

    pub goes_old : (place : ℕ) (qs : Parts) (left : ℕ) (s : S) → Notes old new place qs left s false → IsTable sum_of composed whole ps start count new → GoesOn sum_of composed whole ps start count old new
    goes_old place qs left s notes t =
        record { table = t; height = notes.height; bound = notes.bound; keeps = λ n x h. subst (λ (l : List (Pair S)). slice_get l n ≡ Some x) (sym notes.pairs) h }
