-- What a pair that is taken up gives.
use Rattle.std.proofs.Common.{◌≡◌, ℕ, ◌+◌, ◌<◌, ◌≤◌, ◌⊎◌, inl, inr, Bool, List, [], ◌∷◌, ◌++◌, length, refl, sym, ◌∙◌, ap, subst, arith, Some, slice_get, Result, Ok, Err, OnOk, length-append}
use Rattle.std.specs.Prelude.{nat_lt}
use Rattle.std.specs.List.{list_all}
use Rattle.std.specs.Cmp.{first_so}
use Rattle.std.proofs.lemmas.Bool.{ltb-true}
use Rattle.std.proofs.lemmas.Option.{same_Some}
use Rattle.text_base.specs.declared.letter.Letter.{Letter}
use Rattle.text_base.specs.declared.page_token.PageToken.{PageToken}
use Rattle.text_base.specs.declared.numbers.Nt as nt
use Rattle.cfg_grammar.specs.declared.symbol.Symbol.{Symbol}
use Rattle.cfg_grammar.specs.declared.symbol.Symbol.TheVariants.{Range, Token, Nt}
use Rattle.cfg_grammar.specs.declared.production.Right.{Right}
use Rattle.cfg_grammar.specs.declared.production.Right.TheVariants.{Empty, One, Two}
use Rattle.cfg_grammar.specs.declared.production.Production.{Production}
use Rattle.cfg_grammar.specs.Below.{AreBelow, production_below, symbol_below, symbols_of}
use Rattle.derivations.specs.declared.node.Part.{Part}
use Rattle.derivations.specs.declared.node.Parts.TheVariants as parts
use Rattle.derivations.specs.declared.node.Part.TheVariants as part
use Rattle.derivations.specs.declared.node.Node.{Node}
use Rattle.derivations.specs.Stands.{Stands}
use Rattle.numbered_sets.specs.Chains.{AreChains}
use Rattle.numbered_sets.specs.declared.chains.Chains.{Chains}
use Rattle.useful_nonterminals.specs.Rules.{number_in}
use Rattle.summary_decision.specs.declared.joint.Side.{Side}
use Rattle.summary_decision.specs.declared.joint.Side.TheVariants.{First, Second}
use Rattle.summary_decision.specs.declared.joint.Joint.{Joint}
use Rattle.summary_decision.specs.Closed.{Pair}
use Rattle.summary_decision.specs.Joints.{right_by, other_by, number_by, composed_by, StandsOn, first_nonterminals, AreUses}
use Rattle.summary_decision.proofs.AddLemmas.{passes_at}
use Rattle.summary_decision.proofs.ClosedLemmas.{placed}
use Rattle.summary_decision.proofs.TakenLemmas.{first_more}
use Rattle.short_sentences.specs.declared.table.Table.{Table}
use Rattle.short_sentences.specs.declared.taken.Taken.{Taken}
use Rattle.short_sentences.specs.Closed.{HasSum, IsClosed, IsTaken}
use Rattle.short_sentences.specs.Tables.{known, IsReached, MakesAt, IsTable, GoesOn, Adds}
use Rattle.short_sentences.specs.Joints.{chained, length_at, AreTaken, IsAt, IsBeside, IsGiven, Gives, MeetsSymbol}
use Rattle.short_sentences.specs.Taking.{AreUp, AreUpButLast}
use Rattle.short_sentences.proofs.ClosedLemmas.{takes_one}
use Rattle.short_sentences.proofs.TableLemmas.{goes_none, goes_both}

-- the nonterminal that a node is a derivation of is below the count
left_below : (ps : List Production) (count : ℕ) → AreBelow count ps → (place : ℕ) (left : nt.Nt) (r : Right) → slice_get ps place ≡ Some (record { left = left; right = r }) → (a : ℕ) → number_in (Nt left) ≡ Some a → a < count
left_below ps count below place left r at a e =
    let h = passes_at (production_below count) ps place (record { left = left; right = r }) below at in
    subst (λ (n : ℕ). n < count) (same_Some left.0 a e) (ltb-true left.0 count (first_so (nat_lt left.0 count) (list_all (symbol_below count) (symbols_of r)) h))

stands_below : (ps : List Production) (count : ℕ) → AreBelow count ps → (nodes : List Node) (p : Part) (b : Symbol) (w : List Letter) → Stands ps nodes p b w → (a : ℕ) → number_in b ≡ Some a → a < count
stands_below ps count below nodes p b w (Stands.by_byte range byte i) a e = cc
stands_below ps count below nodes p b w (Stands.by_token token) a e = cc
stands_below ps count below nodes p b w (Stands.by_empty n node left f g h) a e = left_below ps count below node.production left Empty g a e
stands_below ps count below nodes p b w (Stands.by_one n node left x q v f g h s) a e = left_below ps count below node.production left (One x) g a e
stands_below ps count below nodes p b w (Stands.by_two n node left x y q r u v f g h s t) a e = left_below ps count below node.production left (Two x y) g a e

module _ {S : Type 0} (sum_of : List PageToken → S) (composed : S → S → S) (whole : S → Bool) (ps : List Production) (start : nt.Nt) where
  pub pair_below : (count : ℕ) (taken : Taken) → AreBelow count ps → (t : Table S) → IsTable sum_of composed whole ps start count t taken → (n : ℕ) (x : Pair S) → slice_get (known t taken) n ≡ Some x → x.0 < count
  pair_below count taken below t table n x at =
      let m = (table.up.made n x at).supports in
      stands_below ps count below taken.nodes.nodes.items (part.Inner n) (Nt (record { 0 = x.0 })) m.sentence m.stands x.0 refl

  -- what is given stays given as more is found
  given_on : (Found More : Pair S → ℕ → Type 0) (pairs : List (Pair S)) (nodes : List Node) (n left : ℕ) (side : Side) (r : Right) (s : S) (own : ℕ) → ((x : Pair S) (l : ℕ) → Found x l → More x l) → IsGiven sum_of composed whole ps start Found pairs nodes n left side r s own → IsGiven sum_of composed whole ps start More pairs nodes n left side r s own
  given_on Found More pairs nodes n left First Empty s own on h = tt
  given_on Found More pairs nodes n left First (One a) s own on h = on (left, s) own h
  given_on Found More pairs nodes n left First (Two a b) s own on h = λ u m has. on (left, composed s u) (own + m) (h u m has)
  given_on Found More pairs nodes n left Second Empty s own on h = tt
  given_on Found More pairs nodes n left Second (One a) s own on h = tt
  given_on Found More pairs nodes n left Second (Two a b) s own on h = λ u m has. on (left, composed u s) (own + m) (h u m has)

  -- a production with two symbols
  pub at_beside : (t : Table S) (taken : Taken) (joint : Joint) (s : S) (a b : Symbol) → IsAt sum_of composed whole ps start t taken joint s → ((p : Production) → slice_get ps joint.place ≡ Some p → p.right ≡ Two a b) → IsBeside sum_of composed whole ps start t taken joint s (other_by joint.side a b)
  at_beside t taken joint s a b h right =
      record {
        production = h.production;
        at = h.at;
        useful = h.useful;
        nonterminal = h.nonterminal;
        right = right h.production h.at ∙ turned joint.side a b h.nonterminal.0 (ap (number_by joint.side) (sym (right h.production h.at)) ∙ h.number);
        pair = h.pair;
        late = h.late;
      }
    where
      is_nt : (x : Symbol) (n : ℕ) → number_in x ≡ Some n → x ≡ Nt (record { 0 = n })
      is_nt (Range range) n e = cc
      is_nt (Token token) n e = cc
      is_nt (Nt c) n e = ap (λ (k : ℕ). Nt (record { 0 = k })) (same_Some c.0 n e)

      turned : (side : Side) (x y : Symbol) (n : ℕ) → number_by side (Two x y) ≡ Some n → Two x y ≡ right_by side (Nt (record { 0 = n })) (other_by side x y)
      turned First x y n e = ap (λ (z : Symbol). Two z y) (is_nt x n e)
      turned Second x y n e = ap (λ (z : Symbol). Two x z) (is_nt y n e)

  module _ (count : ℕ) (taken : Taken) where
    abbrev nodes : List Node
    nodes = taken.nodes.nodes.items

    pub at_on : (old new : Table S) (joint : Joint) (s : S) → GoesOn sum_of composed whole ps start count taken old new → IsAt sum_of composed whole ps start old taken joint s → IsAt sum_of composed whole ps start new taken joint s
    at_on old new joint s goes h =
        record {
          production = h.production;
          at = h.at;
          useful = h.useful;
          nonterminal = h.nonterminal;
          number = h.number;
          pair = subst (λ (z : List (Pair S)). slice_get z joint.pair ≡ Some (h.nonterminal.0, s)) (sym goes.known_same) h.pair;
          late = h.late;
        }

    pub alone_makes : (t : Table S) (joint : Joint) (s : S) (a : Symbol) → joint.side ≡ First → IsTable sum_of composed whole ps start count t taken → IsAt sum_of composed whole ps start t taken joint s → ((p : Production) → slice_get ps joint.place ≡ Some p → p.right ≡ One a) → MakesAt sum_of composed whole ps start nodes joint.place (parts.One (part.Inner joint.pair)) s
    alone_makes t joint s a first table h right = made a (right h.production h.at) (ap (λ (side : Side). number_by side h.production.right) (sym first) ∙ h.number)
      where
        made : (x : Symbol) → h.production.right ≡ One x → number_by First h.production.right ≡ Some h.nonterminal.0 → MakesAt sum_of composed whole ps start nodes joint.place (parts.One (part.Inner joint.pair)) s
        made x e n = with_symbol x e (ap (number_by First) (sym e) ∙ n)
          where
            with_symbol : (y : Symbol) → h.production.right ≡ One y → number_in y ≡ Some h.nonterminal.0 → MakesAt sum_of composed whole ps start nodes joint.place (parts.One (part.Inner joint.pair)) s
            with_symbol (Range range) e' n' = cc
            with_symbol (Token token) e' n' = cc
            with_symbol (Nt c) e' n' =
                let k : c.0 ≡ h.nonterminal.0 = same_Some c.0 h.nonterminal.0 n' in
                record {
                  production = record { left = h.production.left; right = One (Nt h.nonterminal) };
                  at = h.at ∙ ap (λ (r : Right). let p : Production = record { left = h.production.left; right = r } in Some p) (e' ∙ ap (λ (m : ℕ). One (Nt (record { 0 = m }))) k);
                  useful = h.useful;
                  makes = (table.up.made joint.pair (h.nonterminal.0, s) h.pair).supports;
                }

    pub gives_alone : {E : Type 0} (r : Result (Unit {0}) E) (old new : Table S) (joint : Joint) (s : S) (number n : ℕ) (a : Symbol) → slice_get old.sums.numbered.keys number ≡ Some s → joint.side ≡ First → ((p : Production) → slice_get ps joint.place ≡ Some p → p.right ≡ One a) → OnOk r ((u : S) → slice_get old.sums.numbered.keys number ≡ Some u → Adds sum_of composed whole ps start count taken old new joint.place (parts.One (part.Inner joint.pair)) u) → OnOk r (Gives sum_of composed whole ps start count taken old new joint.side s joint.pair n (λ (k : ℕ). k ≡ joint.place))
    gives_alone (Err e) old new joint s number n a told first right h = tt
    gives_alone (Ok e) old new joint s number n a told first right h =
        let adds = h s told in
        record {
          goes = adds.goes;
          given = λ place p here at.
              let at' : slice_get ps joint.place ≡ Some p = ap (slice_get ps) (sym here) ∙ at in
              subst (λ (side : Side). IsGiven sum_of composed whole ps start (IsReached new) (known old taken) nodes n p.left.0 side p.right s (length_at taken joint.pair)) (sym first)
              (subst (λ (z : Right). IsGiven sum_of composed whole ps start (IsReached new) (known old taken) nodes n p.left.0 First z s (length_at taken joint.pair)) (sym (right p at')) (adds.has p at'));
        }

    gives_nothing : (t : Table S) (joint : Joint) (s : S) (n : ℕ) (z : Right) → IsTable sum_of composed whole ps start count t taken → ((p : Production) → slice_get ps joint.place ≡ Some p → p.right ≡ z) → ((left : ℕ) → IsGiven sum_of composed whole ps start (IsReached t) (known t taken) nodes n left joint.side z s (length_at taken joint.pair)) → Gives sum_of composed whole ps start count taken t t joint.side s joint.pair n (λ (k : ℕ). k ≡ joint.place)
    gives_nothing t joint s n z table right given =
        record {
          goes = goes_none sum_of composed whole ps start count taken t table;
          given = λ place p here at.
              let at' : slice_get ps joint.place ≡ Some p = ap (slice_get ps) (sym here) ∙ at in
              subst (λ (y : Right). IsGiven sum_of composed whole ps start (IsReached t) (known t taken) nodes n p.left.0 joint.side y s (length_at taken joint.pair)) (sym (right p at')) (given p.left.0);
        }

    pub second_alone : (t : Table S) (joint : Joint) (s : S) (n : ℕ) (a : Symbol) → joint.side ≡ Second → IsTable sum_of composed whole ps start count t taken → ((p : Production) → slice_get ps joint.place ≡ Some p → p.right ≡ One a) → Gives sum_of composed whole ps start count taken t t joint.side s joint.pair n (λ (k : ℕ). k ≡ joint.place)
    second_alone t joint s n a second table right =
        gives_nothing t joint s n (One a) table right
        (λ left. subst (λ (side : Side). IsGiven sum_of composed whole ps start (IsReached t) (known t taken) nodes n left side (One a) s (length_at taken joint.pair)) (sym second) tt)

    pub empty_gives : (t : Table S) (joint : Joint) (s : S) (n : ℕ) → IsTable sum_of composed whole ps start count t taken → ((p : Production) → slice_get ps joint.place ≡ Some p → p.right ≡ Empty) → Gives sum_of composed whole ps start count taken t t joint.side s joint.pair n (λ (k : ℕ). k ≡ joint.place)
    empty_gives t joint s n table right = gives_nothing t joint s n Empty table right (λ left. by_side joint.side left)
      where
        by_side : (side : Side) (left : ℕ) → IsGiven sum_of composed whole ps start (IsReached t) (known t taken) nodes n left side Empty s (length_at taken joint.pair)
        by_side First left = tt
        by_side Second left = tt

    pub gives_beside : {E : Type 0} (r : Result (Unit {0}) E) (old new : Table S) (joint : Joint) (s : S) (n : ℕ) (a b : Symbol) → ((p : Production) → slice_get ps joint.place ≡ Some p → p.right ≡ Two a b) → OnOk r (MeetsSymbol sum_of composed whole ps start count taken old new joint s n (other_by joint.side a b)) → OnOk r (Gives sum_of composed whole ps start count taken old new joint.side s joint.pair n (λ (k : ℕ). k ≡ joint.place))
    gives_beside (Err e) old new joint s n a b right h = tt
    gives_beside (Ok e) old new joint s n a b right h =
        record {
          goes = h.goes;
          given = λ place p here at.
              let at' : slice_get ps joint.place ≡ Some p = ap (slice_get ps) (sym here) ∙ at in
              subst (λ (z : Right). IsGiven sum_of composed whole ps start (IsReached new) (known old taken) nodes n p.left.0 joint.side z s (length_at taken joint.pair)) (sym (right p at'))
              (by_side joint.side p.left.0 (λ u m has. h.met u m p has at'));
        }
      where
        by_side : (side : Side) (left : ℕ) → ((u : S) (m : ℕ) → HasSum sum_of composed (known old taken) nodes n (other_by side a b) u m → IsReached new (left, composed_by composed side s u) (length_at taken joint.pair + m)) → IsGiven sum_of composed whole ps start (IsReached new) (known old taken) nodes n left side (Two a b) s (length_at taken joint.pair)
        by_side First left f = f
        by_side Second left f = f

    pub gives_more : (P Q R : ℕ → Type 0) (old mid new : Table S) (side : Side) (s : S) (pair n : ℕ) → ((k : ℕ) → R k → P k ⊎ Q k) → Gives sum_of composed whole ps start count taken old mid side s pair n P → Gives sum_of composed whole ps start count taken mid new side s pair n Q → Gives sum_of composed whole ps start count taken old new side s pair n R
    gives_more P Q R old mid new side s pair n splits p q =
        record {
          goes = goes_both sum_of composed whole ps start count taken old mid new p.goes q.goes;
          given = λ k r asked here. elim (splits k asked) [
            | inl h ↦ given_on (IsReached mid) (IsReached new) (known old taken) nodes n r.left.0 side r.right s (length_at taken pair) q.goes.reaches (p.given k r h here)
            | inr h ↦ subst (λ (z : List (Pair S)). IsGiven sum_of composed whole ps start (IsReached new) z nodes n r.left.0 side r.right s (length_at taken pair)) p.goes.known_same (q.given k r h here)
          ];
        }

    -- of a walk along the chain of the nonterminal, nothing is given at first
    pub gives_none : (t : Table S) (side : Side) (s : S) (pair n : ℕ) (P : ℕ → Type 0) → IsTable sum_of composed whole ps start count t taken → ((k : ℕ) → P k → ⊥) → Gives sum_of composed whole ps start count taken t t side s pair n P
    gives_none t side s pair n P table none = record { goes = goes_none sum_of composed whole ps start count taken t table; given = λ k p asked at. absurd (none k asked) }

    -- what is given at places is given at fewer
    pub gives_fewer : (old new : Table S) (side : Side) (s : S) (pair n : ℕ) (P R : ℕ → Type 0) → ((k : ℕ) → R k → P k) → Gives sum_of composed whole ps start count taken old new side s pair n P → Gives sum_of composed whole ps start count taken old new side s pair n R
    gives_fewer old new side s pair n P R weaker gives = record { goes = gives.goes; given = λ k p asked at. gives.given k p (weaker k asked) at }

    -- at a place of its chain, the pair stands on the side
    pub stands_at : (side : Side) (s : S) (a : ℕ) (uses : Chains) (are : AreUses side ps start count uses) (old mid : Table S) (pair place : ℕ) → a < count → slice_get (known old taken) pair ≡ Some (a, s) → taken.length ≤ length_at taken pair → slice_get are.keys place ≡ Some a → GoesOn sum_of composed whole ps start count taken old mid → IsAt sum_of composed whole ps start mid taken (record { place = place; side = side; pair = pair }) s
    stands_at side s a uses are old mid pair place below here late stands goes =
        let h = (are.exact a place below).0 stands in
        record {
          production = h.0;
          at = h.1;
          useful = h.2;
          nonterminal = record { 0 = a };
          number = h.3;
          pair = subst (λ (z : List (Pair S)). slice_get z pair ≡ Some (a, s)) (sym goes.known_same) here;
          late = late;
        }

    -- what is closed stays closed as more is found
    closed_on : (old new : Table S) (n : ℕ) → GoesOn sum_of composed whole ps start count taken old new → IsClosed sum_of composed (IsReached old) ps start (known old taken) nodes n → IsClosed sum_of composed (IsReached new) ps start (known old taken) nodes n
    closed_on old new n goes h =
        record {
          empties = λ left c u. goes.reaches (left.0, sum_of []) 0 (h.empties left c u);
          ones = λ left a s l c u has. goes.reaches (left.0, s) l (h.ones left a s l c u has);
          twos = λ left a b s t l m c u has has'. goes.reaches (left.0, composed s t) (l + m) (h.twos left a b s t l m c u has has');
        }

    -- all that a pair gives
    module _ (old mid new : Table S) (n : ℕ) (a : nt.Nt) (s : S) (here : slice_get (known old taken) n ≡ Some (a.0, s)) (second : Gives sum_of composed whole ps start count taken old mid Second s n n (λ (k : ℕ). StandsOn Second ps start a.0 k)) (first : Gives sum_of composed whole ps start count taken mid new First s n (n + 1) (λ (k : ℕ). StandsOn First ps start a.0 k)) where
      goes_all : GoesOn sum_of composed whole ps start count taken old new
      goes_all = goes_both sum_of composed whole ps start count taken old mid new second.goes first.goes

      is_taken : IsTaken sum_of composed (IsReached new) ps start (known old taken) nodes n a s (length_at taken n)
      is_taken =
          record {
            ones = λ left c u.
                let p = placed ps _ c in
                first.given p.0 (record { left = left; right = One (Nt a) }) (record { left = left; right = One (Nt a) }, p.2, u, refl) p.2;
            firsts = λ left b t m c u has.
                let p = placed ps _ c in
                first.given p.0 (record { left = left; right = Two (Nt a) b }) (record { left = left; right = Two (Nt a) b }, p.2, u, refl) p.2 t m
                (subst (λ (z : List (Pair S)). HasSum sum_of composed z nodes (n + 1) b t m) (sym second.goes.known_same) has);
            seconds = λ left b t m c u has.
                let p = placed ps _ c in
                first.goes.reaches (left.0, composed t s) (length_at taken n + m)
                (second.given p.0 (record { left = left; right = Two b (Nt a) }) (record { left = left; right = Two b (Nt a) }, p.2, u, refl) p.2 t m has);
          }

      pub closed_more : IsClosed sum_of composed (IsReached old) ps start (known old taken) nodes n → IsClosed sum_of composed (IsReached new) ps start (known new taken) nodes (n + 1)
      closed_more closed =
          subst (λ (z : List (Pair S)). IsClosed sum_of composed (IsReached new) ps start z nodes (n + 1)) (sym goes_all.known_same)
          (takes_one sum_of composed (IsReached new) ps start (known old taken) nodes n a s here (closed_on old new n goes_all closed) is_taken)

    -- one pair more is taken up
    module _ (before after : Chains) (a : ℕ) (pushed : (keys : List ℕ) → AreChains keys before.last.items before.before.items → AreChains (keys ++ a ∷ []) after.last.items after.before.items) where
      pub count_more : (pairs : List (Pair S)) → AreTaken pairs before → chained after ≡ chained before + 1
      count_more pairs chains =
          let keys = first_nonterminals pairs (chained before) in
          omega (arith, (pushed keys chains).links.long, length-append keys (a ∷ []), chains.links.long)

      pub chains_more : (pairs : List (Pair S)) (s : S) → AreTaken pairs before → slice_get pairs (chained before) ≡ Some (a, s) → AreTaken pairs after
      chains_more pairs s chains here =
          let n = chained before in
          subst (λ (k : ℕ). AreChains (first_nonterminals pairs k) after.last.items after.before.items) (sym (count_more pairs chains))
          (subst (λ (keys : List ℕ). AreChains keys after.last.items after.before.items) (sym (first_more pairs n a s here)) (pushed (first_nonterminals pairs n) chains))

      pub takes_all : (old mid new : Table S) (s : S) → length after.last.items ≡ length before.last.items → AreUpButLast sum_of composed whole ps start count old taken before → slice_get (known old taken) (chained before) ≡ Some (a, s) → Gives sum_of composed whole ps start count taken old mid Second s (chained before) (chained before) (λ (k : ℕ). StandsOn Second ps start a k) → Gives sum_of composed whole ps start count taken mid new First s (chained before) (chained after) (λ (k : ℕ). StandsOn First ps start a k) → AreUp sum_of composed whole ps start count new taken after
      takes_all old mid new s long up here second first =
          let one = count_more (known old taken) up.are_taken in
          let first' = subst (λ (k : ℕ). Gives sum_of composed whole ps start count taken mid new First s (chained before) k (λ (i : ℕ). StandsOn First ps start a i)) one first in
          let goes = goes_both sum_of composed whole ps start count taken old mid new second.goes first.goes in
          record {
            table = first.goes.table;
            are_taken = subst (λ (z : List (Pair S)). AreTaken z after) (sym goes.known_same) (chains_more (known old taken) s up.are_taken here);
            spread = long ∙ up.spread;
            all = one ∙ up.one_more;
            closed = subst (λ (k : ℕ). IsClosed sum_of composed (IsReached new) ps start (known new taken) nodes k) (sym one) (closed_more old mid new (chained before) (record { 0 = a }) s here second first' up.closed);
          }

    -- all that the last pair gives, as the code finds it
    pub give_code : {E : Type 0} (r : Result (Unit {0}) E) (before after : Chains) (n a : ℕ) (s : S) (old mid new : Table S) → n ≡ chained before → ((keys : List ℕ) → AreChains keys before.last.items before.before.items → AreChains (keys ++ a ∷ []) after.last.items after.before.items) → length after.last.items ≡ length before.last.items → AreUpButLast sum_of composed whole ps start count old taken before → slice_get (known old taken) n ≡ Some (a, s) → Gives sum_of composed whole ps start count taken old mid Second s n (chained before) (λ (k : ℕ). StandsOn Second ps start a k) → OnOk r ((b : ℕ) → slice_get (known mid taken) n ≡ Some (b, s) → Gives sum_of composed whole ps start count taken mid new First s n (chained after) (λ (k : ℕ). StandsOn First ps start b k)) → OnOk r (AreUp sum_of composed whole ps start count new taken after)
    give_code (Err e) before after n a s old mid new same pushed long up here second first = tt
    give_code (Ok e) before after n a s old mid new same pushed long up here second first =
        let there = subst (λ (z : List (Pair S)). slice_get z n ≡ Some (a, s)) (sym second.goes.known_same) here in
        takes_all before after a pushed old mid new s long up
        (subst (λ (k : ℕ). slice_get (known old taken) k ≡ Some (a, s)) same here)
        (subst (λ (k : ℕ). Gives sum_of composed whole ps start count taken old mid Second s k (chained before) (λ (i : ℕ). StandsOn Second ps start a i)) same second)
        (subst (λ (k : ℕ). Gives sum_of composed whole ps start count taken mid new First s k (chained after) (λ (i : ℕ). StandsOn First ps start a i)) same (first a there))
