-- What a pair that is taken up gives.
use Rattle.std.proofs.Common.{◌≡◌, ℕ, ◌+◌, ◌<◌, ◌≤◌, ◌⊎◌, inl, inr, Bool, List, [], ◌∷◌, ◌++◌, length, get_or, Contains, refl, sym, ◌∙◌, ap, subst, arith, None, Some, slice_get, Result, Ok, Err, OnOk, length-append}
use Rattle.std.specs.Prelude.{nat_lt}
use Rattle.std.specs.List.{list_all}
use Rattle.std.specs.Cmp.{first_so}
use Rattle.std.proofs.lemmas.Bool.{ltb-true}
use Rattle.std.proofs.lemmas.Option.{same_Some, slice_get_within, get_or_from_slice_get}
use Rattle.text_base.specs.declared.letter.Letter.{Letter}
use Rattle.text_base.specs.declared.page_token.PageToken.{PageToken}
use Rattle.text_base.specs.declared.numbers.Nt as nt
use Rattle.cfg_grammar.specs.declared.symbol.Symbol.{Symbol}
use Rattle.cfg_grammar.specs.declared.symbol.Symbol.TheVariants.{Range, Token, Nt}
use Rattle.cfg_grammar.specs.declared.production.Right.{Right}
use Rattle.cfg_grammar.specs.declared.production.Right.TheVariants.{Empty, One, Two}
use Rattle.cfg_grammar.specs.declared.production.Production.{Production}
use Rattle.cfg_grammar.specs.Below.{AreBelow, production_below, symbol_below, symbols_of}
use Rattle.cfg_grammar.specs.Derives.{Derives}
use Rattle.derivations.specs.declared.node.Parts.TheVariants as parts
use Rattle.derivations.specs.declared.node.Part.TheVariants as part
use Rattle.numbered_sets.specs.Numbers.{Keeps}
use Rattle.numbered_sets.specs.Chains.{AreChains}
use Rattle.numbered_sets.specs.declared.chains.Chains.{Chains}
use Rattle.useful_nonterminals.specs.Rules.{number_in}
use Rattle.summary_decision.specs.declared.joint.Side.{Side}
use Rattle.summary_decision.specs.declared.joint.Side.TheVariants.{First, Second}
use Rattle.summary_decision.specs.declared.joint.Joint.{Joint}
use Rattle.summary_decision.specs.declared.table.Table.{Table}
use Rattle.summary_decision.specs.declared.table.Taken.{Taken}
use Rattle.summary_decision.specs.Closed.{Pair, HasSum, IsClosed, IsTaken}
use Rattle.summary_decision.specs.Tables.{known, AreNumbered, IsTable, GoesOn, MakesAt, Adds}
use Rattle.summary_decision.specs.Joints.{right_by, other_by, number_by, composed_by, StandsOn, first_nonterminals, taken_count, AreTaken, AreUses, IsAt, IsBeside, IsGiven, Gives, MeetsSymbol}
use Rattle.summary_decision.proofs.ClosedLemmas.{placed, takes_one}
use Rattle.summary_decision.proofs.KnownLemmas.{at_before, keeps_member, is_there, known_length, not_absent, at_known}
use Rattle.summary_decision.specs.declared.table.Entry.{Entry}
use Rattle.summary_decision.proofs.TakenLemmas.{first_kept, first_more}
use Rattle.summary_decision.proofs.AddLemmas.{passes_at}
use Rattle.summary_decision.proofs.MadeLemmas.{derives_of}
use Rattle.summary_decision.proofs.JointLemmas.{goes_none, goes_both}
use Rattle.summary_decision.specs.Taking.{AreUp, Takes}

-- nonterminals that derive something are below the count
left_below : (ps : List Production) (count : ℕ) → AreBelow count ps → (left : nt.Nt) (r : Right) → Contains ps (record { left = left; right = r }) → (a : ℕ) → number_in (Nt left) ≡ Some a → a < count
left_below ps count below left r c a e =
    let p = placed ps (record { left = left; right = r }) c in
    let h = passes_at (production_below count) ps p.0 (record { left = left; right = r }) below p.2 in
    subst (λ (n : ℕ). n < count) (same_Some left.0 a e) (ltb-true left.0 count (first_so (nat_lt left.0 count) (list_all (symbol_below count) (symbols_of r)) h))

derives_below : (ps : List Production) (count : ℕ) → AreBelow count ps → (b : Symbol) (w : List Letter) → Derives ps b w → (a : ℕ) → number_in b ≡ Some a → a < count
derives_below ps count below b w (Derives.by_range range byte i) a e = cc
derives_below ps count below b w (Derives.by_token token) a e = cc
derives_below ps count below b w (Derives.by_empty left c) a e = left_below ps count below left Empty c a e
derives_below ps count below b w (Derives.by_one left x v c d) a e = left_below ps count below left (One x) c a e
derives_below ps count below b w (Derives.by_two left x y u v c d f) a e = left_below ps count below left (Two x y) c a e

module _ {S : Type 0} (sum_of : List PageToken → S) (composed : S → S → S) (whole : S → Bool) (ps : List Production) (start : nt.Nt) where
  pub pair_below : (count : ℕ) → AreBelow count ps → (t : Table S) → IsTable sum_of composed whole ps start count t → (n : ℕ) (x : Pair S) → slice_get (known t) n ≡ Some x → x.0 < count
  pair_below count below t table n x at =
      let m = (table.made n x at).supports in
      derives_below ps count below (Nt (record { 0 = x.0 })) m.sentence (derives_of ps (Nt (record { 0 = x.0 })) m.sentence m.height m.derived) x.0 refl

  has_on : (xs ys : List (Pair S)) (n : ℕ) (b : Symbol) (u : S) → Keeps xs ys → HasSum sum_of composed xs n b u → HasSum sum_of composed ys n b u
  has_on xs ys n (Range range) u keeps h = h
  has_on xs ys n (Token token) u keeps h = h
  has_on xs ys n (Nt a) u keeps h = (h.0, h.1, keeps h.0 (a.0, u) h.2)

  has_before : (xs ys : List (Pair S)) (n : ℕ) (b : Symbol) (u : S) → Keeps xs ys → n ≤ length xs → HasSum sum_of composed ys n b u → HasSum sum_of composed xs n b u
  has_before xs ys n (Range range) u keeps l h = h
  has_before xs ys n (Token token) u keeps l h = h
  has_before xs ys n (Nt a) u keeps l h = (h.0, h.1, at_before xs ys h.0 (a.0, u) keeps (omega (arith, h.1, l)) h.2)

  given_on : (xs mid ys : List (Pair S)) (n left : ℕ) (side : Side) (r : Right) (s : S) → Keeps mid ys → IsGiven sum_of composed whole ps start xs mid n left side r s → IsGiven sum_of composed whole ps start xs ys n left side r s
  given_on xs mid ys n left First Empty s keeps h = tt
  given_on xs mid ys n left First (One a) s keeps h = keeps_member mid ys (left, s) keeps h
  given_on xs mid ys n left First (Two a b) s keeps h = λ u has. keeps_member mid ys (left, composed s u) keeps (h u has)
  given_on xs mid ys n left Second Empty s keeps h = tt
  given_on xs mid ys n left Second (One a) s keeps h = tt
  given_on xs mid ys n left Second (Two a b) s keeps h = λ u has. keeps_member mid ys (left, composed u s) keeps (h u has)

  given_from : (xs mid ys : List (Pair S)) (n left : ℕ) (side : Side) (r : Right) (s : S) → Keeps xs mid → IsGiven sum_of composed whole ps start mid ys n left side r s → IsGiven sum_of composed whole ps start xs ys n left side r s
  given_from xs mid ys n left First Empty s keeps h = tt
  given_from xs mid ys n left First (One a) s keeps h = h
  given_from xs mid ys n left First (Two a b) s keeps h = λ u has. h u (has_on xs mid n b u keeps has)
  given_from xs mid ys n left Second Empty s keeps h = tt
  given_from xs mid ys n left Second (One a) s keeps h = tt
  given_from xs mid ys n left Second (Two a b) s keeps h = λ u has. h u (has_on xs mid n a u keeps has)

  -- a production with two symbols
  pub at_beside : (t : Table S) (joint : Joint) (s : S) (a b : Symbol) → IsAt sum_of composed whole ps start t joint s → ((p : Production) → slice_get ps joint.place ≡ Some p → p.right ≡ Two a b) → IsBeside sum_of composed whole ps start t joint s (other_by joint.side a b)
  at_beside t joint s a b h right =
      record {
        production = h.production;
        at = h.at;
        useful = h.useful;
        nonterminal = h.nonterminal;
        right = right h.production h.at ∙ turned joint.side a b h.nonterminal.0 (ap (number_by joint.side) (sym (right h.production h.at)) ∙ h.number);
        pair = h.pair;
        within = h.within;
      }
    where
      is_nt : (x : Symbol) (n : ℕ) → number_in x ≡ Some n → x ≡ Nt (record { 0 = n })
      is_nt (Range range) n e = cc
      is_nt (Token token) n e = cc
      is_nt (Nt c) n e = ap (λ (k : ℕ). Nt (record { 0 = k })) (same_Some c.0 n e)

      turned : (side : Side) (x y : Symbol) (n : ℕ) → number_by side (Two x y) ≡ Some n → Two x y ≡ right_by side (Nt (record { 0 = n })) (other_by side x y)
      turned First x y n e = ap (λ (z : Symbol). Two z y) (is_nt x n e)
      turned Second x y n e = ap (λ (z : Symbol). Two x z) (is_nt y n e)

  module _ (count : ℕ) where
    pub at_on : (old new : Table S) (joint : Joint) (s : S) → GoesOn sum_of composed whole ps start count old new → IsAt sum_of composed whole ps start old joint s → IsAt sum_of composed whole ps start new joint s
    at_on old new joint s goes h =
        record {
          production = h.production;
          at = h.at;
          useful = h.useful;
          nonterminal = h.nonterminal;
          number = h.number;
          pair = goes.keeps joint.pair (h.nonterminal.0, s) h.pair;
          within = omega (arith, h.within, goes.bound);
        }

    pub alone_makes : (t : Table S) (joint : Joint) (s : S) (a : Symbol) → joint.side ≡ First → IsTable sum_of composed whole ps start count t → IsAt sum_of composed whole ps start t joint s → ((p : Production) → slice_get ps joint.place ≡ Some p → p.right ≡ One a) → MakesAt sum_of composed whole ps start t joint.place (parts.One (part.Inner joint.pair)) s
    alone_makes t joint s a first table h right = made a (right h.production h.at) (ap (λ (side : Side). number_by side h.production.right) (sym first) ∙ h.number)
      where
        made : (x : Symbol) → h.production.right ≡ One x → number_by First h.production.right ≡ Some h.nonterminal.0 → MakesAt sum_of composed whole ps start t joint.place (parts.One (part.Inner joint.pair)) s
        made x e n = with_symbol x e (ap (number_by First) (sym e) ∙ n)
          where
            with_symbol : (y : Symbol) → h.production.right ≡ One y → number_in y ≡ Some h.nonterminal.0 → MakesAt sum_of composed whole ps start t joint.place (parts.One (part.Inner joint.pair)) s
            with_symbol (Range range) e' n' = cc
            with_symbol (Token token) e' n' = cc
            with_symbol (Nt c) e' n' =
                let k : c.0 ≡ h.nonterminal.0 = same_Some c.0 h.nonterminal.0 n' in
                record {
                  production = record { left = h.production.left; right = One (Nt h.nonterminal) };
                  at = h.at ∙ ap (λ (r : Right). let p : Production = record { left = h.production.left; right = r } in Some p) (e' ∙ ap (λ (m : ℕ). One (Nt (record { 0 = m }))) k);
                  useful = h.useful;
                  makes = (table.early joint.pair (h.nonterminal.0, s) h.within h.pair).supports;
                }

    pub gives_alone : {E : Type 0} (r : Result (Unit {0}) E) (old new : Table S) (joint : Joint) (s : S) (number n : ℕ) (a : Symbol) → slice_get old.sums.keys number ≡ Some s → joint.side ≡ First → ((p : Production) → slice_get ps joint.place ≡ Some p → p.right ≡ One a) → OnOk r ((u : S) → slice_get old.sums.keys number ≡ Some u → Adds sum_of composed whole ps start count old new joint.place u) → OnOk r (Gives sum_of composed whole ps start count old new joint.side s n (λ (k : ℕ). k ≡ joint.place))
    gives_alone (Err e) old new joint s number n a told first right adds = tt
    gives_alone (Ok e) old new joint s number n a told first right adds =
        let added = adds s told in
        record {
          goes = added.goes;
          given = λ place p here at.
              let at' : slice_get ps joint.place ≡ Some p = ap (slice_get ps) (sym here) ∙ at in
              subst (λ (side : Side). IsGiven sum_of composed whole ps start (known old) (known new) n p.left.0 side p.right s) (sym first)
              (subst (λ (z : Right). IsGiven sum_of composed whole ps start (known old) (known new) n p.left.0 First z s) (sym (right p at'))
              (added.has p at'));
        }

    pub gives_nothing : (t : Table S) (joint : Joint) (s : S) (n : ℕ) (r : Right) → IsTable sum_of composed whole ps start count t → ((p : Production) → slice_get ps joint.place ≡ Some p → p.right ≡ r) → ((m left : ℕ) → IsGiven sum_of composed whole ps start (known t) (known t) m left joint.side r s) → Gives sum_of composed whole ps start count t t joint.side s n (λ (k : ℕ). k ≡ joint.place)
    gives_nothing t joint s n r table right f =
        record {
          goes = goes_none sum_of composed whole ps start count t table;
          given = λ place p here at. subst (λ (z : Right). IsGiven sum_of composed whole ps start (known t) (known t) n p.left.0 joint.side z s) (sym (right p (ap (slice_get ps) (sym here) ∙ at))) (f n p.left.0);
        }

    pub second_alone : (t : Table S) (joint : Joint) (s : S) (n : ℕ) (a : Symbol) → joint.side ≡ Second → IsTable sum_of composed whole ps start count t → ((p : Production) → slice_get ps joint.place ≡ Some p → p.right ≡ One a) → Gives sum_of composed whole ps start count t t joint.side s n (λ (k : ℕ). k ≡ joint.place)
    second_alone t joint s n a second table right =
        gives_nothing t joint s n (One a) table right (λ m left. subst (λ (side : Side). IsGiven sum_of composed whole ps start (known t) (known t) m left side (One a) s) (sym second) tt)

    pub empty_gives : (t : Table S) (joint : Joint) (s : S) (n : ℕ) → IsTable sum_of composed whole ps start count t → ((p : Production) → slice_get ps joint.place ≡ Some p → p.right ≡ Empty) → Gives sum_of composed whole ps start count t t joint.side s n (λ (k : ℕ). k ≡ joint.place)
    empty_gives t joint s n table right = gives_nothing t joint s n Empty table right (λ m left. by_side joint.side m left)
      where
        by_side : (side : Side) (m left : ℕ) → IsGiven sum_of composed whole ps start (known t) (known t) m left side Empty s
        by_side First m left = tt
        by_side Second m left = tt

    pub gives_beside : {E : Type 0} (r : Result (Unit {0}) E) (old new : Table S) (joint : Joint) (s : S) (n : ℕ) (a b : Symbol) → ((p : Production) → slice_get ps joint.place ≡ Some p → p.right ≡ Two a b) → OnOk r (MeetsSymbol sum_of composed whole ps start count old new joint s n (other_by joint.side a b)) → OnOk r (Gives sum_of composed whole ps start count old new joint.side s n (λ (k : ℕ). k ≡ joint.place))
    gives_beside (Err e) old new joint s n a b right h = tt
    gives_beside (Ok e) old new joint s n a b right h =
        record {
          goes = h.goes;
          given = λ place p here at.
              let at' : slice_get ps joint.place ≡ Some p = ap (slice_get ps) (sym here) ∙ at in
              subst (λ (z : Right). IsGiven sum_of composed whole ps start (known old) (known new) n p.left.0 joint.side z s) (sym (right p at'))
              (by_side joint.side p.left.0 (λ u has. h.met u p has at'));
        }
      where
        by_side : (side : Side) (left : ℕ) → ((u : S) → HasSum sum_of composed (known old) n (other_by side a b) u → Contains (known new) (left, composed_by composed side s u)) → IsGiven sum_of composed whole ps start (known old) (known new) n left side (Two a b) s
        by_side First left f = f
        by_side Second left f = f

    pub gives_more : (P Q R : ℕ → Type 0) (old mid new : Table S) (side : Side) (s : S) (n : ℕ) → ((k : ℕ) → R k → P k ⊎ Q k) → Gives sum_of composed whole ps start count old mid side s n P → Gives sum_of composed whole ps start count mid new side s n Q → Gives sum_of composed whole ps start count old new side s n R
    gives_more P Q R old mid new side s n splits p q =
        record {
          goes = goes_both sum_of composed whole ps start count old mid new p.goes q.goes;
          given = λ k r asked here. elim (splits k asked) [
            | inl h ↦ given_on (known old) (known mid) (known new) n r.left.0 side r.right s q.goes.keeps (p.given k r h here)
            | inr h ↦ given_from (known old) (known mid) (known new) n r.left.0 side r.right s p.goes.keeps (q.given k r h here)
          ];
        }

    -- of a walk along the chain of the nonterminal, nothing is given at first
    pub gives_none : (t : Table S) (side : Side) (s : S) (n : ℕ) (P : ℕ → Type 0) → IsTable sum_of composed whole ps start count t → ((k : ℕ) → P k → ⊥) → Gives sum_of composed whole ps start count t t side s n P
    gives_none t side s n P table none = record { goes = goes_none sum_of composed whole ps start count t table; given = λ k p asked at. absurd (none k asked) }

    -- what is given at places is given at fewer
    pub gives_fewer : (old new : Table S) (side : Side) (s : S) (n : ℕ) (P R : ℕ → Type 0) → ((k : ℕ) → R k → P k) → Gives sum_of composed whole ps start count old new side s n P → Gives sum_of composed whole ps start count old new side s n R
    gives_fewer old new side s n P R weaker gives = record { goes = gives.goes; given = λ k p asked at. gives.given k p (weaker k asked) at }

    -- at a place of its chain, the pair stands on the side
    pub stands_at : (side : Side) (s : S) (a : ℕ) (uses : Chains) (are : AreUses side ps start count uses) (old mid : Table S) (pair place : ℕ) → a < count → slice_get (known old) pair ≡ Some (a, s) → pair < old.bound → slice_get are.keys place ≡ Some a → GoesOn sum_of composed whole ps start count old mid → IsAt sum_of composed whole ps start mid (record { place = place; side = side; pair = pair }) s
    stands_at side s a uses are old mid pair place below here within stands goes =
        let h = (are.exact a place below).0 stands in
        record {
          production = h.0;
          at = h.1;
          useful = h.2;
          nonterminal = record { 0 = a };
          number = h.3;
          pair = goes.keeps pair (a, s) here;
          within = omega (arith, within, goes.bound);
        }

    pub taken_on : (old new : Table S) (taken : Taken) → taken_count taken ≤ length (known old) → GoesOn sum_of composed whole ps start count old new → AreTaken (known old) taken → AreTaken (known new) taken
    taken_on old new taken l goes h =
        subst (λ (keys : List ℕ). AreChains keys taken.chains.last.items taken.chains.before.items) (sym (first_kept (known old) (known new) (taken_count taken) goes.keeps l)) h

    closed_on : (xs ys : List (Pair S)) (n : ℕ) → Keeps xs ys → n ≤ length xs → IsClosed sum_of composed ps start xs n → IsClosed sum_of composed ps start ys n
    closed_on xs ys n keeps l h =
        record {
          empties = λ left c u. keeps_member xs ys (left.0, sum_of []) keeps (h.empties left c u);
          ones = λ left a s c u has. keeps_member xs ys (left.0, s) keeps (h.ones left a s c u (has_before xs ys n a s keeps l has));
          twos = λ left a b s t c u has has'. keeps_member xs ys (left.0, composed s t) keeps (h.twos left a b s t c u (has_before xs ys n a s keeps l has) (has_before xs ys n b t keeps l has'));
        }

    -- all that a pair gives
    module _ (old mid new : Table S) (n : ℕ) (a : nt.Nt) (s : S) (here : slice_get (known old) n ≡ Some (a.0, s)) (second : Gives sum_of composed whole ps start count old mid Second s n (λ (k : ℕ). StandsOn Second ps start a.0 k)) (first : Gives sum_of composed whole ps start count mid new First s (n + 1) (λ (k : ℕ). StandsOn First ps start a.0 k)) where
      within_old : n < length (known old)
      within_old = slice_get_within (known old) n (a.0, s) here

      within_mid : n < length (known mid)
      within_mid = slice_get_within (known mid) n (a.0, s) (second.goes.keeps n (a.0, s) here)

      keeps_all : Keeps (known old) (known new)
      keeps_all k x h = first.goes.keeps k x (second.goes.keeps k x h)

      is_taken : IsTaken sum_of composed ps start (known new) n a s
      is_taken =
          record {
            ones = λ left c u.
                let p = placed ps _ c in
                first.given p.0 (record { left = left; right = One (Nt a) }) (record { left = left; right = One (Nt a) }, p.2, u, refl) p.2;
            firsts = λ left b t c u has.
                let p = placed ps _ c in
                first.given p.0 (record { left = left; right = Two (Nt a) b }) (record { left = left; right = Two (Nt a) b }, p.2, u, refl) p.2 t
                (has_before (known mid) (known new) (n + 1) b t first.goes.keeps (omega (arith, within_mid)) has);
            seconds = λ left b t c u has.
                let p = placed ps _ c in
                keeps_member (known mid) (known new) (left.0, composed t s) first.goes.keeps
                (second.given p.0 (record { left = left; right = Two b (Nt a) }) (record { left = left; right = Two b (Nt a) }, p.2, u, refl) p.2 t
                (has_before (known old) (known new) n b t keeps_all (omega (arith, within_old)) has));
          }

      pub closed_more : IsClosed sum_of composed ps start (known old) n → IsClosed sum_of composed ps start (known new) (n + 1)
      closed_more closed =
          takes_one sum_of composed ps start (known new) n a s (keeps_all n (a.0, s) here) (closed_on (known old) (known new) n keeps_all (omega (arith, within_old)) closed) is_taken

    pub here_is : (pairs : List (Pair S)) (n : ℕ) → n < length pairs → (a : ℕ) (s : S) → ((x : Pair S) → slice_get pairs n ≡ Some x → a ≡ x.0) → ((x : Pair S) → slice_get pairs n ≡ Some x → s ≡ x.1) → slice_get pairs n ≡ Some (a, s)
    here_is pairs n l a s f h =
        let x = is_there pairs n l in
        x.1 ∙ (ap (λ (k : ℕ). let y : Pair S = (k, x.0.1) in Some y) (sym (f x.0 x.1)) ∙ ap (λ (u : S). let y : Pair S = (a, u) in Some y) (sym (h x.0 x.1)))

    -- one pair more is taken up
    module _ (before after : Taken) (a : ℕ) (pushed : (keys : List ℕ) → AreChains keys before.chains.last.items before.chains.before.items → AreChains (keys ++ a ∷ []) after.chains.last.items after.chains.before.items) where
      pub count_more : (pairs : List (Pair S)) → AreTaken pairs before → taken_count after ≡ taken_count before + 1
      count_more pairs chains =
          let keys = first_nonterminals pairs (taken_count before) in
          omega (arith, (pushed keys chains).links.long, length-append keys (a ∷ []), chains.links.long)

      pub chains_more : (old mid : Table S) (s : S) → AreUp sum_of composed whole ps start count old before → GoesOn sum_of composed whole ps start count old mid → slice_get (known old) (taken_count before) ≡ Some (a, s) → AreTaken (known mid) after
      chains_more old mid s up goes here =
          let n = taken_count before in
          let later = taken_on old mid before (let w = slice_get_within (known old) n (a, s) here in omega (arith, w)) goes up.chains in
          subst (λ (k : ℕ). AreChains (first_nonterminals (known mid) k) after.chains.last.items after.chains.before.items) (sym (count_more (known mid) later))
          (subst (λ (keys : List ℕ). AreChains keys after.chains.last.items after.chains.before.items) (sym (first_more (known mid) n a s (goes.keeps n (a, s) here))) (pushed (first_nonterminals (known mid) n) later))

      pub takes_all : (old mid new : Table S) (s : S) → length after.chains.last.items ≡ length before.chains.last.items → AreUp sum_of composed whole ps start count old before → taken_count before < old.bound → slice_get (known old) (taken_count before) ≡ Some (a, s) → Gives sum_of composed whole ps start count old mid Second s (taken_count before) (λ (k : ℕ). StandsOn Second ps start a k) → Gives sum_of composed whole ps start count mid new First s (taken_count after) (λ (k : ℕ). StandsOn First ps start a k) → Takes sum_of composed whole ps start count old new before after
      takes_all old mid new s long up more here second first =
          let one = count_more (known old) up.chains in
          let first' = subst (λ (k : ℕ). Gives sum_of composed whole ps start count mid new First s k (λ (i : ℕ). StandsOn First ps start a i)) one first in
          let goes = goes_both sum_of composed whole ps start count old mid new second.goes first.goes in
          let l = slice_get_within (known mid) (taken_count before) (a, s) (second.goes.keeps (taken_count before) (a, s) here) in
          record {
            goes = goes;
            up = record {
              table = first.goes.table;
              chains = taken_on mid new after (omega (arith, l, one)) first.goes (chains_more old mid s up second.goes here);
              spread = long ∙ up.spread;
              within = omega (arith, more, one, goes.bound);
              closed = subst (λ (k : ℕ). IsClosed sum_of composed ps start (known new) k) (sym one) (closed_more old mid new (taken_count before) (record { 0 = a }) s here second first' up.closed);
            };
            one = one;
          }

pub entry_pair : {S : Type 0} (t : Table S) (numbered : AreNumbered t.sums.keys t.entries.keys) (n : ℕ) (e : Entry) → Some e ≡ slice_get t.entries.keys n → (x : Pair S) → slice_get (known t) n ≡ Some x → e.nonterminal ≡ x.0
entry_pair t numbered n e at x known_at =
    let k = at_known t.sums.keys t.entries.keys n x numbered known_at in
    ap (λ (z : Entry). z.nonterminal) (same_Some e k.0 (at ∙ k.1)) ∙ k.2

pub entry_there : {S : Type 0} (t : Table S) (numbered : AreNumbered t.sums.keys t.entries.keys) (n : ℕ) → n < length (known t) → None ≡ slice_get t.entries.keys n → ⊥
entry_there t numbered n l e = not_absent t.entries.keys n (let k = known_length t.sums.keys t.entries.keys numbered in omega (arith, l, k)) e

pub right_read : (ps : List Production) (place : ℕ) (read : Production) (r : Right) → read ≡ get_or ps place read → read.right ≡ r → (p : Production) → slice_get ps place ≡ Some p → p.right ≡ r
right_read ps place read r is e p at = ap (λ (z : Production). z.right) (sym (is ∙ get_or_from_slice_get ps place p read at)) ∙ e
