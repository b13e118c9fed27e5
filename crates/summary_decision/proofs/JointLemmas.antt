-- A pair that meets others.
use Rattle.std.proofs.Common.{◌≡◌, ℕ, ◌<◌, ◌≤◌, ◌⊎◌, inl, inr, Bool, true, List, [], ◌∷◌, Contains, refl, sym, ◌∙◌, ap, subst, arith, Some, slice_get, Result, Ok, Err, OnOk}
use Rattle.std.specs.Prelude.{nat_lt}
use Rattle.std.specs.List.{list_all}
use Rattle.std.specs.Cmp.{first_so, second_so}
use Rattle.std.proofs.lemmas.Bool.{ltb-true}
use Rattle.std.proofs.lemmas.Option.{same_Some}
use Rattle.text_base.specs.declared.letter.Letter.TheVariants.{OfByte, OfToken}
use Rattle.text_base.specs.declared.page_token.PageToken.{PageToken}
use Rattle.text_base.specs.declared.numbers.Nt as nt
use Rattle.cfg_grammar.specs.declared.symbol.Symbol.{Symbol}
use Rattle.cfg_grammar.specs.declared.symbol.Symbol.TheVariants.{Range, Token, Nt}
use Rattle.cfg_grammar.specs.declared.production.Right.{Right}
use Rattle.cfg_grammar.specs.declared.production.Production.{Production}
use Rattle.cfg_grammar.specs.Below.{AreBelow, symbols_of, symbol_below, production_below}
use Rattle.cfg_grammar.specs.Derives.{DerivesIn}
use Rattle.derivations.specs.declared.node.Parts.{Parts}
use Rattle.derivations.specs.declared.node.Part.{Part}
use Rattle.derivations.specs.declared.node.Part.TheVariants as part
use Rattle.derivations.specs.declared.node.Node.{Node}
use Rattle.derivations.specs.Stands.{Stands}
use Rattle.summary_decision.specs.declared.joint.Side.{Side}
use Rattle.summary_decision.specs.declared.joint.Side.TheVariants.{First, Second}
use Rattle.summary_decision.specs.declared.joint.Joint.{Joint}
use Rattle.summary_decision.specs.declared.letters.Piece.{Piece}
use Rattle.summary_decision.specs.declared.table.Table.{Table}
use Rattle.summary_decision.specs.declared.table.Join.{Join}
use Rattle.summary_decision.specs.Closed.{Pair, HasSum}
use Rattle.summary_decision.specs.Tables.{known, Supports, Makes, MakesAt, IsTable, GoesOn, Adds}
use Rattle.summary_decision.specs.Joints.{right_by, parts_by, composed_by, join_by, IsLetterOf, first_nonterminals, IsBeside, IsPartner, MeetsPairs, MeetsSymbol}
use Rattle.summary_decision.proofs.KnownLemmas.{keeps_member}
use Rattle.summary_decision.proofs.TakenLemmas.{key_told, told_key}
use Rattle.summary_decision.proofs.AddLemmas.{passes_at}

-- the number of a composition, by the side
pub joined_by : {S : Type 0} (composed : S → S → S) (side : Side) (sums more : List S) (own other : ℕ) (join : Join) (r : ℕ) (s t : S) → join ≡ join_by side own other → ((a b : S) → slice_get sums join.first ≡ Some a → slice_get sums join.second ≡ Some b → slice_get more r ≡ Some (composed a b)) → slice_get sums own ≡ Some s → slice_get sums other ≡ Some t → slice_get more r ≡ Some (composed_by composed side s t)
joined_by composed First sums more own other join r s t is h first second =
    h s t (ap (λ (x : Join). slice_get sums x.first) is ∙ first) (ap (λ (x : Join). slice_get sums x.second) is ∙ second)
joined_by composed Second sums more own other join r s t is h first second =
    h t s (ap (λ (x : Join). slice_get sums x.first) is ∙ second) (ap (λ (x : Join). slice_get sums x.second) is ∙ first)

pub first_below : (side : Side) (own other count : ℕ) → own < count → other < count → (join_by side own other).first < count
first_below First own other count h k = h
first_below Second own other count h k = k

pub second_below : (side : Side) (own other count : ℕ) → own < count → other < count → (join_by side own other).second < count
second_below First own other count h k = k
second_below Second own other count h k = h

module _ {S : Type 0} (sum_of : List PageToken → S) (composed : S → S → S) (whole : S → Bool) (ps : List Production) (start : nt.Nt) where
  pub letter_supports : (nodes : List Node) (k : ℕ) (b : Symbol) (piece : Piece S) → IsLetterOf sum_of b (Some piece) → Supports sum_of composed whole ps start nodes k piece.part b piece.sum
  letter_supports nodes k (Range range) piece is =
      record {
        sentence = OfByte range.lo ∷ [];
        stands = subst (λ (p : Part). Stands ps nodes p (Range range) (OfByte range.lo ∷ [])) (sym is.0) (Stands.by_byte range range.lo (omega arith, range.ordered));
        height = 0;
        within = omega arith;
        derived = DerivesIn.by_range range range.lo (omega arith, range.ordered);
        same = sym is.1;
      }
  letter_supports nodes k (Token token) piece is =
      record {
        sentence = OfToken token ∷ [];
        stands = subst (λ (p : Part). Stands ps nodes p (Token token) (OfToken token ∷ [])) (sym is.0) (Stands.by_token token);
        height = 0;
        within = omega arith;
        derived = DerivesIn.by_token token;
        same = sym is.1;
      }
  letter_supports nodes k (Nt a) piece is = absurd is

  pub letter_is : (pairs : List (Pair S)) (n : ℕ) (b : Symbol) (piece : Piece S) (u : S) → IsLetterOf sum_of b (Some piece) → HasSum sum_of composed pairs n b u → piece.sum ≡ u
  letter_is pairs n (Range range) piece u is has = is.1 ∙ has
  letter_is pairs n (Token token) piece u is has = is.1 ∙ has
  letter_is pairs n (Nt a) piece u is has = absurd is

  pub makes_by : (nodes : List Node) (k : ℕ) (side : Side) (p q : Part) (a b : Symbol) (s u : S) → Supports sum_of composed whole ps start nodes k p a s → Supports sum_of composed whole ps start nodes k q b u → Makes sum_of composed whole ps start nodes k (right_by side a b) (parts_by side p q) (composed_by composed side s u)
  makes_by nodes k First p q a b s u x y = (s, u, x, y, refl)
  makes_by nodes k Second p q a b s u x y = (u, s, y, x, refl)

  module _ (count : ℕ) where
    pub beside_makes : (t : Table S) (joint : Joint) (s : S) (b : Symbol) (q : Part) (u : S) → IsTable sum_of composed whole ps start count t → IsBeside sum_of composed whole ps start t joint s b → Supports sum_of composed whole ps start t.nodes.nodes.items t.height q b u → MakesAt sum_of composed whole ps start t joint.place (parts_by joint.side (part.Inner joint.pair) q) (composed_by composed joint.side s u)
    beside_makes t joint s b q u table beside y =
        record {
          production = beside.production;
          at = beside.at;
          useful = beside.useful;
          makes = subst (λ (r : Right). Makes sum_of composed whole ps start t.nodes.nodes.items t.height r (parts_by joint.side (part.Inner joint.pair) q) (composed_by composed joint.side s u)) (sym beside.right)
              (makes_by t.nodes.nodes.items t.height joint.side (part.Inner joint.pair) q (Nt beside.nonterminal) b s u (table.early joint.pair (beside.nonterminal.0, s) beside.within beside.pair).supports y);
        }

    pub beside_on : (old new : Table S) (joint : Joint) (s : S) (b : Symbol) → GoesOn sum_of composed whole ps start count old new → IsBeside sum_of composed whole ps start old joint s b → IsBeside sum_of composed whole ps start new joint s b
    beside_on old new joint s b goes h =
        record {
          production = h.production;
          at = h.at;
          useful = h.useful;
          nonterminal = h.nonterminal;
          right = h.right;
          pair = goes.keeps joint.pair (h.nonterminal.0, s) h.pair;
          within = omega (arith, h.within, goes.bound);
        }

    partner_on : (old new : Table S) (c j : ℕ) → GoesOn sum_of composed whole ps start count old new → IsPartner sum_of composed whole ps start old c j → IsPartner sum_of composed whole ps start new c j
    partner_on old new c j goes p = (omega (arith, p.0, goes.bound), (p.1.0, goes.keeps j (c, p.1.0) p.1.1))

    pub goes_none : (t : Table S) → IsTable sum_of composed whole ps start count t → GoesOn sum_of composed whole ps start count t t
    goes_none t table = record { table = table; height = refl; bound = refl; keeps = λ n x h. h }

    pub goes_both : (old mid new : Table S) → GoesOn sum_of composed whole ps start count old mid → GoesOn sum_of composed whole ps start count mid new → GoesOn sum_of composed whole ps start count old new
    goes_both old mid new p q = record { table = q.table; height = q.height ∙ p.height; bound = q.bound ∙ p.bound; keeps = λ n x h. q.keeps n x (p.keeps n x h) }

    -- the same behind what goes on
    pub adds_behind : (old mid new : Table S) (place : ℕ) (s : S) → GoesOn sum_of composed whole ps start count old mid → Adds sum_of composed whole ps start count mid new place s → Adds sum_of composed whole ps start count old new place s
    adds_behind old mid new place s goes h = record { goes = goes_both old mid new goes h.goes; has = h.has }

    -- what makes the composition with one pair
    pub pair_makes : (t : Table S) (joint : Joint) (s : S) (c : nt.Nt) (j : ℕ) (u : S) → IsTable sum_of composed whole ps start count t → IsBeside sum_of composed whole ps start t joint s (Nt c) → j < t.bound → slice_get (known t) j ≡ Some (c.0, u) → MakesAt sum_of composed whole ps start t joint.place (parts_by joint.side (part.Inner joint.pair) (part.Inner j)) (composed_by composed joint.side s u)
    pair_makes t joint s c j u table beside within at = beside_makes t joint s (Nt c) (part.Inner j) u table beside (table.early j (c.0, u) within at).supports

    pub meets_one : {E : Type 0} (r : Result (Unit {0}) E) (old mid new : Table S) (joint : Joint) (s : S) (c j number : ℕ) (partner : IsPartner sum_of composed whole ps start old c j) → slice_get mid.sums.keys number ≡ Some (composed_by composed joint.side s partner.1.0) → GoesOn sum_of composed whole ps start count old mid → OnOk r ((u : S) → slice_get mid.sums.keys number ≡ Some u → Adds sum_of composed whole ps start count mid new joint.place u) → OnOk r (MeetsPairs sum_of composed whole ps start count old new joint s c (λ (i : ℕ). i ≡ j))
    meets_one (Err e) old mid new joint s c j number partner told goes h = tt
    meets_one (Ok e) old mid new joint s c j number partner told goes h =
        let adds = h (composed_by composed joint.side s partner.1.0) told in
        record {
          goes = goes_both old mid new goes adds.goes;
          met = λ i v p same at here.
              let one : ◌≡◌ {A = Pair S} (c, partner.1.0) (c, v) = same_Some (c, partner.1.0) (c, v) (sym partner.1.1 ∙ (ap (slice_get (known old)) (sym same) ∙ at)) in
              subst (λ (x : Pair S). Contains (known new) (p.left.0, composed_by composed joint.side s x.1)) one (adds.has p here);
        }

    pub meets_more : (P Q R : ℕ → Type 0) (old mid new : Table S) (joint : Joint) (s : S) (c : ℕ) → ((j : ℕ) → R j → P j ⊎ Q j) → MeetsPairs sum_of composed whole ps start count old mid joint s c P → MeetsPairs sum_of composed whole ps start count mid new joint s c Q → MeetsPairs sum_of composed whole ps start count old new joint s c R
    meets_more P Q R old mid new joint s c splits p q =
        record {
          goes = goes_both old mid new p.goes q.goes;
          met = λ j u r asked at here. elim (splits j asked) [
            | inl h ↦ keeps_member (known mid) (known new) (r.left.0, composed_by composed joint.side s u) q.goes.keeps (p.met j u r h at here)
            | inr h ↦ q.met j u r h (p.goes.keeps j (c, u) at) here
          ];
        }

    -- of a walk along the chain of the nonterminal, no pair is met at first
    pub meets_none : (t : Table S) (joint : Joint) (s : S) (c : ℕ) (P : ℕ → Type 0) → IsTable sum_of composed whole ps start count t → ((j : ℕ) → P j → ⊥) → MeetsPairs sum_of composed whole ps start count t t joint s c P
    meets_none t joint s c P table none = record { goes = goes_none t table; met = λ j u p asked found here. absurd (none j asked) }

    -- where all pairs of the nonterminal that are taken up are met, the symbol is
    pub meets_all : (old new : Table S) (joint : Joint) (s : S) (c : nt.Nt) (n : ℕ) (P : ℕ → Type 0) → ((j : ℕ) → slice_get (first_nonterminals (known old) n) j ≡ Some c.0 → P j) → MeetsPairs sum_of composed whole ps start count old new joint s c.0 P → MeetsSymbol sum_of composed whole ps start count old new joint s n (Nt c)
    meets_all old new joint s c n P all meets =
        record { goes = meets.goes; met = λ u p has here. meets.met has.0 u p (all has.0 (told_key (known old) n has.0 c.0 u has.1 has.2)) has.2 here }

    -- a place at which the nonterminal stands among those of the pairs that are taken up has a pair of it
    pub stands_partner : (old mid : Table S) (c n place : ℕ) → n ≤ old.bound → slice_get (first_nonterminals (known old) n) place ≡ Some c → GoesOn sum_of composed whole ps start count old mid → IsPartner sum_of composed whole ps start mid c place
    stands_partner old mid c n place within stands goes = let k = key_told (known old) n place c stands in partner_on old mid c place goes (omega (arith, k.0, within), k.1)

    -- the letter
    pub meets_letter : {E : Type 0} (r : Result (Unit {0}) E) (old new : Table S) (joint : Joint) (s : S) (b : Symbol) (piece : Piece S) → IsLetterOf sum_of b (Some piece) → OnOk r (Adds sum_of composed whole ps start count old new joint.place (composed_by composed joint.side s piece.sum)) → OnOk r ((n : ℕ) → MeetsSymbol sum_of composed whole ps start count old new joint s n b)
    meets_letter (Err e) old new joint s b piece is h = tt
    meets_letter (Ok e) old new joint s b piece is h = λ n.
        record { goes = h.goes; met = λ u p has here. subst (λ (x : S). Contains (known new) (p.left.0, composed_by composed joint.side s x)) (letter_is (known old) n b piece u is has) (h.has p here) }

    -- whatever the count
    pub letter_taken : {E : Type 0} (r : Result (Unit {0}) E) (old new : Table S) (joint : Joint) (s : S) (b : Symbol) (n : ℕ) → OnOk r ((m : ℕ) → MeetsSymbol sum_of composed whole ps start count old new joint s m b) → OnOk r (MeetsSymbol sum_of composed whole ps start count old new joint s n b)
    letter_taken (Err e) old new joint s b n h = tt
    letter_taken (Ok e) old new joint s b n h = h n

    pub makes_along : (t : Table S) (place : ℕ) (qs rs : Parts) (s u : S) → rs ≡ qs → u ≡ s → MakesAt sum_of composed whole ps start t place qs s → MakesAt sum_of composed whole ps start t place rs u
    makes_along t place qs rs s u e f h =
        subst (λ (x : S). MakesAt sum_of composed whole ps start t place rs x) (sym f) (subst (λ (x : Parts). MakesAt sum_of composed whole ps start t place x s) (sym e) h)

    pub adds_along : (old new : Table S) (place : ℕ) (s u : S) → u ≡ s → Adds sum_of composed whole ps start count old new place u → Adds sum_of composed whole ps start count old new place s
    adds_along old new place s u f h = subst (λ (x : S). Adds sum_of composed whole ps start count old new place x) f h

    pub adds_result : {E : Type 0} (r : Result (Unit {0}) E) (old new : Table S) (place : ℕ) (s u : S) → u ≡ s → OnOk r (Adds sum_of composed whole ps start count old new place u) → OnOk r (Adds sum_of composed whole ps start count old new place s)
    adds_result (Err e) old new place s u f h = tt
    adds_result (Ok e) old new place s u f h = adds_along old new place s u f h

    pub letter_makes : (t : Table S) (joint : Joint) (s : S) (b : Symbol) (piece : Piece S) → IsTable sum_of composed whole ps start count t → IsBeside sum_of composed whole ps start t joint s b → IsLetterOf sum_of b (Some piece) → MakesAt sum_of composed whole ps start t joint.place (parts_by joint.side (part.Inner joint.pair) piece.part) (composed_by composed joint.side s piece.sum)
    letter_makes t joint s b piece table beside is = beside_makes t joint s b piece.part piece.sum table beside (letter_supports t.nodes.nodes.items t.height b piece is)

    pub symbol_along : {E : Type 0} (r : Result (Unit {0}) E) (old new : Table S) (joint : Joint) (s : S) (n : ℕ) (b d : Symbol) → b ≡ d → OnOk r (MeetsSymbol sum_of composed whole ps start count old new joint s n b) → OnOk r (MeetsSymbol sum_of composed whole ps start count old new joint s n d)
    symbol_along r old new joint s n b d e h = subst (λ (x : Symbol). OnOk r (MeetsSymbol sum_of composed whole ps start count old new joint s n x)) e h

    pub beside_below : AreBelow count ps → (t : Table S) (joint : Joint) (s : S) (c : nt.Nt) → IsBeside sum_of composed whole ps start t joint s (Nt c) → c.0 < count
    beside_below below t joint s c h = by_side joint.side h.right
      where
        all : list_all (symbol_below count) (symbols_of h.production.right) ≡ true
        all = second_so (nat_lt h.production.left.0 count) (list_all (symbol_below count) (symbols_of h.production.right)) (passes_at (production_below count) ps joint.place h.production below h.at)

        by_side : (side : Side) → h.production.right ≡ right_by side (Nt h.nonterminal) (Nt c) → c.0 < count
        by_side First e =
            let two : list_all (symbol_below count) (symbols_of (right_by First (Nt h.nonterminal) (Nt c))) ≡ true = ap (λ (r : Right). list_all (symbol_below count) (symbols_of r)) (sym e) ∙ all in
            ltb-true c.0 count (first_so _ _ (second_so _ _ two))
        by_side Second e =
            let two : list_all (symbol_below count) (symbols_of (right_by Second (Nt h.nonterminal) (Nt c))) ≡ true = ap (λ (r : Right). list_all (symbol_below count) (symbols_of r)) (sym e) ∙ all in
            ltb-true c.0 count (first_so _ _ two)
