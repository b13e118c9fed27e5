-- A pair that meets others.
use Rattle.std.proofs.Common.{◌≡◌, ℕ, ◌+◌, ◌<◌, ◌≤◌, ◌⊎◌, inl, inr, Bool, true, List, refl, sym, ◌∙◌, ap, subst, arith, Some, slice_get, Result, Ok, Err, OnOk}
use Rattle.std.specs.Prelude.{nat_lt}
use Rattle.std.specs.List.{list_all}
use Rattle.std.specs.Cmp.{first_so, second_so}
use Rattle.std.proofs.lemmas.Bool.{ltb-true}
use Rattle.std.proofs.lemmas.Option.{same_Some}
use Rattle.text_base.specs.declared.page_token.PageToken.{PageToken}
use Rattle.text_base.specs.declared.numbers.Nt as nt
use Rattle.cfg_grammar.specs.declared.symbol.Symbol.{Symbol}
use Rattle.cfg_grammar.specs.declared.symbol.Symbol.TheVariants.{Range, Token, Nt}
use Rattle.cfg_grammar.specs.declared.production.Right.{Right}
use Rattle.cfg_grammar.specs.declared.production.Production.{Production}
use Rattle.cfg_grammar.specs.Below.{AreBelow, symbols_of, symbol_below, production_below}
use Rattle.derivations.specs.declared.node.Parts.{Parts}
use Rattle.derivations.specs.declared.node.Part.{Part}
use Rattle.derivations.specs.declared.node.Part.TheVariants as part
use Rattle.derivations.specs.declared.node.Node.{Node}
use Rattle.derivations.specs.Nodes.{most, part_length, parts_length}
use Rattle.summary_decision.specs.declared.joint.Side.{Side}
use Rattle.summary_decision.specs.declared.joint.Side.TheVariants.{First, Second}
use Rattle.summary_decision.specs.declared.joint.Joint.{Joint}
use Rattle.summary_decision.specs.declared.letters.Piece.{Piece}
use Rattle.summary_decision.specs.Closed.{Pair}
use Rattle.summary_decision.specs.Joints.{right_by, parts_by, composed_by, IsLetterOf, first_nonterminals}
use Rattle.summary_decision.proofs.TakenLemmas.{key_told, told_key}
use Rattle.summary_decision.proofs.AddLemmas.{passes_at}
use Rattle.short_sentences.specs.declared.table.Table.{Table}
use Rattle.short_sentences.specs.declared.taken.Taken.{Taken}
use Rattle.short_sentences.specs.Closed.{HasSum}
use Rattle.short_sentences.specs.Tables.{known, IsReached, Supports, Makes, MakesAt, IsTable, GoesOn, Adds}
use Rattle.short_sentences.specs.Joints.{length_at, IsBeside, IsPartner, MeetsPairs, MeetsSymbol}
use Rattle.short_sentences.proofs.MadeLemmas.{letter_supports}
use Rattle.short_sentences.proofs.TableLemmas.{reached_within, goes_none, goes_both}

-- the length of two parts is no less than that of either and no more than their sum
pub by_length : (nodes : List Node) (side : Side) (p q : Part) → parts_length nodes (parts_by side p q) ≤ part_length nodes p + part_length nodes q
by_length nodes First p q = omega arith
by_length nodes Second p q = omega arith

pub by_late : (nodes : List Node) (side : Side) (p q : Part) (l : ℕ) → l ≤ part_length nodes p → l ≤ most → l ≤ parts_length nodes (parts_by side p q)
by_late nodes First p q l late few = omega (arith, late, few)
by_late nodes Second p q l late few = omega (arith, late, few)

module _ {S : Type 0} (sum_of : List PageToken → S) (composed : S → S → S) where
  pub letter_is : (pairs : List (Pair S)) (nodes : List Node) (n : ℕ) (b : Symbol) (piece : Piece S) (u : S) (m : ℕ) → IsLetterOf sum_of b (Some piece) → HasSum sum_of composed pairs nodes n b u m → (piece.sum ≡ u) × (part_length nodes piece.part ≡ m)
  letter_is pairs nodes n (Range range) piece u m is has = (is.1 ∙ has.0, ap (part_length nodes) is.0 ∙ sym has.1)
  letter_is pairs nodes n (Token token) piece u m is has = (is.1 ∙ has.0, ap (part_length nodes) is.0 ∙ sym has.1)
  letter_is pairs nodes n (Nt a) piece u m is has = absurd is

module _ {S : Type 0} (sum_of : List PageToken → S) (composed : S → S → S) (whole : S → Bool) (ps : List Production) (start : nt.Nt) where
  makes_by : (nodes : List Node) (side : Side) (p q : Part) (a b : Symbol) (s u : S) → Supports sum_of composed whole ps start nodes p a s → Supports sum_of composed whole ps start nodes q b u → Makes sum_of composed whole ps start nodes (right_by side a b) (parts_by side p q) (composed_by composed side s u)
  makes_by nodes First p q a b s u x y = (s, u, x, y, refl)
  makes_by nodes Second p q a b s u x y = (u, s, y, x, refl)

  module _ (count : ℕ) (taken : Taken) where
    abbrev nodes : List Node
    nodes = taken.nodes.nodes.items

    pub beside_makes : (t : Table S) (joint : Joint) (s : S) (b : Symbol) (q : Part) (u : S) → IsTable sum_of composed whole ps start count t taken → IsBeside sum_of composed whole ps start t taken joint s b → Supports sum_of composed whole ps start nodes q b u → MakesAt sum_of composed whole ps start nodes joint.place (parts_by joint.side (part.Inner joint.pair) q) (composed_by composed joint.side s u)
    beside_makes t joint s b q u table beside y =
        record {
          production = beside.production;
          at = beside.at;
          useful = beside.useful;
          makes = subst (λ (r : Right). Makes sum_of composed whole ps start nodes r (parts_by joint.side (part.Inner joint.pair) q) (composed_by composed joint.side s u)) (sym beside.right)
              (makes_by nodes joint.side (part.Inner joint.pair) q (Nt beside.nonterminal) b s u (table.up.made joint.pair (beside.nonterminal.0, s) beside.pair).supports y);
        }

    pub beside_late : (t : Table S) (joint : Joint) (s : S) (b : Symbol) (q : Part) → IsTable sum_of composed whole ps start count t taken → IsBeside sum_of composed whole ps start t taken joint s b → taken.length ≤ parts_length nodes (parts_by joint.side (part.Inner joint.pair) q)
    beside_late t joint s b q table beside = by_late nodes joint.side (part.Inner joint.pair) q taken.length beside.late table.up.bounded

    pub beside_on : (old new : Table S) (joint : Joint) (s : S) (b : Symbol) → GoesOn sum_of composed whole ps start count taken old new → IsBeside sum_of composed whole ps start old taken joint s b → IsBeside sum_of composed whole ps start new taken joint s b
    beside_on old new joint s b goes h =
        record {
          production = h.production;
          at = h.at;
          useful = h.useful;
          nonterminal = h.nonterminal;
          right = h.right;
          pair = subst (λ (z : List (Pair S)). slice_get z joint.pair ≡ Some (h.nonterminal.0, s)) (sym goes.known_same) h.pair;
          late = h.late;
        }

    pub partner_on : (old new : Table S) (c j : ℕ) → GoesOn sum_of composed whole ps start count taken old new → IsPartner sum_of composed whole ps start old taken c j → IsPartner sum_of composed whole ps start new taken c j
    partner_on old new c j goes p = (p.0, subst (λ (z : List (Pair S)). slice_get z j ≡ Some (c, p.0)) (sym goes.known_same) p.1)

    -- what makes the composition with one pair
    pub pair_makes : (t : Table S) (joint : Joint) (s : S) (c : nt.Nt) (j : ℕ) (u : S) → IsTable sum_of composed whole ps start count t taken → IsBeside sum_of composed whole ps start t taken joint s (Nt c) → slice_get (known t taken) j ≡ Some (c.0, u) → MakesAt sum_of composed whole ps start nodes joint.place (parts_by joint.side (part.Inner joint.pair) (part.Inner j)) (composed_by composed joint.side s u)
    pair_makes t joint s c j u table beside at = beside_makes t joint s (Nt c) (part.Inner j) u table beside (table.up.made j (c.0, u) at).supports

    -- the same behind what goes on
    pub adds_behind : (old mid new : Table S) (place : ℕ) (qs : Parts) (s : S) → GoesOn sum_of composed whole ps start count taken old mid → Adds sum_of composed whole ps start count taken mid new place qs s → Adds sum_of composed whole ps start count taken old new place qs s
    adds_behind old mid new place qs s goes h = record { goes = goes_both sum_of composed whole ps start count taken old mid new goes h.goes; has = h.has }

    pub meets_one : {E : Type 0} (r : Result (Unit {0}) E) (old mid new : Table S) (joint : Joint) (s : S) (c j number : ℕ) (qs : Parts) (partner : IsPartner sum_of composed whole ps start old taken c j) → qs ≡ parts_by joint.side (part.Inner joint.pair) (part.Inner j) → slice_get mid.sums.numbered.keys number ≡ Some (composed_by composed joint.side s partner.0) → GoesOn sum_of composed whole ps start count taken old mid → OnOk r ((u : S) → slice_get mid.sums.numbered.keys number ≡ Some u → Adds sum_of composed whole ps start count taken mid new joint.place qs u) → OnOk r (MeetsPairs sum_of composed whole ps start count taken old new joint s c (λ (i : ℕ). i ≡ j))
    meets_one (Err e) old mid new joint s c j number qs partner same_parts told goes h = tt
    meets_one (Ok e) old mid new joint s c j number qs partner same_parts told goes h =
        let adds = h (composed_by composed joint.side s partner.0) told in
        record {
          goes = goes_both sum_of composed whole ps start count taken old mid new goes adds.goes;
          met = λ i v p same at here.
              let one : ◌≡◌ {A = Pair S} (c, partner.0) (c, v) = same_Some (c, partner.0) (c, v) (sym partner.1 ∙ (ap (slice_get (known old taken)) (sym same) ∙ at)) in
              let l = by_length nodes joint.side (part.Inner joint.pair) (part.Inner j) in
              let k = ap (parts_length nodes) same_parts in
              let m = ap (length_at taken) same in
              reached_within new (p.left.0, composed_by composed joint.side s v) (parts_length nodes qs) (length_at taken joint.pair + length_at taken i) (omega (arith, l, k, m))
              (subst (λ (x : Pair S). IsReached new (p.left.0, composed_by composed joint.side s x.1) (parts_length nodes qs)) one (adds.has p here));
        }

    pub meets_more : (P Q R : ℕ → Type 0) (old mid new : Table S) (joint : Joint) (s : S) (c : ℕ) → ((j : ℕ) → R j → P j ⊎ Q j) → MeetsPairs sum_of composed whole ps start count taken old mid joint s c P → MeetsPairs sum_of composed whole ps start count taken mid new joint s c Q → MeetsPairs sum_of composed whole ps start count taken old new joint s c R
    meets_more P Q R old mid new joint s c splits p q =
        record {
          goes = goes_both sum_of composed whole ps start count taken old mid new p.goes q.goes;
          met = λ j u r asked at here. elim (splits j asked) [
            | inl h ↦ q.goes.reaches (r.left.0, composed_by composed joint.side s u) (length_at taken joint.pair + length_at taken j) (p.met j u r h at here)
            | inr h ↦ q.met j u r h (subst (λ (z : List (Pair S)). slice_get z j ≡ Some (c, u)) (sym p.goes.known_same) at) here
          ];
        }

    -- of a walk along the chain of the nonterminal, no pair is met at first
    pub meets_none : (t : Table S) (joint : Joint) (s : S) (c : ℕ) (P : ℕ → Type 0) → IsTable sum_of composed whole ps start count t taken → ((j : ℕ) → P j → ⊥) → MeetsPairs sum_of composed whole ps start count taken t t joint s c P
    meets_none t joint s c P table none = record { goes = goes_none sum_of composed whole ps start count taken t table; met = λ j u p asked at here. absurd (none j asked) }

    -- where all pairs of the nonterminal on its chain are met, the symbol is
    pub meets_all : (old new : Table S) (joint : Joint) (s : S) (c : nt.Nt) (n : ℕ) (P : ℕ → Type 0) → ((j : ℕ) → slice_get (first_nonterminals (known old taken) n) j ≡ Some c.0 → P j) → MeetsPairs sum_of composed whole ps start count taken old new joint s c.0 P → MeetsSymbol sum_of composed whole ps start count taken old new joint s n (Nt c)
    meets_all old new joint s c n P all meets =
        record {
          goes = meets.goes;
          met = λ u m p has here.
              subst (λ (k : ℕ). IsReached new (p.left.0, composed_by composed joint.side s u) (length_at taken joint.pair + k)) has.3
              (meets.met has.0 u p (all has.0 (told_key (known old taken) n has.0 c.0 u has.1 has.2)) has.2 here);
        }

    -- a place at which the nonterminal stands on a chain has a pair of it
    pub stands_partner : (old mid : Table S) (c n place : ℕ) → slice_get (first_nonterminals (known old taken) n) place ≡ Some c → GoesOn sum_of composed whole ps start count taken old mid → IsPartner sum_of composed whole ps start mid taken c place
    stands_partner old mid c n place stands goes = let k = key_told (known old taken) n place c stands in partner_on old mid c place goes k.1

    -- the letter
    pub meets_letter : {E : Type 0} (r : Result (Unit {0}) E) (old new : Table S) (joint : Joint) (s : S) (b : Symbol) (piece : Piece S) (qs : Parts) (v : S) → qs ≡ parts_by joint.side (part.Inner joint.pair) piece.part → v ≡ composed_by composed joint.side s piece.sum → IsLetterOf sum_of b (Some piece) → OnOk r (Adds sum_of composed whole ps start count taken old new joint.place qs v) → OnOk r ((n : ℕ) → MeetsSymbol sum_of composed whole ps start count taken old new joint s n b)
    meets_letter (Err e) old new joint s b piece qs v same_parts same is h = tt
    meets_letter (Ok e) old new joint s b piece qs v same_parts same is h = λ n.
        record {
          goes = h.goes;
          met = λ u m p has here.
              let k = letter_is sum_of composed (known old taken) nodes n b piece u m is has in
              let l = by_length nodes joint.side (part.Inner joint.pair) piece.part in
              let i = ap (parts_length nodes) same_parts in
              let j = k.1 in
              reached_within new (p.left.0, composed_by composed joint.side s u) (parts_length nodes qs) (length_at taken joint.pair + m) (omega (arith, l, i, j))
              (subst (λ (x : S). IsReached new (p.left.0, x) (parts_length nodes qs)) (same ∙ ap (composed_by composed joint.side s) k.0) (h.has p here));
        }

    -- whatever the count
    pub letter_taken : {E : Type 0} (r : Result (Unit {0}) E) (old new : Table S) (joint : Joint) (s : S) (b : Symbol) (n : ℕ) → OnOk r ((m : ℕ) → MeetsSymbol sum_of composed whole ps start count taken old new joint s m b) → OnOk r (MeetsSymbol sum_of composed whole ps start count taken old new joint s n b)
    letter_taken (Err e) old new joint s b n h = tt
    letter_taken (Ok e) old new joint s b n h = h n

    pub makes_along : (place : ℕ) (qs rs : Parts) (s u : S) → rs ≡ qs → u ≡ s → MakesAt sum_of composed whole ps start nodes place qs s → MakesAt sum_of composed whole ps start nodes place rs u
    makes_along place qs rs s u e f h =
        subst (λ (x : S). MakesAt sum_of composed whole ps start nodes place rs x) (sym f) (subst (λ (x : Parts). MakesAt sum_of composed whole ps start nodes place x s) (sym e) h)

    pub letter_makes : (t : Table S) (joint : Joint) (s : S) (b : Symbol) (piece : Piece S) → IsTable sum_of composed whole ps start count t taken → IsBeside sum_of composed whole ps start t taken joint s b → IsLetterOf sum_of b (Some piece) → MakesAt sum_of composed whole ps start nodes joint.place (parts_by joint.side (part.Inner joint.pair) piece.part) (composed_by composed joint.side s piece.sum)
    letter_makes t joint s b piece table beside is = beside_makes t joint s b piece.part piece.sum table beside (letter_supports sum_of composed whole ps start nodes b piece is)

    pub symbol_along : {E : Type 0} (r : Result (Unit {0}) E) (old new : Table S) (joint : Joint) (s : S) (n : ℕ) (b d : Symbol) → b ≡ d → OnOk r (MeetsSymbol sum_of composed whole ps start count taken old new joint s n b) → OnOk r (MeetsSymbol sum_of composed whole ps start count taken old new joint s n d)
    symbol_along r old new joint s n b d e h = subst (λ (x : Symbol). OnOk r (MeetsSymbol sum_of composed whole ps start count taken old new joint s n x)) e h

    pub beside_below : AreBelow count ps → (t : Table S) (joint : Joint) (s : S) (c : nt.Nt) → IsBeside sum_of composed whole ps start t taken joint s (Nt c) → c.0 < count
    beside_below below t joint s c h = by_side joint.side h.right
      where
        all : list_all (symbol_below count) (symbols_of h.production.right) ≡ true
        all = second_so (nat_lt h.production.left.0 count) (list_all (symbol_below count) (symbols_of h.production.right)) (passes_at (production_below count) ps joint.place h.production below h.at)

        by_side : (side : Side) → h.production.right ≡ right_by side (Nt h.nonterminal) (Nt c) → c.0 < count
        by_side First e =
            let two : list_all (symbol_below count) (symbols_of (right_by First (Nt h.nonterminal) (Nt c))) ≡ true = ap (λ (r : Right). list_all (symbol_below count) (symbols_of r)) (sym e) ∙ all in
            ltb-true c.0 count (first_so _ _ (second_so _ _ two))
        by_side Second e =
            let two : list_all (symbol_below count) (symbols_of (right_by Second (Nt h.nonterminal) (Nt c))) ≡ true = ap (λ (r : Right). list_all (symbol_below count) (symbols_of r)) (sym e) ∙ all in
            ltb-true c.0 count (first_so _ _ two)
