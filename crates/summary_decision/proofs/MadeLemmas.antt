-- Derivations of pairs, as nodes are added.
use Rattle.std.proofs.Common.{◌≡◌, ℕ, suc, ◌+◌, ◌≤◌, Bool, true, false, ◌&&◌, List, [], ◌∷◌, ◌++◌, length, max, refl, ◌∙◌, ap, arith, Some, slice_get}
use Rattle.std.specs.Prelude.{nat_lt}
use Rattle.std.proofs.lemmas.Option.{slice_get_within}
use Rattle.std.proofs.lemmas.Bool.{lt-ltb}
use Rattle.text_base.specs.declared.letter.Letter.{Letter}
use Rattle.text_base.specs.declared.page_token.PageToken.{PageToken}
use Rattle.text_base.specs.declared.numbers.Nt as nt
use Rattle.cfg_grammar.specs.declared.symbol.Symbol.{Symbol}
use Rattle.cfg_grammar.specs.declared.symbol.Symbol.TheVariants as symbol
use Rattle.cfg_grammar.specs.declared.production.Right.{Right}
use Rattle.cfg_grammar.specs.declared.production.Right.TheVariants as right
use Rattle.cfg_grammar.specs.declared.production.Production.{Production}
use Rattle.cfg_grammar.specs.Derives.{Derives, DerivesIn}
use Rattle.derivations.specs.declared.node.Part.{Part}
use Rattle.derivations.specs.declared.node.Part.TheVariants.{Inner}
use Rattle.derivations.specs.declared.node.Parts.{Parts}
use Rattle.derivations.specs.declared.node.Parts.TheVariants as parts
use Rattle.derivations.specs.declared.node.Node.{Node}
use Rattle.derivations.specs.Nodes.{part_below, parts_below}
use Rattle.derivations.specs.Stands.{Stands}
use Rattle.numbered_sets.specs.Numbers.{Keeps}
use Rattle.numbered_sets.proofs.NumberLemmas.{at_front}
use Rattle.summary_decision.specs.Pairs.{tokens_in, IsPair}
use Rattle.summary_decision.specs.Closed.{Pair}
use Rattle.summary_decision.specs.Tables.{Supports, IsMade, Makes}
use Rattle.summary_decision.proofs.ClosedLemmas.{contained, tokens_append}
use Rattle.summary_decision.proofs.KnownLemmas.{at_end}

true_and : (a b : Bool) → a ≡ true → b ≡ true → (a && b) ≡ true
true_and true true e f = refl
true_and true false e f = f
true_and false b e f = e

module _ (ps : List Production) where
  pub stands_on : (nodes more : List Node) (p : Part) (a : Symbol) (w : List Letter) → Keeps nodes more → Stands ps nodes p a w → Stands ps more p a w
  stands_on nodes more p a w keeps (Stands.by_byte range byte h) = Stands.by_byte range byte h
  stands_on nodes more p a w keeps (Stands.by_token token) = Stands.by_token token
  stands_on nodes more p a w keeps (Stands.by_empty n node left e f g) = Stands.by_empty n node left (keeps n node e) f g
  stands_on nodes more p a w keeps (Stands.by_one n node left b q v e f g s) = Stands.by_one n node left b q v (keeps n node e) f g (stands_on nodes more q b v keeps s)
  stands_on nodes more p a w keeps (Stands.by_two n node left b c q r u v e f g s t) = Stands.by_two n node left b c q r u v (keeps n node e) f g (stands_on nodes more q b u keeps s) (stands_on nodes more r c v keeps t)

  inner_below : (nodes : List Node) (n : ℕ) (node : Node) → slice_get nodes n ≡ Some node → nat_lt n (length nodes) ≡ true
  inner_below nodes n node e = lt-ltb n (length nodes) (slice_get_within nodes n node e)

  stands_below : (nodes : List Node) (p : Part) (a : Symbol) (w : List Letter) → Stands ps nodes p a w → part_below (length nodes) p ≡ true
  stands_below nodes p a w (Stands.by_byte range byte h) = refl
  stands_below nodes p a w (Stands.by_token token) = refl
  stands_below nodes p a w (Stands.by_empty n node left e f g) = inner_below nodes n node e
  stands_below nodes p a w (Stands.by_one n node left b q v e f g s) = inner_below nodes n node e
  stands_below nodes p a w (Stands.by_two n node left b c q r u v e f g s t) = inner_below nodes n node e

  pub derives_of : (a : Symbol) (w : List Letter) (h : ℕ) → DerivesIn ps a w h → Derives ps a w
  derives_of a w h (DerivesIn.by_range range byte i) = Derives.by_range range byte i
  derives_of a w h (DerivesIn.by_token token) = Derives.by_token token
  derives_of a w h (DerivesIn.by_empty left c) = Derives.by_empty left c
  derives_of a w h (DerivesIn.by_one left b v j c d) = Derives.by_one left b v c (derives_of b v j d)
  derives_of a w h (DerivesIn.by_two left b c u v i j m d e) = Derives.by_two left b c u v m (derives_of b u i d) (derives_of c v j e)

module _ {S : Type 0} (sum_of : List PageToken → S) (composed : S → S → S) (whole : S → Bool) (ps : List Production) (start : nt.Nt) where
  pub supports_on : (nodes more : List Node) (k l : ℕ) (p : Part) (a : Symbol) (s : S) → Keeps nodes more → k ≤ l → Supports sum_of composed whole ps start nodes k p a s → Supports sum_of composed whole ps start more l p a s
  supports_on nodes more k l p a s keeps higher h =
      record {
        sentence = h.sentence;
        stands = stands_on ps nodes more p a h.sentence keeps h.stands;
        height = h.height;
        within = omega (arith, h.within, higher);
        derived = h.derived;
        same = h.same;
      }

  pub made_on : (nodes more : List Node) (k l n : ℕ) (x : Pair S) → Keeps nodes more → k ≤ l → IsMade sum_of composed whole ps start nodes k n x → IsMade sum_of composed whole ps start more l n x
  made_on nodes more k l n x keeps higher h = record { useful = h.useful; supports = supports_on nodes more k l (Inner n) (symbol.Nt (record { 0 = x.0 })) x.1 keeps higher h.supports }

  pub made_pair : (nodes : List Node) (k n : ℕ) (x : Pair S) → IsMade sum_of composed whole ps start nodes k n x → IsPair sum_of ps start k (record { 0 = x.0 }) x.1
  made_pair nodes k n x h = record { useful = h.useful; sentence = h.supports.sentence; derived = (h.supports.height, h.supports.within, h.supports.derived); same = h.supports.same }

  pub makes_below : (nodes : List Node) (k : ℕ) (r : Right) (qs : Parts) (s : S) → Makes sum_of composed whole ps start nodes k r qs s → parts_below (length nodes) qs ≡ true
  makes_below nodes k right.Empty parts.Empty s m = refl
  makes_below nodes k right.Empty (parts.One p) s m = absurd m
  makes_below nodes k right.Empty (parts.Two p q) s m = absurd m
  makes_below nodes k (right.One a) parts.Empty s m = absurd m
  makes_below nodes k (right.One a) (parts.One p) s m = stands_below ps nodes p a m.sentence m.stands
  makes_below nodes k (right.One a) (parts.Two p q) s m = absurd m
  makes_below nodes k (right.Two a b) parts.Empty s m = absurd m
  makes_below nodes k (right.Two a b) (parts.One p) s m = absurd m
  makes_below nodes k (right.Two a b) (parts.Two p q) s m =
      true_and (part_below (length nodes) p) (part_below (length nodes) q)
      (stands_below ps nodes p a m.2.sentence m.2.stands)
      (stands_below ps nodes q b m.3.sentence m.3.stands)

  module _ (appended : (u v : List PageToken) → sum_of (u ++ v) ≡ composed (sum_of u) (sum_of v)) where
    -- the node of a production whose parts stand
    pub node_supports : (nodes : List Node) (node : Node) (k : ℕ) (left : nt.Nt) (r : Right) (s : S) → slice_get ps node.production ≡ Some (record { left = left; right = r }) → Makes sum_of composed whole ps start nodes k r node.parts s → Supports sum_of composed whole ps start (nodes ++ node ∷ []) (k + 1) (Inner (length nodes)) (symbol.Nt left) s
    node_supports nodes node k left r s placed m = by_parts r node.parts placed refl m
      where
        more : List Node
        more = nodes ++ node ∷ []

        keeps : Keeps nodes (nodes ++ node ∷ [])
        keeps n x h = at_front nodes node n x h

        by_parts : (r' : Right) (qs : Parts) → slice_get ps node.production ≡ Some (record { left = left; right = r' }) → node.parts ≡ qs → Makes sum_of composed whole ps start nodes k r' qs s → Supports sum_of composed whole ps start (nodes ++ node ∷ []) (k + 1) (Inner (length nodes)) (symbol.Nt left) s
        by_parts right.Empty parts.Empty at e m' =
            record {
              sentence = [];
              stands = Stands.by_empty (length nodes) node left (at_end nodes node) at e;
              height = 1;
              within = omega arith;
              derived = DerivesIn.by_empty left (contained ps node.production _ at);
              same = m';
            }
        by_parts right.Empty (parts.One p) at e m' = absurd m'
        by_parts right.Empty (parts.Two p q) at e m' = absurd m'
        by_parts (right.One a) parts.Empty at e m' = absurd m'
        by_parts (right.One a) (parts.One p) at e m' =
            record {
              sentence = m'.sentence;
              stands = Stands.by_one (length nodes) node left a p m'.sentence (at_end nodes node) at e (stands_on ps nodes (nodes ++ node ∷ []) p a m'.sentence keeps m'.stands);
              height = suc m'.height;
              within = omega (arith, m'.within);
              derived = DerivesIn.by_one left a m'.sentence m'.height (contained ps node.production _ at) m'.derived;
              same = m'.same;
            }
        by_parts (right.One a) (parts.Two p q) at e m' = absurd m'
        by_parts (right.Two a b) parts.Empty at e m' = absurd m'
        by_parts (right.Two a b) (parts.One p) at e m' = absurd m'
        by_parts (right.Two a b) (parts.Two p q) at e m' =
            let t = m'.2 in
            let u = m'.3 in
            record {
              sentence = t.sentence ++ u.sentence;
              stands = Stands.by_two (length nodes) node left a b p q t.sentence u.sentence (at_end nodes node) at e
                  (stands_on ps nodes (nodes ++ node ∷ []) p a t.sentence keeps t.stands)
                  (stands_on ps nodes (nodes ++ node ∷ []) q b u.sentence keeps u.stands);
              height = suc (max t.height u.height);
              within = omega (arith, t.within, u.within);
              derived = DerivesIn.by_two left a b t.sentence u.sentence t.height u.height (contained ps node.production _ at) t.derived u.derived;
              same = ap sum_of (tokens_append t.sentence u.sentence) ∙ (appended (tokens_in t.sentence) (tokens_in u.sentence) ∙ (ap (λ (x : S). composed x (sum_of (tokens_in u.sentence))) t.same ∙ (ap (composed m'.0) u.same ∙ m'.4)));
            }
