-- Derivations of pairs, as nodes are added.
use Rattle.std.proofs.Common.{◌≡◌, ℕ, ◌+◌, ◌<◌, ◌≤◌, inl, inr, Bool, true, false, ◌&&◌, List, [], ◌∷◌, ◌++◌, length, min, refl, sym, ◌∙◌, ap, subst, arith, Some, slice_get}
use Rattle.std.specs.Prelude.{nat_lt}
use Rattle.std.proofs.lemmas.Option.{slice_get_within}
use Rattle.std.proofs.lemmas.Bool.{lt-ltb, cases_lt}
use Rattle.text_base.specs.declared.letter.Letter.{Letter}
use Rattle.text_base.specs.declared.letter.Letter.TheVariants.{OfByte, OfToken}
use Rattle.text_base.specs.declared.page_token.PageToken.{PageToken}
use Rattle.text_base.specs.declared.numbers.Nt as nt
use Rattle.cfg_grammar.specs.declared.symbol.Symbol.{Symbol}
use Rattle.cfg_grammar.specs.declared.symbol.Symbol.TheVariants as symbol
use Rattle.cfg_grammar.specs.declared.production.Right.{Right}
use Rattle.cfg_grammar.specs.declared.production.Right.TheVariants as right
use Rattle.cfg_grammar.specs.declared.production.Production.{Production}
use Rattle.derivations.specs.declared.node.Part.{Part}
use Rattle.derivations.specs.declared.node.Part.TheVariants as part
use Rattle.derivations.specs.declared.node.Part.TheVariants.{Inner}
use Rattle.derivations.specs.declared.node.Parts.{Parts}
use Rattle.derivations.specs.declared.node.Parts.TheVariants as parts
use Rattle.derivations.specs.declared.node.Node.{Node}
use Rattle.derivations.specs.Nodes.{most, length_of, part_length, parts_length, part_below, parts_below}
use Rattle.derivations.specs.Lawful.{AreLawful, byte_count}
use Rattle.derivations.specs.Stands.{Stands}
use Rattle.derivations.proofs.Derivations.{derives, lengths}
use Rattle.numbered_sets.specs.Numbers.{Keeps}
use Rattle.numbered_sets.proofs.NumberLemmas.{at_front}
use Rattle.summary_decision.specs.declared.letters.Piece.{Piece}
use Rattle.summary_decision.specs.Pairs.{tokens_in}
use Rattle.summary_decision.specs.Closed.{Pair}
use Rattle.summary_decision.specs.Joints.{IsLetterOf}
use Rattle.summary_decision.proofs.ClosedLemmas.{tokens_append}
use Rattle.summary_decision.proofs.KnownLemmas.{at_end, is_there}
use Rattle.summary_decision.proofs.MadeLemmas.{stands_on}
use Rattle.short_sentences.specs.declared.table.Draft.{Draft}
use Rattle.short_sentences.specs.ShortPairs.{IsWithin, IsShortPair}
use Rattle.short_sentences.specs.Tables.{Supports, IsMade, Makes, IsDraft}

true_and : (a b : Bool) → a ≡ true → b ≡ true → (a && b) ≡ true
true_and true true e f = refl
true_and true false e f = f
true_and false b e f = e

module _ (ps : List Production) where
  inner_below : (nodes : List Node) (n : ℕ) (node : Node) → slice_get nodes n ≡ Some node → nat_lt n (length nodes) ≡ true
  inner_below nodes n node e = lt-ltb n (length nodes) (slice_get_within nodes n node e)

  stands_below : (nodes : List Node) (p : Part) (a : Symbol) (w : List Letter) → Stands ps nodes p a w → part_below (length nodes) p ≡ true
  stands_below nodes p a w (Stands.by_byte range byte h) = refl
  stands_below nodes p a w (Stands.by_token token) = refl
  stands_below nodes p a w (Stands.by_empty n node left e f g) = inner_below nodes n node e
  stands_below nodes p a w (Stands.by_one n node left b q v e f g s) = inner_below nodes n node e
  stands_below nodes p a w (Stands.by_two n node left b c q r u v e f g s t) = inner_below nodes n node e

  -- the length of a part stays as nodes are added
  inner_length : (nodes more : List Node) (n : ℕ) (node : Node) → Keeps nodes more → slice_get nodes n ≡ Some node → part_length more (Inner n) ≡ part_length nodes (Inner n)
  inner_length nodes more n node keeps e = ap length_of (keeps n node e) ∙ sym (ap length_of e)

  stands_length : (nodes more : List Node) (p : Part) (a : Symbol) (w : List Letter) → Keeps nodes more → Stands ps nodes p a w → part_length more p ≡ part_length nodes p
  stands_length nodes more p a w keeps (Stands.by_byte range byte h) = refl
  stands_length nodes more p a w keeps (Stands.by_token token) = refl
  stands_length nodes more p a w keeps (Stands.by_empty n node left e f g) = inner_length nodes more n node keeps e
  stands_length nodes more p a w keeps (Stands.by_one n node left b q v e f g s) = inner_length nodes more n node keeps e
  stands_length nodes more p a w keeps (Stands.by_two n node left b c q r u v e f g s t) = inner_length nodes more n node keeps e

pub length_on : (nodes more : List Node) (n : ℕ) → Keeps nodes more → n < length nodes → part_length more (Inner n) ≡ part_length nodes (Inner n)
length_on nodes more n keeps l = let t = is_there nodes n l in ap length_of (keeps n t.0 t.1) ∙ sym (ap length_of t.1)

module _ {S : Type 0} (sum_of : List PageToken → S) (composed : S → S → S) (whole : S → Bool) (ps : List Production) (start : nt.Nt) where
  pub supports_on : (nodes more : List Node) (p : Part) (a : Symbol) (s : S) → Keeps nodes more → Supports sum_of composed whole ps start nodes p a s → Supports sum_of composed whole ps start more p a s
  supports_on nodes more p a s keeps h = record { sentence = h.sentence; stands = stands_on ps nodes more p a h.sentence keeps h.stands; same = h.same }

  pub made_on : (nodes more : List Node) (n : ℕ) (x : Pair S) → Keeps nodes more → IsMade sum_of composed whole ps start nodes n x → IsMade sum_of composed whole ps start more n x
  made_on nodes more n x keeps h = record { useful = h.useful; supports = supports_on nodes more (Inner n) (symbol.Nt (record { 0 = x.0 })) x.1 keeps h.supports }

  pub makes_on : (nodes more : List Node) (r : Right) (qs : Parts) (s : S) → Keeps nodes more → Makes sum_of composed whole ps start nodes r qs s → Makes sum_of composed whole ps start more r qs s
  makes_on nodes more right.Empty parts.Empty s keeps m = m
  makes_on nodes more right.Empty (parts.One p) s keeps m = absurd m
  makes_on nodes more right.Empty (parts.Two p q) s keeps m = absurd m
  makes_on nodes more (right.One a) parts.Empty s keeps m = absurd m
  makes_on nodes more (right.One a) (parts.One p) s keeps m = supports_on nodes more p a s keeps m
  makes_on nodes more (right.One a) (parts.Two p q) s keeps m = absurd m
  makes_on nodes more (right.Two a b) parts.Empty s keeps m = absurd m
  makes_on nodes more (right.Two a b) (parts.One p) s keeps m = absurd m
  makes_on nodes more (right.Two a b) (parts.Two p q) s keeps m = (m.0, m.1, supports_on nodes more p a m.0 keeps m.2, supports_on nodes more q b m.1 keeps m.3, m.4)

  pub makes_below : (nodes : List Node) (r : Right) (qs : Parts) (s : S) → Makes sum_of composed whole ps start nodes r qs s → parts_below (length nodes) qs ≡ true
  makes_below nodes right.Empty parts.Empty s m = refl
  makes_below nodes right.Empty (parts.One p) s m = absurd m
  makes_below nodes right.Empty (parts.Two p q) s m = absurd m
  makes_below nodes (right.One a) parts.Empty s m = absurd m
  makes_below nodes (right.One a) (parts.One p) s m = stands_below ps nodes p a m.sentence m.stands
  makes_below nodes (right.One a) (parts.Two p q) s m = absurd m
  makes_below nodes (right.Two a b) parts.Empty s m = absurd m
  makes_below nodes (right.Two a b) (parts.One p) s m = absurd m
  makes_below nodes (right.Two a b) (parts.Two p q) s m =
      true_and (part_below (length nodes) p) (part_below (length nodes) q)
      (stands_below ps nodes p a m.2.sentence m.2.stands)
      (stands_below ps nodes q b m.3.sentence m.3.stands)

  makes_length : (nodes more : List Node) (r : Right) (qs : Parts) (s : S) → Keeps nodes more → Makes sum_of composed whole ps start nodes r qs s → parts_length more qs ≡ parts_length nodes qs
  makes_length nodes more right.Empty parts.Empty s keeps m = refl
  makes_length nodes more right.Empty (parts.One p) s keeps m = absurd m
  makes_length nodes more right.Empty (parts.Two p q) s keeps m = absurd m
  makes_length nodes more (right.One a) parts.Empty s keeps m = absurd m
  makes_length nodes more (right.One a) (parts.One p) s keeps m = stands_length ps nodes more p a m.sentence keeps m.stands
  makes_length nodes more (right.One a) (parts.Two p q) s keeps m = absurd m
  makes_length nodes more (right.Two a b) parts.Empty s keeps m = absurd m
  makes_length nodes more (right.Two a b) (parts.One p) s keeps m = absurd m
  makes_length nodes more (right.Two a b) (parts.Two p q) s keeps m =
      let e = stands_length ps nodes more p a m.2.sentence keeps m.2.stands in
      let f = stands_length ps nodes more q b m.3.sentence keeps m.3.stands in
      ap (λ (k : ℕ). min (k + part_length more q) most) e ∙ ap (λ (k : ℕ). min (part_length nodes p + k) most) f

  pub draft_on : (nodes more : List Node) (x : Pair S) (d : Draft) → Keeps nodes more → IsDraft sum_of composed whole ps start nodes x d → IsDraft sum_of composed whole ps start more x d
  draft_on nodes more x d keeps h =
      record {
        makes = record {
          production = h.makes.production;
          at = h.makes.at;
          useful = h.makes.useful;
          makes = makes_on nodes more h.makes.production.right d.parts x.1 keeps h.makes.makes;
        };
        left = h.left;
        length_is = h.length_is ∙ sym (makes_length nodes more h.makes.production.right d.parts x.1 keeps h.makes.makes);
      }

  -- no part is longer than the most
  part_most : (nodes : List Node) (p : Part) → ((n : ℕ) → part_length nodes (Inner n) ≤ most) → part_length nodes p ≤ most
  part_most nodes (part.Byte b) few = omega arith
  part_most nodes (part.Token t) few = omega arith
  part_most nodes (part.Inner n) few = few n

  pub parts_most : (nodes : List Node) (qs : Parts) → ((n : ℕ) → part_length nodes (Inner n) ≤ most) → parts_length nodes qs ≤ most
  parts_most nodes parts.Empty few = omega arith
  parts_most nodes (parts.One p) few = part_most nodes p few
  parts_most nodes (parts.Two p q) few = omega arith

  -- a pair of a node within a length has a sentence within it
  pub short_pair : (nodes : List Node) (n l : ℕ) (x : Pair S) → AreLawful nodes → l ≤ most → part_length nodes (Inner n) ≤ l → IsMade sum_of composed whole ps start nodes n x → IsShortPair sum_of ps start l (record { 0 = x.0 }) x.1
  short_pair nodes n l x lawful bounded short h =
      record {
        useful = h.useful;
        sentence = h.supports.sentence;
        derived = derives ps nodes (Inner n) (symbol.Nt (record { 0 = x.0 })) h.supports.sentence h.supports.stands;
        short = within;
        same = h.supports.same;
      }
    where
      within : IsWithin h.supports.sentence l
      within =
          let e = lengths ps nodes lawful (Inner n) (symbol.Nt (record { 0 = x.0 })) h.supports.sentence h.supports.stands in
          elim (cases_lt (byte_count h.supports.sentence) most) [
            | inl less ↦ inl (omega (arith, less, e, short))
            | inr more ↦ inr (omega (arith, more, e, short, bounded))
          ]

  module _ (appended : (u v : List PageToken) → sum_of (u ++ v) ≡ composed (sum_of u) (sum_of v)) where
    -- the node of a production whose parts stand
    pub node_supports : (nodes : List Node) (node : Node) (left : nt.Nt) (r : Right) (s : S) → slice_get ps node.production ≡ Some (record { left = left; right = r }) → Makes sum_of composed whole ps start nodes r node.parts s → Supports sum_of composed whole ps start (nodes ++ node ∷ []) (Inner (length nodes)) (symbol.Nt left) s
    node_supports nodes node left r s placed m = by_parts r node.parts placed refl m
      where
        keeps : Keeps nodes (nodes ++ node ∷ [])
        keeps n x h = at_front nodes node n x h

        by_parts : (r' : Right) (qs : Parts) → slice_get ps node.production ≡ Some (record { left = left; right = r' }) → node.parts ≡ qs → Makes sum_of composed whole ps start nodes r' qs s → Supports sum_of composed whole ps start (nodes ++ node ∷ []) (Inner (length nodes)) (symbol.Nt left) s
        by_parts right.Empty parts.Empty at e m' = record { sentence = []; stands = Stands.by_empty (length nodes) node left (at_end nodes node) at e; same = m' }
        by_parts right.Empty (parts.One p) at e m' = absurd m'
        by_parts right.Empty (parts.Two p q) at e m' = absurd m'
        by_parts (right.One a) parts.Empty at e m' = absurd m'
        by_parts (right.One a) (parts.One p) at e m' =
            record {
              sentence = m'.sentence;
              stands = Stands.by_one (length nodes) node left a p m'.sentence (at_end nodes node) at e (stands_on ps nodes (nodes ++ node ∷ []) p a m'.sentence keeps m'.stands);
              same = m'.same;
            }
        by_parts (right.One a) (parts.Two p q) at e m' = absurd m'
        by_parts (right.Two a b) parts.Empty at e m' = absurd m'
        by_parts (right.Two a b) (parts.One p) at e m' = absurd m'
        by_parts (right.Two a b) (parts.Two p q) at e m' =
            let t = m'.2 in
            let u = m'.3 in
            record {
              sentence = t.sentence ++ u.sentence;
              stands = Stands.by_two (length nodes) node left a b p q t.sentence u.sentence (at_end nodes node) at e
                  (stands_on ps nodes (nodes ++ node ∷ []) p a t.sentence keeps t.stands)
                  (stands_on ps nodes (nodes ++ node ∷ []) q b u.sentence keeps u.stands);
              same = ap sum_of (tokens_append t.sentence u.sentence) ∙ (appended (tokens_in t.sentence) (tokens_in u.sentence) ∙ (ap (λ (x : S). composed x (sum_of (tokens_in u.sentence))) t.same ∙ (ap (composed m'.0) u.same ∙ m'.4)));
            }

  -- what letters stand for
  pub letter_supports : (nodes : List Node) (b : Symbol) (piece : Piece S) → IsLetterOf sum_of b (Some piece) → Supports sum_of composed whole ps start nodes piece.part b piece.sum
  letter_supports nodes (symbol.Range range) piece is =
      record {
        sentence = OfByte range.lo ∷ [];
        stands = subst (λ (p : Part). Stands ps nodes p (symbol.Range range) (OfByte range.lo ∷ [])) (sym is.0) (Stands.by_byte range range.lo (omega arith, range.ordered));
        same = sym is.1;
      }
  letter_supports nodes (symbol.Token token) piece is =
      record {
        sentence = OfToken token ∷ [];
        stands = subst (λ (p : Part). Stands ps nodes p (symbol.Token token) (OfToken token ∷ [])) (sym is.0) (Stands.by_token token);
        same = sym is.1;
      }
  letter_supports nodes (symbol.Nt a) piece is = absurd is
