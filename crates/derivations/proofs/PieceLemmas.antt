-- Pieces stand for nodes.
use Rattle.std.proofs.Common.{◌≡◌, ℕ, zero, suc, ◌≤◌, inl, inr, true, List, [], ◌∷◌, ◌++◌, length, Option, None, Some, refl, sym, ◌∙◌, ap, subst, arith, slice_get}
use Rattle.std.specs.Prelude.{slice_index_or}
use Rattle.std.specs.Cmp.{first_so, second_so}
use Rattle.std.proofs.lemmas.Bool.{cases_lt, ltb-true}
use Rattle.std.proofs.lemmas.List.{append-nil}
use Rattle.std.proofs.lemmas.Option.{slice_get-get_or}
use Rattle.text_base.specs.declared.letter.Letter.{Letter}
use Rattle.text_base.specs.declared.letter.Letter.TheVariants.{OfByte, OfToken}
use Rattle.cfg_grammar.specs.declared.symbol.Symbol.{Symbol}
use Rattle.cfg_grammar.specs.declared.production.Production.{Production}
use Rattle.derivations.specs.declared.node.Part.{Part}
use Rattle.derivations.specs.declared.node.Part.TheVariants.{Byte, Token, Inner}
use Rattle.derivations.specs.declared.node.Parts.{Parts}
use Rattle.derivations.specs.declared.node.Parts.TheVariants.{Empty, One, Two}
use Rattle.derivations.specs.declared.node.Node.{Node}
use Rattle.derivations.specs.Nodes.{part_below, parts_below}
use Rattle.derivations.specs.Stands.{Stands}
use Rattle.derivations.specs.Lawful.{AreLawful}
use Rattle.derivations.specs.declared.fork.Piece.{Piece}
use Rattle.derivations.specs.declared.fork.Fork.{Fork}
use Rattle.derivations.specs.Bytes.{bytes_in}
use Rattle.derivations.specs.Forks.{bytes_at, maybe_bytes, maybe_rank, AreForks}
use Rattle.derivations.specs.Pieces.{piece_of_part, Joins, Makes, ArePieces}
use Rattle.derivations.proofs.ForkLemmas.{longer, maybe_still, get_cases, no_forks, one_more, new_fork}

bytes_append : (v w : List Letter) → bytes_in (v ++ w) ≡ bytes_in v ++ bytes_in w
bytes_append [] w = refl
bytes_append (OfByte b ∷ v) w = ap (λ (x : List ℕ). b ∷ x) (bytes_append v w)
bytes_append (OfToken t ∷ v) w = bytes_append v w

past : (pieces : List (Option Piece)) (n : ℕ) → length pieces ≤ n → slice_index_or pieces n None ≡ None
past [] n h = refl
past (o ∷ pieces) zero h = absurd (omega (arith, h))
past (o ∷ pieces) (suc n) h = past pieces n (omega (arith, h))

-- the forks grew, and the piece is among them
record Made (old new : List Fork) (made : Option Piece) (bytes : List ℕ) : Type 0 where
  forks_are : AreForks new
  more : List Fork
  grown : new ≡ old ++ more
  ranked : maybe_rank made ≤ length new
  said : maybe_bytes new made ≡ bytes

as_it_was : (old new : List Fork) (o made : Option Piece) (bytes : List ℕ) → AreForks old → maybe_rank o ≤ length old → maybe_bytes old o ≡ bytes → new ≡ old → made ≡ o → Made old new made bytes
as_it_was old new o made bytes lawful ranked said is same = record {
  forks_are = subst AreForks (sym is) lawful;
  more = [];
  grown = is ∙ sym (append-nil old);
  ranked = subst (λ (fs : List Fork). maybe_rank made ≤ length fs) (sym is) (subst (λ (x : Option Piece). maybe_rank x ≤ length old) (sym same) ranked);
  said = ap (λ (fs : List Fork). maybe_bytes fs made) is ∙ ap (maybe_bytes old) same ∙ said;
}

joined : (old new : List Fork) (a b made : Option Piece) → AreForks old → maybe_rank a ≤ length old → maybe_rank b ≤ length old → Joins old new a b made → Made old new made (maybe_bytes old a ++ maybe_bytes old b)
joined old new None b made lawful ra rb j = as_it_was old new b made (maybe_bytes old b) lawful rb refl j.0 j.1
joined old new (Some p) None made lawful ra rb j = as_it_was old new (Some p) made (bytes_at old p ++ []) lawful ra (sym (append-nil (bytes_at old p))) j.0 j.1
joined old new (Some p) (Some q) made lawful ra rb j =
    let f : Fork = record { first = p; second = q } in
    record {
      forks_are = subst AreForks (sym j.0) (one_more old f lawful ra rb);
      more = f ∷ [];
      grown = j.0;
      ranked = let l = longer old f in let e = ap (λ (fs : List Fork). length fs) j.0 in subst (λ (x : Option Piece). maybe_rank x ≤ length new) (sym j.1) (omega (arith, l, e));
      said = ap (λ (fs : List Fork). maybe_bytes fs made) j.0 ∙ ap (maybe_bytes (old ++ f ∷ [])) j.1 ∙ new_fork old p q lawful ra rb;
    }

module _ (nodes : List Node) (forks : List Fork) (pieces : List (Option Piece)) (are : ArePieces nodes forks pieces) where
  part_ranked : (p : Part) → maybe_rank (piece_of_part pieces p) ≤ length forks
  part_ranked (Byte b) = omega arith
  part_ranked (Token t) = omega arith
  part_ranked (Inner n) = elim (cases_lt n (length pieces)) [
    | inl h ↦ are.within n (slice_index_or pieces n None) (slice_get-get_or pieces n None h)
    | inr h ↦ subst (λ (o : Option Piece). maybe_rank o ≤ length forks) (sym (past pieces n h)) (omega arith)
  ]

  module _ (ps : List Production) where
    inner_right : (n : ℕ) (a : Symbol) (w : List Letter) → part_below (length pieces) (Inner n) ≡ true → Stands ps nodes (Inner n) a w → maybe_bytes forks (slice_index_or pieces n None) ≡ bytes_in w
    inner_right n a w below s = are.right ps n (slice_index_or pieces n None) a w (slice_get-get_or pieces n None (ltb-true n (length pieces) below)) s

    part_right : (p : Part) (a : Symbol) (w : List Letter) → part_below (length pieces) p ≡ true → Stands ps nodes p a w → maybe_bytes forks (piece_of_part pieces p) ≡ bytes_in w
    part_right p a w below (Stands.by_byte range byte h) = refl
    part_right p a w below (Stands.by_token token) = refl
    part_right p a w below (Stands.by_empty n node left e f g) = inner_right n _ _ below (Stands.by_empty n node left e f g)
    part_right p a w below (Stands.by_one n node left b q v e f g s) = inner_right n _ _ below (Stands.by_one n node left b q v e f g s)
    part_right p a w below (Stands.by_two n node left b c q r u v e f g s t) = inner_right n _ _ below (Stands.by_two n node left b c q r u v e f g s t)

    some_same : (x y : Node) → Some x ≡ Some y → x ≡ y
    some_same x y h = cc

    number_same : (m n : ℕ) → Inner m ≡ Inner n → m ≡ n
    number_same m n h = cc

    -- what the parts of a node make has its bytes
    module _ (new : List Fork) (made : Option Piece) (node : Node) (here : slice_get nodes (length pieces) ≡ Some node) (below : parts_below (length pieces) node.parts ≡ true) (makes : Makes forks new pieces node.parts made) where
      same_node : (m : ℕ) (other : Node) → Inner m ≡ Inner (length pieces) → slice_get nodes m ≡ Some other → other ≡ node
      same_node m other is at = some_same other node (sym at ∙ ap (slice_get nodes) (number_same m (length pieces) is) ∙ here)

      same_parts : (m : ℕ) (other : Node) (parts : Parts) → Inner m ≡ Inner (length pieces) → slice_get nodes m ≡ Some other → other.parts ≡ parts → node.parts ≡ parts
      same_parts m other parts is at e = ap (λ (x : Node). x.parts) (sym (same_node m other is at)) ∙ e

      node_made : (p : Part) (a : Symbol) (w : List Letter) → p ≡ Inner (length pieces) → Stands ps nodes p a w → maybe_bytes new made ≡ bytes_in w
      node_made p a w is (Stands.by_byte range byte h) = cc
      node_made p a w is (Stands.by_token token) = cc
      node_made p a w is (Stands.by_empty m other left e f g) =
          let m_is = subst (λ (x : Parts). Makes forks new pieces x made) (same_parts m other Empty is e g) makes in
          ap (maybe_bytes new) m_is.1
      node_made p a w is (Stands.by_one m other left b q v e f g s) =
          let same = same_parts m other (One q) is e g in
          let m_is = subst (λ (x : Parts). Makes forks new pieces x made) same makes in
          let low = subst (λ (x : Parts). parts_below (length pieces) x ≡ true) same below in
          ap (λ (fs : List Fork). maybe_bytes fs made) m_is.0 ∙ ap (maybe_bytes forks) m_is.1 ∙ part_right q b v low s
      node_made p a w is (Stands.by_two m other left b c q r u v e f g s t) =
          let same = same_parts m other (Two q r) is e g in
          let m_is = subst (λ (x : Parts). Makes forks new pieces x made) same makes in
          let low = subst (λ (x : Parts). parts_below (length pieces) x ≡ true) same below in
          let one = part_right q b u (first_so (part_below (length pieces) q) (part_below (length pieces) r) low) s in
          let two = part_right r c v (second_so (part_below (length pieces) q) (part_below (length pieces) r) low) t in
          let both = joined forks new (piece_of_part pieces q) (piece_of_part pieces r) made are.forks_are (part_ranked q) (part_ranked r) m_is in
          both.said
          ∙ ap (λ (x : List ℕ). x ++ maybe_bytes forks (piece_of_part pieces r)) one
          ∙ ap (λ (x : List ℕ). bytes_in u ++ x) two
          ∙ sym (bytes_append u v)

  makes_more : (new : List Fork) (parts : Parts) (made : Option Piece) → Makes forks new pieces parts made → (bytes : List ℕ) × Made forks new made bytes
  makes_more new Empty made m = ([], as_it_was forks new None made [] are.forks_are (omega arith) refl m.0 m.1)
  makes_more new (One a) made m = (maybe_bytes forks (piece_of_part pieces a), as_it_was forks new (piece_of_part pieces a) made _ are.forks_are (part_ranked a) refl m.0 m.1)
  makes_more new (Two a b) made m = (_, joined forks new (piece_of_part pieces a) (piece_of_part pieces b) made are.forks_are (part_ranked a) (part_ranked b) m)

  -- one node more
  pub pieces_more : (new : List Fork) (made : Option Piece) (node : Node) (after : List (Option Piece)) → AreLawful nodes → slice_get nodes (length pieces) ≡ Some node → Makes forks new pieces node.parts made → after ≡ pieces ++ made ∷ [] → ArePieces nodes new after
  pieces_more new made node after lawful here makes is =
      let m = makes_more new node.parts made makes in
      let l = ap (λ (fs : List Fork). length fs) m.1.grown in
      let k = more_length forks m.1.more in
      record {
        forks_are = m.1.forks_are;
        within = λ n o at. elim (get_cases pieces made n o (sym (ap (λ (os : List (Option Piece)). slice_get os n) is) ∙ at)) [
          | inl old ↦ let w = are.within n o old in omega (arith, w, l, k)
          | inr last ↦ subst (λ (x : Option Piece). maybe_rank x ≤ length new) last.1 m.1.ranked
        ];
        right = λ ps n o a w at s. elim (get_cases pieces made n o (sym (ap (λ (os : List (Option Piece)). slice_get os n) is) ∙ at)) [
          | inl old ↦ ap (λ (fs : List Fork). maybe_bytes fs o) m.1.grown ∙ maybe_still forks m.1.more o (are.within n o old) ∙ are.right ps n o a w old s
          | inr last ↦ ap (maybe_bytes new) (sym last.1) ∙ node_made ps new made node here (lawful.before (length pieces) node here) makes (Inner n) a w (ap (λ (x : ℕ). Inner x) last.0) s
        ];
      }
    where
      more_length : (a b : List Fork) → length a ≤ length (a ++ b)
      more_length [] b = omega arith
      more_length (x ∷ a) b = let e = more_length a b in omega (arith, e)

pub no_pieces : (nodes : List Node) (forks : List Fork) → forks ≡ [] → ArePieces nodes forks []
no_pieces nodes forks is = record {
  forks_are = subst AreForks (sym is) no_forks;
  within = λ n o at. cc;
  right = λ ps n o a w at s. cc;
}
