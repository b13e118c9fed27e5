-- The first bytes are those of sentences.
use Rattle.std.proofs.Common.{◌≡◌, ℕ, inl, inr, true, List, [], ◌∷◌, ◌++◌, length, Option, None, Some, refl, sym, ◌∙◌, ap, subst, slice_get}
use Rattle.std.specs.Prelude.{slice_index_or}
use Rattle.std.specs.Cmp.{first_so, second_so}
use Rattle.std.proofs.lemmas.Bool.{ltb-true}
use Rattle.std.proofs.lemmas.Option.{slice_get-get_or, same_Some}
use Rattle.text_base.specs.declared.letter.Letter.{Letter}
use Rattle.text_base.specs.declared.letter.Letter.TheVariants.{OfByte, OfToken}
use Rattle.cfg_grammar.specs.declared.symbol.Symbol.{Symbol}
use Rattle.cfg_grammar.specs.declared.production.Production.{Production}
use Rattle.derivations.specs.declared.node.Part.{Part}
use Rattle.derivations.specs.declared.node.Part.TheVariants.{Inner}
use Rattle.derivations.specs.declared.node.Parts.{Parts}
use Rattle.derivations.specs.declared.node.Parts.TheVariants.{Empty, One, Two}
use Rattle.derivations.specs.declared.node.Node.{Node}
use Rattle.derivations.specs.Nodes.{part_below, parts_below}
use Rattle.derivations.specs.Stands.{Stands}
use Rattle.derivations.specs.Lawful.{AreLawful}
use Rattle.derivations.specs.Bytes.{bytes_in}
use Rattle.derivations.proofs.ForkLemmas.{get_cases}
use Rattle.grammar_image.specs.Firsts.{either_byte, first_of_part, first_of_parts, AreFirsts}

pub bytes_append : (v w : List Letter) → bytes_in (v ++ w) ≡ bytes_in v ++ bytes_in w
bytes_append [] w = refl
bytes_append (OfByte b ∷ v) w = ap (λ (x : List ℕ). b ∷ x) (bytes_append v w)
bytes_append (OfToken t ∷ v) w = bytes_append v w

first_append : (xs ys : List ℕ) → slice_get (xs ++ ys) 0 ≡ either_byte (slice_get xs 0) (slice_get ys 0)
first_append [] ys = refl
first_append (x ∷ xs) ys = refl

number_same : (m n : ℕ) → Inner m ≡ Inner n → m ≡ n
number_same m n h = cc

module _ (nodes : List Node) (firsts : List (Option ℕ)) (are : AreFirsts nodes firsts) (ps : List Production) where
  inner_right : (n : ℕ) (a : Symbol) (w : List Letter) → part_below (length firsts) (Inner n) ≡ true → Stands ps nodes (Inner n) a w → slice_index_or firsts n None ≡ slice_get (bytes_in w) 0
  inner_right n a w below s = are ps n (slice_index_or firsts n None) a w (slice_get-get_or firsts n None (ltb-true n (length firsts) below)) s

  part_right : (p : Part) (a : Symbol) (w : List Letter) → part_below (length firsts) p ≡ true → Stands ps nodes p a w → first_of_part firsts p ≡ slice_get (bytes_in w) 0
  part_right p a w below (Stands.by_byte range byte h) = refl
  part_right p a w below (Stands.by_token token) = refl
  part_right p a w below (Stands.by_empty n node left e f g) = inner_right n _ _ below (Stands.by_empty n node left e f g)
  part_right p a w below (Stands.by_one n node left b q v e f g s) = inner_right n _ _ below (Stands.by_one n node left b q v e f g s)
  part_right p a w below (Stands.by_two n node left b c q r u v e f g s t) = inner_right n _ _ below (Stands.by_two n node left b c q r u v e f g s t)

  -- the parts of a node have its first byte
  module _ (node : Node) (here : slice_get nodes (length firsts) ≡ Some node) (below : parts_below (length firsts) node.parts ≡ true) where
    same_parts : (m : ℕ) (other : Node) (parts : Parts) → Inner m ≡ Inner (length firsts) → slice_get nodes m ≡ Some other → other.parts ≡ parts → node.parts ≡ parts
    same_parts m other parts is at e =
        let same : other ≡ node = same_Some other node (sym at ∙ ap (slice_get nodes) (number_same m (length firsts) is) ∙ here) in
        ap (λ (x : Node). x.parts) (sym same) ∙ e

    node_right : (p : Part) (a : Symbol) (w : List Letter) → p ≡ Inner (length firsts) → Stands ps nodes p a w → first_of_parts firsts node.parts ≡ slice_get (bytes_in w) 0
    node_right p a w is (Stands.by_byte range byte h) = cc
    node_right p a w is (Stands.by_token token) = cc
    node_right p a w is (Stands.by_empty m other left e f g) = ap (first_of_parts firsts) (same_parts m other Empty is e g)
    node_right p a w is (Stands.by_one m other left b q v e f g s) =
        let same = same_parts m other (One q) is e g in
        let low = subst (λ (x : Parts). parts_below (length firsts) x ≡ true) same below in
        ap (first_of_parts firsts) same ∙ part_right q b v low s
    node_right p a w is (Stands.by_two m other left b c q r u v e f g s t) =
        let same = same_parts m other (Two q r) is e g in
        let low = subst (λ (x : Parts). parts_below (length firsts) x ≡ true) same below in
        let one = part_right q b u (first_so (part_below (length firsts) q) (part_below (length firsts) r) low) s in
        let two = part_right r c v (second_so (part_below (length firsts) q) (part_below (length firsts) r) low) t in
        ap (first_of_parts firsts) same
        ∙ ap (λ (x : Option ℕ). either_byte x (first_of_part firsts r)) one
        ∙ ap (λ (x : Option ℕ). either_byte (slice_get (bytes_in u) 0) x) two
        ∙ sym (first_append (bytes_in u) (bytes_in v))
        ∙ sym (ap (λ (x : List ℕ). slice_get x 0) (bytes_append u v))

-- one node more
pub firsts_more : (nodes : List Node) (firsts after : List (Option ℕ)) (node : Node) (first : Option ℕ) → AreLawful nodes → AreFirsts nodes firsts → slice_get nodes (length firsts) ≡ Some node
    → first ≡ first_of_parts firsts node.parts → after ≡ firsts ++ first ∷ [] → AreFirsts nodes after
firsts_more nodes firsts after node first lawful are here made is = λ ps n o a w at s. elim (get_cases firsts first n o (sym (ap (λ (os : List (Option ℕ)). slice_get os n) is) ∙ at)) [
  | inl old ↦ are ps n o a w old s
  | inr last ↦ sym last.1 ∙ made ∙ node_right nodes firsts are ps node here (lawful.before (length firsts) node here) (Inner n) a w (ap (λ (x : ℕ). Inner x) last.0) s
]

pub no_firsts : (nodes : List Node) → AreFirsts nodes []
no_firsts nodes = λ ps n o a w at s. cc
