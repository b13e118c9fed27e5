-- Derivations derive, and lengths are those of sentences.
use Rattle.std.proofs.lemmas.List.Elements.{Contains-append_right}
use Rattle.std.proofs.Common.{◌≡◌, ℕ, zero, suc, Contains, ◌+◌, List, [], ◌∷◌, ◌++◌, min, Some, refl, sym, ◌∙◌, ap, subst, arith, slice_get}
use Rattle.text_base.specs.declared.letter.Letter.{Letter}
use Rattle.text_base.specs.declared.letter.Letter.TheVariants.{OfByte, OfToken}
use Rattle.cfg_grammar.specs.declared.symbol.Symbol.{Symbol}
use Rattle.cfg_grammar.specs.declared.production.Production.{Production}
use Rattle.cfg_grammar.specs.Derives.{Derives}
use Rattle.derivations.specs.declared.node.Part.{Part}
use Rattle.derivations.specs.declared.node.Parts.{Parts}
use Rattle.derivations.specs.declared.node.Node.{Node}
use Rattle.derivations.specs.Nodes.{most, length_of, part_length, parts_length}
use Rattle.derivations.specs.Stands.{Stands}
use Rattle.derivations.specs.Lawful.{AreLawful, byte_count}

-- a place of a list holds what stands there
contained : {X : Type 0} (xs : List X) (n : ℕ) (x : X) → slice_get xs n ≡ Some x → Contains xs x
contained [] n x e = cc
contained (y ∷ xs) zero x e = let same : y ≡ x = cc in subst (λ (z : _). Contains (y ∷ xs) z) same (0, omega arith, refl)
contained (y ∷ xs) (suc n) x e = Contains-append_right (y ∷ []) xs x (contained xs n x e)

module _ (ps : List Production) (nodes : List Node) where
  pub derives : (p : Part) (a : Symbol) (w : List Letter) → Stands ps nodes p a w → Derives ps a w
  derives p a w (Stands.by_byte range byte h) = Derives.by_range range byte h
  derives p a w (Stands.by_token token) = Derives.by_token token
  derives p a w (Stands.by_empty n node left e f g) = Derives.by_empty left (contained ps node.production _ f)
  derives p a w (Stands.by_one n node left b q v e f g s) = Derives.by_one left b v (contained ps node.production _ f) (derives q b v s)
  derives p a w (Stands.by_two n node left b c q r u v e f g s t) = Derives.by_two left b c u v (contained ps node.production _ f) (derives q b u s) (derives r c v t)

  count_append : (v w : List Letter) → byte_count (v ++ w) ≡ byte_count v + byte_count w
  count_append [] w = omega arith
  count_append (OfByte b ∷ v) w = let e = count_append v w in omega (arith, e)
  count_append (OfToken t ∷ v) w = count_append v w

  both_lengths : (x y v w : ℕ) → x ≡ min v most → y ≡ min w most → min (x + y) most ≡ min (v + w) most
  both_lengths x y v w e f = omega (arith, e, f)

  module _ (lawful : AreLawful nodes) where
    at_node : (n : ℕ) (node : Node) (parts : Parts) → slice_get nodes n ≡ Some node → node.parts ≡ parts → length_of (slice_get nodes n) ≡ parts_length nodes parts
    at_node n node parts e f = ap length_of e ∙ lawful.lengths n node e ∙ ap (parts_length nodes) f

    pub lengths : (p : Part) (a : Symbol) (w : List Letter) → Stands ps nodes p a w → part_length nodes p ≡ min (byte_count w) most
    lengths p a w (Stands.by_byte range byte h) = refl
    lengths p a w (Stands.by_token token) = refl
    lengths p a w (Stands.by_empty n node left e f g) = at_node n node _ e g
    lengths p a w (Stands.by_one n node left b q v e f g s) = at_node n node _ e g ∙ lengths q b v s
    lengths p a w (Stands.by_two n node left b c q r u v e f g s t) =
        at_node n node _ e g
        ∙ both_lengths (part_length nodes q) (part_length nodes r) (byte_count u) (byte_count v) (lengths q b u s) (lengths r c v t)
        ∙ ap (λ (k : ℕ). min k most) (sym (count_append u v))
