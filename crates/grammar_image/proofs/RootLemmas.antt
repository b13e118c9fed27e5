-- The root of an image's derivation leads back to a node of the grammar's start.
use Rattle.std.proofs.Common.{◌≡◌, ℕ, zero, suc, ◌-◌, Bool, true, List, ◌++◌, length, map, Option, None, Some, refl, sym, ◌∙◌, ap, subst, arith, slice_get}
use Rattle.std.specs.Prelude.{IsTrue}
use Rattle.std.specs.Cmp.{first_so}
use Rattle.std.proofs.lemmas.List.{append-nil}
use Rattle.std.proofs.lemmas.Option.{slice_get_within, same_Some, none-some}
use Rattle.text_base.specs.declared.letter.Letter.{Letter}
use Rattle.text_base.specs.declared.letter.Letter.TheVariants.{OfByte}
use Rattle.text_base.specs.declared.numbers.Nt as nt
use Rattle.cfg_grammar.specs.declared.symbol.Symbol.{Symbol}
use Rattle.cfg_grammar.specs.declared.symbol.Symbol.TheVariants as symbol
use Rattle.cfg_grammar.specs.declared.production.Right.TheVariants as right
use Rattle.cfg_grammar.specs.declared.production.Production.{Production}
use Rattle.cfg_grammar.specs.Derives.{Derives}
use Rattle.derivations.specs.declared.node.Part.{Part}
use Rattle.derivations.specs.declared.node.Part.TheVariants.{Byte, Token, Inner}
use Rattle.derivations.specs.declared.node.Parts.{Parts}
use Rattle.derivations.specs.declared.node.Parts.TheVariants.{One, Two}
use Rattle.derivations.specs.declared.node.Node.{Node}
use Rattle.derivations.specs.Nodes.{part_below, parts_below, parts_length}
use Rattle.derivations.specs.Stands.{Stands, root_of, IsDerivation}
use Rattle.derivations.specs.Lawful.{AreLawful, Grows}
use Rattle.derivations.proofs.Derivations.{derives}
use Rattle.derivations.proofs.ForkLemmas.{longer, get_last}
use Rattle.grammar_chart.specs.declared.keys.Passage.{Passage}
use Rattle.chart_grammar.specs.Lifts.{nt_of, end_by}
use Rattle.chart_grammar.specs.Sources.{IsEnd, AreSources}
use Rattle.grammar_image.specs.Echoes.{CopiesBytes, text_of}
use Rattle.grammar_image.specs.Marks.{part_marked, parts_marked, AreUnderRoot}
use Rattle.grammar_image.specs.Leads.{first_led, node_of}
use Rattle.grammar_image.specs.Traces.{LeadsTo, AreTraces}
use Rattle.grammar_image.proofs.LeadLemmas.{grows_keeps}
use Rattle.grammar_image.proofs.MarkLemmas.{parts_lower}
use Rattle.grammar_image.proofs.TraceLemmas.{stands_on, text_append, contained, same_numbers, same_nts, part_leads}

-- the node that is found names nodes before it
pub root_below : (made : List Node) (lead : Option Part) (root : Node) → AreLawful made → node_of made lead ≡ Some root → IsTrue (parts_below (length made) root.parts)
root_below made None root lawful at = absurd (none-some root at)
root_below made (Some (Byte b)) root lawful at = absurd (none-some root at)
root_below made (Some (Token t)) root lawful at = absurd (none-some root at)
root_below made (Some (Inner m)) root lawful at =
    let l = slice_get_within made m root at in
    parts_lower m (length made) root.parts (omega (arith, l)) (lawful.before m root at)

-- what is led back to is a node
pub root_found : (ps : List Production) (made : List Node) (p : Part) (a : Symbol) (b : nt.Nt) (w : List Letter) → a ≡ symbol.Nt b → Stands ps made p a w → node_of made (Some p) ≡ None → ⊥
root_found ps made p a b w is (Stands.by_byte range byte h) none = cc
root_found ps made p a b w is (Stands.by_token token) none = cc
root_found ps made p a b w is (Stands.by_empty n node left e f g) none = none-some node (sym none ∙ e)
root_found ps made p a b w is (Stands.by_one n node left c q v e f g s) none = none-some node (sym none ∙ e)
root_found ps made p a b w is (Stands.by_two n node left c d q r u v e f g s t) none = none-some node (sym none ∙ e)

-- a copy of a node at the end stands for what the node stands for
module _ (ps : List Production) (made new : List Node) (root : Node) (grows : Grows made new root.production root.parts) where
  at_root : slice_get new (length new - 1) ≡ Some (record { production = root.production; parts = root.parts; length = parts_length made root.parts })
  at_root =
      let l = ap (λ (ns : List Node). length ns) grows ∙ longer made _ in
      let end : length new - 1 ≡ length made = omega (arith, l) in
      ap (slice_get new) end ∙ ap (λ (ns : List Node). slice_get ns (length made)) grows ∙ get_last made _

  pub copied : (p : Part) (a : Symbol) (w : List Letter) → node_of made (Some p) ≡ Some root → Stands ps made p a w → Stands ps new (root_of new) a w
  copied p a w at (Stands.by_byte range byte h) = absurd (none-some root at)
  copied p a w at (Stands.by_token token) = absurd (none-some root at)
  copied p a w at (Stands.by_empty n node left e f g) =
      let same : node ≡ root = same_Some node root (sym e ∙ at) in
      Stands.by_empty (length new - 1) _ left at_root (subst (λ (x : Node). slice_get ps x.production ≡ Some (record { left = left; right = right.Empty })) same f)
      (ap (λ (x : Node). x.parts) (sym same) ∙ g)
  copied p a w at (Stands.by_one n node left b q v e f g s) =
      let same : node ≡ root = same_Some node root (sym e ∙ at) in
      Stands.by_one (length new - 1) _ left b q v at_root (subst (λ (x : Node). slice_get ps x.production ≡ Some (record { left = left; right = right.One b })) same f)
      (ap (λ (x : Node). x.parts) (sym same) ∙ g) (stands_on ps made new q b v (grows_keeps made new root.production root.parts grows) s)
  copied p a w at (Stands.by_two n node left b c q r u v e f g s t) =
      let same : node ≡ root = same_Some node root (sym e ∙ at) in
      let keeps = grows_keeps made new root.production root.parts grows in
      Stands.by_two (length new - 1) _ left b c q r u v at_root (subst (λ (x : Node). slice_get ps x.production ≡ Some (record { left = left; right = right.Two b c })) same f)
      (ap (λ (x : Node). x.parts) (sym same) ∙ g) (stands_on ps made new q b u keeps s) (stands_on ps made new r c v keeps t)

-- what stands on the right of a production of the start
no_end : (n front : ℕ) → right.Empty ≡ end_by n front → ⊥
no_end n zero e = cc
no_end n (suc m) e = cc

one_end : (n front : ℕ) (b : Symbol) → right.One b ≡ end_by n front → b ≡ nt_of n
one_end n zero b e = cc
one_end n (suc m) b e = cc

two_end : (n front : ℕ) (b c : Symbol) → right.Two b c ≡ end_by n front → (m : ℕ) × (front ≡ suc m) × (b ≡ nt_of n) × (c ≡ nt_of (suc m))
two_end n zero b c e = cc
two_end n (suc m) b c e = (m, refl, cc, cc)

module _ (ps qs : List Production) (start : nt.Nt) (fs : List Passage) (sources : List ℕ) (are : AreSources ps start fs sources qs) (copies : CopiesBytes start fs qs)
    (nodes : List Node) (marks : List Bool) (made : List Node) (leads : List (Option Part)) (root : Node) (traces : AreTraces ps fs qs nodes marks made leads)
    (lawful : AreLawful nodes) (under : AreUnderRoot nodes marks) (all : length leads ≡ length nodes) (here : slice_get nodes (length nodes - 1) ≡ Some root) where
  same_root : (m : ℕ) (other : Node) → Inner m ≡ root_of nodes → slice_get nodes m ≡ Some other → other ≡ root
  same_root m other is at = same_Some other root (sym at ∙ ap (slice_get nodes) (same_numbers m (length nodes - 1) is) ∙ here)

  low : parts_below (length leads) root.parts ≡ true
  low = parts_lower (length nodes - 1) (length leads) root.parts (omega (arith, all)) (lawful.before (length nodes - 1) root here)

  kept : parts_marked marks root.parts ≡ true
  kept = under.closed (length nodes - 1) root (omega arith) here under.root

  ends_of : (q : Production) (index : ℕ) (left : nt.Nt) → slice_get qs index ≡ Some q → q.left ≡ record { 0 = 0 } → IsEnd start fs q
  ends_of q index left at is = are.ends q (contained qs index q at) is

  pub root_leads : (p : Part) (a : Symbol) (w : List Letter) → p ≡ root_of nodes → a ≡ symbol.Nt (record { 0 = 0 }) → Stands qs nodes p a w → LeadsTo ps made (first_led leads root.parts) (symbol.Nt start) w
  root_leads p a w is sort (Stands.by_byte range byte h) = cc
  root_leads p a w is sort (Stands.by_token token) = cc
  root_leads p a w is sort (Stands.by_empty m other left e g h) =
      let ends = ends_of (record { left = left; right = right.Empty }) other.production left g (same_nts left _ sort) in
      absurd (no_end (suc ends.number) ends.front ends.right)
  root_leads p a w is sort (Stands.by_one m other left b q v e g h s) =
      let ends = ends_of (record { left = left; right = right.One b }) other.production left g (same_nts left _ sort) in
      let own : root.parts ≡ One q = ap (λ (x : Node). x.parts) (sym (same_root m other is e)) ∙ h in
      subst (λ (x : Parts). LeadsTo ps made (first_led leads x) (symbol.Nt start) v) (sym own)
      (part_leads ps qs fs nodes marks made leads traces q ends.number (record { symbol = symbol.Nt start; from = 0; to = ends.to }) b v
      (subst (λ (x : Parts). parts_below (length leads) x ≡ true) own low) (subst (λ (x : Parts). parts_marked marks x ≡ true) own kept) ends.passed (one_end (suc ends.number) ends.front b ends.right) s)
  root_leads p a w is sort (Stands.by_two m other left b c q r u v e g h s t) =
      let zeroth = same_nts left _ sort in
      let ends = ends_of (record { left = left; right = right.Two b c }) other.production left g zeroth in
      let own : root.parts ≡ Two q r = ap (λ (x : Node). x.parts) (sym (same_root m other is e)) ∙ h in
      let two = two_end (suc ends.number) ends.front b c ends.right in
      let none = copies.closes (record { left = left; right = right.Two b c }) ends.number ends.to (suc two.0) v (contained qs other.production _ g) zeroth ends.passed
      (ends.right ∙ ap (end_by (suc ends.number)) two.1) (subst (λ (x : Symbol). Derives qs x v) two.3 (derives qs nodes r c v t)) in
      let below = subst (λ (x : Parts). parts_below (length leads) x ≡ true) own low in
      let marked = subst (λ (x : Parts). parts_marked marks x ≡ true) own kept in
      let lead = part_leads ps qs fs nodes marks made leads traces q ends.number (record { symbol = symbol.Nt start; from = 0; to = ends.to }) b u
      (first_so (part_below (length leads) q) (part_below (length leads) r) below) (first_so (part_marked marks q) (part_marked marks r) marked) ends.passed two.2 s in
      let same : text_of (u ++ v) ≡ text_of u = text_append u v ∙ ap (λ (bs : List ℕ). text_of u ++ map OfByte bs) none ∙ append-nil (text_of u) in
      subst (λ (x : Parts). LeadsTo ps made (first_led leads x) (symbol.Nt start) (u ++ v)) (sym own)
      (lead.0, lead.1, subst (λ (text : List Letter). Stands ps made lead.0 (symbol.Nt start) text) (sym same) lead.2)

-- what is found for the root
pub found : (ps qs : List Production) (start : nt.Nt) (fs : List Passage) (sources : List ℕ) (items nodes : List Node) (marks marked : List Bool) (made : List Node) (leads seen : List (Option Part)) (root : Node)
    (lead : Option Part) (begin : nt.Nt) (w : List Letter) → AreSources ps start fs sources qs → CopiesBytes start fs qs → AreLawful items → nodes ≡ items → marks ≡ marked → AreUnderRoot nodes marked
    → AreTraces ps fs qs nodes marks made leads → length leads ≡ length nodes → slice_get nodes (length nodes - 1) ≡ Some root → seen ≡ leads → lead ≡ first_led seen root.parts
    → begin ≡ record { 0 = 0 } → IsDerivation qs items begin w → LeadsTo ps made lead (symbol.Nt start) w
found ps qs start fs sources items nodes marks marked made leads seen root lead begin w are copies lawful same marking under traces all here looked is begins derived =
    let stands = subst (λ (ns : List Node). IsDerivation qs ns begin w) (sym same) derived in
    subst (λ (l : Option Part). LeadsTo ps made l (symbol.Nt start) w) (sym (is ∙ ap (λ (os : List (Option Part)). first_led os root.parts) looked))
    (root_leads ps qs start fs sources are copies nodes marks made leads root traces (subst AreLawful (sym same) lawful) (subst (λ (ms : List Bool). AreUnderRoot nodes ms) (sym marking) under) all here
    (root_of nodes) (symbol.Nt begin) w refl (ap (λ (a : nt.Nt). symbol.Nt a) begins) stands)
