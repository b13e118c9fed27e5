-- What single nodes lead back to.
use Rattle.std.proofs.Common.{◌≡◌, ℕ, ◌<◌, ◌≤◌, inl, inr, Bool, true, false, List, [], ◌∷◌, ◌++◌, length, Option, None, Some, refl, sym, ◌∙◌, ap, subst, arith, slice_get}
use Rattle.std.specs.Prelude.{slice_index_or, IfSome, IsTrue}
use Rattle.std.proofs.lemmas.Bool.{cases_lt, lt-ltb}
use Rattle.std.proofs.lemmas.List.{get_or_past}
use Rattle.std.proofs.lemmas.Option.{slice_get-get_or, same_Some, none-some}
use Rattle.derivations.specs.declared.node.Part.{Part}
use Rattle.derivations.specs.declared.node.Part.TheVariants.{Byte, Token, Inner}
use Rattle.derivations.specs.declared.node.Parts.{Parts}
use Rattle.derivations.specs.declared.node.Parts.TheVariants.{Empty, One, Two}
use Rattle.derivations.specs.declared.node.Node.{Node}
use Rattle.derivations.specs.Nodes.{part_below, parts_below}
use Rattle.derivations.specs.Lawful.{Grows}
use Rattle.numbered_sets.specs.Numbers.{Keeps}
use Rattle.numbered_sets.proofs.NumberLemmas.{at_front}
use Rattle.derivations.proofs.ForkLemmas.{longer, get_cases}
use Rattle.grammar_image.specs.Leads.{led_part, one_led, two_led, led_parts, byte_part, Pushes, Comes, Leads}
use Rattle.grammar_image.specs.Traces.{AreMade}
use Rattle.grammar_image.proofs.MarkLemmas.{true_and}

-- the nodes behind which one is put stay
pub grows_keeps : (old new : List Node) (production : ℕ) (parts : Parts) → Grows old new production parts → Keeps old new
grows_keeps old new production parts is = λ n x at. subst (λ (ns : List Node). slice_get ns n ≡ Some x) (sym is) (at_front old _ n x at)

pushes_keeps : (old new : List Node) (production : ℕ) (o : Option Parts) (lead : Option Part) → Pushes old new production o lead → Keeps old new
pushes_keeps old new production None lead p = λ n x at. subst (λ (ns : List Node). slice_get ns n ≡ Some x) (sym p.0) at
pushes_keeps old new production (Some parts) lead p = grows_keeps old new production parts p.0

comes_keeps : (old new : List Node) (leads : List (Option Part)) (source first : Option ℕ) (parts : Parts) (lead : Option Part) → Comes old new leads source first parts lead → Keeps old new
comes_keeps old new leads None first parts lead c = λ n x at. subst (λ (ns : List Node). slice_get ns n ≡ Some x) (sym c.0) at
comes_keeps old new leads (Some place) first parts lead c = pushes_keeps old new place (led_parts leads parts) lead c

pub leads_keeps : (is_marked : Bool) (old new : List Node) (leads : List (Option Part)) (sources : List ℕ) (first : Option ℕ) (node : Node) (lead : Option Part) → Leads is_marked old new leads sources first node lead → Keeps old new
leads_keeps false old new leads sources first node lead l = λ n x at. subst (λ (ns : List Node). slice_get ns n ≡ Some x) (sym l.0) at
leads_keeps true old new leads sources first node lead l = comes_keeps old new leads (slice_get sources node.production) first node.parts lead l

-- a new lead names a node that is there, and no node is lost
record Within (old new : List Node) (lead : Option Part) : Type 0 where
  made : (m : ℕ) → lead ≡ Some (Inner m) → m < length new
  grown : length old ≤ length new

none_within : (old new : List Node) (lead : Option Part) → new ≡ old → lead ≡ None → Within old new lead
none_within old new lead same is = record {
  made = λ m e. absurd (none-some (Inner m) (sym is ∙ e));
  grown = let l = ap (λ (ns : List Node). length ns) same in omega (arith, l);
}

no_node : (o : Option ℕ) (m : ℕ) → byte_part o ≡ Some (Inner m) → ⊥
no_node None m e = cc
no_node (Some b) m e = cc

same_number : (m n : ℕ) → Some (Inner m) ≡ Some (Inner n) → m ≡ n
same_number m n e = cc

pushes_within : (old new : List Node) (production : ℕ) (o : Option Parts) (lead : Option Part) → Pushes old new production o lead → Within old new lead
pushes_within old new production None lead p = none_within old new lead p.0 p.1
pushes_within old new production (Some parts) lead p =
    let l = ap (λ (ns : List Node). length ns) p.0 ∙ longer old _ in
    record {
      made = λ m e. (let same = same_number m (length old) (sym e ∙ p.1) in omega (arith, same, l));
      grown = omega (arith, l);
    }

comes_within : (old new : List Node) (leads : List (Option Part)) (source first : Option ℕ) (parts : Parts) (lead : Option Part) → Comes old new leads source first parts lead → Within old new lead
comes_within old new leads None first parts lead c = record {
  made = λ m e. absurd (no_node first m (sym c.1 ∙ e));
  grown = let l = ap (λ (ns : List Node). length ns) c.0 in omega (arith, l);
}
comes_within old new leads (Some place) first parts lead c = pushes_within old new place (led_parts leads parts) lead c

leads_within : (is_marked : Bool) (old new : List Node) (leads : List (Option Part)) (sources : List ℕ) (first : Option ℕ) (node : Node) (lead : Option Part) → Leads is_marked old new leads sources first node lead → Within old new lead
leads_within false old new leads sources first node lead l = none_within old new lead l.0 l.1
leads_within true old new leads sources first node lead l = comes_within old new leads (slice_get sources node.production) first node.parts lead l

pub made_more : (is_marked : Bool) (old new : List Node) (leads after : List (Option Part)) (sources : List ℕ) (first : Option ℕ) (node : Node) (lead : Option Part) → AreMade old leads
    → Leads is_marked old new leads sources first node lead → after ≡ leads ++ lead ∷ [] → AreMade new after
made_more is_marked old new leads after sources first node lead are l is =
    let w = leads_within is_marked old new leads sources first node lead l in
    λ n m at. elim (get_cases leads lead n (Some (Inner m)) (sym (ap (λ (os : List (Option Part)). slice_get os n) is) ∙ at)) [
      | inl before ↦ (let low = are n m before in let g = w.grown in omega (arith, low, g))
      | inr last ↦ w.made m last.1
    ]

pub none_made : (made : List Node) → AreMade made []
none_made made = λ n m at. cc

-- what is led back to is there
module _ (made : List Node) (leads : List (Option Part)) (are : AreMade made leads) where
  at_place : (n : ℕ) (o : Option Part) → slice_index_or leads n None ≡ o → (r : Part) → o ≡ Some r → part_below (length made) r ≡ true
  at_place n o is (Byte b) e = refl
  at_place n o is (Token t) e = refl
  at_place n o is (Inner m) e = elim (cases_lt n (length leads)) [
    | inl h ↦ lt-ltb m (length made) (are n m (slice_get-get_or leads n None h ∙ ap (λ (x : Option Part). Some x) (is ∙ e)))
    | inr h ↦ absurd (none-some (Inner m) (sym (get_or_past leads n None h) ∙ is ∙ e))
  ]

  same_below : (p r : Part) → part_below (length made) p ≡ true → Some p ≡ Some r → part_below (length made) r ≡ true
  same_below p r below e = subst (λ (x : Part). part_below (length made) x ≡ true) (same_Some p r e) below

  part_there : (p r : Part) → led_part leads p ≡ Some r → part_below (length made) r ≡ true
  part_there (Byte b) r e = same_below (Byte b) r refl e
  part_there (Token t) r e = absurd (none-some r e)
  part_there (Inner n) r e = at_place n (slice_index_or leads n None) refl r e

  one_there : (o : Option Part) → ((r : Part) → o ≡ Some r → part_below (length made) r ≡ true) → IfSome (one_led o) (λ parts. IsTrue (parts_below (length made) parts))
  one_there None h = tt
  one_there (Some a) h = h a refl

  two_there : (o k : Option Part) → ((r : Part) → o ≡ Some r → part_below (length made) r ≡ true) → ((r : Part) → k ≡ Some r → part_below (length made) r ≡ true)
      → IfSome (two_led o k) (λ parts. IsTrue (parts_below (length made) parts))
  two_there None k h i = tt
  two_there (Some a) None h i = tt
  two_there (Some a) (Some b) h i = true_and (part_below (length made) a) (part_below (length made) b) (h a refl) (i b refl)

  pub parts_there : (parts : Parts) → IfSome (led_parts leads parts) (λ parts. IsTrue (parts_below (length made) parts))
  parts_there Empty = refl
  parts_there (One a) = one_there (led_part leads a) (part_there a)
  parts_there (Two a b) = two_there (led_part leads a) (led_part leads b) (part_there a) (part_there b)
