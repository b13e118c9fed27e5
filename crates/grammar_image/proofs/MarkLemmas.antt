-- Marking the parts of marked nodes, from the last one down.
use Rattle.std.proofs.Common.{◌≡◌, ℕ, suc, ◌≤◌, inl, inr, Bool, true, false, ◌&&◌, List, length, Some, refl, sym, ◌∙◌, ap, subst, arith, slice_get}
use Rattle.std.specs.Cmp.{first_so, second_so}
use Rattle.std.proofs.lemmas.Bool.{cases_eq, ltb-true, lt-ltb}
use Rattle.std.proofs.lemmas.List.{get_or-set_other, get_or-set_same, length-set}
use Rattle.std.proofs.lemmas.Option.{same_Some, slice_get_within}
use Rattle.derivations.specs.declared.node.Part.{Part}
use Rattle.derivations.specs.declared.node.Part.TheVariants.{Byte, Token, Inner}
use Rattle.derivations.specs.declared.node.Parts.{Parts}
use Rattle.derivations.specs.declared.node.Parts.TheVariants.{Empty, One, Two}
use Rattle.derivations.specs.declared.node.Node.{Node}
use Rattle.derivations.specs.Nodes.{part_below, parts_below}
use Rattle.derivations.specs.Lawful.{AreLawful}
use Rattle.grammar_image.specs.Marks.{marked_at, part_marked, parts_marked, mark_part, mark_parts, AreClosedFrom}

pub true_and : (a b : Bool) → a ≡ true → b ≡ true → (a && b) ≡ true
true_and true true e f = refl
true_and true false e f = f
true_and false b e f = e

part_lower : (m n : ℕ) (p : Part) → m ≤ n → part_below m p ≡ true → part_below n p ≡ true
part_lower m n (Byte b) h k = refl
part_lower m n (Token t) h k = refl
part_lower m n (Inner i) h k = let l = ltb-true i m k in lt-ltb i n (omega (arith, l, h))

-- what is below a place is below those behind it
pub parts_lower : (m n : ℕ) (p : Parts) → m ≤ n → parts_below m p ≡ true → parts_below n p ≡ true
parts_lower m n Empty h k = refl
parts_lower m n (One a) h k = part_lower m n a h k
parts_lower m n (Two a b) h k =
    true_and (part_below n a) (part_below n b) (part_lower m n a h (first_so (part_below m a) (part_below m b) k)) (part_lower m n b h (second_so (part_below m a) (part_below m b) k))

-- what a marking keeps: the length, each mark, and what it does not reach
pub record Marked (old new : List Bool) (place : ℕ) : Type 0 where
  pub long : length new ≡ length old
  pub keeps : (n : ℕ) → marked_at old n ≡ true → marked_at new n ≡ true
  pub above : (n : ℕ) → place ≤ n → marked_at new n ≡ marked_at old n

part_kept : (marks : List Bool) (p : Part) (place : ℕ) → place ≤ length marks → part_below place p ≡ true → Marked marks (mark_part marks p) place
part_kept marks (Byte b) place within below = record { long = refl; keeps = λ n h. h; above = λ n h. refl }
part_kept marks (Token t) place within below = record { long = refl; keeps = λ n h. h; above = λ n h. refl }
part_kept marks (Inner m) place within below =
    let low = ltb-true m place below in
    record {
      long = length-set marks m true;
      keeps = λ n h. elim (cases_eq n m) [
        | inl same ↦ subst (λ (x : ℕ). marked_at (mark_part marks (Inner m)) x ≡ true) (sym same) (get_or-set_same marks m true false (omega (arith, low, within)))
        | inr other ↦ get_or-set_other marks m n true false other ∙ h
      ];
      above = λ n h. get_or-set_other marks m n true false (λ e. omega (arith, low, h, e));
    }

part_done : (marks : List Bool) (p : Part) (place : ℕ) → place ≤ length marks → part_below place p ≡ true → part_marked (mark_part marks p) p ≡ true
part_done marks (Byte b) place within below = refl
part_done marks (Token t) place within below = refl
part_done marks (Inner m) place within below = let low = ltb-true m place below in get_or-set_same marks m true false (omega (arith, low, within))

part_still : (old new : List Bool) (p : Part) → ((n : ℕ) → marked_at old n ≡ true → marked_at new n ≡ true) → part_marked old p ≡ true → part_marked new p ≡ true
part_still old new (Byte b) keeps h = refl
part_still old new (Token t) keeps h = refl
part_still old new (Inner m) keeps h = keeps m h

parts_still : (old new : List Bool) (p : Parts) → ((n : ℕ) → marked_at old n ≡ true → marked_at new n ≡ true) → parts_marked old p ≡ true → parts_marked new p ≡ true
parts_still old new Empty keeps h = refl
parts_still old new (One a) keeps h = part_still old new a keeps h
parts_still old new (Two a b) keeps h =
    true_and (part_marked new a) (part_marked new b)
    (part_still old new a keeps (first_so (part_marked old a) (part_marked old b) h))
    (part_still old new b keeps (second_so (part_marked old a) (part_marked old b) h))

both_kept : (old mid new : List Bool) (place : ℕ) → Marked old mid place → Marked mid new place → Marked old new place
both_kept old mid new place a b = record {
  long = b.long ∙ a.long;
  keeps = λ n h. b.keeps n (a.keeps n h);
  above = λ n h. b.above n h ∙ a.above n h;
}

parts_kept : (marks : List Bool) (p : Parts) (place : ℕ) → place ≤ length marks → parts_below place p ≡ true → Marked marks (mark_parts marks p) place
parts_kept marks Empty place within below = record { long = refl; keeps = λ n h. h; above = λ n h. refl }
parts_kept marks (One a) place within below = part_kept marks a place within below
parts_kept marks (Two a b) place within below =
    let one = part_kept marks a place within (first_so (part_below place a) (part_below place b) below) in
    both_kept marks (mark_part marks a) (mark_parts marks (Two a b)) place one
    (part_kept (mark_part marks a) b place (let l = one.long in omega (arith, within, l)) (second_so (part_below place a) (part_below place b) below))

parts_done : (marks : List Bool) (p : Parts) (place : ℕ) → place ≤ length marks → parts_below place p ≡ true → parts_marked (mark_parts marks p) p ≡ true
parts_done marks Empty place within below = refl
parts_done marks (One a) place within below = part_done marks a place within below
parts_done marks (Two a b) place within below =
    let low = first_so (part_below place a) (part_below place b) below in
    let high = second_so (part_below place a) (part_below place b) below in
    let one = part_kept marks a place within low in
    let inside : place ≤ length (mark_part marks a) = (let l = one.long in omega (arith, within, l)) in
    let two = part_kept (mark_part marks a) b place inside high in
    true_and (part_marked (mark_parts marks (Two a b)) a) (part_marked (mark_parts marks (Two a b)) b)
    (part_still (mark_part marks a) (mark_parts marks (Two a b)) a two.keeps (part_done marks a place within low))
    (part_done (mark_part marks a) b place inside high)

-- a marked node less is left, whose parts are marked
pub closed_more : (nodes : List Node) (marks new : List Bool) (from place : ℕ) (node : Node) → AreLawful nodes → length marks ≡ length nodes → slice_get nodes place ≡ Some node → from ≤ suc place
    → new ≡ mark_parts marks node.parts → AreClosedFrom from nodes marks → Marked marks new place × AreClosedFrom place nodes new
closed_more nodes marks new from place node lawful long at next is closed =
    let inside = slice_get_within nodes place node at in
    let low : place ≤ length marks = omega (arith, long, inside) in
    let below = lawful.before place node at in
    let kept = subst (λ (ms : List Bool). Marked marks ms place) (sym is) (parts_kept marks node.parts place low below) in
    let done = subst (λ (ms : List Bool). parts_marked ms node.parts ≡ true) (sym is) (parts_done marks node.parts place low below) in (
      kept,
      λ n other behind here marked. elim (cases_eq n place) [
        | inl same ↦ (let own : node ≡ other = same_Some node other (sym at ∙ ap (slice_get nodes) (sym same) ∙ here) in subst (λ (x : Node). parts_marked new x.parts ≡ true) own done)
        | inr different ↦ parts_still marks new other.parts kept.keeps (closed n other (omega (arith, behind, different, next)) here (sym (kept.above n behind) ∙ marked))
      ],
    )
