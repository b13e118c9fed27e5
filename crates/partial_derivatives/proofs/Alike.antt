-- Bytes of a class leave the same.
use Rattle.std.proofs.Common.{◌≡◌, ◌≤◌, ℕ, Bool, true, false, List, [], ◌∷◌, ◌++◌, refl, ap, arith}
use Rattle.std.specs.Prelude.{min, if◌then◌else◌}
use Rattle.std.proofs.lemmas.Bool.Decides.{nat_tests}
use Rattle.derivatives.specs.Expressions.{Expr, nothing, empty, range, chain, either, star, among, Members, none, member, lies}
use Rattle.derivatives.specs.Derivatives.{may_end}
use Rattle.derivatives.specs.Classes.{last_byte, last_beside, last_alike, last_of_all}
use Rattle.derivatives.specs.Standing.{expr_at}
use Rattle.derivatives.specs.declared.arena.Arena.{Arena}
use Rattle.derivatives.proofs.Alike.{are_classes}
use Rattle.derivatives.proofs.NormalForms.{ap2}
use Rattle.partial_derivatives.specs.declared.part.Member.{Member}
use Rattle.partial_derivatives.specs.declared.part.Part.{Part}
use Rattle.partial_derivatives.specs.declared.part.Part.TheVariants.{Whole, Among}
use Rattle.partial_derivatives.specs.Classes.{last_in_turn, AreClassesInTurn}
use Rattle.partial_derivatives.specs.Parts.{first_at, second_at, members_from, part_expr, listed, parts_at, behind, behind_list, behind_members, behind_part, behind_parts}

lies_alike : (low high b c : ℕ) → b ≤ c → c ≤ last_beside low high b → lies low high c ≡ lies low high b
lies_alike low high b c h g = grind (arith, nat_tests)

least_left : (c m n : ℕ) → c ≤ min m n → c ≤ m
least_left c m n h = omega arith

least_right : (c m n : ℕ) → c ≤ min m n → c ≤ n
least_right c m n h = omega arith

least_of : (c m n : ℕ) → c ≤ m → c ≤ n → c ≤ min m n
least_of c m n h g = omega arith

first_least : (t : Bool) (c m n : ℕ) → c ≤ (if t then min m n else m) → c ≤ m
first_least true c m n h = least_left c m n h
first_least false c m n h = h

second_alike : (t : Bool) (c m n : ℕ) (rs ss : List (List Part)) → c ≤ (if t then min m n else m) → (c ≤ n → rs ≡ ss) → (if t then rs else []) ≡ (if t then ss else [])
second_alike true c m n rs ss h f = f (least_right c m n h)
second_alike false c m n rs ss h f = refl

mutual
  alike : (a : Arena) (b c : ℕ) (e : Expr) (n : ℕ) (rest : List Part) → b ≤ c → c ≤ last_alike b e → behind a c e n rest ≡ behind a b e n rest
  alike a b c nothing n rest h g = refl
  alike a b c empty n rest h g = refl
  alike a b c (range low high) n rest h g = ap (λ (t : Bool). if t then rest ∷ [] else []) (lies_alike low high b c h g)
  alike a b c (chain x y) n rest h g =
      ap2 ◌++◌ (alike a b c x (first_at a n) (parts_at a y (second_at a n) ++ rest) h (first_least (may_end x) c (last_alike b x) (last_alike b y) g))
      (second_alike (may_end x) c (last_alike b x) (last_alike b y) (behind a c y (second_at a n) rest) (behind a b y (second_at a n) rest) g (λ k. alike a b c y (second_at a n) rest h k))
  alike a b c (either x y) n rest h g =
      ap2 ◌++◌ (alike a b c x (first_at a n) rest h (least_left c (last_alike b x) (last_alike b y) g)) (alike a b c y (second_at a n) rest h (least_right c (last_alike b x) (last_alike b y) g))
  alike a b c (star x) n rest h g = alike a b c x (first_at a n) (Whole n ∷ rest) h g
  alike a b c (among ms) n rest h g = list_alike a b c ms (first_at a n) [] rest h g

  list_alike : (a : Arena) (b c : ℕ) (ms : Members) (n : ℕ) (front : List Member) (rest : List Part) → b ≤ c → c ≤ last_of_all b ms → behind_list a c ms n front rest ≡ behind_list a b ms n front rest
  list_alike a b c none n front rest h g = refl
  list_alike a b c (member e q ms) n front rest h g =
      let m : Member = record { place = first_at a n; required = q } in
      ap2 ◌++◌ (alike a b c e (first_at a n) (Among (front ++ listed a ms (second_at a n)) ∷ rest) h (least_left c (last_alike b e) (last_of_all b ms) g))
      (list_alike a b c ms (second_at a n) (front ++ m ∷ []) rest h (least_right c (last_alike b e) (last_of_all b ms) g))

members_row_alike : (a : Arena) (b c : ℕ) (front ms : List Member) (rest : List Part) → b ≤ c → c ≤ last_of_all b (members_from a ms) → behind_members a c front ms rest ≡ behind_members a b front ms rest
members_row_alike a b c front [] rest h g = refl
members_row_alike a b c front (m ∷ ms) rest h g =
    let e = expr_at a m.place in
    ap2 ◌++◌ (alike a b c e m.place (Among (front ++ ms) ∷ rest) h (least_left c (last_alike b e) (last_of_all b (members_from a ms)) g))
    (members_row_alike a b c (front ++ m ∷ []) ms rest h (least_right c (last_alike b e) (last_of_all b (members_from a ms)) g))

part_alike : (a : Arena) (b c : ℕ) (p : Part) (rest : List Part) → b ≤ c → c ≤ last_alike b (part_expr a p) → behind_part a c p rest ≡ behind_part a b p rest
part_alike a b c (Whole n) rest h g = alike a b c (expr_at a n) n rest h g
part_alike a b c (Among ms) rest h g = members_row_alike a b c [] ms rest h g

parts_alike : (a : Arena) (b c : ℕ) (ps : List Part) → b ≤ c → c ≤ last_in_turn a b ps → behind_parts a c ps ≡ behind_parts a b ps
parts_alike a b c [] h g = refl
parts_alike a b c (p ∷ ps) h g =
    let t = may_end (part_expr a p) in
    let m = last_alike b (part_expr a p) in
    let n = last_in_turn a b ps in
    ap2 ◌++◌ (part_alike a b c p ps h (first_least t c m n g)) (second_alike t c m n (behind_parts a c ps) (behind_parts a b ps) g (λ k. parts_alike a b c ps h k))

own_if : (t : Bool) (b m n : ℕ) → b ≤ m → b ≤ n → b ≤ (if t then min m n else m)
own_if true b m n h g = least_of b m n h g
own_if false b m n h g = h

own : (a : Arena) (b : ℕ) (ps : List Part) → b ≤ last_byte → b ≤ last_in_turn a b ps
own a b [] h = h
own a b (p ∷ ps) h = own_if (may_end (part_expr a p)) b (last_alike b (part_expr a p)) (last_in_turn a b ps) (are_classes.own b (part_expr a p) h) (own a b ps h)

pub are_classes_in_turn : AreClassesInTurn
are_classes_in_turn = record { own = own; alike = parts_alike }
