-- Equality of names is exact.
use Rattle.std.specs.Prelude.{◌≡◌, ℕ, Bool, true, ◌&&◌, refl}
use Rattle.std.proofs.Common.{rules, ap, ◌∙◌}
use Rattle.std.specs.Cmp.{first_so, second_so}
use Rattle.std.proofs.lemmas.Map.Views.{exact_unsigned_eq}
use Rattle.text_base.specs.Exactness.{IsExact, exact_pair}
use Rattle.loose_sets.specs.declared.name.Half.{Half}
use Rattle.loose_sets.specs.declared.name.Aspect.{Aspect}
use Rattle.loose_sets.specs.declared.name.Aspect.TheVariants.{Own, Member, Others, Keys}
use Rattle.loose_sets.specs.declared.name.SetVersion.{SetVersion}
use Rattle.loose_sets.specs.declared.name.Leaving.{Leaving}
use Rattle.loose_sets.specs.declared.name.SetName.{SetName}
use Rattle.loose_sets.specs.declared.name.SetName.TheVariants as name
use Rattle.loose_sets.specs.contracts.name.HalfPartialEq.TheImpl as halves
use Rattle.loose_sets.specs.contracts.name.AspectPartialEq.TheImpl as aspects
use Rattle.loose_sets.specs.contracts.name.SetVersionPartialEq.TheImpl as versions
use Rattle.loose_sets.specs.contracts.name.LeavingPartialEq.TheImpl as leavings
use Rattle.loose_sets.specs.contracts.name.SetNamePartialEq.TheImpl as names

exact_half : IsExact (halves.ghosts).eq
exact_half = search rules

exact_version : IsExact (versions.ghosts).eq
exact_version = search rules

exact_leaving : IsExact (leavings.ghosts).eq
exact_leaving = search rules

exact_aspect : (a b : Aspect) → (aspects.ghosts).eq a b ≡ true → a ≡ b
exact_aspect (Own g) (Own h) e = ap (λ (x : Half). Own x) (exact_half g h e)
exact_aspect (Own g) (Member i h) e = cc
exact_aspect (Own g) (Others h) e = cc
exact_aspect (Own g) Keys e = cc
exact_aspect (Member i g) (Own h) e = cc
exact_aspect (Member i g) (Member j h) e = ap (λ (x : ℕ × Half). Member x.0 x.1) (exact_pair exact_half (i, g) (j, h) e)
exact_aspect (Member i g) (Others h) e = cc
exact_aspect (Member i g) Keys e = cc
exact_aspect (Others g) (Own h) e = cc
exact_aspect (Others g) (Member i h) e = cc
exact_aspect (Others g) (Others h) e = ap (λ (x : Half). Others x) (exact_half g h e)
exact_aspect (Others g) Keys e = cc
exact_aspect Keys (Own h) e = cc
exact_aspect Keys (Member i h) e = cc
exact_aspect Keys (Others h) e = cc
exact_aspect Keys Keys e = refl

-- of two parts
both : {A B : Type 0} {eq : A → A → Bool} {same : B → B → Bool} → IsExact eq → IsExact same → (a c : A) (b d : B)
    → (eq a c && same b d) ≡ true → ◌≡◌ {A = A × B} (a, b) (c, d)
both {A} {B} {eq} {same} first second a c b d e =
    let p : a ≡ c = first a c (first_so (eq a c) (same b d) e) in
    let q : b ≡ d = second b d (second_so (eq a c) (same b d) e) in
    ap (λ (x : A). let w : A × B = (x, b) in w) p ∙ ap (λ (y : B). let w : A × B = (c, y) in w) q

value : (a : Aspect) (v : SetVersion) (q : SetName) → (names.ghosts).eq (name.Value a v) q ≡ true → name.Value a v ≡ q
value a v (name.Value a2 v2) e = ap (λ (z : Aspect × SetVersion). name.Value z.0 z.1) (both exact_aspect exact_version a a2 v v2 e)
value a v (name.Members h2 v2) e = cc
value a v (name.Shown v2) e = cc
value a v (name.Result a2 n2) e = cc
value a v (name.Input n2) e = cc
value a v (name.Output n2) e = cc
value a v (name.Joined m2 n2) e = cc
value a v (name.Piece n2) e = cc
value a v (name.FurtherPiece n2) e = cc
value a v (name.FurtherPieces n2) e = cc
value a v (name.Out n2 l2) e = cc

members : (h : Half) (v : SetVersion) (q : SetName) → (names.ghosts).eq (name.Members h v) q ≡ true → name.Members h v ≡ q
members h v (name.Value a2 v2) e = cc
members h v (name.Members h2 v2) e = ap (λ (z : Half × SetVersion). name.Members z.0 z.1) (both exact_half exact_version h h2 v v2 e)
members h v (name.Shown v2) e = cc
members h v (name.Result a2 n2) e = cc
members h v (name.Input n2) e = cc
members h v (name.Output n2) e = cc
members h v (name.Joined m2 n2) e = cc
members h v (name.Piece n2) e = cc
members h v (name.FurtherPiece n2) e = cc
members h v (name.FurtherPieces n2) e = cc
members h v (name.Out n2 l2) e = cc

shown : (v : SetVersion) (q : SetName) → (names.ghosts).eq (name.Shown v) q ≡ true → name.Shown v ≡ q
shown v (name.Value a2 v2) e = cc
shown v (name.Members h2 v2) e = cc
shown v (name.Shown v2) e = ap (λ (z : SetVersion). name.Shown z) (exact_version v v2 e)
shown v (name.Result a2 n2) e = cc
shown v (name.Input n2) e = cc
shown v (name.Output n2) e = cc
shown v (name.Joined m2 n2) e = cc
shown v (name.Piece n2) e = cc
shown v (name.FurtherPiece n2) e = cc
shown v (name.FurtherPieces n2) e = cc
shown v (name.Out n2 l2) e = cc

result : (a : Aspect) (n : ℕ) (q : SetName) → (names.ghosts).eq (name.Result a n) q ≡ true → name.Result a n ≡ q
result a n (name.Value a2 v2) e = cc
result a n (name.Members h2 v2) e = cc
result a n (name.Shown v2) e = cc
result a n (name.Result a2 n2) e = ap (λ (z : Aspect × ℕ). name.Result z.0 z.1) (both exact_aspect exact_unsigned_eq a a2 n n2 e)
result a n (name.Input n2) e = cc
result a n (name.Output n2) e = cc
result a n (name.Joined m2 n2) e = cc
result a n (name.Piece n2) e = cc
result a n (name.FurtherPiece n2) e = cc
result a n (name.FurtherPieces n2) e = cc
result a n (name.Out n2 l2) e = cc

input : (n : ℕ) (q : SetName) → (names.ghosts).eq (name.Input n) q ≡ true → name.Input n ≡ q
input n (name.Value a2 v2) e = cc
input n (name.Members h2 v2) e = cc
input n (name.Shown v2) e = cc
input n (name.Result a2 n2) e = cc
input n (name.Input n2) e = ap (λ (z : ℕ). name.Input z) (exact_unsigned_eq n n2 e)
input n (name.Output n2) e = cc
input n (name.Joined m2 n2) e = cc
input n (name.Piece n2) e = cc
input n (name.FurtherPiece n2) e = cc
input n (name.FurtherPieces n2) e = cc
input n (name.Out n2 l2) e = cc

output : (n : ℕ) (q : SetName) → (names.ghosts).eq (name.Output n) q ≡ true → name.Output n ≡ q
output n (name.Value a2 v2) e = cc
output n (name.Members h2 v2) e = cc
output n (name.Shown v2) e = cc
output n (name.Result a2 n2) e = cc
output n (name.Input n2) e = cc
output n (name.Output n2) e = ap (λ (z : ℕ). name.Output z) (exact_unsigned_eq n n2 e)
output n (name.Joined m2 n2) e = cc
output n (name.Piece n2) e = cc
output n (name.FurtherPiece n2) e = cc
output n (name.FurtherPieces n2) e = cc
output n (name.Out n2 l2) e = cc

joined : (m : ℕ) (n : ℕ) (q : SetName) → (names.ghosts).eq (name.Joined m n) q ≡ true → name.Joined m n ≡ q
joined m n (name.Value a2 v2) e = cc
joined m n (name.Members h2 v2) e = cc
joined m n (name.Shown v2) e = cc
joined m n (name.Result a2 n2) e = cc
joined m n (name.Input n2) e = cc
joined m n (name.Output n2) e = cc
joined m n (name.Joined m2 n2) e = ap (λ (z : ℕ × ℕ). name.Joined z.0 z.1) (both exact_unsigned_eq exact_unsigned_eq m m2 n n2 e)
joined m n (name.Piece n2) e = cc
joined m n (name.FurtherPiece n2) e = cc
joined m n (name.FurtherPieces n2) e = cc
joined m n (name.Out n2 l2) e = cc

piece : (n : ℕ) (q : SetName) → (names.ghosts).eq (name.Piece n) q ≡ true → name.Piece n ≡ q
piece n (name.Value a2 v2) e = cc
piece n (name.Members h2 v2) e = cc
piece n (name.Shown v2) e = cc
piece n (name.Result a2 n2) e = cc
piece n (name.Input n2) e = cc
piece n (name.Output n2) e = cc
piece n (name.Joined m2 n2) e = cc
piece n (name.Piece n2) e = ap (λ (z : ℕ). name.Piece z) (exact_unsigned_eq n n2 e)
piece n (name.FurtherPiece n2) e = cc
piece n (name.FurtherPieces n2) e = cc
piece n (name.Out n2 l2) e = cc

further_piece : (n : ℕ) (q : SetName) → (names.ghosts).eq (name.FurtherPiece n) q ≡ true → name.FurtherPiece n ≡ q
further_piece n (name.Value a2 v2) e = cc
further_piece n (name.Members h2 v2) e = cc
further_piece n (name.Shown v2) e = cc
further_piece n (name.Result a2 n2) e = cc
further_piece n (name.Input n2) e = cc
further_piece n (name.Output n2) e = cc
further_piece n (name.Joined m2 n2) e = cc
further_piece n (name.Piece n2) e = cc
further_piece n (name.FurtherPiece n2) e = ap (λ (z : ℕ). name.FurtherPiece z) (exact_unsigned_eq n n2 e)
further_piece n (name.FurtherPieces n2) e = cc
further_piece n (name.Out n2 l2) e = cc

further_pieces : (n : ℕ) (q : SetName) → (names.ghosts).eq (name.FurtherPieces n) q ≡ true → name.FurtherPieces n ≡ q
further_pieces n (name.Value a2 v2) e = cc
further_pieces n (name.Members h2 v2) e = cc
further_pieces n (name.Shown v2) e = cc
further_pieces n (name.Result a2 n2) e = cc
further_pieces n (name.Input n2) e = cc
further_pieces n (name.Output n2) e = cc
further_pieces n (name.Joined m2 n2) e = cc
further_pieces n (name.Piece n2) e = cc
further_pieces n (name.FurtherPiece n2) e = cc
further_pieces n (name.FurtherPieces n2) e = ap (λ (z : ℕ). name.FurtherPieces z) (exact_unsigned_eq n n2 e)
further_pieces n (name.Out n2 l2) e = cc

out : (n : ℕ) (l : Leaving) (q : SetName) → (names.ghosts).eq (name.Out n l) q ≡ true → name.Out n l ≡ q
out n l (name.Value a2 v2) e = cc
out n l (name.Members h2 v2) e = cc
out n l (name.Shown v2) e = cc
out n l (name.Result a2 n2) e = cc
out n l (name.Input n2) e = cc
out n l (name.Output n2) e = cc
out n l (name.Joined m2 n2) e = cc
out n l (name.Piece n2) e = cc
out n l (name.FurtherPiece n2) e = cc
out n l (name.FurtherPieces n2) e = cc
out n l (name.Out n2 l2) e = ap (λ (z : ℕ × Leaving). name.Out z.0 z.1) (both exact_unsigned_eq exact_leaving n n2 l l2 e)

-- names of sets that are found equal are one
pub exact_name : (a b : SetName) → (names.ghosts).eq a b ≡ true → a ≡ b
exact_name (name.Value a v) q e = value a v q e
exact_name (name.Members h v) q e = members h v q e
exact_name (name.Shown v) q e = shown v q e
exact_name (name.Result a n) q e = result a n q e
exact_name (name.Input n) q e = input n q e
exact_name (name.Output n) q e = output n q e
exact_name (name.Joined m n) q e = joined m n q e
exact_name (name.Piece n) q e = piece n q e
exact_name (name.FurtherPiece n) q e = further_piece n q e
exact_name (name.FurtherPieces n) q e = further_pieces n q e
exact_name (name.Out n l) q e = out n l q e
