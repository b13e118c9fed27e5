-- What the machine that counts hands out is what it is to.
use Rattle.std.proofs.Common.{◌≡◌, ◌∙◌, ◌≤◌, ◌<◌, ◌↔◌, ℕ, List, [], ◌∷◌, map, All, Contains, refl, sym, ap, subst, arith, inl, inr, IsTrue}
use Rattle.std.specs.List.{list_all}
use Rattle.std.specs.declared.vec.Vec.{Vec}
use Rattle.std.specs.declared.alloc.Global.{Global}
use Rattle.std.proofs.lemmas.List.Elements.{Contains-push_cases, Contains-push}
use Rattle.text_base.specs.declared.byte_range.ByteRange.{ByteRange}
use Rattle.text_base.specs.ByteRange.{InRange}
use Rattle.text_base.specs.declared.letter.Letter.{Letter}
use Rattle.fst_core.specs.Letter.{letter_of}
use Rattle.fst_core.specs.Fits.{is_fixed}
use Rattle.fst_core.specs.Offers.{Offers, OffersLast, IsWithin}
use Rattle.fst_core.specs.declared.machine.Move.{Move}
use Rattle.fst_core.specs.declared.out.Out.{Out}
use Rattle.fst_core.proofs.LayerLemmas.{All-from_contains}
use Rattle.cut_grammars.specs.Counts.{CountStep, CountEnd}
use Rattle.cut_grammars.specs.Moves.{AreMoves, IsNothing}

nothing : {X : Type 0} (x : X) → Contains [] x → ⊥
nothing x c = let few : c.0 < 0 = c.1 in omega (arith, few)

-- what is in a list of one is that
only : {X : Type 0} (m x : X) → Contains (m ∷ []) x → m ≡ x
only m x c = elim (Contains-push_cases [] m x c) [
  | inl d ↦ absurd (nothing x d)
  | inr d ↦ d
]

pub exact : (most s : ℕ) (range : ByteRange) (moves : List (Move ℕ)) → AreMoves most s range moves → (byte : ℕ) → InRange range byte → (t : ℕ) (letters : List Letter)
    → Offers moves byte t letters ↔ CountStep most s byte t letters
exact most s range moves (inl (less, (m, is, own, out, to))) byte inside t letters = (
  λ f.
      let same : m ≡ f.0 = only m f.0 (subst (λ (y : List (Move ℕ)). Contains y f.0) is f.1) in (
        less,
        sym f.3 ∙ (ap (λ (y : Move ℕ). y.to) (sym same) ∙ to),
        sym f.4 ∙ (ap (λ (y : Move ℕ). map (letter_of byte) y.out.items) (sym same) ∙ ap (λ (y : List Out). map (letter_of byte) y) out),
      ),
  λ d. (
    m,
    subst (λ (y : List (Move ℕ)). Contains y m) (sym is) (Contains-push [] m),
    subst (λ (r : ByteRange). InRange r byte) (sym own) inside,
    to ∙ sym d.1,
    ap (λ (y : List Out). map (letter_of byte) y) out ∙ sym d.2,
  ),
)
exact most s range moves (inr (full, none)) byte inside t letters = (
  λ f. absurd (nothing f.0 (subst (λ (y : List (Move ℕ)). Contains y f.0) none f.1)),
  λ d. let less : s < most = d.0 in absurd (omega (arith, full, less)),
)

pub within : (most s : ℕ) (range : ByteRange) (moves : List (Move ℕ)) → AreMoves most s range moves → All (IsWithin range) moves
within most s range moves (inl (less, (m, is, own, out, to))) = All-from_contains (IsWithin range) moves (λ x c.
    let same : m ≡ x = only m x (subst (λ (y : List (Move ℕ)). Contains y x) is c) in
    let first : IsWithin range m = subst (λ (r : ByteRange). (range.lo ≤ r.lo) × (r.hi ≤ range.hi)) (sym own) (omega arith, omega arith) in
    subst (λ (y : Move ℕ). IsWithin range y) same first)
within most s range moves (inr (full, none)) = All-from_contains (IsWithin range) moves (λ x c. absurd (nothing x (subst (λ (y : List (Move ℕ)). Contains y x) none c)))

pub given : (most s : ℕ) (range : ByteRange) (moves : List (Move ℕ)) → AreMoves most s range moves → All (λ m. m.to ≤ most) moves
given most s range moves (inl (less, (m, is, own, out, to))) = All-from_contains (λ m. m.to ≤ most) moves (λ x c.
    let same : m ≡ x = only m x (subst (λ (y : List (Move ℕ)). Contains y x) is c) in
    let first : m.to ≤ most = omega (arith, less, to) in
    subst (λ (y : Move ℕ). y.to ≤ most) same first)
given most s range moves (inr (full, none)) = All-from_contains (λ m. m.to ≤ most) moves (λ x c. absurd (nothing x (subst (λ (y : List (Move ℕ)). Contains y x) none c)))

pub last_exact : (s : ℕ) (lasts : List (Vec Out Global)) → IsNothing lasts → (letters : List Letter) → OffersLast lasts letters ↔ CountEnd s letters
last_exact s lasts (v, is, empty) letters = (
  λ f.
      let same : v ≡ f.0 = only v f.0 (subst (λ (y : List (Vec Out Global)). Contains y f.0) is f.1) in
      sym f.2 ∙ (ap (λ (y : Vec Out Global). map (letter_of 0) y.items) (sym same) ∙ ap (λ (y : List Out). map (letter_of 0) y) empty),
  λ e. (
    v,
    subst (λ (y : List (Vec Out Global)). Contains y v) (sym is) (Contains-push [] v),
    ap (λ (y : List Out). map (letter_of 0) y) empty ∙ sym e,
  ),
)

pub last_fixed : (lasts : List (Vec Out Global)) → IsNothing lasts → All (λ out. IsTrue (list_all is_fixed out.items)) lasts
last_fixed lasts (v, is, empty) = All-from_contains (λ out. IsTrue (list_all is_fixed out.items)) lasts (λ x c.
    let same : v ≡ x = only v x (subst (λ (y : List (Vec Out Global)). Contains y x) is c) in
    let first : IsTrue (list_all is_fixed v.items) = subst (λ (y : List Out). IsTrue (list_all is_fixed y)) (sym empty) refl in
    subst (λ (y : Vec Out Global). IsTrue (list_all is_fixed y.items)) same first)
