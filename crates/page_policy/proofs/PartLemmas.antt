-- A file is cut into parts in one way.
use Rattle.std.proofs.Common.{◌≡◌, ◌∙◌, ℕ, Bool, true, false, List, [], ◌∷◌, Option, Some, None, refl, sym, ap, subst}
use Rattle.std.specs.Prelude.{◌==◌, if◌then◌else◌}
use Rattle.page_policy.specs.Grammar.{is_sign, is_set_sign, byte_at, escape_at, range_at, Ranges, last, more, Byte, dot, itself, inside, outside}
use Rattle.page_policy.specs.Machine.{PlainPart, byte, opened, closed, barred, repeat_at, PartAt, is_byte, opens, closes, bars, Cut, all, further}
use Rattle.page_policy.specs.declared.part.Repeat.{Repeat}

from : {A : Type 0} → A → Option A → A
from a None = a
from a (Some b) = b

tail_of : List ℕ → List ℕ
tail_of [] = []
tail_of (b ∷ bytes) = bytes

pub same_tail : {a b : ℕ} {u v : List ℕ} → (a ∷ u) ≡ (b ∷ v) → u ≡ v
unfolding tail_of
same_tail e = ap tail_of e

pub same_read : {A : Type 0} {a b : A} {v w : List ℕ} {o : Option (A × List ℕ)} → o ≡ Some (a, v) → o ≡ Some (b, w) → (a ≡ b) × (v ≡ w)
unfolding from
same_read {A} {a} {b} {v} {w} e f =
    let p : (a, v) ≡ (b, w) = ap (from (a, v)) (sym e ∙ f) in
    (ap (λ (t : A × List ℕ). t.0) p, ap (λ (t : A × List ℕ). t.1) p)

pub none_read : {A : Type 0} {a : A} → None ≡ Some a → ⊥
none_read e = cc

not_behind_end : {rs : List (ℕ × ℕ)} {x w : List ℕ} → Ranges rs (93 ∷ x) w → ⊥
not_behind_end (last e) = none_read e
not_behind_end (more e d) = none_read e

pub not_with_hat : {rs : List (ℕ × ℕ)} {x w : List ℕ} → Ranges rs (94 ∷ x) w → ⊥
not_with_hat (last e) = none_read e
not_with_hat (more e d) = none_read e

pub one_ranges : {rs ss : List (ℕ × ℕ)} {u v w : List ℕ} → Ranges rs u v → Ranges ss u w → (rs ≡ ss) × (v ≡ w)
one_ranges (last e) (last f) = let p = same_read e f in (ap (λ (r : ℕ × ℕ). r ∷ []) p.0, same_tail p.1)
one_ranges (last e) (more {rs = rs} {w = w} f d) = let p = same_read e f in absurd (not_behind_end (subst (λ (z : List ℕ). Ranges rs z w) (sym p.1) d))
one_ranges (more {rs = rs} {w = w} e d) (last f) = let p = same_read e f in absurd (not_behind_end (subst (λ (z : List ℕ). Ranges rs z w) p.1 d))
one_ranges (more {r = r} {rs = rs} {w = v} e d) (more {r = s} {rs = ss} {w = w} f g) =
    let p = same_read e f in
    let q = one_ranges d (subst (λ (z : List ℕ). Ranges ss z w) (sym p.1) g) in
    (ap (λ (t : ℕ × ℕ). t ∷ rs) p.0 ∙ ap (λ (ts : List (ℕ × ℕ)). s ∷ ts) q.0, q.1)

record SameByte (out other : Bool) (rs ss : List (ℕ × ℕ)) (v w : List ℕ) : Type 0 where
  same_out : out ≡ other
  same_ranges : rs ≡ ss
  same_rest : v ≡ w

one_byte : {out other : Bool} {rs ss : List (ℕ × ℕ)} {u v w : List ℕ} → Byte out rs u v → Byte other ss u w → SameByte out other rs ss v w
one_byte dot dot = record { same_out = refl; same_ranges = refl; same_rest = refl }
one_byte dot (itself e) = absurd (none_read e)
one_byte (itself e) dot = absurd (none_read e)
one_byte (itself e) (itself f) = let p = same_read e f in record { same_out = refl; same_ranges = ap (λ (b : ℕ). (b, b) ∷ []) p.0; same_rest = p.1 }
one_byte (itself e) (inside d) = absurd (none_read e)
one_byte (itself e) (outside d) = absurd (none_read e)
one_byte (inside d) (itself e) = absurd (none_read e)
one_byte (inside d) (inside f) = let p = one_ranges d f in record { same_out = refl; same_ranges = p.0; same_rest = p.1 }
one_byte (inside d) (outside f) = absurd (not_with_hat d)
one_byte (outside d) (itself e) = absurd (none_read e)
one_byte (outside d) (inside f) = absurd (not_with_hat f)
one_byte (outside d) (outside f) = let p = one_ranges d f in record { same_out = refl; same_ranges = p.0; same_rest = p.1 }

not_open : {out : Bool} {rs : List (ℕ × ℕ)} {u v : List ℕ} → Byte out rs (40 ∷ u) v → ⊥
not_open (itself e) = none_read e

not_close : {out : Bool} {rs : List (ℕ × ℕ)} {u v : List ℕ} → Byte out rs (41 ∷ u) v → ⊥
not_close (itself e) = none_read e

not_bar : {out : Bool} {rs : List (ℕ × ℕ)} {u v : List ℕ} → Byte out rs (124 ∷ u) v → ⊥
not_bar (itself e) = none_read e

same_pair : {p : Repeat × List ℕ} {r q : Repeat} {v w : List ℕ} → p ≡ (r, v) → p ≡ (q, w) → (r ≡ q) × (v ≡ w)
same_pair e f = (ap (λ (t : Repeat × List ℕ). t.0) (sym e ∙ f), ap (λ (t : Repeat × List ℕ). t.1) (sym e ∙ f))

same_part : {out other : Bool} {rs ss : List (ℕ × ℕ)} {r q : Repeat} → out ≡ other → rs ≡ ss → r ≡ q → byte out rs r ≡ byte other ss q
same_part e f g = cc

bytes_part : {out other : Bool} {rs ss : List (ℕ × ℕ)} {r q : Repeat} {s t v w : List ℕ} → SameByte out other rs ss s t → repeat_at s ≡ (r, v) → repeat_at t ≡ (q, w)
    → (byte out rs r ≡ byte other ss q) × (v ≡ w)
bytes_part {s = s} {t = t} p e f = let q = same_pair e (ap repeat_at p.same_rest ∙ f) in (same_part p.same_out p.same_ranges q.0, q.1)

pub one_part : {x y : PlainPart} {u v w : List ℕ} → PartAt x u v → PartAt y u w → (x ≡ y) × (v ≡ w)
one_part (is_byte d e) (is_byte f g) = bytes_part (one_byte d f) e g
one_part (is_byte d e) opens = absurd (not_open d)
one_part (is_byte d e) (closes g) = absurd (not_close d)
one_part (is_byte d e) bars = absurd (not_bar d)
one_part opens (is_byte d e) = absurd (not_open d)
one_part opens opens = (refl, refl)
one_part (closes g) (is_byte d e) = absurd (not_close d)
one_part (closes e) (closes f) = let q = same_pair e f in (ap closed q.0, q.1)
one_part bars (is_byte d e) = absurd (not_bar d)
one_part bars bars = (refl, refl)

not_empty : {out : Bool} {rs : List (ℕ × ℕ)} {v : List ℕ} → Byte out rs [] v → ⊥
not_empty (itself e) = none_read e

pub no_part : {x : PlainPart} {w : List ℕ} → PartAt x [] w → ⊥
no_part (is_byte d e) = not_empty d

pub one_cut : {xs ys : List PlainPart} {u : List ℕ} → Cut xs u → Cut ys u → xs ≡ ys
one_cut all all = refl
one_cut all (further h d) = absurd (no_part h)
one_cut (further h d) all = absurd (no_part h)
one_cut (further {x = x} {xs = xs} h d) (further {x = y} {xs = ys} g f) =
    let p = one_part h g in
    ap (λ (z : PlainPart). z ∷ xs) p.0 ∙ ap (λ (zs : List PlainPart). y ∷ zs) (one_cut d (subst (λ (z : List ℕ). Cut ys z) (sym p.1) f))
