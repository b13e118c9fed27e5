-- Classes of bytes and parts, as they stand at the head.
use Rattle.std.proofs.Common.{◌≡◌, ◌∙◌, ℕ, Bool, true, false, List, [], ◌∷◌, Option, Some, None, refl, sym, ap, subst}
use Rattle.std.specs.Prelude.{IfSome}
use Rattle.std.specs.Borrow.{Bor}
use Rattle.text_base.specs.ByteSet.{Has, no_bytes}
use Rattle.page_policy.specs.Patterns.{in_ranges, is_meant}
use Rattle.page_policy.specs.Grammar.{is_sign, byte_at, Ranges, Byte, dot, itself, inside, outside}
use Rattle.page_policy.specs.Machine.{PlainPart, byte, opened, closed, barred, repeat_at, PartAt, is_byte, opens, closes, bars}
use Rattle.page_policy.specs.Views.{HasRanges, ReadsRanges, IsClass, ReadsClass, ReadsPart, IsPart}
use Rattle.page_policy.specs.declared.part.Repeat.{Repeat}
use Rattle.byte_forms.specs.declared.class.ByteClass.{ByteClass}
use Rattle.page_policy.specs.declared.part.Part.{Part}
use Rattle.page_policy.specs.declared.part.Part.TheVariants as part
use Rattle.page_policy.proofs.PartLemmas.{none_read, not_with_hat}
use Rattle.page_policy.proofs.RangeLemmas.{no_ranges}

pub inside_read : (bytes rest : List ℕ) (class : ByteClass) → class.others ≡ false → ReadsRanges bytes class.set rest → ReadsClass (91 ∷ bytes) class rest
inside_read bytes rest class e r = record { out = false; ranges = r.ranges; read = inside r.read; is = record { others = e; ranges = r.has } }

pub outside_read : (bytes rest : List ℕ) (class : ByteClass) → class.others ≡ true → ReadsRanges bytes class.set rest → ReadsClass (91 ∷ 94 ∷ bytes) class rest
outside_read bytes rest class e r = record { out = true; ranges = r.ranges; read = outside r.read; is = record { others = e; ranges = r.has } }

pub inside_reads : (bytes : List ℕ) (o : Option (ByteClass × Bor (List ℕ))) → IfSome o (λ r. (r.0.others ≡ false) × ReadsRanges bytes r.0.set r.1.now)
    → IfSome o (λ r. ReadsClass (91 ∷ bytes) r.0 r.1.now)
inside_reads bytes None h = tt
inside_reads bytes (Some r) h = inside_read bytes r.1.now r.0 h.0 h.1

pub outside_reads : (bytes : List ℕ) (o : Option (ByteClass × Bor (List ℕ))) → IfSome o (λ r. (r.0.others ≡ true) × ReadsRanges bytes r.0.set r.1.now)
    → IfSome o (λ r. ReadsClass (91 ∷ 94 ∷ bytes) r.0 r.1.now)
outside_reads bytes None h = tt
outside_reads bytes (Some r) h = outside_read bytes r.1.now r.0 h.0 h.1

pub dot_read : (rest : List ℕ) (class : ByteClass) → class.others ≡ true → class.set ≡ no_bytes → ReadsClass (46 ∷ rest) class rest
dot_read rest class e f = record { out = true; ranges = []; read = dot; is = record { others = e; ranges = no_ranges class.set f } }

pub itself_read : (bytes rest : List ℕ) (b : ℕ) (class : ByteClass) → byte_at is_sign bytes ≡ Some (b, rest) → IsClass class false ((b, b) ∷ []) → ReadsClass bytes class rest
itself_read bytes rest b class e is = record { out = false; ranges = (b, b) ∷ []; read = itself e; is = is }

abbrev pub NoRanges : List ℕ → Type 0
NoRanges bytes = (rs : List (ℕ × ℕ)) (w : List ℕ) → Ranges rs bytes w → ⊥

abbrev pub NoByte : List ℕ → Type 0
NoByte bytes = (out : Bool) (rs : List (ℕ × ℕ)) (w : List ℕ) → Byte out rs bytes w → ⊥

pub no_outside : (bytes : List ℕ) → NoRanges bytes → NoByte (91 ∷ 94 ∷ bytes)
no_outside bytes none out rs w (inside d) = not_with_hat d
no_outside bytes none out rs w (outside d) = none rs w d
no_outside bytes none out rs w (itself e) = none_read e

pub no_inside : (bytes : List ℕ) → ((u : List ℕ) → bytes ≡ 94 ∷ u → ⊥) → NoRanges bytes → NoByte (91 ∷ bytes)
no_inside bytes no_hat none out rs w (inside d) = none rs w d
no_inside bytes no_hat none out rs w (outside {u = u} d) = no_hat u refl
no_inside bytes no_hat none out rs w (itself e) = none_read e

pub no_itself : (bytes : List ℕ) → None ≡ byte_at is_sign bytes → ((u : List ℕ) → bytes ≡ 46 ∷ u → ⊥) → ((u : List ℕ) → bytes ≡ 91 ∷ u → ⊥) → NoByte bytes
no_itself bytes e no_dot no_set out rs w dot = no_dot w refl
no_itself bytes e no_dot no_set out rs w (itself f) = none_read (e ∙ f)
no_itself bytes e no_dot no_set out rs w (inside {u = u} d) = no_set u refl
no_itself bytes e no_dot no_set out rs w (outside {u = u} d) = no_set (94 ∷ u) refl

pub class_part : (bytes middle rest : List ℕ) (class : ByteClass) (r : Repeat) → ReadsClass bytes class middle → (r, rest) ≡ repeat_at middle
    → ReadsPart bytes (part.Byte class r) rest
class_part bytes middle rest class r c e = record { plain = byte c.out c.ranges r; read = is_byte c.read (sym e); is = (c.is, refl) }

pub close_part : (u rest : List ℕ) (r : Repeat) → (r, rest) ≡ repeat_at u → ReadsPart (41 ∷ u) (part.Close r) rest
close_part u rest r e = record { plain = closed r; read = closes (sym e); is = refl }

pub open_part : (u : List ℕ) → ReadsPart (40 ∷ u) part.Open u
open_part u = record { plain = opened; read = opens; is = tt }

pub bar_part : (u : List ℕ) → ReadsPart (124 ∷ u) part.Bar u
bar_part u = record { plain = barred; read = bars; is = tt }

pub no_part_at : (b : ℕ) (u : List ℕ) → (b ≡ 40 → ⊥) → (b ≡ 124 → ⊥) → (b ≡ 41 → ⊥) → NoByte (b ∷ u) → (x : PlainPart) (w : List ℕ) → PartAt x (b ∷ u) w → ⊥
no_part_at b u f g h none x w d = at d refl
  where
    head : List ℕ → ℕ
    head [] = 0
    head (b ∷ bytes) = b

    at : {x : PlainPart} {v : List ℕ} → PartAt x v w → v ≡ b ∷ u → ⊥
    at (is_byte {out = out} {rs = rs} {v = v} d e) is = none out rs v (subst (λ (z : List ℕ). Byte out rs z v) is d)
    at opens is = f (sym (ap head is))
    at (closes e) is = h (sym (ap head is))
    at bars is = g (sym (ap head is))
