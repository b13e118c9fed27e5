-- Sets with more bytes, and what operations make of a byte, by their kinds.
use Rattle.std.proofs.Common.{◌≡◌, ◌<◌, ◌≤◌, ◌+◌, ℕ, Bool, true, false, List, Contains, inl, inr, sym, ◌∙◌, subst, arith}
use Rattle.std.specs.Prelude.{◌⊎◌, ◌↔◌, codes, IsTrue}
use Rattle.std.proofs.lemmas.Bool.{cases_eq}
use Rattle.std.proofs.lemmas.List.{get_or-replicate}
use Rattle.text_base.specs.ByteSet.{Has, no_bytes}
use Rattle.op_bytes.specs.Work.{IsTurned}
use Rattle.string_functions.specs.Breaks.{is_line_end}
use Rattle.op_system.specs.declared.op.Op.{Op}
use Rattle.op_system.specs.declared.op.Op.TheVariants as op
use Rattle.least_sets.specs.Bytes.{Turns}

-- sets with more bytes
abbrev pub IsMore : List Bool → List Bool → (ℕ → Type 0) → Type 0
IsMore old new E = (c : ℕ) → c < 256 → Has new c ↔ (Has old c ⊎ E c)

pub more_nothing : (set : List Bool) (E : ℕ → Type 0) → ((c : ℕ) → E c → ⊥) → IsMore set set E
more_nothing set E never c lt = (λ h. inl h, λ h. elim h [ inl o ↦ o | inr e ↦ absurd (never c e) ])

pub more_like : (old new : List Bool) (E F : ℕ → Type 0) → ((c : ℕ) → E c ↔ F c) → IsMore old new E → IsMore old new F
more_like old new E F is h c lt = (
  λ x. elim ((h c lt).0 x) [ inl o ↦ inl o | inr e ↦ inr ((is c).0 e) ],
  λ x. (h c lt).1 (elim x [ inl o ↦ inl o | inr f ↦ inr ((is c).1 f) ]),
)

pub more_two : (a b d : List Bool) (E F : ℕ → Type 0) → IsMore a b E → IsMore b d F → IsMore a d (λ c. E c ⊎ F c)
more_two a b d E F h g c lt = (
  λ x. elim ((g c lt).0 x) [ inl y ↦ elim ((h c lt).0 y) [ inl o ↦ inl o | inr e ↦ inr (inl e) ] | inr f ↦ inr (inr f) ],
  λ x. elim x [ inl o ↦ (g c lt).1 (inl ((h c lt).1 (inl o))) | inr y ↦ elim y [ inl e ↦ (g c lt).1 (inl ((h c lt).1 (inr e))) | inr f ↦ (g c lt).1 (inr f) ] ],
)

pub more_turned : (old new : List Bool) (o k : Op) (byte : ℕ) → o ≡ k → IsMore old new (Turns k byte) → IsMore old new (Turns o byte)
more_turned old new o k byte is h = subst (λ (x : Op). IsMore old new (Turns x byte)) (sym is) h

-- line breaks
pub breaks_yes : (old mid new : List Bool) (byte : ℕ) → is_line_end byte ≡ true → IsMore old mid (λ c. c ≡ byte) → IsMore mid new (Contains (codes "<br />")) → IsMore old new (Turns op.Breaks byte)
unfolding Turns
breaks_yes old mid new byte is h g = more_like old new (λ c. (c ≡ byte) ⊎ Contains (codes "<br />") c) (Turns op.Breaks byte)
    (λ c. (λ x. elim x [ inl e ↦ inl e | inr t ↦ inr (t, is) ], λ x. elim x [ inl e ↦ inl e | inr t ↦ inr t.0 ])) (more_two old mid new (λ c. c ≡ byte) (Contains (codes "<br />")) h g)

pub breaks_no : (old new : List Bool) (byte : ℕ) → is_line_end byte ≡ false → IsMore old new (λ c. c ≡ byte) → IsMore old new (Turns op.Breaks byte)
unfolding Turns
breaks_no old new byte is h = more_like old new (λ c. c ≡ byte) (Turns op.Breaks byte) (λ c. (λ e. inl e, λ x. elim x [ inl e ↦ e | inr t ↦ absurd (differ (sym is ∙ t.1)) ])) h
  where
    differ : false ≡ true → ⊥
    differ e = cc

-- what is made of the bytes of a set, byte by byte
abbrev pub IsTurnedBelow : Op → List Bool → ℕ → ℕ → Type 0
IsTurnedBelow o own n c = (b : ℕ) × (b < n) × (b < 256) × Has own b × Turns o b c

pub made_not : (set own : List Bool) (o : Op) (byte : ℕ) (has : Bool) → IsTrue has ↔ Has own byte → has ≡ false → IsMore set set (λ c. Has own byte × Turns o byte c)
made_not set own o byte has is e = more_nothing set (λ c. Has own byte × Turns o byte c) (λ c h. differ (sym e ∙ is.1 h.0))
  where
    differ : false ≡ true → ⊥
    differ e = cc

pub made_so : (old new own : List Bool) (o : Op) (byte : ℕ) (has : Bool) → IsTrue has ↔ Has own byte → has ≡ true → IsMore old new (Turns o byte) → IsMore old new (λ c. Has own byte × Turns o byte c)
made_so old new own o byte has is e h = more_like old new (Turns o byte) (λ c. Has own byte × Turns o byte c) (λ c. (λ t. (is.0 e, t), λ x. x.1)) h

pub turned_step : (old new own : List Bool) (o : Op) (n : ℕ) → n < 256 → ((c : ℕ) → c < 256 → Has old c ↔ IsTurnedBelow o own n c) → IsMore old new (λ c. Has own n × Turns o n c) → (c : ℕ) → c < 256 → Has new c ↔ IsTurnedBelow o own (n + 1) c
turned_step old new own o n small h g c lt = (
  λ x. elim ((g c lt).0 x) [
    | inl was ↦ (let y = (h c lt).0 was in (y.0, (let l = y.1 in omega arith), y.2, y.3, y.4))
    | inr now ↦ (n, omega arith, small, now.0, now.1)
  ],
  λ y. elim (cases_eq y.0 n) [
    | inl same ↦ (g c lt).1 (inr (subst (Has own) same y.3, subst (λ (b : ℕ). Turns o b c) same y.4))
    | inr other ↦ (g c lt).1 (inl ((h c lt).1 (y.0, (let l = y.1 in omega arith), y.2, y.3, y.4)))
  ],
)

pub turned_end : (set own : List Bool) (o : Op) (n : ℕ) → 256 ≤ n → ((c : ℕ) → c < 256 → Has set c ↔ IsTurnedBelow o own n c) → (c : ℕ) → c < 256 → Has set c ↔ IsTurned o own c
turned_end set own o n le h c lt = (
  λ x. (let y = (h c lt).0 x in (y.0, y.2, y.3, y.4)),
  λ y. (h c lt).1 (y.0, (let l = y.1 in omega arith), y.1, y.2, y.3),
)

pub turned_none : (own : List Bool) (o : Op) (c : ℕ) → c < 256 → Has no_bytes c ↔ IsTurnedBelow o own 0 c
turned_none own o c lt = (λ h. absurd (differ (sym (get_or-replicate 256 c false false lt) ∙ h)), λ y. absurd (let l = y.1 in omega arith))
  where
    differ : false ≡ true → ⊥
    differ e = cc

-- a copy has the same bytes
pub copied : (set copy : List Bool) → ((b : ℕ) → b < 256 → Has copy b ↔ (Has no_bytes b ⊎ Has set b)) → (b : ℕ) → b < 256 → Has copy b ↔ Has set b
copied set copy h b lt = (
  λ x. elim ((h b lt).0 x) [ inl none ↦ absurd (differ (sym (get_or-replicate 256 b false false lt) ∙ none)) | inr has ↦ has ],
  λ x. (h b lt).1 (inr x),
)
  where
    differ : false ≡ true → ⊥
    differ e = cc
