-- A system that is written for a table does what the rows of parts do, and nothing else.
use Rattle.std.proofs.Common.{◌≡◌, ℕ, true, false, List, [], ◌∷◌, Some, refl, sym, subst, ◌∙◌, ap, arith}
use Rattle.std.specs.Prelude.{slice_get}
use Rattle.text_base.specs.declared.byte_range.ByteRange.{ByteRange}
use Rattle.text_base.specs.declared.numbers.Nt as nt
use Rattle.text_base.specs.ByteRange.{InRange}
use Rattle.cfg_grammar.specs.declared.symbol.Symbol.{Symbol}
use Rattle.cfg_grammar.specs.declared.symbol.Symbol.TheVariants.{Range, Nt}
use Rattle.cfg_grammar.specs.declared.production.Right.TheVariants.{Empty, One, Two}
use Rattle.cfg_grammar.specs.declared.production.Production.{Production}
use Rattle.op_system.specs.declared.op.Op.{Op}
use Rattle.op_system.specs.declared.system.OpRule.{OpRule}
use Rattle.least_sets.specs.Forms.{Form, text_form, same_form, join_form, apply_form}
use Rattle.least_sets.specs.Simulations.{TakesOver, Holds, Alike, is_same, HasRow, Simulates}
use Rattle.least_sets.specs.Systems.{SystemRow}
use Rattle.system_writing.specs.Parts.{Part, set_part, end_part, range_part, closed_part, is_set, PartRow}
use Rattle.given_texts.specs.Closed.{Closed}
use Rattle.system_writing.specs.Written.{Denotes, IsRight, IsWritten}

some_same : {A : Type 0} {a b : A} → Some a ≡ Some b → a ≡ b
some_same k = cc

module _ (N : Type 0) (cells : N → Form N → Type 0) (starts says : N → Type 0) (closed : Closed) (parts : List (Part N)) (productions : List Production) (rules : List OpRule) (written : IsWritten (PartRow cells starts says closed) parts productions rules) where
  abbrev S : Symbol → Form Symbol → Type 0
  S = SystemRow productions rules

  abbrev P : Part N → Form (Part N) → Type 0
  P = PartRow cells starts says closed

  abbrev D : Part N → Symbol → Type 0
  D = Denotes parts

  in_range : (r : ByteRange) (b : ℕ) → r.lo ≡ b → r.hi ≡ b → InRange r b
  in_range r b lo hi = (omega (arith, lo), omega (arith, hi))

  of_byte : (r : ByteRange) (b c : ℕ) → r.lo ≡ b → r.hi ≡ b → InRange r c → c ≡ b
  of_byte r b c lo hi within = omega (arith, within, lo, hi)

  held : (p : Part N) (s : Symbol) → D p s → Holds S D p s
  held p s d = record { within = s; takes = TakesOver.itself s; stands = d }

  -- a listed part
  same_listed : (p c : Part N) (n : nt.Nt) → slice_get parts n.0 ≡ Some p → P p (same_form c) → Holds S D c (Nt n)
  same_listed p c n at row =
      let h = written.all_same p c n at row in
      record { within = h.0; takes = TakesOver.through (Nt n) h.0 h.0 (SystemRow.of_one n h.0 h.2) (TakesOver.itself h.0); stands = h.1 }

  empty_listed : (p : Part N) (n : nt.Nt) → slice_get parts n.0 ≡ Some p → P p (text_form []) → HasRow S D (text_form []) (Nt n)
  empty_listed p n at row = record { form = text_form []; row = SystemRow.of_empty n (written.all_empty p n at row); alike = Alike.text [] }

  two_listed : (p q r : Part N) (n : nt.Nt) → slice_get parts n.0 ≡ Some p → P p (join_form q r) → HasRow S D (join_form q r) (Nt n)
  two_listed p q r n at row =
      let h = written.all_join p q r n at row in
      record { form = join_form h.0 h.1; row = SystemRow.of_two n h.0 h.1 h.4; alike = Alike.join q r h.0 h.1 (held q h.0 h.2) (held r h.1 h.3) }

  other_listed : (p : Part N) (f : Form (Part N)) (n : nt.Nt) → slice_get parts n.0 ≡ Some p → P p f → is_same f ≡ false → HasRow S D f (Nt n)
  unfolding is_same
  other_listed _ _ n at (PartRow.start k c) not_same = cc
  other_listed _ _ n at (PartRow.nothing k c) not_same = empty_listed (set_part k) n at (PartRow.nothing k c)
  other_listed _ _ n at (PartRow.text k b w c) not_same = cc
  other_listed _ _ n at (PartRow.same k j c) not_same = cc
  other_listed _ _ n at (PartRow.join k i j c) not_same = two_listed (set_part k) (set_part i) (set_part j) n at (PartRow.join k i j c)
  other_listed _ _ n at (PartRow.before_nothing k j c) not_same = cc
  other_listed _ _ n at (PartRow.before k b j w c) not_same = two_listed (set_part k) (end_part (b ∷ w)) (set_part j) n at (PartRow.before k b j w c)
  other_listed _ _ n at (PartRow.asked k c) not_same = cc
  other_listed _ _ n at (PartRow.integer k c) not_same = cc
  other_listed _ _ n at (PartRow.apply k j op c) not_same =
      let h = written.all_apply (set_part k) (set_part j) op n at (PartRow.apply k j op c) in
      record { form = apply_form op (Nt h.0); row = SystemRow.of_rule n h.0 op h.2; alike = Alike.apply op (set_part j) (Nt h.0) (held (set_part j) (Nt h.0) (Denotes.listed (set_part j) h.0 h.1)) }
  other_listed _ _ n at (PartRow.where_nothing k j c says) not_same = empty_listed (set_part k) n at (PartRow.where_nothing k j c says)
  other_listed _ _ n at (PartRow.where_yes k b j w c says) not_same = cc
  other_listed _ _ n at (PartRow.last b) not_same = absurd (written.no_byte b n.0 at)
  other_listed _ _ n at (PartRow.first b c w) not_same = two_listed (end_part (b ∷ c ∷ w)) (end_part (b ∷ [])) (end_part (c ∷ w)) n at (PartRow.first b c w)
  other_listed _ _ n at (PartRow.range r b within) not_same = absurd (written.no_range r n.0 at)
  other_listed _ _ n at (PartRow.closed_empty left has) not_same = empty_listed (closed_part left.0) n at (PartRow.closed_empty left has)
  other_listed _ _ n at (PartRow.closed_one left a has) not_same = cc
  other_listed _ _ n at (PartRow.closed_two left a b has) not_same = two_listed (closed_part left.0) _ _ n at (PartRow.closed_two left a b has)

  ranged : (r : ByteRange) (f : Form (Part N)) → P (range_part r) f → HasRow S D f (Range r)
  ranged r _ (PartRow.range _ b within) = record { form = text_form (b ∷ []); row = SystemRow.of_range r b within; alike = Alike.text (b ∷ []) }

  of_last : (b : ℕ) (r : ByteRange) → r.lo ≡ b → r.hi ≡ b → (f : Form (Part N)) → P (end_part (b ∷ [])) f → HasRow S D f (Range r)
  of_last b r lo hi _ (PartRow.last _) = record { form = text_form (b ∷ []); row = SystemRow.of_range r b (in_range r b lo hi); alike = Alike.text (b ∷ []) }

  -- a range and a byte take over nothing
  same_ranged : (r : ByteRange) (c : Part N) → P (range_part r) (same_form c) → Holds S D c (Range r)
  same_ranged r c row = elim row [ ]

  same_last : (b : ℕ) (r : ByteRange) (c : Part N) → P (end_part (b ∷ [])) (same_form c) → Holds S D c (Range r)
  same_last b r c row = elim row [ ]

  set_is : (i : N) → is_set (set_part i) ≡ true
  unfolding is_set
  set_is i = refl

  one_rule : (k n m : nt.Nt) (p : Part N) → slice_get parts n.0 ≡ Some p → slice_get parts m.0 ≡ Some p → (c : Part N) (op : Op) → P p (apply_form op c) → Nt n ≡ Nt m
  one_rule k n m _ e g _ op (PartRow.apply i j _ h) = ap (λ z. Nt (record { 0 = z })) (written.once (set_part i) n.0 m.0 (set_is i) e g)

  pub system_does : Simulates P S D
  system_does = record { same = same; other = other; one = one }
    where
      same : (a c : Part N) (b : Symbol) → D a b → P a (same_form c) → Holds S D c b
      same _ c _ (Denotes.listed p n at) row = same_listed p c n at row
      same _ c _ (Denotes.range r) row = same_ranged r c row
      same _ c _ (Denotes.byte b r lo hi) row = same_last b r c row

      other : (a : Part N) (f : Form (Part N)) (b : Symbol) → D a b → P a f → is_same f ≡ false → HasRow S D f b
      other _ f _ (Denotes.listed p n at) row not_same = other_listed p f n at row not_same
      other _ f _ (Denotes.range r) row not_same = ranged r f row
      other _ f _ (Denotes.byte b r lo hi) row not_same = of_last b r lo hi f row

      one : (a c : Part N) (op : Op) (b d : Symbol) → P a (apply_form op c) → D a b → D a d → b ≡ d
      one a c op _ _ row (Denotes.listed _ n e) (Denotes.listed _ m g) = one_rule n n m a e g c op row
      one _ c op _ _ row (Denotes.listed _ n e) (Denotes.range r) = elim row [ ]
      one _ c op _ _ row (Denotes.listed _ n e) (Denotes.byte b r lo hi) = elim row [ ]
      one _ c op _ d row (Denotes.range r) other = elim row [ ]
      one _ c op _ d row (Denotes.byte b r lo hi) other = elim row [ ]

  abbrev B : Symbol → Part N → Type 0
  B s p = D p s

  -- what is listed at the number of a left side
  at_left : (p q : Part N) (n : nt.Nt) → D p (Nt n) → slice_get parts n.0 ≡ Some q → p ≡ q
  at_left _ q _ (Denotes.listed p n e) g = some_same (sym e ∙ g)

  right_empty : (f : Form (Part N)) → IsRight parts f Empty → f ≡ text_form []
  right_empty _ IsRight.empty = refl

  right_one : (f : Form (Part N)) (s : Symbol) → IsRight parts f (One s) → (q : Part N) × (f ≡ same_form q) × D q s
  right_one _ _ (IsRight.one q s d) = (q, refl, d)

  right_two : (f : Form (Part N)) (s t : Symbol) → IsRight parts f (Two s t) → (q : Part N) × (r : Part N) × (f ≡ join_form q r) × D q s × D r t
  right_two _ _ _ (IsRight.two q r s t d e) = (q, r, refl, d, e)

  back : (s : Symbol) (p : Part N) → D p s → Holds P B s p
  back s p d = record { within = p; takes = TakesOver.itself p; stands = d }

  pub parts_do : Simulates S P B
  unfolding is_same
  parts_do = record { same = same; other = other; one = one }
    where
      same : (a c : Symbol) (b : Part N) → B a b → S a (same_form c) → Holds P B c b
      same _ _ b d (SystemRow.of_one n s has) =
          let h = written.each_production n (One s) has in
          let i = right_one h.1 s h.4 in
          let e : b ≡ h.0 = at_left b h.0 n d h.2 in
          record { within = i.0; takes = TakesOver.through b i.0 i.0 (subst (λ z. P z (same_form i.0)) (sym e) (subst (λ z. P h.0 z) i.1 h.3)) (TakesOver.itself i.0); stands = i.2 }

      ranged_back : (r : ByteRange) (b : ℕ) → InRange r b → (p : Part N) → D p (Range r) → HasRow P B (text_form (b ∷ [])) p
      ranged_back r b within _ (Denotes.range _) = record { form = text_form (b ∷ []); row = PartRow.range r b within; alike = Alike.text (b ∷ []) }
      ranged_back r b within _ (Denotes.byte c _ lo hi) =
          let e : b ≡ c = of_byte r c b lo hi within in
          record { form = text_form (b ∷ []); row = subst (λ z. P (end_part (c ∷ [])) (text_form (z ∷ []))) (sym e) (PartRow.last c); alike = Alike.text (b ∷ []) }

      other : (a : Symbol) (f : Form Symbol) (b : Part N) → B a b → S a f → is_same f ≡ false → HasRow P B f b
      other _ _ b d (SystemRow.of_range r x within) not_same = ranged_back r x within b d
      other _ _ b d (SystemRow.of_empty n has) not_same =
          let h = written.each_production n Empty has in
          record { form = text_form []; row = subst (λ z. P z (text_form [])) (sym (at_left b h.0 n d h.2)) (subst (λ z. P h.0 z) (right_empty h.1 h.4) h.3); alike = Alike.text [] }
      other _ _ b d (SystemRow.of_one n s has) not_same = cc
      other _ _ b d (SystemRow.of_two n s t has) not_same =
          let h = written.each_production n (Two s t) has in
          let i = right_two h.1 s t h.4 in
          record {
            form = join_form i.0 i.1;
            row = subst (λ z. P z (join_form i.0 i.1)) (sym (at_left b h.0 n d h.2)) (subst (λ z. P h.0 z) i.2 h.3);
            alike = Alike.join s t i.0 i.1 (back s i.0 i.3) (back t i.1 i.4);
          }
      other _ _ b d (SystemRow.of_rule n m op has) not_same =
          let h = written.each_rule n m op has in
          record {
            form = apply_form op h.1;
            row = subst (λ z. P z (apply_form op h.1)) (sym (at_left b h.0 n d h.2)) h.4;
            alike = Alike.apply op (Nt m) h.1 (back (Nt m) h.1 (Denotes.listed h.1 m h.3));
          }

      one : (a c : Symbol) (op : Op) (b d : Part N) → S a (apply_form op c) → B a b → B a d → b ≡ d
      one _ _ op b d (SystemRow.of_rule n m _ has) first second =
          let h = written.each_rule n m op has in
          at_left b h.0 n first h.2 ∙ sym (at_left d h.0 n second h.2)
