-- Sets that gain bytes.
use Rattle.std.proofs.Common.{◌≡◌, ◌<◌, ◌≤◌, ◌+◌, ℕ, Bool, true, false, List, [], ◌∷◌, length, set, get_or, Some, slice_get, Contains, inl, inr, refl, sym, ◌∙◌, ap, subst, arith, length-set}
use Rattle.std.specs.Prelude.{◌⊎◌, ◌↔◌}
use Rattle.std.specs.List.{All}
use Rattle.std.proofs.lemmas.Bool.{cases_eq}
use Rattle.std.proofs.lemmas.List.{get_or-replicate}
use Rattle.std.proofs.lemmas.List.Elements.{All-contains}
use Rattle.std.proofs.lemmas.Option.{slice_get_read, slice_get_within, same_Some}
use Rattle.text_base.specs.declared.byte_range.ByteRange.{ByteRange}
use Rattle.text_base.specs.declared.numbers.Nt as nt
use Rattle.text_base.specs.ByteSet.{Has, no_bytes}
use Rattle.text_base.specs.ByteRange.{InRange}
use Rattle.numbered_sets.proofs.PlaceLemmas.{slice_get-set_other, slice_get-set_same}
use Rattle.cfg_grammar.specs.declared.symbol.Symbol.{Symbol}
use Rattle.cfg_grammar.specs.declared.symbol.Symbol.TheVariants.{Range, Token, Nt}
use Rattle.cfg_grammar.specs.declared.production.Right.{Right}
use Rattle.cfg_grammar.specs.declared.production.Right.TheVariants.{Empty, One, Two}
use Rattle.cfg_grammar.specs.declared.production.Production.{Production}
use Rattle.cfg_grammar.specs.Below.{symbols_of}
use Rattle.op_system.specs.declared.system.OpRule.{OpRule}
use Rattle.op_system.specs.declared.system.OpSystem.{OpSystem}
use Rattle.least_sets.specs.Bytes.{Adds}
use Rattle.least_sets.specs.Sets.{Byte}
use Rattle.least_sets.specs.Systems.{SystemRow}
use Rattle.op_bytes.specs.Work.{HasAt, Gains, HasRange, HasLiteral, AreFirstSets}
use Rattle.op_bytes.proofs.ListLemmas.{one_of, none_in, only_in, first_in, placed, contained}

pub gains_same : (sets : List (List Bool)) (P : ℕ → ℕ → Type 0) → ((a b : ℕ) → b < 256 → P a b → HasAt sets a b) → Gains sets P sets
gains_same sets P h = record { long = refl; more = λ a b x. x; only = λ a b x. inl x; has = h }

pub gains_two : (old mid new : List (List Bool)) (P Q R : ℕ → ℕ → Type 0) → ((a b : ℕ) → R a b ↔ (P a b ⊎ Q a b)) → Gains old P mid → Gains mid Q new → Gains old R new
gains_two old mid new P Q R is p q = record {
  long = q.long ∙ p.long;
  more = λ a b h. q.more a b (p.more a b h);
  only = λ a b h. elim (q.only a b h) [ inl m ↦ elim (p.only a b m) [ inl o ↦ inl o | inr x ↦ inr ((is a b).1 (inl x)) ] | inr x ↦ inr ((is a b).1 (inr x)) ];
  has = λ a b lt h. elim ((is a b).0 h) [ inl x ↦ q.more a b (p.has a b lt x) | inr x ↦ q.has a b lt x ];
}

pub gains_like : (old new : List (List Bool)) (P Q : ℕ → ℕ → Type 0) → ((a b : ℕ) → P a b ↔ Q a b) → Gains old P new → Gains old Q new
gains_like old new P Q is p = record {
  long = p.long;
  more = p.more;
  only = λ a b h. elim (p.only a b h) [ inl o ↦ inl o | inr x ↦ inr ((is a b).0 x) ];
  has = λ a b lt h. p.has a b lt ((is a b).1 h);
}

-- one set gains bytes
pub gains_at : (sets : List (List Bool)) (i : ℕ) (was now : List Bool) (E : ℕ → Type 0) → i < length sets → was ≡ get_or sets i was → ((c : ℕ) → c < 256 → Has now c ↔ (Has was c ⊎ E c)) → Gains sets (λ a b. (a ≡ i) × E b) (set sets i now)
gains_at sets i was now E lt is h = record {
  long = length-set sets i now;
  more = λ a b x. elim (cases_eq a i) [
    | inl same ↦
        let own : x.set ≡ was = same_Some x.set was (sym x.is ∙ (ap (slice_get sets) same ∙ here)) in
        record { below = x.below; set = now; is = ap (slice_get (set sets i now)) same ∙ there; has = (h b x.below).1 (inl (subst (λ (z : List Bool). Has z b) own x.has)) }
    | inr other ↦ record { below = x.below; set = x.set; is = slice_get-set_other sets i a now other ∙ x.is; has = x.has }
  ];
  only = λ a b x. elim (cases_eq a i) [
    | inl same ↦
        let own : x.set ≡ now = same_Some x.set now (sym x.is ∙ (ap (slice_get (set sets i now)) same ∙ there)) in
        elim ((h b x.below).0 (subst (λ (z : List Bool). Has z b) own x.has)) [
          | inl old ↦ inl (record { below = x.below; set = was; is = ap (slice_get sets) same ∙ here; has = old })
          | inr new ↦ inr (same, new)
        ]
    | inr other ↦ inl (record { below = x.below; set = x.set; is = sym (slice_get-set_other sets i a now other) ∙ x.is; has = x.has })
  ];
  has = λ a b below x. record { below = below; set = now; is = ap (slice_get (set sets i now)) x.0 ∙ there; has = (h b below).1 (inr x.1) };
}
  where
    here : slice_get sets i ≡ Some was
    here = slice_get_read sets (length sets) i was refl lt is

    there : slice_get (set sets i now) i ≡ Some now
    there = slice_get-set_same sets i now lt

-- the bytes of a symbol that is a range
abbrev pub RangeOf : ℕ → Symbol → ℕ → ℕ → Type 0
RangeOf left symbol a b = (a ≡ left) × ((range : ByteRange) × (symbol ≡ Range range) × InRange range b)

abbrev pub RangeOn : ℕ → Right → ℕ → ℕ → Type 0
RangeOn left right a b = (a ≡ left) × ((range : ByteRange) × Contains (symbols_of right) (Range range) × InRange range b)

pub range_gains : (old new : List (List Bool)) (left : ℕ) (symbol : Symbol) (range : ByteRange) → symbol ≡ Range range → Gains old (λ a b. (a ≡ left) × InRange range b) new → Gains old (RangeOf left symbol) new
range_gains old new left symbol range is g = gains_like old new (λ a b. (a ≡ left) × InRange range b) (RangeOf left symbol)
    (λ a b. (λ h. (h.0, (range, is, h.1)), λ h. (h.0, subst (λ (r : ByteRange). InRange r b) (same_range h.1.0 range (sym h.1.1 ∙ is)) h.1.2))) g
  where
    same_range : (r q : ByteRange) → Range r ≡ Range q → r ≡ q
    same_range r q e = cc

pub other_gains : (sets : List (List Bool)) (left : ℕ) (symbol : Symbol) → ((range : ByteRange) → symbol ≡ Range range → ⊥) → Gains sets (RangeOf left symbol) sets
other_gains sets left symbol never = gains_same sets (RangeOf left symbol) (λ a b lt h. absurd (never h.1.0 h.1.1))

pub token_no : (symbol : Symbol) (t : Rattle.text_base.specs.declared.page_token.PageToken.PageToken) → symbol ≡ Token t → (r : ByteRange) → symbol ≡ Range r → ⊥
token_no symbol t e r f = cc

pub nt_no : (symbol : Symbol) (a : nt.Nt) → symbol ≡ Nt a → (r : ByteRange) → symbol ≡ Range r → ⊥
nt_no symbol a e r f = cc

pub empty_gains : (sets : List (List Bool)) (left : ℕ) (right : Right) → right ≡ Empty → Gains sets (RangeOn left right) sets
empty_gains sets left right is = gains_same sets (RangeOn left right) (λ a b lt h. none_in (Range h.1.0) (subst (λ (r : Right). Contains (symbols_of r) (Range h.1.0)) is h.1.1))

pub one_gains : (old new : List (List Bool)) (left : ℕ) (right : Right) (s : Symbol) → right ≡ One s → Gains old (RangeOf left s) new → Gains old (RangeOn left right) new
one_gains old new left right s is g = subst (λ (r : Right). Gains old (RangeOn left r) new) (sym is) (gains_like old new (RangeOf left s) (RangeOn left (One s))
    (λ a b. (λ h. (h.0, (h.1.0, (0, omega arith, h.1.1), h.1.2)), λ h. (h.0, (h.1.0, only_in s (Range h.1.0) h.1.1, h.1.2)))) g)

pub two_gains : (old mid new : List (List Bool)) (left : ℕ) (right : Right) (s t : Symbol) → right ≡ Two s t → Gains old (RangeOf left s) mid → Gains mid (RangeOf left t) new → Gains old (RangeOn left right) new
two_gains old mid new left right s t is g h = subst (λ (r : Right). Gains old (RangeOn left r) new) (sym is) (gains_two old mid new (RangeOf left s) (RangeOf left t) (RangeOn left (Two s t)) split g h)
  where
    split : (a b : ℕ) → RangeOn left (Two s t) a b ↔ (RangeOf left s a b ⊎ RangeOf left t a b)
    split a b = (
      λ x. elim (one_of s (t ∷ []) (Range x.1.0) x.1.1) [
        | inl same ↦ inl (x.0, (x.1.0, same, x.1.2))
        | inr more ↦ inr (x.0, (x.1.0, only_in t (Range x.1.0) more, x.1.2))
      ],
      λ x. elim x [ inl y ↦ (y.0, (y.1.0, (0, omega arith, y.1.1), y.1.2)) | inr y ↦ (y.0, (y.1.0, (1, omega arith, y.1.1), y.1.2)) ],
    )

-- one production more
pub ranges_none : (sets : List (List Bool)) (ps : List Production) → Gains sets (HasRange ps 0) sets
ranges_none sets ps = gains_same sets (HasRange ps 0) (λ a b lt h. absurd (let l = h.before in omega arith))

pub ranges_more : (old mid new : List (List Bool)) (ps : List Production) (n : ℕ) (p : Production) → slice_get ps n ≡ Some p → Gains old (HasRange ps n) mid → Gains mid (RangeOn p.left.0 p.right) new → Gains old (HasRange ps (n + 1)) new
ranges_more old mid new ps n p at g h = gains_two old mid new (HasRange ps n) (RangeOn p.left.0 p.right) (HasRange ps (n + 1)) split g h
  where
    split : (a b : ℕ) → HasRange ps (n + 1) a b ↔ (HasRange ps n a b ⊎ RangeOn p.left.0 p.right a b)
    split a b = (
      λ x. elim (cases_eq x.place n) [
        | inl same ↦
            let own : x.production ≡ p = same_Some x.production p (sym x.is ∙ (ap (slice_get ps) same ∙ at)) in
            inr (x.left ∙ ap (λ (y : Production). y.left.0) own, (x.range, subst (λ (y : Production). Contains (symbols_of y.right) (Range x.range)) own x.on, x.within))
        | inr other ↦ inl (record { place = x.place; before = (let l = x.before in omega arith); production = x.production; is = x.is; left = x.left; range = x.range; on = x.on; within = x.within })
      ],
      λ x. elim x [
        | inl y ↦ record { place = y.place; before = (let l = y.before in omega arith); production = y.production; is = y.is; left = y.left; range = y.range; on = y.on; within = y.within }
        | inr y ↦ record { place = n; before = omega arith; production = p; is = at; left = y.0; range = y.1.0; on = y.1.1; within = y.1.2 }
      ],
    )

pub ranges_all : (old new : List (List Bool)) (ps : List Production) (n : ℕ) → length ps ≤ n → Gains old (HasRange ps n) new → Gains old (HasRange ps (length ps)) new
ranges_all old new ps n le g = gains_like old new (HasRange ps n) (HasRange ps (length ps)) (λ a b. (
  λ y. record { place = y.place; before = slice_get_within ps y.place y.production y.is; production = y.production; is = y.is; left = y.left; range = y.range; on = y.on; within = y.within },
  λ y. record { place = y.place; before = (let l = y.before in omega arith); production = y.production; is = y.is; left = y.left; range = y.range; on = y.on; within = y.within },
)) g

-- one rule more
pub literals_none : (sets : List (List Bool)) (rs : List OpRule) → Gains sets (HasLiteral rs 0) sets
literals_none sets rs = gains_same sets (HasLiteral rs 0) (λ a b lt h. absurd (let l = h.before in omega arith))

pub literals_more : (old mid new : List (List Bool)) (rs : List OpRule) (n : ℕ) (r : OpRule) → slice_get rs n ≡ Some r → Gains old (HasLiteral rs n) mid → Gains mid (λ a b. (a ≡ r.left.0) × Adds r.op b) new → Gains old (HasLiteral rs (n + 1)) new
literals_more old mid new rs n r at g h = gains_two old mid new (HasLiteral rs n) (λ a b. (a ≡ r.left.0) × Adds r.op b) (HasLiteral rs (n + 1)) split g h
  where
    split : (a b : ℕ) → HasLiteral rs (n + 1) a b ↔ (HasLiteral rs n a b ⊎ ((a ≡ r.left.0) × Adds r.op b))
    split a b = (
      λ x. elim (cases_eq x.place n) [
        | inl same ↦
            let own : x.rule ≡ r = same_Some x.rule r (sym x.is ∙ (ap (slice_get rs) same ∙ at)) in
            inr (x.left ∙ ap (λ (y : OpRule). y.left.0) own, subst (λ (y : OpRule). Adds y.op b) own x.adds)
        | inr other ↦ inl (record { place = x.place; before = (let l = x.before in omega arith); rule = x.rule; is = x.is; left = x.left; adds = x.adds })
      ],
      λ x. elim x [
        | inl y ↦ record { place = y.place; before = (let l = y.before in omega arith); rule = y.rule; is = y.is; left = y.left; adds = y.adds }
        | inr y ↦ record { place = n; before = omega arith; rule = r; is = at; left = y.0; adds = y.1 }
      ],
    )

pub literals_all : (old new : List (List Bool)) (rs : List OpRule) (n : ℕ) → length rs ≤ n → Gains old (HasLiteral rs n) new → Gains old (HasLiteral rs (length rs)) new
literals_all old new rs n le g = gains_like old new (HasLiteral rs n) (HasLiteral rs (length rs)) (λ a b. (
  λ y. record { place = y.place; before = slice_get_within rs y.place y.rule y.is; rule = y.rule; is = y.is; left = y.left; adds = y.adds },
  λ y. record { place = y.place; before = (let l = y.before in omega arith); rule = y.rule; is = y.is; left = y.left; adds = y.adds },
)) g

-- the bytes that stand in the system
pub nothing_at : (sets : List (List Bool)) → All (λ (x : List Bool). x ≡ no_bytes) sets → (a b : ℕ) → HasAt sets a b → ⊥
nothing_at sets none a b h =
    let e : h.set ≡ no_bytes = All-contains (λ (x : List Bool). x ≡ no_bytes) sets h.set none (contained sets a h.set h.is) in
    empty b h.below (subst (λ (x : List Bool). Has x b) e h.has)
  where
    false_true : false ≡ true → ⊥
    false_true e = cc

    empty : (b : ℕ) → b < 256 → Has no_bytes b → ⊥
    empty b lt has = false_true (sym (get_or-replicate 256 b false false lt) ∙ has)

pub first_sets_are : (s : OpSystem) (none mid sets : List (List Bool)) → length none ≡ s.grammar.count → All (λ (x : List Bool). x ≡ no_bytes) none
    → Gains none (HasRange s.grammar.productions.items (length s.grammar.productions.items)) mid → Gains mid (HasLiteral s.ops.items (length s.ops.items)) sets → AreFirstSets s sets
first_sets_are s none mid sets len empty g h = record {
  size = h.long ∙ (g.long ∙ len);
  sound = λ a b x. elim (h.only a b x) [
    | inl m ↦ elim (g.only a b m) [
      | inl o ↦ absurd (nothing_at none empty a b o)
      | inr r ↦ of_range a b r
    ]
    | inr l ↦ subst (λ (n : nt.Nt). Byte (SystemRow s.grammar.productions.items s.ops.items) (λ w. ⊥) (Nt n) b) (ap (λ (n : ℕ). let z : nt.Nt = record { 0 = n } in z) (sym l.left))
        (Byte.added (Nt l.rule.left) (Nt l.rule.operand) l.rule.op b (SystemRow.of_rule l.rule.left l.rule.operand l.rule.op (contained s.ops.items l.place l.rule l.is)) l.adds)
  ];
  ranges = λ p range b has on within lt. h.more p.left.0 b (g.has p.left.0 b lt (let at = placed s.grammar.productions.items p has in record { place = at.0; before = slice_get_within s.grammar.productions.items at.0 p at.1; production = p; is = at.1; left = refl; range = range; on = on; within = within }));
  literals = λ rule b has adds lt. h.has rule.left.0 b lt (let at = placed s.ops.items rule has in record { place = at.0; before = slice_get_within s.ops.items at.0 rule at.1; rule = rule; is = at.1; left = refl; adds = adds });
}
  where
    of_itself : (range : ByteRange) (b : ℕ) → InRange range b → Byte (SystemRow s.grammar.productions.items s.ops.items) (λ w. ⊥) (Range range) b
    of_itself range b within = Byte.text (Range range) (b ∷ []) b (SystemRow.of_range range b within) (first_in b [])

    by_right : (left : nt.Nt) (right : Right) (range : ByteRange) (b : ℕ) → Contains s.grammar.productions.items (record { left = left; right = right }) → Contains (symbols_of right) (Range range) → InRange range b → Byte (SystemRow s.grammar.productions.items s.ops.items) (λ w. ⊥) (Nt left) b
    by_right left Empty range b has on within = none_in (Range range) on
    by_right left (One x) range b has on within = Byte.same (Nt left) x b (SystemRow.of_one left x has) (subst (λ (z : Symbol). Byte (SystemRow s.grammar.productions.items s.ops.items) (λ w. ⊥) z b) (sym (only_in x (Range range) on)) (of_itself range b within))
    by_right left (Two x y) range b has on within = elim (one_of x (y ∷ []) (Range range) on) [
      | inl same ↦ Byte.first (Nt left) x y b (SystemRow.of_two left x y has) (subst (λ (z : Symbol). Byte (SystemRow s.grammar.productions.items s.ops.items) (λ w. ⊥) z b) (sym same) (of_itself range b within))
      | inr more ↦ Byte.second (Nt left) x y b (SystemRow.of_two left x y has) (subst (λ (z : Symbol). Byte (SystemRow s.grammar.productions.items s.ops.items) (λ w. ⊥) z b) (sym (only_in y (Range range) more)) (of_itself range b within))
    ]

    of_range : (a b : ℕ) → HasRange s.grammar.productions.items (length s.grammar.productions.items) a b → Byte (SystemRow s.grammar.productions.items s.ops.items) (λ w. ⊥) (Nt (record { 0 = a })) b
    of_range a b r = subst (λ (n : nt.Nt). Byte (SystemRow s.grammar.productions.items s.ops.items) (λ w. ⊥) (Nt n) b) (ap (λ (n : ℕ). let z : nt.Nt = record { 0 = n } in z) (sym r.left))
        (by_right r.production.left r.production.right r.range b (contained s.grammar.productions.items r.place r.production r.is) r.on r.within)
