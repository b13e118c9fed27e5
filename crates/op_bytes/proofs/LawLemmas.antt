-- The bytes of texts.
use Rattle.std.proofs.Common.{◌≡◌, ◌<◌, ℕ, List, [], ◌∷◌, Contains, inl, inr, refl, sym, ◌∙◌, subst, arith}
use Rattle.std.proofs.lemmas.List.Elements.{Contains-append_cases, All-contains}
use Rattle.text_base.specs.declared.byte_range.ByteRange.{ByteRange}
use Rattle.text_base.specs.declared.page_token.PageToken.{PageToken}
use Rattle.text_base.specs.declared.numbers.Nt as nt
use Rattle.text_base.specs.ByteRange.{InRange}
use Rattle.cfg_grammar.specs.declared.symbol.Symbol.{Symbol}
use Rattle.cfg_grammar.specs.declared.symbol.Symbol.TheVariants.{Range, Token, Nt}
use Rattle.cfg_grammar.specs.declared.production.Right.TheVariants.{One, Two}
use Rattle.cfg_grammar.specs.declared.production.Production.{Production}
use Rattle.cfg_grammar.specs.Below.{symbols_of}
use Rattle.op_system.specs.declared.op.Op.{Op}
use Rattle.op_system.specs.declared.system.OpSystem.{OpSystem}
use Rattle.least_sets.specs.Forms.{text_form, same_form, join_form, before_form, request_form, integer_form, apply_form, where_form}
use Rattle.least_sets.specs.Bytes.{Adds}
use Rattle.least_sets.specs.Sets.{In, Byte}
use Rattle.least_sets.proofs.OutputBytes.{output_byte}
use Rattle.least_sets.specs.Systems.{SystemRow}
use Rattle.op_bytes.specs.Texts.{RowOf, TextOf, ByteOf}
use Rattle.op_bytes.specs.SystemBytes.{HasBytes}
use Rattle.op_bytes.proofs.BelowLemmas.{turns_below}
use Rattle.op_bytes.proofs.ListLemmas.{only_in, none_in, first_in, later_in}

module _ (s : OpSystem) where
  -- no row of a system asks for a request, puts a text before others, or takes integers or a set that says yes
  pub no_before : (a c : Symbol) (w : List ℕ) → RowOf s a (before_form w c) → ⊥
  no_before a c w r = elim r [ ]

  pub no_asked : (a : Symbol) → RowOf s a request_form → ⊥
  no_asked a r = elim r [ ]

  pub no_integer : (a : Symbol) → RowOf s a integer_form → ⊥
  no_integer a r = elim r [ ]

  pub no_where : (a c : Symbol) (w : List ℕ) → RowOf s a (where_form w c) → ⊥
  no_where a c w r = elim r [ ]

  -- what stands behind a row of a nonterminal
  pub same_row : (c d : Symbol) → RowOf s c (same_form d) → (left : nt.Nt) × (c ≡ Nt left) × Contains s.grammar.productions.items (record { left = left; right = One d })
  same_row _ _ (SystemRow.of_one left d among) = (left, refl, among)

  pub join_row : (c d e : Symbol) → RowOf s c (join_form d e) → (left : nt.Nt) × (c ≡ Nt left) × Contains s.grammar.productions.items (record { left = left; right = Two d e })
  join_row _ _ _ (SystemRow.of_two left d e among) = (left, refl, among)

  pub rule_row : (c d : Symbol) (op : Op) → RowOf s c (apply_form op d) → (left : nt.Nt) × (operand : nt.Nt) × (c ≡ Nt left) × (d ≡ Nt operand) × Contains s.ops.items (record { left = left; op = op; operand = operand })
  rule_row _ _ _ (SystemRow.of_rule left operand op among) = (left, operand, refl, refl, among)

  nt_range : (a : nt.Nt) (r : ByteRange) → Nt a ≡ Range r → ⊥
  nt_range a r e = cc

  same_range : (r q : ByteRange) → Range r ≡ Range q → r ≡ q
  same_range r q e = cc

  pub nothing_row : (c : Symbol) (w : List ℕ) → RowOf s c (text_form w) → (a : nt.Nt) → c ≡ Nt a → w ≡ []
  nothing_row _ _ (SystemRow.of_range r b within) a e = absurd (nt_range a r (sym e))
  nothing_row _ _ (SystemRow.of_empty left among) a e = refl

  -- a range has its bytes
  pub range_byte : (c : Symbol) (b : ℕ) → ByteOf s c b → (r : ByteRange) → c ≡ Range r → InRange r b
  range_byte c b (Byte.text _ w _ row h) r e = so c w row h e
    where
      so : (c : Symbol) (w : List ℕ) → RowOf s c (text_form w) → Contains w b → c ≡ Range r → InRange r b
      so _ _ (SystemRow.of_range q x within) h e = subst (λ (z : ByteRange). InRange z b) (same_range q r e) (subst (InRange q) (only_in x b h) within)
      so _ _ (SystemRow.of_empty left among) h e = none_in b h
  range_byte c b (Byte.same _ d _ row h) r e = let x = same_row c d row in absurd (nt_range x.0 r (sym x.1 ∙ e))
  range_byte c b (Byte.first _ d f _ row h) r e = let x = join_row c d f row in absurd (nt_range x.0 r (sym x.1 ∙ e))
  range_byte c b (Byte.second _ d f _ row h) r e = let x = join_row c d f row in absurd (nt_range x.0 r (sym x.1 ∙ e))
  range_byte c b (Byte.prefix _ d w _ row h) r e = absurd (no_before c d w row)
  range_byte c b (Byte.behind _ d w _ row h) r e = absurd (no_before c d w row)
  range_byte c b (Byte.asked _ w _ row asked h) r e = absurd (no_asked c row)
  range_byte c b (Byte.integer _ w _ row is_one h) r e = absurd (no_integer c row)
  range_byte c b (Byte.where_yes _ d w _ row says h) r e = absurd (no_where c d w row)
  range_byte c b (Byte.added _ d op _ row adds) r e = let x = rule_row c d op row in absurd (nt_range x.0 r (sym x.2 ∙ e))
  range_byte c b (Byte.turned _ d op f _ row h turns) r e = let x = rule_row c d op row in absurd (nt_range x.0 r (sym x.2 ∙ e))

  -- a page token has none
  nt_token : (a : nt.Nt) (t : PageToken) → Nt a ≡ Token t → ⊥
  nt_token a t e = cc

  range_token : (q : ByteRange) (t : PageToken) → Range q ≡ Token t → ⊥
  range_token q t e = cc

  pub token_byte : (c : Symbol) (b : ℕ) → ByteOf s c b → (t : PageToken) → c ≡ Token t → ⊥
  token_byte c b (Byte.text _ w _ row h) t e = so c w row h e
    where
      so : (c : Symbol) (w : List ℕ) → RowOf s c (text_form w) → Contains w b → c ≡ Token t → ⊥
      so _ _ (SystemRow.of_range q x within) h e = range_token q t e
      so _ _ (SystemRow.of_empty left among) h e = nt_token left t e
  token_byte c b (Byte.same _ d _ row h) t e = let x = same_row c d row in nt_token x.0 t (sym x.1 ∙ e)
  token_byte c b (Byte.first _ d f _ row h) t e = let x = join_row c d f row in nt_token x.0 t (sym x.1 ∙ e)
  token_byte c b (Byte.second _ d f _ row h) t e = let x = join_row c d f row in nt_token x.0 t (sym x.1 ∙ e)
  token_byte c b (Byte.prefix _ d w _ row h) t e = no_before c d w row
  token_byte c b (Byte.behind _ d w _ row h) t e = no_before c d w row
  token_byte c b (Byte.asked _ w _ row asked h) t e = no_asked c row
  token_byte c b (Byte.integer _ w _ row is_one h) t e = no_integer c row
  token_byte c b (Byte.where_yes _ d w _ row says h) t e = no_where c d w row
  token_byte c b (Byte.added _ d op _ row adds) t e = let x = rule_row c d op row in nt_token x.0 t (sym x.2 ∙ e)
  token_byte c b (Byte.turned _ d op f _ row h turns) t e = let x = rule_row c d op row in nt_token x.0 t (sym x.2 ∙ e)

  pub text_bytes : (a : Symbol) (w : List ℕ) → TextOf s a w → (b : ℕ) → Contains w b → ByteOf s a b
  text_bytes a w (In.text _ _ r) b h = Byte.text a w b r h
  text_bytes a w (In.same _ c _ r t) b h = Byte.same a c b r (text_bytes c w t b h)
  text_bytes a _ (In.join _ c d u v r t k) b h = elim (Contains-append_cases u v b h) [
    | inl first ↦ Byte.first a c d b r (text_bytes c u t b first)
    | inr second ↦ Byte.second a c d b r (text_bytes d v k b second)
  ]
  text_bytes a _ (In.before _ c u v r t) b h = absurd (no_before a c u r)
  text_bytes a w (In.asked _ _ r t) b h = absurd t
  text_bytes a w (In.integer _ _ r t) b h = Byte.integer a w b r t h
  text_bytes a w (In.where_yes _ c _ r t) b h = Byte.where_yes a c w b r t h
  text_bytes a w (In.apply _ c op u _ r t out) b h = elim (output_byte op u w out b h) [
    | inl added ↦ Byte.added a c op b r added
    | inr made ↦ Byte.turned a c op made.0 b r (text_bytes c u t made.0 made.1) made.2
  ]
  text_bytes a w (In.over_bytes _ c op _ r circles all) b h = All-contains (Byte (RowOf s) (λ w. ⊥) a) w b all h

  -- the bytes of a symbol on a right side are bytes
  abbrev pub IsFit : Symbol → Type 0
  IsFit (Range r) = r.hi < 256
  IsFit (Token t) = Unit {0}
  IsFit (Nt a) = Unit {0}

  module _ (is : HasBytes s) where
    fit_of : (p : Production) → Contains s.grammar.productions.items p → (c : Symbol) → Contains (symbols_of p.right) c → IsFit c
    fit_of p has (Range r) on = is.ranges p r has on
    fit_of p has (Token t) on = tt
    fit_of p has (Nt a) on = tt

    text_below : (a : Symbol) (w : List ℕ) (b : ℕ) → IsFit a → RowOf s a (text_form w) → Contains w b → b < 256
    text_below _ _ b fit (SystemRow.of_range r c within) h = let e = only_in c b h in let l = within.1 in omega arith
    text_below _ _ b fit (SystemRow.of_empty left has) h = none_in b h

    same_fits : (a c : Symbol) → RowOf s a (same_form c) → IsFit c
    same_fits _ _ (SystemRow.of_one left c has) = fit_of (record { left = left; right = One c }) has c (first_in c [])

    first_fits : (a c d : Symbol) → RowOf s a (join_form c d) → IsFit c
    first_fits _ _ _ (SystemRow.of_two left c d has) = fit_of (record { left = left; right = Two c d }) has c (first_in c (d ∷ []))

    second_fits : (a c d : Symbol) → RowOf s a (join_form c d) → IsFit d
    second_fits _ _ _ (SystemRow.of_two left c d has) = fit_of (record { left = left; right = Two c d }) has d (later_in c (d ∷ []) d (first_in d []))

    operand_fits : (a c : Symbol) (op : Op) → RowOf s a (apply_form op c) → IsFit c
    operand_fits _ _ _ (SystemRow.of_rule left operand op has) = tt

    added_below : (a c : Symbol) (op : Op) (b : ℕ) → RowOf s a (apply_form op c) → Adds op b → b < 256
    added_below _ _ _ b (SystemRow.of_rule left operand op has) adds = is.literals (record { left = left; op = op; operand = operand }) b has adds

    pub byte_below : (a : Symbol) (b : ℕ) → IsFit a → ByteOf s a b → b < 256
    byte_below a b fit (Byte.text _ w _ r h) = text_below a w b fit r h
    byte_below a b fit (Byte.same _ c _ r h) = byte_below c b (same_fits a c r) h
    byte_below a b fit (Byte.first _ c d _ r h) = byte_below c b (first_fits a c d r) h
    byte_below a b fit (Byte.second _ c d _ r h) = byte_below d b (second_fits a c d r) h
    byte_below a b fit (Byte.prefix _ c w _ r h) = absurd (no_before a c w r)
    byte_below a b fit (Byte.behind _ c w _ r h) = absurd (no_before a c w r)
    byte_below a b fit (Byte.asked _ w _ r asked h) = absurd (no_asked a r)
    byte_below a b fit (Byte.integer _ w _ r is_one h) = absurd (no_integer a r)
    byte_below a b fit (Byte.where_yes _ c w _ r says h) = absurd (no_where a c w r)
    byte_below a b fit (Byte.added _ c op _ r adds) = added_below a c op b r adds
    byte_below a b fit (Byte.turned _ c op e _ r h turns) = turns_below op e b (byte_below c e (operand_fits a c op r) h) turns
