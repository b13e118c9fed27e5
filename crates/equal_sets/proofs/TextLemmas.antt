-- Both systems have the same texts, and the same operations in cycles.
use Rattle.std.proofs.Common.{◌≡◌, ◌∙◌, ◌↔◌, ℕ, List, ◌++◌, Contains, refl, sym, ap, subst}
use Rattle.std.specs.Prelude.{All}
use Rattle.text_base.specs.declared.byte_range.ByteRange.{ByteRange}
use Rattle.text_base.specs.declared.numbers.Nt as nt
use Rattle.cfg_grammar.specs.declared.symbol.Symbol.{Symbol}
use Rattle.cfg_grammar.specs.declared.symbol.Symbol.TheVariants.{Range, Token, Nt}
use Rattle.cfg_grammar.specs.declared.production.Right.{Right}
use Rattle.cfg_grammar.specs.declared.production.Right.TheVariants.{Empty, One, Two}
use Rattle.op_system.specs.Rel.{Rel}
use Rattle.op_system.specs.declared.op.Op.{Op}
use Rattle.op_system.specs.declared.system.OpRule.{OpRule}
use Rattle.op_system.specs.declared.system.OpSystem.{OpSystem}
use Rattle.least_sets.specs.Forms.{Form, text_form, same_form, join_form, apply_form}
use Rattle.least_sets.specs.Sets.{In, Byte, IsCircular}
use Rattle.least_sets.specs.Simulations.{TakesOver, IsMonotone}
use Rattle.least_sets.specs.Systems.{SystemRow}
use Rattle.least_sets.proofs.Simulated as simulated
use Rattle.op_bytes.specs.Texts.{RowOf, TextOf, ByteOf}
use Rattle.op_bytes.specs.Cycles.{AreNumbers, IsInCycle}
use Rattle.equal_sets.specs.Sets.{set_of, symbol_of, right_of, rule_of}
use Rattle.equal_sets.specs.Joined.{IsJoined}
use Rattle.equal_sets.specs.Fit.{IsFit}
use Rattle.equal_sets.specs.Written.{AreProductionsOf, AreRulesOf}
use Rattle.equal_sets.proofs.ForwardLemmas as forward
use Rattle.equal_sets.proofs.BackLemmas as back
use Rattle.equal_sets.proofs.BackLemmas.{RightAt, right_back, rule_back}

more_bytes : IsMonotone (λ bytes w. All bytes w)
more_bytes bytes more w into all = λ k d lt. into _ (all k d lt)

module _ (s j : OpSystem) (numbers : List ℕ) (sets : List nt.Nt) (are : AreNumbers s numbers) (fit : IsFit s numbers sets)
    (ps : AreProductionsOf sets s.grammar.productions.items j.grammar.productions.items) (rs : AreRulesOf sets s.ops.items j.ops.items) where
  abbrev R : Symbol → Form Symbol → Type 0
  R = RowOf s

  abbrev S : Symbol → Form Symbol → Type 0
  S = RowOf j

  abbrev E : Symbol → Symbol → Type 0
  E a b = b ≡ symbol_of sets a

  -- a symbol for which a nonterminal stands
  nt_of : (d : Symbol) (a : nt.Nt) → symbol_of sets d ≡ Nt a → (e : nt.Nt) × (d ≡ Nt e) × (set_of sets e ≡ a)
  nt_of (Nt e) a is = let same : set_of sets e ≡ a = cc in (e, refl, same)
  nt_of (Range r) a is = cc
  nt_of (Token t) a is = cc

  range_of : (d : Symbol) (r : ByteRange) → symbol_of sets d ≡ Range r → d ≡ Range r
  range_of (Nt e) r is = cc
  range_of (Range q) r is = is
  range_of (Token t) r is = cc

  -- the rows that a set takes over, for a row of what stands for it
  record TextAt (d : Symbol) (w : List ℕ) : Type 0 where
    within : Symbol
    takes : TakesOver R d within
    row : R within (text_form w)

  record SameAt (d c : Symbol) : Type 0 where
    within : Symbol
    own : Symbol
    takes : TakesOver R d within
    row : R within (same_form own)
    is : symbol_of sets own ≡ c

  record JoinAt (d b c : Symbol) : Type 0 where
    within : Symbol
    first : Symbol
    second : Symbol
    takes : TakesOver R d within
    row : R within (join_form first second)
    first_is : symbol_of sets first ≡ b
    second_is : symbol_of sets second ≡ c

  record ApplyAt (d a c : Symbol) (op : Op) : Type 0 where
    within : Symbol
    own : Symbol
    takes : TakesOver R d within
    row : R within (apply_form op own)
    stands : symbol_of sets within ≡ a
    is : symbol_of sets own ≡ c
    cycle : IsCircular S a op c → IsCircular R within op own

  right_row : (d left : nt.Nt) (right : Right) → set_of sets d ≡ left → Contains j.grammar.productions.items (record { left = left; right = right }) → RightAt s j numbers sets are fit ps rs d right
  right_row d left right e has = right_back s j numbers sets are fit ps rs d right (subst (λ (x : nt.Nt). Contains j.grammar.productions.items (record { left = x; right = right })) (sym e) has)

  text_at : (a : Symbol) (w : List ℕ) → S a (text_form w) → (d : Symbol) → symbol_of sets d ≡ a → TextAt d w
  text_at _ _ (SystemRow.of_range r b within) d e = record { within = Range r; takes = subst (λ (x : Symbol). TakesOver R x (Range r)) (sym (range_of d r e)) (TakesOver.itself (Range r)); row = SystemRow.of_range r b within }
  text_at _ _ (SystemRow.of_empty left has) d e =
      let n = nt_of d left e in
      let r = right_row n.0 left Empty n.2 has in
      record {
        within = Nt r.within;
        takes = subst (λ (x : Symbol). TakesOver R x (Nt r.within)) (sym n.1) r.takes;
        row = SystemRow.of_empty r.within (subst (λ (x : Right). Contains s.grammar.productions.items (record { left = r.within; right = x })) (is_empty r.own r.is) r.among);
      }
    where
      is_empty : (own : Right) → Empty ≡ right_of sets own → own ≡ Empty
      is_empty Empty e = refl
      is_empty (One u) e = cc
      is_empty (Two u v) e = cc

  same_at : (a c : Symbol) → S a (same_form c) → (d : Symbol) → symbol_of sets d ≡ a → SameAt d c
  same_at _ _ (SystemRow.of_one left x has) d e =
      let n = nt_of d left e in
      let r = right_row n.0 left (One x) n.2 has in
      let o = is_one x r.own r.is in
      record {
        within = Nt r.within;
        own = o.0;
        takes = subst (λ (y : Symbol). TakesOver R y (Nt r.within)) (sym n.1) r.takes;
        row = SystemRow.of_one r.within o.0 (subst (λ (y : Right). Contains s.grammar.productions.items (record { left = r.within; right = y })) o.1 r.among);
        is = o.2;
      }
    where
      is_one : (x : Symbol) (own : Right) → One x ≡ right_of sets own → (y : Symbol) × (own ≡ One y) × (symbol_of sets y ≡ x)
      is_one x Empty e = cc
      is_one x (One y) e = let is : symbol_of sets y ≡ x = cc in (y, refl, is)
      is_one x (Two y z) e = cc

  join_at : (a b c : Symbol) → S a (join_form b c) → (d : Symbol) → symbol_of sets d ≡ a → JoinAt d b c
  join_at _ _ _ (SystemRow.of_two left x y has) d e =
      let n = nt_of d left e in
      let r = right_row n.0 left (Two x y) n.2 has in
      let o = is_two x y r.own r.is in
      record {
        within = Nt r.within;
        first = o.0;
        second = o.1;
        takes = subst (λ (z : Symbol). TakesOver R z (Nt r.within)) (sym n.1) r.takes;
        row = SystemRow.of_two r.within o.0 o.1 (subst (λ (z : Right). Contains s.grammar.productions.items (record { left = r.within; right = z })) o.2 r.among);
        first_is = o.3;
        second_is = o.4;
      }
    where
      is_two : (x y : Symbol) (own : Right) → Two x y ≡ right_of sets own → (u : Symbol) × (v : Symbol) × (own ≡ Two u v) × (symbol_of sets u ≡ x) × (symbol_of sets v ≡ y)
      is_two x y Empty e = cc
      is_two x y (One u) e = cc
      is_two x y (Two u v) e = let first : symbol_of sets u ≡ x = cc in let second : symbol_of sets v ≡ y = cc in (u, v, refl, first, second)

  apply_at : (a c : Symbol) (op : Op) → S a (apply_form op c) → (d : Symbol) → symbol_of sets d ≡ a → ApplyAt d a c op
  apply_at _ _ _ (SystemRow.of_rule left operand op has) d e =
      let n = nt_of d left e in
      let r = rule_back s j numbers sets are fit ps rs n.0 operand op (subst (λ (x : nt.Nt). Contains j.ops.items (record { left = x; op = op; operand = operand })) (sym n.2) has) in
      record {
        within = Nt r.within;
        own = Nt r.own;
        takes = subst (λ (y : Symbol). TakesOver R y (Nt r.within)) (sym n.1) r.takes;
        row = SystemRow.of_rule r.within r.own op r.among;
        stands = ap (λ (x : nt.Nt). Nt x) (r.stands ∙ n.2);
        is = ap (λ (x : nt.Nt). Nt x) (sym r.is);
        cycle = λ c. r.cycle (subst (λ (x : nt.Nt). IsCircular S (Nt x) op (Nt operand)) (sym n.2) c);
      }

  -- what a set takes over, it has
  over_bytes : (a b : Symbol) → TakesOver R a b → (x : ℕ) → ByteOf s b x → ByteOf s a x
  over_bytes a b (TakesOver.itself d) x h = h
  over_bytes a b (TakesOver.through d e f row t) x h = Byte.same d e x row (over_bytes e f t x h)

  over_texts : (a b : Symbol) → TakesOver R a b → (w : List ℕ) → TextOf s b w → TextOf s a w
  over_texts a b (TakesOver.itself d) w h = h
  over_texts a b (TakesOver.through d e f row t) w h = In.same d e w row (over_texts e f t w h)

  bytes_back : (a : Symbol) (x : ℕ) → ByteOf j a x → (d : Symbol) → symbol_of sets d ≡ a → ByteOf s d x
  bytes_back _ _ (Byte.text a w x row has) d e =
      let r = text_at a w row d e in
      over_bytes d r.within r.takes x (Byte.text r.within w x r.row has)
  bytes_back _ _ (Byte.same a c x row more) d e =
      let r = same_at a c row d e in
      over_bytes d r.within r.takes x (Byte.same r.within r.own x r.row (bytes_back c x more r.own r.is))
  bytes_back _ _ (Byte.first a b c x row more) d e =
      let r = join_at a b c row d e in
      over_bytes d r.within r.takes x (Byte.first r.within r.first r.second x r.row (bytes_back b x more r.first r.first_is))
  bytes_back _ _ (Byte.second a b c x row more) d e =
      let r = join_at a b c row d e in
      over_bytes d r.within r.takes x (Byte.second r.within r.first r.second x r.row (bytes_back c x more r.second r.second_is))
  bytes_back _ _ (Byte.prefix a c w x row has) d e = elim row [ ]
  bytes_back _ _ (Byte.behind a c w x row more) d e = elim row [ ]
  bytes_back _ _ (Byte.asked a w x row is has) d e = elim row [ ]
  bytes_back _ _ (Byte.integer a w x row is has) d e = elim row [ ]
  bytes_back _ _ (Byte.where_yes a c w x row said has) d e = elim row [ ]
  bytes_back _ _ (Byte.added a c op x row adds) d e =
      let r = apply_at a c op row d e in
      over_bytes d r.within r.takes x (Byte.added r.within r.own op x r.row adds)
  bytes_back _ _ (Byte.turned a c op y x row more turns) d e =
      let r = apply_at a c op row d e in
      over_bytes d r.within r.takes x (Byte.turned r.within r.own op y x r.row (bytes_back c y more r.own r.is) turns)

  texts_back : (a : Symbol) (w : List ℕ) → TextOf j a w → (d : Symbol) → symbol_of sets d ≡ a → TextOf s d w
  texts_back _ _ (In.text a w row) d e =
      let r = text_at a w row d e in
      over_texts d r.within r.takes w (In.text r.within w r.row)
  texts_back _ _ (In.same a c w row more) d e =
      let r = same_at a c row d e in
      over_texts d r.within r.takes w (In.same r.within r.own w r.row (texts_back c w more r.own r.is))
  texts_back _ _ (In.join a b c u v row first second) d e =
      let r = join_at a b c row d e in
      over_texts d r.within r.takes (u ++ v) (In.join r.within r.first r.second u v r.row (texts_back b u first r.first r.first_is) (texts_back c v second r.second r.second_is))
  texts_back _ _ (In.before a c u v row more) d e = elim row [ ]
  texts_back _ _ (In.asked a w row is) d e = elim row [ ]
  texts_back _ _ (In.integer a w row is) d e = elim row [ ]
  texts_back _ _ (In.where_yes a c w row said) d e = elim row [ ]
  texts_back _ _ (In.apply a c op u w row more out) d e =
      let r = apply_at a c op row d e in
      over_texts d r.within r.takes w (In.apply r.within r.own op u w r.row (texts_back c u more r.own r.is) out)
  texts_back _ _ (In.over_bytes a c op w row is all) d e =
      let r = apply_at a c op row d e in
      over_texts d r.within r.takes w (In.over_bytes r.within r.own op w r.row (r.cycle is) (more_bytes (ByteOf j a) (ByteOf s r.within) w (λ x h. bytes_back a x h r.within r.stands) all))

  pub same_texts : (a : nt.Nt) (w : List ℕ) → TextOf j (Nt (set_of sets a)) w ↔ TextOf s (Nt a) w
  same_texts a w = (
    λ h. texts_back (Nt (set_of sets a)) w h (Nt a) refl,
    λ h. simulated.texts Symbol Symbol R S E (forward.joined_does s j numbers sets fit ps rs) Rel (λ w. ⊥) (λ bytes w. All bytes w) more_bytes (Nt a) (Nt (set_of sets a)) (forward.held s j numbers sets fit ps rs (Nt a)) w h,
  )

  -- a rule of a set that stands for itself is in a cycle by the sets exactly where it is in one
  pub same_cycles : (q : OpRule) → Contains s.ops.items q → set_of sets q.left ≡ q.left → IsInCycle j (rule_of sets q) ↔ IsInCycle s q
  same_cycles q has still = (
    λ h. back.cycle_back s j numbers sets are fit ps rs q.left q.operand q.op has (subst (λ (x : nt.Nt). IsCircular S (Nt x) q.op (Nt (set_of sets q.operand))) still h),
    λ h. simulated.circular Symbol Symbol R S E (forward.joined_does s j numbers sets fit ps rs) (Nt q.left) (Nt q.operand) q.op (Nt (set_of sets q.left)) (Nt (set_of sets q.operand))
        (SystemRow.of_rule q.left q.operand q.op has) refl (forward.held s j numbers sets fit ps rs (Nt q.operand)) h,
  )

-- the system by the sets is the one in which they are one
pub is_joined : (s j : OpSystem) (numbers : List ℕ) (sets : List nt.Nt) → AreNumbers s numbers → IsFit s numbers sets
    → AreProductionsOf sets s.grammar.productions.items j.grammar.productions.items → AreRulesOf sets s.ops.items j.ops.items
    → j.grammar.count ≡ s.grammar.count → j.start ≡ set_of sets s.start → IsJoined s j
is_joined s j numbers sets are fit ps rs count start = record {
  sets = sets;
  many = fit.many;
  count = count;
  start = start;
  texts = same_texts s j numbers sets are fit ps rs;
  productions = λ p has. let o = ps.only p has in record { from = o.from; among = o.among; is = o.is };
  rules = λ r has.
      let o = rs.only r has in
      record {
        from = o.from;
        among = o.among;
        is = o.is;
        cycle = subst (λ (x : OpRule). IsInCycle j x ↔ IsInCycle s o.from) (sym o.is) (same_cycles s j numbers sets are fit ps rs o.from o.among o.still);
      };
  few_productions = ps.few;
  few_rules = rs.few;
}
