-- The work on byte sets: how it begins, a turn of it, and what it comes to.
use Rattle.std.proofs.Common.{◌≡◌, ◌<◌, ◌≤◌, ◌+◌, ℕ, Bool, List, [], ◌∷◌, length, map, get_or, Some, None, slice_get, Contains, inl, inr, refl, sym, ◌∙◌, ap, subst, arith}
use Rattle.std.specs.Prelude.{◌⊎◌, ◌↔◌}
use Rattle.std.proofs.lemmas.Bool.{cases_eq}
use Rattle.std.proofs.lemmas.Option.{slice_get_within, slice_get-get_or, same_Some, none-some}
use Rattle.text_base.specs.declared.numbers.Nt as nt
use Rattle.text_base.specs.ByteSet.{Has}
use Rattle.cfg_grammar.specs.declared.symbol.Symbol.{Symbol}
use Rattle.cfg_grammar.specs.declared.symbol.Symbol.TheVariants.{Range, Token, Nt}
use Rattle.cfg_grammar.specs.declared.production.Right.{Right}
use Rattle.cfg_grammar.specs.declared.production.Right.TheVariants.{Empty, One, Two}
use Rattle.cfg_grammar.specs.declared.production.Production.{Production}
use Rattle.cfg_grammar.specs.Below.{symbols_of}
use Rattle.op_system.specs.declared.system.OpRule.{OpRule}
use Rattle.op_system.specs.declared.system.OpSystem.{OpSystem}
use Rattle.least_sets.specs.Sets.{Byte}
use Rattle.least_sets.specs.Systems.{SystemRow}
use Rattle.op_bytes.specs.Texts.{ByteOf}
use Rattle.op_bytes.specs.declared.uses.Use.{Use}
use Rattle.op_bytes.specs.Bytes.{AreByteSets}
use Rattle.op_bytes.specs.SystemBytes.{HasBytes}
use Rattle.op_bytes.specs.Work.{HasAt, IsBehind, IsKept, Grows, GivesUse, GivesRule, IsPassed, IsFollowed, IsWork, AreFirstSets, AreNumbersBelow, uses_of}
use Rattle.op_bytes.proofs.ListLemmas.{one_of, none_in, only_in, first_in, later_in, placed, contained, of_map, to_map}
use Rattle.op_bytes.proofs.GrowLemmas.{grows_two}
use Rattle.op_bytes.proofs.UseLemmas.{use_is, is_use}
use Rattle.op_bytes.proofs.BelowLemmas.{turns_below}
use Rattle.op_bytes.proofs.LawLemmas as laws

pub work_begins : (s : OpSystem) (sets : List (List Bool)) (order : List ℕ) → AreFirstSets s sets → AreNumbersBelow s.grammar.count order → IsWork s sets order 0
work_begins s sets order f n = record {
  size = f.size;
  sound = f.sound;
  ranges = f.ranges;
  literals = f.literals;
  followed = λ x lt. inl (record { place = x; behind = omega arith; at = n.each x lt });
  within = n.within;
}

-- the turn of a nonterminal passes on exactly what it is to pass on
pub passed : (s : OpSystem) (old mid new : List (List Bool)) (order between after : List ℕ) (x : ℕ) (own set : List Bool) (uses : List Use) (at_uses at_rules : List ℕ) → uses ≡ uses_of s.grammar.productions.items
    → ((i : ℕ) → Contains at_uses i ↔ (slice_get (map (λ (u : Use). u.from) uses) i ≡ Some x)) → ((i : ℕ) → Contains at_rules i ↔ (slice_get (map (λ (r : OpRule). r.operand.0) s.ops.items) i ≡ Some x))
    → slice_get old x ≡ Some set → ((b : ℕ) → b < 256 → Has own b ↔ Has set b)
    → Grows old order (GivesUse uses at_uses (length at_uses) own) mid between → Grows mid between (GivesRule s.ops.items at_rules (length at_rules) own) new after
    → Grows old order (IsPassed s old x) new after
passed s old mid new order between after x own set uses at_uses at_rules all iu ir at same g h =
    record {
      gains = record {
        long = two.gains.long;
        more = two.gains.more;
        only = λ a b y. elim (two.gains.only a b y) [ inl o ↦ inl o | inr p ↦ elim p [ inl u ↦ inr (of_use a b y.below u) | inr r ↦ inr (of_rule a b r) ] ];
        has = λ a b lt p. two.gains.has a b lt (to_both a b p);
      };
      keeps = two.keeps;
      longer = two.longer;
      newer = two.newer;
      within = two.within;
    }
  where
    two : Grows old order (λ a b. GivesUse uses at_uses (length at_uses) own a b ⊎ GivesRule s.ops.items at_rules (length at_rules) own a b) new after
    two = grows_two old mid new order between after (GivesUse uses at_uses (length at_uses) own) (GivesRule s.ops.items at_rules (length at_rules) own) (λ a b. GivesUse uses at_uses (length at_uses) own a b ⊎ GivesRule s.ops.items at_rules (length at_rules) own a b) (λ a b. (λ z. z, λ z. z)) g h

    has_own : (b : ℕ) → b < 256 → Has own b → HasAt old x b
    has_own b lt y = record { below = lt; set = set; is = at; has = (same b lt).0 y }

    own_has : (b : ℕ) → HasAt old x b → Has own b
    own_has b y = (same b y.below).1 (subst (λ (z : List Bool). Has z b) (same_Some y.set set (sym y.is ∙ at)) y.has)

    of_use : (a b : ℕ) → b < 256 → GivesUse uses at_uses (length at_uses) own a b → IsPassed s old x a b
    of_use a b lt u =
        let m = of_map (λ (z : Use). z.from) uses u.place x ((iu u.place).0 (contained at_uses u.k u.place u.at)) in
        let e : u.found ≡ m.0 = same_Some u.found m.0 (sym u.is ∙ m.1) in
        let from : u.found.from ≡ x = ap (λ (z : Use). z.from) e ∙ m.2 in
        let is = use_is s.grammar.productions.items u.found (subst (λ (us : List Use). Contains us u.found) all (contained uses u.place u.found u.is)) in
        IsPassed.by_production is.production is.has (subst (λ (z : ℕ). Contains (symbols_of is.production.right) (Nt (record { 0 = z }))) from is.on) (u.to ∙ is.to) (has_own b lt u.has)

    of_rule : (a b : ℕ) → GivesRule s.ops.items at_rules (length at_rules) own a b → IsPassed s old x a b
    of_rule a b r =
        let m = of_map (λ (z : OpRule). z.operand.0) s.ops.items r.place x ((ir r.place).0 (contained at_rules r.k r.place r.at)) in
        let e : r.found ≡ m.0 = same_Some r.found m.0 (sym r.is ∙ m.1) in
        IsPassed.by_rule r.found r.has.0 (contained s.ops.items r.place r.found r.is) (ap (λ (z : OpRule). z.operand.0) e ∙ m.2) r.to (has_own r.has.0 r.has.1 r.has.2) r.has.3

    to_both : (a b : ℕ) → IsPassed s old x a b → GivesUse uses at_uses (length at_uses) own a b ⊎ GivesRule s.ops.items at_rules (length at_rules) own a b
    to_both a b (IsPassed.by_production p has on left y) =
        let u = placed uses (record { from = x; to = p.left.0 }) (subst (λ (us : List Use). Contains us (record { from = x; to = p.left.0 })) (sym all) (is_use s.grammar.productions.items p x has on)) in
        let k = placed at_uses u.0 ((iu u.0).1 (to_map (λ (z : Use). z.from) uses u.0 (record { from = x; to = p.left.0 }) u.1)) in
        inl (record { k = k.0; before = slice_get_within at_uses k.0 u.0 k.1; place = u.0; at = k.1; found = record { from = x; to = p.left.0 }; is = u.1; to = left; has = own_has b y })
    to_both a b (IsPassed.by_rule rule e has operand left y turns) =
        let u = placed s.ops.items rule has in
        let k = placed at_rules u.0 ((ir u.0).1 (to_map (λ (z : OpRule). z.operand.0) s.ops.items u.0 rule u.1 ∙ ap Some operand)) in
        inr (record { k = k.0; before = slice_get_within at_rules k.0 u.0 k.1; place = u.0; at = k.1; found = rule; is = u.1; to = left; has = (e, y.below, own_has e y, turns) })

-- what is passed on is a byte of the set
passed_sound : (s : OpSystem) (sets : List (List Bool)) (x : ℕ) → ((b : ℕ) → HasAt sets x b → ByteOf s (Nt (record { 0 = x })) b) → (a b : ℕ) → IsPassed s sets x a b → ByteOf s (Nt (record { 0 = a })) b
passed_sound s sets x sound a b (IsPassed.by_production p has on left h) =
    subst (λ (n : nt.Nt). ByteOf s (Nt n) b) (ap (λ (n : ℕ). let z : nt.Nt = record { 0 = n } in z) (sym left)) (by_right p.left p.right has on)
  where
    by_right : (l : nt.Nt) (right : Right) → Contains s.grammar.productions.items (record { left = l; right = right }) → Contains (symbols_of right) (Nt (record { 0 = x })) → ByteOf s (Nt l) b
    by_right l Empty has on = none_in (Nt (record { 0 = x })) on
    by_right l (One y) has on = Byte.same (Nt l) y b (SystemRow.of_one l y has) (subst (λ (z : Symbol). ByteOf s z b) (sym (only_in y (Nt (record { 0 = x })) on)) (sound b h))
    by_right l (Two y z) has on = elim (one_of y (z ∷ []) (Nt (record { 0 = x })) on) [
      | inl same ↦ Byte.first (Nt l) y z b (SystemRow.of_two l y z has) (subst (λ (w : Symbol). ByteOf s w b) (sym same) (sound b h))
      | inr more ↦ Byte.second (Nt l) y z b (SystemRow.of_two l y z has) (subst (λ (w : Symbol). ByteOf s w b) (sym (only_in z (Nt (record { 0 = x })) more)) (sound b h))
    ]
passed_sound s sets x sound a b (IsPassed.by_rule rule e has operand left h turns) =
    subst (λ (n : nt.Nt). ByteOf s (Nt n) b) (ap (λ (n : ℕ). let z : nt.Nt = record { 0 = n } in z) (sym left))
    (Byte.turned (Nt rule.left) (Nt rule.operand) rule.op e b (SystemRow.of_rule rule.left rule.operand rule.op has)
    (subst (λ (n : nt.Nt). ByteOf s (Nt n) e) (ap (λ (n : ℕ). let z : nt.Nt = record { 0 = n } in z) (sym operand)) (sound e h)) turns)

pub work_more : (s : OpSystem) (old new : List (List Bool)) (order after : List ℕ) (taken x : ℕ) → IsWork s old order taken → slice_get order taken ≡ Some x → Grows old order (IsPassed s old x) new after → IsWork s new after (taken + 1)
work_more s old new order after taken x w at g = record {
  size = g.gains.long ∙ w.size;
  sound = λ a b h. elim (g.gains.only a b h) [ inl o ↦ w.sound a b o | inr p ↦ passed_sound s old x (w.sound x) a b p ];
  ranges = λ p r b has on within lt. g.gains.more p.left.0 b (w.ranges p r b has on within lt);
  literals = λ r b has adds lt. g.gains.more r.left.0 b (w.literals r b has adds lt);
  followed = λ y lt. elim (g.newer y) [
    | inr behind ↦ inl (record { place = behind.place; behind = (let l = behind.behind in let t = slice_get_within order taken x at in omega arith); at = behind.at })
    | inl kept ↦ elim (cases_eq y x) [
      | inl same ↦ inr (now y same kept)
      | inr other ↦ elim (w.followed y lt) [
        | inl behind ↦ inl (later y other behind)
        | inr before ↦ inr (record {
          productions = λ p b has on h. g.gains.more p.left.0 b (before.productions p b has on (kept b h));
          rules = λ r b c has operand h turns lt. g.gains.more r.left.0 c (before.rules r b c has operand (kept b h) turns lt);
        })
      ]
    ]
  ];
  within = λ y h. elim (g.within y h) [ inl o ↦ w.within y o | inr lt ↦ (let l = w.size in omega arith) ];
}
  where
    now : (y : ℕ) → y ≡ x → IsKept old new y → IsFollowed s new y
    now y same kept = record {
      productions = λ p b has on h. let o = kept b h in
          g.gains.has p.left.0 b h.below (IsPassed.by_production p has (subst (λ (z : ℕ). Contains (symbols_of p.right) (Nt (record { 0 = z }))) same on) refl (subst (λ (z : ℕ). HasAt old z b) same o));
      rules = λ r b c has operand h turns lt. let o = kept b h in
          g.gains.has r.left.0 c lt (IsPassed.by_rule r b has (operand ∙ same) refl (subst (λ (z : ℕ). HasAt old z b) same o) turns);
    }

    later : (y : ℕ) → (y ≡ x → ⊥) → IsBehind order taken y → IsBehind after (taken + 1) y
    later y other behind = elim (cases_eq behind.place taken) [
      | inl same ↦ absurd (other (same_Some y x (sym behind.at ∙ (ap (slice_get order) same ∙ at))))
      | inr more ↦ record { place = behind.place; behind = (let l = behind.behind in omega arith); at = g.keeps behind.place y behind.at }
    ]

-- nothing is left to be taken up
pub work_done : (s : OpSystem) (sets : List (List Bool)) (order : List ℕ) (taken : ℕ) → HasBytes s → IsWork s sets order taken → slice_get order taken ≡ None → AreByteSets s sets
work_done s sets order taken fit w none = record {
  size = w.size;
  exact = λ a set is b lt. (
    λ h. w.sound a.0 b (record { below = lt; set = set; is = is; has = h }),
    λ h. let f = has (Nt a) b h a refl in subst (λ (z : List Bool). Has z b) (same_Some f.set set (sym f.is ∙ is)) f.has,
  );
}
  where
    past : (k x : ℕ) → taken ≤ k → slice_get order k ≡ Some x → ⊥
    past k x le at = let l = slice_get_within order k x at in none-some (get_or order taken 0) (sym none ∙ slice_get-get_or order taken 0 (omega arith))

    follows : (x : ℕ) → x < s.grammar.count → IsFollowed s sets x
    follows x lt = elim (w.followed x lt) [ inl behind ↦ absurd (past behind.place x behind.behind behind.at) | inr f ↦ f ]

    inside : (x b : ℕ) → HasAt sets x b → x < s.grammar.count
    inside x b h = let l = slice_get_within sets x h.set h.is in let e = w.size in omega arith

    at_left : (left a : nt.Nt) (c : Symbol) (b : ℕ) → c ≡ Nt left → c ≡ Nt a → HasAt sets left.0 b → HasAt sets a.0 b
    at_left left a c b e f h = subst (λ (n : ℕ). HasAt sets n b) (same_number left a (sym e ∙ f)) h
      where
        same_number : (l m : nt.Nt) → Nt l ≡ Nt m → l.0 ≡ m.0
        same_number l m e = cc

    -- what a symbol on a right side gives to the left side
    given : (p : Production) → Contains s.grammar.productions.items p → (c : Symbol) → Contains (symbols_of p.right) c → (b : ℕ) → ByteOf s c b → ((a : nt.Nt) → c ≡ Nt a → HasAt sets a.0 b) → HasAt sets p.left.0 b
    given p among (Range r) on b h further = let within = laws.range_byte s (Range r) b h r refl in w.ranges p r b among on within (let i = fit.ranges p r among on in let l = within.1 in omega arith)
    given p among (Token t) on b h further = absurd (let none = laws.token_byte s (Token t) b h t refl in none)
    given p among (Nt a) on b h further = let f = further a refl in (follows a.0 (inside a.0 b f)).productions p b among on f

    has : (c : Symbol) (b : ℕ) → ByteOf s c b → (a : nt.Nt) → c ≡ Nt a → HasAt sets a.0 b
    has c b (Byte.text _ u _ row h) a e = none_in b (subst (λ (z : List ℕ). Contains z b) (laws.nothing_row s c u row a e) h)
    has c b (Byte.same _ d _ row h) a e = let x = laws.same_row s c d row in at_left x.0 a c b x.1 e (given (record { left = x.0; right = One d }) x.2 d (first_in d []) b h (has d b h))
    has c b (Byte.first _ d f _ row h) a e = let x = laws.join_row s c d f row in at_left x.0 a c b x.1 e (given (record { left = x.0; right = Two d f }) x.2 d (first_in d (f ∷ [])) b h (has d b h))
    has c b (Byte.second _ d f _ row h) a e = let x = laws.join_row s c d f row in at_left x.0 a c b x.1 e (given (record { left = x.0; right = Two d f }) x.2 f (later_in d (f ∷ []) f (first_in f [])) b h (has f b h))
    has c b (Byte.prefix _ d u _ row h) a e = absurd (laws.no_before s c d u row)
    has c b (Byte.behind _ d u _ row h) a e = absurd (laws.no_before s c d u row)
    has c b (Byte.asked _ u _ row asked h) a e = absurd (laws.no_asked s c row)
    has c b (Byte.integer _ u _ row is_one h) a e = absurd (laws.no_integer s c row)
    has c b (Byte.where_yes _ d u _ row says h) a e = absurd (laws.no_where s c d u row)
    has c b (Byte.added _ d op _ row adds) a e = let x = laws.rule_row s c d op row in
        at_left x.0 a c b x.2 e (w.literals (record { left = x.0; op = op; operand = x.1 }) b x.4 adds (fit.literals (record { left = x.0; op = op; operand = x.1 }) b x.4 adds))
    has c b (Byte.turned _ d op f _ row h turns) a e = let x = laws.rule_row s c d op row in
        let below = has d f h x.1 x.3 in
        at_left x.0 a c b x.2 e ((follows x.1.0 (inside x.1.0 f below)).rules (record { left = x.0; op = op; operand = x.1 }) f b x.4 refl below turns (turns_below op f b below.below turns))
