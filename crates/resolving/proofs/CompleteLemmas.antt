-- Each text of a set is derived, where all rules that its nonterminal depends on are done.
use Rattle.std.proofs.Common.{ℕ, List, ◌++◌, map, Contains, sym, subst}
use Rattle.text_base.specs.declared.numbers.Nt as nt
use Rattle.text_base.specs.declared.letter.Letter.TheVariants.{OfByte}
use Rattle.cfg_grammar.specs.declared.symbol.Symbol.{Symbol}
use Rattle.cfg_grammar.specs.declared.symbol.Symbol.TheVariants.{Nt}
use Rattle.cfg_grammar.specs.declared.production.Right.TheVariants.{Empty, One, Two}
use Rattle.cfg_grammar.specs.declared.production.Production.{Production}
use Rattle.cfg_grammar.specs.Derives.{Derives}
use Rattle.op_system.specs.declared.op.Op.{Op}
use Rattle.op_system.specs.Rel.{Rel}
use Rattle.op_system.specs.declared.system.OpRule.{OpRule}
use Rattle.op_system.specs.declared.system.OpSystem.{OpSystem}
use Rattle.least_sets.specs.Forms.{text_form, same_form, join_form, before_form, integer_form, apply_form, where_form}
use Rattle.least_sets.specs.Sets.{In, IsCircular}
use Rattle.least_sets.specs.Systems.{SystemRow}
use Rattle.op_bytes.specs.Texts.{RowOf, TextOf, ByteOf}
use Rattle.resolving.specs.Drafts.{IsDone}
use Rattle.resolving.proofs.LetterLemmas.{letters_append}

module _ (s : OpSystem) (ps : List Production) (D : Symbol → Type 0) (base : (p : Production) → Contains s.grammar.productions.items p → Contains ps p)
    (closed_one : (left : nt.Nt) (a : Symbol) → Contains s.grammar.productions.items (record { left = left; right = One a }) → D (Nt left) → D a)
    (closed_two : (left : nt.Nt) (a b : Symbol) → Contains s.grammar.productions.items (record { left = left; right = Two a b }) → D (Nt left) → D a × D b)
    (done : (rule : OpRule) → Contains s.ops.items rule → D (Nt rule.left) → IsDone s ps rule) where
  text_of : (a : Symbol) (w : List ℕ) → RowOf s a (text_form w) → Derives ps a (map OfByte w)
  text_of _ _ (SystemRow.of_range r b within) = Derives.by_range r b within
  text_of _ _ (SystemRow.of_empty left has) = Derives.by_empty left (base (record { left = left; right = Empty }) has)

  same_of : (a c : Symbol) (w : List ℕ) → RowOf s a (same_form c) → D a → (D c → Derives ps c (map OfByte w)) → Derives ps a (map OfByte w)
  same_of _ _ w (SystemRow.of_one left c has) d further = Derives.by_one left c (map OfByte w) (base (record { left = left; right = One c }) has) (further (closed_one left c has d))

  join_of : (a c e : Symbol) (u v : List ℕ) → RowOf s a (join_form c e) → D a → (D c → Derives ps c (map OfByte u)) → (D e → Derives ps e (map OfByte v)) → Derives ps a (map OfByte (u ++ v))
  join_of _ _ _ u v (SystemRow.of_two left c e has) d first second =
      let b = closed_two left c e has d in
      subst (Derives ps (Nt left)) (sym (letters_append u v)) (Derives.by_two left c e (map OfByte u) (map OfByte v) (base (record { left = left; right = Two c e }) has) (first b.0) (second b.1))

  apply_of : (a c : Symbol) (op : Op) (u w : List ℕ) → RowOf s a (apply_form op c) → D a → TextOf s c u → Rel op u w → Derives ps a (map OfByte w)
  apply_of _ _ _ u w (SystemRow.of_rule left operand op has) d t out = (done (record { left = left; op = op; operand = operand }) has d).outputs u w t out

  over_of : (a c : Symbol) (op : Op) (w : List ℕ) → RowOf s a (apply_form op c) → D a → IsCircular (RowOf s) a op c → Rattle.std.specs.Prelude.All (ByteOf s a) w → Derives ps a (map OfByte w)
  over_of _ _ _ w (SystemRow.of_rule left operand op has) d circles all = (done (record { left = left; op = op; operand = operand }) has d).circular circles w all

  no_before : (a c : Symbol) (w : List ℕ) → RowOf s a (before_form w c) → ⊥
  no_before a c w r = elim r [ ]

  no_integer : (a : Symbol) → RowOf s a integer_form → ⊥
  no_integer a r = elim r [ ]

  no_where : (a c : Symbol) (w : List ℕ) → RowOf s a (where_form w c) → ⊥
  no_where a c w r = elim r [ ]

  pub complete : (a : Symbol) (w : List ℕ) → TextOf s a w → D a → Derives ps a (map OfByte w)
  complete a w (In.text _ _ r) d = text_of a w r
  complete a w (In.same _ c _ r t) d = same_of a c w r d (complete c w t)
  complete a _ (In.join _ c e u v r t k) d = join_of a c e u v r d (complete c u t) (complete e v k)
  complete a _ (In.before _ c u v r t) d = absurd (no_before a c u r)
  complete a w (In.asked _ _ r t) d = absurd t
  complete a w (In.integer _ _ r t) d = absurd (no_integer a r)
  complete a w (In.where_yes _ c _ r t) d = absurd (no_where a c w r)
  complete a w (In.apply _ c op u _ r t out) d = apply_of a c op u w r d t out
  complete a w (In.over_bytes _ c op _ r circles all) d = over_of a c op w r d circles all
