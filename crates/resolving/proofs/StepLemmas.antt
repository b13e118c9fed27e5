-- The laws of drafts.
use Rattle.std.proofs.Common.{◌≡◌, ◌<◌, ◌≤◌, ◌+◌, ℕ, Bool, true, List, [], ◌∷◌, map, get_or, Some, slice_get, Contains, inl, inr, refl, sym, ◌∙◌, ap, subst, arith}
use Rattle.std.specs.Prelude.{◌↔◌, nat_lt, All}
use Rattle.std.specs.List.{list_all}
use Rattle.std.proofs.lemmas.Bool.{ltb-true, lt-ltb}
use Rattle.std.proofs.lemmas.List.Elements.{Contains-get_or}
use Rattle.std.proofs.lemmas.Option.{slice_get-get_or}
use Rattle.text_base.specs.declared.byte_range.ByteRange.{ByteRange}
use Rattle.text_base.specs.declared.numbers.Nt as nt
use Rattle.text_base.specs.declared.letter.Letter.{Letter}
use Rattle.text_base.specs.declared.letter.Letter.TheVariants.{OfByte}
use Rattle.text_base.specs.ByteSet.{Has}
use Rattle.cfg_grammar.specs.declared.symbol.Symbol.{Symbol}
use Rattle.cfg_grammar.specs.declared.symbol.Symbol.TheVariants.{Range, Token, Nt}
use Rattle.cfg_grammar.specs.declared.production.Right.{Right}
use Rattle.cfg_grammar.specs.declared.production.Right.TheVariants.{Empty, One, Two}
use Rattle.cfg_grammar.specs.declared.production.Production.{Production}
use Rattle.cfg_grammar.specs.declared.grammar.Grammar.{Grammar}
use Rattle.cfg_grammar.specs.Below.{symbols_of, symbol_below, production_below}
use Rattle.cfg_grammar.specs.Tokens.{is_no_token, production_without_token}
use Rattle.cfg_grammar.specs.Derives.{Derives}
use Rattle.op_system.specs.Rel.{Rel}
use Rattle.op_system.specs.Size.{size_of}
use Rattle.op_system.specs.declared.system.OpRule.{OpRule}
use Rattle.op_system.specs.declared.system.OpSystem.{OpSystem}
use Rattle.fst_core.specs.declared.table.Table.{Table}
use Rattle.string_ops.specs.Listed.{IsMachine, AreBytes}
use Rattle.least_sets.specs.Sets.{In}
use Rattle.least_sets.specs.Systems.{SystemRow}
use Rattle.op_bytes.specs.Texts.{RowOf, TextOf, ByteOf}
use Rattle.op_bytes.specs.Steps.{IsStep}
use Rattle.op_bytes.specs.Cycles.{AreNumbers, IsInCycle}
use Rattle.op_bytes.proofs.EdgeLemmas.{rule_left_below, operand_below}
use Rattle.op_bytes.proofs.CycleLemmas.{step_depends, is_in_cycle}
use Rattle.op_bytes.specs.SystemBytes.{HasBytes}
use Rattle.op_bytes.proofs.LawLemmas.{text_bytes, byte_below}
use Rattle.resolving.specs.Resolved.{HasLetters, AreExact}
use Rattle.resolving.specs.Drafts.{IsDraft, IsDone, IsNew, IsAnyProduction, IsImageProduction, AddsAny, AddsImage, IsImage, IsReady, moved_symbol, moved_right, moved}
use Rattle.resolving.proofs.LetterLemmas.{none_in, one_of, only_in, first_in, later_in, all_at, all_from, first_so, second_so, both_so, same_text, plain_text}
use Rattle.resolving.proofs.MovedLemmas.{unmoved, is_moved, nt_is}
use Rattle.resolving.proofs.AnyLawLemmas.{IsAnyRight, any_sound, any_complete}
use Rattle.resolving.proofs.DraftLawLemmas.{draft_more, left_below}
use Rattle.resolving.proofs.CompleteLemmas.{complete}
use Rattle.resolving.proofs.MachineLemmas.{machine_sound}

-- below a higher count
symbol_higher : (n m : ℕ) → n ≤ m → (a : Symbol) → symbol_below n a ≡ true → symbol_below m a ≡ true
symbol_higher n m le (Range r) h = refl
symbol_higher n m le (Token t) h = refl
symbol_higher n m le (Nt a) h = lt-ltb a.0 m (let l = ltb-true a.0 n h in omega arith)

pub higher : (n m : ℕ) → n ≤ m → (p : Production) → production_below n p ≡ true → production_below m p ≡ true
higher n m le p h =
    both_so (nat_lt p.left.0 m) (list_all (symbol_below m) (symbols_of p.right))
    (lt-ltb p.left.0 m (let l = ltb-true p.left.0 n (first_so (nat_lt p.left.0 n) (list_all (symbol_below n) (symbols_of p.right)) h) in omega arith))
    (all_from (symbol_below m) (symbols_of p.right) (λ a on. symbol_higher n m le a (all_at (symbol_below n) (symbols_of p.right) a (second_so (nat_lt p.left.0 n) (list_all (symbol_below n) (symbols_of p.right)) h) on)))

range_nt : (r : ByteRange) (b : nt.Nt) → Range r ≡ Nt b → ⊥
range_nt r b e = cc

same_nt : (a b : nt.Nt) → Nt a ≡ Nt b → a.0 ≡ b.0
same_nt a b e = cc

module _ (s : OpSystem) where
  abbrev N : ℕ
  N = s.grammar.count

  row_of : (rule : OpRule) → Contains s.ops.items rule → RowOf s (Nt rule.left) (Rattle.least_sets.specs.Forms.apply_form rule.op (Nt rule.operand))
  row_of rule has = SystemRow.of_rule rule.left rule.operand rule.op has

  left_in : (rule : OpRule) → Contains s.ops.items rule → rule.left.0 < N
  left_in rule has = rule_left_below N s.ops.items rule s.rules_below has

  operand_in : (rule : OpRule) → Contains s.ops.items rule → rule.operand.0 < N
  operand_in rule has = operand_below N s.ops.items rule s.rules_below has

  -- a text of a set is one of bytes
  bytes_of : HasBytes s → (a : nt.Nt) (text : List ℕ) → TextOf s (Nt a) text → AreBytes text
  bytes_of fit a text t k d lt = byte_below s fit (Nt a) (get_or text k d) tt (text_bytes s (Nt a) text t (get_or text k d) (Contains-get_or text k d lt))

  module _ (ps after : List Production) (count : ℕ) (rule : OpRule) (set : List Bool) (fit : HasBytes s) (draft : IsDraft s ps count) (has : Contains s.ops.items rule) (circles : IsInCycle s rule)
      (exact : (b : ℕ) → b < 256 → Has set b ↔ ByteOf s (Nt rule.left) b) (adds : AddsAny ps rule.left (record { 0 = count }) set after) where
    abbrev t : nt.Nt
    t = record { 0 = count }

    abbrev E : ℕ → Type 0
    E c = (c < 256) × Has set c

    any_own : (right : Right) → Contains after (record { left = t; right = right }) → IsAnyRight E t right
    any_own right h = so (adds.only (record { left = t; right = right }) h)
      where
        so : IsAnyProduction ps rule.left t set (record { left = t; right = right }) → IsAnyRight E t right
        so (IsAnyProduction.before old) = absurd (let l = left_below count ps (record { left = t; right = right }) draft.below old in omega arith)
        so (IsAnyProduction.links e) = absurd (let f : count ≡ rule.left.0 = ap (λ (q : Production). q.left.0) e in let l = left_in rule has in let m = draft.least in omega arith)
        so (IsAnyProduction.stops e) = IsAnyRight.stop (ap (λ (q : Production). q.right) e)
        so (IsAnyProduction.puts b) = IsAnyRight.go b.range b.has (ap (λ (q : Production). q.right) b.is)

    any_means : (w : List Letter) → Derives after (Nt t) w → HasLetters s (Nt rule.left) w
    any_means w d =
        let a = any_sound E t after any_own (Nt t) w d refl in
        (a.text, a.is, In.over_bytes (Nt rule.left) (Nt rule.operand) rule.op a.text (row_of rule has) circles (λ k x lt. let h = a.all k x lt in (exact (get_or a.text k x) h.0).0 h.1))

    any_split : (p : Production) → Contains after p → IsNew ps count rule.left t p
    any_split p h = so (adds.only p h)
      where
        two_nt : (r : ByteRange) (b : nt.Nt) → Contains (Range r ∷ Nt t ∷ []) (Nt b) → count ≤ b.0
        two_nt r b on = elim (one_of (Range r) (Nt t ∷ []) (Nt b) on) [ inl e ↦ absurd (range_nt r b e) | inr more ↦ (let e = same_nt t b (only_in (Nt t) (Nt b) more) in omega arith) ]

        so : IsAnyProduction ps rule.left t set p → IsNew ps count rule.left t p
        so (IsAnyProduction.before old) = IsNew.old old
        so (IsAnyProduction.links e) = IsNew.link e
        so (IsAnyProduction.stops e) = IsNew.fresh (let f : p.left.0 ≡ count = ap (λ (q : Production). q.left.0) e in omega arith) (λ b on. none_in (Nt b) (subst (λ (q : Production). Contains (symbols_of q.right) (Nt b)) e on))
        so (IsAnyProduction.puts x) = IsNew.fresh (let f : p.left.0 ≡ count = ap (λ (q : Production). q.left.0) x.is in omega arith) (λ b on. two_nt x.range b (subst (λ (q : Production). Contains (symbols_of q.right) (Nt b)) x.is on))

    any_below : (p : Production) → Contains after p → production_below (count + 1) p ≡ true
    any_below p h = so (adds.only p h)
      where
        here : nat_lt count (count + 1) ≡ true
        here = lt-ltb count (count + 1) (omega arith)

        so : IsAnyProduction ps rule.left t set p → production_below (count + 1) p ≡ true
        so (IsAnyProduction.before old) = higher count (count + 1) (omega arith) p (all_at (production_below count) ps p draft.below old)
        so (IsAnyProduction.links e) = subst (λ (q : Production). production_below (count + 1) q ≡ true) (sym e) (both_so (nat_lt rule.left.0 (count + 1)) _ (lt-ltb rule.left.0 (count + 1) (let l = left_in rule has in let m = draft.least in omega arith)) (both_so (nat_lt count (count + 1)) true here refl))
        so (IsAnyProduction.stops e) = subst (λ (q : Production). production_below (count + 1) q ≡ true) (sym e) (both_so (nat_lt count (count + 1)) true here refl)
        so (IsAnyProduction.puts x) = subst (λ (q : Production). production_below (count + 1) q ≡ true) (sym x.is) (both_so (nat_lt count (count + 1)) _ here (both_so (nat_lt count (count + 1)) true here refl))

    any_plain : (p : Production) → Contains after p → production_without_token p ≡ true
    any_plain p h = so (adds.only p h)
      where
        so : IsAnyProduction ps rule.left t set p → production_without_token p ≡ true
        so (IsAnyProduction.before old) = all_at production_without_token ps p draft.no_token old
        so (IsAnyProduction.links e) = subst (λ (q : Production). production_without_token q ≡ true) (sym e) refl
        so (IsAnyProduction.stops e) = subst (λ (q : Production). production_without_token q ≡ true) (sym e) refl
        so (IsAnyProduction.puts x) = subst (λ (q : Production). production_without_token q ≡ true) (sym x.is) refl

    any_derived : (w : List ℕ) → All (ByteOf s (Nt rule.left)) w → Derives after (Nt rule.left) (map OfByte w)
    any_derived w all =
        Derives.by_one rule.left (Nt t) (map OfByte w) adds.link
        (any_complete E t after adds.stop (λ c e. adds.has c e.0 e.1) w (λ k d lt. let b = all k d lt in let small = byte_below s fit (Nt rule.left) (get_or w k d) tt b in (small, (exact (get_or w k d) small).1 b)))

    pub any_done : IsDraft s after (count + 1) × IsDone s after rule
    any_done = (
      draft_more s ps count draft after (count + 1) rule.left t (left_in rule has) (omega arith) adds.keeps any_split any_means (omega arith) (all_from (production_below (count + 1)) after any_below) (all_from production_without_token after any_plain),
      record {
        outputs = λ u w text out. any_derived w (λ k d lt. text_bytes s (Nt rule.left) w (In.apply (Nt rule.left) (Nt rule.operand) rule.op u w (row_of rule has) text out) (get_or w k d) (Contains-get_or w k d lt));
        circular = λ c w all. any_derived w all;
      },
    )

  -- the operand's texts are derived where rules with lower numbers are done
  module _ (ps : List Production) (count : ℕ) (rule : OpRule) (numbers : List ℕ) (k : ℕ) (draft : IsDraft s ps count) (has : Contains s.ops.items rule) (in_none : IsInCycle s rule → ⊥)
      (are : AreNumbers s numbers) (at : slice_get numbers rule.left.0 ≡ Some k) (ready : IsReady s numbers ps k) where
    record IsLow (c : Symbol) : Type 0 where
      pub each : (b : nt.Nt) → c ≡ Nt b → (m : ℕ) × (slice_get numbers b.0 ≡ Some m) × (m < k)

    number_of : (b : nt.Nt) → b.0 < N → slice_get numbers b.0 ≡ Some (get_or numbers b.0 0)
    number_of b lt = slice_get-get_or numbers b.0 0 (let l = are.size in omega arith)

    low_from : (left : nt.Nt) (p : Production) → Contains s.grammar.productions.items p → p.left ≡ left → (c : Symbol) → Contains (symbols_of p.right) c → IsLow (Nt left) → IsLow c
    low_from left p among is c on low = record {
      each = λ b e.
          let own = low.each left refl in
          let lt = right_in p among b (subst (Contains (symbols_of p.right)) e on) in
          let n = number_of b lt in
          let d = step_depends s.grammar.productions.items s.ops.items left b (IsStep.by_production p among (ap (λ (x : nt.Nt). x.0) is) (subst (Contains (symbols_of p.right)) e on)) in
          let f = are.falls left b own.0 (get_or numbers b.0 0) d own.1 n in
          let l = own.2 in
          (get_or numbers b.0 0, n, omega arith);
    }
      where
        right_in : (p : Production) → Contains s.grammar.productions.items p → (b : nt.Nt) → Contains (symbols_of p.right) (Nt b) → b.0 < N
        right_in p among b on = ltb-true b.0 N (all_at (symbol_below N) (symbols_of p.right) (Nt b) (second_so (nat_lt p.left.0 N) (list_all (symbol_below N) (symbols_of p.right)) (all_at (production_below N) s.grammar.productions.items p s.grammar.below among)) on)

    operand_low : IsLow (Nt rule.operand)
    operand_low = record {
      each = λ b e.
          let same : rule.operand.0 ≡ b.0 = same_nt rule.operand b e in
          let n = number_of rule.operand (operand_in rule has) in
          let d = step_depends s.grammar.productions.items s.ops.items rule.left rule.operand (IsStep.by_rule rule has refl refl) in
          let f = are.falls rule.left rule.operand k (get_or numbers rule.operand.0 0) d at n in
          (get_or numbers rule.operand.0 0, ap (slice_get numbers) (sym same) ∙ n, strict k (get_or numbers rule.operand.0 0) f (λ eq. in_none (is_in_cycle s numbers rule k (get_or numbers rule.operand.0 0) are at n eq)));
    }
      where
        strict : (k m : ℕ) → m ≤ k → (k ≡ m → ⊥) → m < k
        strict k m le differ = omega arith

    pub operand_derived : (text : List ℕ) → TextOf s (Nt rule.operand) text → Derives ps (Nt rule.operand) (map OfByte text)
    operand_derived text t =
        complete s ps IsLow draft.base
        (λ left a among low. low_from left (record { left = left; right = One a }) among refl a (first_in a []) low)
        (λ left a b among low. (low_from left (record { left = left; right = Two a b }) among refl a (first_in a (b ∷ [])) low, low_from left (record { left = left; right = Two a b }) among refl b (later_in a (b ∷ []) b (first_in b [])) low))
        (λ r among low. let m = low.each r.left refl in ready r m.0 among m.1 m.2)
        (Nt rule.operand) text t operand_low

    pub operand_exact : AreExact s ps (Nt rule.operand)
    operand_exact w = (
      λ d. draft.sound rule.operand w (operand_in rule has) d,
      λ h. subst (Derives ps (Nt rule.operand)) (sym h.1) (operand_derived h.0 h.2),
    )

    module _ (after : List Production) (table : Table) (image : Grammar) (fit : HasBytes s) (machine : IsMachine table (size_of rule.op) (Rel rule.op)) (is_image : IsImage ps rule.operand table image)
        (adds : AddsImage ps rule.left count image after) where
      abbrev m : nt.Nt
      m = record { 0 = count + image.start.0 }

      image_own : (p : Production) → Contains after p → count ≤ p.left.0 → (q : Production) × Contains image.productions.items q × (p ≡ moved count q)
      image_own p h le = so (adds.only p h)
        where
          so : IsImageProduction ps rule.left count image p → (q : Production) × Contains image.productions.items q × (p ≡ moved count q)
          so (IsImageProduction.before old) = absurd (let l = left_below count ps p draft.below old in omega arith)
          so (IsImageProduction.links e) = absurd (let f : p.left.0 ≡ rule.left.0 = ap (λ (q : Production). q.left.0) e in let l = left_in rule has in let n = draft.least in omega arith)
          so (IsImageProduction.moves q among plain e) = (q, among, e)

      image_means : (w : List Letter) → Derives after (Nt m) w → HasLetters s (Nt rule.left) w
      image_means w d =
          let o = (is_image w).0 (unmoved count image.productions.items after image_own (Nt m) w d (Nt image.start) refl) in
          let h = (operand_exact (map OfByte o.0)).0 o.1 in
          let text = subst (TextOf s (Nt rule.operand)) (sym (same_text o.0 h.0 h.1)) h.2 in
          let out = machine_sound table (size_of rule.op) (Rel rule.op) machine o.0 (bytes_of fit rule.operand o.0 text) w o.2 in
          (out.0, out.1, In.apply (Nt rule.left) (Nt rule.operand) rule.op o.0 out.0 (row_of rule has) text out.2)

      moved_nt : (right : Right) (b : nt.Nt) → Contains (symbols_of (moved_right count right)) (Nt b) → count ≤ b.0
      moved_nt Empty b on = none_in (Nt b) on
      moved_nt (One x) b on = let i = nt_is count b x (sym (only_in (moved_symbol count x) (Nt b) on)) in let e = i.number in omega arith
      moved_nt (Two x y) b on = elim (one_of (moved_symbol count x) (moved_symbol count y ∷ []) (Nt b) on) [
        | inl e ↦ (let i = nt_is count b x (sym e) in let f = i.number in omega arith)
        | inr more ↦ (let i = nt_is count b y (sym (only_in (moved_symbol count y) (Nt b) more)) in let f = i.number in omega arith)
      ]

      image_split : (p : Production) → Contains after p → IsNew ps count rule.left m p
      image_split p h = so (adds.only p h)
        where
          so : IsImageProduction ps rule.left count image p → IsNew ps count rule.left m p
          so (IsImageProduction.before old) = IsNew.old old
          so (IsImageProduction.links e) = IsNew.link e
          so (IsImageProduction.moves q among plain e) = IsNew.fresh (let f : p.left.0 ≡ count + q.left.0 = ap (λ (x : Production). x.left.0) e in omega arith) (λ b on. moved_nt q.right b (subst (λ (x : Production). Contains (symbols_of x.right) (Nt b)) e on))

      moved_symbol_below : (x : Symbol) → symbol_below image.count x ≡ true → symbol_below (count + image.count) (moved_symbol count x) ≡ true
      moved_symbol_below (Range r) h = refl
      moved_symbol_below (Token k) h = refl
      moved_symbol_below (Nt a) h = lt-ltb (count + a.0) (count + image.count) (let l = ltb-true a.0 image.count h in omega arith)

      moved_right_below : (right : Right) → list_all (symbol_below image.count) (symbols_of right) ≡ true → list_all (symbol_below (count + image.count)) (symbols_of (moved_right count right)) ≡ true
      moved_right_below Empty h = refl
      moved_right_below (One x) h = both_so (symbol_below (count + image.count) (moved_symbol count x)) true (moved_symbol_below x (first_so (symbol_below image.count x) true h)) refl
      moved_right_below (Two x y) h =
          both_so (symbol_below (count + image.count) (moved_symbol count x)) _ (moved_symbol_below x (first_so (symbol_below image.count x) _ h))
          (both_so (symbol_below (count + image.count) (moved_symbol count y)) true (moved_symbol_below y (first_so (symbol_below image.count y) true (second_so (symbol_below image.count x) _ h))) refl)

      image_below : (p : Production) → Contains after p → production_below (count + image.count) p ≡ true
      image_below p h = so (adds.only p h)
        where
          so : IsImageProduction ps rule.left count image p → production_below (count + image.count) p ≡ true
          so (IsImageProduction.before old) = higher count (count + image.count) (omega arith) p (all_at (production_below count) ps p draft.below old)
          so (IsImageProduction.links e) = subst (λ (q : Production). production_below (count + image.count) q ≡ true) (sym e)
              (both_so (nat_lt rule.left.0 (count + image.count)) _ (lt-ltb rule.left.0 (count + image.count) (let l = left_in rule has in let n = draft.least in omega arith))
              (both_so (nat_lt (count + image.start.0) (count + image.count)) true (lt-ltb (count + image.start.0) (count + image.count) (let l = image.start_below in omega arith)) refl))
          so (IsImageProduction.moves q among plain e) =
              let t = all_at (production_below image.count) image.productions.items q image.below among in
              subst (λ (x : Production). production_below (count + image.count) x ≡ true) (sym e)
              (both_so (nat_lt (count + q.left.0) (count + image.count)) _ (lt-ltb (count + q.left.0) (count + image.count) (let l = ltb-true q.left.0 image.count (first_so (nat_lt q.left.0 image.count) (list_all (symbol_below image.count) (symbols_of q.right)) t) in omega arith))
              (moved_right_below q.right (second_so (nat_lt q.left.0 image.count) (list_all (symbol_below image.count) (symbols_of q.right)) t)))

      plain_moved : (x : Symbol) → is_no_token x ≡ true → is_no_token (moved_symbol count x) ≡ true
      plain_moved (Range r) h = refl
      plain_moved (Token k) h = h
      plain_moved (Nt a) h = refl

      plain_right : (right : Right) → list_all is_no_token (symbols_of right) ≡ true → list_all is_no_token (symbols_of (moved_right count right)) ≡ true
      plain_right Empty h = refl
      plain_right (One x) h = both_so (is_no_token (moved_symbol count x)) true (plain_moved x (first_so (is_no_token x) true h)) refl
      plain_right (Two x y) h =
          both_so (is_no_token (moved_symbol count x)) _ (plain_moved x (first_so (is_no_token x) _ h))
          (both_so (is_no_token (moved_symbol count y)) true (plain_moved y (first_so (is_no_token y) true (second_so (is_no_token x) _ h))) refl)

      image_plain : (p : Production) → Contains after p → production_without_token p ≡ true
      image_plain p h = so (adds.only p h)
        where
          so : IsImageProduction ps rule.left count image p → production_without_token p ≡ true
          so (IsImageProduction.before old) = all_at production_without_token ps p draft.no_token old
          so (IsImageProduction.links e) = subst (λ (q : Production). production_without_token q ≡ true) (sym e) refl
          so (IsImageProduction.moves q among plain e) = subst (λ (x : Production). production_without_token x ≡ true) (sym e) (plain_right q.right plain)

      image_derived : (u w : List ℕ) → TextOf s (Nt rule.operand) u → Rel rule.op u w → Derives after (Nt rule.left) (map OfByte w)
      image_derived u w t out =
          let relates = (machine.exact u w (bytes_of fit rule.operand u t)).1 out in
          let d = (is_image (map OfByte w)).1 (u, operand_derived u t, relates) in
          Derives.by_one rule.left (Nt m) (map OfByte w) adds.link (is_moved count image.productions.items after adds.has (Nt image.start) (map OfByte w) d (plain_text w))

      pub image_done : IsDraft s after (count + image.count) × IsDone s after rule
      image_done = (
        draft_more s ps count draft after (count + image.count) rule.left m (left_in rule has) (omega arith) adds.keeps image_split image_means (omega arith) (all_from (production_below (count + image.count)) after image_below) (all_from production_without_token after image_plain),
        record { outputs = image_derived; circular = λ c w all. absurd (in_none c) },
      )

  -- all rules are done
  pub all_exact : (ps : List Production) (count : ℕ) → IsDraft s ps count → ((rule : OpRule) → Contains s.ops.items rule → IsDone s ps rule) → (a : nt.Nt) → a.0 < N → AreExact s ps (Nt a)
  all_exact ps count draft done a lt w = (
    λ d. draft.sound a w lt d,
    λ h. subst (Derives ps (Nt a)) (sym h.1) (complete s ps (λ c. Unit {0}) draft.base (λ left x among y. tt) (λ left x z among y. (tt, tt)) (λ r among y. done r among) (Nt a) h.0 h.2 tt),
  )
