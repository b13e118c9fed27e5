-- What is closed over pairs knows of short sentences.
use Rattle.std.proofs.Common.{◌≡◌, ℕ, ◌+◌, ◌<◌, ◌≤◌, ◌⊎◌, inl, inr, List, [], ◌∷◌, ◌++◌, length, Contains, refl, sym, ◌∙◌, ap, subst, arith, Some, slice_get}
use Rattle.std.proofs.lemmas.Bool.{cases_lt}
use Rattle.std.proofs.lemmas.Option.{slice_get_within}
use Rattle.text_base.specs.declared.letter.Letter.{Letter}
use Rattle.text_base.specs.declared.letter.Letter.TheVariants.{OfByte, OfToken}
use Rattle.text_base.specs.declared.page_token.PageToken.{PageToken}
use Rattle.text_base.specs.declared.numbers.Nt as nt
use Rattle.cfg_grammar.specs.declared.symbol.Symbol.{Symbol}
use Rattle.cfg_grammar.specs.declared.symbol.Symbol.TheVariants.{Range, Token, Nt}
use Rattle.cfg_grammar.specs.declared.production.Right.TheVariants.{One, Two}
use Rattle.cfg_grammar.specs.declared.production.Production.{Production}
use Rattle.cfg_grammar.specs.Derives.{Derives}
use Rattle.derivations.specs.declared.node.Part.TheVariants.{Inner}
use Rattle.derivations.specs.declared.node.Node.{Node}
use Rattle.derivations.specs.Nodes.{part_length}
use Rattle.derivations.specs.Lawful.{byte_count}
use Rattle.useful_nonterminals.specs.Useful.{IsUseful}
use Rattle.summary_decision.specs.Pairs.{tokens_in}
use Rattle.summary_decision.specs.Closed.{Pair}
use Rattle.summary_decision.proofs.ClosedLemmas.{tokens_append}
use Rattle.short_sentences.specs.Closed.{HasSum, IsClosed, IsTaken, IsCompleteBelow}

pub count_append : (v w : List Letter) → byte_count (v ++ w) ≡ byte_count v + byte_count w
count_append [] w = omega arith
count_append (OfByte b ∷ v) w = let e = count_append v w in omega (arith, e)
count_append (OfToken t ∷ v) w = count_append v w

module _ {S : Type 0} (sum_of : List PageToken → S) (composed : S → S → S) where
  -- a sum among the first so many, and one more
  cases_more : (pairs : List (Pair S)) (nodes : List Node) (n : ℕ) (a : nt.Nt) (s : S) → slice_get pairs n ≡ Some (a.0, s) → (b : Symbol) (t : S) (m : ℕ) → HasSum sum_of composed pairs nodes (n + 1) b t m → HasSum sum_of composed pairs nodes n b t m ⊎ ((b ≡ Nt a) × (t ≡ s) × (m ≡ part_length nodes (Inner n)))
  cases_more pairs nodes n a s at (Range range) t m h = inl h
  cases_more pairs nodes n a s at (Token token) t m h = inl h
  cases_more pairs nodes n a s at (Nt b) t m h = elim (cases_lt h.0 n) [
    | inl l ↦ inl (h.0, l, h.2, h.3)
    | inr l ↦
        let same : h.0 ≡ n = omega (arith, l, h.1) in
        let one : Some (a.0, s) ≡ Some (b.0, t) = sym at ∙ ap (slice_get pairs) (sym same) ∙ h.2 in
        let pair : (a.0, s) ≡ (b.0, t) = cc in
        inr (
          ap (λ (p : Pair S). Nt (record { 0 = p.0 })) (sym pair),
          ap (λ (p : Pair S). p.1) (sym pair),
          sym h.3 ∙ ap (λ (k : ℕ). part_length nodes (Inner k)) same,
        )
  ]

  -- a production whose symbol is the pair's nonterminal
  renamed_one : (ps : List Production) (left a : nt.Nt) (b : Symbol) → b ≡ Nt a → Contains ps (record { left = left; right = One b }) → Contains ps (record { left = left; right = One (Nt a) })
  renamed_one ps left a b e c = subst (λ (x : Symbol). Contains ps (record { left = left; right = One x })) e c

  renamed_first : (ps : List Production) (left a : nt.Nt) (b c : Symbol) → b ≡ Nt a → Contains ps (record { left = left; right = Two b c }) → Contains ps (record { left = left; right = Two (Nt a) c })
  renamed_first ps left a b c e h = subst (λ (x : Symbol). Contains ps (record { left = left; right = Two x c })) e h

  renamed_second : (ps : List Production) (left a : nt.Nt) (b c : Symbol) → c ≡ Nt a → Contains ps (record { left = left; right = Two b c }) → Contains ps (record { left = left; right = Two b (Nt a) })
  renamed_second ps left a b c e h = subst (λ (x : Symbol). Contains ps (record { left = left; right = Two b x })) e h

  module _ (Found : Pair S → ℕ → Type 0) (ps : List Production) (start : nt.Nt) (pairs : List (Pair S)) (nodes : List Node) where
    pub takes_one : (n : ℕ) (a : nt.Nt) (s : S) → slice_get pairs n ≡ Some (a.0, s) → IsClosed sum_of composed Found ps start pairs nodes n → IsTaken sum_of composed Found ps start pairs nodes n a s (part_length nodes (Inner n)) → IsClosed sum_of composed Found ps start pairs nodes (n + 1)
    takes_one n a s at closed taken =
        record {
          empties = closed.empties;
          ones = λ left b t l c u h. elim (cases_more pairs nodes n a s at b t l h) [
            | inl old ↦ closed.ones left b t l c u old
            | inr new ↦ found_at left t s l (part_length nodes (Inner n)) new.1 new.2 (taken.ones left (renamed_one ps left a b new.0 c) u)
          ];
          twos = λ left b d t r l m c u h k. elim (cases_more pairs nodes n a s at b t l h) [
            | inr new ↦
                found_at left (composed t r) (composed s r) (l + m) (part_length nodes (Inner n) + m) (ap (λ (x : S). composed x r) new.1) (let e = new.2 in omega (arith, e))
                (taken.firsts left d r m (renamed_first ps left a b d new.0 c) u k)
            | inl old ↦ elim (cases_more pairs nodes n a s at d r m k) [
              | inl both ↦ closed.twos left b d t r l m c u old both
              | inr new ↦
                  found_at left (composed t r) (composed t s) (l + m) (part_length nodes (Inner n) + l) (ap (composed t) new.1) (let e = new.2 in omega (arith, e))
                  (taken.seconds left b t l (renamed_second ps left a b d new.0 c) u old)
            ]
          ];
        }
      where
        found_at : (left : nt.Nt) (x y : S) (k l : ℕ) → x ≡ y → k ≡ l → Found (left.0, y) l → Found (left.0, x) k
        found_at left x y k l e f h = subst (λ (z : S). Found (left.0, z) k) (sym e) (subst (λ (i : ℕ). Found (left.0, y) i) (sym f) h)

    module _ (appended : (u v : List PageToken) → sum_of (u ++ v) ≡ composed (sum_of u) (sum_of v)) (bound : ℕ) (closed : IsClosed sum_of composed Found ps start pairs nodes (length pairs)) (settled : (x : Pair S) (l : ℕ) → l < bound → Found x l → (j : ℕ) × (slice_get pairs j ≡ Some x) × (part_length nodes (Inner j) ≤ l)) where
      joined : (v w : List Letter) → composed (sum_of (tokens_in v)) (sum_of (tokens_in w)) ≡ sum_of (tokens_in (v ++ w))
      joined v w = sym (appended (tokens_in v) (tokens_in w)) ∙ ap sum_of (sym (tokens_append v w))

      -- the symbols of a useful production that derive something are useful
      useful_first : (left : nt.Nt) (b c : Symbol) (u v : List Letter) → IsUseful ps start left → Contains ps (record { left = left; right = Two b c }) → Derives ps b u → Derives ps c v → (x : nt.Nt) → b ≡ Nt x → IsUseful ps start x
      useful_first left b c u v serves i d e x same =
          IsUseful.as_first left x c u v serves (renamed_first ps left x b c same i) (subst (λ (y : Symbol). Derives ps y u) same d) e

      useful_second : (left : nt.Nt) (b c : Symbol) (u v : List Letter) → IsUseful ps start left → Contains ps (record { left = left; right = Two b c }) → Derives ps b u → Derives ps c v → (x : nt.Nt) → c ≡ Nt x → IsUseful ps start x
      useful_second left b c u v serves i d e x same =
          IsUseful.as_second left x b u v serves (renamed_second ps left x b c same i) d (subst (λ (y : Symbol). Derives ps y v) same e)

      useful_alone : (left : nt.Nt) (b : Symbol) (w : List Letter) → IsUseful ps start left → Contains ps (record { left = left; right = One b }) → Derives ps b w → (x : nt.Nt) → b ≡ Nt x → IsUseful ps start x
      useful_alone left b w serves i d x same =
          IsUseful.alone left x w serves (renamed_one ps left x b same i) (subst (λ (y : Symbol). Derives ps y w) same d)

      abbrev Within : Symbol → List Letter → Type 0
      Within a w = (l : ℕ) × (l ≤ byte_count w) × HasSum sum_of composed pairs nodes (length pairs) a (sum_of (tokens_in w)) l

      there : (left : nt.Nt) (w : List Letter) (l : ℕ) → l ≤ byte_count w → byte_count w < bound → Found (left.0, sum_of (tokens_in w)) l → Within (Nt left) w
      there left w l short less h =
          let p = settled (left.0, sum_of (tokens_in w)) l (omega (arith, short, less)) h in
          (part_length nodes (Inner p.0), omega (arith, p.2, short), (p.0, slice_get_within pairs p.0 (left.0, sum_of (tokens_in w)) p.1, p.1, refl))

      short_sum : (a : Symbol) (w : List Letter) → byte_count w < bound → ((x : nt.Nt) → a ≡ Nt x → IsUseful ps start x) → Derives ps a w → Within a w
      short_sum a w less serves (Derives.by_range range byte i) = (1, omega arith, (refl, refl))
      short_sum a w less serves (Derives.by_token token) = (0, omega arith, (refl, refl))
      short_sum a w less serves (Derives.by_empty left c) = there left [] 0 (omega arith) less (closed.empties left c (serves left refl))
      short_sum a w less serves (Derives.by_one left b v c d) =
          let h = short_sum b v less (useful_alone left b v (serves left refl) c d) d in
          there left v h.0 h.1 less (closed.ones left b (sum_of (tokens_in v)) h.0 c (serves left refl) h.2)
      short_sum a w less serves (Derives.by_two left b c u v m d e) =
          let k = count_append u v in
          let h = short_sum b u (omega (arith, less, k)) (useful_first left b c u v (serves left refl) m d e) d in
          let i = short_sum c v (omega (arith, less, k)) (useful_second left b c u v (serves left refl) m d e) e in
          there left (u ++ v) (h.0 + i.0) (omega (arith, h.1, i.1, k)) less
          (subst (λ (s : S). Found (left.0, s) (h.0 + i.0)) (joined u v) (closed.twos left b c (sum_of (tokens_in u)) (sum_of (tokens_in v)) h.0 i.0 m (serves left refl) h.2 i.2))

      -- each shorter sentence has its pair
      pub complete_below : IsCompleteBelow sum_of composed ps start pairs nodes bound
      complete_below a w less serves d =
          let h = short_sum (Nt a) w less (λ x e. subst (IsUseful ps start) (same e) serves) d in
          (h.2.0, h.2.2, (let e = h.2.3 in omega (arith, h.1, e)))
        where
          same : {a x : nt.Nt} → Nt a ≡ Nt x → a ≡ x
          same e = cc
