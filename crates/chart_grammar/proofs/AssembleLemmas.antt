-- All productions of an image together.
use Rattle.std.proofs.Common.{◌≡◌, ℕ, ◌+◌, ◌<◌, inl, inr, zero, suc, Bool, true, ◌&&◌, IsTrue, ltb, List, [], ◌∷◌, length, Contains, refl, sym, ap, subst, arith, Some, slice_get}
use Rattle.std.specs.List.{All, list_all}
use Rattle.std.proofs.lemmas.List.Elements.{All-weaker}
use Rattle.std.proofs.lemmas.Option.{slice_get_within}
use Rattle.std.proofs.lemmas.Bool.{lt-ltb}
use Rattle.text_base.specs.declared.numbers.Nt as nt
use Rattle.cfg_grammar.specs.declared.symbol.Symbol.{Symbol}
use Rattle.cfg_grammar.specs.declared.production.Right.{Right}
use Rattle.cfg_grammar.specs.declared.production.Right.TheVariants.{Empty, One, Two}
use Rattle.cfg_grammar.specs.declared.production.Production.{Production}
use Rattle.cfg_grammar.specs.Below.{symbols_of, symbol_below, production_below, AreBelow}
use Rattle.grammar_chart.specs.declared.keys.Read.{Read}
use Rattle.grammar_chart.specs.declared.keys.Read.TheVariants.{Nothing, First, Both}
use Rattle.grammar_chart.specs.declared.keys.Begun.{Begun}
use Rattle.grammar_chart.specs.declared.keys.Passage.{Passage}
use Rattle.grammar_chart.specs.declared.keys.Reading.{Reading}
use Rattle.chart_grammar.specs.declared.fronts.Front.{Front}
use Rattle.chart_grammar.specs.declared.lifts.Last.{Last}
use Rattle.chart_grammar.specs.Fronts.{StandsFor, nothing, longer}
use Rattle.chart_grammar.specs.Lifts.{nt_of, RightLift, front_right, end_by, FrontLift, IsLift, whole, of_reading, of_front, of_end, AreLifts, HasWhole, HasReading, HasFronts, HasEnd}
use Rattle.chart_grammar.specs.Written.{WritesBehind, WritesAll}
use Rattle.chart_grammar.specs.Writing.{WholeMade, WholeHas, ReadMade, ReadHas, EndMade, EndHas}
use Rattle.chart_grammar.specs.declared.saying.Outputs.{Outputs}
use Rattle.chart_grammar.specs.Paid.{IsPaid, ReadingsPay, EndsPay}
use Rattle.chart_grammar.proofs.PaidLemmas.{none_paid}
use Rattle.chart_grammar.proofs.BehindLemmas.{behind_keeps, behind_only}
use Rattle.chart_grammar.proofs.MonoLemmas.{whole_has, read_has, read_lift_kept, end_has}

none_in : {X : Type 0} (xs : List X) (x : X) → xs ≡ [] → Contains xs x → ⊥
none_in {X} xs x e c = let d : Contains [] x = subst (λ (ys : List X). Contains ys x) e c in absurd (omega (arith, d.1))

pub assembled : (ps : List Production) (from : nt.Nt) (bs : List Begun) (fs : List Passage) (rs : List Reading) (base : ℕ) (ls : List Last) (none start first fr : List Front) (old one two three four : List Production) → old ≡ []
    → WritesAll {X = Front} (WholeMade ps fs) (WholeHas ps fs) bs none none old one → WritesAll (ReadMade fs base) (ReadHas fs base) rs start first one two → WritesAll (EndMade from fs base) (EndHas from fs base) ls first fr two three
    → WritesBehind (λ (p : Production). FrontLift fr base p) three four → HasFronts fr base four → AreLifts ps from bs fs rs fr base ls four
assembled ps from bs fs rs base ls none start first fr old one two three four empty a b c d has =
    record {
      only = λ p h. elim (behind_only (λ (q : Production). FrontLift fr base q) three four d p h) [
        | inr f ↦ of_front f
        | inl h3 ↦ elim (behind_only (λ (q : Production). (x : Last) × Contains ls x × EndMade from fs base fr x q) two three c.puts p h3) [
          | inr e ↦ of_end e.0 e.1 e.2
          | inl h2 ↦ elim (behind_only (λ (q : Production). (x : Reading) × Contains rs x × ReadMade fs base first x q) one two b.puts p h2) [
            | inr r ↦ of_reading r.0 r.2.0 r.1 (read_lift_kept fs base first fr r.0 r.2.0 p c.grows r.2.1)
            | inl h1 ↦ elim (behind_only (λ (q : Production). (x : Begun) × Contains bs x × WholeMade ps fs none x q) old one a.puts p h1) [ inr w ↦ whole w.0 w.1 w.2.0 w.2.1 | inl h0 ↦ absurd (none_in old p empty h0) ]
          ]
        ]
      ];
      wholes = All-weaker (λ (x : Begun). WholeHas ps fs none x one) (λ (x : Begun). HasWhole ps fs x four)
          (λ x h. whole_has ps fs none none x one four (λ n y k. k) (λ p k. kept p (kept_two p (kept_one p k))) h) bs a.has;
      readings = All-weaker (λ (x : Reading). ReadHas fs base first x two) (λ (x : Reading). HasReading fs fr base x four)
          (λ x h. read_has fs base first fr x two four c.grows (λ p k. kept p (kept_two p k)) h) rs b.has;
      fronts = has;
      ends = All-weaker (λ (x : Last). EndHas from fs base fr x three) (λ (x : Last). HasEnd from fs fr base x four)
          (λ x h. end_has from fs base fr fr x three four (λ n y k. k) kept h) ls c.has;
    }
  where
    kept : (p : Production) → Contains three p → Contains four p
    kept p k = behind_keeps (λ (q : Production). FrontLift fr base q) three four d p k

    kept_two : (p : Production) → Contains two p → Contains three p
    kept_two p k = behind_keeps (λ (q : Production). (x : Last) × Contains ls x × EndMade from fs base fr x q) two three c.puts p k

    kept_one : (p : Production) → Contains one p → Contains two p
    kept_one p k = behind_keeps (λ (q : Production). (x : Reading) × Contains rs x × ReadMade fs base first x q) one two b.puts p k

all_true : {X : Type 0} (p : X → Bool) (xs : List X) → ((x : X) → Contains xs x → IsTrue (p x)) → IsTrue (list_all p xs)
all_true p [] h = refl
all_true p (x ∷ xs) h =
    both (p x) (list_all p xs) (h x (0, omega arith, refl)) (all_true p xs (λ y c. h y (suc c.0, (let k = c.1 in omega (arith, k)), c.2)))
  where
    both : (a b : Bool) → IsTrue a → IsTrue b → IsTrue (a && b)
    both a b u v = rw u v

both_true : (a b : Bool) → IsTrue a → IsTrue b → IsTrue (a && b)
both_true a b u v = rw u v

module _ (fs : List Passage) (fr : List Front) (base count : ℕ) (based : base ≡ suc (length fs)) (total : count ≡ base + length fr) where
  nt_below : (n : ℕ) → n < count → IsTrue (symbol_below count (nt_of n))
  nt_below n h = lt-ltb n count h

  passage_below : (k : ℕ) (f : Passage) → slice_get fs k ≡ Some f → suc k < count
  passage_below k f at = let w = slice_get_within fs k f at in omega (arith, w, based, total)

  right_below : (right : Right) (s : ℕ) (read : Read) (lifted : Right) → RightLift fs right s read lifted → IsTrue (list_all (symbol_below count) (symbols_of lifted))
  right_below Empty s Nothing lifted l = subst (λ (r : Right). IsTrue (list_all (symbol_below count) (symbols_of r))) (sym l) refl
  right_below Empty s (First t) lifted l = absurd l
  right_below Empty s (Both t u) lifted l = absurd l
  right_below (One x) s Nothing lifted l = absurd l
  right_below (One x) s (First t) lifted l =
      subst (λ (r : Right). IsTrue (list_all (symbol_below count) (symbols_of r))) (sym l.2)
      (both_true (symbol_below count (nt_of (suc l.0))) true (nt_below (suc l.0) (passage_below l.0 _ l.1)) refl)
  right_below (One x) s (Both t u) lifted l = absurd l
  right_below (Two x y) s Nothing lifted l = absurd l
  right_below (Two x y) s (First t) lifted l = absurd l
  right_below (Two x y) s (Both t u) lifted l =
      subst (λ (r : Right). IsTrue (list_all (symbol_below count) (symbols_of r))) (sym l.4)
      (both_true (symbol_below count (nt_of (suc l.0))) (symbol_below count (nt_of (suc l.1)) && true) (nt_below (suc l.0) (passage_below l.0 _ l.2))
      (both_true (symbol_below count (nt_of (suc l.1))) true (nt_below (suc l.1) (passage_below l.1 _ l.3)) refl))

  stands_below : (n : ℕ) (xs : List Symbol) → StandsFor base fr n xs → n < count
  stands_below n xs nothing = omega (arith, based, total)
  stands_below n xs (longer m before last ys at rest) = let w = slice_get_within fr m _ at in omega (arith, w, total)

  front_below : (n : ℕ) → n < count → IsTrue (list_all (symbol_below count) (symbols_of (front_right n)))
  front_below zero h = refl
  front_below (suc n) h = both_true (symbol_below count (nt_of (suc n))) true (nt_below (suc n) h) refl

  end_below : (k n : ℕ) → k < count → n < count → IsTrue (list_all (symbol_below count) (symbols_of (end_by k n)))
  end_below k zero h l = both_true (symbol_below count (nt_of k)) true (nt_below k h) refl
  end_below k (suc n) h l =
      both_true (symbol_below count (nt_of k)) (symbol_below count (nt_of (suc n)) && true) (nt_below k h) (both_true (symbol_below count (nt_of (suc n))) true (nt_below (suc n) l) refl)

  fits : (p : Production) (n : ℕ) (right : Right) → p.left ≡ record { 0 = n } → n < count → p.right ≡ right → IsTrue (list_all (symbol_below count) (symbols_of right)) → IsTrue (production_below count p)
  fits p n right left h is below =
      both_true (ltb p.left.0 count) (list_all (symbol_below count) (symbols_of p.right))
      (subst (λ (a : nt.Nt). IsTrue (ltb a.0 count)) (sym left) (lt-ltb n count h))
      (subst (λ (r : Right). IsTrue (list_all (symbol_below count) (symbols_of r))) (sym is) below)

  lift_below : (ps : List Production) (from : nt.Nt) (bs : List Begun) (rs : List Reading) (ls : List Last) (p : Production) → IsLift ps from bs fs rs fr base ls p → IsTrue (production_below count p)
  lift_below ps from bs rs ls p (whole b h none l) =
      fits p (suc l.number) p.right l.left (passage_below l.number _ l.passed) refl (right_below l.production.right b.from b.read p.right l.right)
  lift_below ps from bs rs ls p (of_reading r part h l) =
      fits p (suc l.number) (front_right l.front) l.left (passage_below l.number _ l.passed) l.right (front_below l.front (stands_below l.front l.symbols l.stands))
  lift_below ps from bs rs ls p (of_front l) = subst (λ (n : ℕ). IsTrue (production_below n p)) (sym total) l.fits
  lift_below ps from bs rs ls p (of_end l h e) =
      fits p 0 (end_by (suc e.number) e.front) e.left (omega (arith, based, total)) e.right
      (end_below (suc e.number) e.front (passage_below e.number _ e.passed) (stands_below e.front e.symbols e.stands))

  -- each nonterminal of the image is below the count
  pub all_below : (ps : List Production) (from : nt.Nt) (bs : List Begun) (rs : List Reading) (ls : List Last) (qs : List Production) → AreLifts ps from bs fs rs fr base ls qs → AreBelow count qs
  all_below ps from bs rs ls qs lifts = all_true (production_below count) qs (λ p h. lift_below ps from bs rs ls p (lifts.only p h))

-- the same with the lists under the names that the program has for them
pub assembled_at : (ps : List Production) (from : nt.Nt) (bs bs' : List Begun) (fs : List Passage) (rs rs' : List Reading) (base : ℕ) (ls : List Last) (start first fr fr' : List Front) (old one two three four : List Production) → old ≡ [] → bs' ≡ bs → rs' ≡ rs → fr' ≡ fr → base ≡ suc (length fs)
    → WritesAll {X = Front} (WholeMade ps fs) (WholeHas ps fs) bs' [] [] old one → WritesAll (ReadMade fs base) (ReadHas fs base) rs' start first one two → WritesAll (EndMade from fs base) (EndHas from fs base) ls first fr two three
    → WritesBehind (λ (p : Production). FrontLift fr' base p) three four → HasFronts fr' base four → AreLifts ps from bs fs rs fr (suc (length fs)) ls four
assembled_at ps from bs bs' fs rs rs' base ls start first fr fr' old one two three four empty eb er ef based a b c d has =
    subst (λ (n : ℕ). AreLifts ps from bs fs rs fr n ls four) based
    (assembled ps from bs fs rs base ls [] start first fr old one two three four empty
    (subst (λ (xs : List Begun). WritesAll {X = Front} (WholeMade ps fs) (WholeHas ps fs) xs [] [] old one) eb a)
    (subst (λ (xs : List Reading). WritesAll (ReadMade fs base) (ReadHas fs base) xs start first one two) er b) c
    (subst (λ (xs : List Front). WritesBehind (λ (p : Production). FrontLift xs base p) three four) ef d)
    (subst (λ (xs : List Front). HasFronts xs base four) ef has))

-- the same with outputs
pub assembled_outputs : (ps : List Production) (from : nt.Nt) (bs bs' : List Begun) (fs : List Passage) (rs rs' : List Reading) (base : ℕ) (ls : List Last) (o1 o2 o3 : Outputs) (fr : List Front) (wholes old out four : List Production) → old ≡ [] → bs' ≡ bs → rs' ≡ rs → fr ≡ o3.fronts.keys → base ≡ suc (length fs) → o1.out.items ≡ wholes → out ≡ o3.out.items
    → WritesAll {X = Front} (WholeMade ps fs) (WholeHas ps fs) bs' [] [] old wholes → WritesAll (ReadMade fs base) (ReadHas fs base) rs' o1.fronts.keys o2.fronts.keys o1.out.items o2.out.items → WritesAll (EndMade from fs base) (EndHas from fs base) ls o2.fronts.keys o3.fronts.keys o2.out.items o3.out.items
    → WritesBehind (λ (p : Production). FrontLift fr base p) out four → HasFronts fr base four → AreLifts ps from bs fs rs o3.fronts.keys (suc (length fs)) ls four
assembled_outputs ps from bs bs' fs rs rs' base ls o1 o2 o3 fr wholes old out four empty eb er ef based e1 e3 a b c d has =
    assembled_at ps from bs bs' fs rs rs' base ls o1.fronts.keys o2.fronts.keys o3.fronts.keys fr old wholes o2.out.items o3.out.items four empty eb er ef based a
    (subst (λ (qs : List Production). WritesAll (ReadMade fs base) (ReadHas fs base) rs' o1.fronts.keys o2.fronts.keys qs o2.out.items) e1 b) c
    (subst (λ (qs : List Production). WritesBehind (λ (p : Production). FrontLift fr base p) qs four) e3 d) has

-- all that is written is paid for
pub assembled_paid : (from : nt.Nt) (fs : List Passage) (rs rs' : List Reading) (ls : List Last) (base : ℕ) (wholes : List Production) (o1 o2 o3 : Outputs) → rs' ≡ rs → base ≡ suc (length fs) → o1.out.items ≡ wholes → o1.fronts.keys ≡ [] → o1.said.keys ≡ [] → o1.heads.keys ≡ [] → o1.wide.items ≡ []
    → ReadingsPay fs base rs' o1 o2 → EndsPay from fs base ls o2 o3 → IsPaid from fs rs ls (suc (length fs)) (length wholes) o3
assembled_paid from fs rs rs' ls base wholes o1 o2 o3 er based e1 fronts said heads wide reads ends =
    let none = none_paid from fs rs ls base (length wholes) o1 (ap length e1) fronts said heads wide in
    let mid = reads from rs ls (length wholes) (λ r h. subst (λ (xs : List Reading). Contains xs r) er h) none in
    subst (λ (n : ℕ). IsPaid from fs rs ls n (length wholes) o3) based (ends rs ls (length wholes) (λ l h. h) mid)
