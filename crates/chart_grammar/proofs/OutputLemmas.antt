-- The productions of outputs.
use Rattle.std.proofs.Common.{◌≡◌, ℕ, ◌+◌, ◌<◌, ◌≤◌, inl, inr, suc, List, [], ◌∷◌, ◌++◌, length, Contains, refl, sym, ◌∙◌, ap, subst, arith, add-one, Some, slice_get}
use Rattle.std.proofs.lemmas.Bool.{cases_eq}
use Rattle.text_base.specs.declared.byte_range.ByteRange.{ByteRange}
use Rattle.text_base.specs.declared.numbers.Nt as nt
use Rattle.text_base.specs.ByteRange.{InRange}
use Rattle.cfg_grammar.specs.declared.symbol.Symbol.{Symbol}
use Rattle.cfg_grammar.specs.declared.symbol.Symbol.TheVariants.{Range, Nt}
use Rattle.cfg_grammar.specs.declared.production.Right.{Right}
use Rattle.cfg_grammar.specs.declared.production.Production.{Production}
use Rattle.fst_core.specs.declared.out.Out.{Out}
use Rattle.numbered_sets.specs.Numbers.{Keeps}
use Rattle.grammar_chart.specs.declared.keys.Passage.{Passage}
use Rattle.grammar_chart.specs.declared.keys.Reading.{Reading}
use Rattle.chart_grammar.specs.declared.fronts.Front.{Front}
use Rattle.chart_grammar.specs.declared.lifts.Last.{Last}
use Rattle.chart_grammar.specs.Outs.{IsOutput}
use Rattle.chart_grammar.specs.Fronts.{StandsFor}
use Rattle.chart_grammar.specs.Lifts.{ReadLift, EndLift, FrontLift, front_production, front_right, end_by}
use Rattle.cfg_grammar.specs.Below.{production_below}
use Rattle.std.specs.Prelude.{IsTrue}
use Rattle.chart_grammar.specs.Writing.{ReadMade, ReadHas, HasPart, HasByte, WritesSome, AddsFront}
use Rattle.chart_grammar.specs.Written.{WritesBehind, WritesOne}
use Rattle.chart_grammar.proofs.BehindLemmas.{behind_none, behind_pushed, behind_both, behind_weaker, behind_keeps}
use Rattle.chart_grammar.proofs.MonoLemmas.{read_lift_kept}
use Rattle.chart_grammar.proofs.WriteLemmas.{pushed_in}

nt_at : (a : nt.Nt) (k : ℕ) → a.0 ≡ k + 1 → a ≡ record { 0 = suc k }
nt_at a k e = ap (λ (n : ℕ). let b : nt.Nt = record { 0 = n } in b) (e ∙ add-one k)

pub part_lift : (fs : List Passage) (fr : List Front) (base : ℕ) (r : Reading) (part : ByteRange) (a : nt.Nt) (outs : List Out) (symbols stood : List Symbol) (front : ℕ) (right : Right) → ((k : ℕ) × (slice_get fs k ≡ Some (record { symbol = Range r.asked; from = r.from; to = r.to })) × (a.0 ≡ k + 1)) → r.range.lo ≤ part.lo → part.hi ≤ r.range.hi → outs ≡ r.out.items → IsOutput part outs symbols → stood ≡ symbols → StandsFor base fr front stood → right ≡ front_right front → ReadLift fs fr base r part (record { left = a; right = right })
part_lift fs fr base r part a outs symbols stood front right at low high is puts same stands e =
    record {
      number = at.0;
      passed = at.1;
      low = low;
      high = high;
      symbols = symbols;
      outs = subst (λ (xs : List Out). IsOutput part xs symbols) is puts;
      front = front;
      stands = subst (λ (xs : List Symbol). StandsFor base fr front xs) same stands;
      left = nt_at a at.0 at.2;
      right = e;
    }

pub end_lift : (from : nt.Nt) (fs : List Passage) (fr : List Front) (base : ℕ) (l : Last) (range : ByteRange) (a : nt.Nt) (outs : List Out) (symbols stood : List Symbol) (front : ℕ) (right : Right) → ((k : ℕ) × (slice_get fs k ≡ Some (record { symbol = Nt from; from = 0; to = l.state })) × (a.0 ≡ k + 1)) → outs ≡ l.out.items → IsOutput range outs symbols → stood ≡ symbols → StandsFor base fr front stood → right ≡ end_by a.0 front → EndLift from fs fr base l (record { left = record { 0 = 0 }; right = right })
end_lift from fs fr base l range a outs symbols stood front right at is puts same stands e =
    record {
      number = at.0;
      passed = at.1;
      range = range;
      symbols = symbols;
      outs = subst (λ (xs : List Out). IsOutput range xs symbols) is puts;
      front = front;
      stands = subst (λ (xs : List Symbol). StandsFor base fr front xs) same stands;
      left = refl;
      right = e ∙ ap (λ (n : ℕ). end_by n front) (at.2 ∙ add-one at.0);
    }

pub some_none : (fs : List Passage) (base : ℕ) (r : Reading) (w : List Front) (old : List Production) → WritesSome fs base r w w old old
some_none fs base r w old = record { grows = λ n x h. h; puts = behind_none (λ (p : Production). ReadMade fs base w r p) old }

pub some_pushed : (fs : List Passage) (base : ℕ) (r : Reading) (w v : List Front) (old new : List Production) (part : ByteRange) (p : Production) → Keeps w v → new ≡ old ++ p ∷ [] → ReadLift fs v base r part p → WritesSome fs base r w v old new
some_pushed fs base r w v old new part p grows is lift =
    record {
      grows = grows;
      puts = behind_pushed (λ (x : Production). ReadMade fs base v r x) old new p is (part, lift);
    }

pub some_both : (fs : List Passage) (base : ℕ) (r : Reading) (w v u : List Front) (old mid new : List Production) → WritesSome fs base r w v old mid → WritesSome fs base r v u mid new → WritesSome fs base r w u old new
some_both fs base r w v u old mid new a b =
    record {
      grows = λ n x h. b.grows n x (a.grows n x h);
      puts = behind_both (λ (p : Production). ReadMade fs base v r p) (λ (p : Production). ReadMade fs base u r p) old mid new a.puts
          (λ p d. (d.0, read_lift_kept fs base v u r d.0 p b.grows d.1)) b.puts;
    }

pub byte_kept : (fs : List Passage) (base : ℕ) (r : Reading) (w v : List Front) (byte : ℕ) (old new : List Production) → Keeps w v → ((p : Production) → Contains old p → Contains new p) → HasByte fs base r w byte old → HasByte fs base r v byte new
byte_kept fs base r w v byte old new grows keeps h = λ passed.
    let x = h passed in
    (x.0, x.1, x.2, keeps x.1 x.3, read_lift_kept fs base w v r x.0 x.1 grows x.4)

-- the first bytes are written
pub record BytesWritten (fs : List Passage) (base : ℕ) (r : Reading) (n : ℕ) (w v : List Front) (old new : List Production) : Type 0 where
  pub some : WritesSome fs base r w v old new
  pub has : (byte : ℕ) → byte < n → InRange r.range byte → HasByte fs base r v byte new

pub bytes_none : (fs : List Passage) (base : ℕ) (r : Reading) (w : List Front) (old : List Production) → BytesWritten fs base r 0 w w old old
bytes_none fs base r w old = record { some = some_none fs base r w old; has = λ byte below. absurd (omega (arith, below)) }

pub bytes_more : (fs : List Passage) (base : ℕ) (r : Reading) (n : ℕ) (w v u : List Front) (old mid new : List Production) → BytesWritten fs base r n w v old mid → WritesSome fs base r v u mid new → (InRange r.range n → HasByte fs base r u n new) → BytesWritten fs base r (n + 1) w u old new
bytes_more fs base r n w v u old mid new before some has =
    record {
      some = some_both fs base r w v u old mid new before.some some;
      has = λ byte below within. elim (cases_eq byte n) [
        | inl e ↦ subst (λ (b : ℕ). HasByte fs base r u b new) (sym e) (has (subst (λ (b : ℕ). InRange r.range b) e within))
        | inr other ↦ byte_kept fs base r v u byte mid new some.grows (behind_keeps (λ (p : Production). ReadMade fs base u r p) mid new some.puts) (before.has byte (omega (arith, below, other)) within)
      ];
    }

pub one_of_some : (fs : List Passage) (base : ℕ) (r : Reading) (w v : List Front) (old new : List Production) → WritesSome fs base r w v old new → ReadHas fs base v r new → WritesOne (ReadMade fs base) (ReadHas fs base) r w v old new
one_of_some fs base r w v old new some has = record { grows = some.grows; puts = some.puts; has = has }

-- the production of a front is pushed, or left out
pub front_pushed : (base count n : ℕ) (f : Front) (p : Production) (old new : List Production) → p ≡ front_production base n f → IsTrue (production_below count p) → new ≡ old ++ p ∷ [] → AddsFront base count n f old new
front_pushed base count n f p old new e fits is =
    record {
      puts = behind_pushed (λ (x : Production). (x ≡ front_production base n f) × IsTrue (production_below count x)) old new p is (e, fits);
      has = λ h. subst (λ (x : Production). Contains new x) e (pushed_in old new p is);
    }

pub front_left_out : (base count n : ℕ) (f : Front) (p : Production) (old : List Production) → p ≡ front_production base n f → (IsTrue (production_below count p) → ⊥) → AddsFront base count n f old old
front_left_out base count n f p old e fits =
    record {
      puts = behind_none (λ (x : Production). (x ≡ front_production base n f) × IsTrue (production_below count x)) old;
      has = λ h. absurd (fits (subst (λ (x : Production). IsTrue (production_below count x)) (sym e) h));
    }

-- the first fronts are written
pub record FrontsWritten (fr : List Front) (base count n : ℕ) (old new : List Production) : Type 0 where
  pub puts : WritesBehind (λ (p : Production). FrontLift fr base p) old new
  pub has : (i : ℕ) (f : Front) → i < n → slice_get fr i ≡ Some f → IsTrue (production_below count (front_production base i f)) → Contains new (front_production base i f)

pub fronts_none : (fr : List Front) (base count : ℕ) (old : List Production) → FrontsWritten fr base count 0 old old
fronts_none fr base count old = record { puts = behind_none (λ (p : Production). FrontLift fr base p) old; has = λ i f below. absurd (omega (arith, below)) }

pub fronts_more : (fr : List Front) (base count n : ℕ) (f : Front) (old mid new : List Production) → count ≡ base + length fr → slice_get fr n ≡ Some f → AddsFront base count n f mid new → FrontsWritten fr base count n old mid → FrontsWritten fr base count (n + 1) old new
fronts_more fr base count n f old mid new total at adds before =
    record {
      puts = behind_both (λ (p : Production). FrontLift fr base p) (λ (p : Production). FrontLift fr base p) old mid new before.puts (λ p h. h)
          (behind_weaker made (λ (p : Production). FrontLift fr base p) mid new lifted adds.puts);
      has = λ i g below found fits. elim (cases_eq i n) [
        | inl eq ↦
            let s : Some f ≡ Some g = sym at ∙ (ap (slice_get fr) (sym eq) ∙ found) in
            let same : f ≡ g = cc in
            let e : front_production base i g ≡ front_production base n f =
            ap (λ (j : ℕ). front_production base j g) eq ∙ ap (λ (x : Front). front_production base n x) (sym same) in
            subst (λ (x : Production). Contains new x) (sym e) (adds.has (subst (λ (x : Production). IsTrue (production_below count x)) e fits))
        | inr other ↦ behind_keeps made mid new adds.puts (front_production base i g) (before.has i g (omega (arith, below, other)) found fits)
      ];
    }
  where
    made : Production → Type 0
    made p = (p ≡ front_production base n f) × IsTrue (production_below count p)

    lifted : (p : Production) → made p → FrontLift fr base p
    lifted p same =
        record {
          number = n;
          front = f;
          at = at;
          left = ap (λ (x : Production). x.left) same.0;
          right = ap (λ (x : Production). x.right) same.0;
          fits = subst (λ (m : ℕ). IsTrue (production_below m p)) total same.1;
        }

pub byte_of_part : (fs : List Passage) (base : ℕ) (r : Reading) (fr : List Front) (part : ByteRange) (byte : ℕ) (qs : List Production) → HasPart fs base r fr part qs → part.lo ≤ byte → byte ≤ part.hi → HasByte fs base r fr byte qs
byte_of_part fs base r fr part byte qs h low high = λ passed. let x = h passed in (part, x.0, (low, high), x.1, x.2)
