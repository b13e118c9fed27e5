-- Outputs at the ends, state by state.
use Rattle.std.proofs.Common.{◌≡◌, ℕ, ◌+◌, ◌⊎◌, ◌↔◌, inl, inr, List, [], ◌∷◌, ◌++◌, map, Contains, refl, sym, ◌∙◌, ap, subst, arith, IsTrue, Some, slice_get}
use Rattle.std.specs.List.{All, list_all}
use Rattle.std.specs.declared.vec.Vec.{Vec}
use Rattle.std.specs.declared.alloc.Global.{Global}
use Rattle.std.proofs.lemmas.List.Elements.{Contains-push_cases, Contains-append_left, Contains-push, All-contains}
use Rattle.std.proofs.lemmas.Bool.{cases_eq}
use Rattle.text_base.specs.declared.letter.Letter.{Letter}
use Rattle.fst_core.specs.Fits.{is_fixed}
use Rattle.fst_core.specs.Letter.{letter_of}
use Rattle.fst_core.specs.Offers.{OffersLast}
use Rattle.fst_core.specs.declared.out.Out.{Out}
use Rattle.chart_grammar.specs.declared.lifts.Last.{Last}
use Rattle.grammar_image.specs.Lasts.{AddsLasts, AreLastsBelow}

-- all outputs but those that are left are added
pub record AddsRest (old new : List Last) (state : ℕ) (outs rest : List (Vec Out Global)) : Type 0 where
  pub keeps : (l : Last) → Contains old l → Contains new l
  pub only : (l : Last) → Contains new l → Contains old l ⊎ ((o : Vec Out Global) × Contains outs o × (l.state ≡ state) × (l.out ≡ o))
  pub has : (o : Vec Out Global) → Contains outs o → Contains rest o ⊎ ((l : Last) × Contains new l × (l.state ≡ state) × (l.out ≡ o))
  pub part : (o : Vec Out Global) → Contains rest o → Contains outs o

pub adds_none : (old : List Last) (state : ℕ) (outs : List (Vec Out Global)) → AddsRest old old state outs outs
adds_none old state outs = record { keeps = λ l h. h; only = λ l h. inl h; has = λ o h. inl h; part = λ o h. h }

pub adds_more : (old mid new : List Last) (state : ℕ) (outs rest left : List (Vec Out Global)) (o : Vec Out Global) → AddsRest old mid state outs rest → rest ≡ left ++ o ∷ [] → new ≡ mid ++ record { state = state; out = o } ∷ [] → AddsRest old new state outs left
adds_more old mid new state outs rest left o so is pushed =
    let one : Last = record { state = state; out = o } in
    let mine : Contains outs o = so.part o (subst (λ (xs : List (Vec Out Global)). Contains xs o) (sym is) (Contains-push left o)) in
    record {
      keeps = λ l h. subst (λ (xs : List Last). Contains xs l) (sym pushed) (Contains-append_left mid (one ∷ []) l (so.keeps l h));
      only = λ l h. elim (Contains-push_cases mid one l (subst (λ (xs : List Last). Contains xs l) pushed h)) [
        | inl m ↦ so.only l m
        | inr e ↦ inr (o, mine, ap (λ (x : Last). x.state) (sym e), ap (λ (x : Last). x.out) (sym e))
      ];
      has = λ x h. elim (so.has x h) [
        | inl r ↦ elim (Contains-push_cases left o x (subst (λ (xs : List (Vec Out Global)). Contains xs x) is r)) [
          | inl k ↦ inl k
          | inr e ↦ inr (one, subst (λ (xs : List Last). Contains xs one) (sym pushed) (Contains-push mid one), refl, e)
        ]
        | inr d ↦ inr (d.0, subst (λ (xs : List Last). Contains xs d.0) (sym pushed) (Contains-append_left mid (one ∷ []) d.0 d.1), d.2, d.3)
      ];
      part = λ x h. so.part x (subst (λ (xs : List (Vec Out Global)). Contains xs x) (sym is) (Contains-append_left left (o ∷ []) x h));
    }

pub adds_done : (old new : List Last) (state : ℕ) (outs rest : List (Vec Out Global)) → rest ≡ [] → AddsRest old new state outs rest → AddsLasts old new state outs
adds_done old new state outs rest e so =
    record {
      keeps = so.keeps;
      only = so.only;
      has = λ o h. elim (so.has o h) [
        | inl r ↦ let c : Contains [] o = subst (λ (xs : List (Vec Out Global)). Contains xs o) e r in absurd (omega (arith, c.1))
        | inr d ↦ d
      ];
    }

pub lasts_none : {S : Type 0} (ends : S → List Letter → Type 0) (states : List S) → AreLastsBelow ends states 0 []
lasts_none ends states = record { only = λ l h. absurd (omega (arith, h.1)); all = λ i s letters below. absurd (omega (arith, below)) }

pub lasts_more : {S : Type 0} (ends : S → List Letter → Type 0) (states : List S) (n : ℕ) (s : S) (outs : List (Vec Out Global)) (old new : List Last) → slice_get states n ≡ Some s → ((letters : List Letter) → OffersLast outs letters ↔ ends s letters) → All (λ out. IsTrue (list_all is_fixed out.items)) outs → AddsLasts old new n outs → AreLastsBelow ends states n old → AreLastsBelow ends states (n + 1) new
lasts_more {S} ends states n s outs old new at exact fixed adds before =
    record {
      only = λ l h. elim (adds.only l h) [
        | inl o ↦ before.only l o
        | inr d ↦
            let same : l.out.items ≡ (d.0).items = ap (λ (x : Vec Out Global). x.items) d.3 in
            let f : IsTrue (list_all is_fixed l.out.items) = subst (λ (xs : List Out). IsTrue (list_all is_fixed xs)) (sym same) (All-contains (λ (x : Vec Out Global). IsTrue (list_all is_fixed x.items)) outs d.0 fixed d.1) in
            record {
              source = s;
              is_source = ap (slice_get states) d.2 ∙ at;
              fixed = f;
              ends_so = (exact (map (letter_of 0) l.out.items)).0 (d.0, d.1, ap (λ (xs : List Out). map (letter_of 0) xs) (sym same));
            }
      ];
      all = λ i t letters below found e. elim (cases_eq i n) [
        | inl eq ↦
            let one : Some t ≡ Some s = sym found ∙ (ap (slice_get states) eq ∙ at) in
            let same : t ≡ s = cc in
            let o = (exact letters).1 (subst (λ (x : S). ends x letters) same e) in
            let l = adds.has o.0 o.1 in
            (l.0, l.1, l.2 ∙ sym eq, ap (λ (x : Vec Out Global). map (letter_of 0) x.items) l.3 ∙ o.2)
        | inr other ↦ let l = before.all i t letters (omega (arith, below, other)) found e in (l.0, adds.keeps l.0 l.1, l.2, l.3)
      ];
    }
