-- A run of bytes more among moves.
use Rattle.std.specs.Prelude.{◌≡◌, ℕ, ◌+◌, ◌≤◌, ◌↔◌, true, List, [], ◌∷◌, ◌++◌, map, All, Contains, refl}
use Rattle.std.proofs.Common.{ap, sym, subst, ◌∙◌, rules, arith, inl, inr, IsTrue}
use Rattle.std.specs.Cmp.{first_so, second_so}
use Rattle.std.specs.List.{list_all}
use Rattle.std.specs.declared.vec.Vec.{Vec}
use Rattle.std.specs.declared.alloc.Global.{Global}
use Rattle.std.specs.Cmp.Lexicographic.{pointwise}
use Rattle.std.proofs.lemmas.Bool.{cases_lt}
use Rattle.std.proofs.lemmas.List.Elements.{Contains-push_cases, Contains-append_left, Contains-push, All-push, All-nil, All-contains}
use Rattle.fst_core.proofs.LayerLemmas.{All-from_contains}
use Rattle.text_base.specs.Exactness.{IsExact}
use Rattle.text_base.specs.declared.byte_range.ByteRange.{ByteRange}
use Rattle.text_base.specs.ByteRange.{InRange}
use Rattle.text_base.specs.declared.letter.Letter.{Letter}
use Rattle.text_base.specs.declared.letter.Letter.TheVariants.{OfToken}
use Rattle.text_base.specs.declared.page_token.PageToken.{PageToken}
use Rattle.fst_core.specs.Letter.{letter_of}
use Rattle.fst_core.specs.Fits.{is_fixed}
use Rattle.fst_core.specs.Offers.{OffersLast}
use Rattle.fst_core.specs.declared.machine.Move.{Move}
use Rattle.fst_core.specs.declared.out.Out.{Out}
use Rattle.fst_core.specs.declared.out.Out.TheVariants.{Same, Token}
use Rattle.fst_core.specs.contracts.out.OutPartialEq.TheImpl as outs
use Rattle.echoing_machine.specs.Groups.{IsBetween, AddsRun, AreMovesBelow, echo_letters}
use Rattle.echoing_machine.specs.Runs.{AreAlike}

exact_out : IsExact (outs.ghosts).eq
exact_out = search rules

pub exact_outs : (xs ys : List Out) → pointwise (outs.ghosts).eq xs ys ≡ true → xs ≡ ys
exact_outs [] [] h = refl
exact_outs [] (y ∷ ys) h = cc
exact_outs (x ∷ xs) [] h = cc
exact_outs (x ∷ xs) (y ∷ ys) h =
    let e : x ≡ y = exact_out x y (first_so ((outs.ghosts).eq x y) (pointwise (outs.ghosts).eq xs ys) h) in
    let f : xs ≡ ys = exact_outs xs ys (second_so ((outs.ghosts).eq x y) (pointwise (outs.ghosts).eq xs ys) h) in
    ap (λ (z : Out). z ∷ xs) e ∙ ap (λ (zs : List Out). y ∷ zs) f

wider : {S : Type 0} (lo n m : ℕ) (old : List (Move S)) → n ≤ m → All (IsBetween lo n) old → All (IsBetween lo m) old
wider lo n m old h a = λ k d i. ((a k d i).0, omega (arith, (a k d i).1, h))

pub adds_alone : {S : Type 0} (old new : List (Move S)) (m : Move S) → new ≡ old ++ m ∷ [] → AddsRun old new m.range m.to m.out.items
adds_alone {S} old new m e =
    record {
      exact = λ b t letters. (
        λ f. elim (Contains-push_cases old m f.0 (subst (λ (y : List (Move S)). Contains y f.0) e f.1)) [
          | inl d ↦ inl (f.0, d, f.2, f.3, f.4)
          | inr d ↦ inr (
            subst (λ (y : Move S). InRange y.range b) (sym d) f.2,
            ap (λ (y : Move S). y.to) d ∙ f.3,
            ap (λ (y : Move S). map (letter_of b) y.out.items) d ∙ f.4,
          )
        ],
        λ f. elim f [
          | inl d ↦ (d.0, subst (λ (y : List (Move S)). Contains y d.0) (sym e) (Contains-append_left old (m ∷ []) d.0 d.1), d.2, d.3, d.4)
          | inr d ↦ (m, subst (λ (y : List (Move S)). Contains y m) (sym e) (Contains-push old m), d.0, d.1, d.2)
        ],
      );
      within = λ lo h a.
          let before : All (IsBetween lo (m.range.hi + 1)) old = wider lo m.range.lo (m.range.hi + 1) old (omega (arith, m.range.ordered)) a in
          subst (λ (y : List (Move S)). All (IsBetween lo (m.range.hi + 1)) y) (sym e) (All-push (IsBetween lo (m.range.hi + 1)) old m before (h, omega arith));
    }

pub adds_longer : {S : Type 0} (old new : List (Move S)) (last m : Move S) (run : ByteRange) → last.range.hi + 1 ≡ run.lo → m.range.lo ≡ last.range.lo → m.range.hi ≡ run.hi
    → m.out.items ≡ last.out.items → m.to ≡ last.to → new ≡ old ++ m ∷ [] → AddsRun (old ++ last ∷ []) new run last.to last.out.items
adds_longer {S} old new last m run before lo hi out to e =
    record {
      exact = λ b t letters. (
        λ f. elim (Contains-push_cases old m f.0 (subst (λ (y : List (Move S)). Contains y f.0) e f.1)) [
          | inl d ↦ inl (f.0, Contains-append_left old (last ∷ []) f.0 d, f.2, f.3, f.4)
          | inr d ↦
              let i : InRange m.range b = subst (λ (y : Move S). InRange y.range b) (sym d) f.2 in
              let goes : last.to ≡ t = sym to ∙ (ap (λ (y : Move S). y.to) d ∙ f.3) in
              let writes : map (letter_of b) last.out.items ≡ letters = ap (λ (y : List Out). map (letter_of b) y) (sym out) ∙ (ap (λ (y : Move S). map (letter_of b) y.out.items) d ∙ f.4) in
              elim (cases_lt b run.lo) [
                | inl s ↦ inl (last, Contains-push old last, (omega (arith, i.0, lo), omega (arith, s, before)), goes, writes)
                | inr s ↦ inr ((s, omega (arith, i.1, hi)), goes, writes)
              ]
        ],
        λ f. elim f [
          | inl d ↦ elim (Contains-push_cases old last d.0 d.1) [
            | inl g ↦ (d.0, subst (λ (y : List (Move S)). Contains y d.0) (sym e) (Contains-append_left old (m ∷ []) d.0 g), d.2, d.3, d.4)
            | inr g ↦
                let i : InRange last.range b = subst (λ (y : Move S). InRange y.range b) (sym g) d.2 in (
                  m,
                  subst (λ (y : List (Move S)). Contains y m) (sym e) (Contains-push old m),
                  (omega (arith, i.0, lo), omega (arith, i.1, hi, before, run.ordered)),
                  to ∙ (ap (λ (y : Move S). y.to) g ∙ d.3),
                  ap (λ (y : List Out). map (letter_of b) y) out ∙ (ap (λ (y : Move S). map (letter_of b) y.out.items) g ∙ d.4),
                )
          ]
          | inr d ↦ (
            m,
            subst (λ (y : List (Move S)). Contains y m) (sym e) (Contains-push old m),
            (omega (arith, d.0.0, lo, before, last.range.ordered), omega (arith, d.0.1, hi)),
            to ∙ d.1,
            ap (λ (y : List Out). map (letter_of b) y) out ∙ d.2,
          )
        ],
      );
      within = λ from h a.
          let inner : All (IsBetween from run.lo) old = All-from_contains (IsBetween from run.lo) old (λ x g. All-contains (IsBetween from run.lo) (old ++ last ∷ []) x a (Contains-append_left old (last ∷ []) x g)) in
          let own : IsBetween from run.lo last = All-contains (IsBetween from run.lo) (old ++ last ∷ []) last a (Contains-push old last) in
          let wide : All (IsBetween from (run.hi + 1)) old = wider from run.lo (run.hi + 1) old (omega (arith, run.ordered)) inner in
          subst (λ (y : List (Move S)). All (IsBetween from (run.hi + 1)) y) (sym e) (All-push (IsBetween from (run.hi + 1)) old m wide (omega (arith, own.0, lo), omega (arith, hi)));
    }

echo_outs : (tokens : List PageToken) (byte : ℕ) → map (letter_of byte) (map Token tokens ++ Same ∷ []) ≡ echo_letters tokens byte
echo_outs [] byte = refl
echo_outs (t ∷ ts) byte = ap (λ (w : List Letter). OfToken t ∷ w) (echo_outs ts byte)

pub last_outs : (tokens : List PageToken) → map (letter_of 0) (map Token tokens) ≡ map OfToken tokens
last_outs [] = refl
last_outs (t ∷ ts) = ap (λ (w : List Letter). OfToken t ∷ w) (last_outs ts)

pub none_yet : {S : Type 0} (next : ℕ → S) (puts : ℕ → List PageToken) (lo : ℕ) → AreMovesBelow next puts lo lo []
none_yet {S} next puts lo =
    record {
      exact = λ b h g t letters. absurd (omega (arith, h, g));
      within = All-nil (IsBetween lo lo);
    }

pub run_more : {S : Type 0} (next : ℕ → S) (puts : ℕ → List PageToken) (lo : ℕ) (run : ByteRange) (old new : List (Move S)) (to : S) (out : List Out) → lo ≤ run.lo → to ≡ next run.lo → out ≡ map Token (puts run.lo) ++ Same ∷ []
    → AreAlike next puts run.lo run.hi → AreMovesBelow next puts lo run.lo old → AddsRun old new run to out → AreMovesBelow next puts lo (run.hi + 1) new
run_more {S} next puts lo run old new to out h is puts_so alike before adds =
    let leads : (b : ℕ) → InRange run b → to ≡ next b = λ b i. is ∙ sym (alike b i.0 i.1).0 in
    let writes : (b : ℕ) → InRange run b → map (letter_of b) out ≡ echo_letters (puts b) b =
    λ b i. ap (λ (y : List Out). map (letter_of b) y) puts_so ∙ echo_outs (puts run.lo) b ∙ ap (λ (ts : List PageToken). echo_letters ts b) (sym (alike b i.0 i.1).1) in
    record {
      exact = λ b f g t letters. (
        λ o. elim ((adds.exact b t letters).0 o) [
          | inl d ↦
              let w : IsBetween lo run.lo d.0 = All-contains (IsBetween lo run.lo) old d.0 before.within d.1 in
              (before.exact b f (omega (arith, w.1, d.2.1)) t letters).0 d
          | inr d ↦ (sym d.1 ∙ leads b d.0, sym d.2 ∙ writes b d.0)
        ],
        λ o. (adds.exact b t letters).1 (elim (cases_lt b run.lo) [
          | inl s ↦ inl ((before.exact b f s t letters).1 o)
          | inr s ↦
              let i : InRange run b = (s, omega (arith, g)) in
              inr (i, leads b i ∙ sym o.0, writes b i ∙ sym o.1)
        ]),
      );
      within = adds.within lo h before.within;
    }

pub last_exact : (before outs : List (Vec Out Global)) (out : Vec Out Global) (tokens : List PageToken) → before ≡ [] → outs ≡ before ++ out ∷ [] → out.items ≡ map Token tokens
    → (letters : List Letter) → OffersLast outs letters ↔ (letters ≡ map OfToken tokens)
last_exact before outs out tokens none e is letters =
    let writes : map (letter_of 0) out.items ≡ map OfToken tokens = ap (λ (y : List Out). map (letter_of 0) y) is ∙ last_outs tokens in (
      λ f. elim (Contains-push_cases before out f.0 (subst (λ (y : List (Vec Out Global)). Contains y f.0) e f.1)) [
        | inl d ↦
            let z = subst (λ (y : List (Vec Out Global)). Contains y f.0) none d in
            absurd (omega (arith, z.1))
        | inr d ↦ sym f.2 ∙ (ap (λ (y : Vec Out Global). map (letter_of 0) y.items) (sym d) ∙ writes)
      ],
      λ f. (out, subst (λ (y : List (Vec Out Global)). Contains y out) (sym e) (Contains-push before out), writes ∙ sym f),
    )

are_fixed : (tokens : List PageToken) → list_all is_fixed (map Token tokens) ≡ true
are_fixed [] = refl
are_fixed (t ∷ ts) = are_fixed ts

pub last_fixed : (before outs : List (Vec Out Global)) (out : Vec Out Global) (tokens : List PageToken) → before ≡ [] → outs ≡ before ++ out ∷ [] → out.items ≡ map Token tokens
    → All (λ (o : Vec Out Global). IsTrue (list_all is_fixed o.items)) outs
last_fixed before outs out tokens none e is =
    let P : Vec Out Global → Type 0 = λ o. IsTrue (list_all is_fixed o.items) in
    let own : P out = subst (λ (y : List Out). IsTrue (list_all is_fixed y)) (sym is) (are_fixed tokens) in
    subst (λ (y : List (Vec Out Global)). All P y) (sym e) (All-push P before out (subst (λ (y : List (Vec Out Global)). All P y) (sym none) (All-nil P)) own)
