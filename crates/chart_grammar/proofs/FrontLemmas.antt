-- Fronts of outputs.
use Rattle.std.proofs.Common.{◌≡◌, ℕ, ◌+◌, ◌<◌, ◌≤◌, inl, inr, Bool, true, false, length-append, suc, List, [], ◌∷◌, ◌++◌, length, take, get_or, refl, sym, ◌∙◌, ap, subst, arith, Some, slice_get, add-one}
use Rattle.std.specs.Prelude.{if◌then◌else◌}
use Rattle.std.proofs.lemmas.List.{take_more, take_all}
use Rattle.std.proofs.lemmas.Bool.{cases_lt}
use Rattle.cfg_grammar.specs.declared.symbol.Symbol.{Symbol}
use Rattle.numbered_sets.specs.Numbers.{Keeps}
use Rattle.chart_grammar.specs.declared.fronts.Front.{Front}
use Rattle.chart_grammar.specs.Fronts.{StandsFor, nothing, longer, IsFrontOf, AddsFronts}

pub stands_kept : (base : ℕ) (old new : List Front) (n : ℕ) (symbols : List Symbol) → Keeps old new → StandsFor base old n symbols → StandsFor base new n symbols
stands_kept base old new n symbols keeps nothing = nothing
stands_kept base old new n symbols keeps (longer m before last xs at rest) = longer m before last xs (keeps m _ at) (stands_kept base old new before xs keeps rest)

-- so many symbols stand in the fronts
pub record FrontSoFar (base : ℕ) (old new : List Front) (symbols : List Symbol) (i before : ℕ) : Type 0 where
  pub stands : StandsFor base new before (take i symbols)
  pub keeps : Keeps old new
  pub adds : AddsFronts base old new symbols

pub front_none : (base : ℕ) (old : List Front) (symbols : List Symbol) → FrontSoFar base old old symbols 0 0
front_none base old symbols = record { stands = nothing; keeps = λ n x h. h; adds = λ n h. inl h }

-- what is put behind the others is at its place
put_behind : {X : Type 0} (xs : List X) (x : X) → slice_get (xs ++ x ∷ []) (length xs) ≡ Some x
put_behind [] x = refl
put_behind (y ∷ xs) x = put_behind xs x

adds_more : (base : ℕ) (old mid new : List Front) (symbols : List Symbol) (is_new : Bool) (front : Front) → Keeps mid new → new ≡ (if is_new then mid ++ front ∷ [] else mid) → AddsFronts base old mid symbols
    → ((n : ℕ) → slice_get new n ≡ Some front → IsFrontOf base new n symbols) → AddsFronts base old new symbols
adds_more base old mid new symbols true front keeps e before here n h =
    let long : length new ≡ length mid + 1 = ap length e ∙ length-append mid (front ∷ []) in
    elim (cases_lt n (length mid)) [
      | inl below ↦ elim (before n below) [
        | inl o ↦ inl o
        | inr f ↦ inr (f.0, f.1, stands_kept base mid new (base + n) (take (suc f.0) symbols) keeps f.2)
      ]
      | inr past ↦
          let last : length mid ≡ n = omega arith in
          inr (here n (ap (slice_get new) (sym last) ∙ (ap (λ (xs : List Front). slice_get xs (length mid)) e ∙ put_behind mid front)))
    ]
adds_more base old mid new symbols false front keeps e before here n h =
    elim (before n (subst (λ (xs : List Front). n < length xs) e h)) [
      | inl o ↦ inl o
      | inr f ↦ inr (f.0, f.1, stands_kept base mid new (base + n) (take (suc f.0) symbols) keeps f.2)
    ]

pub front_more : (base : ℕ) (old mid new : List Front) (symbols : List Symbol) (is_new : Bool) (i before n : ℕ) (d x : Symbol) → new ≡ (if is_new then mid ++ (record { before = before; last = x }) ∷ [] else mid) → i < length symbols → x ≡ get_or symbols i d → FrontSoFar base old mid symbols i before → slice_get new n ≡ Some (record { before = before; last = x }) → Keeps mid new → FrontSoFar base old new symbols (i + 1) (base + n)
front_more base old mid new symbols is_new i before n d x e h is so at keeps =
    let more : take (i + 1) symbols ≡ take i symbols ++ x ∷ [] = take_more symbols i d h ∙ ap (λ (y : Symbol). take i symbols ++ y ∷ []) (sym is) in
    record {
      stands = subst (λ (xs : List Symbol). StandsFor base new (base + n) xs) (sym more) (longer n before x (take i symbols) at (stands_kept base mid new before (take i symbols) keeps so.stands));
      keeps = λ m y k. keeps m y (so.keeps m y k);
      adds = adds_more base old mid new symbols is_new (record { before = before; last = x }) keeps e so.adds
          (λ m found. (
            i,
            h,
            subst (λ (xs : List Symbol). StandsFor base new (base + m) xs) (sym (ap (λ (k : ℕ). take k symbols) (sym (add-one i)) ∙ more))
                (longer m before x (take i symbols) found (stands_kept base mid new before (take i symbols) keeps so.stands)),
          ));
    }

pub front_all : (base : ℕ) (old new : List Front) (symbols : List Symbol) (i before : ℕ) → length symbols ≤ i → FrontSoFar base old new symbols i before → StandsFor base new before symbols
front_all base old new symbols i before h so = subst (λ (xs : List Symbol). StandsFor base new before xs) (take_all i symbols h) so.stands
