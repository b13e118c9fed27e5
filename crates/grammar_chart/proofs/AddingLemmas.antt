-- Adding begun productions.
use Rattle.std.proofs.Common.{◌≡◌, ℕ, ◌+◌, ◌<◌, ◌≤◌, ◌⊎◌, ◌↔◌, inl, inr, zero, suc, List, [], ◌∷◌, ◌++◌, length, map, take, take_all, get_or, Contains, refl, sym, ◌∙◌, ap, subst, None, Some, slice_get}
use Rattle.std.specs.List.{All}
use Rattle.std.proofs.lemmas.List.{append_assoc, append-nil, map-append, take_more}
use Rattle.std.proofs.lemmas.List.Elements.{Contains-append_left, Contains-append_right, Contains-append_cases, Contains-push_cases, Contains-push}
use Rattle.std.proofs.lemmas.Option.{get_or_from_slice_get}
use Rattle.text_base.specs.declared.numbers.Nt as nt
use Rattle.cfg_grammar.specs.declared.production.Production.{Production}
use Rattle.numbered_sets.specs.Numbers.{Keeps}
use Rattle.grammar_chart.specs.declared.keys.Begun.{Begun}
use Rattle.grammar_chart.specs.Rules.{begun_at}
use Rattle.grammar_chart.specs.Kept.{lefts_of}
use Rattle.grammar_chart.specs.Adding.{AddsAsked}
use Rattle.grammar_chart.proofs.MemberLemmas.{all_by, at_below, at_old, none_in, mapped_at, contains_map, keeps_more, different_none, different_push}
pub use Rattle.grammar_chart.proofs.MemberLemmas.{contains_at, at_contains, contains_kept}

-- those of all things of a list are there, the old ones stay, and nothing else is added
pub record AddsAll {A K : Type 0} (old new : List K) (xs : List A) (f : A → K) : Type 0 where
  pub all : All (λ (a : A). Contains new (f a)) xs
  pub keeps : Keeps old new
  pub adds : (x : K) → Contains new x → Contains old x ⊎ ((a : A) × Contains xs a × (x ≡ f a))

pub adds_all : {A K : Type 0} (old new : List K) (xs : List A) (f : A → K) → new ≡ old ++ map f xs → AddsAll old new xs f
adds_all {A} {K} old new xs f e =
    record {
      all = all_by (λ (a : A). Contains new (f a)) xs
          (λ a c. subst (λ (ys : List K). Contains ys (f a)) (sym e) (Contains-append_right old (map f xs) (f a) (contains_map f xs a c)));
      keeps = keeps_more old new (map f xs) e;
      adds = λ x c. elim (Contains-append_cases old (map f xs) x (subst (λ (ys : List K). Contains ys x) e c)) [
        | inl was ↦ inl was
        | inr one ↦ let o = at_contains (map f xs) x one in let m = mapped_at f xs o.0 x o.1 in inr (m.0, contains_at xs o.0 m.0 m.1, m.2)
      ];
    }

-- one more at the end
pub map_push : {A K : Type 0} (f : A → K) (old : List K) (xs : List A) (a : A) → (old ++ map f xs) ++ f a ∷ [] ≡ old ++ map f (xs ++ a ∷ [])
map_push {A} {K} f old xs a = append_assoc old (map f xs) (f a ∷ []) ∙ ap (λ (ys : List K). old ++ ys) (sym (map-append f xs (a ∷ [])))

-- those of no places
pub adds_none : {K : Type 0} (old : List K) (f : ℕ → K) (P : ℕ → Type 0) → ((k : ℕ) → P k → ⊥) → AddsAsked old old f P
adds_none {K} old f P none =
    record {
      places = [];
      different = different_none;
      exactly = λ k. (λ h. absurd (none_in [] k refl h), λ h. absurd (none k h));
      added = sym (append-nil old);
    }

-- those of one place more
pub adds_more : {K : Type 0} (old mid new : List K) (f : ℕ → K) (place : ℕ) (P R : ℕ → Type 0) → ((k : ℕ) → R k ↔ (P k ⊎ (k ≡ place))) → (P place → ⊥) → new ≡ mid ++ f place ∷ [] → AddsAsked old mid f P → AddsAsked old new f R
adds_more {K} old mid new f place P R splits met e was =
    record {
      places = was.places ++ place ∷ [];
      different = different_push was.places place was.different (λ c. met ((was.exactly place).0 c));
      exactly = λ k. (
        λ h. (splits k).1 (elim (Contains-push_cases was.places place k h) [
          | inl c ↦ inl ((was.exactly k).0 c)
          | inr here ↦ inr (sym here)
        ]),
        λ h. elim ((splits k).0 h) [
          | inl p ↦ Contains-append_left was.places (place ∷ []) k ((was.exactly k).1 p)
          | inr here ↦ subst (λ (n : ℕ). Contains (was.places ++ place ∷ []) n) (sym here) (Contains-push was.places place)
        ],
      );
      added = e ∙ (ap (λ (ys : List K). ys ++ f place ∷ []) was.added ∙ map_push f old was.places place);
    }

-- those of the same places
pub adds_same : {K : Type 0} (old new : List K) (f : ℕ → K) (P R : ℕ → Type 0) → ((k : ℕ) → P k ↔ R k) → AddsAsked old new f P → AddsAsked old new f R
adds_same old new f P R same was =
    record {
      places = was.places;
      different = was.different;
      exactly = λ k. (λ h. (same k).0 ((was.exactly k).0 h), λ h. (was.exactly k).1 ((same k).1 h));
      added = was.added;
    }

some_is : (p q : Production) → Some p ≡ Some q → p ≡ q
some_is p q e = cc

-- the places of the productions of a nonterminal
pub at_lefts : (ps : List Production) (i : ℕ) (a : nt.Nt) → slice_get (lefts_of ps) i ≡ Some a.0 ↔ ((p : Production) × (slice_get ps i ≡ Some p) × (p.left ≡ a))
at_lefts [] i a = (λ h. cc, λ h. let e = h.1 in cc)
at_lefts (p ∷ ps) zero a = (
  λ h. let same : p.left.0 ≡ a.0 = cc in (p, refl, ap (λ (n : ℕ). let b : nt.Nt = record { 0 = n } in b) same),
  λ h. let one : p ≡ h.0 = some_is p h.0 h.1 in ap (λ (q : Production). Some q.left.0) one ∙ ap (λ (b : nt.Nt). Some b.0) h.2,
)
at_lefts (p ∷ ps) (suc i) a = at_lefts ps i a

-- a begun production by its number
pub begun_is : (bs : List Begun) (n : ℕ) (b : Begun) → slice_get bs n ≡ Some b → begun_at bs n ≡ b
begun_is bs n b h = get_or_from_slice_get bs n b _ h

-- the same of a longer list
pub begun_same : (old new : List Begun) (n : ℕ) (b : Begun) → Keeps old new → n < length old → slice_get new n ≡ Some b → b ≡ begun_at old n
begun_same old new n b keeps h at = sym (begun_is old n b (at_old old new n b keeps h at))

-- there is one with each number of before
pub begun_there : (old new : List Begun) (n : ℕ) → Keeps old new → n < length old → slice_get new n ≡ None → ⊥
begun_there old new n keeps h none =
    let o = at_below old n h in
    let e : None ≡ Some o.0 = sym none ∙ keeps n o.0 o.1 in
    cc

-- one thing more is taken up
pub adding_more : {A K : Type 0} (old mid new : List K) (xs : List A) (n : ℕ) (d : A) (f : A → K) (x : K) → n < length xs → mid ≡ old ++ map f (take n xs) → x ≡ f (get_or xs n d) → new ≡ mid ++ x ∷ [] → new ≡ old ++ map f (take (n + 1) xs)
adding_more {A} {K} old mid new xs n d f x h before is e =
    e ∙ (ap (λ (y : K). mid ++ y ∷ []) is ∙ (ap (λ (ys : List K). ys ++ f (get_or xs n d) ∷ []) before
    ∙ (map_push f old (take n xs) (get_or xs n d) ∙ ap (λ (ys : List A). old ++ map f ys) (sym (take_more xs n d h)))))

pub adding_all : {A K : Type 0} (old new : List K) (xs : List A) (n : ℕ) (f : A → K) → length xs ≤ n → new ≡ old ++ map f (take n xs) → new ≡ old ++ map f xs
adding_all {A} old new xs n f h e = e ∙ ap (λ (ys : List A). old ++ map f ys) (take_all n xs h)
