-- Scanning finds what was put together.
use Rattle.std.proofs.Common.{◌≡◌, ℕ, Bool, true, false, List, [], ◌∷◌, ◌++◌, Option, Some, None, refl, sym, ◌∙◌, ap}
use Rattle.std.specs.Prelude.{if◌then◌else◌, nat_eq}
use Rattle.std.specs.List.{list_all}
use Rattle.std.proofs.lemmas.Bool.{and_parts, and_from, eqb-true, eq-eqb}
use Rattle.page_model.specs.Scan.{front, beyond, strip, then_some, Stops}

pub then_is : {X Y : Type 0} (o : Option X) (x : X) (f : X → Option Y) → o ≡ Some x → then_some o f ≡ f x
then_is o x f e = ap (λ z. then_some z f) e

pub record Came {X Y : Type 0} (o : Option X) (f : X → Option Y) (y : Y) : Type 0 where
  pub from : X
  pub was : o ≡ Some from
  pub gives : f from ≡ Some y

-- where both steps gave something, the first gave something that the second takes
pub came : {X Y : Type 0} (o : Option X) (f : X → Option Y) (y : Y) → then_some o f ≡ Some y → Came o f y
came None f y e = cc
came (Some x) f y e = record { from = x; was = refl; gives = e }

pub front_beyond : (test : ℕ → Bool) (cs : List ℕ) → front test cs ++ beyond test cs ≡ cs
front_beyond test [] = refl
front_beyond test (c ∷ cs) = at (test c) (front_beyond test cs)
  where
    at : (b : Bool) → front test cs ++ beyond test cs ≡ cs → (if b then c ∷ front test cs else []) ++ (if b then beyond test cs else c ∷ cs) ≡ c ∷ cs
    at true e = ap (λ (xs : List ℕ). c ∷ xs) e
    at false e = refl

pub front_all : (test : ℕ → Bool) (cs : List ℕ) → list_all test (front test cs) ≡ true
front_all test [] = refl
front_all test (c ∷ cs) = at (test c) refl (front_all test cs)
  where
    at : (b : Bool) → test c ≡ b → list_all test (front test cs) ≡ true → list_all test (if b then c ∷ front test cs else []) ≡ true
    at true h e = and_from (test c) (list_all test (front test cs)) h e
    at false h e = refl

-- where characters that pass are put before others, there they are cut
pub record SplitAt (test : ℕ → Bool) (cs first rest : List ℕ) : Type 0 where
  pub front_is : front test cs ≡ first
  pub beyond_is : beyond test cs ≡ rest

pub split_at : (test : ℕ → Bool) (xs rest : List ℕ) → list_all test xs ≡ true → Stops test rest → SplitAt test (xs ++ rest) xs rest
split_at test [] [] all stops = record { front_is = refl; beyond_is = refl }
split_at test [] (c ∷ cs) all stops = record {
  front_is = ap (λ (b : Bool). if b then c ∷ front test cs else []) stops;
  beyond_is = ap (λ (b : Bool). if b then beyond test cs else c ∷ cs) stops;
}
split_at test (x ∷ xs) rest all stops =
    let a = and_parts (test x) (list_all test xs) all in
    let more = split_at test xs rest a.1 stops in
    record {
      front_is = ap (λ (b : Bool). if b then x ∷ front test (xs ++ rest) else []) a.0 ∙ ap (λ (zs : List ℕ). x ∷ zs) more.front_is;
      beyond_is = ap (λ (b : Bool). if b then beyond test (xs ++ rest) else x ∷ (xs ++ rest)) a.0 ∙ more.beyond_is;
    }

pub strip_word : (word rest : List ℕ) → strip word (word ++ rest) ≡ Some rest
strip_word [] rest = refl
strip_word (w ∷ word) rest = ap (λ (b : Bool). if b then strip word (word ++ rest) else None) (eq-eqb w w refl) ∙ strip_word word rest

pub strip_is : (word cs rest : List ℕ) → strip word cs ≡ Some rest → word ++ rest ≡ cs
strip_is [] cs rest e = let s : cs ≡ rest = cc in sym s
strip_is (w ∷ word) [] rest e = cc
strip_is (w ∷ word) (c ∷ cs) rest e = at (nat_eq w c) refl e (λ z. strip_is word cs rest z)
  where
    at : (b : Bool) → nat_eq w c ≡ b → (if b then strip word cs else None) ≡ Some rest → (strip word cs ≡ Some rest → word ++ rest ≡ cs) → w ∷ (word ++ rest) ≡ c ∷ cs
    at true h e ih = ap (λ (x : ℕ). x ∷ (word ++ rest)) (eqb-true w c h) ∙ ap (λ (xs : List ℕ). c ∷ xs) (ih e)
    at false h e ih = cc
