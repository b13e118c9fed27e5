-- Letters of texts; members of lists are handed on.
use Rattle.std.proofs.Common.{◌≡◌, ℕ, Bool, true, false, List, [], ◌∷◌, ◌++◌, map, Contains, inl, inr, refl, sym, ap, subst}
use Rattle.std.specs.Prelude.{◌&&◌}
use Rattle.std.specs.List.{list_all}
use Rattle.std.proofs.lemmas.List.Elements.{Contains-append_left, Contains-append_right}
use Rattle.text_base.specs.declared.page_token.PageToken.{PageToken}
use Rattle.text_base.specs.declared.letter.Letter.{Letter}
use Rattle.text_base.specs.declared.letter.Letter.TheVariants.{OfByte, OfToken}
pub use Rattle.op_bytes.proofs.ListLemmas.{placed, contained, none_in, one_of, first_in, later_in, only_in, first_so, second_so, all_at}

pub both_so : (a b : Bool) → a ≡ true → b ≡ true → (a && b) ≡ true
both_so true b h g = g
both_so false b h g = absurd (cc)

pub all_from : {X : Type 0} (test : X → Bool) (xs : List X) → ((x : X) → Contains xs x → test x ≡ true) → list_all test xs ≡ true
all_from test [] h = refl
all_from test (x ∷ xs) h = both_so (test x) (list_all test xs) (h x (first_in x xs)) (all_from test xs (λ y c. h y (later_in x xs y c)))

-- letters of a text
pub letters_append : (u v : List ℕ) → map OfByte (u ++ v) ≡ map OfByte u ++ map OfByte v
letters_append [] v = refl
letters_append (b ∷ u) v = ap (λ (x : List Letter). OfByte b ∷ x) (letters_append u v)

same_byte : (a b : ℕ) → OfByte a ≡ OfByte b → a ≡ b
same_byte a b e = cc

same_head : (x y : Letter) (xs ys : List Letter) → x ∷ xs ≡ y ∷ ys → x ≡ y
same_head x y xs ys e = cc

same_tail : (x y : Letter) (xs ys : List Letter) → x ∷ xs ≡ y ∷ ys → xs ≡ ys
same_tail x y xs ys e = cc

no_letters : (x : Letter) (xs : List Letter) → [] ≡ x ∷ xs → ⊥
no_letters x xs e = cc

pub same_text : (u v : List ℕ) → map OfByte u ≡ map OfByte v → u ≡ v
same_text [] [] e = refl
same_text [] (b ∷ v) e = absurd (no_letters (OfByte b) (map OfByte v) e)
same_text (a ∷ u) [] e = absurd (no_letters (OfByte a) (map OfByte u) (sym e))
same_text (a ∷ u) (b ∷ v) e =
    let h = same_byte a b (same_head (OfByte a) (OfByte b) (map OfByte u) (map OfByte v) e) in
    let t = same_text u v (same_tail (OfByte a) (OfByte b) (map OfByte u) (map OfByte v) e) in
    subst (λ (x : ℕ). a ∷ u ≡ x ∷ v) h (ap (λ (x : List ℕ). a ∷ x) t)

-- no page token is among the letters
pub record IsPlain (w : List Letter) : Type 0 where
  pub none : (t : PageToken) → Contains w (OfToken t) → ⊥

pub plain_text : (text : List ℕ) → IsPlain (map OfByte text)
plain_text [] = record { none = λ t h. none_in (OfToken t) h }
plain_text (b ∷ text) = let rest = plain_text text in record { none = λ t h. elim (one_of (OfByte b) (map OfByte text) (OfToken t) h) [ inl same ↦ differ b t same | inr there ↦ rest.none t there ] }
  where
    differ : (b : ℕ) (t : PageToken) → OfByte b ≡ OfToken t → ⊥
    differ b t e = cc

pub plain_first : (v w : List Letter) → IsPlain (v ++ w) → IsPlain v
plain_first v w h = record { none = λ t c. h.none t (Contains-append_left v w (OfToken t) c) }

pub plain_second : (v w : List Letter) → IsPlain (v ++ w) → IsPlain w
plain_second v w h = record { none = λ t c. h.none t (Contains-append_right v w (OfToken t) c) }
