-- Behind first bytes and behind those that stand for them the same bytes make characters.
use Rattle.std.proofs.Common.{◌≡◌, ℕ, Bool, true, false, List, [], ◌∷◌, ◌++◌, refl, sym, ◌∙◌, ap, arith}
use Rattle.std.specs.Prelude.{if◌then◌else◌}
use Rattle.std.proofs.lemmas.Bool.Decides.{nat_tests}
use Rattle.character_steps.specs.Bytes.{is_begun}
use Rattle.merged_reader.specs.Alike.{first_alike, second_alike, alike, representative}
use Rattle.merged_reader.proofs.Whole.{is_whole}

-- one byte
whole_one : (a b : ℕ) → is_whole (first_alike a ∷ b ∷ []) ≡ is_whole (a ∷ b ∷ [])
whole_one a b = grind (arith, nat_tests)

begun_one : (a b : ℕ) → is_begun (first_alike a ∷ b ∷ []) ≡ is_begun (a ∷ b ∷ [])
unfolding is_begun
begun_one a b = grind (arith, nat_tests)

same_one : (a b : ℕ) → is_begun (a ∷ b ∷ []) ≡ true → second_alike (first_alike a) b ≡ second_alike a b
unfolding is_begun
same_one a b h = grind (arith, nat_tests)

-- two bytes
whole_two : (a b c : ℕ) → is_begun (a ∷ b ∷ []) ≡ true → is_whole (second_alike a b ++ c ∷ []) ≡ is_whole (a ∷ b ∷ c ∷ [])
unfolding is_begun
whole_two a b c h = grind (arith, nat_tests)

begun_two : (a b c : ℕ) → is_begun (a ∷ b ∷ []) ≡ true → is_begun (second_alike a b ++ c ∷ []) ≡ is_begun (a ∷ b ∷ c ∷ [])
unfolding is_begun
begun_two a b c h = grind (arith, nat_tests)

same_two : (a b c : ℕ) → is_begun (a ∷ b ∷ c ∷ []) ≡ true → alike (second_alike a b ++ c ∷ []) ≡ alike (a ∷ b ∷ c ∷ [])
unfolding is_begun
same_two a b c h = grind (arith, nat_tests)

-- three bytes
whole_three : (a b c d : ℕ) → is_begun (a ∷ b ∷ c ∷ []) ≡ true → is_whole (0xF1 ∷ 0x80 ∷ 0x80 ∷ d ∷ []) ≡ is_whole (a ∷ b ∷ c ∷ d ∷ [])
unfolding is_begun
whole_three a b c d h = grind (arith, nat_tests)

-- the same for all first bytes of a character
pub record SameBehind (x : List ℕ) (b : ℕ) : Type 0 where
  pub whole : is_whole (representative x ++ b ∷ []) ≡ is_whole (x ++ b ∷ [])
  pub begun : is_begun (representative x ++ b ∷ []) ≡ is_begun (x ++ b ∷ [])
  pub same : is_begun (x ++ b ∷ []) ≡ true → representative (representative x ++ b ∷ []) ≡ representative (x ++ b ∷ [])

-- where bytes are begun
of_begun : (x : List ℕ) → is_begun x ≡ true → representative x ≡ alike x
of_begun x h = ap (λ (z : Bool). if z then alike x else x) h

stays : (x : List ℕ) → is_begun x ≡ false → representative x ≡ x
stays x h = ap (λ (z : Bool). if z then alike x else x) h

-- by what stands for them
by_alike : (x y : List ℕ) (b : ℕ) → representative x ≡ y → is_whole (y ++ b ∷ []) ≡ is_whole (x ++ b ∷ []) → is_begun (y ++ b ∷ []) ≡ is_begun (x ++ b ∷ [])
    → (is_begun (x ++ b ∷ []) ≡ true → alike (y ++ b ∷ []) ≡ alike (x ++ b ∷ [])) → SameBehind x b
by_alike x y b e whole begun same = record {
  whole = ap (λ (z : List ℕ). is_whole (z ++ b ∷ [])) e ∙ whole;
  begun = ap (λ (z : List ℕ). is_begun (z ++ b ∷ [])) e ∙ begun;
  same = λ h.
      ap (λ (z : List ℕ). representative (z ++ b ∷ [])) e ∙ of_begun (y ++ b ∷ []) (begun ∙ h) ∙ same h ∙ sym (of_begun (x ++ b ∷ []) h);
}

none_longer : (a b c d : ℕ) (bytes : List ℕ) → is_begun (a ∷ b ∷ c ∷ d ∷ bytes) ≡ true → ⊥
unfolding is_begun
none_longer a b c d bytes h = cc

no_more : (a b c d : ℕ) (bytes : List ℕ) → is_begun (a ∷ b ∷ c ∷ d ∷ bytes) ≡ false
unfolding is_begun
no_more a b c d bytes = refl

begun_behind : (x : List ℕ) (b : ℕ) → is_begun x ≡ true → SameBehind x b
begun_behind [] b h = by_alike [] [] b (of_begun [] h) refl refl (λ g. refl)
begun_behind (a ∷ []) b h = by_alike (a ∷ []) (first_alike a ∷ []) b (of_begun (a ∷ []) h) (whole_one a b) (begun_one a b) (same_one a b)
begun_behind (a ∷ c ∷ []) b h = by_alike (a ∷ c ∷ []) (second_alike a c) b (of_begun (a ∷ c ∷ []) h) (whole_two a c b h) (begun_two a c b h) (same_two a c b)
begun_behind (a ∷ c ∷ d ∷ []) b h =
    by_alike (a ∷ c ∷ d ∷ []) (0xF1 ∷ 0x80 ∷ 0x80 ∷ []) b (of_begun (a ∷ c ∷ d ∷ []) h) (whole_three a c d b h)
    (no_more 0xF1 0x80 0x80 b [] ∙ sym (no_more a c d b [])) (λ g. absurd (none_longer a c d b [] g))
begun_behind (a ∷ c ∷ d ∷ e ∷ bytes) b h = absurd (none_longer a c d e bytes h)

pub same_behind : (x : List ℕ) (b : ℕ) → SameBehind x b
same_behind x b = at (is_begun x) refl
  where
    at : (z : Bool) → is_begun x ≡ z → SameBehind x b
    at true h = begun_behind x b h
    at false h =
        let s : representative x ≡ x = stays x h in
        record {
          whole = ap (λ (y : List ℕ). is_whole (y ++ b ∷ [])) s;
          begun = ap (λ (y : List ℕ). is_begun (y ++ b ∷ [])) s;
          same = λ g. ap (λ (y : List ℕ). representative (y ++ b ∷ [])) s;
        }
