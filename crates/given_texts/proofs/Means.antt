-- What each nonterminal of the grammar stands for.
use Rattle.std.proofs.Common.{◌≡◌, ◌⊎◌, ℕ, zero, suc, ◌≤◌, true, List, [], ◌∷◌, length}
use Rattle.std.specs.List.{list_all}
use Rattle.std.specs.Char.{is_ascii_digit}
use Rattle.xml_text.specs.Texts.{IsText}
use Rattle.least_sets.specs.Integers.{IsCounting, IsInteger}
use Rattle.given_texts.proofs.Characters.{IsOfCharacter}

-- a byte between the two, and so many bytes of the middle of a character
pub record IsByte (low high : ℕ) (w : List ℕ) : Type 0 where
  pub byte : ℕ
  pub above : low ≤ byte
  pub below : byte ≤ high
  pub is : w ≡ byte ∷ []

pub record IsPair (low high : ℕ) (w : List ℕ) : Type 0 where
  pub byte : ℕ
  pub others : List ℕ
  pub above : low ≤ byte
  pub below : byte ≤ high
  pub is : w ≡ byte ∷ others
  pub behind : IsByte 0x80 0xBF others

pub record IsTriple (low high : ℕ) (w : List ℕ) : Type 0 where
  pub byte : ℕ
  pub others : List ℕ
  pub above : low ≤ byte
  pub below : byte ≤ high
  pub is : w ≡ byte ∷ others
  pub behind : IsPair 0x80 0xBF others

-- behind 0xEF 0xBF at most 0xBD
pub record IsLast (w : List ℕ) : Type 0 where
  pub others : List ℕ
  pub is : w ≡ 0xBF ∷ others
  pub behind : IsByte 0x80 0xBD others

pub record AreDigits (most : ℕ) (w : List ℕ) : Type 0 where
  pub digits : list_all is_ascii_digit w ≡ true
  pub few : length w ≤ most

abbrev pub Means : ℕ → List ℕ → Type 0
Means zero w = IsText w
Means (suc zero) w = IsOfCharacter w
Means (suc (suc zero)) w = IsByte 0x80 0xBF w
Means (suc (suc (suc zero))) w = IsPair 0x80 0xBF w
Means (suc (suc (suc (suc zero)))) w = IsTriple 0x80 0xBF w
Means (suc (suc (suc (suc (suc zero))))) w = IsPair 0xA0 0xBF w
Means (suc (suc (suc (suc (suc (suc zero)))))) w = IsPair 0x80 0x9F w
Means (suc (suc (suc (suc (suc (suc (suc zero))))))) w = IsPair 0x80 0xBE w ⊎ IsLast w
Means (suc (suc (suc (suc (suc (suc (suc (suc zero)))))))) w = IsByte 0x80 0xBD w
Means (suc (suc (suc (suc (suc (suc (suc (suc (suc zero))))))))) w = IsTriple 0x90 0xBF w
Means (suc (suc (suc (suc (suc (suc (suc (suc (suc (suc zero)))))))))) w = IsTriple 0x80 0x8F w
Means (suc (suc (suc (suc (suc (suc (suc (suc (suc (suc (suc zero))))))))))) w = IsInteger w
Means (suc (suc (suc (suc (suc (suc (suc (suc (suc (suc (suc (suc zero)))))))))))) w = IsCounting w
Means (suc (suc (suc (suc (suc (suc (suc (suc (suc (suc (suc (suc (suc k))))))))))))) w = AreDigits k w
