-- The machines of one state follow what the functions write for each byte.
use Rattle.std.proofs.Common.{◌≡◌, ◌==◌, ◌||◌, ◌&&◌, ℕ, ◌+◌, ◌-◌, ◌%◌, ◌<◌, ◌≤◌, List, [], ◌∷◌, ◌++◌, length, map, All, refl, sym, ◌∙◌, ap, arith, inl, inr, nat_le}
use Rattle.std.specs.List.{flat_map}
use Rattle.std.specs.Char.{to_ascii_lowercase, to_ascii_uppercase}
use Rattle.std.proofs.lemmas.Bool.{cases_Bool, cases_lt, cond_both, lt-ltb, le-ltb, le-leb, lt-leb}
use Rattle.std.proofs.lemmas.List.Concat.{flat_map_single}
use Rattle.std.proofs.lemmas.List.Elements.{All-cons, All-nil}
use Rattle.string_functions.specs.Url.{is_kept_in_url, url_of_byte, raw_url_of_byte}
use Rattle.string_functions.specs.Slashes.{slashes_of_byte}
use Rattle.fst_core.specs.declared.out.Out.{Out}
use Rattle.fst_core.specs.declared.table.Table.{Table}
use Rattle.string_ops.specs.declared.bytewise.Bytewise.{Bytewise}
use Rattle.string_ops.specs.declared.bytewise.Bytewise.TheVariants.{Lower, Upper, Url, RawUrl, Slashes}
use Rattle.string_ops.specs.Listed.{IsShort, AreSmall, IsListed, IsMachine, byte_of}
use Rattle.string_ops.specs.Bytewise.{written_for, outs_of, bytewise_rows, bytewise_lasts, bytewise_of}
use Rattle.string_ops.proofs.ListedLemmas.{IsFunction, follows_function, listed_machine}

-- what is put out as a byte is read is what the function writes for it
lower_writes : (b : ℕ) → b < 256 → map (byte_of b) (outs_of Lower b) ≡ to_ascii_lowercase b ∷ []
lower_writes b below =
    elim (cases_lt b 65) [
      | inl small ↦ rw (lt-leb 65 b small, lt-ltb b 65 small) refl
      | inr from ↦ elim (cases_lt b 91) [
        | inl upper ↦
            let moved : (b + 32) % 256 ≡ b + 32 = omega arith in
            rw (le-leb 65 b from, le-leb b 90 (omega arith), le-ltb b 65 from, lt-ltb b 91 upper) (ap (λ (c : ℕ). c ∷ []) moved)
        | inr past ↦ rw (le-leb 65 b from, lt-leb b 90 (omega arith), le-ltb b 65 from, le-ltb b 91 past) refl
      ]
    ]

pub upper_writes : (b : ℕ) → b < 256 → map (byte_of b) (outs_of Upper b) ≡ to_ascii_uppercase b ∷ []
upper_writes b below =
    elim (cases_lt b 97) [
      | inl small ↦ rw (lt-leb 97 b small, lt-ltb b 97 small) refl
      | inr from ↦ elim (cases_lt b 123) [
        | inl lower ↦
            let moved : (b + 224) % 256 ≡ b - 32 = omega arith in
            rw (le-leb 97 b from, le-leb b 122 (omega arith), le-ltb b 97 from, lt-ltb b 123 lower) (ap (λ (c : ℕ). c ∷ []) moved)
        | inr past ↦ rw (le-leb 97 b from, lt-leb b 122 (omega arith), le-ltb b 97 from, le-ltb b 123 past) refl
      ]
    ]

url_writes : (b : ℕ) → map (byte_of b) (outs_of Url b) ≡ url_of_byte b
url_writes b =
    elim (cases_Bool (is_kept_in_url b)) [
      | inl kept ↦ rw kept refl
      | inr not_kept ↦ elim (cases_Bool (b == 32)) [ inl space ↦ rw (not_kept, space) refl | inr other ↦ rw (not_kept, other) refl ]
    ]

raw_url_writes : (b : ℕ) → map (byte_of b) (outs_of RawUrl b) ≡ raw_url_of_byte b
raw_url_writes b = elim (cases_Bool (is_kept_in_url b || b == 126)) [ inl kept ↦ rw kept refl | inr other ↦ rw other refl ]

slashes_writes : (b : ℕ) → map (byte_of b) (outs_of Slashes b) ≡ slashes_of_byte b
slashes_writes b =
    elim (cases_Bool (b == 39 || b == 34 || b == 92)) [
      | inl quote ↦ rw quote refl
      | inr plain ↦ elim (cases_Bool (b == 0)) [ inl nul ↦ rw (plain, nul) refl | inr other ↦ rw (plain, other) refl ]
    ]

writes : (kind : Bytewise) (b : ℕ) → b < 256 → map (byte_of b) (outs_of kind b) ≡ written_for kind b
writes Lower b below = lower_writes b below
writes Upper b below = upper_writes b below
writes Url b below = url_writes b
writes RawUrl b below = raw_url_writes b
writes Slashes b below = slashes_writes b

bytewise_function : (kind : Bytewise) → IsFunction (bytewise_rows kind) bytewise_lasts (λ s. s ≡ 0) (λ s text. flat_map (written_for kind) text)
bytewise_function kind = record {
  stop = λ s v. ([], ap bytewise_lasts v, refl);
  step = λ s byte v below. ((0, outs_of kind byte), ap (λ (x : ℕ). bytewise_rows kind x byte) v, refl, λ text. ap (λ (front : List ℕ). front ++ flat_map (written_for kind) text) (writes kind byte below));
}

-- each output is short
pub short_outs : (kind : Bytewise) (b : ℕ) → IsShort 8 (outs_of kind b)
short_outs Lower b = cond_both (nat_le 65 b && nat_le b 90) _ _ (IsShort 8) (λ _. (refl, omega arith)) (λ _. (refl, omega arith))
short_outs Upper b = cond_both (nat_le 97 b && nat_le b 122) _ _ (IsShort 8) (λ _. (refl, omega arith)) (λ _. (refl, omega arith))
short_outs Url b = cond_both (is_kept_in_url b) _ _ (IsShort 8) (λ _. (refl, omega arith)) (λ _. cond_both (b == 32) _ _ (IsShort 8) (λ _. (refl, omega arith)) (λ _. (refl, omega arith)))
short_outs RawUrl b = cond_both (is_kept_in_url b || b == 126) _ _ (IsShort 8) (λ _. (refl, omega arith)) (λ _. (refl, omega arith))
short_outs Slashes b = cond_both (b == 39 || b == 34 || b == 92) _ _ (IsShort 8) (λ _. (refl, omega arith)) (λ _. cond_both (b == 0) _ _ (IsShort 8) (λ _. (refl, omega arith)) (λ _. (refl, omega arith)))

bytewise_small : (kind : Bytewise) → AreSmall (bytewise_rows kind) bytewise_lasts 8
bytewise_small kind = record {
  few = λ s byte. cond_both (s == 0) _ _ (λ (cs : List (ℕ × List Out)). length cs ≤ 4) (λ _. omega arith) (λ _. omega arith);
  moves = λ s byte. cond_both (s == 0) _ _ (All (λ (p : ℕ × List Out). IsShort 8 p.1)) (λ _. All-cons (λ (p : ℕ × List Out). IsShort 8 p.1) (0, outs_of kind byte) [] (short_outs kind byte) (All-nil (λ (p : ℕ × List Out). IsShort 8 p.1))) (λ _. All-nil (λ (p : ℕ × List Out). IsShort 8 p.1));
  ends = λ s. cond_both (s == 0) _ _ (All (IsShort 8)) (λ _. All-cons (IsShort 8) [] [] (refl, omega arith) (All-nil (IsShort 8))) (λ _. All-nil (IsShort 8));
}

-- byte by byte is what the function makes of the text
whole : (kind : Bytewise) (text : List ℕ) → flat_map (written_for kind) text ≡ bytewise_of kind text
whole Lower text = flat_map_single to_ascii_lowercase text
whole Upper text = flat_map_single to_ascii_uppercase text
whole Url text = refl
whole RawUrl text = refl
whole Slashes text = refl

pub bytewise_is_machine : (kind : Bytewise) (table : Table) → IsListed table 1 (bytewise_rows kind) bytewise_lasts → IsMachine table 0 (λ input output. output ≡ bytewise_of kind input)
bytewise_is_machine kind table listed =
    listed_machine table 1 (bytewise_rows kind) bytewise_lasts 0 (λ input output. output ≡ bytewise_of kind input) listed (bytewise_small kind) (omega arith)
    (λ input output bytes.
    let follows = follows_function (bytewise_rows kind) bytewise_lasts (λ s. s ≡ 0) (λ s text. flat_map (written_for kind) text) (bytewise_function kind) 0 refl input output bytes in
    ((λ h. follows.0 h ∙ whole kind input), (λ e. follows.1 (e ∙ sym (whole kind input)))))
