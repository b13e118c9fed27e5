-- Pieces that are put one behind the other.
use Rattle.std.proofs.Common.{◌≡◌, ℕ, suc, List, ◌++◌, ◌+◌, ◌-◌, ◌<◌, ◌≤◌, ◌∙◌, ap, append_assoc, arith}
use Rattle.std.proofs.lemmas.List.{append-nil}
use Rattle.script_maker.specs.Made.{line_of, lines_from}

pub behind : (a b c x y : List ℕ) → b ≡ a ++ x → c ≡ b ++ y → c ≡ a ++ (x ++ y)
behind a b c x y first second = second ∙ ap (λ (v : List ℕ). v ++ y) first ∙ append_assoc a x y

-- the next line, and those behind it
pub next_line : (i last : ℕ) → i < last → lines_from i (last - i) ≡ line_of (i + 1) i ++ lines_from (i + 1) (last - (i + 1))
unfolding lines_from
next_line i last within =
    let more : last - i ≡ suc (last - (i + 1)) = (let w = within in omega (arith, w)) in
    ap (lines_from i) more

pub no_more_lines : (i last : ℕ) → i ≤ last → last ≤ i → (a : List ℕ) → a ++ lines_from i (last - i) ≡ a
unfolding lines_from
no_more_lines i last low high a =
    let none : last - i ≡ 0 = (let h = high in omega (arith, h)) in
    ap (λ (n : ℕ). a ++ lines_from i n) none ∙ append-nil a
