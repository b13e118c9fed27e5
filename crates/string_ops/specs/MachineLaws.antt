-- What the plans of several states keep.
use Rattle.std.proofs.Common.{◌≡◌, ◌==◌, ◌&&◌, ℕ, ◌+◌, ◌<◌, ◌≤◌, Bool, true, nat_lt, List, [], ◌∷◌, length, Option, None, Some, refl, arith}
use Rattle.std.specs.List.{list_all}
use Rattle.std.proofs.lemmas.Bool.{cond_both}
use Rattle.string_functions.specs.Trim.{is_stripped}
use Rattle.fst_core.specs.declared.out.Out.{Out}
use Rattle.fst_core.specs.declared.out.Out.TheVariants.{Same}
use Rattle.fst_core.specs.Fits.{is_fixed}
use Rattle.string_ops.specs.Breaks.{is_second, breaks_row, breaks_last, breaks_rows, breaks_lasts}
use Rattle.string_ops.specs.First.{first_row, first_last, first_rows, first_lasts}
use Rattle.string_ops.specs.Trim.{kept_row, trim_row, trim_last, trim_rows, trim_lasts}
use Rattle.string_ops.specs.Html.{is_between, to_between, after_first_byte, utf8_after, html_put, html_choice, html_row, html_last, html_rows, html_lasts}
use Rattle.string_ops.specs.PlanLaws as plan

-- the choices lead to states below the number
abbrev LeadInside : ℕ → List (ℕ × List Out) → Type 0
LeadInside states row = list_all (λ choice. nat_lt choice.0 states) row ≡ true

-- what is put out at each of these ends depends on no byte that is read
abbrev AreFixed : List (List Out) → Type 0
AreFixed outs = list_all (λ out. list_all is_fixed out) outs ≡ true

-- a table of one state more than some number has at least one
pub some_states : (n : ℕ) → 0 < n + 1
some_states n = omega arith

-- a state of the machine of `nl2br` has at most three choices by a byte
pub breaks_three : (s b : ℕ) → length (breaks_rows s b) ≤ 3
breaks_three s b = plan.three 3 breaks_row (λ n c. omega arith) s b

-- each choice of the machine of `nl2br` leads to one of its three states
pub breaks_within : (s b : ℕ) → list_all (λ choice. nat_lt choice.0 3) (breaks_rows s b) ≡ true
breaks_within s b =
    let P : ℕ → Type 0 = λ n. (nat_lt n 3 && true) ≡ true in
    plan.within 3 breaks_row (λ t c. cond_both (is_second t c) _ _ P (λ _. refl)
    (λ _. cond_both (c == 13) _ _ P (λ _. refl) (λ _. cond_both (c == 10) _ _ P (λ _. refl) (λ _. refl)))) s b

-- a state of the machine of `nl2br` has at most one end
pub breaks_one : (s : ℕ) → length (breaks_lasts s) ≤ 1
breaks_one s = plan.one 3 breaks_last (λ n. omega arith) s

-- what the machine of `nl2br` puts out at the end depends on no byte that is read
pub breaks_fixed : (s : ℕ) → list_all (λ out. list_all is_fixed out) (breaks_lasts s) ≡ true
breaks_fixed s = plan.fixed 3 breaks_last (λ n. refl) s

-- a state of the machine of `ucfirst` has at most three choices by a byte
pub first_three : (s b : ℕ) → length (first_rows s b) ≤ 3
first_three s b = plan.three 2 first_row (λ n c. omega arith) s b

-- each choice of the machine of `ucfirst` leads to one of its two states
pub first_within : (s b : ℕ) → list_all (λ choice. nat_lt choice.0 2) (first_rows s b) ≡ true
first_within s b = plan.within 2 first_row (λ t c. refl) s b

-- a state of the machine of `ucfirst` has at most one end
pub first_one : (s : ℕ) → length (first_lasts s) ≤ 1
first_one s = plan.one 2 first_last (λ n. omega arith) s

-- what the machine of `ucfirst` puts out at the end depends on no byte that is read
pub first_fixed : (s : ℕ) → list_all (λ out. list_all is_fixed out) (first_lasts s) ≡ true
first_fixed s = plan.fixed 2 first_last (λ n. refl) s

trim_row_by : (P : List (ℕ × List Out) → Type 0) → P [] → P ((0, []) ∷ []) → P ((1, Same ∷ []) ∷ []) → P ((2, Same ∷ []) ∷ [])
    → P ((3, []) ∷ []) → P ((2, Same ∷ []) ∷ (3, []) ∷ []) → (left right : Bool) (s b : ℕ) → P (trim_row left right s b)
trim_row_by P none front kept promise tail both left right s b =
    let at_kept : P (kept_row right b) = cond_both (right && is_stripped b) _ _ P (λ _. both) (λ _. kept) in
    cond_both (s == 0) _ _ P (λ _. cond_both left _ _ P (λ _. cond_both (is_stripped b) _ _ P (λ _. front) (λ _. kept)) (λ _. at_kept))
    (λ _. cond_both (s == 1) _ _ P (λ _. at_kept)
    (λ _. cond_both (s == 2) _ _ P (λ _. cond_both (is_stripped b) _ _ P (λ _. promise) (λ _. kept))
    (λ _. cond_both (is_stripped b) _ _ P (λ _. tail) (λ _. none))))

-- a state of the machines of `trim`, `ltrim` and `rtrim` has at most three choices by a byte
pub trim_three : (left right : Bool) (s b : ℕ) → length (trim_rows left right s b) ≤ 3
trim_three left right s b =
    plan.three 4 (trim_row left right)
    (λ n c. trim_row_by (λ row. length row ≤ 3) (omega arith) (omega arith) (omega arith) (omega arith) (omega arith)
    (omega arith) left right n c) s b

-- each choice of the machines of `trim`, `ltrim` and `rtrim` leads to one of their four states
pub trim_within : (left right : Bool) (s b : ℕ) → list_all (λ choice. nat_lt choice.0 4) (trim_rows left right s b) ≡ true
trim_within left right s b =
    plan.within 4 (trim_row left right) (λ n c. trim_row_by (LeadInside 4) refl refl refl refl refl refl left right n c) s b

-- a state of the machines of `trim`, `ltrim` and `rtrim` has at most one end
pub trim_one : (s : ℕ) → length (trim_lasts s) ≤ 1
trim_one s = plan.one 4 trim_last (λ n. cond_both (n == 2) _ _ (λ (os : List (List Out)). length os ≤ 1) (λ _. omega arith)
    (λ _. omega arith)) s

-- what the machines of `trim`, `ltrim` and `rtrim` put out at the end depends on no byte that is read
pub trim_fixed : (s : ℕ) → list_all (λ out. list_all is_fixed out) (trim_lasts s) ≡ true
trim_fixed s = plan.fixed 4 trim_last (λ n. cond_both (n == 2) _ _ AreFixed (λ _. refl) (λ _. refl)) s

-- the state that a byte leads to is one of eight
utf8_by : (P : Option ℕ → Type 0) → P None → P (Some 0) → P (Some 1) → P (Some 2) → P (Some 3) → P (Some 4) → P (Some 5) → P (Some 6)
    → P (Some 7) → (s b : ℕ) → P (utf8_after s b)
utf8_by P none to0 to1 to2 to3 to4 to5 to6 to7 s b =
    let between : (low high to : ℕ) → P (Some to) → P (to_between low high to b) =
    λ low high to here. cond_both (is_between low high b) _ _ P (λ _. here) (λ _. none) in
    let first : P (after_first_byte b) =
    cond_both (nat_lt b 0x80) _ _ P (λ _. to0)
    (λ _. cond_both (nat_lt b 0xC2) _ _ P (λ _. none)
    (λ _. cond_both (nat_lt b 0xE0) _ _ P (λ _. to1)
    (λ _. cond_both (b == 0xE0) _ _ P (λ _. to4)
    (λ _. cond_both (b == 0xED) _ _ P (λ _. to5)
    (λ _. cond_both (nat_lt b 0xF0) _ _ P (λ _. to2)
    (λ _. cond_both (b == 0xF0) _ _ P (λ _. to6)
    (λ _. cond_both (nat_lt b 0xF4) _ _ P (λ _. to3) (λ _. cond_both (b == 0xF4) _ _ P (λ _. to7) (λ _. none))))))))) in
    cond_both (s == 0) _ _ P (λ _. first)
    (λ _. cond_both (s == 1) _ _ P (λ _. between 0x80 0xBF 0 to0)
    (λ _. cond_both (s == 2) _ _ P (λ _. between 0x80 0xBF 1 to1)
    (λ _. cond_both (s == 3) _ _ P (λ _. between 0x80 0xBF 2 to2)
    (λ _. cond_both (s == 4) _ _ P (λ _. between 0xA0 0xBF 1 to1)
    (λ _. cond_both (s == 5) _ _ P (λ _. between 0x80 0x9F 1 to1)
    (λ _. cond_both (s == 6) _ _ P (λ _. between 0x90 0xBF 2 to2)
    (λ _. cond_both (s == 7) _ _ P (λ _. between 0x80 0x8F 2 to2) (λ _. none))))))))

-- a state of the machine of `htmlspecialchars` has at most three choices by a byte
pub html_three : (s b : ℕ) → length (html_rows s b) ≤ 3
html_three s b =
    plan.three 8 html_row (λ n c. utf8_by (λ o. length (html_choice o (html_put c)) ≤ 3) (omega arith) (omega arith) (omega arith)
    (omega arith) (omega arith) (omega arith) (omega arith) (omega arith) (omega arith) n c) s b

-- each choice of the machine of `htmlspecialchars` leads to one of its eight states
pub html_within : (s b : ℕ) → list_all (λ choice. nat_lt choice.0 8) (html_rows s b) ≡ true
html_within s b =
    plan.within 8 html_row (λ n c. utf8_by (λ o. LeadInside 8 (html_choice o (html_put c))) refl refl refl refl refl refl refl refl refl n
    c) s b

-- a state of the machine of `htmlspecialchars` has at most one end
pub html_one : (s : ℕ) → length (html_lasts s) ≤ 1
html_one s = plan.one 8 html_last (λ n. cond_both (n == 0) _ _ (λ (os : List (List Out)). length os ≤ 1) (λ _. omega arith)
    (λ _. omega arith)) s

-- what the machine of `htmlspecialchars` puts out at the end depends on no byte that is read
pub html_fixed : (s : ℕ) → list_all (λ out. list_all is_fixed out) (html_lasts s) ≡ true
html_fixed s = plan.fixed 8 html_last (λ n. cond_both (n == 0) _ _ AreFixed (λ _. refl) (λ _. refl)) s
