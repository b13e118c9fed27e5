-- The machine of escaping relates what `htmlspecialchars` does with UTF-8.
use Rattle.std.proofs.Common.{◌≡◌, ◌==◌, ℕ, ◌+◌, ◌<◌, ◌≤◌, List, [], ◌++◌, length, map, All, Option, None, Some, refl, sym, ◌∙◌, ap, subst, arith, inl, inr, nat_lt}
use Rattle.std.specs.Prelude.{IsUtf8}
use Rattle.std.specs.List.{Contains}
use Rattle.std.proofs.lemmas.Bool.{cases_Bool, cond_both, eqb-true}
use Rattle.std.proofs.lemmas.List.Elements.{All-cons, All-nil}
use Rattle.string_functions.specs.Html.{html_of_byte, html_of}
use Rattle.string_functions.proofs.Members.{Contains-nil, Contains-head, Contains-cons_cases}
use Rattle.fst_core.specs.declared.out.Out.{Out}
use Rattle.fst_core.specs.declared.table.Table.{Table}
use Rattle.string_ops.specs.Listed.{IsShort, AreSmall, IsListed, IsMachine, byte_of}
use Rattle.string_ops.specs.Html.{is_between, to_between, after_first_byte, utf8_after, IsUtf8From, html_put, html_choice, html_row, html_last, html_rows, html_lasts}
use Rattle.string_ops.proofs.ListedLemmas.{listed_machine}
use Rattle.string_ops.proofs.PlanFunctions.{below_small}
use Rattle.string_ops.proofs.Relations.{Simulates, follows_relation}
use Rattle.string_ops.proofs.Utf8.{IsUtf8-from_states, states_from_IsUtf8}

-- what may be put out from each state
abbrev HtmlFrom : ℕ → List ℕ → List ℕ → Type 0
HtmlFrom s text out = IsUtf8From s text × (out ≡ html_of text)

-- what is put out as a byte is read is what stands for it
html_writes : (b : ℕ) → map (byte_of b) (html_put b) ≡ html_of_byte b
html_writes b =
    elim (cases_Bool (b == 38)) [
      | inl e ↦ rw e refl
      | inr n38 ↦ elim (cases_Bool (b == 60)) [
        | inl e ↦ rw (n38, e) refl
        | inr n60 ↦ elim (cases_Bool (b == 62)) [
          | inl e ↦ rw (n38, n60, e) refl
          | inr n62 ↦ elim (cases_Bool (b == 34)) [
            | inl e ↦ rw (n38, n60, n62, e) refl
            | inr n34 ↦ elim (cases_Bool (b == 39)) [ inl e ↦ rw (n38, n60, n62, n34, e) refl | inr n39 ↦ rw (n38, n60, n62, n34, n39) refl ]
          ]
        ]
      ]
    ]

-- the states stay below eight
Below : Option ℕ → Type 0
Below o = (t : ℕ) → o ≡ Some t → t < 8

below_some : (n : ℕ) → n < 8 → Below (Some n)
unfolding Below
below_some n small t e = let same : n ≡ t = cc in omega (arith, small, same)

below_none : Below None
unfolding Below
below_none t e = cc

between_below : (low high to b : ℕ) → to < 8 → Below (to_between low high to b)
between_below low high to b small = cond_both (is_between low high b) _ _ Below (λ _. below_some to small) (λ _. below_none)

first_below : (b : ℕ) → Below (after_first_byte b)
first_below b =
    cond_both (nat_lt b 0x80) _ _ Below (λ _. below_some 0 (omega arith)) (λ _. cond_both (nat_lt b 0xC2) _ _ Below (λ _. below_none) (λ _. cond_both (nat_lt b 0xE0) _ _ Below (λ _. below_some 1 (omega arith)) (λ _. cond_both (b == 0xE0) _ _ Below (λ _. below_some 4 (omega arith)) (λ _. cond_both (b == 0xED) _ _ Below (λ _. below_some 5 (omega arith)) (λ _. cond_both (nat_lt b 0xF0) _ _ Below (λ _. below_some 2 (omega arith)) (λ _. cond_both (b == 0xF0) _ _ Below (λ _. below_some 6 (omega arith)) (λ _. cond_both (nat_lt b 0xF4) _ _ Below (λ _. below_some 3 (omega arith)) (λ _. cond_both (b == 0xF4) _ _ Below (λ _. below_some 7 (omega arith)) (λ _. below_none)))))))))

after_below : (s b : ℕ) → Below (utf8_after s b)
after_below s b =
    cond_both (s == 0) _ _ Below (λ _. first_below b) (λ _. cond_both (s == 1) _ _ Below (λ _. between_below 0x80 0xBF 0 b (omega arith)) (λ _. cond_both (s == 2) _ _ Below (λ _. between_below 0x80 0xBF 1 b (omega arith)) (λ _. cond_both (s == 3) _ _ Below (λ _. between_below 0x80 0xBF 2 b (omega arith)) (λ _. cond_both (s == 4) _ _ Below (λ _. between_below 0xA0 0xBF 1 b (omega arith)) (λ _. cond_both (s == 5) _ _ Below (λ _. between_below 0x80 0x9F 1 b (omega arith)) (λ _. cond_both (s == 6) _ _ Below (λ _. between_below 0x90 0xBF 2 b (omega arith)) (λ _. cond_both (s == 7) _ _ Below (λ _. between_below 0x80 0x8F 2 b (omega arith)) (λ _. below_none))))))))

-- the one choice
chosen : (o : Option ℕ) (out : List Out) (p : ℕ × List Out) → Contains (html_choice o out) p → (o ≡ Some p.0) × (out ≡ p.1)
chosen None out p among = Contains-nil p among
chosen (Some to) out p among =
    elim (Contains-cons_cases (to, out) [] p among) [
      | inl e ↦ (ap (λ (q : ℕ × List Out). Some q.0) e, ap (λ (q : ℕ × List Out). q.1) e)
      | inr none ↦ Contains-nil p none
    ]

choice_there : (o : Option ℕ) (out : List Out) (t : ℕ) → o ≡ Some t → Contains (html_choice o out) (t, out)
choice_there o out t e = subst (λ (x : Option ℕ). Contains (html_choice x out) (t, out)) (sym e) (Contains-head (t, out) [])

html_stops_to : (s : ℕ) (own : List Out) → Contains (html_last s) own → HtmlFrom s [] (map (byte_of 0) own)
html_stops_to s own =
    cond_both (s == 0) _ _ (λ (os : List (List Out)). Contains os own → HtmlFrom s [] (map (byte_of 0) own))
    (λ e among. elim (Contains-cons_cases [] [] own among) [ inl is ↦ (eqb-true s 0 e, ap (map (byte_of 0)) (sym is)) | inr none ↦ Contains-nil own none ])
    (λ _ among. Contains-nil own among)

html_simulates : Simulates 8 html_row html_last HtmlFrom
unfolding Below
html_simulates = record {
  within = λ s b p inside below among. after_below s b p.0 (chosen (utf8_after s b) (html_put b) p among).0;
  stop_to = λ s own inside among. html_stops_to s own among;
  stop_from = λ s out inside h. ([], subst (λ (n : ℕ). Contains (html_last n) []) (sym h.0) (Contains-head [] []), sym h.1);
  step_to = λ s b text rest p inside below among h.
      let is = chosen (utf8_after s b) (html_put b) p among in
      ((p.0, is.0, h.0), ap (λ (out : List Out). map (byte_of b) out ++ rest) (sym is.1) ∙ ap (λ (front : List ℕ). front ++ rest) (html_writes b) ∙ ap (λ (xs : List ℕ). html_of_byte b ++ xs) h.1);
  step_from = λ s b text out inside below h.
      let (t, goes, on) = h.0 in
      ((t, html_put b), choice_there (utf8_after s b) (html_put b) t goes, html_of text, (on, refl), ap (λ (front : List ℕ). front ++ html_of text) (html_writes b) ∙ sym h.1);
}

short_put : (b : ℕ) → IsShort 8 (html_put b)
short_put b = cond_both (b == 38) _ _ (IsShort 8) (λ _. (refl, omega arith)) (λ _. cond_both (b == 60) _ _ (IsShort 8) (λ _. (refl, omega arith)) (λ _. cond_both (b == 62) _ _ (IsShort 8) (λ _. (refl, omega arith)) (λ _. cond_both (b == 34) _ _ (IsShort 8) (λ _. (refl, omega arith)) (λ _. cond_both (b == 39) _ _ (IsShort 8) (λ _. (refl, omega arith)) (λ _. (refl, omega arith))))))

short_choice : (o : Option ℕ) (out : List Out) → IsShort 8 out → (length (html_choice o out) ≤ 4) × All (λ (p : ℕ × List Out). IsShort 8 p.1) (html_choice o out)
short_choice None out short = (omega arith, All-nil (λ (p : ℕ × List Out). IsShort 8 p.1))
short_choice (Some to) out short = (omega arith, All-cons (λ (p : ℕ × List Out). IsShort 8 p.1) (to, out) [] short (All-nil (λ (p : ℕ × List Out). IsShort 8 p.1)))

html_small : AreSmall html_rows html_lasts 8
html_small =
    below_small 8 html_row html_last 8 (record {
      few = λ s b. (short_choice (utf8_after s b) (html_put b) (short_put b)).0;
      moves = λ s b. (short_choice (utf8_after s b) (html_put b) (short_put b)).1;
      ends = λ s. cond_both (s == 0) _ _ (All (IsShort 8)) (λ _. All-cons (IsShort 8) [] [] (refl, omega arith) (All-nil (IsShort 8))) (λ _. All-nil (IsShort 8));
    })

pub html_is_machine : (table : Table) → IsListed table 8 html_rows html_lasts → IsMachine table 0 (λ input output. IsUtf8 input × (output ≡ html_of input))
html_is_machine table listed =
    listed_machine table 8 html_rows html_lasts 0 (λ input output. IsUtf8 input × (output ≡ html_of input)) listed html_small (omega arith)
    (λ input output bytes.
    let follows = follows_relation 8 html_row html_last HtmlFrom html_simulates 0 (omega arith) input output bytes in
    ((λ h. let from = follows.0 h in (IsUtf8-from_states input from.0, from.1)), (λ h. follows.1 (states_from_IsUtf8 input h.0, h.1))))
