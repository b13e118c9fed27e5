-- What is known as rows are added and steps are noted.
use Rattle.std.proofs.Common.{◌≡◌, ◌<◌, ◌⊎◌, ◌++◌, ◌∷◌, ℕ, List, [], Option, None, Some, length, replicate, set, slice_get, get_or, inl, inr, sym, ◌∙◌, ap, subst, arith}
use Rattle.std.proofs.lemmas.List.{get_or-replicate, length-replicate}
use Rattle.std.proofs.lemmas.Option.{get_or_from_slice_get, slice_get-get_or, slice_get_within, none-some, same_Some}
use Rattle.strong_components.proofs.OrderListLemmas.{push_cases}
use Rattle.text_base.specs.declared.page_token.PageToken.{PageToken}
use Rattle.byte_readers.specs.declared.emit.Emit.{Emit}
use Rattle.byte_readers.specs.Reading.{emitted}
use Rattle.numbered_sets.specs.Numbers.{Keeps, AddsOnly}
use Rattle.numbered_sets.proofs.NumberLemmas.{at_front}
use Rattle.numbered_sets.proofs.PlaceLemmas.{slice_get-set_other, slice_get-set_same}
use Rattle.std.proofs.lemmas.Bool.{cases_eq}
use Rattle.page_lexer.specs.Numbered.{IsKnown, IsNew, KeepsKnown, SetsStep, IsStep, IsNumbered}
use Rattle.page_lexer.specs.declared.rows.NumberedStep.{NumberedStep}
use Rattle.page_lexer.specs.declared.rows.Row.{Row}

-- nothing stands in a list of nothing
pub nothing_known : (count b : ℕ) (steps : List (Option NumberedStep)) (s : NumberedStep) → steps ≡ replicate count None → slice_get steps b ≡ Some (Some s) → ⊥
nothing_known count b steps s is at =
    let within : b < length (replicate count None) = subst (λ (xs : List (Option NumberedStep)). b < length xs) is (slice_get_within steps b (Some s) at) in
    let none : get_or steps b None ≡ None = ap (λ (xs : List (Option NumberedStep)). get_or xs b None) is ∙ get_or-replicate count b None None (omega (arith, within, length-replicate count (let x : Option NumberedStep = None in x))) in
    none-some s (sym none ∙ get_or_from_slice_get steps b (Some s) None at)

-- an empty row adds nothing
pub empty_adds : (rows more : List Row) (row : Row) (n b : ℕ) (s : NumberedStep) → more ≡ rows ++ row ∷ [] → ((b : ℕ) (s : NumberedStep) → slice_get row.steps b ≡ Some (Some s) → ⊥)
    → IsKnown more n b s → IsKnown rows n b s
empty_adds rows more row n b s push none k =
    elim (push_cases rows row n k.row (sym (ap (λ (xs : List Row). slice_get xs n) push) ∙ k.placed)) [
      | inl p ↦ record { row = k.row; placed = p.1; known = k.known }
      | inr p ↦ absurd (none b s (subst (λ (r : Row). slice_get r.steps b ≡ Some (Some s)) (sym p.1) k.known))
    ]

-- a row more leaves what was known
pub first_added : (rows more : List Row) (row : Row) → more ≡ rows ++ row ∷ [] → KeepsKnown rows more
first_added rows more row push n b s k =
    record { row = k.row; placed = ap (λ (xs : List Row). slice_get xs n) push ∙ at_front rows row n k.row k.placed; known = k.known }

module _ (rows : List Row) (m i : ℕ) (row then : Row) (step : NumberedStep) (at : slice_get rows m ≡ Some row) (sets : SetsStep row then i step) where
  here : slice_get (set rows m then) m ≡ Some then
  here = slice_get-set_same rows m then (slice_get_within rows m row at)

  pub set_noted : IsKnown (set rows m then) m i step
  set_noted = record { row = then; placed = here; known = sets.here }

  pub set_keeps : IsNew rows m i → KeepsKnown rows (set rows m then)
  set_keeps new n b s k = elim (cases_eq n m) [
    | inl same ↦
        let own : k.row ≡ row = same_Some k.row row (sym k.placed ∙ (ap (slice_get rows) same ∙ at)) in
        elim (cases_eq b i) [
          | inl it ↦ absurd (new s (subst (λ (x : ℕ). IsKnown rows x i s) same (subst (λ (y : ℕ). IsKnown rows n y s) it k)))
          | inr other ↦ record {
            row = then;
            placed = ap (slice_get (set rows m then)) same ∙ here;
            known = sets.others b other ∙ (ap (λ (r : Row). slice_get r.steps b) (sym own) ∙ k.known);
          }
        ]
    | inr away ↦ record { row = k.row; placed = slice_get-set_other rows m n then away ∙ k.placed; known = k.known }
  ]

  pub set_only : (n b : ℕ) (s : NumberedStep) → IsKnown (set rows m then) n b s → IsKnown rows n b s ⊎ ((n ≡ m) × (b ≡ i) × (s ≡ step))
  set_only n b s k = elim (cases_eq n m) [
    | inl same ↦
        let own : k.row ≡ then = same_Some k.row then (sym k.placed ∙ (ap (slice_get (set rows m then)) same ∙ here)) in
        let found : slice_get then.steps b ≡ Some (Some s) = ap (λ (r : Row). slice_get r.steps b) (sym own) ∙ k.known in
        elim (cases_eq b i) [
          | inl it ↦ inr (same, it, same_Some s step (same_Some (Some s) (Some step) (sym found ∙ (ap (slice_get then.steps) it ∙ sets.here))))
          | inr other ↦ inl (record { row = row; placed = ap (slice_get rows) same ∙ at; known = sym (sets.others b other) ∙ found })
        ]
    | inr away ↦ inl (record { row = k.row; placed = sym (slice_get-set_other rows m n then away) ∙ k.placed; known = k.known })
  ]

-- of a byte behind a state one step is known at most
pub one_known : (rows : List Row) (n b : ℕ) (s t : NumberedStep) → IsKnown rows n b s → IsKnown rows n b t → s ≡ t
one_known rows n b s t k l =
    let same : k.row ≡ l.row = same_Some k.row l.row (sym k.placed ∙ l.placed) in
    same_Some s t (same_Some (Some s) (Some t) (sym k.known ∙ (ap (λ (r : Row). slice_get r.steps b) same ∙ l.known)))

module _ {S : Type 0} (first : S) (next : S → ℕ → S) (puts : S → ℕ → List PageToken) where
  -- more states leave steps as they are
  pub more_states : (states more : List S) (rows : List Row) → Keeps states more → IsNumbered first next puts states rows → IsNumbered first next puts more rows
  more_states states more rows keeps is = record {
    begins = keeps 0 first is.begins;
    met = λ n b step known. slice_get_within more n (own n) (keeps n (own n) (here n b step known));
    steps = λ n b step s known at.
        let was = here n b step known in
        let same : own n ≡ s = same_Some (own n) s (sym (keeps n (own n) was) ∙ at) in
        let k = is.steps n b step (own n) known was in
        subst (λ (x : S). IsStep next puts more x b step) same (record { to = keeps step.to.0 (next (own n) b) k.to; emit = k.emit });
  }
    where
      own : ℕ → S
      own n = get_or states n first

      here : (n b : ℕ) (step : NumberedStep) → IsKnown rows n b step → slice_get states n ≡ Some (own n)
      here n b step known = slice_get-get_or states n first (is.met n b step known)

  -- one step more is noted, if anything
  more_known : (states : List S) (rows more : List Row) (n b : ℕ) (step : NumberedStep) (from : S) → slice_get states n ≡ Some from → IsStep next puts states from b step
      → ((m c : ℕ) (s : NumberedStep) → IsKnown more m c s → IsKnown rows m c s ⊎ ((m ≡ n) × (c ≡ b) × (s ≡ step)))
      → IsNumbered first next puts states rows → IsNumbered first next puts states more
  more_known states rows more n b step from at own noted is = record {
    begins = is.begins;
    met = λ m c s known. elim (noted m c s known) [
      | inl old ↦ is.met m c s old
      | inr new ↦ subst (λ (k : ℕ). k < length states) (sym new.0) (slice_get_within states n from at)
    ];
    steps = λ m c s t known there. elim (noted m c s known) [
      | inl old ↦ is.steps m c s t old there
      | inr new ↦ (
          let same : from ≡ t = same_Some from t (sym at ∙ (ap (slice_get states) (sym new.0) ∙ there)) in
          subst (λ (x : NumberedStep). IsStep next puts states t c x) (sym new.2) (subst (λ (y : ℕ). IsStep next puts states t y step) (sym new.1)
          (subst (λ (z : S). IsStep next puts states z b step) same own))
          )
    ];
  }

  -- a step that was asked
  pub asked : (states more : List S) (rows noted : List Row) (n b to : ℕ) (emit : Emit) (from behind : S) → Keeps states more → Some from ≡ slice_get states n → slice_get more to ≡ Some behind
      → behind ≡ next from b → emitted emit ≡ puts from b
      → ((m c : ℕ) (s : NumberedStep) → IsKnown noted m c s → IsKnown rows m c s ⊎ ((m ≡ n) × (c ≡ b) × (s ≡ record { to = record { 0 = to }; emit = emit })))
      → IsNumbered first next puts states rows → IsNumbered first next puts more noted
  asked states more rows noted n b to emit from behind keeps at there is same known numbered =
      more_known more rows noted n b (record { to = record { 0 = to }; emit = emit }) from (keeps n from (sym at)) (record { to = there ∙ ap (λ (s : S). Some s) is; emit = same }) known
      (more_states states more rows keeps numbered)

-- only the state behind the byte is met
pub only_next : {S : Type 0} (next : S → ℕ → S) (old new : List S) (n b : ℕ) (key from : S) → AddsOnly old new key → Some from ≡ slice_get old n → key ≡ next from b
    → (s : S) → slice_get old n ≡ Some s → AddsOnly old new (next s b)
only_next {S} next old new n b key from adds at is s there x has = elim (adds x has) [
  | inl was ↦ inl was
  | inr own ↦ inr (own ∙ is ∙ ap (λ (t : S). next t b) (same_Some from s (at ∙ there)))
]
