-- A run from the front, and the layers of a whole run.
use Rattle.std.proofs.Common.{◌≡◌, ℕ, ◌+◌, ◌<◌, ◌≤◌, ◌⊎◌, ◌↔◌, inl, inr, Bool, IsTrue, List, [], ◌∷◌, ◌++◌, length, map, drop, get_or, Contains, refl, sym, ◌∙◌, ap, subst, arith, append_assoc}
use Rattle.std.proofs.lemmas.List.{drop_more, drop_all}
use Rattle.text_base.specs.declared.letter.Letter.{Letter}
use Rattle.text_base.specs.declared.letter.Letter.TheVariants.{OfByte}
use Rattle.fst_core.specs.Runs.{Relates, Gives}
use Rattle.fst_core.specs.Tables.{TableStep, TableStop, TableRelates}
use Rattle.fst_core.specs.Layers.{letters_from, SomeGives, TableGives}
use Rattle.fst_core.specs.declared.table.Table.{Table}
use Rattle.fst_core.specs.declared.layers.Reached.{Reached}

-- a run and an end, from the front
pub gives_from_relates : {S : Type 0} (steps : S → ℕ → S → List Letter → Type 0) (ends : S → List Letter → Type 0) (s : S) (text : List ℕ) (output : List Letter) → Relates s steps ends text output → Gives steps ends s text output
gives_from_relates {S} steps ends s [] output r =
    let same : r.2 ≡ output = ap (λ (x : List Letter). x ++ r.2) (sym r.3.1) ∙ sym r.5 in
    subst (λ (x : List Letter). ends s x) same (subst (λ (x : S). ends x r.2) r.3.0 r.4)
gives_from_relates steps ends s (byte ∷ text) output r =
    let run = r.3 in
    let rest : List Letter = run.2 ++ r.2 in
    let eq : output ≡ run.1 ++ rest = r.5 ∙ ap (λ (x : List Letter). x ++ r.2) run.5 ∙ append_assoc run.1 run.2 r.2 in
    (run.0, run.1, rest, run.3, gives_from_relates steps ends run.0 text rest (r.0, run.2, r.2, run.4, r.4, refl), eq)

pub relates_from_gives : {S : Type 0} (steps : S → ℕ → S → List Letter → Type 0) (ends : S → List Letter → Type 0) (s : S) (text : List ℕ) (output : List Letter) → Gives steps ends s text output → Relates s steps ends text output
relates_from_gives steps ends s [] output g = (s, [], output, (refl, refl), g, refl)
relates_from_gives steps ends s (byte ∷ text) output g =
    let r = relates_from_gives steps ends g.0 text g.2 g.4 in
    let eq : output ≡ (g.1 ++ r.1) ++ r.2 = g.5 ∙ ap (λ (x : List Letter). g.1 ++ x) r.5 ∙ sym (append_assoc g.1 r.1 r.2) in
    (r.0, g.1 ++ r.1, r.2, (g.0, g.1, r.1, g.3, r.3, refl), r.4, eq)

-- the first layer has the start alone
pub first_layer : (table : Table) (old new : List Reached) (input output : List ℕ) → old ≡ [] → ((r : Reached) → Contains new r ↔ (Contains old r ⊎ (r ≡ record { state = table.start; written = 0 }))) → SomeGives table new input output ↔ TableGives table table.start input (map OfByte output)
first_layer table old new input output empty added =
    let first : Reached = record { state = table.start; written = 0 } in (
      λ h. elim ((added h.0).0 h.1) [
        | inl c ↦ absurd (omega (arith, (subst (λ (x : List Reached). Contains x h.0) empty c).1))
        | inr e ↦ subst (λ (x : Reached). TableGives table x.state input (letters_from output x.written)) e h.3
      ],
      λ g. (first, (added first).1 (inr refl), omega arith, g),
    )

-- a byte more is read
pub layer_more : (table : Table) (layer next : List Reached) (i : ℕ) (input output : List ℕ) (P : Type 0) → i < length input → SomeGives table layer (drop i input) output ↔ P → ((text : List ℕ) → SomeGives table next text output ↔ SomeGives table layer (get_or input i 0 ∷ text) output) → SomeGives table next (drop (i + 1) input) output ↔ P
layer_more table layer next i input output P h before more =
    let e : drop i input ≡ get_or input i 0 ∷ drop (i + 1) input = drop_more input i 0 h in
    let now = more (drop (i + 1) input) in (
      λ s. before.0 (subst (λ (x : List ℕ). SomeGives table layer x output) (sym e) (now.0 s)),
      λ p. now.1 (subst (λ (x : List ℕ). SomeGives table layer x output) e (before.1 p)),
    )

-- the whole input is read
pub layer_all : (table : Table) (layer : List Reached) (i : ℕ) (input output : List ℕ) (answer : Bool) → length input ≤ i → SomeGives table layer (drop i input) output ↔ TableGives table table.start input (map OfByte output) → IsTrue answer ↔ SomeGives table layer [] output → IsTrue answer ↔ TableRelates table input (map OfByte output)
layer_all table layer i input output answer h before says =
    let e : drop i input ≡ [] = drop_all i input h in
    let steps = TableStep table.moves.items in
    let ends = TableStop table.ends.items in (
      λ t. relates_from_gives steps ends table.start input (map OfByte output) (before.0 (subst (λ (x : List ℕ). SomeGives table layer x output) (sym e) (says.0 t))),
      λ r. says.1 (subst (λ (x : List ℕ). SomeGives table layer x output) e (before.1 (gives_from_relates steps ends table.start input (map OfByte output) r))),
    )
