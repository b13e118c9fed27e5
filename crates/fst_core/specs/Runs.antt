-- How a machine runs over a text.
use Rattle.std.specs.Prelude.{◌≡◌, ℕ, List, [], ◌∷◌, ◌++◌}
use Rattle.text_base.specs.declared.letter.Letter.{Letter}

module _ {S : Type 0} (steps : S → ℕ → S → List Letter → Type 0) where
  -- from the one state over the text to the other state, with these letters put out on the way
  abbrev pub Runs : S → List ℕ → S → List Letter → Type 0
  Runs s [] u out = (u ≡ s) × (out ≡ [])
  Runs s (byte ∷ text) u out =
      (t : S) × (first : List Letter) × (rest : List Letter) × steps s byte t first × Runs t text u rest × (out ≡ first ++ rest)

-- the machine that begins in `start` may put out the output over the input, with what it puts out at the end
abbrev pub Relates : {S : Type 0} → S → (S → ℕ → S → List Letter → Type 0) → (S → List Letter → Type 0) → List ℕ → List Letter → Type 0
Relates {S} start steps ends input output =
    (u : S) × (out : List Letter) × (last : List Letter) × Runs steps start input u out × ends u last × (output ≡ out ++ last)

module _ {S : Type 0} (steps : S → ℕ → S → List Letter → Type 0) (ends : S → List Letter → Type 0) where
  -- the same from any state and from the front: from the state over the text to an end, with these letters put out
  abbrev pub Gives : S → List ℕ → List Letter → Type 0
  Gives s [] out = ends s out
  Gives s (byte ∷ text) out =
      (t : S) × (first : List Letter) × (rest : List Letter) × steps s byte t first × Gives t text rest × (out ≡ first ++ rest)
