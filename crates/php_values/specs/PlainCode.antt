-- Arrays written as a list of steps, from which they are read back: by it a proof tells two arrays apart.
use Rattle.std.specs.Prelude.{◌≡◌, ℕ, ℤ, Bool, List, [], ◌∷◌, ◌++◌, Option, Some, None, ◌⊎◌, refl}
use Rattle.std.proofs.Common.{inl, inr, sym, ◌∙◌, ap, append_assoc}
use Rattle.std.specs.Coded.{Coded, code_by, coded×, coded⊎, coded_ℕ, coded_ℤ, coded_bool, coded_list, coded_option}
use Rattle.plain_values.specs.Plain.{Plain, PlainKey, Pairs, int_key, text_key, null, flag, int, text, array, empty, pair}

-- a key, and a value that is no array
abbrev pub KeyWord : Type 0
KeyWord = ℤ ⊎ List ℕ

-- a value that is no array: null, a truth value, an integer or a text
abbrev pub Flat : Type 0
Flat = Option (Bool ⊎ KeyWord)

-- None begins an array; a key with a value adds that pair to the array begun last; a key alone adds the array that was finished last
abbrev pub Step : Type 0
Step = Option (KeyWord × Option Flat)

-- a key as it is written in a step
abbrev pub key_word : PlainKey → KeyWord
key_word (int_key z) = inl z
key_word (text_key t) = inr t

-- the key that is written in a step
abbrev pub word_key : KeyWord → PlainKey
word_key (inl z) = int_key z
word_key (inr t) = text_key t

-- the value that is written in a step
abbrev pub flat_value : Flat → Plain
flat_value None = null
flat_value (Some (inl b)) = flag b
flat_value (Some (inr (inl z))) = int z
flat_value (Some (inr (inr t))) = text t

abbrev mutual
  -- the steps of an array: it is begun, and its pairs are added from the last to the first
  pub steps : Pairs → List Step
  steps empty = None ∷ []
  steps (pair k v ps) = steps ps ++ steps_of (key_word k) v

  -- the steps that add a value under a key to the array begun last
  pub steps_of : KeyWord → Plain → List Step
  steps_of k null = Some (k, Some None) ∷ []
  steps_of k (flag b) = Some (k, Some (Some (inl b))) ∷ []
  steps_of k (int z) = Some (k, Some (Some (inr (inl z)))) ∷ []
  steps_of k (text t) = Some (k, Some (Some (inr (inr t)))) ∷ []
  steps_of k (array qs) = steps qs ++ Some (k, None) ∷ []

-- a pair with a value that is no array, put before those of the array begun last; nothing where none is begun
abbrev pub add_flat : KeyWord → Flat → List Pairs → List Pairs
add_flat k f [] = []
add_flat k f (ps ∷ s) = pair (word_key k) (flat_value f) ps ∷ s

-- the array begun last is whole, and is put under this key before the pairs of the one begun before it; nothing where there are not two
abbrev pub add_array : KeyWord → List Pairs → List Pairs
add_array k [] = []
add_array k (qs ∷ []) = []
add_array k (qs ∷ (ps ∷ s)) = pair (word_key k) (array qs) ps ∷ s

-- what a step does to the arrays that are begun, the last one first
abbrev pub step : Step → List Pairs → List Pairs
step None s = empty ∷ s
step (Some (k, None)) s = add_array k s
step (Some (k, Some f)) s = add_flat k f s

-- the steps one after another
abbrev pub run : List Step → List Pairs → List Pairs
run [] s = s
run (x ∷ xs) s = run xs (step x s)

-- the array begun last; an empty one where none is begun
abbrev pub top : List Pairs → Pairs
top [] = empty
top (ps ∷ s) = ps

key_back : (k : PlainKey) → word_key (key_word k) ≡ k
key_back (int_key z) = refl
key_back (text_key t) = refl

mutual
  run_back : (ps : Pairs) (rest : List Step) (s : List Pairs) → run (steps ps ++ rest) s ≡ run rest (ps ∷ s)
  run_back empty rest s = refl
  run_back (pair k v ps) rest s =
      ap (λ (xs : List Step). run xs s) (append_assoc (steps ps) (steps_of (key_word k) v) rest) ∙ run_back ps
      (steps_of (key_word k) v ++ rest) s ∙ run_value k v ps rest s

  run_value : (k : PlainKey) (v : Plain) (ps : Pairs) (rest : List Step) (s : List Pairs)
      → run (steps_of (key_word k) v ++ rest) (ps ∷ s) ≡ run rest (pair k v ps ∷ s)
  run_value k null ps rest s = ap (λ (j : PlainKey). run rest (pair j null ps ∷ s)) (key_back k)
  run_value k (flag b) ps rest s = ap (λ (j : PlainKey). run rest (pair j (flag b) ps ∷ s)) (key_back k)
  run_value k (int z) ps rest s = ap (λ (j : PlainKey). run rest (pair j (int z) ps ∷ s)) (key_back k)
  run_value k (text t) ps rest s = ap (λ (j : PlainKey). run rest (pair j (text t) ps ∷ s)) (key_back k)
  run_value k (array qs) ps rest s =
      ap (λ (xs : List Step). run xs (ps ∷ s)) (append_assoc (steps qs) (Some (key_word k, None) ∷ []) rest) ∙ run_back qs
      (Some (key_word k, None) ∷ rest) (ps ∷ s) ∙ ap (λ (j : PlainKey). run rest (pair j (array qs) ps ∷ s)) (key_back k)

-- an array is read back from the steps that it is written as
pub read_back : (ps : Pairs) → top (run (steps ps) []) ≡ ps
read_back ps = ap (λ (xs : List Step). top (run xs [])) (sym (append_nil (steps ps))) ∙ ap top (run_back ps [] [])
  where
    append_nil : (xs : List Step) → xs ++ [] ≡ xs
    append_nil [] = refl
    append_nil (x ∷ xs) = ap (λ (ys : List Step). x ∷ ys) (append_nil xs)

-- the code of arrays
abbrev pub pairs_code : Coded Pairs
pairs_code =
    code_by (List Step) (coded_list (coded_option (coded× (coded⊎ coded_ℤ (coded_list coded_ℕ))
    (coded_option (coded_option (coded⊎ coded_bool (coded⊎ coded_ℤ (coded_list coded_ℕ)))))))) steps (λ xs. top (run xs [])) read_back
