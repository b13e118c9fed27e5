-- The words of a value, one by one.
use Rattle.std.proofs.Common.{◌≡◌, ℕ, ◌≤◌, ◌<◌, Bool, true, false, not, List, [], ◌∷◌, length, refl, sym, ap, ◌∙◌, arith, subst}
use Rattle.std.specs.Prelude.{if◌then◌else◌}
use Rattle.xml_text.specs.Characters.{is_blank}
use Rattle.page_model.specs.Attributes.{words_of, put_before}
use Rattle.page_model.specs.Parts.{begins_blank}
use Rattle.page_model.specs.Scan.{front, beyond}

pub words_skip : (cs : List ℕ) → words_of cs ≡ words_of (beyond is_blank cs)
words_skip [] = refl
words_skip (c ∷ cs) = at (is_blank c) refl (words_skip cs)
  where
    at : (b : Bool) → is_blank c ≡ b → words_of cs ≡ words_of (beyond is_blank cs) → words_of (c ∷ cs) ≡ words_of (if b then beyond is_blank cs else c ∷ cs)
    at true h e = ap (λ (x : Bool). if x then words_of cs else put_before c (begins_blank cs) (words_of cs)) h ∙ e
    at false h e = refl

-- all but white space
abbrev pub filled : ℕ → Bool
filled c = not (is_blank c)

pub words_word : (c : ℕ) (cs : List ℕ) → is_blank c ≡ false → words_of (c ∷ cs) ≡ front filled (c ∷ cs) ∷ words_of (beyond filled (c ∷ cs))
words_word c [] h =
    ap (λ (x : Bool). if x then [] else (c ∷ []) ∷ []) h
    ∙ sym (ap (λ (x : Bool). (if not x then c ∷ [] else []) ∷ words_of (if not x then [] else c ∷ [])) h)
words_word c (d ∷ ds) h = at (is_blank d) refl (λ g. words_word d ds g)
  where
    whole : (w : List ℕ) (ws : List (List ℕ)) → words_of (c ∷ d ∷ ds) ≡ w ∷ ws → w ∷ ws ≡ front filled (c ∷ d ∷ ds) ∷ words_of (beyond filled (c ∷ d ∷ ds)) → words_of (c ∷ d ∷ ds) ≡ front filled (c ∷ d ∷ ds) ∷ words_of (beyond filled (c ∷ d ∷ ds))
    whole w ws e f = e ∙ f

    first : words_of (c ∷ d ∷ ds) ≡ put_before c (is_blank d) (words_of (d ∷ ds))
    first = ap (λ (x : Bool). if x then words_of (d ∷ ds) else put_before c (is_blank d) (words_of (d ∷ ds))) h

    cut : front filled (c ∷ d ∷ ds) ∷ words_of (beyond filled (c ∷ d ∷ ds)) ≡ (c ∷ front filled (d ∷ ds)) ∷ words_of (beyond filled (d ∷ ds))
    cut = ap (λ (x : Bool). (if not x then c ∷ front filled (d ∷ ds) else []) ∷ words_of (if not x then beyond filled (d ∷ ds) else c ∷ d ∷ ds)) h

    at : (b : Bool) → is_blank d ≡ b → (is_blank d ≡ false → words_of (d ∷ ds) ≡ front filled (d ∷ ds) ∷ words_of (beyond filled (d ∷ ds))) → words_of (c ∷ d ∷ ds) ≡ front filled (c ∷ d ∷ ds) ∷ words_of (beyond filled (c ∷ d ∷ ds))
    at true g ih =
        first ∙ ap (λ (x : Bool). put_before c x (words_of (d ∷ ds))) g
        ∙ sym (cut ∙ ap (λ (x : Bool). (c ∷ (if not x then d ∷ front filled ds else [])) ∷ words_of (if not x then beyond filled ds else d ∷ ds)) g)
    at false g ih = first ∙ ap (λ (x : Bool). put_before c x (words_of (d ∷ ds))) g ∙ ap (put_before c false) (ih g) ∙ sym cut

pub beyond_short : (test : ℕ → Bool) (cs : List ℕ) → length (beyond test cs) ≤ length cs
beyond_short test [] = omega arith
beyond_short test (c ∷ cs) = at (test c) (beyond_short test cs)
  where
    at : (b : Bool) → length (beyond test cs) ≤ length cs → length (if b then beyond test cs else c ∷ cs) ≤ length (c ∷ cs)
    at true l = omega arith
    at false l = omega arith

-- what begins a word is not white space
pub not_blank : (cs : List ℕ) (c : ℕ) (ds : List ℕ) → beyond is_blank cs ≡ c ∷ ds → is_blank c ≡ false
not_blank [] c ds e = cc
not_blank (x ∷ cs) c ds e = at (is_blank x) refl e (λ z. not_blank cs c ds z)
  where
    at : (b : Bool) → is_blank x ≡ b → (if b then beyond is_blank cs else x ∷ cs) ≡ c ∷ ds → (beyond is_blank cs ≡ c ∷ ds → is_blank c ≡ false) → is_blank c ≡ false
    at true h e ih = ih e
    at false h e ih = let s : x ≡ c = cc in ap is_blank (sym s) ∙ h

pub word_at : (cs begin : List ℕ) → begin ≡ beyond is_blank cs → (length begin ≡ 0 → ⊥) → (words_of cs ≡ front filled begin ∷ words_of (beyond filled begin)) × (length (beyond filled begin) < length cs)
word_at cs [] e some = absurd (some refl)
word_at cs (c ∷ ds) e some =
    let blank = not_blank cs c ds (sym e) in
    let l = beyond_short filled ds in
    let k = beyond_short is_blank cs in
    let m : length (c ∷ ds) ≡ length (beyond is_blank cs) = ap length e in
    let n : length (beyond filled (c ∷ ds)) ≡ length (beyond filled ds) = ap (λ (x : Bool). length (if not x then beyond filled ds else c ∷ ds)) blank in
    (words_skip cs ∙ ap words_of (sym e) ∙ words_word c ds blank, omega arith)

pub no_word_at : (cs begin : List ℕ) → begin ≡ beyond is_blank cs → length begin ≡ 0 → words_of cs ≡ []
no_word_at cs [] e none = words_skip cs ∙ ap words_of (sym e)
no_word_at cs (c ∷ ds) e none = absurd (omega arith)

-- the first word, and what stands behind it
pub first_word : (cs begin w rest : List ℕ) → begin ≡ beyond is_blank cs → (length begin ≡ 0 → ⊥) → w ≡ front filled begin → rest ≡ beyond filled begin → (words_of cs ≡ w ∷ words_of rest) × (length rest < length cs)
first_word cs begin w rest e some f b =
    let h = word_at cs begin e some in (
      h.0 ∙ ap (λ (x : List ℕ). x ∷ words_of (beyond filled begin)) (sym f) ∙ ap (λ (x : List ℕ). w ∷ words_of x) (sym b),
      subst (λ (x : List ℕ). length x < length cs) (sym b) h.1,
    )
