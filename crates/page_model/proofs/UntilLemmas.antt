-- The first occurrence of a word.
use Rattle.std.proofs.Common.{◌≡◌, ℕ, Bool, true, false, ◌&&◌, ◌||◌, List, [], ◌∷◌, ◌++◌, Option, Some, None, refl, sym, ◌∙◌, ap, subst, append_assoc}
use Rattle.std.specs.Prelude.{if◌then◌else◌, nat_eq, codes}
use Rattle.std.specs.List.{starts_with}
use Rattle.xml_text.specs.Texts.{holds}
use Rattle.page_model.specs.Scan.{strip, put_first, found_or, until}
use Rattle.page_model.proofs.ScanLemmas.{strip_word, strip_is}

is_found : Option (List ℕ) → Bool
is_found None = false
is_found (Some rest) = true

starts : (word cs : List ℕ) → starts_with nat_eq cs word ≡ is_found (strip word cs)
unfolding is_found
starts [] [] = refl
starts [] (c ∷ cs) = refl
starts (w ∷ word) [] = refl
starts (w ∷ word) (c ∷ cs) = at (nat_eq w c) (starts word cs)
  where
    at : (b : Bool) → starts_with nat_eq cs word ≡ is_found (strip word cs) → (b && starts_with nat_eq cs word) ≡ is_found (if b then strip word cs else None)
    at true e = e
    at false e = refl

pub starts_not : (word cs : List ℕ) → strip word cs ≡ None → starts_with nat_eq cs word ≡ false
unfolding is_found
starts_not word cs e = starts word cs ∙ ap is_found e

pub strip_not : (word cs : List ℕ) → starts_with nat_eq cs word ≡ false → strip word cs ≡ None
unfolding is_found
strip_not word cs e = at (strip word cs) (sym (starts word cs) ∙ e)
  where
    at : (o : Option (List ℕ)) → is_found o ≡ false → o ≡ None
    at None h = refl
    at (Some rest) h = cc

-- a word that does not begin the whole does not begin a part
pub strip_less : (word xs ys : List ℕ) → strip word (xs ++ ys) ≡ None → strip word xs ≡ None
strip_less [] xs ys e = cc
strip_less (w ∷ word) [] ys e = refl
strip_less (w ∷ word) (x ∷ xs) ys e = at (nat_eq w x) e (λ h. strip_less word xs ys h)
  where
    at : (b : Bool) → (if b then strip word (xs ++ ys) else None) ≡ None → (strip word (xs ++ ys) ≡ None → strip word xs ≡ None) → (if b then strip word xs else None) ≡ None
    at true h ih = ih h
    at false h ih = refl

-- the word stands at no place of the text that is followed by the word and a rest
abbrev pub NoEarly : List ℕ → List ℕ → List ℕ → Type 0
NoEarly word [] rest = Unit {0}
NoEarly word (c ∷ cs) rest = (strip word (c ∷ (cs ++ (word ++ rest))) ≡ None) × NoEarly word cs rest

pub until_word : (w : ℕ) (word text rest : List ℕ) → NoEarly (w ∷ word) text rest → until (w ∷ word) (text ++ ((w ∷ word) ++ rest)) ≡ Some (text, rest)
until_word w word [] rest none = ap (λ (o : Option (List ℕ)). found_or o (put_first w (until (w ∷ word) (word ++ rest)))) (strip_word (w ∷ word) rest)
until_word w word (c ∷ cs) rest none =
    ap (λ (o : Option (List ℕ)). found_or o (put_first c (until (w ∷ word) (cs ++ ((w ∷ word) ++ rest))))) none.0
    ∙ ap (put_first c) (until_word w word cs rest none.1)

pub record Found (word cs text rest : List ℕ) : Type 0 where
  pub is : text ++ (word ++ rest) ≡ cs
  pub none : NoEarly word text rest

some_is : (a b : List ℕ × List ℕ) → Some a ≡ Some b → a ≡ b
some_is a b e = cc

pub until_is : (word cs : List ℕ) (s : List ℕ × List ℕ) → until word cs ≡ Some s → Found word cs s.0 s.1
until_is word [] s e = cc
until_is word (c ∷ cs) s e = at (strip word (c ∷ cs)) refl (until word cs) refl e (λ z h. until_is word cs z h)
  where
    here : (r : List ℕ) → word ++ r ≡ c ∷ cs → Found word (c ∷ cs) [] r
    here r w = record { is = w; none = tt }

    later : (z : List ℕ × List ℕ) → strip word (c ∷ cs) ≡ None → Found word cs z.0 z.1 → Found word (c ∷ cs) (c ∷ z.0) z.1
    later z h f = record {
      is = ap (λ (xs : List ℕ). c ∷ xs) f.is;
      none = (subst (λ (xs : List ℕ). strip word (c ∷ xs) ≡ None) (sym f.is) h, f.none);
    }

    at : (o : Option (List ℕ)) → strip word (c ∷ cs) ≡ o → (u : Option (List ℕ × List ℕ)) → until word cs ≡ u → found_or o (put_first c u) ≡ Some s
        → ((z : List ℕ × List ℕ) → until word cs ≡ Some z → Found word cs z.0 z.1) → Found word (c ∷ cs) s.0 s.1
    at (Some r) h u v e ih = let z : List ℕ × List ℕ = ([], r) in subst (λ (s : List ℕ × List ℕ). Found word (c ∷ cs) s.0 s.1) (some_is z s e) (here r (strip_is word (c ∷ cs) r h))
    at None h None v e ih = cc
    at None h (Some z) v e ih = let y : List ℕ × List ℕ = (c ∷ z.0, z.1) in subst (λ (s : List ℕ × List ℕ). Found word (c ∷ cs) s.0 s.1) (some_is y s e) (later z h (ih z v))

-- no occurrence in the text
pub holds_not : (word text rest : List ℕ) → NoEarly word text rest → holds word text ≡ false
holds_not word [] rest none = refl
holds_not word (c ∷ cs) rest none = or_not _ _ (starts_not word (c ∷ cs) (strip_less word (c ∷ cs) (word ++ rest) none.0)) (holds_not word cs rest none.1)
  where
    or_not : (a b : Bool) → a ≡ false → b ≡ false → (a || b) ≡ false
    or_not true b e f = e
    or_not false b e f = f

or_parts : (a b : Bool) → (a || b) ≡ false → (a ≡ false) × (b ≡ false)
or_parts true b e = cc
or_parts false b e = (refl, e)

abbrev none_if : Bool → Option (List ℕ)
none_if b = if b then None else None

-- `]]>` and `?>`: an occurrence that begins in the text ends in it
pub no_section_end : (text rest : List ℕ) → holds (codes "]]>") text ≡ false → NoEarly (codes "]]>") text rest
no_section_end [] rest h = tt
no_section_end (c ∷ []) rest h = (one (nat_eq 93 c), tt)
  where
    one : (b : Bool) → none_if b ≡ None
    one true = refl
    one false = refl
no_section_end (c ∷ d ∷ []) rest h = (two (nat_eq 93 c) (nat_eq 93 d), no_section_end (d ∷ []) rest (or_parts _ _ h).1)
  where
    two : (b e : Bool) → (if b then none_if e else None) ≡ None
    two true true = refl
    two true false = refl
    two false e = refl
no_section_end (c ∷ d ∷ f ∷ cs) rest h = (three (nat_eq 93 c) (nat_eq 93 d) (nat_eq 62 f) (or_parts _ _ h).0, no_section_end (d ∷ f ∷ cs) rest (or_parts _ _ h).1)
  where
    three : (b e g : Bool) → (b && (e && (g && true))) ≡ false → (if b then (if e then (if g then Some (cs ++ (codes "]]>" ++ rest)) else None) else None) else None) ≡ None
    three true true true h = cc
    three true true false h = refl
    three true false g h = refl
    three false e g h = refl

pub no_instruction_end : (text rest : List ℕ) → holds (codes "?>") text ≡ false → NoEarly (codes "?>") text rest
no_instruction_end [] rest h = tt
no_instruction_end (c ∷ []) rest h = (one (nat_eq 63 c), tt)
  where
    one : (b : Bool) → none_if b ≡ None
    one true = refl
    one false = refl
no_instruction_end (c ∷ d ∷ cs) rest h = (two (nat_eq 63 c) (nat_eq 62 d) (or_parts _ _ h).0, no_instruction_end (d ∷ cs) rest (or_parts _ _ h).1)
  where
    two : (b e : Bool) → (b && (e && true)) ≡ false → (if b then (if e then Some (cs ++ (codes "?>" ++ rest)) else None) else None) ≡ None
    two true true h = cc
    two true false h = refl
    two false e h = refl

-- `--` also does not begin with the last character
pub no_comment_end : (text rest : List ℕ) → holds (codes "--") (text ++ codes "-") ≡ false → NoEarly (codes "--") text rest
no_comment_end [] rest h = tt
no_comment_end (c ∷ []) rest h = (one (nat_eq 45 c) (or_parts _ _ h).0, tt)
  where
    one : (b : Bool) → (b && true) ≡ false → (if b then Some (codes "-" ++ rest) else None) ≡ None
    one true h = cc
    one false h = refl
no_comment_end (c ∷ d ∷ cs) rest h = (two (nat_eq 45 c) (nat_eq 45 d) (or_parts _ _ h).0, no_comment_end (d ∷ cs) rest (or_parts _ _ h).1)
  where
    two : (b e : Bool) → (b && (e && true)) ≡ false → (if b then (if e then Some (cs ++ (codes "--" ++ rest)) else None) else None) ≡ None
    two true true h = cc
    two true false h = refl
    two false e h = refl

pub comment_not : (text rest : List ℕ) → NoEarly (codes "--") text rest → holds (codes "--") (text ++ codes "-") ≡ false
comment_not [] rest none = refl
comment_not (c ∷ cs) rest none =
    or_not _ _ (starts_not (codes "--") (c ∷ (cs ++ codes "-")) (strip_less (codes "--") (c ∷ (cs ++ codes "-")) (codes "-" ++ rest) (subst (λ (xs : List ℕ). strip (codes "--") (c ∷ xs) ≡ None) (sym (append_assoc cs (codes "-") (codes "-" ++ rest))) none.0))) (comment_not cs rest none.1)
  where
    or_not : (a b : Bool) → a ≡ false → b ≡ false → (a || b) ≡ false
    or_not true b e f = e
    or_not false b e f = f
