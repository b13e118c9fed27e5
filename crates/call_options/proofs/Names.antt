-- Names of options: equality, rows of commands, and lists of names.
use Rattle.std.proofs.Common.{◌≡◌, ◌∙◌, ◌==◌, ◌++◌, ◌&&◌, ◌||◌, ap, ℕ, Bool, true, false, not, List, [], ◌∷◌, refl, sym, subst, inl, inr, true≢false}
use Rattle.std.proofs.lemmas.Slice.Eq.{bytes_eq-Decides}
use Rattle.std.specs.List.{list_all}
use Rattle.std.specs.Str.{bytes_eq}
use Rattle.command_words.specs.Program.{Row, commands}
use Rattle.command_words.specs.Canonical.{IsAmong, is_among}
use Rattle.call_options.specs.Words.{options_of, is_one_of}

pub same : (a b : List ℕ) → bytes_eq a b ≡ true → a ≡ b
same a b e = (bytes_eq-Decides a b).0 e

pub turned : (a b : List ℕ) → bytes_eq a b ≡ bytes_eq b a
turned a b = at (bytes_eq a b) (bytes_eq b a) refl refl
  where
    at : (x y : Bool) → bytes_eq a b ≡ x → bytes_eq b a ≡ y → x ≡ y
    at true true e f = refl
    at true false e f = sym ((bytes_eq-Decides b a).1 (sym (same a b e))) ∙ f
    at false true e f = sym e ∙ (bytes_eq-Decides a b).1 (sym (same b a f))
    at false false e f = refl

-- neither of two holds
pub or_false : (a b : Bool) → (a || b) ≡ false → (a ≡ false) × (b ≡ false)
or_false true b e = absurd (true≢false e)
or_false false b e = (refl, e)

-- of names of which the last is another
pub among_more : (x n : List ℕ) (before : List (List ℕ)) → bytes_eq n x ≡ false → is_among x (before ++ n ∷ []) ≡ is_among x before
among_more x n [] e = rw e refl
among_more x n (b ∷ bs) e = ap (λ (t : Bool). bytes_eq b x || t) (among_more x n bs e)

pub one_of_is : (name : List ℕ) (names : List (List ℕ)) → is_one_of name names ≡ true → IsAmong name names
one_of_is name [] e = absurd (true≢false (sym e))
one_of_is name (n ∷ ns) e = by (bytes_eq name n) refl (one_of_is name ns)
  where
    by : (t : Bool) → bytes_eq name n ≡ t → (is_one_of name ns ≡ true → IsAmong name ns) → IsAmong name (n ∷ ns)
    by true t rec = inl (same name n t)
    by false t rec = inr (rec (rw t at e))

-- `=` stands in the text
abbrev pub has_equals : List ℕ → Bool
has_equals [] = false
has_equals (byte ∷ bytes) = (byte == 61) || has_equals bytes

-- a name that is not empty and has no `=`
abbrev pub IsName : List ℕ → Type 0
IsName name = (bytes_eq name [] ≡ false) × (has_equals name ≡ false)

abbrev is_name : List ℕ → Bool
is_name name = not (bytes_eq name []) && not (has_equals name)

-- an option of a command with this place: such a name, and not that of the place
abbrev is_free : List ℕ → List ℕ → Bool
is_free at name = is_name name && not (bytes_eq at name)

-- the names of a command are such
abbrev are_names : Row → Bool
are_names row = list_all (is_free row.place) row.options && list_all is_name row.flags

-- what is known of the names of a command
pub record RowNames (row : Row) : Type 0 where
  pub taken : options_of commands row.word ≡ row.options
  pub options : (n : List ℕ) → IsAmong n row.options → IsName n
  pub places : (n : List ℕ) → IsAmong n row.options → bytes_eq row.place n ≡ false
  pub flags : (n : List ℕ) → IsAmong n row.flags → IsName n

both : (a b : Bool) → (a && b) ≡ true → (a ≡ true) × (b ≡ true)
both true b e = (refl, e)
both false b e = absurd (true≢false (sym e))

not_true : (a : Bool) → not a ≡ true → a ≡ false
not_true true e = sym e
not_true false e = refl

-- what holds of all holds of one
one_of_all : {X : Type 0} (p : X → Bool) (xs : List X) (x : X) → list_all p xs ≡ true → IsAmong x xs → p x ≡ true
one_of_all p [] x all e = absurd e
one_of_all p (y ∷ ys) x all (inl e) = ap p e ∙ (both (p y) (list_all p ys) all).0
one_of_all p (y ∷ ys) x all (inr e) = one_of_all p ys x (both (p y) (list_all p ys) all).1 e

name_is : (n : List ℕ) → is_name n ≡ true → IsName n
name_is n e =
    let p = both (not (bytes_eq n [])) (not (has_equals n)) e in
    (not_true (bytes_eq n []) p.0, not_true (has_equals n) p.1)

-- the rows of the commands, computed
names_fit : list_all are_names commands ≡ true
names_fit = refl

-- each command has a word of its own
words_lead : (row : Row) → IsAmong row commands → options_of commands row.word ≡ row.options
words_lead row (inl e) = subst (λ (r : Row). options_of commands r.word ≡ r.options) (sym e) refl
words_lead row (inr (inl e)) = subst (λ (r : Row). options_of commands r.word ≡ r.options) (sym e) refl
words_lead row (inr (inr (inl e))) = subst (λ (r : Row). options_of commands r.word ≡ r.options) (sym e) refl
words_lead row (inr (inr (inr (inl e)))) = subst (λ (r : Row). options_of commands r.word ≡ r.options) (sym e) refl
words_lead row (inr (inr (inr (inr (inl e))))) = subst (λ (r : Row). options_of commands r.word ≡ r.options) (sym e) refl
words_lead row (inr (inr (inr (inr (inr (inl e)))))) = subst (λ (r : Row). options_of commands r.word ≡ r.options) (sym e) refl
words_lead row (inr (inr (inr (inr (inr (inr (inl e))))))) = subst (λ (r : Row). options_of commands r.word ≡ r.options) (sym e) refl
words_lead row (inr (inr (inr (inr (inr (inr (inr e))))))) = absurd e

pub row_names : (row : Row) → IsAmong row commands → RowNames row
row_names row e =
    let fits = both (list_all (is_free row.place) row.options) (list_all is_name row.flags) (one_of_all are_names commands row names_fit e) in
    record {
      taken = words_lead row e;
      options = λ n among. name_is n (both (is_name n) (not (bytes_eq row.place n)) (one_of_all (is_free row.place) row.options n fits.0 among)).0;
      places = λ n among. not_true (bytes_eq row.place n) (both (is_name n) (not (bytes_eq row.place n)) (one_of_all (is_free row.place) row.options n fits.0 among)).1;
      flags = λ n among. name_is n (one_of_all is_name row.flags n fits.1 among);
    }
