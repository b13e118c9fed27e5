-- Which texts an expression matches, and which fit a pattern.
use Rattle.std.proofs.Common.{◌≡◌, ◌∙◌, ◌<◌, ℕ, ◌⊎◌, inl, inr, Bool, true, false, List, [], ◌∷◌, None, refl, sym, ap, subst}
use Rattle.std.specs.Prelude.{◌↔◌, not, slice_index_or, if◌then◌else◌}
use Rattle.derivatives.specs.Expressions.{Expr, nothing, empty, chain, either, star, Joins, Matches, is_empty, is_chain, is_left, is_right, is_over, is_more}
use Rattle.derivatives.specs.Derivatives.{chain_of, either_of}
use Rattle.derivatives.proofs.NormalForms.{chain_shown, chain_made, either_shown, either_made}
use Rattle.byte_forms.specs.Classes.{in_class}
use Rattle.byte_forms.specs.Laws.{IsByteBelow}
use Rattle.byte_forms.specs.Ranges.{ranges_below}
use Rattle.byte_forms.specs.declared.class.ByteClass.{ByteClass}
use Rattle.byte_forms.proofs.ByteLemmas.{byte_is_matched}
use Rattle.page_policy.specs.Patterns.{Pattern, byte_of, void, seq, alt, any, some, maybe, in_ranges, is_meant, Fits, fits_byte, fits_void, fits_seq, fits_first, fits_second, fits_none, fits_more, fits_some, fits_absent, fits_present}
use Rattle.page_policy.specs.Forms.{byte_form, form_of, FormsMatchWhatFits}
use Rattle.page_policy.specs.Views.{IsClass}

-- the expression matches exactly the texts that fit
abbrev IsAs : Expr → Pattern → Type 0
IsAs x p = (w : List ℕ) → Matches x w ↔ Fits p w

void_as : IsAs empty void
void_as w = (forth, back)
  where
    forth : {w : List ℕ} → Matches empty w → Fits void w
    forth is_empty = fits_void

    back : {w : List ℕ} → Fits void w → Matches empty w
    back fits_void = is_empty

seq_as : (x y : Expr) (p q : Pattern) → IsAs x p → IsAs y q → IsAs (chain_of x y) (seq p q)
seq_as x y p q f g w = (λ d. forth (chain_shown x y d), λ d. chain_made x y (back d))
  where
    forth : {w : List ℕ} → Matches (chain x y) w → Fits (seq p q) w
    forth (is_chain {u = u} {v = v} j d e) = fits_seq j ((f u).0 d) ((g v).0 e)

    back : {w : List ℕ} → Fits (seq p q) w → Matches (chain x y) w
    back (fits_seq {u = u} {v = v} j d e) = is_chain j ((f u).1 d) ((g v).1 e)

alt_as : (x y : Expr) (p q : Pattern) → IsAs x p → IsAs y q → IsAs (either_of x y) (alt p q)
alt_as x y p q f g w = (λ d. forth (either_shown x y d), λ d. either_made x y (back d))
  where
    forth : {w : List ℕ} → Matches (either x y) w → Fits (alt p q) w
    forth (is_left {w = w} d) = fits_first ((f w).0 d)
    forth (is_right {w = w} d) = fits_second ((g w).0 d)

    back : {w : List ℕ} → Fits (alt p q) w → Matches (either x y) w
    back (fits_first {w = w} d) = is_left ((f w).1 d)
    back (fits_second {w = w} d) = is_right ((g w).1 d)

star_fits : (x : Expr) (p : Pattern) → IsAs x p → {w : List ℕ} → Matches (star x) w → Fits (any p) w
star_fits x p f is_over = fits_none
star_fits x p f (is_more {u = u} j d e) = fits_more j ((f u).0 d) (star_fits x p f e)

fits_star : (x : Expr) (p : Pattern) → IsAs x p → {w : List ℕ} → Fits (any p) w → Matches (star x) w
fits_star x p f fits_none = is_over
fits_star x p f (fits_more {u = u} j d e) = is_more j ((f u).1 d) (fits_star x p f e)

any_as : (x : Expr) (p : Pattern) → IsAs x p → IsAs (star x) (any p)
any_as x p f w = (λ d. star_fits x p f d, λ d. fits_star x p f d)

some_as : (x y : Expr) (p : Pattern) → IsAs x p → IsAs y (any p) → IsAs (chain_of x y) (some p)
some_as x y p f g w = (λ d. forth (chain_shown x y d), λ d. chain_made x y (back d))
  where
    forth : {w : List ℕ} → Matches (chain x y) w → Fits (some p) w
    forth (is_chain {u = u} {v = v} j d e) = fits_some j ((f u).0 d) ((g v).0 e)

    back : {w : List ℕ} → Fits (some p) w → Matches (chain x y) w
    back (fits_some {u = u} {v = v} j d e) = is_chain j ((f u).1 d) ((g v).1 e)

maybe_as : (x y : Expr) (p : Pattern) → IsAs x void → IsAs y p → IsAs (either_of x y) (maybe p)
maybe_as x y p f g w = (λ d. forth (either_shown x y d), λ d. either_made x y (back d))
  where
    absent : {w : List ℕ} → Fits void w → Fits (maybe p) w
    absent fits_void = fits_absent

    forth : {w : List ℕ} → Matches (either x y) w → Fits (maybe p) w
    forth (is_left {w = w} d) = absent ((f w).0 d)
    forth (is_right {w = w} d) = fits_present ((g w).0 d)

    back : {w : List ℕ} → Fits (maybe p) w → Matches (either x y) w
    back fits_absent = is_left ((f []).1 fits_void)
    back (fits_present {w = w} d) = is_right ((g w).1 d)

-- Classes of bytes.

same_truth : (x y : Bool) → (x ≡ true → y ≡ true) → (y ≡ true → x ≡ true) → x ≡ y
same_truth true y f g = sym (f refl)
same_truth false true f g = g refl
same_truth false false f g = refl

pub class_meant : (class : ByteClass) (out : Bool) (rs : List (ℕ × ℕ)) → IsClass class out rs → (b : ℕ) → b < 256 → in_class class b ≡ is_meant out rs b
class_meant class out rs is b lt =
    let same = same_truth (slice_index_or class.set b false) (in_ranges rs b) (is.ranges b lt).0 (is.ranges b lt).1 in
    ap (λ (o : Bool). if o then not (slice_index_or class.set b false) else slice_index_or class.set b false) is.others ∙ at out same
  where
    at : (out : Bool) {s : Bool} → s ≡ in_ranges rs b → (if out then not s else s) ≡ is_meant out rs b
    at true e = ap not e
    at false e = e

byte_as : (out : Bool) (rs : List (ℕ × ℕ)) → IsAs (byte_form (is_meant out rs)) (byte_of out rs)
unfolding byte_form
byte_as out rs w = (λ d. forth ((byte_is_matched (is_meant out rs) 256 w).0 d), λ d. (byte_is_matched (is_meant out rs) 256 w).1 (back d))
  where
    forth : {w : List ℕ} → IsByteBelow (is_meant out rs) 256 w → Fits (byte_of out rs) w
    forth p = subst (λ (z : List ℕ). Fits (byte_of out rs) z) p.is (fits_byte p.below p.passes)

    back : {w : List ℕ} → Fits (byte_of out rs) w → IsByteBelow (is_meant out rs) 256 w
    back (fits_byte {b = b} lt h) = record { byte = b; below = lt; passes = h; is = refl }

pub forms_match : FormsMatchWhatFits
forms_match (byte_of out rs) = byte_as out rs
forms_match void = void_as
forms_match (seq p q) = seq_as (form_of p) (form_of q) p q (forms_match p) (forms_match q)
forms_match (alt p q) = alt_as (form_of p) (form_of q) p q (forms_match p) (forms_match q)
forms_match (any p) = any_as (form_of p) p (forms_match p)
forms_match (some p) = some_as (form_of p) (star (form_of p)) p (forms_match p) (any_as (form_of p) p (forms_match p))
forms_match (maybe p) = maybe_as empty (form_of p) p void_as (forms_match p)
