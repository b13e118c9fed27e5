-- Coarse pieces are bytes, and have some.
use Rattle.std.proofs.Common.{◌≡◌, ◌⊎◌, inl, inr, ℕ, zero, suc, ◌≤◌, Bool, true, false, List, [], ◌∷◌, ◌++◌, refl, ◌∙◌, ap, subst, arith}
use Rattle.std.specs.Prelude.{◌==◌, ◌||◌, ◌&&◌, not, codes, nat_lt}
use Rattle.std.specs.List.{list_all}
use Rattle.std.proofs.lemmas.Bool.{and_from, lt-ltb}
use Rattle.xml_text.specs.Characters.{is_blank}
use Rattle.xml_text.specs.Names.{begins_name, in_name}
use Rattle.derivatives.specs.Expressions.{Expr, range, star, Joins, at_once, on, Matches, is_over, is_more}
use Rattle.derivatives.specs.Derivatives.{chain_of, either_of}
use Rattle.derivatives.proofs.NormalForms.{ends_there}
use Rattle.page_forms.specs.Quotes.{quoted}
use Rattle.page_forms.specs.Remarks.{times}
use Rattle.page_forms.specs.Words.{word, ascii, name_form}
use Rattle.page_forms.proofs.Spelling.{joins_is}
use Rattle.coarse_forms.specs.CoarseForms.{byte_of, byte_but, text_byte, coarse_reference, parts_of_tag, value_bytes, coarse_tag, coarse_end_tag, coarse_comment, bytes_then, bytes_up_to, coarse_section, coarse_instruction, coarse_doctype, coarse_form}
use Rattle.coarse_forms.specs.Laws.{OfBytes}
use Rattle.coarse_forms.proofs.Bytes.{Taken, byte_shown, byte_made}
use Rattle.coarse_forms.proofs.Within.{Within, further, both, stars, more, once, ascii_in, are_in, word_in}

-- any byte
abbrev any : ℕ → Bool
any c = true

abbrev Any : Expr
Any = star (byte_of any)

of_ascii : (t : ℕ → Bool) → Within (ascii t) Any
of_ascii t = ascii_in any t (λ c h. refl)

of_byte_of : (t : ℕ → Bool) → Within (byte_of t) Any
of_byte_of t = record { goes = λ w d. at w (byte_shown t d) }
  where
    at : (w : List ℕ) → Taken t w → Matches Any w
    at w o = subst (λ (z : List ℕ). Matches Any z) o.is (is_more (ends_there (o.byte ∷ [])) (byte_made any o.byte o.below (inl refl)) is_over)

of_word : (w : List ℕ) → are_in any w ≡ true → Within (word w) Any
of_word w h = word_in any w h

of_quoted : (between : ℕ → Expr) → ((q : ℕ) → Within (between q) Any) → Within (quoted between) Any
of_quoted between f = both (by 34) (by 39) (one 34 refl) (one 39 refl)
  where
    by : ℕ → Expr
    by q = chain_of (range q q) (chain_of (between q) (range q q))

    one : (q : ℕ) → are_in any (q ∷ []) ≡ true → Within (chain_of (range q q) (chain_of (between q) (range q q))) Any
    one q h = more (range q q) (chain_of (between q) (range q q)) (of_word (q ∷ []) h) (more (between q) (range q q) (f q) (of_word (q ∷ []) h))

of_parts : (t : ℕ → Bool) (between : ℕ → Expr) → ((q : ℕ) → Within (between q) Any) → Within (parts_of_tag t between) Any
of_parts t between f = stars (both (ascii t) (quoted between) (of_ascii t) (of_quoted between f))

of_then : (c k : ℕ) → are_in any (c ∷ []) ≡ true → Within (bytes_then c k) Any
of_then c zero h = more (star (range c c)) (byte_of (λ d. not (d == c || d == 62))) (stars (of_word (c ∷ []) h)) (of_byte_of (λ d. not (d == c || d == 62)))
of_then c (suc k) h =
    both (byte_but c) (chain_of (range c c) (bytes_then c k)) (of_byte_of (λ d. not (d == c))) (more (range c c) (bytes_then c k) (of_word (c ∷ []) h) (of_then c k h))

of_up_to : (c k : ℕ) → are_in any (c ∷ []) ≡ true → are_in any (times c k) ≡ true → Within (bytes_up_to c k) Any
of_up_to c k h g =
    more (star (bytes_then c k)) (chain_of (word (times c k)) (chain_of (star (range c c)) (range 62 62))) (stars (of_then c k h))
    (more (word (times c k)) (chain_of (star (range c c)) (range 62 62)) (of_word (times c k) g)
    (more (star (range c c)) (range 62 62) (stars (of_word (c ∷ []) h)) (of_word (62 ∷ []) refl)))

of_reference : Within coarse_reference Any
of_reference =
    more (word (codes "&")) (chain_of (star (ascii (λ c. in_name c || c == 35))) (word (codes ";"))) (of_word (codes "&") refl)
    (more (star (ascii (λ c. in_name c || c == 35))) (word (codes ";")) (stars (of_ascii (λ c. in_name c || c == 35))) (of_word (codes ";") refl))

of_tag : Within coarse_tag Any
of_tag =
    more (word (codes "<")) (chain_of (ascii begins_name) (chain_of (parts_of_tag (λ c. in_name c || is_blank c || (c == 61 || c == 47)) value_bytes) (word (codes ">")))) (of_word (codes "<") refl)
    (more (ascii begins_name) (chain_of (parts_of_tag (λ c. in_name c || is_blank c || (c == 61 || c == 47)) value_bytes) (word (codes ">"))) (of_ascii begins_name)
    (more (parts_of_tag (λ c. in_name c || is_blank c || (c == 61 || c == 47)) value_bytes) (word (codes ">")) (of_parts (λ c. in_name c || is_blank c || (c == 61 || c == 47)) value_bytes (λ q. stars (of_byte_of (λ c. not (c == 60 || c == q))))) (of_word (codes ">") refl)))

of_end_tag : Within coarse_end_tag Any
of_end_tag =
    more (word (codes "</")) (chain_of (star (ascii (λ c. in_name c || is_blank c))) (word (codes ">"))) (of_word (codes "</") refl)
    (more (star (ascii (λ c. in_name c || is_blank c))) (word (codes ">")) (stars (of_ascii (λ c. in_name c || is_blank c))) (of_word (codes ">") refl))

of_comment : Within coarse_comment Any
of_comment =
    more (word (codes "<!--")) (chain_of (star (either_of (byte_but 45) (chain_of (range 45 45) (byte_but 45)))) (word (codes "-->"))) (of_word (codes "<!--") refl)
    (more (star (either_of (byte_but 45) (chain_of (range 45 45) (byte_but 45)))) (word (codes "-->"))
    (stars (both (byte_but 45) (chain_of (range 45 45) (byte_but 45)) (of_byte_of (λ d. not (d == 45))) (more (range 45 45) (byte_but 45) (of_word (45 ∷ []) refl) (of_byte_of (λ d. not (d == 45))))))
    (of_word (codes "-->") refl))

of_section : Within coarse_section Any
of_section = more (word (codes "<![CDATA[")) (bytes_up_to 93 2) (of_word (codes "<![CDATA[") refl) (of_up_to 93 2 refl refl)

of_name : Within name_form Any
of_name = more (ascii begins_name) (star (ascii in_name)) (of_ascii begins_name) (stars (of_ascii in_name))

of_instruction : Within coarse_instruction Any
of_instruction =
    more (word (codes "<?")) (chain_of name_form (either_of (word (codes "?>")) (chain_of (ascii is_blank) (bytes_up_to 63 1)))) (of_word (codes "<?") refl)
    (more name_form (either_of (word (codes "?>")) (chain_of (ascii is_blank) (bytes_up_to 63 1))) of_name
    (both (word (codes "?>")) (chain_of (ascii is_blank) (bytes_up_to 63 1)) (of_word (codes "?>") refl) (more (ascii is_blank) (bytes_up_to 63 1) (of_ascii is_blank) (of_up_to 63 1 refl refl))))

of_doctype : Within coarse_doctype Any
of_doctype =
    more (word (codes "<!DOCTYPE")) (chain_of (parts_of_tag (λ c. in_name c || is_blank c) (λ q. star (byte_but q))) (word (codes ">"))) (of_word (codes "<!DOCTYPE") refl)
    (more (parts_of_tag (λ c. in_name c || is_blank c) (λ q. star (byte_but q))) (word (codes ">")) (of_parts (λ c. in_name c || is_blank c) (λ q. star (byte_but q)) (λ q. stars (of_byte_of (λ d. not (d == q))))) (of_word (codes ">") refl))

of_form : Within coarse_form Any
unfolding coarse_form
of_form =
    both text_byte (either_of coarse_reference (either_of coarse_tag (either_of coarse_end_tag (either_of coarse_comment (either_of coarse_section (either_of coarse_instruction coarse_doctype)))))) (of_byte_of (λ c. not (c == 60 || c == 38)))
    (both coarse_reference (either_of coarse_tag (either_of coarse_end_tag (either_of coarse_comment (either_of coarse_section (either_of coarse_instruction coarse_doctype))))) of_reference
    (both coarse_tag (either_of coarse_end_tag (either_of coarse_comment (either_of coarse_section (either_of coarse_instruction coarse_doctype)))) of_tag
    (both coarse_end_tag (either_of coarse_comment (either_of coarse_section (either_of coarse_instruction coarse_doctype))) of_end_tag
    (both coarse_comment (either_of coarse_section (either_of coarse_instruction coarse_doctype)) of_comment
    (both coarse_section (either_of coarse_instruction coarse_doctype) of_section (both coarse_instruction coarse_doctype of_instruction of_doctype))))))

bytes_of : {w : List ℕ} → Matches Any w → OfBytes w
bytes_of is_over = refl
bytes_of (is_more {v = v} j d e) = put (byte_shown any d) j (bytes_of e)
  where
    put : {u w : List ℕ} → Taken any u → Joins u v w → OfBytes v → OfBytes w
    put t j h =
        let l = t.below in
        subst OfBytes (ap (λ (z : List ℕ). z ++ v) t.is ∙ joins_is j) (and_from (nat_lt t.byte 256) (list_all (λ b. nat_lt b 256) v) (lt-ltb t.byte 256 (omega (arith, l))) h)

-- a coarse piece is a text of bytes
pub coarse_bytes : (w : List ℕ) → Matches coarse_form w → OfBytes w
coarse_bytes w d = bytes_of (of_form.goes w d)

-- and so are such pieces in turn
pub coarse_all_bytes : (w : List ℕ) → Matches (star coarse_form) w → OfBytes w
coarse_all_bytes w d = bytes_of ((stars of_form).goes w d)
