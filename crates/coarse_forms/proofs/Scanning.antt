-- A text has at most one coarse piece at its head.
use Rattle.std.proofs.Common.{◌≡◌, ◌⊎◌, inl, inr, ℕ, zero, suc, ◌<◌, ◌≤◌, Bool, true, false, List, [], ◌∷◌, ◌++◌, Option, Some, None, refl, sym, ◌∙◌, ap, append-nil, arith}
use Rattle.std.specs.Prelude.{◌==◌, ◌||◌, not, if◌then◌else◌, codes}
use Rattle.std.proofs.lemmas.Bool.{not-true, ne_eqb}
use Rattle.std.proofs.lemmas.Bool.Decides.{nat_tests}
use Rattle.xml_text.specs.Characters.{is_blank}
use Rattle.xml_text.specs.Names.{begins_name, in_name}
use Rattle.derivatives.specs.Expressions.{Expr, range, star, Matches}
use Rattle.derivatives.specs.Derivatives.{chain_of, either_of}
use Rattle.page_model.specs.Parts.{is_quote}
use Rattle.page_forms.specs.Quotes.{quoted}
use Rattle.page_forms.specs.Remarks.{times}
use Rattle.page_forms.specs.Words.{word, ascii, name_form}
use Rattle.page_forms.proofs.NameForms.{begins_in}
use Rattle.coarse_forms.specs.CoarseForms.{byte_of, byte_but, text_byte, coarse_reference, parts_of_tag, value_bytes, coarse_tag, coarse_end_tag, coarse_comment, bytes_then, bytes_up_to, coarse_section, coarse_instruction, coarse_doctype, coarse_form}
use Rattle.coarse_forms.specs.Laws.{CoarseEndsOnce, CoarseHasBytes}
use Rattle.coarse_forms.proofs.Leads.{Scanner, Leads, leads_chain, leads_either, leads_star, leads_word, leads_byte, leads_ascii, leads_byte_of, leads_quoted, if_so, if_not}

-- up to this byte
abbrev up_to : ℕ → Scanner
up_to c [] = None
up_to c (b ∷ bs) = if b == c then Some bs else up_to c bs

-- up to `>` outside quotes; in these quotes
abbrev in_tag : Option ℕ → Scanner
in_tag o [] = None
in_tag None (b ∷ bs) = if b == 62 then Some bs else (if is_quote b then in_tag (Some b) bs else in_tag None bs)
in_tag (Some q) (b ∷ bs) = if b == q then in_tag None bs else in_tag (Some q) bs

-- up to a mark of so many times this byte and `>`, of which so many are still to come
abbrev in_marked : ℕ → ℕ → ℕ → Scanner
in_marked c m k [] = None
in_marked c m zero (b ∷ bs) = if b == c then in_marked c m zero bs else (if b == 62 then Some bs else in_marked c m m bs)
in_marked c m (suc k) (b ∷ bs) = if b == c then in_marked c m k bs else in_marked c m m bs

-- in the target of an instruction
abbrev in_target : Scanner
in_target [] = None
in_target (b ∷ bs) = if b == 63 then in_marked 63 1 0 bs else (if is_blank b then in_marked 63 1 1 bs else in_target bs)

-- behind `<!`
abbrev behind_bang : Scanner
behind_bang [] = None
behind_bang (b ∷ bs) = if b == 45 then in_marked 45 2 3 bs else (if b == 91 then in_marked 93 2 2 bs else in_tag None bs)

-- behind `<`
abbrev behind_less : Scanner
behind_less [] = None
behind_less (b ∷ bs) = if b == 33 then behind_bang bs else (if b == 63 then in_target bs else (if b == 47 then up_to 62 bs else in_tag None bs))

abbrev scan : Scanner
scan [] = None
scan (b ∷ bs) = if b == 60 then behind_less bs else (if b == 38 then up_to 59 bs else Some bs)

abbrev done : Scanner
done bs = Some bs

-- Classes of bytes.

other_byte : (c d : ℕ) → d < 128 → (not (c == d) ≡ true) ⊎ (128 ≤ c) → (c == d) ≡ false
other_byte c d l (inl h) = not-true (c == d) h
other_byte c d l (inr h) = ne_eqb c d (λ e. absurd (omega (arith, l, h, e)))

-- Texts.

of_text : Leads text_byte scan done
of_text = leads_byte_of (λ c. not (c == 60 || c == 38)) (λ b p rest. if_not (b == 60) _ _ (less b p) ∙ if_not (b == 38) _ _ (and b p))
  where
    less : (b : ℕ) → (not (b == 60 || b == 38) ≡ true) ⊎ (128 ≤ b) → (b == 60) ≡ false
    less b (inl h) = grind (arith, nat_tests)
    less b (inr h) = grind (arith, nat_tests)

    and : (b : ℕ) → (not (b == 60 || b == 38) ≡ true) ⊎ (128 ≤ b) → (b == 38) ≡ false
    and b (inl h) = grind (arith, nat_tests)
    and b (inr h) = grind (arith, nat_tests)

abbrev reference_test : ℕ → Bool
reference_test c = in_name c || c == 35

of_reference : Leads coarse_reference scan done
of_reference =
    leads_chain (word (codes "&")) (chain_of (star (ascii reference_test)) (word (codes ";"))) (leads_word (codes "&") (λ rest. refl))
    (leads_chain (star (ascii reference_test)) (word (codes ";")) (leads_star (ascii reference_test) (leads_ascii reference_test (λ b h rest. if_not (b == 59) _ _ (other b h)))) (leads_word (codes ";") (λ rest. refl)))
  where
    other : (b : ℕ) → (in_name b || b == 35) ≡ true → (b == 59) ≡ false
    other b h = grind (arith, nat_tests)

-- what stands in a tag leaves it open
of_parts : (test : ℕ → Bool) (between : ℕ → Expr) → ((b : ℕ) → test b ≡ true → (b == 62) ≡ false) → ((b : ℕ) → test b ≡ true → is_quote b ≡ false)
    → ((q : ℕ) → is_quote q ≡ true → Leads (between q) (in_tag (Some q)) (in_tag (Some q))) → Leads (parts_of_tag test between) (in_tag None) (in_tag None)
of_parts test between greater quote stays =
    leads_star (either_of (ascii test) (quoted between))
    (leads_either (ascii test) (quoted between)
    (leads_ascii test (λ b h rest. if_not (b == 62) _ _ (greater b h) ∙ if_not (is_quote b) _ _ (quote b h)))
    (leads_quoted between (λ q. in_tag (Some q)) (λ q h rest. if_not (q == 62) _ _ (no_greater q h) ∙ if_so (is_quote q) _ _ h) stays (λ q h rest. if_so (q == q) _ _ (own q))))
  where
    no_greater : (q : ℕ) → is_quote q ≡ true → (q == 62) ≡ false
    no_greater q h = grind (arith, nat_tests)

    own : (q : ℕ) → (q == q) ≡ true
    own q = grind (arith, nat_tests)

abbrev tag_test : ℕ → Bool
tag_test c = in_name c || is_blank c || (c == 61 || c == 47)

of_tag : Leads coarse_tag scan done
of_tag =
    leads_chain (word (codes "<")) (chain_of (ascii begins_name) (chain_of (parts_of_tag tag_test value_bytes) (word (codes ">")))) (leads_word (codes "<") (λ rest. refl))
    (leads_chain (ascii begins_name) (chain_of (parts_of_tag tag_test value_bytes) (word (codes ">")))
    (leads_ascii begins_name (λ b h rest. if_not (b == 33) _ _ (bang b h) ∙ if_not (b == 63) _ _ (ask b h) ∙ if_not (b == 47) _ _ (slash b h)))
    (leads_chain (parts_of_tag tag_test value_bytes) (word (codes ">")) (of_parts tag_test value_bytes greater quote in_value) (leads_word (codes ">") (λ rest. refl))))
  where
    bang : (b : ℕ) → begins_name b ≡ true → (b == 33) ≡ false
    bang b h = grind (arith, nat_tests)

    ask : (b : ℕ) → begins_name b ≡ true → (b == 63) ≡ false
    ask b h = grind (arith, nat_tests)

    slash : (b : ℕ) → begins_name b ≡ true → (b == 47) ≡ false
    slash b h = grind (arith, nat_tests)

    greater : (b : ℕ) → (in_name b || is_blank b || (b == 61 || b == 47)) ≡ true → (b == 62) ≡ false
    greater b h = grind (arith, nat_tests)

    quote : (b : ℕ) → (in_name b || is_blank b || (b == 61 || b == 47)) ≡ true → is_quote b ≡ false
    quote b h = grind (arith, nat_tests)

    other : (q b : ℕ) → is_quote q ≡ true → (not (b == 60 || b == q) ≡ true) ⊎ (128 ≤ b) → (b == q) ≡ false
    other q b h (inl g) = grind (arith, nat_tests)
    other q b h (inr g) = grind (arith, nat_tests)

    in_value : (q : ℕ) → is_quote q ≡ true → Leads (value_bytes q) (in_tag (Some q)) (in_tag (Some q))
    in_value q h = leads_star (byte_of (λ c. not (c == 60 || c == q))) (leads_byte_of (λ c. not (c == 60 || c == q)) (λ b p rest. if_not (b == q) _ _ (other q b h p)))

abbrev end_test : ℕ → Bool
end_test c = in_name c || is_blank c

of_end_tag : Leads coarse_end_tag scan done
of_end_tag =
    leads_chain (word (codes "</")) (chain_of (star (ascii end_test)) (word (codes ">"))) (leads_word (codes "</") (λ rest. refl))
    (leads_chain (star (ascii end_test)) (word (codes ">")) (leads_star (ascii end_test) (leads_ascii end_test (λ b h rest. if_not (b == 62) _ _ (other b h)))) (leads_word (codes ">") (λ rest. refl)))
  where
    other : (b : ℕ) → (in_name b || is_blank b) ≡ true → (b == 62) ≡ false
    other b h = grind (arith, nat_tests)

own_byte : (c : ℕ) → (c == c) ≡ true
own_byte c = grind (arith, nat_tests)

-- a byte but this one begins the mark anew, where some of it is still to come
of_other : (c m k : ℕ) → c < 128 → Leads (byte_but c) (in_marked c m (suc k)) (in_marked c m m)
of_other c m k l = leads_byte_of (λ d. not (d == c)) (λ b p rest. if_not (b == c) _ _ (other_byte b c l p))

of_one : (c m k : ℕ) → Leads (range c c) (in_marked c m (suc k)) (in_marked c m k)
of_one c m k = leads_byte c (λ rest. if_so (c == c) _ _ (own_byte c))

of_more : (c m : ℕ) → Leads (star (range c c)) (in_marked c m 0) (in_marked c m 0)
of_more c m = leads_star (range c c) (leads_byte c (λ rest. if_so (c == c) _ _ (own_byte c)))

of_comment : Leads coarse_comment scan done
of_comment =
    leads_chain (word (codes "<!--")) (chain_of (star (either_of (byte_but 45) (chain_of (range 45 45) (byte_but 45)))) (word (codes "-->"))) (leads_word (codes "<!--") (λ rest. refl))
    (leads_chain (star (either_of (byte_but 45) (chain_of (range 45 45) (byte_but 45)))) (word (codes "-->"))
    (leads_star (either_of (byte_but 45) (chain_of (range 45 45) (byte_but 45)))
    (leads_either (byte_but 45) (chain_of (range 45 45) (byte_but 45)) (of_other 45 2 1 (omega arith))
    (leads_chain (range 45 45) (byte_but 45) (of_one 45 2 1) (of_other 45 2 0 (omega arith)))))
    (leads_word (codes "-->") (λ rest. refl)))

of_then : (c m k : ℕ) → c < 128 → Leads (bytes_then c k) (in_marked c m k) (in_marked c m m)
of_then c m zero l = leads_chain (star (range c c)) (byte_of (λ d. not (d == c || d == 62))) (of_more c m) (leads_byte_of (λ d. not (d == c || d == 62)) (λ b p rest. if_not (b == c) _ _ (other b p) ∙ if_not (b == 62) _ _ (greater b p)))
  where
    other : (b : ℕ) → (not (b == c || b == 62) ≡ true) ⊎ (128 ≤ b) → (b == c) ≡ false
    other b (inl g) = grind (arith, nat_tests)
    other b (inr g) = ne_eqb b c (λ e. absurd (omega (arith, l, g, e)))

    greater : (b : ℕ) → (not (b == c || b == 62) ≡ true) ⊎ (128 ≤ b) → (b == 62) ≡ false
    greater b (inl g) = grind (arith, nat_tests)
    greater b (inr g) = grind (arith, nat_tests)
of_then c m (suc k) l =
    leads_either (byte_but c) (chain_of (range c c) (bytes_then c k)) (of_other c m k l) (leads_chain (range c c) (bytes_then c k) (of_one c m k) (of_then c m k l))

of_times : (c m k : ℕ) → Leads (word (times c k)) (in_marked c m k) (in_marked c m 0)
of_times c m k = leads_word (times c k) (λ rest. at k rest)
  where
    at : (k : ℕ) (rest : List ℕ) → in_marked c m k (times c k ++ rest) ≡ in_marked c m 0 rest
    at zero rest = refl
    at (suc k) rest = if_so (c == c) _ _ (own_byte c) ∙ at k rest

of_up_to : (c m : ℕ) → (c < 62) ⊎ (62 < c) → c < 128 → Leads (bytes_up_to c m) (in_marked c m m) done
of_up_to c m n l =
    leads_chain (star (bytes_then c m)) (chain_of (word (times c m)) (chain_of (star (range c c)) (range 62 62))) (leads_star (bytes_then c m) (of_then c m m l))
    (leads_chain (word (times c m)) (chain_of (star (range c c)) (range 62 62)) (of_times c m m)
    (leads_chain (star (range c c)) (range 62 62) (of_more c m) (leads_byte 62 (λ rest. if_not (62 == c) _ _ (other n)))))
  where
    other : (c < 62) ⊎ (62 < c) → (62 == c) ≡ false
    other (inl h) = grind (arith, nat_tests)
    other (inr h) = grind (arith, nat_tests)

of_section : Leads coarse_section scan done
of_section = leads_chain (word (codes "<![CDATA[")) (bytes_up_to 93 2) (leads_word (codes "<![CDATA[") (λ rest. refl)) (of_up_to 93 2 (inr (omega arith)) (omega arith))

of_name : Leads name_form in_target in_target
of_name =
    leads_chain (ascii begins_name) (star (ascii in_name)) (leads_ascii begins_name (λ b h rest. if_not (b == 63) _ _ (ask b (begins_in b h)) ∙ if_not (is_blank b) _ _ (blank b (begins_in b h))))
    (leads_star (ascii in_name) (leads_ascii in_name (λ b h rest. if_not (b == 63) _ _ (ask b h) ∙ if_not (is_blank b) _ _ (blank b h))))
  where
    ask : (b : ℕ) → in_name b ≡ true → (b == 63) ≡ false
    ask b h = grind (arith, nat_tests)

    blank : (b : ℕ) → in_name b ≡ true → is_blank b ≡ false
    blank b h = grind (arith, nat_tests)

of_instruction : Leads coarse_instruction scan done
of_instruction =
    leads_chain (word (codes "<?")) (chain_of name_form (either_of (word (codes "?>")) (chain_of (ascii is_blank) (bytes_up_to 63 1)))) (leads_word (codes "<?") (λ rest. refl))
    (leads_chain name_form (either_of (word (codes "?>")) (chain_of (ascii is_blank) (bytes_up_to 63 1))) of_name
    (leads_either (word (codes "?>")) (chain_of (ascii is_blank) (bytes_up_to 63 1)) (leads_word (codes "?>") (λ rest. refl))
    (leads_chain (ascii is_blank) (bytes_up_to 63 1) (leads_ascii is_blank (λ b h rest. if_not (b == 63) _ _ (ask b h) ∙ if_so (is_blank b) _ _ h))
    (of_up_to 63 1 (inr (omega arith)) (omega arith)))))
  where
    ask : (b : ℕ) → is_blank b ≡ true → (b == 63) ≡ false
    ask b h = grind (arith, nat_tests)

abbrev literal : ℕ → Expr
literal q = star (byte_but q)

of_doctype : Leads coarse_doctype scan done
of_doctype =
    leads_chain (word (codes "<!DOCTYPE")) (chain_of (parts_of_tag end_test literal) (word (codes ">"))) (leads_word (codes "<!DOCTYPE") (λ rest. refl))
    (leads_chain (parts_of_tag end_test literal) (word (codes ">")) (of_parts end_test literal greater quote in_literal) (leads_word (codes ">") (λ rest. refl)))
  where
    greater : (b : ℕ) → (in_name b || is_blank b) ≡ true → (b == 62) ≡ false
    greater b h = grind (arith, nat_tests)

    quote : (b : ℕ) → (in_name b || is_blank b) ≡ true → is_quote b ≡ false
    quote b h = grind (arith, nat_tests)

    small : (q : ℕ) → is_quote q ≡ true → q < 128
    small q h = grind (arith, nat_tests)

    in_literal : (q : ℕ) → is_quote q ≡ true → Leads (literal q) (in_tag (Some q)) (in_tag (Some q))
    in_literal q h = leads_star (byte_but q) (leads_byte_of (λ c. not (c == q)) (λ b p rest. if_not (b == q) _ _ (other_byte b q (small q h) p)))

scanned : Leads coarse_form scan done
unfolding coarse_form
scanned =
    leads_either _ _ of_text
    (leads_either _ _ of_reference
    (leads_either _ _ of_tag (leads_either _ _ of_end_tag (leads_either _ _ of_comment (leads_either _ _ of_section (leads_either _ _ of_instruction of_doctype))))))

pub coarse_ends_once : CoarseEndsOnce
coarse_ends_once u v d f = same v [] (sym (scanned.goes u v d) ∙ ap scan (sym (append-nil (u ++ v))) ∙ scanned.goes (u ++ v) [] f)
  where
    same : (x y : List ℕ) → (let o : Option (List ℕ) = Some x in o ≡ Some y) → x ≡ y
    same x y e = cc

pub coarse_has_bytes : CoarseHasBytes
coarse_has_bytes d = no (scanned.goes [] [] d)
  where
    no : (let o : Option (List ℕ) = None in o ≡ Some []) → ⊥
    no e = cc
