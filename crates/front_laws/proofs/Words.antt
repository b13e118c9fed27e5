-- Values of words: whether one is open, and whether one stands before.
use Rattle.std.proofs.Common.{◌≡◌, ℕ, suc, ◌+◌, ◌-◌, ◌<◌, Bool, true, false, not, ◌&&◌, ◌||◌, List, [], ◌∷◌, ◌++◌, length, Option, Some, None, refl, sym, ◌∙◌, ap, subst, append_assoc, append-nil, arith}
use Rattle.std.specs.Prelude.{if◌then◌else◌, nat_lt}
use Rattle.xml_text.specs.Characters.{is_blank}
use Rattle.xml_text.specs.Names.{in_name}
use Rattle.dtd_model.specs.References.{is_some}
use Rattle.dtd_model.specs.Table.{Kind}
use Rattle.page_model.specs.Attributes.{words_of}
use Rattle.page_model.specs.Parts.{begins_blank}
use Rattle.page_model.specs.OpenValues.{OpenValue, in_choice, in_words, ends_blank, first_word, words_behind}
use Rattle.page_steps.specs.ValueSteps.{has_many, begins_word, words_step, choice_step, kept_step}
use Rattle.reference_steps.proofs.Words.{head_word, other_words, words_blank, words_other, head_blank, others_blank, head_other, others_other}
use Rattle.front_laws.proofs.Folds.{Folds, From, here, on, nowhere, somewhere, either}

abbrev pub has_blank : List ℕ → Bool
has_blank [] = false
has_blank (c ∷ cs) = is_blank c || has_blank cs

-- some word is over
abbrev pub some_over : List ℕ → Bool
some_over cs = nat_lt 0 (words_behind cs)

ends_more : (c : ℕ) (cs : List ℕ) → is_blank c ≡ true → ends_blank (c ∷ cs) ≡ ends_blank cs
ends_more c [] h = h
ends_more c (d ∷ cs) h = refl

some_words : (cs : List ℕ) → ends_blank cs ≡ false → nat_lt 0 (length (words_of cs)) ≡ true
some_words [] e = cc
some_words (c ∷ cs) e = at (is_blank c) refl (some_words cs)
  where
    at : (b : Bool) → is_blank c ≡ b → (ends_blank cs ≡ false → nat_lt 0 (length (words_of cs)) ≡ true) → nat_lt 0 (length (words_of (c ∷ cs))) ≡ true
    at true h ih = ap (λ (ws : List (List ℕ)). nat_lt 0 (length ws)) (words_blank c cs h) ∙ ih (sym (ends_more c cs h) ∙ e)
    at false h ih = ap (λ (ws : List (List ℕ)). nat_lt 0 (length ws)) (words_other c cs h) ∙ some (other_words cs)
      where
        some : (ws : List (List ℕ)) → nat_lt 0 (length ((c ∷ head_word cs) ∷ ws)) ≡ true
        some ws = grind arith

-- where the last character is no white space, words stand behind the first exactly where white space does
others_some : (cs : List ℕ) → ends_blank (0x61 ∷ cs) ≡ false → nat_lt 0 (length (other_words cs)) ≡ has_blank cs
others_some [] e = refl
others_some (c ∷ cs) e = at (is_blank c) refl cs e (others_some cs)
  where
    at : (b : Bool) → is_blank c ≡ b → (cs : List ℕ) → ends_blank (0x61 ∷ c ∷ cs) ≡ false → (ends_blank (0x61 ∷ cs) ≡ false → nat_lt 0 (length (other_words cs)) ≡ has_blank cs) → nat_lt 0 (length (other_words (c ∷ cs))) ≡ has_blank (c ∷ cs)
    at true h cs e ih =
        ap (λ (ws : List (List ℕ)). nat_lt 0 (length ws)) (others_blank c cs h) ∙ some_words cs (sym (ends_more c cs h) ∙ e) ∙ sym (ap (λ (b : Bool). b || has_blank cs) h)
    at false h [] e ih = ap (λ (ws : List (List ℕ)). nat_lt 0 (length ws)) (others_other c [] h) ∙ ih refl ∙ sym (ap (λ (b : Bool). b || has_blank []) h)
    at false h (d ∷ cs) e ih = ap (λ (ws : List (List ℕ)). nat_lt 0 (length ws)) (others_other c (d ∷ cs) h) ∙ ih e ∙ sym (ap (λ (b : Bool). b || has_blank (d ∷ cs)) h)

blank_behind : (d : ℕ) (cs : List ℕ) → ends_blank (d ∷ cs) ≡ true → has_blank (d ∷ cs) ≡ true
blank_behind d [] e = ap (λ (b : Bool). b || false) e
blank_behind d (c ∷ cs) e = or_true (is_blank d) (has_blank (c ∷ cs)) (blank_behind c cs e)
  where
    or_true : (x y : Bool) → y ≡ true → (x || y) ≡ true
    or_true true y e = refl
    or_true false y e = e

pub over_blank : (c : ℕ) (cs : List ℕ) → is_blank c ≡ true → some_over (c ∷ cs) ≡ some_over cs
over_blank c cs h =
    ap (λ (ws : List (List ℕ)). nat_lt 0 (if ends_blank (c ∷ cs) then length ws else length ws - 1)) (words_blank c cs h)
    ∙ ap (λ (b : Bool). nat_lt 0 (if b then length (words_of cs) else length (words_of cs) - 1)) (ends_more c cs h)

pub over_word : (c : ℕ) (cs : List ℕ) → is_blank c ≡ false → some_over (c ∷ cs) ≡ has_blank cs
over_word c cs h = ap (λ (ws : List (List ℕ)). nat_lt 0 (if ends_blank (c ∷ cs) then length ws else length ws - 1)) (words_other c cs h) ∙ at cs
  where
    one_less : (w : List ℕ) (ws : List (List ℕ)) → nat_lt 0 (length (w ∷ ws) - 1) ≡ nat_lt 0 (length ws)
    one_less w ws = ap (nat_lt 0) (omega arith)

    one_more : (w : List ℕ) (ws : List (List ℕ)) → nat_lt 0 (length (w ∷ ws)) ≡ true
    one_more w ws = grind arith

    by : (b : Bool) (d : ℕ) (ds : List ℕ) → ends_blank (d ∷ ds) ≡ b → nat_lt 0 (if b then length ((c ∷ head_word (d ∷ ds)) ∷ other_words (d ∷ ds)) else length ((c ∷ head_word (d ∷ ds)) ∷ other_words (d ∷ ds)) - 1) ≡ has_blank (d ∷ ds)
    by true d ds e = one_more (c ∷ head_word (d ∷ ds)) (other_words (d ∷ ds)) ∙ sym (blank_behind d ds e)
    by false d ds e = one_less (c ∷ head_word (d ∷ ds)) (other_words (d ∷ ds)) ∙ others_some (d ∷ ds) e

    at : (cs : List ℕ) → nat_lt 0 (if ends_blank (c ∷ cs) then length ((c ∷ head_word cs) ∷ other_words cs) else length ((c ∷ head_word cs) ∷ other_words cs) - 1) ≡ has_blank cs
    at [] = ap (λ (b : Bool). nat_lt 0 (if b then 1 else 0)) h
    at (d ∷ ds) = by (ends_blank (d ∷ ds)) d ds refl

module _ (entities : List (List ℕ)) (kind : Kind) where
  abbrev Keeps : OpenValue → List ℕ → OpenValue → Type 0
  Keeps v text w = Folds (kept_step entities kind) v text w

  -- Names and name tokens.

  -- whether one is open behind the characters, where one is before them
  abbrev is_open : Bool → List ℕ → Bool
  is_open inside [] = inside
  is_open inside (c ∷ cs) = not (ends_blank (c ∷ cs))

  open_more : (x : Bool) (c : ℕ) (cs : List ℕ) → x ≡ not (is_blank c) → is_open x cs ≡ not (ends_blank (c ∷ cs))
  open_more x c [] e = e
  open_more x c (d ∷ cs) e = refl

  -- and whether one is over
  abbrev is_over : Bool → Bool → List ℕ → Bool
  is_over true one cs = one || has_blank cs
  is_over false one cs = one || some_over cs

  or_nothing : (x : Bool) → x ≡ (x || false)
  or_nothing true = refl
  or_nothing false = refl

  or_first : (x : Bool) → (true || x) ≡ true
  or_first x = refl

  words_from : (cs : List ℕ) (inside one : Bool) → Keeps (in_words inside one) cs (in_words (is_open inside cs) (is_over inside one cs))
  words_from [] true one = here (ap (in_words true) (or_nothing one))
  words_from [] false one = here (ap (in_words false) (or_nothing one))
  words_from (c ∷ cs) inside one =
      on (either (is_blank c) (Some (in_words false (inside || one))) (words_step kind inside one c)
      (λ b. somewhere (subst (λ (v : OpenValue). Keeps (in_words false (inside || one)) cs v) (blank inside b) (words_from cs false (inside || one))))
      (λ b. word inside b (words_from cs true one)))
    where
      or_same : (x y : Bool) → (x || y) ≡ true → (y : Bool) → true ≡ (true || y)
      or_same x y e z = refl

      true_over : (x y : Bool) → y ≡ true → (x || y) ≡ true
      true_over true y e = refl
      true_over false y e = e

      blank : (inside : Bool) → is_blank c ≡ true → in_words (is_open false cs) (is_over false (inside || one) cs) ≡ in_words (is_open inside (c ∷ cs)) (is_over inside one (c ∷ cs))
      blank true b =
          ap (λ (x : Bool). in_words x true) (open_more false c cs (sym (ap not b)))
          ∙ ap (in_words (not (ends_blank (c ∷ cs)))) (sym (true_over one (has_blank (c ∷ cs)) (ap (λ (x : Bool). x || has_blank cs) b)))
      blank false b =
          ap (λ (x : Bool). in_words x (one || some_over cs)) (open_more false c cs (sym (ap not b)))
          ∙ ap (λ (x : Bool). in_words (not (ends_blank (c ∷ cs))) (one || x)) (sym (over_blank c cs b))

      last : (inside : Bool) → is_blank c ≡ false → in_words (is_open true cs) (is_over true one cs) ≡ in_words (is_open inside (c ∷ cs)) (is_over inside one (c ∷ cs))
      last true b =
          ap (λ (x : Bool). in_words x (one || has_blank cs)) (open_more true c cs (sym (ap not b)))
          ∙ ap (λ (x : Bool). in_words (not (ends_blank (c ∷ cs))) (one || (x || has_blank cs))) (sym b)
      last false b =
          ap (λ (x : Bool). in_words x (one || has_blank cs)) (open_more true c cs (sym (ap not b)))
          ∙ ap (λ (x : Bool). in_words (not (ends_blank (c ∷ cs))) (one || x)) (sym (over_word c cs b))

      word : (inside : Bool) → is_blank c ≡ false → Keeps (in_words true one) cs (in_words (is_open true cs) (is_over true one cs))
          → From (kept_step entities kind) (words_step kind inside one c) cs (in_words (is_open inside (c ∷ cs)) (is_over inside one (c ∷ cs)))
      word true b f = either (in_name c) (Some (in_words true one)) None (λ n. somewhere (subst (λ (v : OpenValue). Keeps (in_words true one) cs v) (last true b) f)) (λ n. nowhere)
      word false b f =
          either ((not one || has_many kind) && begins_word kind c) (Some (in_words true one)) None (λ n. somewhere (subst (λ (v : OpenValue). Keeps (in_words true one) cs v) (last false b) f)) (λ n. nowhere)

  pub words : (cs : List ℕ) → Keeps (in_words false false) cs (in_words (not (ends_blank cs)) (some_over cs))
  words [] = here refl
  words (c ∷ cs) = words_from (c ∷ cs) false false

  -- One word of a choice.

  -- behind it
  behind_it : (cs word : List ℕ) → Keeps (in_choice word true) cs (in_choice word true)
  behind_it [] word = here refl
  behind_it (c ∷ cs) word = on (either (is_blank c) (Some (in_choice word true)) None (λ b. somewhere (behind_it cs word)) (λ b. nowhere))

  in_it : (cs : List ℕ) (n : ℕ) (word : List ℕ) → Keeps (in_choice (n ∷ word) false) cs (in_choice ((n ∷ word) ++ head_word cs) (has_blank cs))
  in_it [] n word = here (ap (λ (w : List ℕ). in_choice (n ∷ w) false) (sym (append-nil word)))
  in_it (c ∷ cs) n word =
      on (either (is_blank c) (Some (in_choice (n ∷ word) true)) (if in_name c then Some (in_choice ((n ∷ word) ++ c ∷ []) false) else None)
      (λ b. somewhere (subst (λ (v : OpenValue). Keeps (in_choice (n ∷ word) true) cs v) (over b) (behind_it cs (n ∷ word))))
      (λ b. either (in_name c) (Some (in_choice ((n ∷ word) ++ c ∷ []) false)) None (λ k. somewhere (subst (λ (v : OpenValue). Keeps (in_choice ((n ∷ word) ++ c ∷ []) false) cs v) (still b) (in_it cs n (word ++ c ∷ [])))) (λ k. nowhere)))
    where
      over : is_blank c ≡ true → in_choice (n ∷ word) true ≡ in_choice ((n ∷ word) ++ head_word (c ∷ cs)) (has_blank (c ∷ cs))
      over b =
          ap (λ (w : List ℕ). in_choice (n ∷ w) true) (sym (append-nil word))
          ∙ ap (λ (w : List ℕ). in_choice (n ∷ (word ++ w)) true) (sym (head_blank c cs b))
          ∙ ap (λ (x : Bool). in_choice (n ∷ (word ++ head_word (c ∷ cs))) (x || has_blank cs)) (sym b)

      still : is_blank c ≡ false → in_choice (n ∷ ((word ++ c ∷ []) ++ head_word cs)) (has_blank cs) ≡ in_choice ((n ∷ word) ++ head_word (c ∷ cs)) (has_blank (c ∷ cs))
      still b =
          ap (λ (w : List ℕ). in_choice (n ∷ w) (has_blank cs)) (append_assoc word (c ∷ []) (head_word cs))
          ∙ ap (λ (w : List ℕ). in_choice (n ∷ (word ++ w)) (has_blank cs)) (sym (head_other c cs b))
          ∙ ap (λ (x : Bool). in_choice (n ∷ (word ++ head_word (c ∷ cs))) (x || has_blank cs)) (sym b)

  pub choice : (cs : List ℕ) → Keeps (in_choice [] false) cs (in_choice (first_word (words_of cs)) (some_over cs))
  choice [] = here refl
  choice (c ∷ cs) =
      on (either (is_blank c) (Some (in_choice [] false)) (if in_name c then Some (in_choice (c ∷ []) false) else None)
      (λ b. somewhere (subst (λ (v : OpenValue). Keeps (in_choice [] false) cs v) (before b) (choice cs)))
      (λ b. either (in_name c) (Some (in_choice (c ∷ []) false)) None (λ k. somewhere (subst (λ (v : OpenValue). Keeps (in_choice (c ∷ []) false) cs v) (begins b) (in_it cs c []))) (λ k. nowhere)))
    where
      before : is_blank c ≡ true → in_choice (first_word (words_of cs)) (some_over cs) ≡ in_choice (first_word (words_of (c ∷ cs))) (some_over (c ∷ cs))
      before b = ap (λ (ws : List (List ℕ)). in_choice (first_word ws) (some_over cs)) (sym (words_blank c cs b)) ∙ ap (in_choice (first_word (words_of (c ∷ cs)))) (sym (over_blank c cs b))

      begins : is_blank c ≡ false → in_choice (c ∷ head_word cs) (has_blank cs) ≡ in_choice (first_word (words_of (c ∷ cs))) (some_over (c ∷ cs))
      begins b = ap (λ (ws : List (List ℕ)). in_choice (first_word ws) (has_blank cs)) (sym (words_other c cs b)) ∙ ap (in_choice (first_word (words_of (c ∷ cs)))) (sym (over_word c cs b))
