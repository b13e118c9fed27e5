-- Lists for `site`.
use Rattle.std.proofs.Common.{◌≡◌, ◌∙◌, ◌++◌, ◌&&◌, ◌==◌, ℕ, List, [], ◌∷◌, map, Bool, true, false, not, true≢false, refl, sym, ap, subst, inl, inr}
use Rattle.std.specs.Prelude.{Result, Err, Some, string_bytes}
use Rattle.phpsa_texts.specs.declared.exit.Exit.TheVariants as exit
use Rattle.phpsa_texts.specs.declared.message.Refusal.{Refusal}
use Rattle.phpsa_texts.specs.Texts.{IsTold, memory_text, usage_text}
use Rattle.several_files.specs.declared.checks.AskedFile.{AskedFile}
use Rattle.several_files.specs.Words.{FileName}
use Rattle.several_files.specs.Views.{file_as}
use Rattle.site_check.specs.Listed.{put_first, lines_of, without_return, names_of, names_in}
use Rattle.several_files.specs.Listing.{is_listable, list_of, are_listable, unlistable_reason}
use Rattle.several_files.specs.Endings.{IsListOr}

-- memory was wanting
pub list_wants : (names : List (List ℕ)) (result : Result (List ℕ) Refusal) → result ≡ Err Refusal.Memory → IsListOr names result
list_wants names result is =
    subst (λ (r : Result (List ℕ) Refusal). IsListOr names r) (sym is) (exit.Memory, memory_text, (refl, refl), inr (refl, refl))

-- a name that cannot stand in a list
pub list_refused : (names : List (List ℕ)) (refusal : Refusal) → are_listable names ≡ false → IsTold refusal exit.Usage (usage_text (Some unlistable_reason))
    → IsListOr names (Err refusal)
list_refused names (Refusal.Told message) none says = (message.status, message.text, (refl, refl), inl (none, says.0, says.1))
list_refused names Refusal.Memory none says = (exit.Memory, memory_text, (refl, refl), inr (refl, refl))

-- names of files, and of their plain forms
pub names_as : (files : List AskedFile) → map (λ (file : AskedFile). string_bytes file.name) files ≡ map (λ (file : FileName). file.name) (map file_as files)
names_as [] = refl
names_as (file ∷ files) = ap (λ (names : List (List ℕ)). string_bytes file.name ∷ names) (names_as files)

-- both parts of what is true
both_of : (a b : Bool) → (a && b) ≡ true → (a ≡ true) × (b ≡ true)
both_of true b e = (refl, e)
both_of false b e = absurd (true≢false (sym e))

-- a name that may stand in a list is its first line, and stays as it is without a return at its end
line_is : (name rest : List ℕ) → is_listable name ≡ true → lines_of (name ++ 10 ∷ rest) ≡ name ∷ lines_of rest
line_is [] rest listable = absurd (true≢false (sym listable))
line_is (byte ∷ []) rest listable = by (byte == 10) refl listable
  where
    by : (b : Bool) → (byte == 10) ≡ b → (not (byte == 10) && not (byte == 13)) ≡ true → lines_of (byte ∷ 10 ∷ rest) ≡ (byte ∷ []) ∷ lines_of rest
    by true e h = absurd (true≢false (sym (subst (λ (b : Bool). (not b && not (byte == 13)) ≡ true) e h)))
    by false e h = rw e refl
line_is (byte ∷ next ∷ bytes) rest listable = by (byte == 10) refl listable (line_is (next ∷ bytes) rest)
  where
    by : (b : Bool) → (byte == 10) ≡ b → (not (byte == 10) && is_listable (next ∷ bytes)) ≡ true
        → (is_listable (next ∷ bytes) ≡ true → lines_of (next ∷ (bytes ++ 10 ∷ rest)) ≡ (next ∷ bytes) ∷ lines_of rest)
        → lines_of (byte ∷ next ∷ (bytes ++ 10 ∷ rest)) ≡ (byte ∷ next ∷ bytes) ∷ lines_of rest
    by true e h behind = absurd (true≢false (sym (subst (λ (b : Bool). (not b && is_listable (next ∷ bytes)) ≡ true) e h)))
    by false e h behind = rw e (ap (put_first byte) (behind (subst (λ (b : Bool). (not b && is_listable (next ∷ bytes)) ≡ true) e h)))

without_is : (name : List ℕ) → is_listable name ≡ true → without_return name ≡ name
without_is [] listable = refl
without_is (byte ∷ []) listable = by (byte == 10) (byte == 13) refl refl listable
  where
    by : (a b : Bool) → (byte == 10) ≡ a → (byte == 13) ≡ b → (not (byte == 10) && not (byte == 13)) ≡ true → without_return (byte ∷ []) ≡ byte ∷ []
    by true b d e h = absurd (true≢false (sym (subst (λ (x : Bool). (not x && not (byte == 13)) ≡ true) d h)))
    by false true d e h = absurd (true≢false (sym (subst (λ (x : Bool). (not x && not true) ≡ true) d (subst (λ (x : Bool). (not (byte == 10) && not x) ≡ true) e h))))
    by false false d e h = rw e refl
without_is (byte ∷ next ∷ bytes) listable = ap (λ (line : List ℕ). byte ∷ line) (without_is (next ∷ bytes) (both_of (not (byte == 10)) (is_listable (next ∷ bytes)) listable).1)

-- a name that may stand in a list is not empty
named : (name : List ℕ) (lines : List (List ℕ)) → is_listable name ≡ true → names_of (name ∷ lines) ≡ name ∷ names_of lines
named [] lines listable = absurd (true≢false (sym listable))
named (byte ∷ bytes) lines listable = refl

-- so the names in a list of such names are these
pub names_read : (names : List (List ℕ)) → are_listable names ≡ true → names_in (list_of names) ≡ names
names_read [] listable = refl
names_read (name ∷ names) listable =
    let both = both_of (is_listable name) (are_listable names) listable in
    ap (λ (lines : List (List ℕ)). names_of (map without_return lines)) (line_is name (list_of names) both.0)
    ∙ ap (λ (line : List ℕ). names_of (line ∷ map without_return (lines_of (list_of names)))) (without_is name both.0)
    ∙ named name (map without_return (lines_of (list_of names))) both.0
    ∙ ap (λ (ns : List (List ℕ)). name ∷ ns) (names_read names both.1)
