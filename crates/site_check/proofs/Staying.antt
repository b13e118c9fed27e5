-- What is told with what is kept goes on to be told, and tells what was answered.
use Rattle.std.proofs.Common.{◌≡◌, ◌∙◌, ◌⊎◌, inl, inr, ℕ, Bool, true, false, cond, List, [], ◌∷◌, ◌++◌, Option, None, Some, refl, sym, ap, subst}
use Rattle.std.specs.Prelude.{bytes_eq, ⊤}
use Rattle.std.specs.Cmp.Lexicographic.{bytes_decides}
use Rattle.std.specs.Map.{lookup}
use Rattle.io_edge.specs.Told.{Told, Content, unasked, untold, known, Tells, HasAtLeast, Stays}
use Rattle.site_check.specs.declared.kept_files.KeptFile.{KeptFile}
use Rattle.site_check.specs.declared.kept_files.KeptFile.TheVariants.{Found, Missing, Long}
use Rattle.site_check.specs.Answers.{IsAsked}
use Rattle.site_check.specs.Kept.{Kept, NamedFiles, kept_behind, keep_beside, keep, fits, told_later, told_of, told_with}
use Rattle.site_check.proofs.Looking.{found_first, found_last}

-- the other source told this
abbrev pub IsTold : KeptFile → Told → Type 0
IsTold (Found bytes) told = Tells told (Some bytes)
IsTold Missing told = Tells told None
IsTold Long told = ⊤

later_unasked : (full : Bool) → told_later full unasked ≡ unasked
later_unasked true = refl
later_unasked false = refl

later_stays : (full : Bool) (before now : Told) → (before ≡ unasked) ⊎ (now ≡ before) → (told_later full before ≡ unasked) ⊎ (told_later full now ≡ told_later full before)
later_stays full before now (inl none) = inl (ap (told_later full) none ∙ later_unasked full)
later_stays full before now (inr same) = inr (ap (told_later full) same)

-- where the same is kept
same_stays : (found : Option KeptFile) (full : Bool) (before now : Told) → (before ≡ unasked) ⊎ (now ≡ before) → (told_of found full before ≡ unasked) ⊎ (told_of found full now ≡ told_of found full before)
same_stays None full before now stays = later_stays full before now stays
same_stays (Some (Found bytes)) full before now stays = inr refl
same_stays (Some Missing) full before now stays = inr refl
same_stays (Some Long) full before now stays = stays

known_is_asked : {A : Type 0} (file : Option (List ℕ)) → known file ≡ unasked → A
known_is_asked file e = absurd (cc)

filled_none : (before now : Told) → (before ≡ unasked) ⊎ (now ≡ before) → (told_later false before ≡ unasked) ⊎ (now ≡ told_later false before)
filled_none unasked now stays = inl refl
filled_none untold now stays = inl refl
filled_none (known file) now (inl none) = known_is_asked file none
filled_none (known file) now (inr same) = inr same

-- where no more is kept from now on
filled_stays : (found : Option KeptFile) (before now : Told) → (before ≡ unasked) ⊎ (now ≡ before) → (told_of found false before ≡ unasked) ⊎ (told_of found true now ≡ told_of found false before)
filled_stays None before now stays = filled_none before now stays
filled_stays (Some (Found bytes)) before now stays = inr refl
filled_stays (Some Missing) before now stays = inr refl
filled_stays (Some Long) before now stays = stays

-- the file that was answered is the one that was told before
answer_stays : (before now : Told) (file : Option (List ℕ)) → (before ≡ unasked) ⊎ (now ≡ before) → Tells now file → (told_later false before ≡ unasked) ⊎ (known file ≡ told_later false before)
answer_stays unasked now file stays told = inl refl
answer_stays untold now file stays told = inl refl
answer_stays (known first) now file (inl none) told = known_is_asked first none
answer_stays (known first) now file (inr same) told = let is : first ≡ file = subst (λ (t : Told). Tells t file) same told in inr (ap known (sym is))

-- so what is kept of it is told as it was before
kept_stays_told : (file : KeptFile) (before now : Told) → (before ≡ unasked) ⊎ (now ≡ before) → IsTold file now → (told_later false before ≡ unasked) ⊎ (told_of (Some file) false now ≡ told_later false before)
kept_stays_told (Found bytes) before now stays told = answer_stays before now (Some bytes) stays told
kept_stays_told Missing before now stays told = answer_stays before now None stays told
kept_stays_told Long before now stays told = filled_none before now stays

-- one more is kept
module _ (files : NamedFiles) (before now : Content) (name : List ℕ) (file : KeptFile) (stays : Stays before now) (told : IsTold file (now name)) (other : List ℕ) where
  more_stays : (found : Option KeptFile) → lookup (bytes_eq other) files ≡ found
      → (told_of found false (before other) ≡ unasked) ⊎ (told_of (lookup (bytes_eq other) (files ++ (name, file) ∷ [])) false (now other) ≡ told_of found false (before other))
  more_stays (Some first) e = elim (same_stays (Some first) false (before other) (now other) (stays other)) [
    | inl none ↦ inl none
    | inr same ↦ inr (ap (λ (o : Option KeptFile). told_of o false (now other)) (found_first (bytes_eq other) files (name, file) first e) ∙ same)
  ]
  more_stays None e = last (bytes_eq other name) refl (found_last (bytes_eq other) files (name, file) e)
    where
      last : (b : Bool) → bytes_eq other name ≡ b → lookup (bytes_eq other) (files ++ (name, file) ∷ []) ≡ cond b (Some file) None
          → (told_later false (before other) ≡ unasked) ⊎ (told_of (lookup (bytes_eq other) (files ++ (name, file) ∷ [])) false (now other) ≡ told_later false (before other))
      last true is at =
          let tells : IsTold file (now other) = subst (λ (n : List ℕ). IsTold file (now n)) (sym ((bytes_decides other name).0 is)) told in
          elim (kept_stays_told file (before other) (now other) (stays other) tells) [
            | inl none ↦ inl none
            | inr same ↦ inr (ap (λ (o : Option KeptFile). told_of o false (now other)) at ∙ same)
          ]
      last false is at = elim (later_stays false (before other) (now other) (stays other)) [
        | inl none ↦ inl none
        | inr same ↦ inr (ap (λ (o : Option KeptFile). told_of o false (now other)) at ∙ same)
      ]

-- and where nothing is kept of an answer
pub kept_stays : (kept : Kept) (before now : Content) → Stays before now → Stays (told_with kept before) (told_with kept now)
kept_stays kept before now stays other = same_stays (lookup (bytes_eq other) kept.files) kept.full (before other) (now other) (stays other)

-- what is told goes on to be told where an answer is kept that the other source tells
pub keeping_stays : (kept : Kept) (before now : Content) (name : List ℕ) (file : KeptFile) → Stays before now → IsTold file (now name)
    → Stays (told_with kept before) (told_with (keep kept name file) now)
keeping_stays kept before now name file stays told other = beside (lookup (bytes_eq name) kept.files) where
  by : (full fits : Bool) → (told_of (lookup (bytes_eq other) kept.files) full (before other) ≡ unasked)
      ⊎ (told_with (kept_behind kept.files full fits name file) now other ≡ told_of (lookup (bytes_eq other) kept.files) full (before other))
  by true fits = same_stays (lookup (bytes_eq other) kept.files) true (before other) (now other) (stays other)
  by false true = more_stays kept.files before now name file stays told other (lookup (bytes_eq other) kept.files) refl
  by false false = filled_stays (lookup (bytes_eq other) kept.files) (before other) (now other) (stays other)

  beside : (first : Option KeptFile) → (told_with kept before other ≡ unasked) ⊎ (told_with (keep_beside first kept name file) now other ≡ told_with kept before other)
  beside None = by kept.full (fits kept.files file)
  beside (Some first) = kept_stays kept before now stays other

-- what is told of a name that is asked for, behind an answer that is kept of it
module _ (kept : Kept) (now : Content) (name : List ℕ) where
  -- the answer, which is the first that is kept of the name, or one for a file that was too long before
  pub keeping_tells : (bytes : Option (List ℕ)) (file : KeptFile) → IsAsked (lookup (bytes_eq name) kept.files) → told_of (Some file) false (now name) ≡ known bytes → Tells (now name) bytes
      → Tells (told_with (keep kept name file) now name) bytes
  keeping_tells bytes file asked is told = beside (lookup (bytes_eq name) kept.files) refl asked where
    by : (full fits : Bool) → lookup (bytes_eq name) kept.files ≡ None → Tells (told_with (kept_behind kept.files full fits name file) now name) bytes
    by true fits new = subst (λ (o : Option KeptFile). Tells (told_of o true (now name)) bytes) (sym new) told
    by false true new =
        let at : lookup (bytes_eq name) (kept.files ++ (name, file) ∷ []) ≡ cond (bytes_eq name name) (Some file) None = found_last (bytes_eq name) kept.files (name, file) new in
        let same : bytes_eq name name ≡ true = (bytes_decides name name).1 refl in
        let whole : told_of (lookup (bytes_eq name) (kept.files ++ (name, file) ∷ [])) false (now name) ≡ known bytes =
        ap (λ (o : Option KeptFile). told_of o false (now name)) (at ∙ ap (λ (b : Bool). cond b (Some file) None) same) ∙ is in
        subst (λ (t : Told). Tells t bytes) (sym whole) refl
    by false false new = subst (λ (o : Option KeptFile). Tells (told_of o true (now name)) bytes) (sym new) told

    beside : (first : Option KeptFile) → lookup (bytes_eq name) kept.files ≡ first → IsAsked first → Tells (told_with (keep_beside first kept name file) now name) bytes
    beside None new asked = by kept.full (fits kept.files file) new
    beside (Some (Found bs)) at asked = absurd asked
    beside (Some Missing) at asked = absurd asked
    beside (Some Long) at asked = subst (λ (o : Option KeptFile). Tells (told_of o kept.full (now name)) bytes) (sym at) told

  -- a file that is too long is as long as the other source says
  pub keeping_long : (len : ℕ) → IsAsked (lookup (bytes_eq name) kept.files) → HasAtLeast (now name) len → HasAtLeast (told_with (keep kept name Long) now name) len
  keeping_long len asked long = beside (lookup (bytes_eq name) kept.files) refl asked where
    by : (full fits : Bool) → lookup (bytes_eq name) kept.files ≡ None → HasAtLeast (told_with (kept_behind kept.files full fits name Long) now name) len
    by true fits new = subst (λ (o : Option KeptFile). HasAtLeast (told_of o true (now name)) len) (sym new) long
    by false true new =
        let at : lookup (bytes_eq name) (kept.files ++ (name, Long) ∷ []) ≡ cond (bytes_eq name name) (Some Long) None = found_last (bytes_eq name) kept.files (name, Long) new in
        let same : bytes_eq name name ≡ true = (bytes_decides name name).1 refl in
        subst (λ (o : Option KeptFile). HasAtLeast (told_of o false (now name)) len) (sym (at ∙ ap (λ (b : Bool). cond b (Some Long) None) same)) long
    by false false new = subst (λ (o : Option KeptFile). HasAtLeast (told_of o true (now name)) len) (sym new) long

    beside : (first : Option KeptFile) → lookup (bytes_eq name) kept.files ≡ first → IsAsked first → HasAtLeast (told_with (keep_beside first kept name Long) now name) len
    beside None new asked = by kept.full (fits kept.files Long) new
    beside (Some (Found bs)) at asked = absurd asked
    beside (Some Missing) at asked = absurd asked
    beside (Some Long) at asked = subst (λ (o : Option KeptFile). HasAtLeast (told_of o kept.full (now name)) len) (sym at) long

-- a file that is kept is told
pub kept_tells : (kept : Kept) (now : Content) (name bytes : List ℕ) → lookup (bytes_eq name) kept.files ≡ Some (Found bytes) → Tells (told_with kept now name) (Some bytes)
kept_tells kept now name bytes at = subst (λ (o : Option KeptFile). Tells (told_of o kept.full (now name)) (Some bytes)) (sym at) refl

pub kept_missing : (kept : Kept) (now : Content) (name : List ℕ) → lookup (bytes_eq name) kept.files ≡ Some Missing → Tells (told_with kept now name) None
kept_missing kept now name at = subst (λ (o : Option KeptFile). Tells (told_of o kept.full (now name)) None) (sym at) refl
