-- Files that are looked up by their names, and one more behind them.
use Rattle.std.proofs.Common.{◌≡◌, ◌∙◌, ◌+◌, ◌≤◌, ℕ, Bool, true, false, cond, List, [], ◌∷◌, ◌++◌, length, Option, None, Some, refl, sym, ap, arith}
use Rattle.std.specs.Prelude.{bytes_eq}
use Rattle.std.specs.Map.{lookup}
use Rattle.text_base.specs.declared.limits.TheConstants.{FILE_LIMIT}
use Rattle.site_check.specs.declared.kept_files.KeptFile.{KeptFile}
use Rattle.site_check.specs.declared.kept_files.KeptFile.TheVariants.{Found}
use Rattle.site_check.specs.Kept.{NamedFiles, file_size, total_size}
use Rattle.site_check.specs.Short.{AreShort}

-- what is found among the first is found
pub found_first : {K X : Type 0} (test : K → Bool) (fs : List (K × X)) (f : K × X) (x : X) → lookup test fs ≡ Some x → lookup test (fs ++ f ∷ []) ≡ Some x
found_first test [] f x e = absurd (grind (arith, e))
found_first test (g ∷ gs) f x e = by (test g.0) e (λ h. found_first test gs f x h) where
  by : (b : Bool) → cond b (Some g.1) (lookup test gs) ≡ Some x → (lookup test gs ≡ Some x → lookup test (gs ++ f ∷ []) ≡ Some x)
      → cond b (Some g.1) (lookup test (gs ++ f ∷ [])) ≡ Some x
  by true e' rest = e'
  by false e' rest = rest e'

-- where nothing is found among the first, the last decides
pub found_last : {K X : Type 0} (test : K → Bool) (fs : List (K × X)) (f : K × X) → lookup test fs ≡ None → lookup test (fs ++ f ∷ []) ≡ cond (test f.0) (Some f.1) None
found_last test [] f e = refl
found_last test (g ∷ gs) f e = by (test g.0) e (λ h. found_last test gs f h) where
  by : (b : Bool) → cond b (Some g.1) (lookup test gs) ≡ None → (lookup test gs ≡ None → lookup test (gs ++ f ∷ []) ≡ cond (test f.0) (Some f.1) None)
      → cond b (Some g.1) (lookup test (gs ++ f ∷ [])) ≡ cond (test f.0) (Some f.1) None
  by true e' rest = absurd (grind (arith, e'))
  by false e' rest = rest e'

-- the sizes of files and of one more
pub size_behind : (fs : NamedFiles) (f : List ℕ × KeptFile) → total_size (fs ++ f ∷ []) ≡ total_size fs + file_size f.1
size_behind [] f = omega arith
size_behind (g ∷ gs) f = let rest = size_behind gs f in omega (arith, rest)

-- a file within the limit, behind others that are
pub short_behind : (fs : NamedFiles) (name : List ℕ) (file : KeptFile) → AreShort fs → ((bytes : List ℕ) → file ≡ Found bytes → length bytes ≤ FILE_LIMIT)
    → AreShort (fs ++ (name, file) ∷ [])
short_behind fs name file short within other bytes found = by (lookup (bytes_eq other) fs) refl where
  last : (b : Bool) → cond b (Some file) None ≡ Some (Found bytes) → length bytes ≤ FILE_LIMIT
  last true e = within bytes (cc)
  last false e = absurd (grind (arith, e))

  by : (o : Option KeptFile) → lookup (bytes_eq other) fs ≡ o → length bytes ≤ FILE_LIMIT
  by None e = last (bytes_eq other name) (sym (found_last (bytes_eq other) fs (name, file) e) ∙ found)
  by (Some f) e =
      let at : f ≡ Found bytes = let whole : Some f ≡ Some (Found bytes) = sym (found_first (bytes_eq other) fs (name, file) f e) ∙ found in cc in
      short other bytes (e ∙ ap Some at)

pub found_is : (xs ys : List ℕ) → Found xs ≡ Found ys → xs ≡ ys
found_is xs ys e = cc

-- what is kept of no bytes is short
pub none_is_short : (file : KeptFile) → file_size file ≡ 0 → (bytes : List ℕ) → file ≡ Found bytes → length bytes ≤ FILE_LIMIT
none_is_short file none bytes is = let same : file_size file ≡ length bytes = ap file_size is in omega (arith, none, same)
