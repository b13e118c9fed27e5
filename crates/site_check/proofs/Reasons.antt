-- Why a name was not read, and what is told of it, where the other source was asked.
use Rattle.std.proofs.Common.{◌≡◌, ◌+◌, ℕ, List, None, Some, Result, Ok, Err, refl, sym, subst, arith}
use Rattle.std.specs.Prelude.{bytes_eq, IfOk, IfErr}
use Rattle.std.specs.Map.{lookup}
use Rattle.io_edge.specs.Counts.{Rises}
use Rattle.io_edge.specs.Told.{Content, Tells, HasAtLeast, Stays}
use Rattle.io_edge.specs.Reasons.{HasReason}
use Rattle.io_edge.specs.declared.files.FileFault.{FileFault}
use Rattle.io_edge.specs.declared.files.FileFault.TheVariants.{Missing, Failed, TooLong, Memory}
use Rattle.site_check.specs.Kept.{Kept, keep, told_with}
use Rattle.site_check.specs.Answers.{IsAsked, KeepsAnswer}
use Rattle.site_check.specs.declared.kept_files.KeptFile.TheVariants as file
use Rattle.site_check.proofs.Staying.{keeping_stays, keeping_tells, keeping_long, kept_stays}

-- a rise shows in a sum too
rises_beside : (misses misses' missed : ℕ) → Rises misses misses' → Rises (misses + missed) (misses' + missed)
rises_beside misses misses' missed h = omega (arith, h)

module _ (kept kept' : Kept) (name : List ℕ) (asked : IsAsked (lookup (bytes_eq name) kept.files)) (before now : Content) (stays : Stays before now) where
  -- the first answer for a name is told from then on
  pub first_tells : (bytes : List ℕ) → kept' ≡ keep kept name (file.Found bytes) → Tells (now name) (Some bytes) → Tells (told_with kept' now name) (Some bytes)
  first_tells bytes is told = subst (λ (k : Kept). Tells (told_with k now name) (Some bytes)) (sym is) (keeping_tells kept now name (Some bytes) (file.Found bytes) asked refl told)

  -- the reason of a fault
  pub first_reason : (faults faults' misses misses' missed : ℕ) (fault : FileFault) → KeepsAnswer kept kept' name (Err fault)
      → HasReason (now name) faults faults' misses misses' fault
      → HasReason (told_with kept' now name) faults faults' (misses + missed) (misses' + missed) fault
  first_reason faults faults' misses misses' missed Missing is reason =
      (rises_beside misses misses' missed reason.0, subst (λ (k : Kept). Tells (told_with k now name) None) (sym is) (keeping_tells kept now name None file.Missing asked refl reason.1))
  first_reason faults faults' misses misses' missed Failed is reason = reason
  first_reason faults faults' misses misses' missed (TooLong len) is reason =
      (reason.0, subst (λ (k : Kept). HasAtLeast (told_with k now name) len) (sym is) (keeping_long kept now name len asked reason.1))
  first_reason faults faults' misses misses' missed Memory is reason = tt

  -- what was told stays told
  pub first_stays : (faults faults' misses misses' : ℕ) (result : Result (List ℕ) FileFault) → KeepsAnswer kept kept' name result
      → IfOk result (λ bytes. Tells (now name) (Some bytes)) → IfErr result (λ fault. HasReason (now name) faults faults' misses misses' fault)
      → Stays (told_with kept before) (told_with kept' now)
  first_stays faults faults' misses misses' (Ok bytes) is told reason =
      subst (λ (k : Kept). Stays (told_with kept before) (told_with k now)) (sym is) (keeping_stays kept before now name (file.Found bytes) stays told)
  first_stays faults faults' misses misses' (Err Missing) is told reason =
      subst (λ (k : Kept). Stays (told_with kept before) (told_with k now)) (sym is) (keeping_stays kept before now name file.Missing stays reason.1)
  first_stays faults faults' misses misses' (Err Failed) is told reason =
      subst (λ (k : Kept). Stays (told_with kept before) (told_with k now)) (sym is) (kept_stays kept before now stays)
  first_stays faults faults' misses misses' (Err (TooLong len)) is told reason =
      subst (λ (k : Kept). Stays (told_with kept before) (told_with k now)) (sym is) (keeping_stays kept before now name file.Long stays tt)
  first_stays faults faults' misses misses' (Err Memory) is told reason =
      subst (λ (k : Kept). Stays (told_with kept before) (told_with k now)) (sym is) (kept_stays kept before now stays)

  pub first_content : (result : Result (List ℕ) FileFault) → KeepsAnswer kept kept' name result → IfOk result (λ bytes. Tells (now name) (Some bytes))
      → IfOk result (λ bytes. Tells (told_with kept' now name) (Some bytes))
  first_content (Ok bytes) is told = first_tells bytes is told
  first_content (Err fault) is told = tt

  pub first_reasons : (faults faults' misses misses' missed : ℕ) (result : Result (List ℕ) FileFault) → KeepsAnswer kept kept' name result
      → IfErr result (λ fault. HasReason (now name) faults faults' misses misses' fault)
      → IfErr result (λ fault. HasReason (told_with kept' now name) faults faults' (misses + missed) (misses' + missed) fault)
  first_reasons faults faults' misses misses' missed (Ok bytes) is reason = tt
  first_reasons faults faults' misses misses' missed (Err fault) is reason = first_reason faults faults' misses misses' missed fault is reason
