-- Equality of open document type declarations is exact.
use Rattle.std.specs.Prelude.{◌≡◌, ℕ, Bool, true, List, refl}
use Rattle.std.proofs.Common.{ap, rules}
use Rattle.std.proofs.lemmas.Map.Views.{exact_unsigned_eq}
use Rattle.text_base.specs.Exactness.{IsExact, exact_bytes}
use Rattle.open_pieces.specs.Lists.{exact_bool, both}
use Rattle.open_pieces.specs.declared.doctype.DoctypeWord.{DoctypeWord}
use Rattle.open_pieces.specs.contracts.doctype.DoctypeWordPartialEq.TheImpl as words
use Rattle.open_pieces.specs.declared.doctype.OpenDoctype.{OpenDoctype}
use Rattle.open_pieces.specs.declared.doctype.OpenDoctype.TheVariants as doctype
use Rattle.open_pieces.specs.contracts.doctype.OpenDoctypePartialEq.TheImpl as doctypes

exact_word : IsExact (words.ghosts).eq
exact_word = search rules

exact_doctype_before_root : (a0 : Bool) (q : OpenDoctype) → (doctypes.ghosts).eq (doctype.BeforeRoot a0) q ≡ true
    → doctype.BeforeRoot a0 ≡ q
exact_doctype_before_root a0 (doctype.BeforeRoot b0) e = ap (λ (z : Bool). doctype.BeforeRoot z) (exact_bool a0 b0 e)
exact_doctype_before_root a0 (doctype.Root b0) e = cc
exact_doctype_before_root a0 doctype.BehindRoot e = cc
exact_doctype_before_root a0 (doctype.Word b0) e = cc
exact_doctype_before_root a0 (doctype.BehindWord b0) e = cc
exact_doctype_before_root a0 (doctype.FreePublic b0) e = cc
exact_doctype_before_root a0 (doctype.KeptPublic b0 b1) e = cc
exact_doctype_before_root a0 (doctype.BehindPublic b0) e = cc
exact_doctype_before_root a0 (doctype.System b0) e = cc
exact_doctype_before_root a0 doctype.BehindSystem e = cc

exact_doctype_root : (a0 : List ℕ) (q : OpenDoctype) → (doctypes.ghosts).eq (doctype.Root a0) q ≡ true → doctype.Root a0 ≡ q
exact_doctype_root a0 (doctype.BeforeRoot b0) e = cc
exact_doctype_root a0 (doctype.Root b0) e = ap (λ (z : List ℕ). doctype.Root z) (exact_bytes a0 b0 e)
exact_doctype_root a0 doctype.BehindRoot e = cc
exact_doctype_root a0 (doctype.Word b0) e = cc
exact_doctype_root a0 (doctype.BehindWord b0) e = cc
exact_doctype_root a0 (doctype.FreePublic b0) e = cc
exact_doctype_root a0 (doctype.KeptPublic b0 b1) e = cc
exact_doctype_root a0 (doctype.BehindPublic b0) e = cc
exact_doctype_root a0 (doctype.System b0) e = cc
exact_doctype_root a0 doctype.BehindSystem e = cc

exact_doctype_behind_root : (q : OpenDoctype) → (doctypes.ghosts).eq doctype.BehindRoot q ≡ true → doctype.BehindRoot ≡ q
exact_doctype_behind_root (doctype.BeforeRoot b0) e = cc
exact_doctype_behind_root (doctype.Root b0) e = cc
exact_doctype_behind_root doctype.BehindRoot e = refl
exact_doctype_behind_root (doctype.Word b0) e = cc
exact_doctype_behind_root (doctype.BehindWord b0) e = cc
exact_doctype_behind_root (doctype.FreePublic b0) e = cc
exact_doctype_behind_root (doctype.KeptPublic b0 b1) e = cc
exact_doctype_behind_root (doctype.BehindPublic b0) e = cc
exact_doctype_behind_root (doctype.System b0) e = cc
exact_doctype_behind_root doctype.BehindSystem e = cc

exact_doctype_word : (a0 : List ℕ) (q : OpenDoctype) → (doctypes.ghosts).eq (doctype.Word a0) q ≡ true → doctype.Word a0 ≡ q
exact_doctype_word a0 (doctype.BeforeRoot b0) e = cc
exact_doctype_word a0 (doctype.Root b0) e = cc
exact_doctype_word a0 doctype.BehindRoot e = cc
exact_doctype_word a0 (doctype.Word b0) e = ap (λ (z : List ℕ). doctype.Word z) (exact_bytes a0 b0 e)
exact_doctype_word a0 (doctype.BehindWord b0) e = cc
exact_doctype_word a0 (doctype.FreePublic b0) e = cc
exact_doctype_word a0 (doctype.KeptPublic b0 b1) e = cc
exact_doctype_word a0 (doctype.BehindPublic b0) e = cc
exact_doctype_word a0 (doctype.System b0) e = cc
exact_doctype_word a0 doctype.BehindSystem e = cc

exact_doctype_behind_word : (a0 : DoctypeWord) (q : OpenDoctype) → (doctypes.ghosts).eq (doctype.BehindWord a0) q ≡ true
    → doctype.BehindWord a0 ≡ q
exact_doctype_behind_word a0 (doctype.BeforeRoot b0) e = cc
exact_doctype_behind_word a0 (doctype.Root b0) e = cc
exact_doctype_behind_word a0 doctype.BehindRoot e = cc
exact_doctype_behind_word a0 (doctype.Word b0) e = cc
exact_doctype_behind_word a0 (doctype.BehindWord b0) e = ap (λ (z : DoctypeWord). doctype.BehindWord z) (exact_word a0 b0 e)
exact_doctype_behind_word a0 (doctype.FreePublic b0) e = cc
exact_doctype_behind_word a0 (doctype.KeptPublic b0 b1) e = cc
exact_doctype_behind_word a0 (doctype.BehindPublic b0) e = cc
exact_doctype_behind_word a0 (doctype.System b0) e = cc
exact_doctype_behind_word a0 doctype.BehindSystem e = cc

exact_doctype_free_public : (a0 : ℕ) (q : OpenDoctype) → (doctypes.ghosts).eq (doctype.FreePublic a0) q ≡ true → doctype.FreePublic a0 ≡ q
exact_doctype_free_public a0 (doctype.BeforeRoot b0) e = cc
exact_doctype_free_public a0 (doctype.Root b0) e = cc
exact_doctype_free_public a0 doctype.BehindRoot e = cc
exact_doctype_free_public a0 (doctype.Word b0) e = cc
exact_doctype_free_public a0 (doctype.BehindWord b0) e = cc
exact_doctype_free_public a0 (doctype.FreePublic b0) e = ap (λ (z : ℕ). doctype.FreePublic z) (exact_unsigned_eq a0 b0 e)
exact_doctype_free_public a0 (doctype.KeptPublic b0 b1) e = cc
exact_doctype_free_public a0 (doctype.BehindPublic b0) e = cc
exact_doctype_free_public a0 (doctype.System b0) e = cc
exact_doctype_free_public a0 doctype.BehindSystem e = cc

exact_doctype_kept_public : (a0 : ℕ) (a1 : List ℕ) (q : OpenDoctype) → (doctypes.ghosts).eq (doctype.KeptPublic a0 a1) q ≡ true
    → doctype.KeptPublic a0 a1 ≡ q
exact_doctype_kept_public a0 a1 (doctype.BeforeRoot b0) e = cc
exact_doctype_kept_public a0 a1 (doctype.Root b0) e = cc
exact_doctype_kept_public a0 a1 doctype.BehindRoot e = cc
exact_doctype_kept_public a0 a1 (doctype.Word b0) e = cc
exact_doctype_kept_public a0 a1 (doctype.BehindWord b0) e = cc
exact_doctype_kept_public a0 a1 (doctype.FreePublic b0) e = cc
exact_doctype_kept_public a0 a1 (doctype.KeptPublic b0 b1) e =
    ap (λ (z : ℕ × List ℕ). doctype.KeptPublic z.0 z.1) (both exact_unsigned_eq exact_bytes a0 b0 a1 b1 e)
exact_doctype_kept_public a0 a1 (doctype.BehindPublic b0) e = cc
exact_doctype_kept_public a0 a1 (doctype.System b0) e = cc
exact_doctype_kept_public a0 a1 doctype.BehindSystem e = cc

exact_doctype_behind_public : (a0 : Bool) (q : OpenDoctype) → (doctypes.ghosts).eq (doctype.BehindPublic a0) q ≡ true
    → doctype.BehindPublic a0 ≡ q
exact_doctype_behind_public a0 (doctype.BeforeRoot b0) e = cc
exact_doctype_behind_public a0 (doctype.Root b0) e = cc
exact_doctype_behind_public a0 doctype.BehindRoot e = cc
exact_doctype_behind_public a0 (doctype.Word b0) e = cc
exact_doctype_behind_public a0 (doctype.BehindWord b0) e = cc
exact_doctype_behind_public a0 (doctype.FreePublic b0) e = cc
exact_doctype_behind_public a0 (doctype.KeptPublic b0 b1) e = cc
exact_doctype_behind_public a0 (doctype.BehindPublic b0) e = ap (λ (z : Bool). doctype.BehindPublic z) (exact_bool a0 b0 e)
exact_doctype_behind_public a0 (doctype.System b0) e = cc
exact_doctype_behind_public a0 doctype.BehindSystem e = cc

exact_doctype_system : (a0 : ℕ) (q : OpenDoctype) → (doctypes.ghosts).eq (doctype.System a0) q ≡ true → doctype.System a0 ≡ q
exact_doctype_system a0 (doctype.BeforeRoot b0) e = cc
exact_doctype_system a0 (doctype.Root b0) e = cc
exact_doctype_system a0 doctype.BehindRoot e = cc
exact_doctype_system a0 (doctype.Word b0) e = cc
exact_doctype_system a0 (doctype.BehindWord b0) e = cc
exact_doctype_system a0 (doctype.FreePublic b0) e = cc
exact_doctype_system a0 (doctype.KeptPublic b0 b1) e = cc
exact_doctype_system a0 (doctype.BehindPublic b0) e = cc
exact_doctype_system a0 (doctype.System b0) e = ap (λ (z : ℕ). doctype.System z) (exact_unsigned_eq a0 b0 e)
exact_doctype_system a0 doctype.BehindSystem e = cc

exact_doctype_behind_system : (q : OpenDoctype) → (doctypes.ghosts).eq doctype.BehindSystem q ≡ true → doctype.BehindSystem ≡ q
exact_doctype_behind_system (doctype.BeforeRoot b0) e = cc
exact_doctype_behind_system (doctype.Root b0) e = cc
exact_doctype_behind_system doctype.BehindRoot e = cc
exact_doctype_behind_system (doctype.Word b0) e = cc
exact_doctype_behind_system (doctype.BehindWord b0) e = cc
exact_doctype_behind_system (doctype.FreePublic b0) e = cc
exact_doctype_behind_system (doctype.KeptPublic b0 b1) e = cc
exact_doctype_behind_system (doctype.BehindPublic b0) e = cc
exact_doctype_behind_system (doctype.System b0) e = cc
exact_doctype_behind_system doctype.BehindSystem e = refl

-- open document type declarations that are found equal are one
pub exact_doctype : (a b : OpenDoctype) → (doctypes.ghosts).eq a b ≡ true → a ≡ b
exact_doctype (doctype.BeforeRoot a0) q e = exact_doctype_before_root a0 q e
exact_doctype (doctype.Root a0) q e = exact_doctype_root a0 q e
exact_doctype doctype.BehindRoot q e = exact_doctype_behind_root q e
exact_doctype (doctype.Word a0) q e = exact_doctype_word a0 q e
exact_doctype (doctype.BehindWord a0) q e = exact_doctype_behind_word a0 q e
exact_doctype (doctype.FreePublic a0) q e = exact_doctype_free_public a0 q e
exact_doctype (doctype.KeptPublic a0 a1) q e = exact_doctype_kept_public a0 a1 q e
exact_doctype (doctype.BehindPublic a0) q e = exact_doctype_behind_public a0 q e
exact_doctype (doctype.System a0) q e = exact_doctype_system a0 q e
exact_doctype doctype.BehindSystem q e = exact_doctype_behind_system q e
