-- A file is cut part by part.
use Rattle.std.proofs.Common.{◌≡◌, ◌∙◌, ◌++◌, ℕ, Bool, true, false, List, [], ◌∷◌, length, refl, sym, ap, subst, append-nil, append_assoc, arith, eqb-true}
use Rattle.std.specs.Prelude.{◌↔◌, ◌==◌, IsTrue}
use Rattle.page_policy.specs.Machine.{PlainPart, PartAt, Cut, all, further}
use Rattle.page_policy.specs.Views.{ReadsPart, AreParts}
use Rattle.page_policy.specs.Cuts.{HasParts, IsCutBy, CutSoFar}
use Rattle.page_policy.specs.declared.part.Part.{Part}
use Rattle.page_policy.proofs.PartLemmas.{no_part, one_part}

pub cut_begun : (file : List ℕ) (items : List Part) → items ≡ [] → CutSoFar file file items
cut_begun file items e = record {
  forth = λ ps h. subst (λ (is : List Part). HasParts (is ++ ps) file) (sym e) h;
  back = λ xs d. (xs, d);
}

pub cut_more : (file rest others : List ℕ) (items new : List Part) (part : Part) → CutSoFar file rest items → ReadsPart rest part others → new ≡ items ++ part ∷ [] → CutSoFar file others new
cut_more file rest others items new part so r e = record {
  forth = λ ps h. subst (λ (l : List Part). HasParts l file) (sym (ap (λ (l : List Part). l ++ ps) e ∙ append_assoc items (part ∷ []) ps))
      (so.forth (part ∷ ps) (record { plain = r.plain ∷ h.plain; are = (r.is, h.are); cut = further r.read h.cut }));
  back = λ xs d. (let f = so.back xs d in behind f.1 r.read);
}
  where
    behind : {x : PlainPart} {ys : List PlainPart} {u : List ℕ} → Cut ys u → PartAt x u others → (zs : List PlainPart) × Cut zs others
    behind all h = absurd (no_part h)
    behind (further {xs = xs} g d) h = (xs, subst (λ (z : List ℕ). Cut xs z) (one_part g h).1 d)

cut_ended : (file rest : List ℕ) (items : List Part) → CutSoFar file rest items → rest ≡ [] → HasParts items file
cut_ended file rest items so e =
    subst (λ (l : List Part). HasParts l file) (append-nil items)
    (so.forth [] (subst (λ (u : List ℕ). HasParts [] u) (sym e) (record { plain = []; are = tt; cut = all })))

cut_failed : (file rest : List ℕ) (items : List Part) → CutSoFar file rest items → (rest ≡ [] → ⊥) → ((x : PlainPart) (w : List ℕ) → PartAt x rest w → ⊥)
    → (xs : List PlainPart) → Cut xs file → ⊥
cut_failed file rest items so some none xs d = let f = so.back xs d in wrong f.1 some none
  where
    wrong : {ys : List PlainPart} {u : List ℕ} → Cut ys u → (u ≡ [] → ⊥) → ((x : PlainPart) (w : List ℕ) → PartAt x u w → ⊥) → ⊥
    wrong all some none = some refl
    wrong (further {x = x} {v = v} h d) some none = none x v h

differ : false ≡ true → ⊥
differ e = cc

not_nil : (b : ℕ) (bytes : List ℕ) → b ∷ bytes ≡ [] → ⊥
not_nil b bytes e = cc

no_more : (whole : Bool) (rest : List ℕ) → whole ≡ (length rest == 0) → IsTrue whole ↔ (rest ≡ [])
no_more whole [] e = (λ t. refl, λ r. e)
no_more whole (b ∷ rest) e = (λ t. absurd (not_zero (eqb-true (length (b ∷ rest)) 0 (sym e ∙ t))), λ r. absurd (not_nil b rest r))
  where
    not_zero : length (b ∷ rest) ≡ 0 → ⊥
    not_zero q = omega (arith, q)

whole_cut : (file rest : List ℕ) (items : List Part) (whole : Bool) → CutSoFar file rest items → ((x : PlainPart) (w : List ℕ) → PartAt x rest w → ⊥)
    → IsTrue whole ↔ (rest ≡ []) → IsCutBy whole items file
whole_cut file rest items true so none is = cut_ended file rest items so (is.0 refl)
whole_cut file rest items false so none is = cut_failed file rest items so (λ e. differ (is.1 e)) none

pub cut_done : (file rest : List ℕ) (items : List Part) (whole : Bool) → CutSoFar file rest items → ((x : PlainPart) (w : List ℕ) → PartAt x rest w → ⊥)
    → whole ≡ (length rest == 0) → IsCutBy whole items file
cut_done file rest items whole so none e = whole_cut file rest items whole so none (no_more whole rest e)
