-- Comments, sections and instructions: how many of the last characters are those of the end.
use Rattle.std.proofs.Common.{◌≡◌, ℕ, suc, ◌<◌, Bool, true, false, ◌&&◌, List, [], ◌∷◌, ◌++◌, refl, sym, ◌∙◌, ap, subst, min, arith}
use Rattle.std.specs.Prelude.{if◌then◌else◌, nat_eq, nat_le, nat_lt}
use Rattle.dtd_model.specs.Table.{Table}
use Rattle.page_model.specs.Places.{Place}
use Rattle.piece_steps.specs.Readers.{go}
use Rattle.page_model.specs.Fronts.{Open, in_comment, in_section, in_instruction, last_from}
use Rattle.page_steps.specs.PageSteps.{OpenMove}
use Rattle.front_laws.proofs.Pages.{Leads, Next, leads_here, more, go_on, ended, dead, by_test}

few : (k : ℕ) → nat_le 2 k ≡ false → suc k ≡ min 2 (suc k)
few k h = grind arith

pub comments : (table : Table) (place : Place) (text : List ℕ) (k : ℕ) → Leads table place (in_comment k) text (in_comment (last_from 45 k text))
comments table place [] k = leads_here refl
comments table place (c ∷ cs) k =
    more (in_comment k) c
    (by_test (nat_le 2 k) _ _ (λ big. by_test (nat_eq c 62) _ _ (λ e. ended) (λ e. dead))
    (λ small. at (nat_eq c 45) (subst (λ (n : ℕ). Leads table place (in_comment (suc k)) cs (in_comment (last_from 45 n cs))) (few k small) (comments table place cs (suc k))) (comments table place cs 0)))
  where
    at : (b : Bool) → Leads table place (in_comment (suc k)) cs (in_comment (last_from 45 (min 2 (suc k)) cs)) → Leads table place (in_comment 0) cs (in_comment (last_from 45 0 cs))
        → Next table place (let m : OpenMove = if b then go (in_comment (suc k)) else go (in_comment 0) in m) cs (in_comment (last_from 45 (if b then min 2 (suc k) else 0) cs))
    at true f g = go_on f
    at false f g = go_on g

pub sections : (table : Table) (place : Place) (text : List ℕ) (k : ℕ) → Leads table place (in_section k) text (in_section (last_from 93 k text))
sections table place [] k = leads_here refl
sections table place (c ∷ cs) k =
    more (in_section k) c
    (by_test (nat_eq c 62 && nat_le 2 k) _ _ (λ e. ended) (λ e. at (nat_eq c 93) (sections table place cs (min 2 (suc k))) (sections table place cs 0)))
  where
    at : (b : Bool) → Leads table place (in_section (min 2 (suc k))) cs (in_section (last_from 93 (min 2 (suc k)) cs)) → Leads table place (in_section 0) cs (in_section (last_from 93 0 cs))
        → Next table place (let m : OpenMove = if b then go (in_section (min 2 (suc k))) else go (in_section 0) in m) cs (in_section (last_from 93 (if b then min 2 (suc k) else 0) cs))
    at true f g = go_on f
    at false f g = go_on g

some : (n : ℕ) → nat_lt 0 (min 2 (suc n)) ≡ true
some n = grind arith

pub instructions : (table : Table) (place : Place) (text : List ℕ) (n : ℕ) → Leads table place (in_instruction (nat_lt 0 n)) text (in_instruction (nat_lt 0 (last_from 63 n text)))
instructions table place [] n = leads_here refl
instructions table place (c ∷ cs) n =
    more (in_instruction (nat_lt 0 n)) c (by_test (nat_eq c 62 && nat_lt 0 n) _ _ (λ e. ended) (λ e. at (nat_eq c 63) (instructions table place cs (min 2 (suc n))) (instructions table place cs 0)))
  where
    at : (b : Bool) → Leads table place (in_instruction (nat_lt 0 (min 2 (suc n)))) cs (in_instruction (nat_lt 0 (last_from 63 (min 2 (suc n)) cs)))
        → Leads table place (in_instruction (nat_lt 0 0)) cs (in_instruction (nat_lt 0 (last_from 63 0 cs)))
        → Next table place (go (in_instruction b)) cs (in_instruction (nat_lt 0 (last_from 63 (if b then min 2 (suc n) else 0) cs)))
    at true f g = go_on (subst (λ (x : Bool). Leads table place (in_instruction x) cs (in_instruction (nat_lt 0 (last_from 63 (min 2 (suc n)) cs)))) (some n) f)
    at false f g = go_on g
