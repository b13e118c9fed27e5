-- The reader that fails at once has the tokens of a page, and keeps that each state passes.
use Rattle.std.proofs.Common.{◌≡◌, ℕ, Bool, true, false, List, [], ◌∷◌, ◌++◌, Option, Some, None, refl, sym, ◌∙◌, ap}
use Rattle.std.specs.Prelude.{if◌then◌else◌, nat_eq}
use Rattle.std.specs.List.{Any}
use Rattle.std.proofs.lemmas.Bool.{and_parts, eqb-true}
use Rattle.std.proofs.lemmas.List.Folds.{Any-from_list_any, list_any-from_Any}
use Rattle.dtd_model.specs.Table.{Table}
use Rattle.page_model.specs.Places.{at_beginning}
use Rattle.piece_steps.specs.Readers.{Move, go, done, fail, Reader, to_state, state_after, kept, narrowed}
use Rattle.piece_steps.specs.Reads.{Reads}
use Rattle.piece_steps.proofs.Narrowed.{narrowed_reads}
use Rattle.piece_steps.proofs.Whole.{tokens_are_read}
use Rattle.character_steps.specs.Encoded.{at_state, encoded}
use Rattle.character_steps.proofs.Encoding.{encoded_reads}
use Rattle.page_steps.specs.DoctypeSteps.{begins}
use Rattle.page_steps.specs.PageSteps.{page_reader, page_hold, page_language}
use Rattle.page_step_laws.specs.Laws.{beginning}
use Rattle.page_step_laws.proofs.Held.{read_by_characters}
use Rattle.page_step_laws.proofs.Tokens.{pieces}
use Rattle.page_reads.specs.Laws.{IsLawfulTable}
use Rattle.page_reads.proofs.All.{pieces_read, page_tokens_read}
use Rattle.page_narrowing.specs.Laws.{NarrowTokensRead, FirstKept, StepsKeep, MetKept, BeginningsTold}
use Rattle.page_narrowing.specs.Passing.{passes, narrow_reader}
use Rattle.page_endings.specs.Ending.{some_name_begins}
use Rattle.page_endings.proofs.Begins.{begins_less, begins_itself}
use Rattle.page_endings.proofs.Halts.{all_pass}

by_bytes : (table : Table) → IsLawfulTable table → Reads (pieces table) (encoded (page_reader table) page_hold)
by_bytes table h = encoded_reads (page_language table) (page_reader table) page_hold (read_by_characters table) (pieces_read table h)

pub by_narrow : (table : Table) → IsLawfulTable table → Reads (pieces table) (narrow_reader table)
by_narrow table h = narrowed_reads (pieces table) (passes table) (encoded (page_reader table) page_hold) (by_bytes table h) (all_pass table)

pub narrow_tokens_read : NarrowTokensRead
narrow_tokens_read table h bytes tokens =
    let p = page_tokens_read table h bytes tokens in
    let w = tokens_are_read (pieces table) (encoded (page_reader table) page_hold) (by_bytes table h) at_beginning bytes tokens in
    let n = tokens_are_read (pieces table) (narrow_reader table) (by_narrow table h) at_beginning bytes tokens in
    (λ t. n.0 (w.1 (p.0 t)), λ e. p.1 (w.0 (n.1 e)))

-- What is kept.

pub first_kept : FirstKept
first_kept table place = refl

same_state : {P T S : Type 0} (s g : S) → (let m : Move P T S = go s in m ≡ go g) → s ≡ g
same_state s g e = cc

-- a reader that fails where the test does leads where it passes
kept_passes : {P T S : Type 0} (test : S → Bool) (m : Move P T S) (g : S) → kept test m ≡ go g → test g ≡ true
kept_passes {P} {T} {S} test (go s) g e = by (test s) refl e
  where
    by : (b : Bool) → test s ≡ b → (let z : Move P T S = if b then go s else fail in z ≡ go g) → test g ≡ true
    by true q e = ap test (sym (same_state s g e)) ∙ q
    by false q e = cc
kept_passes test (done place tokens) g e = cc
kept_passes test fail g e = cc

pub steps_keep : StepsKeep
steps_keep table h g b e = kept_passes (passes table) ((encoded (page_reader table) page_hold).step h b) g e

met : {P T S : Type 0} (test : S → Bool) (r : Reader P T S) → ((place : P) → test (r.first place) ≡ true) → (bytes : List ℕ) (s g : S) → test s ≡ true → state_after (narrowed test r) (Some s) bytes ≡ Some g → test g ≡ true
met {P} {T} {S} test r first [] s g h e = ap test (sym (same s g e)) ∙ h
  where
    same : (s g : S) → (let z : Option S = Some s in z ≡ Some g) → s ≡ g
    same s g e = cc
met {P} {T} {S} test r first (b ∷ bs) s g h e = at (kept test (r.step s b)) refl e (λ z q i. met test r first bs z g q i)
  where
    none_stays : (bytes : List ℕ) → state_after (narrowed test r) None bytes ≡ Some g → ⊥
    none_stays [] i = cc
    none_stays (c ∷ cs) i = cc

    at : (m : Move P T S) → kept test (r.step s b) ≡ m → state_after (narrowed test r) (to_state (narrowed test r) m) bs ≡ Some g
        → ((z : S) → test z ≡ true → state_after (narrowed test r) (Some z) bs ≡ Some g → test g ≡ true) → test g ≡ true
    at (go z) q i ih = ih z (kept_passes test (r.step s b) z q) i
    at (done place tokens) q i ih = ih (r.first place) (first place) i
    at fail q i ih = absurd (none_stays bs i)

pub met_kept : MetKept
met_kept table bytes h e = met (passes table) (encoded (page_reader table) page_hold) (λ place. refl) bytes (at_state beginning) h refl e

-- What the test of names tells.

begun : (front whole : List ℕ) → begins whole front ≡ true → (more : List ℕ) × (whole ≡ front ++ more)
begun [] whole e = (whole, refl)
begun (c ∷ cs) [] e = cc
begun (c ∷ cs) (w ∷ ws) e =
    let p = and_parts (nat_eq c w) (begins ws cs) e in
    let m = begun cs ws p.1 in
    (m.0, ap (λ (x : List ℕ). w ∷ x) m.1 ∙ ap (λ (x : ℕ). x ∷ (cs ++ m.0)) (sym (eqb-true c w p.0)))

begins_so : (front whole : List ℕ) → ((more : List ℕ) × (whole ≡ front ++ more)) → begins whole front ≡ true
begins_so front whole (more, e) = begins_less front whole more (ap (λ (w : List ℕ). begins whole w) (sym e) ∙ begins_itself whole)

any_map : {P Q : List ℕ → Type 0} → ((x : List ℕ) → P x → Q x) → (xs : List (List ℕ)) → Any P xs → Any Q xs
any_map f xs (i, x, l, e, p) = (i, x, l, e, f x p)

pub beginnings_told : BeginningsTold
beginnings_told names front = (tells, told)
  where
    tells : some_name_begins names front ≡ true → Any (λ (name : List ℕ). (more : List ℕ) × (name ≡ front ++ more)) names
    tells e = any_map (λ w h. begun front w h) names (Any-from_list_any (λ (w : List ℕ). begins w front) names e)

    told : Any (λ (name : List ℕ). (more : List ℕ) × (name ≡ front ++ more)) names → some_name_begins names front ≡ true
    told a = list_any-from_Any (λ (w : List ℕ). begins w front) names (any_map (λ w h. begins_so front w h) names a)
