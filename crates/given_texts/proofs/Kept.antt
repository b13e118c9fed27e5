-- The productions that are kept.
use Rattle.std.proofs.Common.{◌≡◌, ℕ, Bool, true, false, List, [], ◌∷◌, ◌++◌, length, Some, inl, inr, refl, sym, ◌∙◌, ap, subst, true≢false}
use Rattle.std.specs.Prelude.{Contains, get_or}
use Rattle.std.proofs.lemmas.Bool.{cases_lt}
use Rattle.std.proofs.lemmas.List.{get_or_past}
use Rattle.std.proofs.lemmas.List.Elements.{Contains-append_left, Contains-append_right, Contains-append_cases}
use Rattle.std.proofs.lemmas.Option.{slice_get-get_or, get_or_from_slice_get}
use Rattle.string_functions.proofs.Members.{Contains-nil, Contains-cons_cases, Contains-head, Contains-later}
use Rattle.cfg_grammar.specs.declared.symbol.Symbol.{Symbol}
use Rattle.cfg_grammar.specs.declared.production.Right.{Right}
use Rattle.cfg_grammar.specs.declared.production.Right.TheVariants.{Empty, One, Two}
use Rattle.cfg_grammar.specs.declared.production.Production.{Production}
use Rattle.cfg_grammar.specs.Below.{symbols_of}
use Rattle.useful_nonterminals.specs.Follows.{IsMarked}
use Rattle.given_texts.specs.Moved.{moved_symbol, moved_right, moved_production}
use Rattle.given_texts.specs.Kept.{right_kept, if_kept, kept_one, kept}

-- a mark that is read
pub marked_from : (marks : List Bool) (n : ℕ) → get_or marks n false ≡ true → IsMarked marks n
marked_from marks n h =
    elim (cases_lt n (length marks)) [
      | inl below ↦ slice_get-get_or marks n false below ∙ ap Some h
      | inr above ↦ absurd (true≢false (sym h ∙ get_or_past marks n false above))
    ]

pub mark_read : (marks : List Bool) (n : ℕ) → IsMarked marks n → get_or marks n false ≡ true
mark_read marks n h = get_or_from_slice_get marks n true false h

-- a production that is kept is one of the grammar, with higher numbers
pub record IsKept (marks : List Bool) (base : ℕ) (ps : List Production) (q : Production) : Type 0 where
  pub source : Production
  pub has : Contains ps source
  pub marked : right_kept marks source.right ≡ true
  pub is : moved_production base source ≡ q

one_from : (marks : List Bool) (base : ℕ) (p : Production) (ps : List Production) (q : Production) (b : Bool) → right_kept marks p.right ≡ b → Contains (if_kept b (moved_production base p)) q → IsKept marks base (p ∷ ps) q
one_from marks base p ps q true e h =
    elim (Contains-cons_cases (moved_production base p) [] q h) [
      | inl same ↦ record { source = p; has = Contains-head p ps; marked = e; is = same }
      | inr none ↦ Contains-nil q none
    ]
one_from marks base p ps q false e h = Contains-nil q h

pub kept_from : (marks : List Bool) (base : ℕ) (ps : List Production) (q : Production) → Contains (kept marks base ps) q → IsKept marks base ps q
kept_from marks base [] q h = Contains-nil q h
kept_from marks base (p ∷ ps) q h =
    elim (Contains-append_cases (kept_one marks base p) (kept marks base ps) q h) [
      | inl here ↦ one_from marks base p ps q (right_kept marks p.right) refl here
      | inr later ↦
          let r = kept_from marks base ps q later in
          record { source = r.source; has = Contains-later p ps r.source r.has; marked = r.marked; is = r.is }
    ]

-- and each production whose right side is marked is kept
one_has : (marks : List Bool) (base : ℕ) (p : Production) → right_kept marks p.right ≡ true → Contains (kept_one marks base p) (moved_production base p)
one_has marks base p is = subst (λ (b : Bool). Contains (if_kept b (moved_production base p)) (moved_production base p)) (sym is) (Contains-head (moved_production base p) [])

pub kept_has : (marks : List Bool) (base : ℕ) (ps : List Production) (p : Production) → Contains ps p → right_kept marks p.right ≡ true → Contains (kept marks base ps) (moved_production base p)
kept_has marks base [] p h is = Contains-nil p h
kept_has marks base (q ∷ ps) p h is =
    elim (Contains-cons_cases q ps p h) [
      | inl e ↦ Contains-append_left (kept_one marks base q) (kept marks base ps) (moved_production base p)
          (subst (λ (z : Production). Contains (kept_one marks base z) (moved_production base p)) (sym e) (one_has marks base p is))
      | inr later ↦ Contains-append_right (kept_one marks base q) (kept marks base ps) (moved_production base p) (kept_has marks base ps p later is)
    ]

-- a symbol on the right side with higher numbers is one of the right side
pub moved_among : (base : ℕ) (r : Right) (s : Symbol) → Contains (symbols_of (moved_right base r)) s → (t : Symbol) × Contains (symbols_of r) t × (moved_symbol base t ≡ s)
moved_among base Empty s h = Contains-nil s h
moved_among base (One a) s h =
    elim (Contains-cons_cases (moved_symbol base a) [] s h) [
      | inl e ↦ (a, Contains-head a [], e)
      | inr none ↦ Contains-nil s none
    ]
moved_among base (Two a b) s h =
    elim (Contains-cons_cases (moved_symbol base a) (moved_symbol base b ∷ []) s h) [
      | inl e ↦ (a, Contains-head a (b ∷ []), e)
      | inr later ↦ second later
    ]
  where
    second : Contains (moved_symbol base b ∷ []) s → (t : Symbol) × Contains (a ∷ b ∷ []) t × (moved_symbol base t ≡ s)
    second later =
        elim (Contains-cons_cases (moved_symbol base b) [] s later) [
          | inl e ↦ (b, Contains-later a (b ∷ []) b (Contains-head b []), e)
          | inr none ↦ Contains-nil s none
        ]

-- what stands behind what is given
pub added : (base : ℕ) (new old given : List Production) (ms marks : List Bool) (rs ps : List Production) → new ≡ old ++ kept ms base rs → old ≡ given → ms ≡ marks → rs ≡ ps → new ≡ given ++ kept marks base ps
added base new old given ms marks rs ps is same_given same_marks same_productions =
    is ∙ ap (λ (z : List Production). z ++ kept ms base rs) same_given ∙ ap (λ (z : List Bool). given ++ kept z base rs) same_marks ∙ ap (λ (z : List Production). given ++ kept marks base z) same_productions
