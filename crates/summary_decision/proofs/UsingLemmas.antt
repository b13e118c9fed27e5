-- Productions on the chains of nonterminals.
use Rattle.std.proofs.Common.{◌≡◌, ℕ, ◌+◌, ◌<◌, ◌↔◌, inl, inr, Bool, true, false, ◌&&◌, List, [], ◌∷◌, length, get_or, map, refl, sym, ◌∙◌, ap, subst, arith, Option, None, Some, slice_get, true≢false}
use Rattle.std.specs.Option.{option_map}
use Rattle.std.specs.List.{All, list_all}
use Rattle.std.specs.Cmp.{first_so, second_so}
use Rattle.std.proofs.lemmas.Bool.{ltb-true, cases_lt}
use Rattle.std.proofs.lemmas.List.{get_or_default, get_or_past}
use Rattle.std.proofs.lemmas.List.Elements.{All-nil, All-cons}
use Rattle.std.proofs.lemmas.Option.{same_Some, slice_get-map, slice_get_read, get_or_from_slice_get, none-some}
use Rattle.text_base.specs.declared.numbers.Nt as nt
use Rattle.cfg_grammar.specs.declared.symbol.Symbol.{Symbol}
use Rattle.cfg_grammar.specs.declared.symbol.Symbol.TheVariants.{Range, Token, Nt}
use Rattle.cfg_grammar.specs.declared.production.Right.{Right}
use Rattle.cfg_grammar.specs.declared.production.Right.TheVariants.{Empty, One, Two}
use Rattle.cfg_grammar.specs.declared.production.Production.{Production}
use Rattle.cfg_grammar.specs.Below.{production_below, symbol_below, symbols_of}
use Rattle.numbered_sets.specs.Chains.{AreChains}
use Rattle.numbered_sets.specs.declared.chains.Chains.{Chains}
use Rattle.useful_nonterminals.specs.Follows.{IsMarked}
use Rattle.useful_nonterminals.specs.Rules.{number_in}
use Rattle.useful_nonterminals.specs.Useful.{IsUseful}
use Rattle.summary_decision.specs.declared.joint.Side.{Side}
use Rattle.summary_decision.specs.declared.joint.Side.TheVariants.{First, Second}
use Rattle.summary_decision.specs.Joints.{number_by, StandsOn, AreUses}
use Rattle.summary_decision.specs.Using.{key_of}

-- a test of marks against the marks
pub test_marked : (marks : List Bool) (n : ℕ) → get_or marks n false ≡ true → IsMarked marks n
test_marked marks n e =
    elim (cases_lt n (length marks)) [
      | inl below ↦ slice_get_read marks (length marks) n true refl below (sym (get_or_default marks n true false below ∙ e))
      | inr above ↦ absurd (true≢false (sym e ∙ get_or_past marks n false above))
    ]

pub marked_test : (marks : List Bool) (n : ℕ) → IsMarked marks n → get_or marks n false ≡ true
marked_test marks n m = get_or_from_slice_get marks n true false m

symbol_number_below : (count : ℕ) (x : Symbol) (a : ℕ) → symbol_below count x ≡ true → number_in x ≡ Some a → a < count
symbol_number_below count (Range r) a h e = cc
symbol_number_below count (Token t) a h e = cc
symbol_number_below count (Nt b) a h e = subst (λ (k : ℕ). k < count) (same_Some b.0 a e) (ltb-true b.0 count h)

number_below : (count : ℕ) (side : Side) (r : Right) (a : ℕ) → list_all (symbol_below count) (symbols_of r) ≡ true → number_by side r ≡ Some a → a < count
number_below count First Empty a h e = cc
number_below count First (One x) a h e = symbol_number_below count x a (first_so (symbol_below count x) true h) e
number_below count First (Two x y) a h e = symbol_number_below count x a (first_so (symbol_below count x) (symbol_below count y && true) h) e
number_below count Second Empty a h e = cc
number_below count Second (One x) a h e = cc
number_below count Second (Two x y) a h e = symbol_number_below count y a (first_so (symbol_below count y) true (second_so (symbol_below count x) (symbol_below count y && true) h)) e

key_below : (count : ℕ) (t : Bool) (o : Option ℕ) → ((a : ℕ) → o ≡ Some a → a < count) → key_of count t o < count + 1
key_below count true None f = omega arith
key_below count true (Some a) f = let l = f a refl in omega (arith, l)
key_below count false o f = omega arith

key_is : (count : ℕ) (t : Bool) (o : Option ℕ) (a : ℕ) → key_of count t o ≡ a → a < count → (t ≡ true) × (o ≡ Some a)
key_is count true None a e l = absurd (omega (arith, e, l))
key_is count true (Some b) a e l = (refl, ap Some e)
key_is count false o a e l = absurd (omega (arith, e, l))

is_key : (count : ℕ) (t : Bool) (o : Option ℕ) (a : ℕ) → t ≡ true → o ≡ Some a → key_of count t o ≡ a
is_key count true None a e f = cc
is_key count true (Some b) a e f = same_Some b a f
is_key count false o a e f = cc

module _ (side : Side) (count : ℕ) (useful : List Bool) where
  abbrev key : Production → ℕ
  key p = key_of count (get_or useful p.left.0 false) (number_by side p.right)

  pub keys_below : (ps : List Production) → list_all (production_below count) ps ≡ true → All (λ (k : ℕ). k < count + 1) (map (λ (p : Production). key_of count (get_or useful p.left.0 false) (number_by side p.right)) ps)
  keys_below [] h = All-nil (λ (k : ℕ). k < count + 1)
  keys_below (p ∷ ps) h =
      let here = first_so (production_below count p) (list_all (production_below count) ps) h in
      All-cons (λ (k : ℕ). k < count + 1) (key p) (map key ps)
      (key_below count (get_or useful p.left.0 false) (number_by side p.right) (λ a e. number_below count side p.right a (second_so _ _ here) e))
      (keys_below ps (second_so (production_below count p) (list_all (production_below count) ps) h))

  pub uses_exact : (ps : List Production) (start : nt.Nt) (uses : Chains) → ((a : nt.Nt) → IsMarked useful a.0 ↔ IsUseful ps start a) → length uses.last.items ≡ count + 1 → AreChains (map (λ (p : Production). key_of count (get_or useful p.left.0 false) (number_by side p.right)) ps) uses.last.items uses.before.items → AreUses side ps start count uses
  uses_exact ps start uses marked long chains =
      record {
        keys = map key ps;
        chains = chains;
        spread = omega (arith, long);
        exact = λ a i below. (
          λ e. there a i below (slice_get ps i) refl (sym (slice_get-map key ps i) ∙ e),
          λ h.
              let t = marked_test useful h.0.left.0 ((marked h.0.left).1 h.2) in
              slice_get-map key ps i ∙ (ap (option_map key) h.1 ∙ ap Some (is_key count (get_or useful h.0.left.0 false) (number_by side h.0.right) a t h.3)),
        );
      }
    where
      there : (a i : ℕ) → a < count → (o : Option Production) → slice_get ps i ≡ o → option_map key (slice_get ps i) ≡ Some a → StandsOn side ps start a i
      there a i below None e h = let f : None ≡ Some a = sym (ap (option_map key) e) ∙ h in absurd (none-some a f)
      there a i below (Some p) e h =
          let one : key p ≡ a = same_Some (key p) a (sym (ap (option_map key) e) ∙ h) in
          let k = key_is count (get_or useful p.left.0 false) (number_by side p.right) a one below in
          (p, e, (marked p.left).0 (test_marked useful p.left.0 k.0), k.1)
