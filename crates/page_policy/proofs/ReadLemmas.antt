-- A file is cut, and put together.
use Rattle.std.proofs.Common.{◌≡◌, ◌∙◌, ℕ, Bool, true, false, List, [], ◌∷◌, Option, Some, None, refl, sym, subst}
use Rattle.page_policy.specs.Patterns.{Pattern}
use Rattle.page_policy.specs.Grammar.{Alt}
use Rattle.page_policy.specs.Forms.{IsForm}
use Rattle.page_policy.specs.Machine.{PlainPart, Cut, State, wrong, at, state_of, joined}
use Rattle.page_policy.specs.Views.{AreParts}
use Rattle.page_policy.specs.Cuts.{HasParts, IsCutBy, IsCut}
use Rattle.page_policy.specs.Built.{IsBuilt}
use Rattle.page_policy.specs.declared.part.Part.{Part}
use Rattle.page_policy.specs.declared.cutting.Parts.{Parts}
use Rattle.page_policy.specs.declared.pattern.Pattern.{Pattern as Held}
use Rattle.page_policy.proofs.SpellLemmas.{spelled, uncut, unread, IsWhole}

pub not_cut : (parts : Parts) (file : List ℕ) → IsCut parts file → parts.is_whole ≡ false → (p : Pattern) → Alt p file [] → ⊥
not_cut parts file is e p a = uncut (subst (λ (b : Bool). IsCutBy b parts.items.items file) e is) a

has_parts : (parts : Parts) (file : List ℕ) (items : List Part) → IsCut parts file → parts.is_whole ≡ true → items ≡ parts.items.items → HasParts items file
has_parts parts file items is e same =
    subst (λ (l : List Part). HasParts l file) (sym same) (subst (λ (b : Bool). IsCutBy b parts.items.items file) e is)

-- what is built of a file is its pattern
pub pattern_built : (parts : Parts) (file : List ℕ) (items : List Part) (o : Option Held) (held : Held) → IsCut parts file → parts.is_whole ≡ true → items ≡ parts.items.items
    → ((xs : List PlainPart) → AreParts items xs → IsBuilt o (state_of xs)) → o ≡ Some held → (p : Pattern) × Alt p file [] × IsForm held.arena held.root p
pattern_built parts file items o held is e same built k =
    let h = has_parts parts file items is e same in
    by (state_of h.plain) h.cut refl (subst (λ (z : Option Held). IsBuilt z (state_of h.plain)) k (built h.plain h.are))
  where
    by : {xs : List PlainPart} (s : State) → Cut xs file → state_of xs ≡ s → IsBuilt (Some held) s → (p : Pattern) × Alt p file [] × IsForm held.arena held.root p
    by (at row others []) d f b = (joined row others, spelled row others d f, b)
    by (at row others (q ∷ outer)) d f b = absurd b
    by wrong d f b = absurd b

-- and where nothing is built, it spells none
pub none_built : (parts : Parts) (file : List ℕ) (items : List Part) (o : Option Held) → IsCut parts file → parts.is_whole ≡ true → items ≡ parts.items.items
    → ((xs : List PlainPart) → AreParts items xs → IsBuilt o (state_of xs)) → o ≡ None → (p : Pattern) → Alt p file [] → ⊥
none_built parts file items o is e same built k p a =
    let h = has_parts parts file items is e same in
    unread h.cut (not_whole (state_of h.plain) (subst (λ (z : Option Held). IsBuilt z (state_of h.plain)) k (built h.plain h.are))) a
  where
    not_whole : (s : State) → IsBuilt None s → IsWhole s → ⊥
    not_whole (at row others []) b w = b
    not_whole (at row others (q ∷ outer)) b w = w
    not_whole wrong b w = w
