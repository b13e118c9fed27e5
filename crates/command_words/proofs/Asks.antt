-- Words ask for one thing or for nothing.
use Rattle.std.proofs.Common.{◌≡◌, ◌∙◌, ◌∷◌, List, Option, Some, None, refl, sym, subst, inl, inr}
use Rattle.std.proofs.lemmas.Option.{same_Some}
use Rattle.clap.specs.Words.{Text}
use Rattle.command_words.specs.Asked.{Asked, AreTaken, Asks, AsksNothing, asked, asked_first}
use Rattle.command_words.specs.Canonical.{IsCanonical, canonical}
use Rattle.command_words.specs.Views.{IsRefused}
use Rattle.command_words.specs.declared.refusal.WordsRefusal.{WordsRefusal}
use Rattle.command_words.specs.declared.refusal.WordsRefusal.TheVariants.{Usage, Memory}
use Rattle.command_words.proofs.Asking.{canonical_taken, canonical_asked, canonical_first}

pub asks_first : (words : List Text) (for : Asked) → asked_first words ≡ Some for → Asks words for
unfolding Asks
asks_first words for is = inl is

pub asks_so : (words : List Text) (for : Asked) → asked_first words ≡ None → AreTaken words → asked words ≡ Some for → Asks words for
unfolding Asks
asks_so words for first taken is = inr (first, taken, is)

pub refused_words : (words : List Text) → asked_first words ≡ None → (AreTaken words → ⊥) → AsksNothing words
unfolding AsksNothing
refused_words words first never = (first, inl never)

pub no_number : (words : List Text) → asked_first words ≡ None → asked words ≡ None → AsksNothing words
unfolding AsksNothing
no_number words first none = (first, inr none)

both : {P : Type 0} (o : Option Asked) (for : Asked) → o ≡ Some for → o ≡ None → P
both o for some none = let same : None ≡ Some for = sym none ∙ some in cc

pub same_asked : (words : List Text) (for other : Asked) → Asks words for → Asks words other → for ≡ other
unfolding Asks
same_asked words for other (inl is) (inl is') = same_Some for other (sym is ∙ is')
same_asked words for other (inl is) (inr (first, taken, said)) = both (asked_first words) for is first
same_asked words for other (inr (first, taken, said)) (inl is) = both (asked_first words) other is first
same_asked words for other (inr (first, taken, is)) (inr (first', taken', is')) = same_Some for other (sym is ∙ is')

pub never_both : (words : List Text) (for : Asked) → Asks words for → AsksNothing words → ⊥
unfolding Asks AsksNothing
never_both words for (inl is) (first, nothing) = both (asked_first words) for is first
never_both words for (inr (first, taken, is)) (first', inl never) = never taken
never_both words for (inr (first, taken, is)) (first', inr none) = both (asked words) for is none

pub canonical_asks : (words : List Text) (for : Asked) → IsCanonical words for → Asks words for
canonical_asks words for (canonical row parts last is fits same for_is) =
    subst (λ w. Asks w for) (sym same) (asks_so (row.word ∷ _) for (canonical_first row parts last is fits) (inl (canonical_taken row parts last is fits))
    (canonical_asked row parts last is fits ∙ for_is))

-- what `clap` does not take
pub refused_by : (words : List Text) (refusal : WordsRefusal) → asked_first words ≡ None → ((refusal ≡ Memory → ⊥) → AreTaken words → ⊥) → IsRefused words refusal
refused_by words (Usage reason) first never = let no = never (λ same. cc) in (refused_words words first no, λ taken. absurd (no taken))
refused_by words Memory first never = tt

-- what it takes, where a number is none
pub refused_number : (words : List Text) → asked_first words ≡ None → asked words ≡ None → IsRefused words (Usage None)
refused_number words first none = (no_number words first none, λ taken. refl)
