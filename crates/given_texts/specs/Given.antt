-- The texts that are given, as a closed grammar.
use Rattle.std.specs.Prelude.{◌≡◌, ◌<◌, ℕ, List, length}
use Rattle.cfg_grammar.specs.Below.{AreBelow}
use Rattle.given_texts.specs.Closed.{Closed, IsClosed}
use Rattle.given_texts.specs.declared.given.GivenTexts.{GivenTexts}

-- the closed grammar: its productions, the nonterminal of a text of the request and that of an integer
abbrev pub closed_of : GivenTexts → Closed
closed_of given = record { productions = given.grammar.productions.items; request = given.grammar.start.0; integer = given.integer.0 }

-- it has these texts for the request, and all integers, by so many productions over so many nonterminals
pub record IsGiven (request : List ℕ → Type 0) (nonterminals lines : ℕ) (closed : Closed) : Type 0 where
  pub texts : IsClosed closed request
  pub below : AreBelow nonterminals closed.productions
  pub request_below : closed.request < nonterminals
  pub integer_below : closed.integer < nonterminals
  pub size : length closed.productions ≡ lines
