-- Expressions that were read, and those that were not; and what a call answered.
use Rattle.std.proofs.Common.{◌≡◌, ◌≢◌, List, refl, ap, sym, subst, ◌∙◌}
use Rattle.std.specs.Borrow.{Bor}
use Rattle.std.specs.Prelude.{Option, Some, None, Result, Ok, Err, IfOk, MatchOption}
use Rattle.php_syntax.specs.declared.token.Token.{Token}
use Rattle.script_grammar.specs.Terminals.{Terminal}
use Rattle.expr_machine.specs.Actions.{Action}
use Rattle.expr_parser.specs.Heads.{terminals_of}
use Rattle.stmt_machine.specs.declared.frame.Frame.{Frame}
use Rattle.stmt_machine.specs.Made.{Made}
use Rattle.stmt_parser.specs.declared.reader.Reader.{Reader}
use Rattle.stmt_parser.specs.Outcomes.{Outcome, failed, read_on, Reads}
use Rattle.stmt_parser.proofs.ActedLemmas.{on_end}

-- an expression that was not read

pub read_none : (x : Option (Bor (List Token))) (fs : List Frame) (m : Made) (next : List Frame → List Terminal → Made → Outcome) → ((r : Bor (List Token)) → x ≢ Some r) → read_on x fs m next ≡ failed
read_none None fs m next h = refl
read_none (Some r) fs m next h = absurd (h r refl)

-- the same expression

pub same_reads : {E : Type 0} {x y : Option (List Action × List Terminal)} (b : Reader) (r : Result (Option (Bor (List Token))) E) (a : Reader) → x ≡ y → Reads y b r a → Reads x b r a
same_reads b r a e h = subst (λ z. Reads z b r a) (sym e) h

-- the signs behind it

pub end_read : (found : Option (Bor (List Token))) (x : Option (List Terminal)) (fs : List Frame) (n : Made) (next : List Frame → List Terminal → Made → Outcome) → MatchOption found (x ≡ None) (λ last. x ≡ Some (terminals_of last.now)) → on_end x n (next fs) ≡ read_on found fs n next
end_read None x fs n next h = ap (λ y. on_end y n (next fs)) h
end_read (Some last) x fs n next h = ap (λ y. on_end y n (next fs)) h

-- the answer of a call, which is that of the whole function

pub on_ok : {S E : Type 0} {a b : Outcome} (f : S → Outcome) (r : Result S E) → a ≡ b → IfOk r (λ s. b ≡ f s) → IfOk r (λ s. a ≡ f s)
on_ok f (Ok s) e h = e ∙ h
on_ok f (Err x) e h = tt
