-- What is given for the request, by the texts that it may bring.
use Rattle.std.proofs.Common.{◌≡◌, ◌↔◌, ℕ, List, subst}
use Rattle.op_system.specs.declared.system.OpSystem.{OpSystem}
use Rattle.flow_code.specs.Points.{PlainFlow}
use Rattle.given_texts.specs.Closed.{Closed, IsClosed}
use Rattle.extraction.specs.ListedMade.{IsMadeWith}

-- texts that are the same are given too
pub closed_by : (closed : Closed) (request others : List ℕ → Type 0) → ((w : List ℕ) → request w ↔ others w) → IsClosed closed others → IsClosed closed request
closed_by closed request others same is = record {
  asked = λ w. (λ h. (is.asked w).0 ((same w).0 h), λ h. (same w).1 ((is.asked w).1 h));
  integers = is.integers;
  live = is.live;
}

-- so many nonterminals and productions are given
pub made_with : (request : List ℕ → Type 0) (n m k l : ℕ) (flow : PlainFlow) (s : OpSystem) → n ≡ m → k ≡ l → IsMadeWith request n k flow s → IsMadeWith request m l flow s
made_with request n m k l flow s same_nonterminals same_lines made =
    subst (λ (i : ℕ). IsMadeWith request i l flow s) same_nonterminals (subst (λ (j : ℕ). IsMadeWith request n j flow s) same_lines made)
