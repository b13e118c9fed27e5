use Rattle.std.proofs.Common.{rules, ◌≡◌, ◌∙◌, List, ℕ, Bor, map, false, sym}
use Rattle.std.specs.Prelude.{Err}
use Rattle.phpsa_texts.specs.declared.message.Refusal.{Refusal}
use Rattle.several_files.specs.Listing as spec
use Rattle.several_files.proofs.Lists.{list_wants, list_refused}
use Rattle.several_files.proofs.listing.list_of.Goals as goal

pub returns-then-not-is_listable : goal.returns-then-not-is_listable
returns-then-not-is_listable c =
    let none : spec.are_listable (map (λ (name : Bor (List ℕ)). name.now) c.loop-rest.rest.now) ≡ false = search rules in
    list_refused (map (λ (name : Bor (List ℕ)). name.now) c.args.names.now) c.usage_refusal.result (sym c.loop-rest.invariant.1 ∙ none) c.usage_refusal.ensures

pub returns-in_err-append : goal.returns-in_err-append
returns-in_err-append c =
    let is : c.from_residual.result ≡ Err Refusal.Memory = search rules in
    list_wants (map (λ (name : Bor (List ℕ)). name.now) c.args.names.now) c.from_residual.result is

pub returns-in_err-push : goal.returns-in_err-push
returns-in_err-push c =
    let is : c.from_residual-in_err-push.result ≡ Err Refusal.Memory = search rules in
    list_wants (map (λ (name : Bor (List ℕ)). name.now) c.args.names.now) c.from_residual-in_err-push.result is
