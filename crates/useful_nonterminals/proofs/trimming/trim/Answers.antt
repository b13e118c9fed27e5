use Rattle.std.proofs.Common.{◌≡◌, ◌∙◌, ◌<◌, ◌≤◌, Bool, true, List, None, Some, length, sym, ap, subst}
use Rattle.std.specs.Prelude.{◌↔◌}
use Rattle.std.specs.List.{list_all}
use Rattle.text_base.specs.declared.numbers.Nt as nt
use Rattle.cfg_grammar.specs.declared.production.Production.{Production}
use Rattle.cfg_grammar.specs.Below.{production_below}
use Rattle.useful_nonterminals.specs.Follows.{IsMarked}
use Rattle.useful_nonterminals.specs.Useful.{IsUseful}
use Rattle.useful_nonterminals.specs.Naming.{name_at, named_productions}
use Rattle.useful_nonterminals.specs.Trimmed.{IsTrimmed}
use Rattle.useful_nonterminals.proofs.NamingLemmas.{start_named}
use Rattle.useful_nonterminals.proofs.TrimLemmas.{name_below, trimmed, below}
use Rattle.useful_nonterminals.proofs.trimming.trim.Goals as goal

pub unreachable-requires : goal.unreachable-requires
unreachable-requires c =
    let g = c.args.grammar.now in
    let names = c.in_ok-names.names.names.items in
    let long : length names ≡ g.count = c.in_ok-names.ensures.all ∙ ap (λ m. length m) c.as_slice.ensures.value ∙ c.in_ok-useful.ensures.len in
    let none : name_at names g.start ≡ None = ap (λ ns. name_at ns g.start) (sym c.as_slice-4.ensures.value) ∙ sym c.name_of.ensures ∙ c.in_default.is in
    start_named c.as_slice.result.now g.start.0 names c.in_ok-names.names.count c.in_ok-names.ensures.naming (subst (λ n. g.start.0 < n) (sym long) g.start_below) none

pub invariant_of-result : goal.invariant_of-result
invariant_of-result c =
    let g = c.args.grammar.now in
    let ps = g.productions.items in
    let names = c.in_ok-names.names.names.items in
    let marks = c.as_slice.result.now in
    let start' : nt.Nt = record { 0 = c.in-Some.start } in
    let exact : (a : nt.Nt) → IsMarked marks a.0 ↔ IsUseful ps g.start a = subst (λ (m : List Bool). (a : nt.Nt) → IsMarked m a.0 ↔ IsUseful ps g.start a) (sym c.as_slice.ensures.value) c.in_ok-useful.ensures.exact in
    let starts : name_at names g.start ≡ Some start'.0 = ap (λ ns. name_at ns g.start) (sym c.as_slice-4.ensures.value) ∙ sym c.name_of.ensures ∙ c.in-Some.is in
    let is : c.in_ok-productions.productions.items ≡ named_productions names ps = c.in_ok-productions.ensures ∙ ap (λ ns. named_productions ns c.as_slice-3.result.now) c.as_slice-2.ensures.value ∙ ap (named_productions names) c.as_slice-3.ensures.value in
    record {
      start_below = name_below ps g.start marks names c.in_ok-names.names.count c.in_ok-names.ensures.naming c.in_ok-names.ensures.all exact start' starts g.start c.in-Some.start starts;
      below = subst (λ (qs : List Production). list_all (production_below c.in_ok-names.names.count) qs ≡ true) (sym is) (below ps g.start marks names c.in_ok-names.names.count c.in_ok-names.ensures.naming c.in_ok-names.ensures.all exact start' starts);
    }

pub returns : goal.returns
returns c =
    let g = c.args.grammar.now in
    let ps = g.productions.items in
    let names = c.in_ok-names.names.names.items in
    let marks = c.as_slice.result.now in
    let start' : nt.Nt = record { 0 = c.in-Some.start } in
    let exact : (a : nt.Nt) → IsMarked marks a.0 ↔ IsUseful ps g.start a = subst (λ (m : List Bool). (a : nt.Nt) → IsMarked m a.0 ↔ IsUseful ps g.start a) (sym c.as_slice.ensures.value) c.in_ok-useful.ensures.exact in
    let starts : name_at names g.start ≡ Some start'.0 = ap (λ ns. name_at ns g.start) (sym c.as_slice-4.ensures.value) ∙ sym c.name_of.ensures ∙ c.in-Some.is in
    let is : c.in_ok-productions.productions.items ≡ named_productions names ps = c.in_ok-productions.ensures ∙ ap (λ ns. named_productions ns c.as_slice-3.result.now) c.as_slice-2.ensures.value ∙ ap (named_productions names) c.as_slice-3.ensures.value in
    let few : c.in_ok-names.names.count ≤ g.count = subst (λ n. c.in_ok-names.names.count ≤ n) (ap (λ m. length m) c.as_slice.ensures.value ∙ c.in_ok-useful.ensures.len) c.in_ok-names.ensures.few in
    subst (λ (qs : List Production). IsTrimmed ps g.start g.count qs start' c.in_ok-names.names.count) (sym is) (trimmed ps g.start marks names c.in_ok-names.names.count c.in_ok-names.ensures.naming c.in_ok-names.ensures.all exact start' starts g.count few)
