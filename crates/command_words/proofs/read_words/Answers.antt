use Rattle.std.proofs.Common.{rules, ◌≡◌, IfErr, Err, map, string_bytes, [], None, Some, sym, subst, inr}
use Rattle.clap.specs.Words.{fault_of}
use Rattle.command_words.specs.Program.{phpsa}
use Rattle.command_words.specs.Asked.{asked, asked_first}
use Rattle.command_words.specs.Views.{asked_as, IsRefused}
use Rattle.command_words.proofs.Asks.{asks_first, asks_so, refused_by, refused_number}
use Rattle.command_words.proofs.read_words.Goals as goal

pub returns-in-Some-clause-ok : goal.returns-in-Some-clause-ok
returns-in-Some-clause-ok c =
    let is : asked_first (map string_bytes c.args.words.now) ≡ Some (asked_as c.in-Some.line) = search rules in
    asks_first (map string_bytes c.args.words.now) (asked_as c.in-Some.line) is

pub returns-in_err-matches-clause-refused : goal.returns-in_err-matches-clause-refused
returns-in_err-matches-clause-refused c =
    let first : asked_first (map string_bytes c.args.words.now) ≡ None = search rules in
    let is : c.from_residual.result ≡ Err c.in_err-matches.field-0.0 = search rules in
    subst (λ r. IfErr r (IsRefused (map string_bytes c.args.words.now))) (sym is)
    (refused_by (map string_bytes c.args.words.now) c.in_err-matches.field-0.0 first c.in_err-matches.ensures.usage)

pub returns-in-None-clause-refused : goal.returns-in-None-clause-refused
returns-in-None-clause-refused c =
    let first : asked_first (map string_bytes c.args.words.now) ≡ None = search rules in
    let none : asked (map string_bytes c.args.words.now) ≡ None = search rules in
    refused_number (map string_bytes c.args.words.now) first none

pub returns-clause-ok : goal.returns-clause-ok
returns-clause-ok c =
    let first : asked_first (map string_bytes c.args.words.now) ≡ None = search rules in
    let clear : fault_of phpsa (map string_bytes c.args.words.now) ≡ [] = search rules in
    let is : asked (map string_bytes c.args.words.now) ≡ Some (asked_as c.in-Some-line_by.line) = search rules in
    asks_so (map string_bytes c.args.words.now) (asked_as c.in-Some-line_by.line) first (inr clear) is

pub returns-in_default-subcommand-clause-refused : goal.returns-in_default-subcommand-clause-refused
returns-in_default-subcommand-clause-refused c =
    let first : asked_first (map string_bytes c.args.words.now) ≡ None = search rules in
    let none : asked (map string_bytes c.args.words.now) ≡ None = search rules in
    refused_number (map string_bytes c.args.words.now) first none
