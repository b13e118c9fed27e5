use Rattle.std.proofs.Common.{rules, ◌≡◌, ◌∙◌, ℕ, List, Bor, map, true, false, refl, ap, subst}
use Rattle.std.specs.Prelude.{Err, string_bytes}
use Rattle.phpsa_texts.specs.declared.message.Refusal.{Refusal}
use Rattle.several_files.specs.declared.answers.FileAnswer.{FileAnswer}
use Rattle.several_files.specs.declared.checks.AskedFile.{AskedFile}
use Rattle.several_files.specs.Lines as lines
use Rattle.several_files.specs.Calls.{AreAnswers}
use Rattle.several_files.specs.Listing as spec
use Rattle.several_files.specs.Endings.{moment_of, all_names, told_names, IsListOr}
use Rattle.several_files.specs.Views.{answer_as, checks_as, file_as}
use Rattle.several_files.proofs.Lists.{names_as}
use Rattle.several_files.proofs.Results.{list_made, list_for_wants}
use Rattle.several_files.proofs.listing.list_for.Goals as goal

pub returns-in_err-names : goal.returns-in_err-names
returns-in_err-names g c =
    let is : c.from_residual.result ≡ Err Refusal.Memory = search rules in
    list_for_wants (checks_as c.args.checks.now) (moment_of g.F.Files.content g.F.Files.faults g.F.Files.misses c.args.files.now) (moment_of g.F.Files.content g.F.Files.faults g.F.Files.misses c.args.files.now) c.from_residual.result is

pub returns-then-not-has_found : goal.returns-then-not-has_found
returns-then-not-has_found g c =
    let none : spec.has_found (map file_as c.args.checks.now.files.items) ≡ false = search rules in
    let names : map (λ (name : Bor (List ℕ)). name.now) c.in_ok-names.names.items ≡ map (λ file. file.name) (map file_as c.args.checks.now.files.items) =
    c.in_ok-names.ensures ∙ ap (map (λ (file : AskedFile). string_bytes file.name)) c.as_slice-asked.ensures.value ∙ names_as c.args.checks.now.files.items in
    list_made (checks_as c.args.checks.now) (moment_of g.F.Files.content g.F.Files.faults g.F.Files.misses c.args.files.now) (moment_of g.F.Files.content g.F.Files.faults g.F.Files.misses c.args.files.now) (map (λ (name : Bor (List ℕ)). name.now) c.in_ok-names.names.items) c.list_of.result
    (all_names none refl names) (subst (λ (ns : List (Bor (List ℕ))). IsListOr (map (λ (name : Bor (List ℕ)). name.now) ns) c.list_of.result) c.as_slice.ensures.value c.list_of.ensures)

pub returns-in_err-names-2 : goal.returns-in_err-names-2
returns-in_err-names-2 g c =
    let is : c.from_residual-in_err-names-2.result ≡ Err Refusal.Memory = search rules in
    list_for_wants (checks_as c.args.checks.now) (moment_of g.F.Files.content g.F.Files.faults g.F.Files.misses c.args.files.now) (moment_of g.F.Files.content g.F.Files.faults g.F.Files.misses c.answers_for.new.files) c.from_residual-in_err-names-2.result is

pub returns : goal.returns
returns g c =
    let some : spec.has_found (map file_as c.args.checks.now.files.items) ≡ true = search rules in
    let first = subst (λ (fs : List AskedFile). AreAnswers (map string_bytes c.as_slice-2.result.now) (moment_of g.F.Files.content g.F.Files.faults g.F.Files.misses c.args.files.now) (moment_of g.F.Files.content g.F.Files.faults g.F.Files.misses c.answers_for.new.files)
    (map file_as fs) (map answer_as c.in_ok-answers.answers.items)) c.as_slice-asked.ensures.value c.in_ok-answers.ensures.ok in
    let are = subst (λ (os : List _). AreAnswers (map string_bytes os) (moment_of g.F.Files.content g.F.Files.faults g.F.Files.misses c.args.files.now) (moment_of g.F.Files.content g.F.Files.faults g.F.Files.misses c.answers_for.new.files)
    (map file_as c.args.checks.now.files.items) (map answer_as c.in_ok-answers.answers.items)) c.as_slice-2.ensures.value first in
    let names : map (λ (name : Bor (List ℕ)). name.now) c.in_ok-names-2.names.items ≡ map (λ answer. answer.file.name) (lines.told (map answer_as c.in_ok-answers.answers.items)) =
    c.in_ok-names-2.ensures ∙ ap (λ (xs : List FileAnswer). map (λ answer. answer.file.name) (lines.told (map answer_as xs))) c.as_slice-3.ensures.value in
    list_made (checks_as c.args.checks.now) (moment_of g.F.Files.content g.F.Files.faults g.F.Files.misses c.args.files.now) (moment_of g.F.Files.content g.F.Files.faults g.F.Files.misses c.answers_for.new.files) (map (λ (name : Bor (List ℕ)). name.now) c.in_ok-names-2.names.items) c.list_of-2.result
    (told_names some (map answer_as c.in_ok-answers.answers.items) are names)
    (subst (λ (ns : List (Bor (List ℕ))). IsListOr (map (λ (name : Bor (List ℕ)). name.now) ns) c.list_of-2.result) c.as_slice-4.ensures.value c.list_of-2.ensures)
