use Rattle.std.proofs.Common.{rules, ◌≡◌, ◌∙◌, ◌∷◌, [], map, sym, ap, subst}
use Rattle.std.specs.Prelude.{Err, IfErr, string_bytes}
use Rattle.std.proofs.lemmas.List.{map-append}
use Rattle.phpsa_texts.specs.declared.message.Refusal.{Refusal}
use Rattle.several_files.specs.Endings.{moment_of, AreRefused}
use Rattle.several_files.specs.Views.{answer_as, file_as}
use Rattle.several_files.proofs.Chains.{answered_more, refused_at, refused_by_want}
use Rattle.several_files.proofs.calls.answers_for.Goals as goal

pub returns-in_err-answer-clause-err : goal.returns-in_err-answer-clause-err
returns-in_err-answer-clause-err g c =
    let is : c.from_residual.result ≡ Err c.in_err-answer.field-0.0 = search rules in
    subst (λ (r : _). IfErr r (AreRefused (map string_bytes c.args.options.now) (moment_of g.F.Files.content g.F.Files.faults g.F.Files.misses c.args.files.now) (moment_of g.F.Files.content g.F.Files.faults g.F.Files.misses c.answer_for.new.files) (map file_as c.args.asked.now))) (sym is)
    (refused_at (map string_bytes c.args.options.now) (moment_of g.F.Files.content g.F.Files.faults g.F.Files.misses c.args.files.now) (moment_of g.F.Files.content g.F.Files.faults g.F.Files.misses c.loop-file.files) (moment_of g.F.Files.content g.F.Files.faults g.F.Files.misses c.answer_for.new.files) (map file_as c.args.asked.now)
    (file_as c.in-Some.file.now) (map file_as c.loop-file.rest.now) (map file_as c.in-Some.others.now) (map answer_as c.loop-file.answers.items) c.in_err-answer.field-0.0
    c.loop-file.invariant (ap (map file_as) c.in-Some.ensures.cases.0) c.in_err-answer.ensures)

pub returns-in_err-add_answer-clause-err : goal.returns-in_err-add_answer-clause-err
returns-in_err-add_answer-clause-err g c =
    let is : c.from_residual-in_err-add_answer.result ≡ Err Refusal.Memory = search rules in
    subst (λ (r : _). IfErr r (AreRefused (map string_bytes c.args.options.now) (moment_of g.F.Files.content g.F.Files.faults g.F.Files.misses c.args.files.now) (moment_of g.F.Files.content g.F.Files.faults g.F.Files.misses c.answer_for.new.files) (map file_as c.args.asked.now))) (sym is)
    (refused_by_want (map string_bytes c.args.options.now) (moment_of g.F.Files.content g.F.Files.faults g.F.Files.misses c.args.files.now) (moment_of g.F.Files.content g.F.Files.faults g.F.Files.misses c.answer_for.new.files) (map file_as c.args.asked.now))

pub loop-file-preserved : goal.loop-file-preserved
loop-file-preserved g c =
    answered_more (map string_bytes c.args.options.now) (moment_of g.F.Files.content g.F.Files.faults g.F.Files.misses c.args.files.now) (moment_of g.F.Files.content g.F.Files.faults g.F.Files.misses c.loop-file.files) (moment_of g.F.Files.content g.F.Files.faults g.F.Files.misses c.answer_for.new.files) (map file_as c.args.asked.now)
    (file_as c.in-Some.file.now) (map file_as c.loop-file.rest.now) (map file_as c.in-Some.others.now) (map answer_as c.loop-file.answers.items)
    (map answer_as c.add_answer.new.answers.items) (answer_as c.in_ok-answer.answer)
    c.loop-file.invariant (ap (map file_as) c.in-Some.ensures.cases.0) c.in_ok-answer.ensures
    (ap (map answer_as) c.in_ok-add_answer.ensures ∙ map-append answer_as c.loop-file.answers.items (c.in_ok-answer.answer ∷ []))
