use Rattle.std.proofs.Common.{rules, ◌≡◌, ◌∙◌, List, ℕ, map, refl, sym, ap, subst}
use Rattle.std.specs.Prelude.{Err, string_bytes}
use Rattle.io_edge.specs.MemSink.{sink_bytes, sink_faults}
use Rattle.phpsa_texts.specs.declared.message.Refusal.{Refusal}
use Rattle.several_files.specs.Lines.{text_of}
use Rattle.several_files.specs.Calls.{call_words, IsCalled}
use Rattle.several_files.specs.Endings.{moment_of}
use Rattle.several_files.specs.Views.{file_as}
use Rattle.several_files.proofs.Calling.{answers, called, called_between, ends, same_moment, wants}
use Rattle.several_files.proofs.calls.answer_for.Goals as goal

pub returns-in_err-words : goal.returns-in_err-words
returns-in_err-words g c =
    let is : c.from_residual.result ≡ Err Refusal.Memory = search rules in
    wants (map string_bytes c.args.options.now) (moment_of g.F.Files.content g.F.Files.faults g.F.Files.misses c.args.files.now) (moment_of g.F.Files.content g.F.Files.faults g.F.Files.misses c.args.files.now) (file_as c.args.file.now) c.from_residual.result is

pub returns-in_err-copy : goal.returns-in_err-copy
returns-in_err-copy g c =
    let is : c.from_residual-in_err-copy.result ≡ Err Refusal.Memory = search rules in
    wants (map string_bytes c.args.options.now) (moment_of g.F.Files.content g.F.Files.faults g.F.Files.misses c.args.files.now) (moment_of g.F.Files.content g.F.Files.faults g.F.Files.misses c.args.files.now) (file_as c.args.file.now) c.from_residual-in_err-copy.result is

pub returns-then-ends_all : goal.returns-then-ends_all
returns-then-ends_all g c =
    let is = called (map string_bytes c.args.options.now) (string_bytes c.args.file.now.name) (moment_of g.F.Files.content g.F.Files.faults g.F.Files.misses c.take_included.new.self) (moment_of g.F.Files.content g.F.Files.faults g.F.Files.misses c.phpsa-status.new.files)
    c.phpsa-status.result (sink_bytes c.phpsa-status.new.out) (sink_bytes c.phpsa-status.new.err) (sink_faults c.phpsa-status.new.out) (sink_faults c.phpsa-status.new.err)
    (map string_bytes c.in_ok-words.words.items) (sink_bytes c.new-out.result) (sink_bytes c.new-err.result) (sink_faults c.new-out.result) (sink_faults c.new-err.result)
    (c.in_ok-words.ensures ∙ ap (call_words (map string_bytes c.args.options.now)) c.as_str.ensures.value) c.new-out.ensures.bytes c.new-err.ensures.bytes
    c.new-out.ensures.faults c.new-err.ensures.faults c.phpsa-status.ensures in
    let from = same_moment _ g.F.Files.content g.F.Files.faults g.F.Files.misses c.args.files.now c.take_included.new.self c.take_included.ensures.inner c.take_included.ensures.list c.take_included.ensures.reads in
    let was = called_between (map string_bytes c.args.options.now) (string_bytes c.args.file.now.name) (moment_of g.F.Files.content g.F.Files.faults g.F.Files.misses c.take_included.new.self) (moment_of g.F.Files.content g.F.Files.faults g.F.Files.misses c.args.files.now)
    (moment_of g.F.Files.content g.F.Files.faults g.F.Files.misses c.phpsa-status.new.files) (moment_of g.F.Files.content g.F.Files.faults g.F.Files.misses c.phpsa-status.new.files) c.phpsa-status.result (sink_bytes c.phpsa-status.new.out) (sink_bytes c.phpsa-status.new.err) from refl is in
    ends (map string_bytes c.args.options.now) (moment_of g.F.Files.content g.F.Files.faults g.F.Files.misses c.args.files.now) (moment_of g.F.Files.content g.F.Files.faults g.F.Files.misses c.phpsa-status.new.files) (file_as c.args.file.now) c.phpsa-status.result
    (sink_bytes c.phpsa-status.new.out) c.written.result.now c.ended.result
    (subst (λ (text : List ℕ). IsCalled (map string_bytes c.args.options.now) (moment_of g.F.Files.content g.F.Files.faults g.F.Files.misses c.args.files.now) (moment_of g.F.Files.content g.F.Files.faults g.F.Files.misses c.phpsa-status.new.files) (string_bytes c.args.file.now.name)
    c.phpsa-status.result (sink_bytes c.phpsa-status.new.out) text) (sym c.written.ensures) was) (sym c.ends_all.ensures ∙ c.if-ends_all.true) c.ended.ensures

pub returns-in_err-text : goal.returns-in_err-text
returns-in_err-text g c =
    let is : c.from_residual-in_err-text.result ≡ Err Refusal.Memory = search rules in
    wants (map string_bytes c.args.options.now) (moment_of g.F.Files.content g.F.Files.faults g.F.Files.misses c.args.files.now) (moment_of g.F.Files.content g.F.Files.faults g.F.Files.misses c.phpsa-status.new.files) (file_as c.args.file.now) c.from_residual-in_err-text.result is

pub returns : goal.returns
returns g c =
    let is = called (map string_bytes c.args.options.now) (string_bytes c.args.file.now.name) (moment_of g.F.Files.content g.F.Files.faults g.F.Files.misses c.take_included.new.self) (moment_of g.F.Files.content g.F.Files.faults g.F.Files.misses c.phpsa-status.new.files)
    c.phpsa-status.result (sink_bytes c.phpsa-status.new.out) (sink_bytes c.phpsa-status.new.err) (sink_faults c.phpsa-status.new.out) (sink_faults c.phpsa-status.new.err)
    (map string_bytes c.in_ok-words.words.items) (sink_bytes c.new-out.result) (sink_bytes c.new-err.result) (sink_faults c.new-out.result) (sink_faults c.new-err.result)
    (c.in_ok-words.ensures ∙ ap (call_words (map string_bytes c.args.options.now)) c.as_str.ensures.value) c.new-out.ensures.bytes c.new-err.ensures.bytes
    c.new-out.ensures.faults c.new-err.ensures.faults c.phpsa-status.ensures in
    let from = same_moment _ g.F.Files.content g.F.Files.faults g.F.Files.misses c.args.files.now c.take_included.new.self c.take_included.ensures.inner c.take_included.ensures.list c.take_included.ensures.reads in
    let to = same_moment _ g.F.Files.content g.F.Files.faults g.F.Files.misses c.phpsa-status.new.files c.take_included-2.new.self c.take_included-2.ensures.inner
    c.take_included-2.ensures.list c.take_included-2.ensures.reads in
    let was = called_between (map string_bytes c.args.options.now) (string_bytes c.args.file.now.name) (moment_of g.F.Files.content g.F.Files.faults g.F.Files.misses c.take_included.new.self) (moment_of g.F.Files.content g.F.Files.faults g.F.Files.misses c.args.files.now)
    (moment_of g.F.Files.content g.F.Files.faults g.F.Files.misses c.phpsa-status.new.files) (moment_of g.F.Files.content g.F.Files.faults g.F.Files.misses c.take_included-2.new.self) c.phpsa-status.result (sink_bytes c.phpsa-status.new.out) (sink_bytes c.phpsa-status.new.err) from (sym to) is in
    answers (map string_bytes c.args.options.now) (moment_of g.F.Files.content g.F.Files.faults g.F.Files.misses c.args.files.now) (moment_of g.F.Files.content g.F.Files.faults g.F.Files.misses c.take_included-2.new.self) (file_as c.args.file.now)
    (sink_bytes c.phpsa-status.new.out) (sink_bytes c.phpsa-status.new.err) _ was (sym c.ends_all.ensures ∙ c.if-ends_all.false) c.in_ok-copy.ensures
    (c.in_ok-text.ensures ∙ ap (λ (o : List ℕ). text_of c.phpsa-status.result o c.written-3.result.now) c.written-2.ensures
    ∙ ap (λ (e : List ℕ). text_of c.phpsa-status.result (sink_bytes c.phpsa-status.new.out) e) c.written-3.ensures)
