use Rattle.std.proofs.Common.{◌≡◌, ◌∙◌, [], Err, refl, sym, ap, subst}
use Rattle.std.proofs.lemmas.Result.{err_from_is_err_and}
use Rattle.io_edge.proofs.Staying.{stays_same, stays_on}
use Rattle.dtd_texts.specs.Reading.{Reads, start}
use Rattle.dtd_texts.specs.Spells.{seen_from}
use Rattle.dtd_reader.specs.Source.{SourceCall, source_call, IsCalm}
use Rattle.dtd_reader.specs.Causes.{IsWithinLimits, IsTextCause}
use Rattle.dtd_reader.specs.Answers.{IsTextAnswer}
use Rattle.dtd_reader.specs.Views.{position_of, Told, OutcomeCounts}
use Rattle.dtd_reader.specs.declared.refusal.DtdRefusal.TheVariants.{Outside, LeftOut, Entity, Memory}
use Rattle.dtd_reader.proofs.Steps.{same_call, broke, omitted, over}
use Rattle.dtd_reader.proofs.reading.read_from.Goals as goal

pub returns-in-Ends-clause-answer : goal.returns-in-Ends-clause-answer
returns-in-Ends-clause-answer g c =
    let at = c.steps in
    let call : SourceCall = source_call (g.F.Files.content c.advance.new.files) (g.F.Files.faults at.files) (g.F.Files.faults c.advance.new.files) (g.F.Files.misses at.files) (g.F.Files.misses c.advance.new.files) in
    let so_far = at.invariant.0 call.content c.in_ok-advance.ensures.stays in
    let told = subst (λ o. Told c.args.origin.root.now c.args.origin.name.now call.content c.args.text o (position_of at.reader) (position_of c.advance.new.self)) c.in-Ends.is (c.in_ok-advance.ensures.told call.content c.args.text (stays_same _ _ refl) so_far) in
    let counts = subst (λ o. OutcomeCounts call o) c.in-Ends.is c.in_ok-advance.ensures.counted in
    let reads = subst (λ s. Reads (seen_from c.args.origin.root.now c.args.origin.name.now call.content) [] start c.args.text s) (sym told.1) told.0 in
    let within = c.is_within_limits.ensures.within c.steps-test.true in
    let old_limits : IsWithinLimits (position_of at.reader).state = record { short = within.0; few = within.1 } in
    let limits = subst IsWithinLimits (sym told.1) old_limits in
    same_call (λ x. IsTextAnswer x c.args.origin.root.now c.args.origin.name.now c.args.text c.ended.result) call.content _ _ call.faults' _ _ call.misses' at.invariant.2 at.invariant.3 (c.ended.ensures call c.args.origin.root.now c.args.origin.name.now c.args.text reads limits counts)

pub returns-in-Breaks-clause-answer : goal.returns-in-Breaks-clause-answer
returns-in-Breaks-clause-answer g c =
    let at = c.steps in
    let call : SourceCall = source_call (g.F.Files.content c.advance.new.files) (g.F.Files.faults at.files) (g.F.Files.faults c.advance.new.files) (g.F.Files.misses at.files) (g.F.Files.misses c.advance.new.files) in
    let so_far = at.invariant.0 call.content c.in_ok-advance.ensures.stays in
    let told = subst (λ o. Told c.args.origin.root.now c.args.origin.name.now call.content c.args.text o (position_of at.reader) (position_of c.advance.new.self)) c.in-Breaks.is (c.in_ok-advance.ensures.told call.content c.args.text (stays_same _ _ refl) so_far) in
    let counts = subst (λ o. OutcomeCounts call o) c.in-Breaks.is c.in_ok-advance.ensures.counted in
    let broken = broke call c.args.origin.root.now c.args.origin.name.now c.args.text (position_of at.reader) (position_of c.advance.new.self) so_far told in
    same_call (λ x. IsTextCause x c.args.origin.root.now c.args.origin.name.now c.args.text c.first_fault.result) call.content _ _ call.faults' _ _ call.misses' at.invariant.2 at.invariant.3
    (c.first_fault.ensures call c.args.origin.root.now c.args.origin.name.now c.args.text broken.0 broken.1 counts)

pub returns-in-Omits-clause-answer : goal.returns-in-Omits-clause-answer
returns-in-Omits-clause-answer g c =
    let at = c.steps in
    let call : SourceCall = source_call (g.F.Files.content c.advance.new.files) (g.F.Files.faults at.files) (g.F.Files.faults c.advance.new.files) (g.F.Files.misses at.files) (g.F.Files.misses c.advance.new.files) in
    let so_far = at.invariant.0 call.content c.in_ok-advance.ensures.stays in
    let told = subst (λ o. Told c.args.origin.root.now c.args.origin.name.now call.content c.args.text o (position_of at.reader) (position_of c.advance.new.self)) c.in-Omits.is (c.in_ok-advance.ensures.told call.content c.args.text (stays_same _ _ refl) so_far) in
    let counts = subst (λ o. OutcomeCounts call o) c.in-Omits.is c.in_ok-advance.ensures.counted in
    same_call (λ x. IsTextCause x c.args.origin.root.now c.args.origin.name.now c.args.text (LeftOut c.advance.new.self.reading.begun)) call.content _ _ call.faults' _ _ call.misses' at.invariant.2 at.invariant.3
    (omitted call c.args.origin.root.now c.args.origin.name.now c.args.text (position_of at.reader) (position_of c.advance.new.self) told counts)

pub returns-in-Misses-clause-answer : goal.returns-in-Misses-clause-answer
returns-in-Misses-clause-answer g c =
    let at = c.steps in
    let call : SourceCall = source_call (g.F.Files.content c.advance.new.files) (g.F.Files.faults at.files) (g.F.Files.faults c.advance.new.files) (g.F.Files.misses at.files) (g.F.Files.misses c.advance.new.files) in
    let so_far = at.invariant.0 call.content c.in_ok-advance.ensures.stays in
    let told = subst (λ o. Told c.args.origin.root.now c.args.origin.name.now call.content c.args.text o (position_of at.reader) (position_of c.advance.new.self)) c.in-Misses.is (c.in_ok-advance.ensures.told call.content c.args.text (stays_same _ _ refl) so_far) in
    let counts = subst (λ o. OutcomeCounts call o) c.in-Misses.is c.in_ok-advance.ensures.counted in
    same_call (λ x. IsTextCause x c.args.origin.root.now c.args.origin.name.now c.args.text (Entity c.in-Misses.name)) call.content _ _ call.faults' _ _ call.misses' at.invariant.2 at.invariant.3 (told, counts)

pub returns-in-Unread-clause-answer : goal.returns-in-Unread-clause-answer
returns-in-Unread-clause-answer g c =
    let at = c.steps in
    let call : SourceCall = source_call (g.F.Files.content c.advance.new.files) (g.F.Files.faults at.files) (g.F.Files.faults c.advance.new.files) (g.F.Files.misses at.files) (g.F.Files.misses c.advance.new.files) in
    let so_far = at.invariant.0 call.content c.in_ok-advance.ensures.stays in
    let told = subst (λ o. Told c.args.origin.root.now c.args.origin.name.now call.content c.args.text o (position_of at.reader) (position_of c.advance.new.self)) c.in-Unread.is (c.in_ok-advance.ensures.told call.content c.args.text (stays_same _ _ refl) so_far) in
    let counts = subst (λ o. OutcomeCounts call o) c.in-Unread.is c.in_ok-advance.ensures.counted in
    same_call (λ x. IsTextCause x c.args.origin.root.now c.args.origin.name.now c.args.text c.unread.result) call.content _ _ call.faults' _ _ call.misses' at.invariant.2 at.invariant.3 (c.unread.ensures.asked call c.args.origin.root.now c.args.origin.name.now c.args.text told counts)

pub returns-in-LeadsOut-clause-answer : goal.returns-in-LeadsOut-clause-answer
returns-in-LeadsOut-clause-answer g c =
    let at = c.steps in
    let call : SourceCall = source_call (g.F.Files.content c.advance.new.files) (g.F.Files.faults at.files) (g.F.Files.faults c.advance.new.files) (g.F.Files.misses at.files) (g.F.Files.misses c.advance.new.files) in
    let so_far = at.invariant.0 call.content c.in_ok-advance.ensures.stays in
    let told = subst (λ o. Told c.args.origin.root.now c.args.origin.name.now call.content c.args.text o (position_of at.reader) (position_of c.advance.new.self)) c.in-LeadsOut.is (c.in_ok-advance.ensures.told call.content c.args.text (stays_same _ _ refl) so_far) in
    let counts = subst (λ o. OutcomeCounts call o) c.in-LeadsOut.is c.in_ok-advance.ensures.counted in
    same_call (λ x. IsTextCause x c.args.origin.root.now c.args.origin.name.now c.args.text (Outside c.in-LeadsOut.name)) call.content _ _ call.faults' _ _ call.misses' at.invariant.2 at.invariant.3 (told, counts)

pub returns-clause-answer : goal.returns-clause-answer
returns-clause-answer g c =
    let at = c.steps in
    let many = c.most.ensures (c.is_within_limits.ensures.over c.steps-test.false) in
    (over (seen_from c.args.origin.root.now c.args.origin.name.now (g.F.Files.content at.files)) c.args.text (position_of at.reader) c.most.result (at.invariant.0 _ (stays_same _ _ refl)) many.0 many.1, (at.invariant.2, at.invariant.3))

pub steps-preserved : goal.steps-preserved
steps-preserved g c =
    let at = c.steps in
    let call : SourceCall = source_call (g.F.Files.content c.advance.new.files) (g.F.Files.faults at.files) (g.F.Files.faults c.advance.new.files) (g.F.Files.misses at.files) (g.F.Files.misses c.advance.new.files) in
    let counts = subst (λ o. OutcomeCounts call o) c.in-Goes.is c.in_ok-advance.ensures.counted in (
      (λ content later. subst (λ o. Told c.args.origin.root.now c.args.origin.name.now content c.args.text o (position_of at.reader) (position_of c.advance.new.self)) c.in-Goes.is
          (c.in_ok-advance.ensures.told content c.args.text later (at.invariant.0 content (stays_on _ _ _ c.in_ok-advance.ensures.stays later)))),
      stays_on _ _ _ at.invariant.1 c.in_ok-advance.ensures.stays,
      counts.0 ∙ at.invariant.2,
      counts.1 ∙ at.invariant.3,
    )

pub returns-in-Breaks-clause-stays : goal.returns-in-Breaks-clause-stays
returns-in-Breaks-clause-stays g c = stays_on _ _ _ c.steps.invariant.1 c.in_ok-advance.ensures.stays

pub returns-in-Omits-clause-stays : goal.returns-in-Omits-clause-stays
returns-in-Omits-clause-stays g c = stays_on _ _ _ c.steps.invariant.1 c.in_ok-advance.ensures.stays

pub returns-in-Misses-clause-stays : goal.returns-in-Misses-clause-stays
returns-in-Misses-clause-stays g c = stays_on _ _ _ c.steps.invariant.1 c.in_ok-advance.ensures.stays

pub returns-in-Unread-clause-stays : goal.returns-in-Unread-clause-stays
returns-in-Unread-clause-stays g c = stays_on _ _ _ c.steps.invariant.1 c.in_ok-advance.ensures.stays

pub returns-in-LeadsOut-clause-stays : goal.returns-in-LeadsOut-clause-stays
returns-in-LeadsOut-clause-stays g c = stays_on _ _ _ c.steps.invariant.1 c.in_ok-advance.ensures.stays

pub returns-in_err-advance-clause-answer : goal.returns-in_err-advance-clause-answer
returns-in_err-advance-clause-answer g c =
    let at = c.steps in
    let call : SourceCall = source_call (g.F.Files.content c.advance.new.files) (g.F.Files.faults at.files) (g.F.Files.faults c.advance.new.files) (g.F.Files.misses at.files) (g.F.Files.misses c.advance.new.files) in
    let whole : SourceCall = source_call call.content (g.F.Files.faults c.args.files.now) call.faults' (g.F.Files.misses c.args.files.now) call.misses' in
    let gone = err_from_is_err_and c.from_residual-in_err-advance.result c.from_residual-in_err-advance.ensures.1 in
    let is : c.from_residual-in_err-advance.result ≡ Err Memory = gone.1 ∙ ap Err gone.2 in
    let calm : IsCalm call = c.in_err-advance.ensures.counted in
    subst (IsTextAnswer whole c.args.origin.root.now c.args.origin.name.now c.args.text) (sym is) (calm.0 ∙ at.invariant.2, calm.1 ∙ at.invariant.3)
