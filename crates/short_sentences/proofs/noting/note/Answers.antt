use Rattle.std.proofs.Common.{◌≡◌, Bool, if◌then◌else◌, List, [], ◌∷◌, ◌++◌, length, refl, ap, subst, arith, Some, slice_get}
use Rattle.std.proofs.lemmas.Option.{slice_get_read, slice_get_within}
use Rattle.summary_decision.specs.declared.table.Entry.{Entry}
use Rattle.short_sentences.specs.Notes.{Notes}
use Rattle.short_sentences.proofs.NoteLemmas.{note_new}
use Rattle.short_sentences.proofs.noting.note.Goals as goal

pub returns-then-is_new-clause-notes : goal.returns-then-is_new-clause-notes
returns-then-is_new-clause-notes g c =
    let old = c.args.table.now in
    let n = c.in_ok-place.ensures in
    let keys : c.number.new.keys.keys ≡ old.found.keys ++ c.args.entry ∷ [] = subst (λ (b : Bool). c.number.new.keys.keys ≡ (if b then old.found.keys ++ c.args.entry ∷ [] else old.found.keys)) c.if-is_new.true n.keys in
    note_new c.args.entry c.args.draft old.found.keys c.number.new.keys.keys old.drafts.items c.push.new.self.items old.queue c.put.new.self c.in_ok-place.place keys n.number c.count-count.ensures.different c.in_ok-push.ensures.items c.in_ok-put.ensures

pub index-requires : goal.index-requires
index-requires g c =
    let old = c.args.table.now in
    let n = c.in_ok-place.ensures in
    let keys : c.number.new.keys.keys ≡ old.found.keys = subst (λ (b : Bool). c.number.new.keys.keys ≡ (if b then old.found.keys ++ c.args.entry ∷ [] else old.found.keys)) c.if-is_new.false n.keys in
    let w = slice_get_within c.number.new.keys.keys c.in_ok-place.place c.args.entry n.number in
    omega (arith, w, ap length keys, c.requires, old.drafts.ok.0)

pub returns-then-index-draft-clause-notes : goal.returns-then-index-draft-clause-notes
returns-then-index-draft-clause-notes g c =
    let old = c.args.table.now in
    let n = c.in_ok-place.ensures in
    let keys : c.number.new.keys.keys ≡ old.found.keys = subst (λ (b : Bool). c.number.new.keys.keys ≡ (if b then old.found.keys ++ c.args.entry ∷ [] else old.found.keys)) c.if-is_new.false n.keys in
    let at = subst (λ (es : List Entry). slice_get es c.in_ok-place.place ≡ Some c.args.entry) keys n.number in
    let w = slice_get_within old.found.keys c.in_ok-place.place c.args.entry at in
    Notes.is_longer c.in_ok-place.place c.index.result.now at
    (slice_get_read old.drafts.items (length old.drafts.items) c.in_ok-place.place c.index.result.now refl (omega (arith, w, c.requires)) c.index.ensures) (omega (arith, c.if-index-draft.true)) keys refl refl

pub index_mut-requires : goal.index_mut-requires
index_mut-requires g c =
    let old = c.args.table.now in
    let n = c.in_ok-place.ensures in
    let keys : c.number.new.keys.keys ≡ old.found.keys = subst (λ (b : Bool). c.number.new.keys.keys ≡ (if b then old.found.keys ++ c.args.entry ∷ [] else old.found.keys)) c.if-is_new.false n.keys in
    let w = slice_get_within c.number.new.keys.keys c.in_ok-place.place c.args.entry n.number in
    omega (arith, w, ap length keys, c.requires, old.drafts.ok.0)

pub returns-clause-notes : goal.returns-clause-notes
returns-clause-notes g c =
    let old = c.args.table.now in
    let n = c.in_ok-place.ensures in
    let keys : c.number.new.keys.keys ≡ old.found.keys = subst (λ (b : Bool). c.number.new.keys.keys ≡ (if b then old.found.keys ++ c.args.entry ∷ [] else old.found.keys)) c.if-is_new.false n.keys in
    let at = subst (λ (es : List Entry). slice_get es c.in_ok-place.place ≡ Some c.args.entry) keys n.number in
    let w = slice_get_within old.found.keys c.in_ok-place.place c.args.entry at in
    Notes.is_shorter c.in_ok-place.place c.index.result.now at
    (slice_get_read old.drafts.items (length old.drafts.items) c.in_ok-place.place c.index.result.now refl (omega (arith, w, c.requires)) c.index.ensures) (omega (arith, c.if-index-draft.false)) keys refl c.in_ok-put-2.ensures
