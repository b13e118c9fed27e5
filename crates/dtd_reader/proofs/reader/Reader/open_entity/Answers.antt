use Rattle.std.proofs.Common.{◌∙◌, ◌+◌, drop, take, refl, ap, subst, arith}
use Rattle.io_edge.proofs.Staying.{stays_same}
use Rattle.std.proofs.lemmas.List.{length-drop}
use Rattle.dtd_entities.specs.Positions.{state_of}
use Rattle.dtd_reader.specs.Views.{position_of, frames_of, IsFound}
use Rattle.dtd_reader.proofs.Opening.{IsHead, missed_there, asks_there, leads_out, goes_in}
use Rattle.dtd_reader.proofs.reader.Reader.open_entity.Goals as goal

pub returns-in-Nowhere-clause-told : goal.returns-in-Nowhere-clause-told
returns-in-Nowhere-clause-told g c = λ content file stays so_far.
    let s = state_of c.args.self.now.reading in
    let text = drop c.args.self.now.at c.args.self.now.text in
    let head : IsHead s (2 + c.args.n) text c.in_ok-name.name = record {
      name = take c.args.n (drop 1 text);
      some = omega (arith, length-drop c.args.self.now.at c.args.self.now.text, c.requires.some);
      there = c.requires.opens;
      same = c.in_ok-name.ensures ∙ c.front.ensures.value ∙ ap (take c.args.n) (c.behind-2.ensures.value ∙ ap (drop 1) (c.behind.ensures.value ∙ ap (drop c.args.self.now.at) c.as_slice.ensures));
    } in
    missed_there c.args.origin.root.now c.args.origin.name.now content file s (2 + c.args.n) text c.in_ok-name.name (frames_of c.args.self.now.frames) head
    (subst (IsFound c.args.origin.root.now c.args.origin.name.now content s (frames_of c.args.self.now.frames) c.in_ok-name.name) c.in-Nowhere.is (c.in_ok-find.ensures.found content stays)) so_far

pub returns-in-NotRead-clause-told : goal.returns-in-NotRead-clause-told
returns-in-NotRead-clause-told g c = λ content file stays so_far.
    let s = state_of c.args.self.now.reading in
    let text = drop c.args.self.now.at c.args.self.now.text in
    let head : IsHead s (2 + c.args.n) text c.in_ok-name.name = record {
      name = take c.args.n (drop 1 text);
      some = omega (arith, length-drop c.args.self.now.at c.args.self.now.text, c.requires.some);
      there = c.requires.opens;
      same = c.in_ok-name.ensures ∙ c.front.ensures.value ∙ ap (take c.args.n) (c.behind-2.ensures.value ∙ ap (drop 1) (c.behind.ensures.value ∙ ap (drop c.args.self.now.at) c.as_slice.ensures));
    } in
    asks_there c.args.origin.root.now c.args.origin.name.now content file s (2 + c.args.n) text c.in_ok-name.name c.in-NotRead.path c.in-NotRead.fault (frames_of c.args.self.now.frames) head
    (subst (IsFound c.args.origin.root.now c.args.origin.name.now content s (frames_of c.args.self.now.frames) c.in_ok-name.name) c.in-NotRead.is (c.in_ok-find.ensures.found content stays)) so_far

pub returns-in-Outside-clause-told : goal.returns-in-Outside-clause-told
returns-in-Outside-clause-told g c = λ content file stays so_far.
    let s = state_of c.args.self.now.reading in
    let text = drop c.args.self.now.at c.args.self.now.text in
    let head : IsHead s (2 + c.args.n) text c.in_ok-name.name = record {
      name = take c.args.n (drop 1 text);
      some = omega (arith, length-drop c.args.self.now.at c.args.self.now.text, c.requires.some);
      there = c.requires.opens;
      same = c.in_ok-name.ensures ∙ c.front.ensures.value ∙ ap (take c.args.n) (c.behind-2.ensures.value ∙ ap (drop 1) (c.behind.ensures.value ∙ ap (drop c.args.self.now.at) c.as_slice.ensures));
    } in
    leads_out c.args.origin.root.now c.args.origin.name.now content file s (2 + c.args.n) text c.in_ok-name.name c.in-Outside.path (frames_of c.args.self.now.frames) head
    (subst (IsFound c.args.origin.root.now c.args.origin.name.now content s (frames_of c.args.self.now.frames) c.in_ok-name.name) c.in-Outside.is (c.in_ok-find.ensures.found content stays)) so_far

pub returns-in_ok-enter-in-Text-clause-told : goal.returns-in_ok-enter-in-Text-clause-told
returns-in_ok-enter-in-Text-clause-told g c = λ content file stays so_far.
    let s = state_of c.args.self.now.reading in
    let text = drop c.args.self.now.at c.args.self.now.text in
    let head : IsHead s (2 + c.args.n) text c.in_ok-name.name = record {
      name = take c.args.n (drop 1 text);
      some = omega (arith, length-drop c.args.self.now.at c.args.self.now.text, c.requires.some);
      there = c.requires.opens;
      same = c.in_ok-name.ensures ∙ c.front.ensures.value ∙ ap (take c.args.n) (c.behind-2.ensures.value ∙ ap (drop 1) (c.behind.ensures.value ∙ ap (drop c.args.self.now.at) c.as_slice.ensures));
    } in
    goes_in c.args.origin.root.now c.args.origin.name.now content file s (2 + c.args.n) text c.in_ok-name.name c.in-Text.inner (frames_of c.args.self.now.frames) (position_of c.enter.new.self) head
    (subst (IsFound c.args.origin.root.now c.args.origin.name.now content s (frames_of c.args.self.now.frames) c.in_ok-name.name) c.in-Text.is (c.in_ok-find.ensures.found content stays)) c.in_ok-enter-in-Text.ensures so_far

pub enter-requires-clause-shut : goal.enter-requires-clause-shut
enter-requires-clause-shut g c =
    let now = g.F.Files.content c.find.new.files in
    (subst (IsFound c.args.origin.root.now c.args.origin.name.now now (state_of c.args.self.now.reading) (frames_of c.args.self.now.frames) c.in_ok-name.name) c.in-Text.is (c.in_ok-find.ensures.found now (stays_same now now refl))).0

pub enter-requires-clause-few : goal.enter-requires-clause-few
enter-requires-clause-few g c =
    let now = g.F.Files.content c.find.new.files in
    let found = subst (IsFound c.args.origin.root.now c.args.origin.name.now now (state_of c.args.self.now.reading) (frames_of c.args.self.now.frames) c.in_ok-name.name) c.in-Text.is (c.in_ok-find.ensures.found now (stays_same now now refl)) in
    (omega (arith, c.requires.few), let over = found.2 in omega (arith, over))
