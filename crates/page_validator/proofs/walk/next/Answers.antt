use Rattle.std.proofs.Common.{ℕ, List, sym, ◌∙◌, ap, subst}
use Rattle.std.specs.Prelude.{Option}
use Rattle.dtd_model.specs.TableOf.{table_of}
use Rattle.page_rules.specs.Views.{piece_of, place_of, seen_piece}
use Rattle.page_validator.specs.Views.{progress_of}
use Rattle.page_model.specs.Pieces.{Piece}
use Rattle.page_rules.specs.declared.piece_tokens.Taken.{Taken}
use Rattle.page_rules.specs.Takes.{Takes}
use Rattle.page_validator.proofs.Steps.{not_read, not_right, not_allowed, stuck_by, follows_from, stuck_from}
use Rattle.page_validator.proofs.walk.next.Goals as goal

pub returns-in_default : goal.returns-in_default
returns-in_default c =
    stuck_by (table_of c.args.indexed.now.dtd.now) c.args.contents.now (place_of c.args.place) (progress_of c.args.progress.now) c.args.cs.now
    (not_read (table_of c.args.indexed.now.dtd.now) (place_of c.args.place) c.args.cs.now (sym c.in_ok-piece.ensures ∙ ap seen_piece c.in_default.is))

pub returns-then-not-is_right : goal.returns-then-not-is_right
returns-then-not-is_right c =
    let z : Piece × List ℕ = (piece_of c.in-Some.piece, c.in-Some.behind.now) in
    stuck_by (table_of c.args.indexed.now.dtd.now) c.args.contents.now (place_of c.args.place) (progress_of c.args.progress.now) c.args.cs.now
    (not_right (table_of c.args.indexed.now.dtd.now) (place_of c.args.place) c.args.cs.now z (sym c.in_ok-piece.ensures ∙ ap seen_piece c.in-Some.is) (sym c.is_right.ensures ∙ c.if-not-is_right.true))

pub returns-in_default-2 : goal.returns-in_default-2
returns-in_default-2 c =
    let z : Piece × List ℕ = (piece_of c.in-Some.piece, c.in-Some.behind.now) in
    stuck_by (table_of c.args.indexed.now.dtd.now) c.args.contents.now (place_of c.args.place) (progress_of c.args.progress.now) c.args.cs.now
    (not_allowed (table_of c.args.indexed.now.dtd.now) (place_of c.args.place) c.args.cs.now z (sym c.in_ok-piece.ensures ∙ ap seen_piece c.in-Some.is) (subst (λ (o : Option Taken). Takes (table_of c.args.indexed.now.dtd.now) z.0 o) c.in_default-2.is c.in_ok-taken.ensures))

pub returns-then-branch : goal.returns-then-branch
returns-then-branch c =
    let z : Piece × List ℕ = (piece_of c.in-Some.piece, c.in-Some.behind.now) in
    follows_from (table_of c.args.indexed.now.dtd.now) c.args.contents.now (place_of c.args.place) (place_of c.after.result) (progress_of c.args.progress.now) (progress_of c.take.new.progress) c.args.cs.now z c.in-Some-2.taken c.in_ok-take.field-0
    (sym c.in_ok-piece.ensures ∙ ap seen_piece c.in-Some.is) (sym c.is_right.ensures ∙ c.if-not-is_right.false) (subst (λ (o : Option Taken). Takes (table_of c.args.indexed.now.dtd.now) z.0 o) c.in-Some-2.is c.in_ok-taken.ensures)
    c.in_ok-take.ensures c.if-branch.true c.after.ensures

pub returns : goal.returns
returns c =
    let z : Piece × List ℕ = (piece_of c.in-Some.piece, c.in-Some.behind.now) in
    stuck_from (table_of c.args.indexed.now.dtd.now) c.args.contents.now (place_of c.args.place) (progress_of c.args.progress.now) (progress_of c.take.new.progress) c.args.cs.now z c.in-Some-2.taken c.in_ok-take.field-0
    (sym c.in_ok-piece.ensures ∙ ap seen_piece c.in-Some.is) (sym c.is_right.ensures ∙ c.if-not-is_right.false) (subst (λ (o : Option Taken). Takes (table_of c.args.indexed.now.dtd.now) z.0 o) c.in-Some-2.is c.in_ok-taken.ensures)
    c.in_ok-take.ensures c.if-branch.false
