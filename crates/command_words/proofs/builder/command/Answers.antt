use Rattle.std.proofs.Common.{◌∙◌, ap, ap₂, sym, fold, map}
use Rattle.std.proofs.lemmas.Result.{IfOk-weaker}
use Rattle.std.proofs.lemmas.List.Sums.{fold-append}
use Rattle.clap.specs.Words.{App, with_rule}
use Rattle.clap.specs.declared.builder.action.ArgAction.TheVariants.{Set, SetTrue}
use Rattle.command_words.specs.Program.{named}
use Rattle.command_words.specs.RowViews.{row_as}
use Rattle.command_words.proofs.builder.command.Goals as goal

pub returns : goal.returns
returns c =
    let row = row_as c.args.row in
    let bare = c.in_ok-bare.ensures.shape c.place.ensures.local ∙ ap₂ with_rule c.new.ensures.app c.place.ensures.rule in
    let some = c.in_ok-some.ensures.app ∙ ap (λ (a : App). fold with_rule a (map (named Set) row.options)) bare in
    record {
      app = IfOk-weaker c.with_named-2.result _ _
          (λ m h. h ∙ ap (λ (a : App). fold with_rule a (map (named SetTrue) row.flags)) some ∙ sym (fold-append with_rule _ (map (named Set) row.options) (map (named SetTrue) row.flags)))
          c.with_named-2.ensures.app;
    }
