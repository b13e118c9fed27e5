use Rattle.std.proofs.Common.{◌≡◌, ◌∙◌, ◌++◌, ap, map, refl, sym, List, [], ◌∷◌, Bool, true, false, not, ◌&&◌, true≢false}
use Rattle.std.specs.Prelude.{fold}
use Rattle.std.proofs.lemmas.Result.{IfOk-weaker}
use Rattle.clap.specs.Words.{App, Rule, Shape, app_of, new_app, with_rule, with_subcommand}
use Rattle.clap.specs.declared.builder.action.ArgAction.TheVariants.{Set, SetTrue}
use Rattle.command_words.specs.RowViews.{row_as}
use Rattle.command_words.specs.Program.{Row, command, place, named}
use Rattle.command_words.proofs.builder.with_command.Goals as goal

abbrev top_of : App → Shape
top_of a = a.top

no_globals : (a b g rest : Bool) → (a && (not b && (not g && rest))) ≡ true → g ≡ false
no_globals true false false rest e = refl
no_globals true false true rest e = absurd (true≢false (sym e))
no_globals true true g rest e = absurd (true≢false (sym e))
no_globals false b g rest e = absurd (true≢false (sym e))

-- no argument changes how words are read
plain_stays : (a : App) (rules : List Rule) → (fold with_rule a rules).top.is_plain ≡ a.top.is_plain
plain_stays a [] = refl
plain_stays a (rule ∷ rules) = plain_stays (with_rule a rule) rules

plain_command : (row : Row) (a : App) → a ≡ command row → a.top.is_plain ≡ true
plain_command row a e =
    ap (λ (b : App). b.top.is_plain) e ∙ plain_stays (new_app row.word) (place row.place ∷ map (named Set) row.options ++ map (named SetTrue) row.flags)

pub returns : goal.returns
returns c = record {
  app = IfOk-weaker c.subcommand.result _ _
      (λ m h. h.shape (no_globals _ _ _ _ (plain_command (row_as c.args.row) _ c.in_ok-command.ensures.app)) ∙ ap (with_subcommand (app_of c.args.program)) (ap top_of c.in_ok-command.ensures.app))
      c.subcommand.ensures;
}
