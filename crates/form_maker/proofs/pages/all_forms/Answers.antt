use Rattle.std.proofs.Common.{◌∙◌}
use Rattle.dtd_model.specs.TableOf.{table_of}
use Rattle.form_maker.specs.Making.{making_of}
use Rattle.form_maker.proofs.Keeping.{all_made}
use Rattle.form_maker.proofs.pages.all_forms.Goals as goal

pub returns : goal.returns
returns c =
    c.finish.ensures
    ∙ all_made (table_of c.args.indexed.now.dtd.now) c.as_slice-entities.result.now (making_of c.new-maker.result) c.as_slice-entities.ensures.value c.new-maker.ensures.kept c.in_ok-share.ensures c.in_ok-simple.ensures c.in_ok-elements.ensures
