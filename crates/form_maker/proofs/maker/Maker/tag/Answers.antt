use Rattle.dtd_model.specs.Table.{rule_of}
use Rattle.dtd_model.specs.TableOf.{table_of}
use Rattle.form_maker.specs.Making.{making_of}
use Rattle.form_maker.proofs.Keeping.{tag_made}
use Rattle.form_maker.proofs.maker.Maker.tag.Goals as goal

pub returns : goal.returns
returns c =
    λ h.
    tag_made c.args.closer.now (table_of c.args.indexed.now.dtd.now).entities (rule_of c.args.rule.now) c.as_slice-name.result.now (making_of c.args.self.now) c.as_slice-name.ensures h c.in_ok-word.ensures c.in_ok-word-2.ensures c.in_ok-attributes.ensures c.in_ok-blanks.ensures
    c.in_ok-word-3.ensures c.in_ok-chain.ensures c.in_ok-chain-2.ensures c.in_ok-chain-3.ensures c.in_ok-chain-4.ensures
