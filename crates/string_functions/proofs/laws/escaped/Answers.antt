use Rattle.string_functions.proofs.BytewiseLaws.{html_of-has_no_markup, length-html_of}
use Rattle.string_functions.proofs.laws.escaped.Goals as goal

pub returns-clause-no_markup : goal.returns-clause-no_markup
returns-clause-no_markup c = html_of-has_no_markup c.args.text.now

pub returns-clause-short : goal.returns-clause-short
returns-clause-short c = length-html_of c.args.text.now
