use Rattle.std.proofs.Common.{true, false}
use Rattle.string_functions.specs.Case.{lower_of, upper_of, first_upper_of}
use Rattle.string_functions.specs.Trim.{trim_of}
use Rattle.string_functions.specs.Breaks.{breaks_of}
use Rattle.string_functions.specs.Url.{url_of, raw_url_of}
use Rattle.string_functions.specs.Slashes.{slashes_of}
use Rattle.function_laws.proofs.LawLemmas.{one_text, html_text}
use Rattle.function_laws.proofs.builtin_laws.one_text.Goals as goal

pub returns-clause-lower : goal.returns-clause-lower
returns-clause-lower c a t out h e = one_text lower_of a t out h e

pub returns-clause-upper : goal.returns-clause-upper
returns-clause-upper c a t out h e = one_text upper_of a t out h e

pub returns-clause-first : goal.returns-clause-first
returns-clause-first c a t out h e = one_text first_upper_of a t out h e

pub returns-clause-trim : goal.returns-clause-trim
returns-clause-trim c a t out h e = one_text (trim_of true true) a t out h e

pub returns-clause-left : goal.returns-clause-left
returns-clause-left c a t out h e = one_text (trim_of true false) a t out h e

pub returns-clause-right : goal.returns-clause-right
returns-clause-right c a t out h e = one_text (trim_of false true) a t out h e

pub returns-clause-breaks : goal.returns-clause-breaks
returns-clause-breaks c a t out h e = one_text breaks_of a t out h e

pub returns-clause-url : goal.returns-clause-url
returns-clause-url c a t out h e = one_text url_of a t out h e

pub returns-clause-raw_url : goal.returns-clause-raw_url
returns-clause-raw_url c a t out h e = one_text raw_url_of a t out h e

pub returns-clause-slashes : goal.returns-clause-slashes
returns-clause-slashes c a t out h e = one_text slashes_of a t out h e

pub returns-clause-html : goal.returns-clause-html
returns-clause-html c a t out h e = html_text a t out h e
