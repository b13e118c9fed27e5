use Rattle.std.proofs.Common.{subst}
use Rattle.dtd_reader.specs.Source.{IsUnread}
use Rattle.dtd_reader.proofs.reading.unread.Goals as goal

pub returns-in-Missing-clause-asked : goal.returns-in-Missing-clause-asked
returns-in-Missing-clause-asked c = λ call root first file asks why. (asks, subst (IsUnread call c.args.name) c.in-Missing.is why)

pub returns-in-Failed-clause-asked : goal.returns-in-Failed-clause-asked
returns-in-Failed-clause-asked c = λ call root first file asks why. (asks, subst (IsUnread call c.args.name) c.in-Failed.is why)

pub returns-in-TooLong-clause-asked : goal.returns-in-TooLong-clause-asked
returns-in-TooLong-clause-asked c = λ call root first file asks why. (asks, subst (IsUnread call c.args.name) c.in-TooLong.is why)
