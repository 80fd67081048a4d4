-- `calendar::local_date` meets its contract: no number is too large or negative, and the date that it works out is the walk's. Assumes nothing.
use borrow.Author.Rules.{rules}
use Rattle.calendar.proofs.Worked.{worked}
use Rattle.calendar.proofs.local_date.Goals as goal

pub returns : goal.returns
returns c = worked c.args.n (search rules)
