-- `receiving::pass::note_routes` meets its contract: before route i the record is counted on the routes below it. Assumes nothing.
use Rattle.receiving.specs.Told.{Noting}
use Rattle.receiving.proofs.pass.note_routes.Given as goal

abbrev pub invariant-loop-i : goal.invariant-loop-i
invariant-loop-i l = Noting l.initial.words l.n l.words l.i
