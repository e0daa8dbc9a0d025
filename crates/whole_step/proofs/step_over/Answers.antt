-- `whole_step::step_over` meets its contract. Assumes nothing.
use Rattle.conelist.proofs.Placed.{lent}
use Rattle.whole_step.specs.Walk.{step_over}
use Rattle.whole_step.proofs.Walked.{lent_fit, sides}
use Rattle.whole_step.proofs.step_over.Goals as goal

pub kind_step_length-own-requires : goal.kind_step_length-own-requires
kind_step_length-own-requires c = lent_fit _ _ c.dim.ensures c.in_ok-check_record.ensures _ _ _ _ c.if-dz-end.false

pub returns-clause-goes_on : goal.returns-clause-goes_on
unfolding step_over
returns-clause-goes_on c =
    let own = sides (simp (lent c.dim.ensures) at c.kind_step_length-own.ensures) in
    rw (c.least-2.ensures, c.least.ensures, own.0, own.1, ← c.dim.ensures, c.if-dz-end.false)
