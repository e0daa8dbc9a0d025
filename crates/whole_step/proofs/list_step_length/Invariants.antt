-- What `whole_step::list_step_length` keeps true over its records: what is left of the walk comes to the list step, and the walk stands behind so many
-- of them. Assumes nothing.
use Rattle.std.proofs.Common.{◌≡◌}
use Rattle.answers.specs.Outcome.{gives}
use Rattle.walks.proofs.Law.{rest}
use Rattle.whole_step.specs.List.{list_step_length}
use Rattle.whole_step.specs.Walk.{step_further, step_closing}
use Rattle.whole_step.proofs.Walked.{Behind}
use Rattle.whole_step.proofs.list_step_length.Given as goal

abbrev pub invariant-loop-record : goal.invariant-loop-record
invariant-loop-record g l =
    let cs = g.R.Record.cones l.list in
    (step_closing (rest (λ w c. step_further w c l.dz l.ds l.z l.s l.limit) cs l.record-index (gives l.walk)) l.dz l.ds l.z l.s l.limit
    ≡ list_step_length cs l.dz l.ds l.z l.s l.limit)
    × Behind cs l.dz l.ds l.z l.s l.limit l.record-index l.walk
