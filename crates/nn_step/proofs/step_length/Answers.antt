-- `nn_step::step_length` meets its contract. Assumes nothing.
use Rattle.answers.proofs.Laws.{lengths_are}
use Rattle.vecmath.proofs.Loops.{loops}
use Rattle.nn_step.specs.Step.{nonneg_step}
use Rattle.nn_step.proofs.step_length.Goals as goal

pub loop-i-init : goal.loop-i-init
loop-i-init c = search loops

pub loop-i-preserved : goal.loop-i-preserved
loop-i-preserved c = rw (c.shorter-alpha_s.ensures, c.shorter-alpha_z.ensures) (search loops)

pub returns : goal.returns
unfolding nonneg_step
returns c = rw c.requires.same.0 (search (loops, lengths_are))
