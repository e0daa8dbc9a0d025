-- `akmuzrel::nn::akm_nn_step_length` meets its contract. Written by tools/surface. Assumes nothing.
use Rattle.codes.proofs.Laws.{exported}
use Rattle.akmuzrel.proofs.nn.akm_nn_step_length.Goals as goal

pub returns : goal.returns
returns c = search exported
