-- `akmuzrel::nn::akm_nn_set_identity_scaling` meets its contract. Written by tools/surface. Assumes nothing.
use Rattle.codes.proofs.Laws.{exported}
use Rattle.akmuzrel.proofs.nn.akm_nn_set_identity_scaling.Goals as goal

pub returns : goal.returns
returns c = search exported
