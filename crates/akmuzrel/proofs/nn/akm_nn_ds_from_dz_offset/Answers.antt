-- `akmuzrel::nn::akm_nn_ds_from_dz_offset` meets its contract. Written by tools/surface. Assumes nothing.
use Rattle.codes.proofs.Laws.{exported}
use Rattle.akmuzrel.proofs.nn.akm_nn_ds_from_dz_offset.Goals as goal

pub returns : goal.returns
returns c = search exported
