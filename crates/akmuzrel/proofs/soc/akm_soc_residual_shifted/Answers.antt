-- `akmuzrel::soc::akm_soc_residual_shifted` meets its contract. Written by tools/surface. Assumes nothing.
use Rattle.codes.proofs.Laws.{exported}
use Rattle.akmuzrel.proofs.soc.akm_soc_residual_shifted.Goals as goal

pub returns : goal.returns
returns c = search exported
