-- `akmuzrel::soc::akm_soc_ds_from_dz_offset` meets its contract. Written by tools/surface. Assumes nothing.
use Rattle.codes.proofs.Laws.{exported}
use Rattle.akmuzrel.proofs.soc.akm_soc_ds_from_dz_offset.Goals as goal

pub returns : goal.returns
returns c = search exported
