-- `soc_offset::soc_ds_from_dz_offset` meets its contract. Assumes nothing.
use Rattle.answers.proofs.Laws.{fit}
use Rattle.soc_offset.proofs.soc_ds_from_dz_offset.Goals as goal

pub ds_from_dz_offset-requires : goal.ds_from_dz_offset-requires
ds_from_dz_offset-requires c = fit _ _ _ c.in_ok-check.ensures
