-- `soc_scaling::soc_update_scaling` meets its contract. Assumes nothing.
use Rattle.answers.proofs.Laws.{fit}
use Rattle.soc_scaling.proofs.soc_update_scaling.Goals as goal

pub update_scaling-requires : goal.update_scaling-requires
update_scaling-requires c = fit _ _ _ c.in_ok-check.ensures
