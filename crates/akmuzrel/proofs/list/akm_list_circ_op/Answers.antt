-- `akmuzrel::list::akm_list_circ_op` meets its contract. Written by tools/surface. Assumes nothing.
use Rattle.codes.proofs.Laws.{exported}
use Rattle.akmuzrel.proofs.list.akm_list_circ_op.Goals as goal

pub returns : goal.returns
returns c = rw (← c.place_of-p.ensures) (search exported)
