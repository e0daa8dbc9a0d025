-- `akmuzrel::list::akm_list_mul_hs` meets its contract. Written by tools/surface. Assumes nothing.
use Rattle.codes.proofs.Laws.{exported}
use Rattle.akmuzrel.proofs.list.akm_list_mul_hs.Goals as goal

pub returns : goal.returns
returns c = rw (← c.place_of-p.ensures) (search exported)
