-- `sweeps::measured_mul_w_at` meets its contract. Assumes nothing.
use Rattle.codes.proofs.Laws.{exported}
use Rattle.sweeps.proofs.measured_mul_w_at.Goals as goal

pub returns : goal.returns
returns c = rw (← c.place-p.ensures) (search exported)
