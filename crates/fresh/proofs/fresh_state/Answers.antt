-- `fresh::fresh_state` meets its contract. Assumes nothing.
use Rattle.fresh.proofs.fresh_state.Goals as goal

pub returns : goal.returns
returns c = rw (c.fill-6.ensures, c.fill-5.ensures, c.fill-4.ensures, c.fill-3.ensures, c.fill-2.ensures, c.fill.ensures)
