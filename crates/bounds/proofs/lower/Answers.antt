-- `bounds::lower` meets its contract. Assumes nothing.
use Rattle.extrema.proofs.Laws.{least_number}
use Rattle.bounds.proofs.lower.Goals as goal

pub returns-then-x-m-clause-value : goal.returns-then-x-m-clause-value
returns-then-x-m-clause-value c = (least_number _ _ _ c.requires (rw c.if-x-m.true)).0

pub returns-else-x-m-clause-value : goal.returns-else-x-m-clause-value
returns-else-x-m-clause-value c = (least_number _ _ _ c.requires (rw c.if-x-m.false)).0
