-- `extrema::least` meets its contract: each return by the tests that led there. Assumes nothing.
use Rattle.extrema.proofs.Laws.{least_coded}
use Rattle.extrema.proofs.least.Goals as goal

pub returns-then-a : goal.returns-then-a
returns-then-a c = rw (least_coded, c.if-a.true)

pub returns-then-b-a : goal.returns-then-b-a
returns-then-b-a c = rw (least_coded, c.if-a.false, c.if-b-a.true)

pub returns-else-b-a : goal.returns-else-b-a
returns-else-b-a c = rw (least_coded, c.if-a.false, c.if-b-a.false)
