-- `conelist::Place::check_inside` meets its contract. Assumes nothing.
use Rattle.conelist.proofs.Placed.{spots}
use Rattle.conelist.proofs.Place.check_inside.Goals as goal

pub returns-then-least-n : goal.returns-then-least-n
returns-then-least-n c = search spots

pub returns-else-least-n : goal.returns-else-least-n
returns-else-least-n c = search spots
