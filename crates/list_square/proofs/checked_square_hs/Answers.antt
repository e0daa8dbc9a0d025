-- `list_square::checked_square_hs` meets its contract. Assumes nothing.
use lib.ListN.{length}
use Rattle.conelist.proofs.Placed.{open_of}
use Rattle.conecalls.proofs.Marked.{open_front}
use Rattle.list_square.proofs.checked_square_hs.Goals as goal

pub square_in-requires : goal.square_in-requires
square_in-requires c = let a = c.args in (open_front a.p _ (length a.marks.now) a.p.count (open_of a.p _ c.in_ok-check_spot.ensures c.in_ok-check_length.ensures)).1
