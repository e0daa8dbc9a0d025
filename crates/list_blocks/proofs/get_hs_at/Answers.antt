-- `list_blocks::get_hs_at` meets its contract. Assumes nothing.
use lib.ListN.{length}
use Rattle.conecalls.proofs.Marked.{open_tested}
use Rattle.list_blocks.proofs.get_hs_at.Goals as goal

pub hs_in-requires : goal.hs_in-requires
hs_in-requires c = let a = c.args in open_tested a.p _ (length a.marks.now) a.p.count c.in_ok-check.ensures
