-- `list_mul_hs::mul_hs_at` meets its contract. Written by tools/surface. Assumes nothing.
use lib.ListN.{length}
use Rattle.conecalls.proofs.Marked.{open_tested}
use Rattle.list_mul_hs.proofs.mul_hs_at.Goals as goal

pub mul_hs_in-requires : goal.mul_hs_in-requires
mul_hs_in-requires c = let a = c.args in open_tested a.p _ (length a.marks.now) a.p.count c.in_ok-check.ensures
