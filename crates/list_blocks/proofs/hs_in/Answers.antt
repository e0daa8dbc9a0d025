-- `list_blocks::hs_in` meets its contract. Assumes nothing.
use Rattle.conelist.proofs.Placed.{lent, back}
use Rattle.list_blocks.proofs.hs_in.Goals as goal

pub returns : goal.returns
returns c =
    let wide = c.block_dim.ensures in
    let long = c.dim.ensures in
    back wide _ _ (simp (lent long) at c.kind_hs.ensures)
