-- What `soc_blocks::dense_hs` keeps true in its loop. Assumes nothing.
use Rattle.vecmath.proofs.Loops.{length, ◌⊗◌}
use Rattle.soc_blocks.specs.Block.{dense_entry}
use Rattle.soc_blocks.proofs.Columns.{Laid}
use Rattle.soc_blocks.proofs.dense_hs.Given as goal

abbrev pub invariant-loop-col : goal.invariant-loop-col
invariant-loop-col l = Laid (λ row col. l.eta2 ⊗ dense_entry l.w row col) (length l.w) l.initial.hs l.at l.col l.hs
