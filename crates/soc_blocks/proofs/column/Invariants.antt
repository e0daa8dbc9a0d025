-- What `soc_blocks::column` keeps true in its loop. Assumes nothing.
use Rattle.vecmath.proofs.Loops.{Filled, nan, ◌⊗◌}
use Rattle.soc_blocks.specs.Block.{dense_entry}
use Rattle.soc_blocks.proofs.column.Given as goal

abbrev pub invariant-loop-row : goal.invariant-loop-row
invariant-loop-row l = Filled nan (λ k v. l.eta2 ⊗ dense_entry l.w k l.col) l.initial.part l.row l.part
