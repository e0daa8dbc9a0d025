-- What `soc_offset::add_offset` keeps true in its loop. Assumes nothing.
use Rattle.vecmath.proofs.Loops.{Filled, nan, ◌⊕◌, ◌⊗◌, ◌!◌}
use Rattle.soc_offset.proofs.add_offset.Given as goal

abbrev pub invariant-loop-i : goal.invariant-loop-i
invariant-loop-i l = Filled nan (λ k v. v ⊕ l.eta ⊗ (l.ds ! k ⊕ l.kappa ⊗ l.w ! k)) l.initial.out l.i l.out
