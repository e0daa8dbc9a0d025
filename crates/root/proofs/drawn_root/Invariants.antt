-- What `root::drawn_root` keeps true in its loop. Assumes nothing.
use Rattle.root.proofs.Whole.{Drawn}
use Rattle.root.proofs.drawn_root.Given as goal

abbrev pub invariant-loop : goal.invariant-loop
invariant-loop l = Drawn l.a l.to_come l.s l.r l.counter
