-- What `case_words::entries` keeps true in its loop. Assumes nothing.
use Rattle.std.proofs.Common.{get_or}
use Rattle.vecmath.proofs.Loops.{Filled}
use Rattle.case_words.proofs.entries.Given as goal

abbrev pub invariant-loop-i : goal.invariant-loop-i
invariant-loop-i g l = Filled (g.T.Entry.entry 0) (λ k v. g.T.Entry.entry (get_or l.words k 0)) l.initial.out l.i l.out
