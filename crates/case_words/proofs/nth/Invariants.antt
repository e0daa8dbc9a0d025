-- What `case_words::nth` keeps true in its loop. Assumes nothing.
use Rattle.std.specs.Prelude.{Ok}
use Rattle.vecmath.proofs.Loops.{Folded}
use Rattle.case_words.specs.Words.{uncut, behind}
use Rattle.case_words.proofs.nth.Given as goal

abbrev pub invariant-loop : goal.invariant-loop
invariant-loop l = Folded l.k (Ok uncut) (λ n had. behind l.words had) l.counter (Ok l.cut)
