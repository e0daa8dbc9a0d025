-- What `case_rows::records` keeps true in its loop. Assumes nothing.
use Rattle.std.proofs.Common.{◌+◌, ◌*◌, [], ◌∷◌, get_or}
use Rattle.vecmath.proofs.Loops.{Filled}
use Rattle.case_rows.proofs.records.Given as goal

abbrev pub invariant-loop-i : goal.invariant-loop-i
invariant-loop-i l =
    Filled [] (λ k v. get_or l.words (3 * k) 0 ∷ get_or l.words (3 * k + 1) 0 ∷ get_or l.words (3 * k + 2) 0 ∷ []) l.initial.out l.i l.out
