-- `case_words::nth` meets its contract. Assumes nothing.
use Rattle.std.proofs.Common.{refl, sym, ◌∙◌, arith}
use Rattle.std.proofs.lemmas.Result.{err_from_is_err_and}
use Rattle.vecmath.proofs.Loops.{loops, fold_turn}
use Rattle.case_words.specs.Words.{nth}
use Rattle.case_words.proofs.Laws.{nth_stops}
use Rattle.case_words.proofs.nth.Goals as goal

pub loop-init : goal.loop-init
loop-init c = search loops

pub returns-in_err-cut : goal.returns-in_err-cut
returns-in_err-cut c =
    let p = err_from_is_err_and c.from_residual.result c.from_residual.ensures.1 in
    rw (p.1, p.2) (sym (nth_stops _ c.loop.invariant (omega arith) (sym c.slice.ensures ∙ c.in_err-cut.was)))

pub loop-preserved : goal.loop-preserved
loop-preserved c = fold_turn c.loop.invariant (omega arith) refl (sym (c.in_ok-cut.was) ∙ c.slice.ensures)

pub returns : goal.returns
unfolding nth
returns c = search loops
