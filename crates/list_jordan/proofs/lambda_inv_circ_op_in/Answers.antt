-- `list_jordan::lambda_inv_circ_op_in` meets its contract. Written by tools/surface. Assumes nothing.
use mathlib.Core.Path.{refl}
use mathlib.Core.List.{[], ◌∷◌}
use borrow.Author.Rules.{rules}
use Rattle.answers.specs.Outcome.{◌⨾◌}
use Rattle.answers.proofs.Laws.{and_more}
use Rattle.conelist.proofs.Placed.{lent}
use Rattle.conecalls.proofs.Ranges.{cuts_fit}
use Rattle.conecalls.proofs.Return.{backs}
use Rattle.list_jordan.specs.Jordan.{lambda_inv_circ_op_unmarked}
use Rattle.list_jordan.proofs.lambda_inv_circ_op_in.Goals as goal

pub kind_lambda_inv_circ_op-requires : goal.kind_lambda_inv_circ_op-requires
kind_lambda_inv_circ_op-requires c =
    let a = c.args in
    let same = c.requires.same in
    cuts_fit a.p _ c.requires.here c.dim.ensures (search rules) a.x.now (a.z.now ∷ a.lambda.now ∷ []) same.0 (same.1.0, (same.1.1.0, tt))

pub returns : goal.returns
returns c =
    let long = c.dim.ensures in
    let a = c.args in
    backs a.p long refl lambda_inv_circ_op_unmarked.writes (a.x.now ⨾ tt)
    (and_more (simp (lent long) at c.kind_lambda_inv_circ_op.ensures) refl)
