-- `list_jordan::affine_ds_in` meets its contract. Written by tools/surface. Assumes nothing.
use mathlib.Core.Path.{refl}
use mathlib.Core.List.{[], ◌∷◌}
use borrow.Author.Rules.{rules}
use Rattle.answers.specs.Outcome.{◌⨾◌}
use Rattle.answers.proofs.Laws.{and_more}
use Rattle.conelist.proofs.Placed.{lent}
use Rattle.conecalls.proofs.Ranges.{cuts_fit}
use Rattle.conecalls.proofs.Return.{backs}
use Rattle.list_jordan.specs.Jordan.{affine_ds_unmarked}
use Rattle.list_jordan.proofs.affine_ds_in.Goals as goal

pub kind_affine_ds-requires : goal.kind_affine_ds-requires
kind_affine_ds-requires c =
    let a = c.args in
    let same = c.requires.same in
    cuts_fit a.p _ c.requires.here c.dim.ensures (search rules) a.ds.now (a.lambda.now ∷ []) same.0 (same.1.0, tt)

pub returns : goal.returns
returns c =
    let long = c.dim.ensures in
    let a = c.args in
    backs a.p long refl affine_ds_unmarked.writes (a.ds.now ⨾ tt)
    (and_more (simp (lent long) at c.kind_affine_ds.ensures) refl)
