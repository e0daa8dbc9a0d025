-- `list_scaling::scaling_in` meets its contract. Assumes nothing.
use native.Mathlib.Nat.{le_refl}
use mathlib.Core.Path.{refl}
use mathlib.Core.List.{[], ◌∷◌}
use Rattle.answers.specs.Outcome.{◌⨾◌}
use Rattle.conelist.proofs.Placed.{lent}
use Rattle.conecalls.proofs.Ranges.{cuts_fit}
use Rattle.conecalls.proofs.Return.{works}
use Rattle.list_scaling.specs.Scaling.{update_scaling_unmarked}
use Rattle.list_scaling.proofs.scaling_in.Goals as goal

pub kind_scaling-requires : goal.kind_scaling-requires
kind_scaling-requires c =
    let a = c.args in
    let same = c.requires.same in
    let last = same.1.1.1.1.1.1 in
    cuts_fit a.p _ c.requires.here c.dim.ensures (le_refl _) a.s.now (a.z.now ∷ a.w.now ∷ a.lambda.now ∷ a.u.now ∷ a.v.now ∷ []) last.0
    (last.1.0, (same.0, (same.1.0, (same.1.1.0, (same.1.1.1.0, tt)))))

pub returns : goal.returns
returns c =
    let long = c.dim.ensures in
    let a = c.args in
    works a.p long refl update_scaling_unmarked.writes (a.w.now ⨾ a.lambda.now ⨾ a.u.now ⨾ a.v.now ⨾ a.eta.now ⨾ a.d.now ⨾ tt)
    (simp (lent long) at c.kind_scaling.ensures)
