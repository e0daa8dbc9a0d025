-- `list_identity::set_identity_scaling_in` meets its contract. Written by tools/surface. Assumes nothing.
use native.Mathlib.Nat.{le_refl}
use mathlib.Core.Path.{refl}
use mathlib.Core.List.{[], ◌∷◌}
use Rattle.answers.specs.Outcome.{◌⨾◌}
use Rattle.conelist.proofs.Placed.{lent}
use Rattle.conecalls.proofs.Ranges.{cuts_fit}
use Rattle.conecalls.proofs.Return.{backs}
use Rattle.list_identity.specs.Identity.{set_identity_scaling_unmarked}
use Rattle.list_identity.proofs.set_identity_scaling_in.Goals as goal

pub kind_set_identity_scaling-requires : goal.kind_set_identity_scaling-requires
kind_set_identity_scaling-requires c =
    let a = c.args in
    let same = c.requires.same in
    cuts_fit a.p _ c.requires.here c.dim.ensures (le_refl _) a.w.now (a.u.now ∷ a.v.now ∷ []) same.0 (same.1.0, (same.1.1.0, tt))

pub returns : goal.returns
returns c =
    let long = c.dim.ensures in
    let a = c.args in
    backs a.p long refl set_identity_scaling_unmarked.writes (a.w.now ⨾ a.u.now ⨾ a.v.now ⨾ a.eta.now ⨾ a.d.now ⨾ tt)
    (simp (lent long) at c.kind_set_identity_scaling.ensures)
