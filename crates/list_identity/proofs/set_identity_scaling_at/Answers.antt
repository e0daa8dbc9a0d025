-- `list_identity::set_identity_scaling_at` meets its contract. Written by tools/surface. Assumes nothing.
use Prim.Native.Nat.{ℕ}
use native.Mathlib.Omega.{arith}
use mathlib.Core.Path.{refl, ap, ◌∙◌}
use lib.ListN.{length, set}
use Rattle.answers.proofs.Laws.{answers}
use Rattle.answers.specs.Outcome.{◌⨾◌}
use Rattle.conelist.proofs.Placed.{open_at}
use Rattle.conecalls.specs.Deed.{mark, per_cone, Whole, lengths_of, tests_of}
use Rattle.conecalls.specs.Marked.{append}
use Rattle.conecalls.proofs.Marked.{open_front}
use Rattle.list_identity.specs.Identity.{set_identity_scaling_unmarked}
use Rattle.list_identity.proofs.set_identity_scaling_at.Goals as goal

pub set_identity_scaling_in-requires : goal.set_identity_scaling_in-requires
set_identity_scaling_in-requires c =
    let a = c.args in
    (open_front a.p (tests_of a.p set_identity_scaling_unmarked.writes (lengths_of set_identity_scaling_unmarked.writes (a.w.now ⨾ a.u.now ⨾ a.v.now ⨾ a.eta.now ⨾ a.d.now ⨾ tt))) (length a.marks.now) a.p.count (open_at a.p _ c.in_ok-check.ensures)).1

pub bounds-marks-p : goal.bounds-marks-p
bounds-marks-p c =
    let a = c.args in
    let opened = open_front a.p (tests_of a.p set_identity_scaling_unmarked.writes (lengths_of set_identity_scaling_unmarked.writes (a.w.now ⨾ a.u.now ⨾ a.v.now ⨾ a.eta.now ⨾ a.d.now ⨾ tt))) (length a.marks.now) a.p.count (open_at a.p _ c.in_ok-check.ensures) in
    omega (arith, opened.0, opened.1.here.named)

pub returns : goal.returns
returns c =
    let a = c.args in
    let n = c.set_identity_scaling_in.new in
    answers _ _ _ _ _ c.in_ok-check.ensures refl
    (ap (λ (m : ℕ). append Whole (per_cone mark) set_identity_scaling_unmarked.writes (n.w ⨾ n.u ⨾ n.v ⨾ n.eta ⨾ n.d ⨾ tt) (set a.marks.now a.p.index m)) c.from.ensures
    ∙ ap (λ t. append Whole (per_cone mark) set_identity_scaling_unmarked.writes t (set a.marks.now a.p.index 1)) c.set_identity_scaling_in.ensures)
