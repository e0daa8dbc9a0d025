-- `list_scaling::update_scaling_fit` meets its contract. Assumes nothing.
use Rattle.std.proofs.Common.{rules}
use Rattle.answers.proofs.Laws.{does, outcomes}
use Rattle.list_scaling.proofs.Laws.{alike, opened}
use Rattle.list_scaling.proofs.update_scaling_fit.Goals as goal

pub returns-in_err-check_spot : goal.returns-in_err-check_spot
returns-in_err-check_spot c =
    let a = c.args in
    let e = alike a.p a.s.now a.z.now a.w.now a.lambda.now a.u.now a.v.now a.eta.now a.d.now a.marks.now c.requires c.in_err-check_spot.ensures in
    search (rules, outcomes)

pub scaling_marked-requires : goal.scaling_marked-requires
scaling_marked-requires c =
    let a = c.args in
    opened a.p a.s.now a.z.now a.w.now a.lambda.now a.u.now a.v.now a.eta.now a.d.now a.marks.now c.requires c.in_ok-check_spot.ensures

pub returns : goal.returns
returns c =
    let a = c.args in
    does _ _ _ _ (alike a.p a.s.now a.z.now a.w.now a.lambda.now a.u.now a.v.now a.eta.now a.d.now a.marks.now c.requires c.in_ok-check_spot.ensures) c.scaling_marked.ensures
