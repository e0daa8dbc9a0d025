-- `list_scaling::scaling_marked` meets its contract. Assumes nothing.
use Rattle.list_scaling.proofs.Laws.{unmarked, mark_within, with_mark}
use Rattle.list_scaling.proofs.scaling_marked.Goals as goal

pub scaling_in-truth-requires : goal.scaling_in-truth-requires
scaling_in-truth-requires c =
    let a = c.args in
    unmarked a.p a.s.now a.z.now a.w.now a.lambda.now a.u.now a.v.now a.eta.now a.d.now a.marks.now c.requires

pub set_scaled-requires : goal.set_scaled-requires
set_scaled-requires c =
    let a = c.args in
    mark_within a.p a.s.now a.z.now a.w.now a.lambda.now a.u.now a.v.now a.eta.now a.d.now a.marks.now c.requires

pub returns : goal.returns
returns c =
    let a = c.args in
    with_mark a.p a.s.now a.z.now a.w.now a.lambda.now a.u.now a.v.now a.eta.now a.d.now a.marks.now c.scaling_in-truth.ensures c.set_scaled.ensures
