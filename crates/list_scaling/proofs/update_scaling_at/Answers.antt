-- `list_scaling::update_scaling_at` meets its contract. Assumes nothing.
use Rattle.answers.proofs.Laws.{does}
use Rattle.conelist.proofs.Placed.{open_at}
use Rattle.list_scaling.specs.Scaling.{lengths_at}
use Rattle.list_scaling.proofs.update_scaling_at.Goals as goal

pub scaling_marked-requires : goal.scaling_marked-requires
scaling_marked-requires c =
    let a = c.args in
    open_at a.p (lengths_at a.p a.s.now a.z.now a.w.now a.lambda.now a.u.now a.v.now a.eta.now a.d.now a.marks.now) c.in_ok-check.ensures

pub returns : goal.returns
returns c = does _ _ _ _ c.in_ok-check.ensures c.scaling_marked.ensures
