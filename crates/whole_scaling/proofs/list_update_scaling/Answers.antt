-- `whole_scaling::list_update_scaling` meets its contract: it looks at the list, and hands it on. Assumes nothing.
use Rattle.std.proofs.Common.{ap, ◌∙◌}
use Rattle.conelist.specs.declared.Place.{Place}
use Rattle.whole_scaling.specs.Walk.{scaling_from}
use Rattle.whole_scaling.proofs.Walked.{walked}
use Rattle.whole_scaling.proofs.list_update_scaling.Goals as goal

pub returns : goal.returns
returns g c =
    let a = c.args in
    let cs = g.R.Record.cones a.list.now in
    c.scaling_from.ensures
    ∙ ap (λ (p : Place). scaling_from cs p a.s.now a.z.now a.w.now a.lambda.now a.u.now a.v.now a.eta.now a.d.now a.marks.now) c.place_of-first.ensures
    ∙ walked a.s.now a.z.now a.w.now a.lambda.now a.u.now a.v.now a.eta.now a.d.now a.marks.now cs
