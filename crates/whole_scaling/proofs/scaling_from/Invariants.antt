-- What `whole_scaling::scaling_from` keeps true over its records: what is left of the walk comes to what all of it comes to, and the buffers have the
-- lengths that were tested; and from the list's own first cone the single calls on the cones that are left come to document 02's scaling. Assumes nothing.
use Rattle.std.proofs.Common.{◌≡◌}
use Rattle.answers.specs.Outcome.{◌⨾◌}
use Rattle.conelist.specs.Layout.{place_of}
use Rattle.whole_scaling.specs.List.{list_update_scaling}
use Rattle.whole_scaling.specs.Walk.{scaling_from}
use Rattle.whole_scaling.proofs.Laws.{Behind}
use Rattle.whole_scaling.proofs.Singles as singles
use Rattle.whole_scaling.proofs.scaling_from.Given as goal

abbrev pub invariant-loop-record : goal.invariant-loop-record
invariant-loop-record g l =
    let f = l.fn in
    let cs = g.R.Record.cones l.list in
    let holds = l.w ⨾ l.lambda ⨾ l.u ⨾ l.v ⨾ l.eta ⨾ l.d ⨾ l.marks ⨾ tt in
    Behind cs l.s l.z (scaling_from cs f.first l.s l.z f.w f.lambda f.u f.v f.eta f.d f.marks) l.record-index l.place holds
    × (f.first ≡ place_of cs 0 → singles.Behind cs l.s l.z (list_update_scaling cs l.s l.z f.w f.lambda f.u f.v f.eta f.d f.marks) l.record-index l.place holds)
