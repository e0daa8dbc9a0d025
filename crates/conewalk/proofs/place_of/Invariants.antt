-- What `conewalk::place_of` keeps true over its records: what is left of the walk comes to the place, and its sums stay small. Assumes nothing.
use Rattle.std.proofs.Common.{◌≡◌}
use Rattle.conelist.specs.Layout.{place_of}
use Rattle.walks.proofs.Law.{rest}
use Rattle.place_turns.specs.Walk.{place_further, place_closing}
use Rattle.conewalk.proofs.Walked.{Along}
use Rattle.conewalk.proofs.place_of.Given as goal

abbrev pub invariant-loop-record : goal.invariant-loop-record
invariant-loop-record g l =
    let cs = g.R.Record.cones l.list in
    (place_closing (rest place_further cs l.record-index l.p) ≡ place_of cs l.k) × Along l.record-index l.p
