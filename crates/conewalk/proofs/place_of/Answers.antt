-- `conewalk::place_of` meets its contract: a walk of the list, by the law of walks. Assumes nothing.
use Rattle.std.proofs.Common.{arith}
use Rattle.place_turns.specs.Walk.{place_further}
use Rattle.records.proofs.Laws.{as_many, record_turned, records_ended}
use Rattle.conewalk.proofs.Walked.{along_start, along_step, walked}
use Rattle.conewalk.proofs.place_of.Goals as goal

pub loop-record-init : goal.loop-record-init
loop-record-init g c =
    let m = g.R.Record in
    let row = c.args.list.now in
    rw (c.place_opening-p.ensures, ← as_many m.cone row (m.cones row) (m.each row)) (walked _ _, along_start _ _)

pub loop-record-preserved : goal.loop-record-preserved
loop-record-preserved g c =
    let m = g.R.Record in
    let row = c.args.list.now in
    let at = c.loop-record in
    rw (
      c.place_further-p.ensures,
      c.cone.ensures,
      ← record_turned m.cone row (m.cones row) (m.each row) place_further at.record-index at.p c.record-item.result c.loop-record-test.true c.record-item.is,
    )
    (at.invariant.0, along_step _ _ _ at.invariant.1)

pub returns : goal.returns
returns g c =
    let m = g.R.Record in
    let row = c.args.list.now in
    let at = c.loop-record in
    rw (c.place_closing.ensures, ← records_ended m.cone row (m.cones row) (m.each row) place_further at.record-index at.p (omega arith)) at.invariant.0
