-- `whole_step::list_step_length` meets its contract: a walk of the list, by the law of walks. Assumes nothing.
use Rattle.std.proofs.Common.{◌+◌, ◌≤◌, length, drop, refl, ◌∙◌, arith}
use Rattle.std.proofs.lemmas.Result.{err_from_is_err_and}
use Rattle.answers.specs.Refusal.{number_of}
use Rattle.answers.specs.Outcome.{gives}
use Rattle.answers.proofs.Laws.{refused, refused_first, refused_last, answers}
use Rattle.records.proofs.Laws.{as_many, cone_at, record_turned, records_ended}
use Rattle.whole_step.proofs.Walked.{opened, turn, turned_away, went_on, too_many, behind_start, behind_turn, closes}
use Rattle.whole_step.proofs.list_step_length.Goals as goal

pub returns-then-list-gt256 : goal.returns-then-list-gt256
returns-then-list-gt256 g c = too_many _ _ _ _ _ _ (omega (arith, as_many _ _ _ (g.R.Record.each c.args.list.now)))

pub loop-record-init : goal.loop-record-init
loop-record-init g c =
    let few : length (g.R.Record.cones c.args.list.now) ≤ 256 = omega (arith, as_many _ _ _ (g.R.Record.each c.args.list.now)) in
    (rw (← opened (length (g.R.Record.cones c.args.list.now)) _ few) (closes _ _ _ _ _ _), behind_start _ _ _ _ _ _ few)

pub returns-in_err-walk : goal.returns-in_err-walk
returns-in_err-walk g c =
    let m = g.R.Record in
    let a = c.args in
    let so_far = c.loop-record in
    let left = record_turned m.cone a.list.now (m.cones a.list.now) (m.each a.list.now) (turn a.dz.now a.ds.now a.z.now a.s.now a.limit) so_far.record-index (gives so_far.walk) c.record-item.result c.loop-record-test.true c.record-item.is in
    let away = turned_away a.dz.now a.ds.now a.z.now a.s.now a.limit so_far.walk (m.cone c.record-item.result) (drop (so_far.record-index + 1) (m.cones a.list.now)) _ (rw (← c.cone.ensures) c.in_err-walk.ensures.refusal) in
    let exit = err_from_is_err_and c.from_residual.result c.from_residual.ensures.1 in
    rw (exit.1, exit.2) (rw (left, away) at so_far.invariant.0)

pub loop-record-preserved : goal.loop-record-preserved
loop-record-preserved g c =
    let m = g.R.Record in
    let a = c.args in
    let so_far = c.loop-record in
    let left = record_turned m.cone a.list.now (m.cones a.list.now) (m.each a.list.now) (turn a.dz.now a.ds.now a.z.now a.s.now a.limit) so_far.record-index (gives so_far.walk) c.record-item.result c.loop-record-test.true c.record-item.is in
    let here = cone_at _ _ _ (m.each a.list.now) c.loop-record-test.true c.record-item.is in (
      rw (c.in_ok-walk.ensures.goes_on, ← went_on a.dz.now a.ds.now a.z.now a.s.now a.limit so_far.walk c.cone.result c.in_ok-walk.ensures.refusal, c.cone.ensures, ← left) so_far.invariant.0,
      rw c.in_ok-walk.ensures.goes_on (behind_turn _ _ _ _ _ _ so_far.invariant.1 here.0 (c.cone.ensures ∙ here.1) c.in_ok-walk.ensures.refusal),
    )

pub returns : goal.returns
returns g c =
    let m = g.R.Record in
    let a = c.args in
    let so_far = c.loop-record in
    let end = rw (records_ended m.cone a.list.now (m.cones a.list.now) (m.each a.list.now) (turn a.dz.now a.ds.now a.z.now a.s.now a.limit) so_far.record-index (gives so_far.walk) (omega arith)) at so_far.invariant.0 in
    rw (← end) (answers _ _ _ _ _ (refused_last {n = 0} c.in_ok-check_length.ensures c.in_ok-check_limit.ensures) refl refl)

pub returns-in_err-check_length : goal.returns-in_err-check_length
returns-in_err-check_length g c =
    let m = g.R.Record in
    let a = c.args in
    let so_far = c.loop-record in
    let end = rw (records_ended m.cone a.list.now (m.cones a.list.now) (m.each a.list.now) (turn a.dz.now a.ds.now a.z.now a.s.now a.limit) so_far.record-index (gives so_far.walk) (omega arith)) at so_far.invariant.0 in
    let exit = err_from_is_err_and c.from_residual-in_err-check_length.result c.from_residual-in_err-check_length.ensures.1 in
    rw (exit.1, exit.2, ← end) (refused _ _ _ _ (refused_first _ _ c.in_err-check_length.ensures))

pub returns-in_err-check_limit : goal.returns-in_err-check_limit
returns-in_err-check_limit g c =
    let m = g.R.Record in
    let a = c.args in
    let so_far = c.loop-record in
    let end = rw (records_ended m.cone a.list.now (m.cones a.list.now) (m.each a.list.now) (turn a.dz.now a.ds.now a.z.now a.s.now a.limit) so_far.record-index (gives so_far.walk) (omega arith)) at so_far.invariant.0 in
    let exit = err_from_is_err_and c.from_residual-in_err-check_limit.result c.from_residual-in_err-check_limit.ensures.1 in
    rw (exit.1, exit.2, ← end) (refused _ _ _ _ (refused_last {n = number_of c.in_err-check_limit.field-0.0} c.in_ok-check_length.ensures c.in_err-check_limit.ensures))
