-- `whole_scaling::scaling_from` meets its contract: a walk of the list, by the law of walks. Assumes nothing.
use Rattle.std.proofs.Common.{rules, sym, arith}
use Rattle.records.proofs.Laws.{as_many}
use Rattle.whole_scaling.proofs.Laws.{refused, begun, closed, told_by, stopped, small, told_false, told_true}
use Rattle.whole_scaling.proofs.Singles as singles
use Rattle.whole_scaling.proofs.scaling_from.Goals as goal

pub returns-in_err-check : goal.returns-in_err-check
returns-in_err-check g c =
    let a = c.args in
    let many = sym (as_many _ _ _ (g.R.Record.each a.list.now)) in
    let e = refused a.s.now a.z.now a.w.now a.lambda.now a.u.now a.v.now a.eta.now a.d.now a.marks.now (g.R.Record.cones a.list.now) a.first many _ c.in_err-check.ensures in
    search rules

pub loop-record-init : goal.loop-record-init
loop-record-init g c =
    let a = c.args in
    let many = sym (as_many _ _ _ (g.R.Record.each a.list.now)) in
    let cs = g.R.Record.cones a.list.now in (
      begun a.s.now a.z.now a.w.now a.lambda.now a.u.now a.v.now a.eta.now a.d.now a.marks.now cs a.first many c.in_ok-check.ensures,
      λ place. singles.begun_walk a.s.now a.z.now a.w.now a.lambda.now a.u.now a.v.now a.eta.now a.d.now a.marks.now cs place many c.in_ok-check.ensures,
    )

pub returns-in_err-truth : goal.returns-in_err-truth
returns-in_err-truth g c =
    let told = told_by _ _ _ (g.R.Record.each c.args.list.now) c.loop-record-test.true c.record-item.is c.cone-kind.ensures in
    let e = stopped c.loop-record.invariant.0 told c.in_err-truth.ensures in
    search rules

pub returns-then-not-truth : goal.returns-then-not-truth
returns-then-not-truth g c =
    let told = told_by _ _ _ (g.R.Record.each c.args.list.now) c.loop-record-test.true c.record-item.is c.cone-kind.ensures in
    told_false c.loop-record.invariant.0 told c.in_ok-truth.ensures (search rules)

pub overflow_add-place : goal.overflow_add-place
overflow_add-place g c =
    let told = told_by _ _ _ (g.R.Record.each c.args.list.now) c.loop-record-test.true c.record-item.is c.cone-kind.ensures in
    let here = small c.loop-record.invariant.0 told c.in_ok-truth.ensures in
    omega (arith, here.next_index)

pub overflow_add-place-in-loop-record : goal.overflow_add-place-in-loop-record
overflow_add-place-in-loop-record g c =
    let told = told_by _ _ _ (g.R.Record.each c.args.list.now) c.loop-record-test.true c.record-item.is c.cone-kind.ensures in
    let here = small c.loop-record.invariant.0 told c.in_ok-truth.ensures in
    omega (arith, here.next_start, c.dim.ensures)

pub overflow_add-place-in-loop-record-2 : goal.overflow_add-place-in-loop-record-2
overflow_add-place-in-loop-record-2 g c =
    let told = told_by _ _ _ (g.R.Record.each c.args.list.now) c.loop-record-test.true c.record-item.is c.cone-kind.ensures in
    let here = small c.loop-record.invariant.0 told c.in_ok-truth.ensures in
    omega (arith, here.next_block, c.block_dim.ensures)

pub loop-record-preserved : goal.loop-record-preserved
loop-record-preserved g c =
    let told = told_by _ _ _ (g.R.Record.each c.args.list.now) c.loop-record-test.true c.record-item.is c.cone-kind.ensures in
    let single = singles.told_by _ _ _ (g.R.Record.each c.args.list.now) c.loop-record-test.true c.record-item.is c.cone-kind.ensures in
    rw (c.dim.ensures, c.block_dim.ensures) (
      told_true c.loop-record.invariant.0 told c.in_ok-truth.ensures c.if-not-truth.false,
      λ place. singles.told_true (c.loop-record.invariant.1 place) single c.in_ok-truth.ensures c.if-not-truth.false,
    )

pub returns : goal.returns
returns g c = closed c.loop-record.invariant.0 (omega (arith, as_many _ _ _ (g.R.Record.each c.args.list.now)))
