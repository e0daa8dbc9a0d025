-- `root::drawn_root` meets its contract. Assumes nothing.
use Rattle.std.proofs.Common.{◌^◌, ◌<◌, arith}
use Rattle.root.proofs.Whole.{draw_short, draw_one, draw_zero, drawn_low, drawn_high}
use Rattle.root.proofs.drawn_root.Goals as goal
use Rattle.root.proofs.drawn_root.Goals.{In-loop, then-s-r, else-s-r}

short : (c : In-loop) → c.loop.s < 2 ^ 52
short c = draw_short c.loop.invariant (omega (arith, c.loop-test.true))

pub overflow_mul-r : goal.overflow_mul-r
overflow_mul-r c = omega (arith, short c)

pub overflow_add-r : goal.overflow_add-r
overflow_add-r c = omega (arith, short c)

pub overflow_mul-s-in-loop : goal.overflow_mul-s-in-loop
overflow_mul-s-in-loop c = omega (arith, short c)

pub overflow_add-s : goal.overflow_add-s
overflow_add-s c = omega (arith, short c)

pub overflow_mul-r-then-s-r : goal.overflow_mul-r-then-s-r
overflow_mul-r-then-s-r c = omega (arith, short c.before)

pub overflow_add-r-then-s-r : goal.overflow_add-r-then-s-r
overflow_add-r-then-s-r c = omega (arith, short c.before)

pub loop-preserved : goal.loop-preserved
loop-preserved c =
    elim c.if-s-r.branch [
      | then-s-r w ↦ rw (w.s-is, w.r-is) (draw_one c.loop.invariant (omega (arith, c.loop-test.true)) w.if-s-r.true)
      | else-s-r w ↦ rw (w.s-is, w.r-is) (draw_zero c.loop.invariant (omega (arith, c.loop-test.true)) w.if-s-r.false)
    ]

pub returns-then-r-s : goal.returns-then-r-s
returns-then-r-s c = drawn_low c.loop.invariant c.loop-test.false c.requires c.if-r-s.true

pub returns-else-r-s : goal.returns-else-r-s
returns-else-r-s c = drawn_high c.loop.invariant c.loop-test.false c.requires c.if-r-s.false
