use Rattle.bits.specs.Cases.{cases}
use Rattle.dataproc.specs.Dataproc.{operand_of}
use Rattle.dataproc.specs.Laws.Operands.{plain, by_register, by_immediate, first_immediate, first_early, first_late}
use Rattle.std.proofs.Common.{arith}
use Rattle.dataproc.proofs.read_operands.Goals as goal

pub returns-then-op-eq1 : goal.returns-then-op-eq1
unfolding operand_of
returns-then-op-eq1 c =
    rw (c.join_operands.ensures, c.immediate.ensures, first_immediate c.args.regs.now c.args.op c.if-op-eq1.true) (search cases)

pub returns-then-op-eq0 : goal.returns-then-op-eq0
returns-then-op-eq0 c =
    rw (
      c.join_operands-then-op-eq0.ensures,
      ← plain c.args.regs.now c.args.op c.args.c c.if-op-eq1.false c.if-op-eq0.true,
      first_early c.args.regs.now c.args.op (λ e. omega (arith, e, c.if-op-eq0.true)),
    )

pub returns-then-op-eq1-2 : goal.returns-then-op-eq1-2
returns-then-op-eq1-2 c =
    rw (
      c.read_operands_late.ensures,
      by_register c.args.regs.now c.args.op c.args.c c.if-op-eq1.false c.if-op-eq1-2.true,
      first_late c.args.regs.now c.args.op c.if-op-eq1.false c.if-op-eq1-2.true,
    )

pub returns-else-op-eq1-2 : goal.returns-else-op-eq1-2
returns-else-op-eq1-2 c =
    rw (
      c.join_operands-else-op-eq1-2.ensures,
      c.by_immediate.ensures,
      c.shift_type-ty.ensures,
      by_immediate c.args.regs.now c.args.op c.args.c c.if-op-eq1.false c.if-op-eq1-2.false,
      first_early c.args.regs.now c.args.op c.if-op-eq1-2.false,
    )
