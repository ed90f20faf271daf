use Rattle.std.proofs.Common.{◌≡◌, ◌-◌, ◌≤◌, length}
use Rattle.engine.specs.Run.{go_of}
use Rattle.engine.proofs.run_plain.Given as goal

abbrev pub invariant-loop-k : goal.invariant-loop-k
invariant-loop-k l = (l.k ≤ l.budget) × (length l.mem ≡ length l.initial.mem) × (go_of l.budget 0 l.initial.cur l.initial.mem ≡ go_of (l.budget - l.k) l.k l.cur l.mem)
