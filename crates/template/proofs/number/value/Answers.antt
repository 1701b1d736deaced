use Rattle.template.proofs.DigitsRead.{Turn, turn}
use Rattle.template.proofs.number.value.Goals as goal

in_turn : (c : goal.After-row_known-1) → Turn c.args.digits.now c.loop-d.d-index c.loop-d.n
in_turn c = turn c.args.digits.now c.loop-d.d-index c.loop-d.n c.loop-d-test.true c.requires.few c.loop-d.invariant.0 c.loop-d.invariant.1 c.loop-d.invariant.2

pub overflow_sub-n : goal.overflow_sub-n
overflow_sub-n c = (in_turn c).low
