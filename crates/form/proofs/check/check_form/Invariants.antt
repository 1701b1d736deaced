-- The state is that after the bytes so far.
use Rattle.form.proofs.WrongBytes.{Reached}
use Rattle.form.proofs.check.check_form.Given as goal

abbrev pub invariant-loop-i : goal.invariant-loop-i
invariant-loop-i l = Reached l.bytes l.i l.state
