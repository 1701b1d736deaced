-- A byte that does not fit is the first misfit; at the end the state says whether the bytes are a form.
use Rattle.std.proofs.Common.{arith, rules}
use Rattle.form.proofs.RunFacts.{run_more}
use Rattle.form.proofs.WrongBytes.{wrong, checked}
use Rattle.form.proofs.check.check_form.Goals as goal

pub returns-in_default : goal.returns-in_default
returns-in_default c = search (rules, wrong)

pub loop-i-preserved : goal.loop-i-preserved
loop-i-preserved c = grind (arith, run_more)

pub returns : goal.returns
returns c = search (rules, checked)
