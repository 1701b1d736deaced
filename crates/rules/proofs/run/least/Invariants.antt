use Rattle.std.proofs.Common.{◌≡◌, take}
use Rattle.std.specs.List.{best_of}
use Rattle.rules.proofs.run.least.Given as goal

abbrev pub invariant-loop-x : goal.invariant-loop-x
invariant-loop-x g l = l.best ≡ best_of g.O.Order.before l.initial.best (take l.x-index l.rest)
