-- What is left to look at decides.
use Rattle.std.proofs.Common.{◌≡◌, drop}
use Rattle.curve.specs.Loading.{rises, rising}
use Rattle.curve.proofs.loading.rising.Given as goal

abbrev pub invariant-loop-point : goal.invariant-loop-point
invariant-loop-point l = rises l.before (drop l.point-index l.points) ≡ rising l.points
