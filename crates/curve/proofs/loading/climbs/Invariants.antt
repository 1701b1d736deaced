-- What is left to look at decides.
use Rattle.std.proofs.Common.{◌≡◌, drop, pos}
use Rattle.curve.specs.Loading.{climbs}
use Rattle.curve.proofs.loading.climbs.Given as goal

abbrev pub invariant-loop-point : goal.invariant-loop-point
invariant-loop-point l = climbs l.before (drop l.point-index l.points) ≡ climbs (pos 0) l.points
