-- What is left gives the parts.
use Rattle.std.proofs.Common.{◌≡◌, ◌<◌, drop}
use Rattle.curve.specs.Points.{at, beyond, Onward}
use Rattle.curve.proofs.lines.beyond.Given as goal

abbrev pub invariant-loop-to : goal.invariant-loop-to
invariant-loop-to l =
    (at l.from < l.deviation)
    × Onward l.from (drop l.to-index l.rest)
    × (beyond l.from (drop l.to-index l.rest) l.deviation ≡ beyond l.initial.from l.rest l.deviation)
