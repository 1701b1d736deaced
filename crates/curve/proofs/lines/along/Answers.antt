-- Beyond the first point the others decide.
use Rattle.std.proofs.Common.{◌≡◌, ◌<◌, get_or, ◌∙◌, arith}
use Rattle.curve.specs.Points.{at, along}
use Rattle.curve.proofs.LoadingSteps.{no_point}
use Rattle.curve.specs.PointsFacts.{first_along, along_most}
use Rattle.curve.proofs.lines.along.Goals as goal

pub returns-else-deviation-at : goal.returns-else-deviation-at
returns-else-deviation-at c =
    let past : at (get_or c.args.points.now 0 no_point) < c.args.deviation = omega arith in
    let e : c.beyond.result ≡ along c.args.points.now c.args.deviation =
    c.beyond.ensures ∙ first_along c.args.points.now no_point c.args.deviation c.requires.climb past in
    let m = along_most c.args.points.now c.args.deviation c.requires.rise c.requires.climb in
    record { value = e; bound = omega arith }
