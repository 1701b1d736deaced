-- Points that were checked are such as the curve may hold, and all of them are kept.
use Rattle.std.proofs.Common.{ap, ◌∙◌, w64, to_z, of_z}
use Rattle.std.proofs.lemmas.Int.{to_z-of_z}
use Rattle.curve.specs.Loading.{accepted}
use Rattle.curve.specs.Points.{points_shape}
use Rattle.curve.specs.AcceptedPoints.{all_kept, none_accepted}
use Rattle.curve.proofs.by_points.Points.load.Goals as goal

pub invariant_of-self : goal.invariant_of-self
invariant_of-self c =
    let ramp = to_z w64 (of_z w64 c.args.ramp) in
    let lag = to_z w64 (of_z w64 c.args.lag) in
    let kept = c.first.ensures ∙ all_kept c.args.points.now ramp lag c.in_ok-check.ensures in
    record { sound = ap (λ points. accepted points ramp lag) kept ∙ none_accepted c.args.points.now ramp lag c.in_ok-check.ensures }

pub returns-clause-held : goal.returns-clause-held
returns-clause-held c =
    let ramp = to_z w64 (of_z w64 c.args.ramp) in
    let lag = to_z w64 (of_z w64 c.args.lag) in
    let kept = c.first.ensures ∙ all_kept c.args.points.now ramp lag c.in_ok-check.ensures in
    ap (λ points. points_shape points ramp lag) kept
    ∙ ap (λ r. points_shape c.args.points.now r lag) (to_z-of_z w64 c.args.ramp c.ranges.ramp)
    ∙ ap (λ l. points_shape c.args.points.now c.args.ramp l) (to_z-of_z w64 c.args.lag c.ranges.lag)
