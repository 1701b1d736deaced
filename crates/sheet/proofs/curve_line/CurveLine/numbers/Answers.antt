use Rattle.std.proofs.Common.{get_or, arith, ◌∙◌, w64, SFits, rules}
use Rattle.std.proofs.lemmas.Int.{to_z-of_z}
use Rattle.sheet.proofs.ListedNumbers.{no_point, point_put}
use Rattle.sheet.proofs.curve_line.CurveLine.numbers.Goals as goal

pub loop-point-preserved : goal.loop-point-preserved
loop-point-preserved c =
    let f : SFits w64 (get_or c.points-point-items.result.now c.loop-point.point-index no_point).deviation = search rules in
    let g : SFits w64 (get_or c.points-point-items.result.now c.loop-point.point-index no_point).parts = search rules in (
      rw (c.push-in-loop-point-2.ensures.items, c.push-in-loop-point.ensures.items)
          (point_put c.points-point-items.result.now c.loop-point.numbers.items c.loop-point.point-index _ _ c.loop-point-test.true (to_z-of_z w64 _ f) (to_z-of_z w64 _ g) ∙ c.loop-point.invariant.0),
      omega arith,
    )
