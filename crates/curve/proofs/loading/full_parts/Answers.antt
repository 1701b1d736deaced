-- The last point is the one that is read.
use Rattle.std.proofs.Common.{◌∙◌, w64, SFits, rules}
use Rattle.std.proofs.lemmas.Int.{to_z-of_z}
use Rattle.curve.proofs.LoadingSteps.{full_parts_at}
use Rattle.curve.proofs.loading.full_parts.Goals as goal

pub returns-in-Some : goal.returns-in-Some
returns-in-Some c =
    let h = c.in-Some.ensures.item in
    let f : SFits w64 c.in-Some.last.now.parts = search rules in
    to_z-of_z w64 c.in-Some.last.now.parts f ∙ full_parts_at c.args.points.now c.in-Some.last.now h.3.0 h.1
