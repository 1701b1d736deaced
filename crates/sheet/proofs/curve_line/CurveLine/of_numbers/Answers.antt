use Rattle.std.proofs.Common.{◌≡◌, ◌+◌, length, get_or, set, take, pos, [], ◌∷◌, ◌++◌, arith, ap, ◌∙◌, w64, to_z, of_z, SFits, rules}
use Rattle.std.proofs.lemmas.Int.{to_z-of_z}
use Rattle.std.proofs.lemmas.List.{length-drop, length-set, nil_from_length, take_more_set, take_rest}
use Rattle.curve.specs.declared.loading.Point.{Point}
use Rattle.sheet.proofs.ListedNumbers.{line_taken, point_taken}
use Rattle.sheet.proofs.curve_line.CurveLine.of_numbers.Goals as goal

pub loop-rest-preserved : goal.loop-rest-preserved
loop-rest-preserved c =
    let inv = c.loop-rest.invariant in
    let rest = c.loop-rest.rest.now in
    let f : SFits w64 (get_or rest 0 (pos 0)) = search rules in
    let g : SFits w64 (get_or rest 1 (pos 0)) = search rules in
    let p : Point = record { deviation = to_z w64 (of_z w64 (get_or rest 0 (pos 0))); parts = to_z w64 (of_z w64 (get_or rest 1 (pos 0))) } in
    let more : take (c.loop-rest.count + 1) (set c.loop-rest.points c.loop-rest.count p) ≡ take c.loop-rest.count c.loop-rest.points ++ p ∷ [] =
    take_more_set c.loop-rest.points c.loop-rest.count p (omega (arith, inv.1, inv.2, c.in-len2-up.len_at_least, c.requires.few)) in (
      rw more (point_taken (take c.loop-rest.count c.loop-rest.points) rest p c.in-len2-up.len_at_least (to_z-of_z w64 _ f) (to_z-of_z w64 _ g) ∙ inv.0),
      omega (arith, inv.1, c.in-len2-up.len_at_least, ap length (take_rest rest 2), length-drop 2 rest),
      length-set c.loop-rest.points c.loop-rest.count p ∙ inv.2,
    )

pub returns : goal.returns
returns c =
    let f : SFits w64 (get_or c.args.numbers.now 0 (pos 0)) = search rules in
    let g : SFits w64 (get_or c.args.numbers.now 1 (pos 0)) = search rules in
    let none : c.loop-rest.rest.now ≡ [] = nil_from_length c.loop-rest.rest.now (omega arith) in
    line_taken _ _ c.args.numbers.now c.loop-rest.rest.now (take c.loop-rest.count c.loop-rest.points) _ (to_z-of_z w64 _ f) (to_z-of_z w64 _ g) c.requires.some none c.loop-rest.invariant.0 c.front.ensures
