-- The points so far and what is left of the numbers are all of them.
use Rattle.std.proofs.Common.{◌≡◌, ◌++◌, ◌*◌, ◌+◌, length, take, drop}
use Rattle.sheet.specs.Lines.{points_numbers}
use Rattle.sheet.proofs.curve_line.CurveLine.of_numbers.Given as goal

abbrev pub invariant-loop-rest : goal.invariant-loop-rest
invariant-loop-rest l = (points_numbers (take l.count l.points) ++ l.rest ≡ drop 2 l.numbers) × (2 * l.count + length l.rest + 2 ≡ length l.numbers) × (length l.points ≡ 23)

abbrev pub decreases-loop-rest : goal.decreases-loop-rest
decreases-loop-rest l = length l.rest
