-- What has been put down and what is left to put down are the numbers.
use Rattle.std.proofs.Common.{◌≡◌, ◌+◌, ◌*◌, ◌++◌, length, drop}
use Rattle.sheet.specs.Lines.{curve_said, line_numbers, points_numbers}
use Rattle.sheet.proofs.curve_line.CurveLine.numbers.Given as goal

abbrev pub invariant-loop-point : goal.invariant-loop-point
invariant-loop-point l =
    (l.numbers.items ++ points_numbers (drop l.point-index l.point-items) ≡ line_numbers (curve_said l.self)) × (length l.numbers.items ≡ 2 * l.point-index + 2)
