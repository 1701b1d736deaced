use Rattle.curve.proofs.LinesFacts.{joined_by_lines}
use Rattle.curve.proofs.laws.points_are_joined_by_lines.Goals as goal

pub returns : goal.returns
returns c = joined_by_lines
