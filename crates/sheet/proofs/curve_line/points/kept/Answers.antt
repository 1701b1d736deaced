use Rattle.std.proofs.Common.{◌∙◌}
use Rattle.std.proofs.lemmas.List.{take_all}
use Rattle.sheet.proofs.curve_line.points.kept.Goals as goal

pub returns : goal.returns
returns c = c.first.ensures ∙ take_all 23 c.args.points.now c.requires
