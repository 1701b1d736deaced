use Rattle.sheet.proofs.CurveTemplates.{curve_front}
use Rattle.sheet.proofs.templates.curve_template.Goals as goal

pub returns : goal.returns
returns c = curve_front c.args.points c.requires
