use Rattle.std.proofs.Common.{rules}
use Rattle.sheet.proofs.Openings.{openings_counted}
use Rattle.sheet.proofs.reader.openings.Goals as goal

pub returns : goal.returns
returns c = search (rules, openings_counted)
