use Rattle.bounds.proofs.Follows.{follows}
use Rattle.bounds.proofs.track.Track.take_in.Goals as goal

pub returns : goal.returns
returns g c = λ h t. follows c.args.held _ c.args.reading h c.args.self.now _ t c.step.ensures
