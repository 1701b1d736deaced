use Rattle.rules.specs.Terms.{sides}
use Rattle.account.proofs.state.State.new.Goals as goal

pub returns : goal.returns
returns c = λ t s. record { track = c.new.ensures.tracks (sides t) s; low = c.new-2.ensures; high = c.new-3.ensures }
