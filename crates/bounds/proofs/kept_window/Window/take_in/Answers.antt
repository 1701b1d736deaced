use Rattle.std.proofs.Common.{◌∙◌, arith, rules}
use Rattle.std.proofs.lemmas.Int.{ints}
use Rattle.bounds.proofs.Slides.{gap_taken, next_taken}
use Rattle.bounds.proofs.kept_window.Window.take_in.Goals as goal
use Rattle.bounds.proofs.kept_window.Window.take_in.Goals.{then-after_gap, else-after_gap}

pub returns : goal.returns
returns c =
    elim c.if-after_gap.branch [
      | then-after_gap w ↦ gap_taken c.args.self.now.latest c.rotate_left.new.self c.args.self.now.count c.if-after_gap.before c.args.lag c.args.after_gap c.args.frequency _ (search rules) c.rotate_left.ensures.after (omega (arith, ints)) w.before-is w.if-after_gap.true
      | else-after_gap w ↦ next_taken c.args.self.now.latest c.rotate_left.new.self c.args.self.now.count c.if-after_gap.before c.args.lag c.args.after_gap c.args.frequency _ (search rules) c.args.self.now.few c.requires c.rotate_left.ensures.after (omega (arith, ints)) (w.before-is ∙ w.min-before.ensures) w.if-after_gap.false
    ]
