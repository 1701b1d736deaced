-- The loop goes from point to point up to the line on which the deviation lies, or past the last.
use Rattle.std.proofs.Common.{arith}
use Rattle.curve.proofs.LoadingSteps.{no_point}
use Rattle.curve.specs.PointsFacts.{onward_more}
use Rattle.curve.proofs.lines.beyond.Goals as goal

pub line-requires : goal.line-requires
line-requires c = record {
  points = (onward_more c.loop-to.from c.args.rest.now c.loop-to.to-index no_point c.loop-to-test.true c.loop-to.invariant.1).0;
  between = (omega (arith, c.loop-to.invariant.0), omega arith);
}
