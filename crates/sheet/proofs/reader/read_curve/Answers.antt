use Rattle.std.proofs.Common.{◌≡◌, ◌+◌, ◌-◌, ◌*◌, length, take, sym, ap, ◌∙◌, arith, rules}
use Rattle.template.specs.Templates.{holes}
use Rattle.sheet.specs.Lines.{curve_said, curve_template, points_of}
use Rattle.sheet.proofs.KindsRead.{as_many, holes_curve, kind_read, no_curve, too_many}
use Rattle.sheet.proofs.reader.read_curve.Goals as goal

pub returns-then-points-gt-MOST_POINTS : goal.returns-then-points-gt-MOST_POINTS
returns-then-points-gt-MOST_POINTS c =
    too_many c.args.bytes.now c.in_ok-points.points (c.in_ok-points.ensures.1 ∙ ap (λ n. n - 1) c.openings.ensures) (omega arith)

pub returns-then-read_filled : goal.returns-then-read_filled
returns-then-read_filled c =
    let template = take c.curve_length.result c.curve_template-template.result in
    let is : template ≡ curve_template c.in_ok-points.points = ap (λ n. take n c.curve_template-template.result) c.curve_length.ensures ∙ c.curve_template-template.ensures in
    let wide : length c.read_filled.new.numbers ≡ 2 * c.in_ok-points.points + 2 = search rules in
    let all : length c.read_filled.new.numbers ≡ holes template = omega (arith, wide, ap holes is, holes_curve c.in_ok-points.points) in
    let many : length (points_of c.of_numbers.result) ≡ c.in_ok-points.points =
    as_many c.of_numbers.result.ramp c.of_numbers.result.lag (points_of c.of_numbers.result) c.in_ok-points.points _ c.of_numbers.ensures (all ∙ ap holes is) in
    kind_read (curve_said c.of_numbers.result) _ c.args.bytes.now c.read_filled.new.numbers (ap curve_template many ∙ sym is) c.of_numbers.ensures (c.if-read_filled.ensures.read, all)

pub returns-else-read_filled : goal.returns-else-read_filled
returns-else-read_filled c =
    let template = take c.curve_length.result c.curve_template-template.result in
    let is : template ≡ curve_template c.in_ok-points.points = ap (λ n. take n c.curve_template-template.result) c.curve_length.ensures ∙ c.curve_template-template.ensures in
    no_curve c.args.bytes.now c.in_ok-points.points _ (c.in_ok-points.ensures.1 ∙ ap (λ n. n - 1) c.openings.ensures) (rw is at c.if-read_filled.ensures.read) (search rules)
