use Rattle.std.proofs.Common.{Err, ap, ◌∙◌, arith}
use Rattle.std.proofs.lemmas.Result.{err_from_is_err_and}
use Rattle.sheet.specs.Lines.{curve_said, of_block, of_reading}
use Rattle.sheet.proofs.LinesRead.{read_once, unfit}
use Rattle.sheet.proofs.reader.read_line.Goals as goal

pub returns-in_err-check_form : goal.returns-in_err-check_form
returns-in_err-check_form c =
    let p = err_from_is_err_and c.from_residual.result c.from_residual.ensures.1 in
    let so = unfit c.args.bytes.now c.in_err-check_form.field-0.0 c.from_residual.result (omega arith) c.in_err-check_form.ensures (p.1 ∙ ap Err p.2) in
    record { answered = so.0; every = so.1 }

pub returns-in-Some-clause-every : goal.returns-in-Some-clause-every
returns-in-Some-clause-every c = λ said line. read_once c.args.bytes.now (of_reading c.in-Some.reading) said (omega arith) c.in-Some.ensures line

pub returns-in-Some-read_kind-clause-every : goal.returns-in-Some-read_kind-clause-every
returns-in-Some-read_kind-clause-every c = λ said line. read_once c.args.bytes.now (of_block c.in-Some-read_kind.terms) said (omega arith) c.in-Some-read_kind.ensures line

pub returns-in-Some-read_curve-clause-every : goal.returns-in-Some-read_curve-clause-every
returns-in-Some-read_curve-clause-every c = λ said line. read_once c.args.bytes.now (curve_said c.in-Some-read_curve.line) said (omega arith) c.in-Some-read_curve.ensures line
