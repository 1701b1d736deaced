-- What the reader answers is right, and it reads every line.
use Rattle.std.proofs.Common.{◌≡◌, ℕ, ◌+◌, ◌≤◌, true, List, [], ◌∷◌, length, get_or, take, drop, ℤ, pos, Some, Err, Result, sym, refl, ap, ◌∙◌, subst, inl, inr, arith}
use Rattle.std.proofs.lemmas.List.{take-append-drop}
use Rattle.curve.specs.declared.loading.Point.{Point}
use Rattle.rules.specs.declared.reading.Reading.{Reading}
use Rattle.rules.specs.declared.terms_input.TermsInput.{TermsInput}
use Rattle.form.specs.Grammar.{IsForm}
use Rattle.form.specs.Misfits.{Completable, FirstMisfit, Wrong}
use Rattle.form.specs.declared.misfit.Misfit.{Misfit}
use Rattle.form.specs.declared.misfit.Kind.{Kind}
use Rattle.form.specs.declared.misfit.Kind.TheVariants.{Alien, Misplaced, TooDeep, TooManyDigits}
use Rattle.template.proofs.FilledRead.{fill_same}
use Rattle.template.specs.Templates.{all_short, fill}
use Rattle.sheet.specs.Lines.{block_numbers, block_template, curve_template, IsLine, line_numbers, of_block, of_curve, of_reading, points_numbers, reading_numbers, reading_template, Said, text}
use Rattle.sheet.specs.Reads.{Answered, ReadsEveryLine}
use Rattle.sheet.specs.declared.faults.ReadFault.{ReadFault}
use Rattle.sheet.specs.declared.faults.ReadFault.TheVariants.{Unfit}
use Rattle.sheet.specs.declared.line.Line.{Line}
use Rattle.sheet.proofs.FormsOfLines.{line_form}
use Rattle.sheet.proofs.KindsRead.{apart_curve, holes_curve, length_numbers, some_points}

-- Nothing is wrong with a form.
completed : (bytes : List ℕ) (k : ℕ) → IsForm 10 4 bytes → Completable 10 4 (take k bytes)
completed bytes k is = (drop k bytes, subst (λ (bs : List ℕ). IsForm 10 4 bs) (sym (take-append-drop k bytes)) is)

no_misfit : (bytes : List ℕ) (k : ℕ) → IsForm 10 4 bytes → FirstMisfit bytes k → ⊥
no_misfit bytes k is first = first.with_it (completed bytes (k + 1) is)

pub not_wrong : (bytes : List ℕ) (k : ℕ) (kind : Kind) → IsForm 10 4 bytes → Wrong bytes k kind → ⊥
not_wrong bytes k Alien is wrong = no_misfit bytes k is wrong.0
not_wrong bytes k TooDeep is wrong = no_misfit bytes k is wrong.0
not_wrong bytes k TooManyDigits is wrong = no_misfit bytes k is wrong.0
not_wrong bytes k Misplaced is (inl wrong) = no_misfit bytes k is wrong.0
not_wrong bytes k Misplaced is (inr ended) = ended.1.no_form is

-- The numbers of a line tell all that it says.
block_back : List ℤ → TermsInput
block_back zs =
    record {
      ticks = get_or zs 0 (pos 0);
      needed = get_or zs 1 (pos 0);
      a = get_or zs 2 (pos 0);
      b = get_or zs 3 (pos 0);
      low = record { quantity = get_or zs 4 (pos 0); price = get_or zs 5 (pos 0) };
      high = record { quantity = get_or zs 6 (pos 0); price = get_or zs 7 (pos 0) };
    }

same_block : (t u : TermsInput) → block_numbers t ≡ block_numbers u → t ≡ u
unfolding block_back
same_block t u same = ap block_back same

reading_back : List ℤ → Reading
reading_back zs =
    record { tick = get_or zs 0 (pos 0); frequency = get_or zs 1 (pos 0); power = get_or zs 2 (pos 0); baseline = get_or zs 3 (pos 0); flag = get_or zs 4 (pos 0) }

same_reading : (r s : Reading) → reading_numbers r ≡ reading_numbers s → r ≡ s
unfolding reading_back
same_reading r s same = ap reading_back same

first_back : List ℤ → Point
first_back zs = record { deviation = get_or zs 0 (pos 0); parts = get_or zs 1 (pos 0) }

same_points : (ps qs : List Point) → points_numbers ps ≡ points_numbers qs → ps ≡ qs
unfolding first_back
same_points [] [] same = refl
same_points [] (q ∷ qs) same = absurd (omega (arith, ap length same))
same_points (p ∷ ps) [] same = absurd (omega (arith, ap length same))
same_points (p ∷ ps) (q ∷ qs) same = ap (λ x. x ∷ ps) (ap first_back same) ∙ ap (λ xs. q ∷ xs) (same_points ps qs (ap (drop 2) same))

curves_same : (bytes : List ℕ) (ramp lag ramp' lag' : ℤ) (ps qs : List Point) → IsLine bytes (of_curve ramp lag ps) → IsLine bytes (of_curve ramp' lag' qs)
    → of_curve ramp lag ps ≡ of_curve ramp' lag' qs
curves_same bytes ramp lag ramp' lag' ps qs one other =
    let many : length qs ≡ length ps = omega (arith, some_points bytes ramp lag ps one, some_points bytes ramp' lag' qs other) in
    let same : line_numbers (of_curve ramp lag ps) ≡ line_numbers (of_curve ramp' lag' qs) =
    fill_same (curve_template (length ps)) (line_numbers (of_curve ramp lag ps)) (line_numbers (of_curve ramp' lag' qs)) (apart_curve (length ps)) one.short other.short
    (omega (arith, holes_curve (length ps), length_numbers ps)) (omega (arith, holes_curve (length ps), length_numbers qs))
    (sym one.spelled ∙ (other.spelled ∙ ap (λ k. fill (curve_template k) (line_numbers (of_curve ramp' lag' qs))) many)) in
    ap (λ z. of_curve z lag ps) (ap (λ zs. get_or zs 0 (pos 0)) same)
    ∙ (ap (λ z. of_curve ramp' z ps) (ap (λ zs. get_or zs 1 (pos 0)) same) ∙ ap (of_curve ramp' lag') (same_points ps qs (ap (drop 2) same)))

second : (bytes s t : List ℕ) → bytes ≡ s → bytes ≡ t → get_or s 1 0 ≡ get_or t 1 0
second bytes s t is is' = ap (λ bs. get_or bs 1 0) (sym is ∙ is')

-- Bytes are one line at most.
pub same_said : (bytes : List ℕ) (said said' : Said) → IsLine bytes said → IsLine bytes said' → said ≡ said'
same_said bytes (of_block t) (of_block u) one other =
    ap of_block (same_block t u (fill_same block_template (block_numbers t) (block_numbers u) refl one.short other.short refl refl (sym one.spelled ∙ other.spelled)))
same_said bytes (of_reading r) (of_reading s) one other =
    ap of_reading (same_reading r s (fill_same reading_template (reading_numbers r) (reading_numbers s) refl one.short other.short refl refl (sym one.spelled ∙ other.spelled)))
same_said bytes (of_curve ramp lag ps) (of_curve ramp' lag' qs) one other = curves_same bytes ramp lag ramp' lag' ps qs one other
same_said bytes (of_block t) (of_reading s) one other = absurd (omega (arith, second bytes _ _ one.spelled other.spelled))
same_said bytes (of_block t) (of_curve ramp lag ps) one other = absurd (omega (arith, second bytes _ _ one.spelled other.spelled))
same_said bytes (of_reading r) (of_block u) one other = absurd (omega (arith, second bytes _ _ one.spelled other.spelled))
same_said bytes (of_reading r) (of_curve ramp lag ps) one other = absurd (omega (arith, second bytes _ _ one.spelled other.spelled))
same_said bytes (of_curve ramp lag ps) (of_block u) one other = absurd (omega (arith, second bytes _ _ one.spelled other.spelled))
same_said bytes (of_curve ramp lag ps) (of_reading s) one other = absurd (omega (arith, second bytes _ _ one.spelled other.spelled))

-- The answers of the reader: a line was read, and no other says what these bytes say.
pub read_once : (bytes : List ℕ) (said : Said) (other : Said) → length bytes ≤ 200 → (bytes ≡ text said) × (all_short (line_numbers said) ≡ true) → IsLine bytes other → Some said ≡ Some other
read_once bytes said other within so line = ap Some (same_said bytes said other (record { spelled = so.0; short = so.1; within = within }) line)

pub unfit : (bytes : List ℕ) (misfit : Misfit) (r : Result Line ReadFault) → length bytes ≤ 200 → Wrong bytes misfit.byte misfit.kind → r ≡ Err (Unfit misfit)
    → Answered bytes r × ReadsEveryLine bytes r
unfit bytes misfit r within wrong is =
    subst (λ (v : Result Line ReadFault). Answered bytes v × ReadsEveryLine bytes v) (sym is)
    ((within, wrong), λ said line. absurd (not_wrong bytes misfit.byte misfit.kind (line_form bytes said line) wrong))
