-- One reading more, by history: what is kept goes on to be that of the history. Assumes nothing.
use Rattle.std.proofs.Common.{◌≡◌, ℕ, zero, suc, ◌-◌, Bool, true, false, cond, not, List, [], ◌∷◌, ◌++◌, map, reverse, length, take, drop, ℤ, Some, None, Option, sym, refl, ap, ◌∙◌}
use Rattle.std.proofs.Math.Seq.{take-nil}
use Rattle.std.proofs.lemmas.List.{take-append-drop, reverse-append, length-reverse, length-drop, drop_at, take-map}
use Rattle.curve.specs.Shape.{Shape}
use Rattle.curve.specs.declared.one_sided.Sides.{Sides}
use Rattle.rules.specs.declared.accepted.Accepted.{Accepted}
use Rattle.rules.specs.declared.reading.Reading.{Reading}
use Rattle.rules.specs.Flags.{brings_back}
use Rattle.bounds.specs.Bounds.{raw, raw_bounds, limited, bounds}
use Rattle.bounds.specs.Grace.{grace}
use Rattle.bounds.specs.Kept.{told, newest_of, slid, event, after, in_grace, is_gap}
use Rattle.bounds.specs.Window.{newest, successive, gap, window, frequencies}
use Rattle.bounds.specs.Track.{reading_of, bounds_of, next_bounds, Stepped, phase_of, BoundsAre, Tracks}
use Rattle.bounds.specs.declared.errors.Bounded.{Bounded}
use Rattle.bounds.specs.declared.track.Track.{Track}
use Rattle.bounds.specs.declared.phase.Event.TheVariants.{Plain, Gap, ContractBack}
use Rattle.bounds.proofs.Phases.{grace_is}

-- the newest n of a list that is turned round are its first n
newest_first : {X : Type 0} (n : ℕ) (xs : List X) → newest_of n (reverse xs) ≡ reverse (take n xs)
newest_first n xs =
    let cut : reverse xs ≡ reverse (drop n xs) ++ reverse (take n xs) = sym (ap reverse (take-append-drop n xs)) ∙ reverse-append (take n xs) (drop n xs) in
    let many : length (reverse (drop n xs)) ≡ length (reverse xs) - n = length-reverse (drop n xs) ∙ length-drop n xs ∙ ap (λ k. k - n) (sym (length-reverse xs)) in
    ap (drop (length (reverse xs) - n)) cut ∙ drop_at (reverse (drop n xs)) (reverse (take n xs)) (length (reverse xs) - n) many

take_cond : {X : Type 0} (n : ℕ) (g : Bool) (xs : List X) → cond g [] (take n xs) ≡ take n (cond g [] xs)
take_cond n true xs = sym (take-nil n)
take_cond n false xs = refl

window_take : (n : ℕ) (h : List Reading) → window n h ≡ take n (window (suc n) h)
window_take zero h = refl
window_take (suc n) [] = refl
window_take (suc n) (r ∷ h) = ap (◌∷◌ r) (ap (λ xs. cond (gap r h) [] xs) (window_take n h) ∙ take_cond n (gap r h) (window (suc n) h))

gap_is : (held : Sides) (r : Reading) (h : List Reading) → is_gap (event held (newest h) r) ≡ gap r h
gap_is held r [] = refl
gap_is held r (p ∷ h) = go (successive p r) (brings_back held p.flag r.flag)
  where
    go : (s b : Bool) → is_gap (cond s (cond b ContractBack Plain) Gap) ≡ not s
    go true true = refl
    go true false = refl
    go false b = refl

abbrev frequency_of : Reading → ℤ
frequency_of r = r.frequency

slid_is : (lag : ℕ) (g : Bool) (r : Reading) (h : List Reading) → slid lag g (frequencies lag h) r.frequency ≡ reverse (map frequency_of (r ∷ cond g [] (window lag h)))
slid_is lag true r h = refl
slid_is lag false r h =
    let shorter : newest_of lag (frequencies lag h) ≡ reverse (map frequency_of (window lag h)) = newest_first lag (map frequency_of (window (suc lag) h)) ∙ ap reverse (take-map frequency_of lag (window (suc lag) h) ∙ ap (map frequency_of) (sym (window_take lag h))) in
    ap (λ xs. xs ++ r.frequency ∷ []) shorter ∙ sym (reverse-append (r.frequency ∷ []) (map frequency_of (window lag h)))

first_bounds : (ramp : ℕ) (last : Option Bounded) (now : ℤ × ℤ) → reading_of last ≡ None → next_bounds ramp last now ≡ now
first_bounds ramp None now e = refl
first_bounds ramp (Some x) now e = cc

later_bounds : (ramp : ℕ) (last : Option Bounded) (p : Reading) (now : ℤ × ℤ) → reading_of last ≡ Some p → next_bounds ramp last now ≡ limited ramp (bounds_of last) now
later_bounds ramp None p now e = cc
later_bounds ramp (Some x) p now e = refl

bounds_are : (held : Sides) (s : Shape) (r : Reading) (h : List Reading) (last : Option Bounded) (now new : ℤ × ℤ) → reading_of last ≡ newest h → BoundsAre held s h (bounds_of last) → now ≡ raw_bounds held s (r ∷ h) → new ≡ next_bounds s.ramp last now → BoundsAre held s (r ∷ h) new
bounds_are held s r [] last now new l k e n = n ∙ first_bounds s.ramp last now l ∙ e
bounds_are held s r (p ∷ h) last now new l k e n =
    n ∙ later_bounds s.ramp last p now l ∙ ap (λ x. limited s.ramp x now) k ∙ ap (limited s.ramp (bounds held s p h)) e

pub follows : (held : Sides) (s : Shape) (r : Accepted) (h : List Reading) (a b : Track) → Tracks held s h a → Stepped held s r a b → Tracks held s (r.reading ∷ h) b
follows held s r h a b t st =
    let ev : event held (reading_of a.last) r.reading ≡ event held (newest h) r.reading = ap (λ o. event held o r.reading) t.last in
    let ph : b.phase ≡ phase_of held s.lag (r.reading ∷ h) = st.phase ∙ ap (λ p. after s.lag p (event held (reading_of a.last) r.reading)) t.phase ∙ ap (after s.lag (phase_of held s.lag h)) ev in
    let w : told b.window ≡ frequencies s.lag (r.reading ∷ h) = st.window ∙ ap (λ g. slid s.lag g (told a.window) r.reading.frequency) (ap is_gap ev ∙ gap_is held r.reading h) ∙ ap (λ xs. slid s.lag (gap r.reading h) xs r.reading.frequency) t.window ∙ slid_is s.lag (gap r.reading h) r.reading h in
    let g : in_grace b.phase ≡ grace held s.lag (r.reading ∷ h) = ap in_grace ph ∙ grace_is held s.lag (r.reading ∷ h) in
    let now : raw held s (in_grace b.phase) (told b.window) ≡ raw_bounds held s (r.reading ∷ h) = ap (λ x. raw held s x (told b.window)) g ∙ ap (raw held s (grace held s.lag (r.reading ∷ h))) w in
    record {
      last = st.last;
      phase = ph;
      window = w;
      bounds = bounds_are held s r.reading h a.last (raw held s (in_grace b.phase) (told b.window)) (bounds_of b.last) t.last t.bounds now st.bounds;
    }
