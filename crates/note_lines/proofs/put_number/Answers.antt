-- A digit and a line feed, with the tens before them where there are any.
use Rattle.std.proofs.Common.{◌≡◌, ◌∙◌, sym, ap, subst, arith, ℕ, ◌≤◌, ◌<◌, ◌/◌, ◌%◌, List, [], ◌∷◌, length, length-set}
use Rattle.pcm.specs.Frames.{written}
use Rattle.words.specs.laws.Runs.{front_run}
use Rattle.note_lines.specs.Lines.{digit}
use Rattle.note_lines.specs.Page.{number_line}
use Rattle.note_lines.proofs.put_number.Goals as goal
use Rattle.note_lines.proofs.put_number.Goals.{then-number-ge10, else-number-ge10}
use borrow.Author.Tests.{lt-ltb, le-ltb}

one : (n : ℕ) → n < 10 → digit (n % 10) ∷ 0x0a ∷ [] ≡ number_line n
unfolding number_line
one n h = let e : n % 10 ≡ n = omega arith in rw (e, lt-ltb n 10 h)

two : (n : ℕ) → 10 ≤ n → digit (n / 10) ∷ digit (n % 10) ∷ 0x0a ∷ [] ≡ number_line n
unfolding number_line
two n h = rw (le-ltb n 10 h)

pub bounds-out-0 : goal.bounds-out-0
bounds-out-0 c = omega (arith, ap length (two _ c.if-number-ge10.true), c.requires.1)

pub bounds-out-to : goal.bounds-out-to
bounds-out-to c =
    elim c.if-number-ge10.branch [
      | then-number-ge10 w ↦ omega (arith, ap length (two _ w.if-number-ge10.true), c.requires.1)
      | else-number-ge10 w ↦ omega (arith, ap length (one _ w.if-number-ge10.false), c.requires.1)
    ]

pub bounds-out-to-2 : goal.bounds-out-to-2
bounds-out-to-2 c =
    elim c.if-number-ge10.branch [
      | then-number-ge10 w ↦ rw length-set (omega (arith, ap length (two _ w.if-number-ge10.true), c.requires.1))
      | else-number-ge10 w ↦ rw length-set (omega (arith, ap length (one _ w.if-number-ge10.false), c.requires.1))
    ]

pub returns : goal.returns
returns c =
    let n = c.args.number in
    let out = c.args.out.now in
    elim c.if-number-ge10.branch [
      | then-number-ge10 w ↦
          let e = two n w.if-number-ge10.true in
          rw (w.out-is, w.to-is, c.digit-2.ensures, w.digit.ensures) (front_run _ out (subst (λ (l : List ℕ). length l ≤ length out) (sym e) c.requires.1) ∙ ap (λ (l : List ℕ). written l out) e)
      | else-number-ge10 w ↦
          let e = one n w.if-number-ge10.false in
          rw (w.out-is, w.to-is, c.digit-2.ensures) (front_run _ out (subst (λ (l : List ℕ). length l ≤ length out) (sym e) c.requires.1) ∙ ap (λ (l : List ℕ). written l out) e)
    ]
