-- One digit more, or what ends the number.
use Rattle.std.proofs.Common.{◌≡◌, ◌∙◌, sym, ap, arith, ◌<◌, ◌≤◌, ◌+◌, ◌*◌, ◌-◌, ◌∷◌, ℕ, List, get_or, drop, length, inl, inr, None}
use Rattle.std.specs.Char.{IsDigitOf}
use lib.ListN.{drop_of_length-le}
use Rattle.pcm.specs.laws.Writing.{next_byte}
use Rattle.note_lines.specs.Arguments.{number_after}
use Rattle.note_lines.specs.laws.Arguments.{number_end, number_other, number_next, number_over}
use Rattle.note_lines.proofs.arguments.number.Goals as goal

-- the next byte, and what follows it
left_is : (v i : ℕ) (text : List ℕ) → i < length text → number_after 0xffffffff 0 text ≡ number_after 0xffffffff v (drop i text)
    → number_after 0xffffffff 0 text ≡ number_after 0xffffffff v (get_or text i 0 ∷ drop (i + 1) text)
left_is v i text h e = e ∙ ap (number_after 0xffffffff v) (next_byte text i h)

-- a digit of ten is written by these ten bytes
digit_is : (b d : ℕ) → IsDigitOf b d → d < 10 → (0x30 ≤ b) × (b ≤ 0x39) × (d ≡ b - 0x30)
digit_is b d (inl x) h = (omega arith, omega arith, omega arith)
digit_is b d (inr (inl x)) h = absurd (omega arith)
digit_is b d (inr (inr x)) h = absurd (omega arith)

-- one digit more: the number goes on, or passes what its field holds
module _ (v i : ℕ) (text : List ℕ) (h : i < length text) (e : number_after 0xffffffff 0 text ≡ number_after 0xffffffff v (drop i text)) (b d : ℕ) (w : b ≡ get_or text i 0) (k : IsDigitOf b d) (s : d < 10) where
  goes_on : number_after 0xffffffff 0 text ≡ number_after 0xffffffff (v * 10 + d) (drop (i + 1) text)
  goes_on =
      let x = digit_is b d k s in
      let n : 10 * v + (get_or text i 0 - 0x30) ≡ v * 10 + d = omega (arith, x.2) in
      left_is v i text h e ∙ number_next 0xffffffff v _ (drop (i + 1) text) (omega (arith, x.0)) (omega (arith, x.1)) ∙ ap (λ (m : ℕ). number_after 0xffffffff m (drop (i + 1) text)) n

  passes : 0xffffffff < v * 10 + d → None ≡ number_after 0xffffffff 0 text
  passes o =
      let x = digit_is b d k s in
      number_over 0xffffffff v _ (drop (i + 1) text) (omega (arith, x.0)) (omega (arith, x.1)) (omega (arith, x.2)) ∙ sym (left_is v i text h e)

pub returns-in_err-digit : goal.returns-in_err-digit
returns-in_err-digit c =
    c.from_residual.ensures
    ∙ number_other 0xffffffff c.loop-b.value _ (drop (c.loop-b.b-index + 1) c.args.text.now) (λ l h. omega (arith, c.in_err-digit.ensures.cases, c.from.ensures))
    ∙ sym (left_is _ _ _ c.loop-b-test.true c.loop-b.invariant.1)

pub returns-in_err-checked_mul : goal.returns-in_err-checked_mul
returns-in_err-checked_mul c =
    let d = c.in_ok-digit.ensures in
    c.from_residual-in_err-checked_mul.ensures
    ∙ passes c.loop-b.value _ _ c.loop-b-test.true c.loop-b.invariant.1 _ _ c.from.ensures d.cases (omega (arith, d.value)) (omega (arith, c.in_err-checked_mul.ensures))

pub returns-in_err-value : goal.returns-in_err-value
returns-in_err-value c =
    let d = c.in_ok-digit.ensures in
    c.from_residual-in_err-value.ensures
    ∙ passes c.loop-b.value _ _ c.loop-b-test.true c.loop-b.invariant.1 _ _ c.from.ensures d.cases (omega (arith, d.value)) (omega (arith, c.in_ok-checked_mul.ensures, c.in_err-value.ensures))

pub loop-b-preserved : goal.loop-b-preserved
loop-b-preserved c =
    let d = c.in_ok-digit.ensures in
    let m = c.in_ok-checked_mul.ensures in
    let w = c.in_ok-value.ensures in (
      omega (arith, w),
      rw (w.1, m.1) (goes_on c.loop-b.value _ _ c.loop-b-test.true c.loop-b.invariant.1 _ _ c.from.ensures d.cases (omega (arith, d.value))),
    )

pub returns : goal.returns
returns c =
    let i = c.loop-b.invariant in
    number_end 0xffffffff c.loop-b.value i.0 ∙ sym (i.1 ∙ ap (number_after 0xffffffff c.loop-b.value) (drop_of_length-le c.args.text.now (omega arith)))
