-- Laws of the definitions in Arguments: one digit more. Assumes nothing.
use Rattle.std.specs.Prelude.{◌≡◌, Bool, ◌&&◌, List, [], ◌∷◌, ℕ, ◌+◌, ◌-◌, ◌*◌, ◌≤◌, ◌<◌, leb, Some, None, unwrap_or}
use Rattle.std.proofs.Math.Path.{refl}
use Rattle.std.proofs.Math.Bool.{true, false, cond}
use Rattle.std.proofs.Common.{arith}
use borrow.Author.Tests.{le-leb, lt-leb, leb-true, leb-false}
use Rattle.note_lines.specs.Arguments.{all_digits, value_after, number_after, field_of}

value_grows : (v : ℕ) (text : List ℕ) → v ≤ value_after v text
unfolding value_after
value_grows v [] = omega arith
value_grows v (b ∷ text) = omega (arith, value_grows (10 * v + (b - 0x30)) text)

module _ (most v : ℕ) where
  pub number_end : v ≤ most → Some v ≡ number_after most v []
  unfolding number_after value_after
  number_end h = rw (le-leb v most h)

  module _ (b : ℕ) (text : List ℕ) where
    -- what is no digit
    pub number_other : (0x30 ≤ b → b ≤ 0x39 → ⊥) → None ≡ number_after most v (b ∷ text)
    unfolding number_after
    number_other h = go (leb 0x30 b) refl (leb b 0x39) refl
      where
        go : (s : Bool) → leb 0x30 b ≡ s → (t : Bool) → leb b 0x39 ≡ t → None ≡ cond ((s && t) && all_digits text && leb (value_after v (b ∷ text)) most) (Some (value_after v (b ∷ text))) None
        go true l true k = absurd (h (leb-true 0x30 b l) (leb-true b 0x39 k))
        go true l false k = refl
        go false l t k = refl

    module _ (l : 0x30 ≤ b) (h : b ≤ 0x39) where
      pub number_next : number_after most v (b ∷ text) ≡ number_after most (10 * v + (b - 0x30)) text
      unfolding number_after value_after
      number_next = rw (le-leb 0x30 b l, le-leb b 0x39 h)

      pub number_over : most < 10 * v + (b - 0x30) → None ≡ number_after most v (b ∷ text)
      unfolding number_after value_after
      number_over k = rw (le-leb 0x30 b l, le-leb b 0x39 h, lt-leb (value_after (10 * v + (b - 0x30)) text) most (omega (arith, value_grows (10 * v + (b - 0x30)) text))) (by_digits (all_digits text))
        where
          by_digits : (t : Bool) → None ≡ cond (t && false) (Some (value_after (10 * v + (b - 0x30)) text)) None
          by_digits true = refl
          by_digits false = refl

-- the number of a narrower field is that of a wider one, where it fits
pub narrower : (narrow wide : ℕ) (text : List ℕ) → narrow ≤ wide → field_of narrow text ≡ cond (leb (field_of wide text) narrow) (field_of wide text) 0
unfolding number_after
narrower narrow wide text w = go (all_digits text) (leb v wide) refl (leb v narrow) refl
  where
    v : ℕ
    v = value_after 0 text

    held : Bool → ℕ
    held t = unwrap_or (cond t (Some v) None) 0

    none : ◌≡◌ {A = ℕ} 0 (cond (leb 0 narrow) 0 0)
    none = rw (le-leb 0 narrow (omega arith)) refl

    go : (d s : Bool) → leb v wide ≡ s → (t : Bool) → leb v narrow ≡ t → held (d && t) ≡ cond (leb (held (d && s)) narrow) (held (d && s)) 0
    go false s e t k = none
    go true true e true k = rw k refl
    go true true e false k = rw k refl
    go true false e true k = absurd (omega (arith, leb-true v narrow k, leb-false v wide e))
    go true false e false k = none
