-- Numbers against two limits, from zero on and below. Assumes nothing.
use Rattle.std.specs.Prelude.{◌≡◌, refl, false, ℕ, zero, suc, ◌<◌, ltb, ℤ, pos, negsuc}
use Rattle.std.proofs.Common.{sym, ◌∙◌, arith, lt-ltb, le-ltb, SFits}
use Rattle.std.proofs.Math.Bool.{or-false}
use Rattle.std.proofs.Math.Decide.{dec_lt}
use Rattle.std.specs.Int.{w16}
use Rattle.pcm.specs.Integers.{−}
use Rattle.pcm.specs.Samples.{outside, outside16}

pub same_test : (a b c d : ℕ) → (a < b → c < d) → (c < d → a < b) → ltb a b ≡ ltb c d
same_test a b c d f g = go (dec_lt a b)
  where
    go : Dec (a < b) → ltb a b ≡ ltb c d
    go (yes h) = lt-ltb a b h ∙ sym (lt-ltb c d (f h))
    go (no h) = go' (dec_lt c d)
      where
        go' : Dec (c < d) → ltb a b ≡ ltb c d
        go' (yes k) = absurd (h (g k))
        go' (no k) = le-ltb a b (omega arith) ∙ sym (le-ltb c d (omega arith))

pub outside-pos : (l h a : ℕ) → outside (− l) (pos h) (pos a) ≡ ltb h a
unfolding outside
outside-pos zero h a = rw (le-ltb a 0 (omega arith))
outside-pos (suc l) h a = refl

pub outside-neg : (l h a : ℕ) → outside (− l) (pos h) (negsuc a) ≡ ltb l (suc a)
unfolding outside
outside-neg zero h a = sym (lt-ltb 0 (suc a) (omega arith))
outside-neg (suc l) h a = or-false (ltb l a) ∙ same_test l a (suc l) (suc a) (λ k. omega arith) (λ k. omega arith)

-- a sample lies inside its own range
pub sample_inside : (x : ℤ) → SFits w16 x → outside16 x ≡ false
sample_inside (pos a) f = outside-pos 32768 32767 a ∙ le-ltb 32767 a (omega (arith, f.sfits))
sample_inside (negsuc a) f = outside-neg 32768 32767 a ∙ le-ltb 32768 (suc a) f.sfits
