-- One frame at the front of a buffer. Assumes nothing.
use mathlib.Core.Path.{◌≡◌, refl, sym, ap, ◌∙◌}
use mathlib.Core.List.{List, [], ◌∷◌}
use Prim.Native.Nat.{ℕ, ◌≤◌}
use native.Mathlib.Omega.{arith}
use lib.IntN.{ℤ, pos}
use lib.ListN.{length, take, get_or}
use Rattle.pcm.specs.Samples.{stored}
use Rattle.pcm.specs.Frames.{Frame, bytes_of, written}
use Rattle.pcm.specs.laws.Frames.{written-nil}
use Rattle.end_turns.specs.EndTurns.{Fronted}

-- nothing to write
pub none_fronted : (fs : List Frame) (out : List ℕ) → fs ≡ [] → Fronted fs out out 0
unfolding bytes_of
none_fronted fs out e = rw e (record { size = refl; bytes_are = sym (written-nil out) })

mono_front : (l : List ℤ) (out : List ℕ) → length l ≡ 2 → 2 ≤ length out → stored out 0 (get_or l 0 (pos 0)) ≡ written (bytes_of (take 1 l ∷ [])) out
unfolding stored bytes_of written
mono_front [] out h k = absurd (let z : ⊥ = omega arith in z)
mono_front (x ∷ l) [] h k = absurd (let z : ⊥ = omega arith in z)
mono_front (x ∷ l) (a ∷ []) h k = absurd (let z : ⊥ = omega arith in z)
mono_front (x ∷ l) (a ∷ b ∷ out) h k = refl

stereo_front : (l : List ℤ) (out : List ℕ) → length l ≡ 2 → 4 ≤ length out → stored (stored out 0 (get_or l 0 (pos 0))) 2 (get_or l 1 (pos 0)) ≡ written (bytes_of (take 2 l ∷ [])) out
unfolding stored bytes_of written
stereo_front [] out h k = absurd (let z : ⊥ = omega arith in z)
stereo_front (x ∷ []) out h k = absurd (let z : ⊥ = omega arith in z)
stereo_front (x ∷ y ∷ l) [] h k = absurd (let z : ⊥ = omega arith in z)
stereo_front (x ∷ y ∷ l) (a ∷ []) h k = absurd (let z : ⊥ = omega arith in z)
stereo_front (x ∷ y ∷ l) (a ∷ b ∷ []) h k = absurd (let z : ⊥ = omega arith in z)
stereo_front (x ∷ y ∷ l) (a ∷ b ∷ c ∷ []) h k = absurd (let z : ⊥ = omega arith in z)
stereo_front (x ∷ y ∷ l) (a ∷ b ∷ c ∷ d ∷ out) h k = refl

mono_size : (l : List ℤ) → length l ≡ 2 → 2 ≡ length (bytes_of (take 1 l ∷ []))
unfolding bytes_of
mono_size [] h = absurd (let z : ⊥ = omega arith in z)
mono_size (x ∷ l) h = refl

stereo_size : (l : List ℤ) → length l ≡ 2 → 4 ≡ length (bytes_of (take 2 l ∷ []))
unfolding bytes_of
stereo_size [] h = absurd (let z : ⊥ = omega arith in z)
stereo_size (x ∷ []) h = absurd (let z : ⊥ = omega arith in z)
stereo_size (x ∷ y ∷ l) h = refl

module _ (l : List ℤ) (out : List ℕ) (two : length l ≡ 2) where
  pub mono_fronted : (ch : ℕ) (out' : List ℕ) → ch ≡ 1 → 2 ≤ length out → out' ≡ stored out 0 (get_or l 0 (pos 0)) → Fronted (take ch l ∷ []) out out' 2
  mono_fronted ch out' e k s = rw e (record { size = mono_size l two; bytes_are = s ∙ mono_front l out two k })

  pub stereo_fronted : (ch : ℕ) (mid out' : List ℕ) → ch ≡ 2 → 4 ≤ length out → mid ≡ stored out 0 (get_or l 0 (pos 0)) → out' ≡ stored mid 2 (get_or l 1 (pos 0))
      → Fronted (take ch l ∷ []) out out' 4
  stereo_fronted ch mid out' e k s t =
      rw e (record { size = stereo_size l two; bytes_are = t ∙ ap (λ (m : List ℕ). stored m 2 (get_or l 1 (pos 0))) s ∙ stereo_front l out two k })
