-- The format that leaves, and the cleared stages, one stage more. Assumes nothing.
use mathlib.Core.Path.{◌≡◌, refl, ap}
use mathlib.Core.List.{List, [], ◌∷◌, ◌++◌, map, append-nil}
use Prim.Native.Nat.{ℕ, zero, suc, ◌+◌, ◌≤◌, ◌<◌}
use native.Mathlib.Numerals.{add-one}
use native.Mathlib.Omega.{arith}
use lib.ListN.{length, take, drop, set, get_or, drop_of_length-le}
use lib.Seq.{take_all}
use Rattle.pcm.specs.declared.PcmFormat.{PcmFormat}
use Rattle.stage.specs.declared.Stage.{Stage}
use Rattle.stage.specs.Stages.{format_after, stage_clear}
use Rattle.stage.specs.Places.{no_stage}
use Rattle.pipeline.specs.Reset.{format_leaving}

-- ---- laws: one stage more
pub leaving_none : (f : PcmFormat) → format_leaving f [] ≡ f
unfolding format_leaving
leaving_none f = refl

pub leaving_next : (f : PcmFormat) (l : List Stage) (i : ℕ) → i < length l → format_leaving f (take (i + 1) l) ≡ format_after (format_leaving f (take i l)) (get_or l i no_stage).kind
unfolding format_leaving
leaving_next f l i h = rw add-one (go f l i h)
  where
    go : (f : PcmFormat) (l : List Stage) (i : ℕ) → i < length l → format_leaving f (take (suc i) l) ≡ format_after (format_leaving f (take i l)) (get_or l i no_stage).kind
    go f [] i h = absurd (let z : ⊥ = omega arith in z)
    go f (s ∷ l) zero h = refl
    go f (s ∷ l) (suc i) h = go (format_after f s.kind) l i (omega arith)

unfoldable pub cleared_front : ℕ → List Stage → List Stage
cleared_front n l = map stage_clear (take n l) ++ drop n l

pub cleared_none : (l : List Stage) → cleared_front 0 l ≡ l
unfolding cleared_front
cleared_none l = refl

pub cleared_next : (l : List Stage) (i : ℕ) → i < length l → set (cleared_front i l) i (stage_clear (get_or (cleared_front i l) i no_stage)) ≡ cleared_front (i + 1) l
unfolding cleared_front
cleared_next l i h = rw add-one (go l i h)
  where
    go : (l : List Stage) (i : ℕ) → i < length l → set (cleared_front i l) i (stage_clear (get_or (cleared_front i l) i no_stage)) ≡ cleared_front (suc i) l
    go [] i h = absurd (let z : ⊥ = omega arith in z)
    go (s ∷ []) zero h = refl
    go (s ∷ t ∷ l) zero h = refl
    go (s ∷ l) (suc i) h = ap (λ (m : List Stage). stage_clear s ∷ m) (go l i (omega arith))

pub cleared_all : (l : List Stage) (n : ℕ) → length l ≤ n → cleared_front n l ≡ map stage_clear l
unfolding cleared_front
cleared_all l n h = rw (take_all n l h, drop_of_length-le l {i = n} h) (append-nil (map stage_clear l))
