-- Laws of reading: a stage is what its eighteen words say. Assumes nothing.
use Rattle.std.specs.Prelude.{◌≡◌, List, length, take}
use Rattle.std.proofs.Math.Path.{refl}
use Rattle.std.proofs.Common.{ap₂, ◌∙◌, arith, length-append, get_or-take}
use Prim.Native.Nat.{ℕ, zero, suc, ◌+◌, ◌≤◌, ◌<◌}
use Rattle.filters.specs.declared.FilterMemory.{FilterMemory}
use Rattle.rates.specs.declared.ResamplerState.{ResamplerState}
use Rattle.stage.specs.declared.StageKind.{StageKind}
use Rattle.stage.specs.declared.StageKind.TheVariants as kind
use Rattle.stage.specs.declared.SoundMemory.{SoundMemory}
use Rattle.stage.specs.declared.Stage.{Stage}
use Rattle.stage_words.specs.Layout.{setting_words, filter_words, state_words, memory_words, words_of_stage, word, kind_of, filter_of, state_of, memory_of, stage_of}
use Rattle.stage_words.specs.Storable.{Small, SmallKind}

-- ---- lengths
pub length_settings : (k : StageKind) → length (setting_words k) ≡ 7
unfolding setting_words
length_settings (kind.Gain g) = refl
length_settings kind.MonoToStereo = refl
length_settings kind.StereoToMono = refl
length_settings (kind.Resample r) = refl
length_settings (kind.DcBlock d) = refl
length_settings (kind.Biquad b) = refl

pub length_memory : (m : SoundMemory) → length (memory_words m) ≡ 11
unfolding memory_words filter_words state_words
length_memory m = refl

pub length_stage : (s : Stage) → length (words_of_stage s) ≡ 18
unfolding words_of_stage
length_stage s = length-append (setting_words s.kind) (memory_words s.memory) ∙ ap₂ ◌+◌ (length_settings s.kind) (length_memory s.memory)

-- ---- a stage is what its eighteen words say
pub kind_same : (a b : List ℕ) → ((j : ℕ) → j < 7 → word a j ≡ word b j) → kind_of a (word a 0) ≡ kind_of b (word b 0)
unfolding kind_of
kind_same a b h = rw (h 0 (omega arith), h 1 (omega arith), h 2 (omega arith), h 3 (omega arith), h 4 (omega arith), h 5 (omega arith), h 6 (omega arith))

pub filter_same : (a b : List ℕ) → ((j : ℕ) → 7 ≤ j → j < 15 → word a j ≡ word b j) → filter_of a ≡ filter_of b
unfolding filter_of
filter_same a b h = rw (
  h 7 (omega arith) (omega arith),
  h 8 (omega arith) (omega arith),
  h 9 (omega arith) (omega arith),
  h 10 (omega arith) (omega arith),
  h 11 (omega arith) (omega arith),
  h 12 (omega arith) (omega arith),
  h 13 (omega arith) (omega arith),
  h 14 (omega arith) (omega arith),
)

pub state_same : (a b : List ℕ) → ((j : ℕ) → 15 ≤ j → j < 18 → word a j ≡ word b j) → state_of a ≡ state_of b
unfolding state_of
state_same a b h = rw (h 15 (omega arith) (omega arith), h 16 (omega arith) (omega arith), h 17 (omega arith) (omega arith))

pub memory_same : (a b : List ℕ) → ((j : ℕ) → 7 ≤ j → j < 18 → word a j ≡ word b j) → memory_of a ≡ memory_of b
memory_same a b h =
    ap₂ (λ (x : FilterMemory) (y : ResamplerState). record { filter = x; resampler = y })
    (filter_same a b (λ j l k. h j l (omega arith)))
    (state_same a b (λ j l k. h j (omega arith) k))

pub stage_same : (a b : List ℕ) → ((j : ℕ) → j < 18 → word a j ≡ word b j) → stage_of a ≡ stage_of b
stage_same a b h = ap₂ (λ (k : StageKind) (m : SoundMemory). record { kind = k; memory = m }) (kind_same a b (λ j l. h j (omega arith))) (memory_same a b (λ j l k. h j k))

-- and no word past them
pub stage_front : (w : List ℕ) → stage_of (take 18 w) ≡ stage_of w
stage_front w = stage_same (take 18 w) w (λ j h. get_or-take 18 w j 0 h)

-- ---- a stage of words is small
module _ (w : List ℕ) (h : (i : ℕ) → word w i < 4294967296) where
  pub small_kind : (n : ℕ) → SmallKind (kind_of w n)
  unfolding kind_of
  small_kind zero = tt
  small_kind (suc zero) = tt
  small_kind (suc (suc zero)) = tt
  small_kind (suc (suc (suc zero))) = tt
  small_kind (suc (suc (suc (suc zero)))) = (h 3, h 4)
  small_kind (suc (suc (suc (suc (suc zero))))) = tt
  small_kind (suc (suc (suc (suc (suc (suc zero)))))) = refl
  small_kind (suc (suc (suc (suc (suc (suc (suc n))))))) = tt

  pub small_stage : Small (stage_of w)
  unfolding state_of
  small_stage = record { kind = small_kind (word w 0); phase = h 16 }
