-- One stage's turn in a block (document 01, pipeline.rs): what it reads and writes, and what a stage of any kind takes and makes. Definitions only.
use Rattle.std.specs.Prelude.{List, ℕ, ◌%◌, ◌≡◌, cond, eqb, length, take}
use Rattle.std.specs.Borrow.{Bor, MutBor}
use Rattle.std.specs.Fn.{Once}
use Rattle.pcm.specs.declared.PcmFormat.{PcmFormat}
use Rattle.pcm.specs.Frames.{FramesOf, frames_of}
use Rattle.stage.specs.declared.SoundMemory.{SoundMemory}
use Rattle.stage.specs.declared.Stage.{Stage}
use Rattle.stage.specs.Stages.{stage_clipped}
use Rattle.stage.specs.Rooms.{Served, Serves}

-- ---- an accepted block
-- the two halves that the caller lends
pub record Halves : Type 0 where
  pub a : List ℕ
  pub b : List ℕ

abbrev pub halves : List ℕ → List ℕ → Halves
halves a b = record { a = a; b = b }

-- stage 1 reads the block, and each later one the first n bytes of the half that the one before wrote
abbrev pub source_at : ℕ → ℕ → List ℕ → Halves → List ℕ
source_at i n block h = cond (eqb i 0) block (cond (eqb (i % 2) 0) (take n h.b) (take n h.a))

abbrev pub target_at : ℕ → Halves → List ℕ
target_at i h = cond (eqb (i % 2) 0) h.a h.b

abbrev pub other_at : ℕ → Halves → List ℕ
other_at i h = cond (eqb (i % 2) 0) h.b h.a

-- what a stage with an even i reads
abbrev pub even_source : ℕ → ℕ → List ℕ → List ℕ → List ℕ
even_source i n block b = cond (eqb i 0) block (take n b)

-- stage i + 1 reads n bytes, and what its own function asks of them and of its half holds
pub record TurnAsks (i n : ℕ) (block : List ℕ) (h : Halves) (Asks : List ℕ → List ℕ → Type 0) : Type 0 where
  pub reads : length (source_at i n block h) ≡ n
  pub asks : Asks (source_at i n block h) (target_at i h)

-- what its own function does was done to its half, and the other half is as it was
pub record TurnDoes (i n : ℕ) (block : List ℕ) (before after : Halves) (Does : List ℕ → List ℕ → List ℕ → Type 0) : Type 0 where
  pub does : Does (source_at i n block before) (target_at i before) (target_at i after)
  pub other : other_at i after ≡ other_at i before

-- ---- a step from the bytes read to the half
module _ {F R : Type 0} (g : Once F (Bor (List ℕ) × (MutBor (List ℕ) × Unit {0})) (R × (MutBor (List ℕ) × Unit {0}))) (step : F) where
  -- it may be run there
  abbrev pub StepAsks : List ℕ → List ℕ → Type 0
  StepAsks source target = (input : Bor (List ℕ)) (out : MutBor (List ℕ)) → input.now ≡ source → out.now ≡ target → g.pre step (input, (out, tt))

  -- it was run there, gave r, and left `after` in the half
  pub record StepDoes (r : R) (source before after : List ℕ) : Type 0 where
    pub input : Bor (List ℕ)
    pub reads : input.now ≡ source
    pub out : MutBor (List ℕ)
    pub finds : out.now ≡ before
    pub left : MutBor (List ℕ)
    pub met : g.post step (input, (out, tt)) (r, (left, tt))
    pub leaves : left.now ≡ after

-- ---- a stage of any kind
-- it asks for frames of the format that reaches it, and the room that it wants
abbrev pub Takes : PcmFormat → Stage → List ℕ → List ℕ → Type 0
Takes f s source target = Served f s source target × FramesOf f.channels (frames_of f.channels source)

-- it makes of them what its definition says, keeps the memory that it says, and holds back as many samples as it says
pub record Makes (f : PcmFormat) (s : Stage) (memory : SoundMemory) (len clipped : ℕ) (source before after : List ℕ) : Type 0 where
  pub serves : Serves f s (record { kind = s.kind; memory = memory }) (frames_of f.channels source) len before after
  pub holds : clipped ≡ stage_clipped s (frames_of f.channels source)
