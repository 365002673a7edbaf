-- What the walk that asks finds for all stages: the frames that leave, and the largest room against the first short. Assumes nothing.
use Rattle.std.specs.Prelude.{◌≡◌, Bool, ℕ, ◌*◌, ◌≤◌, ◌<◌, length, Option, None, Some, MatchOption}
use Rattle.std.proofs.Math.Path.{refl, ap, ap₂}
use Rattle.std.proofs.Common.{sym, ◌∙◌, le_refl, suc-ne-zero}
use Rattle.std.proofs.Math.Bool.{true, false, cond}
use mathlib.Core.List.{List, [], ◌∷◌}
use Rattle.std.proofs.Math.Nat.{le_trans}
use borrow.Author.Tests.{leb-true, leb-false, ne_eqb}
use Rattle.std.proofs.Math.Dec.{leb}
use Rattle.pcm.specs.declared.PcmFormat.{PcmFormat}
use Rattle.pcm.specs.Frames.{Frame}
use Rattle.stage.specs.declared.Stage.{Stage}
use Rattle.stage.specs.Stages.{stage_out, format_after}
use Rattle.stage.specs.laws.Stages.{stage_out-nil}
use Rattle.stage.specs.Rooms.{stage_suits}
use Rattle.stage.specs.laws.Rooms.{stage_count}
use Rattle.questions.specs.declared.Question.{Question}
use Rattle.questions.specs.declared.Question.TheVariants.{Block}
use Rattle.questions.specs.declared.Walk.{Walk}
use Rattle.block.specs.Chain.{chain_out}
use Rattle.block.specs.BlockCall.{suited}
use Rattle.questions.specs.Walk.{larger, due_of, first_short, room_of, further, begun, along, copy_room, block_frames}
use Rattle.block.specs.laws.Bounds.{suited_first, suited_rest, larger_left, larger_right, larger_least}
use Rattle.block.specs.laws.Walking.{further_format}

-- ---- the frames that leave
further_frames : (q : Question) (shorter : ℕ) (w : Walk) (s : Stage) → (further q shorter w s).frames ≡ (due_of q s w.frames).delivered
unfolding further
further_frames q shorter w s = refl

-- exactly as many as the stages will make of xs: `makes` is what one stage that a format reaches makes, `through` what all of them do
module _ (q : Question) (makes : PcmFormat → Stage → List Frame → List Frame) (through : PcmFormat → List Stage → List Frame → List Frame)
    (through-none : (f : PcmFormat) (xs : List Frame) → through f [] xs ≡ xs)
    (through-cons : (f : PcmFormat) (s : Stage) (l : List Stage) (xs : List Frame) → through f (s ∷ l) xs ≡ through (format_after f s.kind) l (makes f s xs))
    (counted : (f : PcmFormat) (s : Stage) (xs : List Frame) → stage_suits f s.kind s.memory ≡ true → (due_of q s (length xs)).delivered ≡ length (makes f s xs))
    (shorter : ℕ) where
  pub frames_through : (w : Walk) (l : List Stage) (xs : List Frame) → suited w.format l ≡ true → w.frames ≡ length xs → (along q shorter w l).frames ≡ length (through w.format l xs)
  unfolding along
  frames_through w [] xs u e = e ∙ ap length (sym (through-none w.format xs))
  frames_through w (s ∷ l) xs u e =
      frames_through (further q shorter w s) l (makes w.format s xs) (ap (λ (f : PcmFormat). suited f l) (further_format q shorter w s) ∙ suited_rest w.format s l u)
      (further_frames q shorter w s ∙ ap (λ (n : ℕ). (due_of q s n).delivered) e ∙ counted w.format s xs (suited_first w.format s l u))
      ∙ ap length (ap (λ (f : PcmFormat). through f l (makes w.format s xs)) (further_format q shorter w s) ∙ sym (through-cons w.format s l xs))

-- of a block
due_is : (s : Stage) (xs : List Frame) → (due_of Block s (length xs)).delivered ≡ length (stage_out s xs)
unfolding due_of
due_is s [] = sym (ap length (stage_out-nil s))
due_is s (x ∷ xs) = rw (ne_eqb (length (x ∷ xs)) 0 (suc-ne-zero (length xs))) (sym (stage_count s (x ∷ xs)))

pub frames_leaving : (shorter : ℕ) (w : Walk) (l : List Stage) (xs : List Frame) → suited w.format l ≡ true → w.frames ≡ length xs → (along Block shorter w l).frames ≡ length (chain_out l xs)
frames_leaving shorter = frames_through Block (λ f s xs. stage_out s xs) (λ f l xs. chain_out l xs) (λ f xs. refl) (λ f s l xs. refl) (λ f s xs h. due_is s xs) shorter

-- ---- no stage is short exactly where the shorter half holds the largest room; the first room short is more than that half, and no more than
-- the largest
abbrev pub IsShort : ℕ → ℕ → Option ℕ → Type 0
IsShort shorter largest short = MatchOption short (largest ≤ shorter) (λ room. (shorter < room) × (room ≤ largest))

pub record Fits (shorter : ℕ) (w : Walk) : Type 0 where
  pub short : IsShort shorter w.largest w.short

first_fits : (shorter room : ℕ) → IsShort shorter room (first_short shorter None room)
unfolding first_short
first_fits shorter room = go (leb room shorter) refl
  where
    go : (t : Bool) → leb room shorter ≡ t → IsShort shorter room (cond t None (Some room))
    go true e = leb-true room shorter e
    go false e = (leb-false room shorter e, le_refl room)

next_fits : (shorter largest room : ℕ) (short : Option ℕ) → IsShort shorter largest short → IsShort shorter (larger largest room) (first_short shorter short room)
unfolding first_short
next_fits shorter largest room (Some n) p = (p.0, le_trans p.1 (larger_left largest room))
next_fits shorter largest room None p = go (leb room shorter) refl
  where
    go : (t : Bool) → leb room shorter ≡ t → IsShort shorter (larger largest room) (cond t None (Some room))
    go true e = larger_least largest room shorter p (leb-true room shorter e)
    go false e = (leb-false room shorter e, larger_right largest room)

module _ (q : Question) (shorter : ℕ) where
  further_fits : (w : Walk) (s : Stage) → Fits shorter w → Fits shorter (further q shorter w s)
  unfolding further
  further_fits w s p = record { short = next_fits shorter w.largest (room_of q w s) w.short p.short }

  pub along_fits : (w : Walk) (l : List Stage) → Fits shorter w → Fits shorter (along q shorter w l)
  unfolding along
  along_fits w [] p = p
  along_fits w (s ∷ l) p = along_fits (further q shorter w s) l (further_fits w s p)

pub begun_fits : (f : PcmFormat) (count size shorter : ℕ) → Fits shorter (begun f count size shorter)
unfolding begun
begun_fits f count size shorter = record { short = first_fits shorter (copy_room count (block_frames f size * (f.channels * 2))) }

-- ---- the largest room is the same whatever the halves
pub record Alike (v w : Walk) : Type 0 where
  pub format : v.format ≡ w.format
  pub frames : v.frames ≡ w.frames
  pub largest : v.largest ≡ w.largest

module _ (q : Question) (shorter other : ℕ) where
  further_alike : (v w : Walk) (s : Stage) → Alike v w → Alike (further q shorter v s) (further q other w s)
  unfolding further room_of
  further_alike v w s p = record {
    format = ap (λ (f : PcmFormat). format_after f s.kind) p.format;
    frames = ap (λ (n : ℕ). (due_of q s n).delivered) p.frames;
    largest = ap₂ larger p.largest (ap₂ (λ (n : ℕ) (f : PcmFormat). (due_of q s n).wanted * ((format_after f s.kind).channels * 2)) p.frames p.format);
  }

  pub along_alike : (v w : Walk) (l : List Stage) → Alike v w → Alike (along q shorter v l) (along q other w l)
  unfolding along
  along_alike v w [] p = p
  along_alike v w (s ∷ l) p = along_alike (further q shorter v s) (further q other w s) l (further_alike v w s p)
