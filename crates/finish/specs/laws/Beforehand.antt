-- What the walk that asks finds for all stages of a finish: the frames that leave. Assumes nothing.
use Rattle.std.specs.Prelude.{◌≡◌, refl, true, List, [], ◌∷◌, ℕ, length}
use Rattle.std.proofs.Common.{sym}
use Rattle.pcm.specs.declared.PcmFormat.{PcmFormat}
use Rattle.pcm.specs.Frames.{Frame}
use Rattle.stage.specs.declared.Stage.{Stage}
use Rattle.stage.specs.Stages.{format_after}
use Rattle.stage.specs.Rooms.{stage_suits}
use Rattle.ending.specs.StageEnd.{stage_end}
use Rattle.ending.specs.laws.StageEnd.{stage_end_count}
use Rattle.questions.specs.declared.Question.TheVariants.{Finish}
use Rattle.questions.specs.declared.Walk.{Walk}
use Rattle.questions.specs.Walk.{due_of, along}
use Rattle.block.specs.BlockCall.{suited}
use Rattle.block.specs.laws.Beforehand.{frames_through}
use Rattle.finish.specs.FinishCall.{chain_end}

none : (f : PcmFormat) (xs : List Frame) → chain_end f [] xs ≡ xs
unfolding chain_end
none f xs = refl

cons : (f : PcmFormat) (s : Stage) (l : List Stage) (xs : List Frame) → chain_end f (s ∷ l) xs ≡ chain_end (format_after f s.kind) l (stage_end f.channels s xs)
unfolding chain_end
cons f s l xs = refl

due_is : (f : PcmFormat) (s : Stage) (xs : List Frame) → stage_suits f s.kind s.memory ≡ true → (due_of Finish s (length xs)).delivered ≡ length (stage_end f.channels s xs)
unfolding due_of
due_is f s xs h = sym (stage_end_count f f.channels s xs h)

-- exactly as many as the stages that take xs and end deliver
pub frames_ending : (shorter : ℕ) (w : Walk) (l : List Stage) (xs : List Frame) → suited w.format l ≡ true → w.frames ≡ length xs → (along Finish shorter w l).frames ≡ length (chain_end w.format l xs)
frames_ending = frames_through Finish (λ f. stage_end f.channels) chain_end none cons due_is
