-- The finish call where nothing is due: the chief theorem of this crate (document 02, Q-1). Assumes nothing.
use Rattle.std.specs.Prelude.{◌≡◌, ℕ, Ok}
use Rattle.std.proofs.Math.Path.{sym}
use Rattle.std.proofs.Common.{ap, ◌∙◌, le-leb}
use Rattle.std.proofs.Math.Bool.{true}
use mathlib.Core.List.{List, [], ◌++◌, map}
use Rattle.std.proofs.Math.ListN.{drop, take-append-drop}
use Rattle.pcm.specs.Frames.{bytes_of}
use Rattle.stage.specs.declared.Stage.{Stage}
use Rattle.stage.specs.Stages.{kinds_of, stage_as_opened, stage_clear}
use Rattle.pipeline.specs.declared.Pipeline.{Pipeline}
use Rattle.pipeline.specs.Reset.{reset_call}
use Rattle.pipeline.specs.WritingBack.{stages_of}
use Rattle.answers.specs.declared.Answer.TheVariants as answer
use Rattle.turns.specs.Turns.{Halves, halves}
use Rattle.block.specs.BlockCall.{legal, suited, shorter}
use Rattle.block.specs.laws.Bounds.{legal_parts}
use Rattle.block.specs.laws.Reaching.{bytes-nil}
use Rattle.finish.specs.FinishCall.{chain_end, end_clipped, end_verdict, ended_halves, finish_verdict, finished, finish_call}
use Rattle.finish.specs.laws.ChainEnd.{clear_is_opened, chain_end_opened, end_clipped_opened, end_room_opened, ended_opened}

-- of a chain whose stages remember nothing, as after opening, a reset or a finish, a finish is 'nothing yet' and alters nothing: whatever the
-- halves, empty ones too
module _ (c : Pipeline) (lawful : legal c ≡ true) (silent : stages_of c ≡ map stage_clear (stages_of c)) where
  as_opened : stages_of c ≡ map stage_as_opened (kinds_of (stages_of c))
  as_opened = silent ∙ clear_is_opened (stages_of c)

  accepted : (short : ℕ) → finish_verdict c short ≡ Ok tt
  unfolding finish_verdict
  accepted short =
      let suit : suited c.format (map stage_as_opened (kinds_of (stages_of c))) ≡ true = sym (ap (suited c.format) as_opened) ∙ (legal_parts c lawful).suit in
      rw lawful (ap (λ (l : List Stage). end_verdict c.format l 0 short) as_opened ∙ end_room_opened c.format (kinds_of (stages_of c)) short suit)

  no_bytes : bytes_of (chain_end c.format (stages_of c) []) ≡ []
  no_bytes = ap (λ (l : List Stage). bytes_of (chain_end c.format l [])) as_opened ∙ ap bytes_of (chain_end_opened c.format (kinds_of (stages_of c))) ∙ bytes-nil

  none_clipped : end_clipped c.format (stages_of c) [] ≡ 0
  none_clipped = ap (λ (l : List Stage). end_clipped c.format l []) as_opened ∙ end_clipped_opened c.format (kinds_of (stages_of c))

  same_halves : (h : Halves) → ended_halves 0 c.format (stages_of c) [] h ≡ h
  same_halves h = ap (λ (l : List Stage). ended_halves 0 c.format l [] h) as_opened ∙ ended_opened 0 c.format (kinds_of (stages_of c)) h

  same_chain : reset_call c ≡ c
  unfolding reset_call
  same_chain = rw (le-leb _ _ (legal_parts c lawful).few)
      (ap (λ (l : List Stage). let d : Pipeline = record { stages = l; count = c.count; format = c.format; blocks = c.blocks; empty_blocks = c.empty_blocks } in d)
      (ap (λ (l : List Stage). l ++ drop c.count c.stages) (sym silent) ∙ take-append-drop c.count c.stages))

  pub nothing_due : (a b : List ℕ) → finish_call c a b ≡ record { chain = c; answer = Ok (answer.NothingYet 0); a = a; b = b }
  unfolding finish_call finished
  nothing_due a b = rw (accepted (shorter a b), same_chain, no_bytes, none_clipped, same_halves (halves a b))
