-- Opening a chain: the questions in their order, from a format and bytes to a chain or a refusal (document 01, 'The recipe' and 'The questions'; document 02, Q-4). Definitions only.
use Rattle.std.specs.Prelude.{cond, List, [], ◌∷◌, ◌++◌, ℕ, ◌-◌, length, replicate, Result, Ok, Err}
use Rattle.pcm.specs.declared.PcmFormat.{PcmFormat}
use Rattle.pcm.specs.declared.Error.{Error}
use Rattle.pcm.specs.declared.Error.TheVariants.{InvalidFormat}
use Rattle.pcm.specs.Formats.{format_allowed}
use Rattle.pcm.specs.Refusals.{ask, Verdict}
use Rattle.stage.specs.declared.StageKind.{StageKind}
use Rattle.stage.specs.declared.StageKind.TheVariants as kind
use Rattle.stage.specs.declared.Stage.{Stage}
use Rattle.stage.specs.Stages.{stage_as_opened, format_after}
use Rattle.recipe.specs.Records.{of_note, kind_at, record_at, record_verdict, records}
use Rattle.pipeline.specs.declared.Pipeline.{Pipeline}
use Rattle.opening.specs.Opening.{stage_verdict, stage_kind_of}

-- ---- all records
pub data Stages : Type 0 where
  opened : List Stage → Stages
  refused : Error → Stages

-- a question answered no ends the opening with its refusal
abbrev pub asked : Verdict → Stages → Stages
asked (Ok _) more = more
asked (Err e) more = refused e

abbrev pub front : Stage → Stages → Stages
front s (opened ss) = opened (s ∷ ss)
front s (refused e) = refused e

-- the stage of the next record
abbrev pub next_kind : PcmFormat → List ℕ → StageKind
next_kind f left = stage_kind_of f (record_at left)

-- the stages of records, each given by the bytes that are left there, where the format f reaches the first stage and so many more are allowed. A note is passed over
unfoldable pub open_records : ℕ → PcmFormat → List (List ℕ) → Stages
open_records more f [] = opened []
open_records more f (left ∷ later) =
    asked (record_verdict left)
    (cond (of_note (kind_at left))
    (open_records more f later)
    (asked (stage_verdict more f (record_at left))
    (front (stage_as_opened (next_kind f left)) (open_records (more - 1) (format_after f (next_kind f left)) later))))

-- the stages of a recipe's bytes
unfoldable pub open_stages : ℕ → PcmFormat → List ℕ → Stages
open_stages more f bytes = open_records more f (records bytes)

-- ---- the chain
-- what stands in a place that is not in use
abbrev pub unused_stage : Stage
unused_stage = stage_as_opened kind.MonoToStereo

unfoldable pub chain_of : PcmFormat → List Stage → Pipeline
chain_of f ss = record { stages = ss ++ replicate (8 - length ss) unused_stage; count = length ss; format = f; blocks = 0; empty_blocks = 0 }

abbrev pub opened_of : PcmFormat → Stages → Result Pipeline Error
opened_of f (opened ss) = Ok (chain_of f ss)
opened_of f (refused e) = Err e

-- is the rate 1 to 384,000 and the channel count 1 or 2? else 1. Then the records, at most eight of them stages
unfoldable pub open_call : PcmFormat → List ℕ → Result Pipeline Error
open_call f bytes = opened_of f (asked (ask (format_allowed f) InvalidFormat (Ok tt)) (open_stages 8 f bytes))
