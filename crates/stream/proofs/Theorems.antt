-- What the definitions come to: the chief theorems of this crate. Assumes nothing.
use Rattle.std.specs.Prelude.{◌≡◌, refl, Bool, true, false, List, [], ◌∷◌, map, ℕ, ◌*◌, ◌≤◌, ◌<◌, length, drop, Ok}
use Rattle.std.proofs.Common.{sym, ap, ◌∙◌, arith, le-leb, zero-add}
use Rattle.pcm.specs.declared.PcmFormat.{PcmFormat}
use Rattle.pcm.specs.declared.Error.TheVariants.{InvalidFormat}
use Rattle.pcm.specs.Formats.{format_allowed}
use Rattle.pcm.specs.Refusals.{ask, number_of, room_verdict}
use Rattle.pipeline.specs.Opening.{asked, open_stages, opened_of, open_call}
use Rattle.stream.specs.Opened.{FreshlyOpened, kinds_in}
use Rattle.pipeline.proofs.laws.Opening.{zero_not_one}
use Rattle.stream.proofs.laws.Opening.{stages_opened, stages_chain}
use Rattle.pcm.specs.Samples.{All, Bytes}
use Rattle.stream.specs.Calls.{Call, Lent, Run, fresh}
use Rattle.stream.specs.Stream.{running, fed, within, stream_of, run_of}
use Rattle.stream.specs.FromChain.{Since}
use Rattle.stream.proofs.laws.FromChain.{begun}
use Rattle.stream.specs.WholeStream.{WholeStream}
use Rattle.stream.proofs.laws.WholeStream.{whole_stream_of}
use Rattle.pcm.specs.Frames.{Frame}
use Rattle.stage.specs.Stages.{kinds_of, stage_clear}
use Rattle.pipeline.specs.declared.Pipeline.{Pipeline}
use Rattle.recipe.specs.Notes.{notes_in, without_notes}
use Rattle.recipe.specs.Theorems.{no_notes}
use Rattle.writing.specs.WritingBack.{recipe_of}
use Rattle.pipeline.specs.WritingBack.{write_verdict, write_outcome, write_call, stages_of}
use Rattle.pipeline.proofs.laws.RoundTrip.{recipe_of_kinds}
use Rattle.pipeline.proofs.RecipeKept.{recipe_kept}
use Rattle.block.specs.BlockCall.{legal, block_verdict, scratch_bytes}
use Rattle.block.specs.laws.Bounds.{legal_parts}
use Rattle.block.specs.Theorems.{scratch_suffices}
use Rattle.block.specs.Chain.{chain_next}
use Rattle.block.specs.laws.Chain.{chain_next-nil}
use Rattle.answers.specs.declared.Answer.TheVariants as answer
use Rattle.finish.specs.FinishCall.{finish_call}
use Rattle.finish.specs.Theorems.{nothing_due}
use Rattle.room.specs.Beforehand.{BlockBeforehand, FinishBeforehand}
use Rattle.room.proofs.Theorems.{block_beforehand, finish_beforehand}
use Rattle.stream.proofs.laws.Sounding.{sounding}
use Rattle.stream.proofs.laws.AfterCalls.{state_plain, legal_since, stands_within, after_all}
use Rattle.stream.proofs.laws.Afterwards.{kinds_of_state}
use Rattle.stream.specs.Counters.{held_count, accepted_blocks, nothing_from}
use Rattle.stream.proofs.laws.Counters.{nothing_calls, counted_calls, open_counters}
use Rattle.stage.specs.declared.StageKind.{StageKind}
use Rattle.stream.specs.PlainChain.{plain_stage, received_by, delivered_by}
use Rattle.stream.proofs.laws.PlainChain.{through_stage}
use Rattle.stream.specs.PlainEnd.{plain_ended, received_at_end, delivered_at_end}

pub opened_chain : (f : PcmFormat) (recipe : List ℕ) (o : Pipeline) → open_call f recipe ≡ Ok o → FreshlyOpened o
unfolding open_call
opened_chain f recipe o h = go (format_allowed f) refl h
  where
    go : (t : Bool) → format_allowed f ≡ t → opened_of f (asked (ask t InvalidFormat (Ok tt)) (open_stages 8 f recipe)) ≡ Ok o → FreshlyOpened o
    go true e h = stages_chain f e (open_stages 8 f recipe) (stages_opened 8 f recipe) o h
    go false e h = zero_not_one (cc)

-- a chain that opening accepted is one that the block call takes
pub opened_is_legal : (f : PcmFormat) (recipe : List ℕ) (o : Pipeline) → open_call f recipe ≡ Ok o → legal o ≡ true
opened_is_legal f recipe o h = (opened_chain f recipe o h).lawful

-- whatever the format and the recipe that opening accepts, the block, reset and finish calls, and the blocks and halves that they bring
pub whole_stream : (f : PcmFormat) (recipe : List ℕ) (o : Pipeline) → open_call f recipe ≡ Ok o → (calls : List Call) → All Lent calls
    → WholeStream o (stream_of o calls) (run_of o calls)
whole_stream f recipe o h calls lent = whole_stream_of o (opened_chain f recipe o h) calls lent

module _ (f : PcmFormat) (recipe : List ℕ) (o : Pipeline) (h : open_call f recipe ≡ Ok o) (calls : List Call) (lent : All Lent calls) where
  -- the chain as the calls left it
  abbrev c : Pipeline
  c = (run_of o calls).chain

  whole : WholeStream o (stream_of o calls) (run_of o calls)
  whole = whole_stream f recipe o h calls lent

  -- the chain as the next call finds it
  next_call : Since o (fed (stream_of o calls)) (within (stream_of o calls) (run_of o calls))
  next_call = stands_within o (opened_chain f recipe o h) (stream_of o calls) (run_of o calls) (after_all o (opened_chain f recipe o h) calls lent)

  kinds_kept : kinds_in c ≡ kinds_in o
  kinds_kept = ap kinds_of (state_plain o (opened_chain f recipe o h) next_call) ∙ kinds_of_state (kinds_in o) (fed (stream_of o calls))

  few : c.count ≤ 8
  few = omega (arith, whole.count, (legal_parts o (opened_chain f recipe o h).lawful).few)

  -- and stays one, whatever the calls
  pub still_legal : legal c ≡ true
  still_legal = legal_since o (opened_chain f recipe o h) next_call

  -- a chain writes itself back to the bytes it was opened from, without their notes; needed is the bytes so written
  pub writes_back : Bytes recipe → (out : List ℕ) → write_call c out ≡ write_outcome (room_verdict (length (without_notes recipe)) (length out)) (without_notes recipe) out
  unfolding write_call write_verdict
  writes_back b out =
      let kept : recipe_of (stages_of c) ≡ without_notes recipe = recipe_of_kinds (stages_of c) (stages_of o) kinds_kept ∙ recipe_kept f recipe o h b in
      rw (le-leb c.count 8 few, kept)

  -- and to those very bytes where they hold none
  pub writes_back_exactly : Bytes recipe → notes_in recipe ≡ [] → (out : List ℕ) → write_call c out ≡ write_outcome (room_verdict (length recipe) (length out)) recipe out
  writes_back_exactly b n = let k = no_notes recipe n in rw k at (writes_back b)

  -- `scratch_bytes` of the chain as opened: halves of half that figure each never give 3
  pub scratch_still_suffices : (format : PcmFormat) (size figure short : ℕ) → scratch_bytes o size ≡ Ok figure → figure ≤ 2 * short
      → number_of (block_verdict c format size short) ≡ 3 → ⊥
  scratch_still_suffices format size figure short e room three =
      scratch_suffices o c format size figure short (sym whole.format) (sym kinds_kept)
      still_legal e room three

  -- with no frames since opening, the last reset or the last accepted finish, a finish is 'nothing yet' and alters nothing, whatever the halves
  pub nothing_to_finish : fed (stream_of o calls) ≡ [] → (a b : List ℕ) → finish_call c a b ≡ record { chain = c; answer = Ok (answer.NothingYet 0); a = a; b = b }
  nothing_to_finish e a b =
      let s : stages_of c ≡ stages_of o = next_call.moved.stages ∙ ap (chain_next (stages_of o)) e ∙ chain_next-nil (stages_of o) in
      nothing_due c still_legal (s ∙ (opened_chain f recipe o h).silent ∙ ap (map stage_clear) (sym s)) a b

  -- the room known beforehand: `block_room` refuses no count of 1 to 8,192 frames, and what it answers is what the next block then does
  pub block_still_beforehand : (n : ℕ) → 0 < n → n ≤ 8192 → BlockBeforehand c n
  block_still_beforehand = block_beforehand c (sounding o (opened_chain f recipe o h) next_call) still_legal

  -- `finish_room` refuses nothing, and what it answers is what the next finish then does
  pub finish_still_beforehand : FinishBeforehand c
  finish_still_beforehand = finish_beforehand c (sounding o (opened_chain f recipe o h) next_call) still_legal

-- `blocks` grows with each accepted block; reset and finish clear sound state, not counters
pub blocks_counted : (f : PcmFormat) (recipe : List ℕ) (o : Pipeline) → open_call f recipe ≡ Ok o → (calls : List Call) → All Lent calls
    → (run_of o calls).chain.blocks ≡ held_count (accepted_blocks o calls)
unfolding held_count
blocks_counted f recipe o h calls lent =
    let w : FreshlyOpened o = opened_chain f recipe o h in
    counted_calls o w (running []) (fresh o) calls 0 (begun o w.places) lent (open_counters f recipe o h).0
    ∙ ap held_count (zero-add (accepted_blocks o calls))

-- `empty_blocks` grows with each block that answers 'nothing yet': of any chain that has counted none, as of one that opening answered
pub empty_blocks_counted : (o : Pipeline) → o.empty_blocks ≡ 0 → (calls : List Call)
    → (run_of o calls).chain.empty_blocks ≡ held_count (nothing_from (fresh o) calls)
unfolding held_count
empty_blocks_counted o none calls =
    let r : Run = fresh o in
    nothing_calls o (running []) r r calls 0 refl none ∙ ap held_count (zero-add (nothing_from r calls))

pub opened_empty : (f : PcmFormat) (recipe : List ℕ) (o : Pipeline) → open_call f recipe ≡ Ok o → o.empty_blocks ≡ 0
opened_empty f recipe o h = (open_counters f recipe o h).1

-- ---- the stage with i stages before it delivers what its definition makes of what it has received
module _ (i : ℕ) (ks : List StageKind) (k : StageKind) (rest : List StageKind) (X : List Frame) (e : drop i ks ≡ k ∷ rest) where
  pub delivered_of_received : delivered_by i ks X ≡ plain_stage k (received_by i ks X)
  delivered_of_received = through_stage plain_stage i ks k rest X e

  -- and, where it ends, its last frame after it
  pub delivered_at_end_lem : delivered_at_end i ks X ≡ plain_ended k (received_at_end i ks X)
  delivered_at_end_lem = through_stage plain_ended i ks k rest X e
