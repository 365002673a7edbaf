-- What the walk finds is what the calls then do: laws of `BlockKnown` and `FinishKnown`. Assumes nothing.
use Rattle.std.specs.Prelude.{◌≡◌, refl, Bool, true, false, ℕ, ◌-◌, ◌*◌, ◌/◌, ◌≤◌, ◌<◌, leb, Ok, Err}
use Rattle.std.proofs.Math.Path.{sym, ap}
use Rattle.std.proofs.Common.{◌∙◌, arith}
use mathlib.Core.List.{List, []}
use borrow.Author.Tests.{lt-ltb, le-leb}
use Rattle.std.proofs.Math.ListN.{length}
use Rattle.pcm.specs.declared.Error.{Error}
use Rattle.pcm.specs.declared.Error.TheVariants.{InvalidFormat, InvalidGeometry, TooLong}
use Rattle.pcm.specs.declared.PcmFormat.{PcmFormat}
use Rattle.pcm.specs.Frames.{frames_of}
use Rattle.pcm.specs.Refusals.{ask, Verdict}
use Rattle.pcm.specs.laws.Frames.{length_frames, frames_are_frames, length_bytes}
use Rattle.pcm.specs.laws.Refusals.{ask_yes}
use Rattle.pipeline.specs.declared.Pipeline.{Pipeline}
use Rattle.pipeline.specs.Reset.{format_leaving}
use Rattle.pipeline.specs.WritingBack.{stages_of}
use Rattle.answers.specs.Answers.{last_half, output_answer}
use Rattle.answers.specs.FinishAnswers.{finish_answer}
use Rattle.questions.specs.declared.Question.TheVariants.{Block, Finish}
use Rattle.questions.specs.Walk.{whole_frames, size_verdict, begun}
use Rattle.turns.specs.Turns.{halves}
use Rattle.block.specs.Chain.{chain_out}
use Rattle.block.specs.BlockCall.{legal, size_asked, block_verdict, block_clipped, output_bytes, shorter, BlockResult, accepted, concluded, block_call}
use Rattle.block.specs.laws.Beforehand.{frames_leaving}
use Rattle.block.specs.laws.Bounds.{legal_parts}
use Rattle.block.specs.laws.Walking.{begins, frames_are}
use Rattle.finish.specs.FinishCall.{FinishResult, chain_end, finish_verdict, finish_bytes, finish_clipped, finished, finish_concluded, finish_call}
use Rattle.finish.specs.laws.Beforehand.{frames_ending}
use Rattle.finish.specs.laws.Stepping.{start_frames}
use Rattle.room.specs.Beforehand.{Smallest, BlockKnown, FinishKnown, Sounding, frame_bytes, leaving_bytes}
use Rattle.room.specs.Room.{found, block_found, finish_found, frames_verdict, block_asked, finish_asked, room_answer, block_room, finish_room}
use Rattle.room.specs.laws.Asked.{size_frames}
use Rattle.room.proofs.laws.Enough.{known_parts, start_suited, block_smallest, finish_smallest}

-- ---- halves of at least so many bytes, or of just so many
both_long : (m : ℕ) (a b : List ℕ) → m ≤ length a → m ≤ length b → m ≤ shorter a b
both_long m a b h k = omega arith

both_of : (m : ℕ) (a b : List ℕ) → length a ≡ m → length b ≡ m → shorter a b ≡ m
both_of m a b h k = omega arith

-- ---- what is known of a block
module _ (c : Pipeline) (sound : Sounding c) (n frames half : ℕ) (known : block_room c n ≡ Ok (record { frames = frames; half = half })) where
  parts : (block_asked c n ≡ Ok tt) × (((block_found c n).frames ≡ frames) × ((block_found c n).largest ≡ half))
  unfolding block_room
  parts = known_parts (block_asked c n) (block_found c n) frames half known

  lawful : legal c ≡ true
  lawful = (ask_yes (legal c) InvalidFormat (frames_verdict n) parts.0).0

  sized : size_verdict c.format (n * frame_bytes c) ≡ Ok tt
  sized = size_frames c.format n (legal_parts c lawful).channels.0 ∙ (ask_yes (legal c) InvalidFormat (frames_verdict n) parts.0).1

  smallest : Smallest (block_verdict c c.format (n * frame_bytes c)) half
  smallest = rw parts.1.1 at (block_smallest c lawful sound.places (n * frame_bytes c) sized)

  module _ (bytes : List ℕ) (long : length bytes ≡ n * frame_bytes c) where
    arriving : (begun c.format c.count (n * frame_bytes c) 0).frames ≡ length (frames_of c.format.channels bytes)
    arriving = (begins c.format c.count (n * frame_bytes c) 0).frames ∙ frames_are c.format (n * frame_bytes c) sized ∙ ap (λ (k : ℕ). k / frame_bytes c) (sym long) ∙ sym (length_frames c.format.channels bytes)

    exact : length (chain_out (stages_of c) (frames_of c.format.channels bytes)) ≡ frames
    unfolding found
    exact =
        sym (frames_leaving 0 (begun c.format c.count (n * frame_bytes c) 0) (stages_of c) (frames_of c.format.channels bytes)
        (start_suited c lawful Block (n * frame_bytes c) 0) arriving)
        ∙ parts.1.0

    module _ (timestamp : ℕ) (a b : List ℕ) where
      by_verdict : (v : Verdict) → block_verdict c c.format (n * frame_bytes c) (shorter a b) ≡ v → block_call c c.format timestamp bytes a b ≡ concluded v c timestamp bytes (halves a b)
      unfolding block_call
      by_verdict v e = ap (λ (x : Verdict). concluded x c timestamp bytes (halves a b)) (ap (λ (k : ℕ). block_verdict c c.format k (shorter a b)) long ∙ e)

  pub block_known : BlockKnown c n frames half
  unfolding accepted
  block_known = record {
    exact = exact;
    smallest = smallest;
    delivers = λ timestamp bytes a b good long h k.
        let e : block_call c c.format timestamp bytes a b ≡ accepted c timestamp bytes (halves a b) = by_verdict bytes long timestamp a b (Ok tt) (smallest.enough (shorter a b) (both_long half a b h k)) in
        let l : output_bytes c bytes ≡ frames * leaving_bytes c =
        length_bytes (format_leaving c.format (stages_of c)).channels (chain_out (stages_of c) (frames_of c.format.channels bytes)) (sound.leaving _ (frames_are_frames c.format.channels bytes good))
        ∙ ap (λ (m : ℕ). m * leaving_bytes c) (exact bytes long) in
        (e, ap (λ (r : BlockResult). r.answer) e ∙ ap (λ (m : ℕ). Ok (output_answer (format_leaving c.format (stages_of c)) timestamp (last_half c.count) m (block_clipped c bytes))) l);
    refused = λ timestamp bytes a b long some h k.
        by_verdict bytes long timestamp a b _ (ap (block_verdict c c.format (n * frame_bytes c)) (both_of (half - 1) a b h k) ∙ smallest.one_less some);
  }

-- ---- and of a finish
module _ (c : Pipeline) (sound : Sounding c) (frames half : ℕ) (known : finish_room c ≡ Ok (record { frames = frames; half = half })) where
  finish_parts : (finish_asked c ≡ Ok tt) × (((finish_found c).frames ≡ frames) × ((finish_found c).largest ≡ half))
  unfolding finish_room
  finish_parts = known_parts (finish_asked c) (finish_found c) frames half known

  finish_lawful : legal c ≡ true
  finish_lawful = (ask_yes (legal c) InvalidFormat (Ok tt) finish_parts.0).0

  finish_least : Smallest (finish_verdict c) half
  finish_least = rw finish_parts.1.1 at (finish_smallest c finish_lawful)

  exact_end : length (chain_end c.format (stages_of c) []) ≡ frames
  unfolding found
  exact_end =
      ap (λ (f : PcmFormat). length (chain_end f (stages_of c) [])) (sym (begins c.format c.count 0 0).format)
      ∙ sym (frames_ending 0 (begun c.format c.count 0 0) (stages_of c) [] (start_suited c finish_lawful Finish 0 0) (start_frames c.format c.count 0))
      ∙ finish_parts.1.0

  module _ (a b : List ℕ) where
    finish_by_verdict : (v : Verdict) → finish_verdict c (shorter a b) ≡ v → finish_call c a b ≡ finish_concluded v c (halves a b)
    unfolding finish_call
    finish_by_verdict v e = ap (λ (x : Verdict). finish_concluded x c (halves a b)) e

  pub finish_known : FinishKnown c frames half
  unfolding finished
  finish_known = record {
    exact = exact_end;
    smallest = finish_least;
    delivers = λ a b h k.
        let e : finish_call c a b ≡ finished c (halves a b) = finish_by_verdict a b (Ok tt) (finish_least.enough (shorter a b) (both_long half a b h k)) in
        let l : finish_bytes c ≡ frames * leaving_bytes c =
        length_bytes (format_leaving c.format (stages_of c)).channels (chain_end c.format (stages_of c) []) sound.ending ∙ ap (λ (m : ℕ). m * leaving_bytes c) exact_end in
        (e, ap (λ (r : FinishResult). r.answer) e ∙ ap (λ (m : ℕ). Ok (finish_answer (format_leaving c.format (stages_of c)) (last_half c.count) m (finish_clipped c))) l);
    refused = λ a b some h k. finish_by_verdict a b _ (ap (finish_verdict c) (both_of (half - 1) a b h k) ∙ finish_least.one_less some);
  }

-- ---- what is refused beforehand
then_refused : (t u : Bool) (next : Verdict) (e : Error) → ask t InvalidGeometry (ask u TooLong (Ok tt)) ≡ Err e → ask t InvalidGeometry (ask u TooLong next) ≡ Err e
then_refused true true next e h = cc
then_refused true false next e h = h
then_refused false u next e h = h

answer_refused : (v : Verdict) (c : Pipeline) (n : ℕ) (e : Error) → room_answer v (block_found c n) ≡ Err e → v ≡ Err e
answer_refused (Ok _) c n e h = cc
answer_refused (Err x) c n e h = let k : x ≡ e = cc in ap Err k

-- whatever further questions follow those of the frames
pub refused_then : (c : Pipeline) (n : ℕ) (e : Error) → block_room c n ≡ Err e → (next : Verdict) → size_asked c (n * frame_bytes c) next ≡ Err e
unfolding block_room size_verdict
refused_then c n e known next = go (legal c) refl (answer_refused (block_asked c n) c n e known)
  where
    go : (t : Bool) → legal c ≡ t → ask t InvalidFormat (frames_verdict n) ≡ Err e
        → ask t InvalidFormat (ask (whole_frames c.format (n * frame_bytes c)) InvalidGeometry (ask (leb (n * frame_bytes c / frame_bytes c) 8192) TooLong next)) ≡ Err e
    go true k r = then_refused (whole_frames c.format (n * frame_bytes c)) (leb (n * frame_bytes c / frame_bytes c) 8192) next e (size_frames c.format n (legal_parts c k).channels.0 ∙ r)
    go false k r = r

-- ---- what is not
module _ (c : Pipeline) (lawful : legal c ≡ true) where
  pub block_answered : (n : ℕ) → 0 < n → n ≤ 8192 → block_room c n ≡ Ok (record { frames = (block_found c n).frames; half = (block_found c n).largest })
  unfolding block_room
  block_answered n some most = rw (lawful, lt-ltb 0 n some, le-leb n 8192 most)

  pub finish_answered : finish_room c ≡ Ok (record { frames = (finish_found c).frames; half = (finish_found c).largest })
  unfolding finish_room
  finish_answered = rw lawful
